-- RFC 8724, section 8.3: how the messages are written.
use Rattle.std.specs.Prelude.{ℕ, ◌+◌, ◌^◌, ◌<◌, Bool, true, false, List, [], ◌++◌, drop, replicate}
use Rattle.schc_bits.specs.Bits.{number_bits, padded, bytes_of}
use Rattle.schc_ids.specs.declared.fragments.FragParams.{FragParams}
use Rattle.frag_wire.specs.declared.message.Message.{Message}
use Rattle.frag_wire.specs.declared.message.Message.TheVariants as form
use Rattle.frag_wire.specs.Forms.{all_ones, fragment_head}
use Rattle.frag_wire.specs.Answers.{answer_head, kept_bits}

-- what stands before the payload, which an answer doesn't have
abbrev pub head : FragParams → Message → List Bool
head params (form.Regular w fcn from) = fragment_head params.w_bits params.fcn_bits w fcn
head params (form.All1 w rcs from) =
    fragment_head params.w_bits params.fcn_bits w (all_ones params.fcn_bits) ++ number_bits 32 rcs
head params (form.AckReq w) = fragment_head params.w_bits params.fcn_bits w 0
head params form.SenderAbort =
    fragment_head params.w_bits params.fcn_bits (all_ones params.w_bits) (all_ones params.fcn_bits)
head params (form.Ack w true bitmap) = answer_head params.w_bits w 1
head params (form.Ack w false bitmap) =
    answer_head params.w_bits w 0 ++ kept_bits (params.w_bits + 1)
    (number_bits params.window bitmap)
head params form.ReceiverAbort = number_bits 16 (all_ones 16)

-- the bytes that are written for the message with the payload: with the fewest zero bits after them
-- that make whole bytes
abbrev pub written : FragParams → Message → List Bool → List ℕ
written params message payload = bytes_of (padded (head params message ++ payload))

-- the message, with the place at which its payload begins
abbrev pub placed : FragParams → Message → Message
placed params (form.Regular w fcn from) = form.Regular w fcn (params.w_bits + params.fcn_bits)
placed params (form.All1 w rcs from) = form.All1 w rcs (params.w_bits + params.fcn_bits + 32)
placed params (form.Ack w c bitmap) = form.Ack w c bitmap
placed params (form.AckReq w) = form.AckReq w
placed params form.SenderAbort = form.SenderAbort
placed params form.ReceiverAbort = form.ReceiverAbort

-- the payload of a message, among all its bits
abbrev pub payload_in : Message → List Bool → List Bool
payload_in (form.Regular w fcn from) bits = drop from bits
payload_in (form.All1 w rcs from) bits = drop from bits
payload_in (form.Ack w c bitmap) bits = []
payload_in (form.AckReq w) bits = []
payload_in form.SenderAbort bits = []
payload_in form.ReceiverAbort bits = []

-- the payload with `count` zero bits after it, in a message that has a payload
abbrev pub with_padding : Message → List Bool → ℕ → List Bool
with_padding (form.Regular w fcn from) payload count = payload ++ replicate count false
with_padding (form.All1 w rcs from) payload count = payload ++ replicate count false
with_padding (form.Ack w c bitmap) payload count = []
with_padding (form.AckReq w) payload count = []
with_padding form.SenderAbort payload count = []
with_padding form.ReceiverAbort payload count = []

-- the numbers that stand before the payload fit in their widths
abbrev pub HeadFits : FragParams → Message → Type 0
HeadFits params (form.Regular w fcn from) = (w < 2 ^ params.w_bits) × (fcn < 2 ^ params.fcn_bits)
HeadFits params (form.All1 w rcs from) = (w < 2 ^ params.w_bits) × (rcs < 2 ^ 32)
HeadFits params (form.Ack w c bitmap) = (w < 2 ^ params.w_bits) × (bitmap < 2 ^ params.window)
HeadFits params (form.AckReq w) = w < 2 ^ params.w_bits
HeadFits params form.SenderAbort = Unit {0}
HeadFits params form.ReceiverAbort = Unit {0}
