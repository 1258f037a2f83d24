-- What is written of a fragment fits in a frame that has room for its header and its payload.
use Rattle.std.specs.Prelude.{ℕ, ◌≡◌, ◌+◌, ◌*◌, ◌≤◌, Bool, List, [], length}
use Rattle.std.proofs.Common.{arith, ◌∙◌}
use Rattle.std.proofs.lemmas.List.{length-append}
use Rattle.schc_bits.specs.Bits.{number_bits}
use Rattle.schc_bits.proofs.NumberBits.{length-number_bits}
use Rattle.schc_ids.specs.declared.fragments.FragParams.{FragParams}
use Rattle.frag_wire.specs.Forms.{all_ones, fragment_head}
use Rattle.frag_wire.specs.Layouts.{head, written}
use Rattle.frag_wire.specs.declared.message.Message.TheVariants as form
use Rattle.frag_wire.proofs.FormsLemmas.{length-fragment_head}
use Rattle.frag_wire.proofs.WrittenLemmas.{length-fragment, length-all1}

-- before the payload of an All-1 stand the bits of W and FCN, and the 32 bits of the RCS
pub length-all1-head : (params : FragParams) (w rcs from : ℕ)
    → length (head params (form.All1 w rcs from)) ≡ params.w_bits + params.fcn_bits + 32
length-all1-head params w rcs from =
    let front : List Bool =
    fragment_head params.w_bits params.fcn_bits w (all_ones params.fcn_bits) in
    length-append front (number_bits 32 rcs)
    ∙ omega (
      arith,
      length-fragment_head params.w_bits params.fcn_bits w (all_ones params.fcn_bits),
      length-number_bits 32 rcs,
    )

-- a Regular fits in a frame that has room for its payload and the bits of W and FCN
pub room-regular : (params : FragParams) (w fcn from mtu : ℕ) (payload : List Bool)
    → length payload + (params.w_bits + params.fcn_bits) ≤ 8 * mtu
    → length (written params (form.Regular w fcn from) payload) ≤ mtu
room-regular params w fcn from mtu payload h =
    omega (arith, length-fragment params.w_bits params.fcn_bits w fcn payload, h)

-- an All-1 fits in a frame that has room for its payload, the bits of W and FCN, and the RCS
pub room-all1 : (params : FragParams) (w rcs from mtu : ℕ) (payload : List Bool)
    → length payload + (params.w_bits + params.fcn_bits + 32) ≤ 8 * mtu
    → length (written params (form.All1 w rcs from) payload) ≤ mtu
room-all1 params w rcs from mtu payload h =
    omega (arith, length-all1 params.w_bits params.fcn_bits w rcs payload, h)

-- an ACK REQ fits in a frame that has room for W and FCN
pub room-request : (params : FragParams) (w mtu : ℕ) → params.w_bits + params.fcn_bits ≤ 8 * mtu
    → length (written params (form.AckReq w) []) ≤ mtu
room-request params w mtu h =
    omega (arith, length-fragment params.w_bits params.fcn_bits w 0 [], h)

-- a Sender-Abort fits in a frame that has room for W and FCN
pub room-abort : (params : FragParams) (mtu : ℕ) → params.w_bits + params.fcn_bits ≤ 8 * mtu
    → length (written params form.SenderAbort []) ≤ mtu
room-abort params mtu h =
    omega (
      arith,
      length-fragment params.w_bits params.fcn_bits (all_ones params.w_bits)
          (all_ones params.fcn_bits) [],
      h,
    )
