-- RFC 8724, section 8.4.2: what the sender of the ACK-Always mode sends, with a W of one bit and an
-- FCN of one bit.
use Rattle.std.specs.Prelude.{ℕ, ◌≡◌, ◌^◌, ◌==◌, ◌<◌, ◌≤◌, Bool, if◌then◌else◌, List, [], length}
use Rattle.std.specs.Prelude.{nat_le, Result, Ok, Err}
use Rattle.schc_ids.specs.declared.faults.WireFault.{WireFault}
use Rattle.schc_ids.specs.declared.faults.WireFault.TheVariants.{Empty, TooShort, WrongForm}
use Rattle.frag_wire.specs.declared.message.Message.{Message}
use Rattle.frag_wire.specs.declared.message.Message.TheVariants as form
use Rattle.frag_wire.specs.Fields.{number_in}
use Rattle.frag_wire.specs.Forms.{IsRegular, IsAll1, IsAckReq, IsSenderAbort, BeginsWith}

-- the bytes are the message with the payload: a Regular has two bytes or more, an ACK REQ and a
-- Sender-Abort have one, an All-1 five or more
abbrev pub SpellsAckAlways : Message → List Bool → List ℕ → Type 0
SpellsAckAlways (form.Regular w fcn from) payload bytes = IsRegular 1 1 w fcn from payload bytes
    × (2 ≤ length bytes)
SpellsAckAlways (form.All1 w rcs from) payload bytes = IsAll1 1 1 w rcs from payload bytes
    × (5 ≤ length bytes)
SpellsAckAlways (form.Ack w c bitmap) payload bytes = ⊥
SpellsAckAlways (form.AckReq w) payload bytes = IsAckReq 1 1 w payload bytes × (length bytes ≡ 1)
SpellsAckAlways form.SenderAbort payload bytes = IsSenderAbort 1 1 payload bytes
    × (length bytes ≡ 1)
SpellsAckAlways form.ReceiverAbort payload bytes = ⊥

-- the bytes are no message, for this cause: an FCN of 1 with two to four bytes is too short, and
-- with one byte and a W of 0 it has no form
abbrev pub IsAckAlwaysFault : WireFault → List ℕ → Type 0
IsAckAlwaysFault Empty bytes = length bytes ≡ 0
IsAckAlwaysFault TooShort bytes = ((w : ℕ) × BeginsWith 1 1 w 1 bytes) × (2 ≤ length bytes)
    × (length bytes ≤ 4)
IsAckAlwaysFault WrongForm bytes = BeginsWith 1 1 0 1 bytes × (length bytes ≡ 1)

-- the same from the first byte on: what the bytes are
unfoldable pub ack_always_reading : List ℕ → Result Message WireFault
ack_always_reading bytes =
    if length bytes == 0 then Err Empty
    else if number_in 1 1 bytes == 0 then
    (if nat_le 2 (length bytes) then Ok (form.Regular (number_in 0 1 bytes) 0 2) else Ok
    (form.AckReq (number_in 0 1 bytes)))
    else if length bytes == 1
    then (if number_in 0 1 bytes == 0 then Err WrongForm else Ok form.SenderAbort)
    else if nat_le 5 (length bytes) then Ok
    (form.All1 (number_in 0 1 bytes) (number_in 2 32 bytes) 34)
    else Err TooShort

-- some bytes are the message with the payload and fewer than eight zero bits after it
abbrev pub CanSpellAckAlways : Message → List Bool → Type 0
CanSpellAckAlways (form.Regular w fcn from) payload = (w < 2) × (fcn ≡ 0) × (7 ≤ length payload)
CanSpellAckAlways (form.All1 w rcs from) payload = (w < 2) × (rcs < 2 ^ 32)
CanSpellAckAlways (form.Ack w c bitmap) payload = ⊥
CanSpellAckAlways (form.AckReq w) payload = (w < 2) × (payload ≡ [])
CanSpellAckAlways form.SenderAbort payload = payload ≡ []
CanSpellAckAlways form.ReceiverAbort payload = ⊥
