-- RFC 8724, section 8.4.1: the messages of the No-ACK mode, without W and with an FCN of one bit.
use Rattle.std.specs.Prelude.{ℕ, ◌≡◌, ◌^◌, ◌==◌, ◌<◌, ◌≤◌, ◌⊎◌, Bool, if◌then◌else◌, List, []}
use Rattle.std.specs.Prelude.{length, nat_le, Result, Ok, Err}
use Rattle.schc_ids.specs.declared.faults.WireFault.{WireFault}
use Rattle.schc_ids.specs.declared.faults.WireFault.TheVariants.{Empty, TooShort, WrongForm}
use Rattle.frag_wire.specs.declared.message.Message.{Message}
use Rattle.frag_wire.specs.declared.message.Message.TheVariants as form
use Rattle.frag_wire.specs.Fields.{number_in}
use Rattle.frag_wire.specs.Forms.{IsRegular, IsAll1, IsSenderAbort, BeginsWith}

-- the bytes are the message with the payload: a Regular has two bytes or more, a Sender-Abort one,
-- an All-1 five or more
abbrev pub SpellsNoAck : Message → List Bool → List ℕ → Type 0
SpellsNoAck (form.Regular w fcn from) payload bytes = IsRegular 0 1 w fcn from payload bytes
    × (2 ≤ length bytes)
SpellsNoAck (form.All1 w rcs from) payload bytes = IsAll1 0 1 w rcs from payload bytes
    × (5 ≤ length bytes)
SpellsNoAck (form.Ack w c bitmap) payload bytes = ⊥
SpellsNoAck (form.AckReq w) payload bytes = ⊥
SpellsNoAck form.SenderAbort payload bytes = IsSenderAbort 0 1 payload bytes × (length bytes ≡ 1)
SpellsNoAck form.ReceiverAbort payload bytes = ⊥

-- the bytes are no message, for this cause: an FCN of 0 with one byte, and an FCN of 1 with two to
-- four, is too short
abbrev pub IsNoAckFault : WireFault → List ℕ → Type 0
IsNoAckFault Empty bytes = length bytes ≡ 0
IsNoAckFault TooShort bytes =
    (BeginsWith 0 1 0 0 bytes × (length bytes ≡ 1))
    ⊎ (BeginsWith 0 1 0 1 bytes × (2 ≤ length bytes) × (length bytes ≤ 4))
IsNoAckFault WrongForm bytes = ⊥

-- the same from the first byte on: what the bytes are
unfoldable pub no_ack_reading : List ℕ → Result Message WireFault
no_ack_reading bytes =
    if length bytes == 0 then Err Empty
    else if number_in 0 1 bytes == 0
    then (if nat_le 2 (length bytes) then Ok (form.Regular 0 0 1) else Err TooShort)
    else if length bytes == 1 then Ok form.SenderAbort
    else if nat_le 5 (length bytes) then Ok (form.All1 0 (number_in 1 32 bytes) 33)
    else Err TooShort

-- some bytes are the message with the payload and fewer than eight zero bits after it
abbrev pub CanSpellNoAck : Message → List Bool → Type 0
CanSpellNoAck (form.Regular w fcn from) payload = (w ≡ 0) × (fcn ≡ 0) × (8 ≤ length payload)
CanSpellNoAck (form.All1 w rcs from) payload = (w ≡ 0) × (rcs < 2 ^ 32)
CanSpellNoAck (form.Ack w c bitmap) payload = ⊥
CanSpellNoAck (form.AckReq w) payload = ⊥
CanSpellNoAck form.SenderAbort payload = payload ≡ []
CanSpellNoAck form.ReceiverAbort payload = ⊥
