-- What holds of all messages.
use Rattle.std.specs.Prelude.{ℕ, ◌≡◌, ◌+◌, ◌%◌, ◌<◌, ◌≤◌, ◌⊎◌, Bool, List, [], length, Result, Ok}
use Rattle.std.specs.Prelude.{Err}
use Rattle.schc_bits.specs.Bits.{octets}
use Rattle.schc_ids.specs.declared.faults.WireFault.{WireFault}
use Rattle.schc_ids.specs.declared.fragments.FragParams.{FragParams}
use Rattle.schc_ids.specs.declared.fragments.Side.{Side}
use Rattle.frag_wire.specs.declared.message.Message.{Message}
use Rattle.schc_ids.specs.Fragments.{IsFragParams}
use Rattle.frag_wire.specs.declared.message.Message.TheVariants as form
use Rattle.frag_wire.specs.Answers.{after_last_zero, kept_length}
use Rattle.frag_wire.specs.Layouts.{placed, payload_in, with_padding}
use Rattle.frag_wire.specs.Spells.{Spells, IsWireFault, CanSpell, IsWritten}

-- bytes are at most one message with one payload
abbrev pub SpelledOnce : Type 0
SpelledOnce =
    (params : FragParams) (way : Side) (bytes : List ℕ) (first second : Message)
    (payload other : List Bool) →
    Spells params way first payload bytes → Spells params way second other bytes → (first ≡ second)
    × (payload ≡ other)

-- bytes that are a message are not refused
abbrev pub NeverBoth : Type 0
NeverBoth =
    (params : FragParams) (way : Side) (bytes : List ℕ) (message : Message) (payload : List Bool)
    (fault : WireFault) →
    Spells params way message payload bytes → IsWireFault params way bytes fault → ⊥

-- what the bytes are read as: a message that they spell, or the cause for which they are none
abbrev pub IsReading : FragParams → Side → List ℕ → Result Message WireFault → Type 0
IsReading params way bytes (Ok message) =
    Spells params way message (payload_in message (octets bytes)) bytes
IsReading params way bytes (Err fault) = IsWireFault params way bytes fault

-- what was written is read again, and its payload is the one that was written, with fewer than
-- eight zero bits after it
pub record IsReadBack (params : FragParams) (message : Message) (payload : List Bool)
    (bytes : List ℕ) (reading : Result Message WireFault) : Type 0 where
  pub padding : ℕ
  pub short : padding < 8
  pub message_is : reading ≡ Ok (placed params message)
  pub payload_is : payload_in (placed params message) (octets bytes) ≡ with_padding message payload
      padding

abbrev pub ReadsBack : Type 0
ReadsBack =
    (params : FragParams) (way : Side) (message : Message) (payload : List Bool) (bytes : List ℕ)
    (reading : Result Message WireFault) →
    IsWritten params way message payload bytes → IsReading params way bytes reading
    → IsReadBack params message payload bytes reading

-- a payload that the message can carry: only fragments have one
abbrev pub IsPayloadOf : Message → List Bool → Type 0
IsPayloadOf (form.Regular w fcn from) payload = Unit {0}
IsPayloadOf (form.All1 w rcs from) payload = Unit {0}
IsPayloadOf (form.Ack w c bitmap) payload = payload ≡ []
IsPayloadOf (form.AckReq w) payload = payload ≡ []
IsPayloadOf form.SenderAbort payload = payload ≡ []
IsPayloadOf form.ReceiverAbort payload = payload ≡ []

-- what some bytes are, with fewer than eight zero bits after the payload, can be written
abbrev pub WritesAll : Type 0
WritesAll =
    (params : FragParams) (way : Side) (message : Message) (payload : List Bool) (padding : ℕ)
    (bytes : List ℕ) →
    IsFragParams params → padding < 8 → IsPayloadOf message payload →
    Spells params way (placed params message) (with_padding message payload padding) bytes
    → CanSpell params way message payload

-- RFC 8724, section 8.3.2.1: the least number of bits from the place after the last 0 bit on that
-- fills whole bytes or is all
pub record IsKeptLength (header : ℕ) (bitmap : List Bool) (kept : ℕ) : Type 0 where
  pub after_zero : header + after_last_zero bitmap ≤ kept
  pub boundary : (kept % 8 ≡ 0) ⊎ (kept ≡ header + length bitmap)
  pub least : (other : ℕ) → header + after_last_zero bitmap ≤ other → (other % 8 ≡ 0)
      ⊎ (other ≡ header + length bitmap) → kept ≤ other

abbrev pub KeepsLeast : Type 0
KeepsLeast = (header : ℕ) (bitmap : List Bool)
    → IsKeptLength header bitmap (kept_length header bitmap)
