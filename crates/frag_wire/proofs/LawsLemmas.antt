-- The laws of messages.
use Rattle.std.specs.Prelude.{ℕ, ◌≡◌, Bool, List, Result, Ok, Err}
use Rattle.std.proofs.Common.{sym, ◌∙◌}
use Rattle.schc_bits.specs.Bits.{octets}
use Rattle.schc_ids.specs.declared.faults.WireFault.{WireFault}
use Rattle.schc_ids.specs.declared.fragments.FragParams.{FragParams}
use Rattle.schc_ids.specs.declared.fragments.Side.{Side}
use Rattle.frag_wire.specs.declared.message.Message.{Message}
use Rattle.frag_wire.specs.Layouts.{placed, payload_in, with_padding}
use Rattle.frag_wire.specs.Spells.{Spells, IsWireFault, IsWritten, reading_in}
use Rattle.frag_wire.specs.Laws.{IsReading, IsReadBack}
use Rattle.frag_wire.proofs.ReadingLemmas.{reading-spelled, reading-refused}

abbrev read_ok : Message → Result Message WireFault
read_ok message = Ok message

abbrev read_err : WireFault → Result Message WireFault
read_err fault = Err fault

ok-same : (first second : Message) → read_ok first ≡ read_ok second → first ≡ second
ok-same first second e = cc

-- bytes are at most one message with one payload
pub spelled-once : (params : FragParams) (way : Side) (bytes : List ℕ) (first second : Message)
    (payload other : List Bool) → Spells params way first payload bytes
    → Spells params way second other bytes → (first ≡ second) × (payload ≡ other)
spelled-once params way bytes first second payload other h k =
    let a : (reading_in params.mode way bytes ≡ Ok first)
    × (payload ≡ payload_in first (octets bytes)) =
    reading-spelled params.mode way first payload bytes h in
    let b : (reading_in params.mode way bytes ≡ Ok second)
    × (other ≡ payload_in second (octets bytes)) =
    reading-spelled params.mode way second other bytes k in
    let same : first ≡ second = ok-same first second (sym a.0 ∙ b.0) in
    (same, rw (a.1, b.1, same))

-- for bytes that are a message there is no cause to refuse them
pub never-both : (params : FragParams) (way : Side) (bytes : List ℕ) (message : Message)
    (payload : List Bool) (fault : WireFault) → Spells params way message payload bytes
    → IsWireFault params way bytes fault → ⊥
never-both params way bytes message payload fault h k =
    let a : reading_in params.mode way bytes ≡ Ok message =
    (reading-spelled params.mode way message payload bytes h).0 in
    let b : reading_in params.mode way bytes ≡ Err fault =
    reading-refused params.mode way fault bytes k in
    let no : read_ok message ≡ read_err fault = sym a ∙ b in
    absurd cc

reading-is : (params : FragParams) (way : Side) (bytes : List ℕ)
    (reading : Result Message WireFault) → IsReading params way bytes reading
    → reading ≡ reading_in params.mode way bytes
reading-is params way bytes (Ok message) h =
    sym (reading-spelled params.mode way message (payload_in message (octets bytes)) bytes h).0
reading-is params way bytes (Err fault) h = sym (reading-refused params.mode way fault bytes h)

-- what was written is read as that message, with its payload and fewer than eight zero bits
pub read-back : (params : FragParams) (way : Side) (message : Message) (payload : List Bool)
    (bytes : List ℕ) (reading : Result Message WireFault)
    → IsWritten params way message payload bytes → IsReading params way bytes reading
    → IsReadBack params message payload bytes reading
read-back params way message payload bytes reading w r =
    let a : (reading_in params.mode way bytes ≡ Ok (placed params message))
    × (with_padding message payload w.padding ≡ payload_in (placed params message)
    (octets bytes)) =
    reading-spelled params.mode way (placed params message) (with_padding message payload w.padding)
    bytes w.spells
    in
    record {
      padding = w.padding;
      short = w.short;
      message_is = reading-is params way bytes reading r ∙ a.0;
      payload_is = sym a.1;
    }
