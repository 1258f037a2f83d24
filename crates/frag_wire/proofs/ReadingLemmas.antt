-- Reading gives what the bytes spell, in each mode.
use Rattle.std.specs.Prelude.{ℕ, ◌≡◌, Bool, List, Result, Ok, Err, IfOk, IfErr}
use Rattle.std.proofs.Common.{sym, subst, ◌∙◌}
use Rattle.schc_bits.specs.Bits.{octets}
use Rattle.schc_ids.specs.declared.faults.WireFault.{WireFault}
use Rattle.schc_ids.specs.declared.fragments.FragMode.{FragMode}
use Rattle.schc_ids.specs.declared.fragments.FragMode.TheVariants as mode
use Rattle.schc_ids.specs.declared.fragments.Side.{Side}
use Rattle.schc_ids.specs.declared.fragments.Side.TheVariants as side
use Rattle.frag_wire.specs.declared.message.Message.{Message}
use Rattle.frag_wire.specs.Layouts.{payload_in}
use Rattle.frag_wire.specs.NoAck.{no_ack_reading}
use Rattle.frag_wire.specs.Spells.{HasSide, SpellsIn, IsFaultIn, reading_in}
use Rattle.std.proofs.Common.{arith}
use Rattle.frag_wire.specs.AckAlways.{ack_always_reading}
use Rattle.frag_wire.specs.AckOnError.{ack_on_error_reading}
use Rattle.frag_wire.specs.Answers.{answer_reading}
use Rattle.frag_wire.proofs.AckAlwaysLemmas.{MeetsAckAlways, ack_always-met, ack_always-spelled}
use Rattle.frag_wire.proofs.AckAlwaysLemmas.{ack_always-refused}
use Rattle.frag_wire.proofs.AckOnErrorLemmas.{MeetsAckOnError, ack_on_error-met}
use Rattle.frag_wire.proofs.AckOnErrorLemmas.{ack_on_error-spelled, ack_on_error-refused}
use Rattle.frag_wire.proofs.AnswersLemmas.{MeetsAnswer, answer-met, answer-spelled, answer-refused}
use Rattle.frag_wire.proofs.NoAckLemmas.{MeetsNoAck, no_ack-met, no_ack-spelled, no_ack-refused}

-- what a reading of the bytes says
abbrev pub Meets : FragMode → Side → List ℕ → Result Message WireFault → Type 0
Meets m way bytes (Ok message) = SpellsIn m way message (payload_in message (octets bytes)) bytes
Meets m way bytes (Err fault) = IsFaultIn m way bytes fault

no_ack-meets : (bytes : List ℕ) (read : Result Message WireFault) → MeetsNoAck bytes read
    → Meets mode.NoAck side.Fragments bytes read
no_ack-meets bytes (Ok message) h = h
no_ack-meets bytes (Err fault) h = h

ack_always-meets : (bytes : List ℕ) (read : Result Message WireFault) → MeetsAckAlways bytes read
    → Meets mode.AckAlways side.Fragments bytes read
ack_always-meets bytes (Ok message) h = h
ack_always-meets bytes (Err fault) h = h

ack_always-answers : (bytes : List ℕ) (read : Result Message WireFault)
    → MeetsAnswer 1 1 1 bytes read → Meets mode.AckAlways side.Answers bytes read
ack_always-answers bytes (Ok message) h = h
ack_always-answers bytes (Err fault) h = h

ack_on_error-meets : (bytes : List ℕ) (read : Result Message WireFault) → MeetsAckOnError bytes read
    → Meets mode.AckOnError side.Fragments bytes read
ack_on_error-meets bytes (Ok message) h = h
ack_on_error-meets bytes (Err fault) h = h

ack_on_error-answers : (bytes : List ℕ) (read : Result Message WireFault)
    → MeetsAnswer 2 63 9 bytes read → Meets mode.AckOnError side.Answers bytes read
ack_on_error-answers bytes (Ok message) h = h
ack_on_error-answers bytes (Err fault) h = h

pub reading-met : (m : FragMode) (way : Side) (bytes : List ℕ) → HasSide m way
    → Meets m way bytes (reading_in m way bytes)
reading-met mode.NoAck side.Fragments bytes h =
    no_ack-meets bytes (no_ack_reading bytes) (no_ack-met bytes)
reading-met mode.NoAck side.Answers bytes h = absurd h
reading-met mode.AckAlways side.Fragments bytes h =
    ack_always-meets bytes (ack_always_reading bytes) (ack_always-met bytes)
reading-met mode.AckAlways side.Answers bytes h =
    ack_always-answers bytes (answer_reading 1 1 1 bytes) (answer-met 1 1 1 bytes (omega arith))
reading-met mode.AckOnError side.Fragments bytes h =
    ack_on_error-meets bytes (ack_on_error_reading bytes) (ack_on_error-met bytes)
reading-met mode.AckOnError side.Answers bytes h =
    ack_on_error-answers bytes (answer_reading 2 63 9 bytes) (answer-met 2 63 9 bytes (omega arith))

-- bytes that are a message are read as it, and its payload is the one that stands in them
pub reading-spelled : (m : FragMode) (way : Side) (message : Message) (payload : List Bool)
    (bytes : List ℕ) → SpellsIn m way message payload bytes → (reading_in m way bytes ≡ Ok message)
    × (payload ≡ payload_in message (octets bytes))
reading-spelled mode.NoAck side.Fragments message payload bytes h =
    no_ack-spelled message payload bytes h
reading-spelled mode.NoAck side.Answers message payload bytes h = absurd h
reading-spelled mode.AckAlways side.Fragments message payload bytes h =
    ack_always-spelled message payload bytes h
reading-spelled mode.AckAlways side.Answers message payload bytes h =
    answer-spelled 1 1 1 message payload bytes (omega arith) h
reading-spelled mode.AckOnError side.Fragments message payload bytes h =
    ack_on_error-spelled message payload bytes h
reading-spelled mode.AckOnError side.Answers message payload bytes h =
    answer-spelled 2 63 9 message payload bytes (omega arith) h

-- bytes that are no message, for some cause, are refused for that cause
pub reading-refused : (m : FragMode) (way : Side) (fault : WireFault) (bytes : List ℕ)
    → IsFaultIn m way bytes fault → reading_in m way bytes ≡ Err fault
reading-refused mode.NoAck side.Fragments fault bytes h = no_ack-refused fault bytes h
reading-refused mode.NoAck side.Answers fault bytes h = absurd h
reading-refused mode.AckAlways side.Fragments fault bytes h = ack_always-refused fault bytes h
reading-refused mode.AckAlways side.Answers fault bytes h = answer-refused 1 1 1 fault bytes h
reading-refused mode.AckOnError side.Fragments fault bytes h = ack_on_error-refused fault bytes h
reading-refused mode.AckOnError side.Answers fault bytes h = answer-refused 2 63 9 fault bytes h

spells-of : (m : FragMode) (way : Side) (bytes : List ℕ) (read : Result Message WireFault)
    → Meets m way bytes read
    → IfOk read (λ message. SpellsIn m way message (payload_in message (octets bytes)) bytes)
spells-of m way bytes (Ok message) h = h
spells-of m way bytes (Err fault) h = tt

fault-of : (m : FragMode) (way : Side) (bytes : List ℕ) (read : Result Message WireFault)
    → Meets m way bytes read → IfErr read (λ fault. IsFaultIn m way bytes fault)
fault-of m way bytes (Ok message) h = tt
fault-of m way bytes (Err fault) h = h

-- where a message is read, in a mode that has messages of this side, the bytes are it
pub read-spells : (m : FragMode) (way : Side) (bytes : List ℕ) (read : Result Message WireFault)
    → HasSide m way → read ≡ reading_in m way bytes
    → IfOk read (λ message. SpellsIn m way message (payload_in message (octets bytes)) bytes)
read-spells m way bytes read h e =
    spells-of m way bytes read (subst (Meets m way bytes) (sym e) (reading-met m way bytes h))

-- where a fault is read, in a mode that has messages of this side, the bytes are no message for it
pub read-fault : (m : FragMode) (way : Side) (bytes : List ℕ) (read : Result Message WireFault)
    → HasSide m way → read ≡ reading_in m way bytes
    → IfErr read (λ fault. IsFaultIn m way bytes fault)
read-fault m way bytes read h e =
    fault-of m way bytes read (subst (Meets m way bytes) (sym e) (reading-met m way bytes h))

-- whatever message and payload the bytes are, the reading gives them
pub read-spelled : (m : FragMode) (way : Side) (bytes : List ℕ) (read : Result Message WireFault)
    → read ≡ reading_in m way bytes → (message : Message) (payload : List Bool)
    → SpellsIn m way message payload bytes → (read ≡ Ok message)
    × (payload ≡ payload_in message (octets bytes))
read-spelled m way bytes read e message payload h =
    let both : (reading_in m way bytes ≡ Ok message)
    × (payload ≡ payload_in message (octets bytes)) =
    reading-spelled m way message payload bytes h in
    (e ∙ both.0, both.1)

-- whatever the cause for which the bytes are no message, the reading gives it
pub read-refused : (m : FragMode) (way : Side) (bytes : List ℕ) (read : Result Message WireFault)
    → read ≡ reading_in m way bytes → (fault : WireFault) → IsFaultIn m way bytes fault
    → read ≡ Err fault
read-refused m way bytes read e fault h = e ∙ reading-refused m way fault bytes h
