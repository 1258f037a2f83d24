-- What a frame is read as.
use Rattle.std.specs.Prelude.{ℕ, ◌≡◌, true, List, Result, Ok, Err, IfOk, IfErr}
use Rattle.std.proofs.Common.{sym, subst}
use Rattle.schc_bits.specs.Bits.{octets}
use Rattle.schc_ids.specs.declared.faults.WireFault.{WireFault}
use Rattle.schc_ids.specs.declared.fragments.FragParams.{FragParams}
use Rattle.schc_ids.specs.declared.ends.Role.{Role}
use Rattle.schc_ids.specs.declared.fragments.Side.{Side}
use Rattle.schc_ids.specs.declared.fragments.Side.TheVariants as side
use Rattle.aoe_sender.specs.Steps.{IsAnswer}
use Rattle.lorawan_profile.specs.Ports.{sending_of}
use Rattle.frag_wire.specs.Layouts.{payload_in}
use Rattle.frag_wire.specs.Spells.{Spells, IsWireFault, reading_in}
use Rattle.frag_wire.specs.declared.message.Message.{Message}
use Rattle.frag_wire.proofs.ReadingLemmas.{reading-spelled, reading-refused}

-- a message that the bytes spell, or else a fault that they have, is what they are read as
pub read-is : (params : FragParams) (way : Side) (bytes : List ℕ) (read : Result Message WireFault)
    → IfOk read (λ message. Spells params way message (payload_in message (octets bytes)) bytes)
    → IfErr read (λ fault. IsWireFault params way bytes fault)
    → read ≡ reading_in params.mode way bytes
read-is params way bytes (Ok message) h k =
    sym (reading-spelled params.mode way message (payload_in message (octets bytes)) bytes h).0
read-is params way bytes (Err fault) h k = sym (reading-refused params.mode way fault bytes k)

-- what is read is an answer to what an end sends
pub is_answer : (role : Role) (params : FragParams) (bytes : List ℕ) (message : Message)
    (read : Result Message WireFault) → read ≡ Ok message
    → IfOk read
    (λ message. Spells params side.Answers message (payload_in message (octets bytes)) bytes)
    → (sending_of role true).1 ≡ params → IsAnswer (sending_of role true).1 message
is_answer role params bytes message read r h p =
    subst (λ p. IsAnswer p message) (sym p) (
      bytes,
      subst
          (λ read. IfOk read
          (λ message. Spells params side.Answers message (payload_in message (octets bytes)) bytes))
          r
          h,
    )
