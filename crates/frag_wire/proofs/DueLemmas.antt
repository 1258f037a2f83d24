-- What senders of all modes say of the bytes that are due: the check in them, and when none are.
use Rattle.std.specs.Prelude.{ℕ, ◌≡◌, ◌⊎◌, Bool, List, Option, Some, None}
use Rattle.std.proofs.Common.{ap, inl, inr, sym}
use Rattle.schc_ids.specs.Fragments.{IsFragParams}
use Rattle.schc_ids.specs.declared.fragments.FragParams.{FragParams}
use Rattle.schc_ids.specs.declared.fragments.Side.TheVariants as side
use Rattle.schc_ids.specs.declared.phases.SenderPhase.{SenderPhase}
use Rattle.schc_ids.specs.declared.phases.SenderPhase.TheVariants as phase
use Rattle.frag_wire.specs.Layouts.{placed, written}
use Rattle.frag_wire.specs.Spells.{Spells, CanSpell}
use Rattle.frag_wire.specs.declared.message.Message.{Message}
use Rattle.frag_wire.specs.declared.message.Message.TheVariants as form
use Rattle.frag_wire.proofs.LawsLemmas.{spelled-once}
use Rattle.frag_wire.proofs.WrittenLemmas.{IsWritten-written}

-- a sender of which nothing is due: it waits for an answer, or is quiet
abbrev pub IsStill : SenderPhase → Type 0
IsStill at = (at ≡ phase.Waiting) ⊎ (at ≡ phase.Quiet)

-- a sender that sends neither waits nor is quiet
pub sending-moves : IsStill phase.Sending → ⊥
sending-moves (inl e) = cc
sending-moves (inr e) = cc

-- a sender that closes neither waits nor is quiet
pub closing-moves : IsStill phase.Closing → ⊥
closing-moves (inl e) = cc
closing-moves (inr e) = cc

-- the check that a message carries
abbrev pub check_in : Message → Option ℕ
check_in (form.All1 w rcs from) = Some rcs
check_in (form.Regular w fcn from) = None
check_in (form.Ack w c bitmap) = None
check_in (form.AckReq w) = None
check_in form.SenderAbort = None
check_in form.ReceiverAbort = None

-- bytes that were written for a message and are an All-1 carry the message's check
pub written-check : (params : FragParams) (message : Message) (payload other : List Bool)
    (bytes : List ℕ) (w rcs from : ℕ) → IsFragParams params
    → CanSpell params side.Fragments message payload →
    written params message payload ≡ bytes
    → Spells params side.Fragments (form.All1 w rcs from) other bytes
    → Some rcs ≡ check_in (placed params message)
written-check params message payload other bytes w rcs from row can e spells =
    let is = IsWritten-written params side.Fragments message payload bytes row can (sym e) in
    ap check_in
    (spelled-once params side.Fragments bytes (form.All1 w rcs from) (placed params message)
    other _ spells is.spells).0

-- bytes that are the same where they are due are the same
pub some-bytes : (first second : List ℕ) → Some first ≡ Some second → first ≡ second
some-bytes first second e = cc

-- checks that are the same where they are carried are the same
pub some-check : (first second : ℕ) → Some first ≡ Some second → first ≡ second
some-check first second e = cc

-- a message that carries a check isn't one that carries none
pub none-check : (rcs : ℕ) → ◌≡◌ {A = Option ℕ} (Some rcs) None → ⊥
none-check rcs e = cc
