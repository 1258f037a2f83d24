-- What an answer to the session of an end is.
use Rattle.std.specs.Prelude.{ℕ, ◌≡◌, Bool, true, List, Option, Some}
use Rattle.std.proofs.Common.{refl, sym, ap, subst, ◌∙◌}
use Rattle.schc_ids.specs.declared.ends.EndParams.{EndParams}
use Rattle.schc_ids.specs.declared.ends.Role.{Role}
use Rattle.schc_ids.specs.declared.fragments.FragParams.{FragParams}
use Rattle.frag_wire.specs.declared.message.Message.{Message}
use Rattle.aoe_sender.specs.Steps.{IsAnswer}
use Rattle.lorawan_profile.specs.Ports.{sending_of}
use Rattle.sessions.specs.Holds.{AreRunning, IsRunning}
use Rattle.sessions.specs.Senders.{HasAnswer, sender_params}
use Rattle.sessions.specs.declared.moves.Running.{Running}
use Rattle.sessions.specs.declared.senders.Sender.{Sender}
use Rattle.sessions.specs.declared.senders.Sender.TheVariants.{NoAck, AckAlways, AckOnError}

answer-to : (sender : Sender) (params : FragParams) (message : Message)
    → sender_params sender ≡ params → IsAnswer params message → HasAnswer sender message
answer-to (NoAck s) params message e h = tt
answer-to (AckAlways s) params message e h = tt
answer-to (AckOnError s) params message e h = subst (λ p. IsAnswer p message) (sym e) h

-- the session of an end that sends with answers can be asked what any answer to that end means
pub has-answer : (role : Role) (params : EndParams) (running : Option Running) (session : Running)
    (left : Option ℕ) (message : Message) (other : Role) → params.acked ≡ true
    → running ≡ Some session → AreRunning role params running left → other ≡ role
    → IsAnswer (sending_of other true).1 message → HasAnswer session.sender message
has-answer role params running session left message other a r h o i =
    let was : IsRunning role params session left = subst (λ x. AreRunning role params x left) r h in
    let row = was.row ∙ ap (λ acked. (sending_of role acked).1) a
    ∙ ap (λ x. (sending_of x true).1) (sym o) in
    answer-to session.sender (sending_of other true).1 message row i
