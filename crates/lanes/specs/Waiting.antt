-- RFC 8724, section 8.2.2.4: a sender that waits for an answer.
use Rattle.std.specs.Prelude.{ℕ, ◌≡◌, ◌≤◌, Option, Some, None}
use Rattle.schc_ids.specs.Limits.{max_ack_requests}
use Rattle.schc_ids.specs.declared.phases.SenderPhase.TheVariants as phase
use Rattle.aa_sender.specs.declared.states.AaSenderState.{AaSenderState}
use Rattle.aa_sender.specs.declared.states.AaSenderState.TheVariants as aa
use Rattle.aoe_sender.specs.State as aoe
use Rattle.sessions.specs.Senders.{sender_phase, sender_due}
use Rattle.sessions.specs.Session.{Session}
use Rattle.sessions.specs.declared.senders.Sender.{Sender}
use Rattle.sessions.specs.declared.senders.Sender.TheVariants.{NoAck, AckAlways, AckOnError}

abbrev pub aa_attempts : AaSenderState → Option ℕ
aa_attempts (aa.Waiting i attempts) = Some attempts
aa_attempts (aa.Sending i ack_req attempts) = None
aa_attempts aa.Closing = None
aa_attempts aa.Quiet = None

abbrev pub aoe_attempts : aoe.AoeSenderState → Option ℕ
aoe_attempts (aoe.Waiting attempts) = Some attempts
aoe_attempts (aoe.Sending numbers attempts) = None
aoe_attempts aoe.Closing = None
aoe_attempts aoe.Quiet = None

-- how many requests a sender that waits has made since an answer counted
abbrev pub attempts_of : Sender → Option ℕ
attempts_of (NoAck s) = None
attempts_of (AckAlways s) = aa_attempts s.state
attempts_of (AckOnError s) = aoe_attempts s.state

-- it has nothing to send, and has made a request, and no more than may be made
pub record WaitsAfter (sender : Sender) : Type 0 where
  pub nothing : sender_due sender ≡ None
  pub attempts : ℕ
  pub counted : attempts_of sender ≡ Some attempts
  pub some : 1 ≤ attempts
  pub few : attempts ≤ max_ack_requests

abbrev pub IsWaitingWell : Option Session → Type 0
IsWaitingWell None = Unit {0}
IsWaitingWell (Some session) = sender_phase session.sender ≡ phase.Waiting
    → WaitsAfter session.sender
