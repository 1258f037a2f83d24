-- Where no end has a frame due, slots give nothing, and plain rounds change nothing.
use Rattle.std.proofs.Common.{◌≡◌, ℕ, zero, suc, ◌+◌, Option, Some, None, Result, Ok, refl, sym, ap}
use Rattle.std.proofs.Common.{subst, ◌∙◌}
use Rattle.std.proofs.lemmas.List.{append-nil}
use Rattle.schc_ids.specs.Ends.{sent_direction, other_role}
use Rattle.schc_ids.specs.PerRole.{PerRole, at_role}
use Rattle.schc_ids.specs.PerDirection.{at_direction}
use Rattle.schc_ids.specs.declared.ends.Role.{Role}
use Rattle.event_data.specs.Events.{Slot}
use Rattle.event_data.specs.declared.outcomes.Emitted.{Emitted}
use Rattle.event_data.specs.declared.outcomes.Line.{Line}
use Rattle.event_data.specs.declared.outcomes.StepFault.{StepFault}
use Rattle.event_data.specs.declared.outcomes.Line.TheVariants as line
use Rattle.end_core.specs.Data.{EndData}
use Rattle.end_core.specs.End.{turn, slot_from, slot_step}
use Rattle.end_core.specs.EndStep.{end_step}
use Rattle.two_ends.specs.Clean.{HasNothingDue, delivered, slot_delivered, plain_round}
use Rattle.two_ends.specs.Clean.{plain_rounds}
use Rattle.two_ends.specs.Happening.{Given, Answers, Goes, Opens, Carries, NoFrame, given_by, Gives}
use Rattle.two_ends.specs.History.{History, marks_given, begins_given, reports_given, queued_given}
use Rattle.two_ends.specs.History.{held_after, checks_after, joins_after, ups_after, downs_after}
use Rattle.two_ends.specs.History.{queued_after, sent_after, begins_after, reports_after}
use Rattle.two_ends.specs.History.{ticks_after, after, next}
use Rattle.two_ends.specs.World.{WorldData, frames_of, end_of, sent_after as frames_after, answered}
use Rattle.two_ends.specs.World.{end_event, step}
use Rattle.two_ends.proofs.GivenLemmas.{given_step, turn-gives}
use Rattle.two_ends.proofs.PerLemmas.{put_role-at_role, put_direction-at_direction}
use Rattle.two_ends.proofs.WorldLemmas.{given_world, slot-next}

-- what the end gives at its slot
abbrev pub gives_of : EndData → Given
gives_of end = given_by end (turn end)

-- neither end gives a frame at its slot
abbrev pub IsRested : PerRole EndData → Type 0
IsRested ends = (role : Role) → gives_of (at_role ends role) ≡ NoFrame

given-none : (end : EndData) (given : Given) → (given_step end given).1 ≡ None → given ≡ NoFrame
unfolding given_step
given-none end (Answers id reception bytes) e = absurd cc
given-none end (Goes id session bytes) e = absurd cc
given-none end (Opens id session form bytes) e = absurd cc
given-none end (Carries form) e = absurd cc
given-none end NoFrame e = refl

frame-none : (w : WorldData) (role : Role) (o : Option Emitted)
    → ◌≡◌ {A = Result Line StepFault}
    (Ok (line.Slot (frames_after (frames_of w (sent_direction role)) o).1)) (Ok (line.Slot None))
    → o ≡ None
unfolding frames_after
frame-none w role None e = refl
frame-none w role (Some emitted) e = absurd cc

-- so it is where neither end has a frame due
pub due-rested : (w : WorldData) → HasNothingDue w → IsRested w.ends
unfolding step end_event end_step answered slot_step
due-rested w due role =
    let end = end_of w role in
    given-none end (gives_of end)
    (ap (λ (s : EndData × Option Emitted). s.1) (turn-gives end (turn end))
    ∙ frame-none w role (slot_from end (turn end)).1 (due role))

-- and the other way round
slot-none : (w : WorldData) (role : Role) → gives_of (end_of w role) ≡ NoFrame
    → slot_step (end_of w role) ≡ (end_of w role, None)
unfolding slot_step given_step
slot-none w role e = sym (turn-gives (end_of w role) (turn (end_of w role)))
    ∙ ap (given_step (end_of w role)) e

-- where neither end gives a frame at its slot, neither has one due
pub rested-due : (w : WorldData) → IsRested w.ends → HasNothingDue w
unfolding step end_event end_step answered frames_after
rested-due w rested role =
    ap (λ (s : EndData × Option Emitted). Ok
    (line.Slot (frames_after (frames_of w (sent_direction role)) s.1).1))
    (slot-none w role (rested role))

-- one more event, by which nothing changed
abbrev pub still : History → History
still h = record h { place = h.place + 1 }

none-still : (h : History) (role : Role)
    → after h (given_world h.world role NoFrame) (Gives role NoFrame) ≡ still h
unfolding after given_world given_step frames_after held_after checks_after joins_after ups_after
    downs_after queued_after queued_given sent_after marks_given begins_after begins_given
    reports_after reports_given ticks_after
none-still h role =
    rw (
      put_role-at_role h.world.ends role,
      put_direction-at_direction h.world.frames
          (sent_direction role),
      append-nil (at_direction h.labels.sent (sent_direction role)),
      put_direction-at_direction h.labels.sent (sent_direction role),
      append-nil h.logs.begins,
      append-nil h.logs.reports,
    ) refl

-- a slot of an end that gives nothing is one more event, by which nothing changed
pub slot-still : (h : History) (role : Role) → gives_of (end_of h.world role) ≡ NoFrame
    → next h (Slot role) ≡ still h
slot-still h role e = slot-next h role
    ∙ ap (λ given. after h (given_world h.world role given) (Gives role given)) e
    ∙ none-still h role

-- a slot of an end that gives nothing
pub delivered-still : (h : History) (role : Role) → gives_of (end_of h.world role) ≡ NoFrame
    → slot_delivered h role ≡ still h
unfolding slot_delivered delivered step end_event end_step answered frames_after
delivered-still h role e =
    ap (λ (s : EndData × Option Emitted). delivered (next h (Slot role)) (sent_direction role)
    (Ok (line.Slot (frames_after (frames_of h.world (sent_direction role)) s.1).1)))
    (slot-none h.world role e) ∙ slot-still h role e

round-still : (h : History) (role : Role) → IsRested h.world.ends
    → plain_round h role ≡ still (still h)
unfolding plain_round
round-still h role rested =
    ap (λ g. slot_delivered g (other_role role)) (delivered-still h role (rested role))
    ∙ delivered-still (still h) (other_role role) (rested (other_role role))

-- plain rounds where nothing is due
pub rounds-still : (count : ℕ) (h : History) (role : Role) → IsRested h.world.ends
    → ((plain_rounds count h role).world ≡ h.world) × ((plain_rounds count h role).logs ≡ h.logs)
unfolding plain_rounds
rounds-still zero h role rested = (refl, refl)
rounds-still (suc count) h role rested =
    subst (λ g. ((plain_rounds count g role).world ≡ h.world)
    × ((plain_rounds count g role).logs ≡ h.logs)) (sym (round-still h role rested))
    (rounds-still count (still (still h)) role rested)
