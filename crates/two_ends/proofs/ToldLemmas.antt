-- What a line tells of packets that are handed down and up, and of sessions that begin, is what the
-- logs gain.
use Rattle.std.proofs.Common.{◌≡◌, ℕ, true, false, Bool, List, [], ◌++◌, map, Option, Some}
use Rattle.std.proofs.Common.{None, option_map, Result, Ok, Err, refl, sym, ap, subst, ◌∙◌}
use Rattle.std.proofs.lemmas.List.{append-nil}
use Rattle.schc_ids.specs.Ends.{sent_direction, other_direction}
use Rattle.schc_ids.specs.PerDirection.{at_direction}
use Rattle.schc_ids.specs.declared.ends.Direction.{Direction}
use Rattle.schc_ids.specs.declared.ends.EndParams.{EndParams}
use Rattle.schc_ids.specs.declared.ends.Role.{Role}
use Rattle.event_data.specs.Records.{FrameData, HandUpData}
use Rattle.event_data.specs.Events.{Event, Down, Slot, Deliver, Tick, Abort, Publish, Offer, Allow}
use Rattle.event_data.specs.declared.outcomes.Accepted.{Accepted}
use Rattle.event_data.specs.declared.outcomes.DownFault.{DownFault}
use Rattle.event_data.specs.declared.outcomes.Emitted.{Emitted}
use Rattle.event_data.specs.declared.outcomes.Line.{Line}
use Rattle.event_data.specs.declared.outcomes.Line.TheVariants as line
use Rattle.event_data.specs.declared.outcomes.StepFault.{StepFault}
use Rattle.sessions.specs.Steps.{new_session}
use Rattle.lanes.specs.Lane.{Msg}
use Rattle.end_core.specs.Data.{EndData}
use Rattle.end_core.specs.End.{turn, slot_step, down_step, take_step}
use Rattle.end_core.specs.EndStep.{end_step}
use Rattle.two_ends.specs.Clean.{outcome}
use Rattle.two_ends.specs.Happening.{Given, Answers, Goes, Opens, Carries, NoFrame, Happening}
use Rattle.two_ends.specs.Happening.{Nothing, Waits, Gives, Arrives, Fragment, Answer, Ticks}
use Rattle.two_ends.specs.Happening.{GivesUp, waits_if, message_comes, comes_if, happening_in}
use Rattle.two_ends.specs.History.{History, happening, handed, downs_after, ups_after, begins_after}
use Rattle.two_ends.specs.History.{begins_given, after, next}
use Rattle.two_ends.specs.Keys.{Key, same_way}
use Rattle.two_ends.specs.Labels.{Label, Mark, WholeFrame, MessageOf, marked_frame}
use Rattle.two_ends.specs.Logs.{HandedUp, Began, up_entries}
use Rattle.two_ends.specs.Told.{told_downs, told_ups, without_label, Opening, opening_of}
use Rattle.two_ends.specs.Told.{told_begins}
use Rattle.two_ends.specs.World.{WorldData, end_of, taker, frames_of, numbered, hand_line}
use Rattle.two_ends.specs.World.{sent_after as frames_after, answered, end_event, deliver_step}
use Rattle.two_ends.specs.World.{step}
use Rattle.two_ends.proofs.GivenLemmas.{given_step, turn-gives, IsGiven}
use Rattle.two_ends.proofs.LaneSlots.{slotted}
use Rattle.two_ends.proofs.LaneSteps.{look-up, same-true, same-false}
use Rattle.two_ends.proofs.WorldLemmas.{IsNoSlot, FramesMarked, event-gives, begins-same, gives_at}
use Rattle.two_ends.proofs.WorldLemmas.{slot-next}

-- An event that hands nothing down.

abbrev HandsNothing : Happening → Type 0
HandsNothing (Waits role packet accepted) = ⊥
HandsNothing happening = Unit {0}

downs-same : (h : History) (x : Happening) → HandsNothing x → downs_after h x ≡ h.logs.downs ++ []
unfolding downs_after
downs-same h Nothing n = sym (append-nil h.logs.downs)
downs-same h (Waits role packet accepted) n = absurd n
downs-same h (Gives role given) n = sym (append-nil h.logs.downs)
downs-same h (Arrives direction place frame) n = sym (append-nil h.logs.downs)
downs-same h (Fragment key m) n = sym (append-nil h.logs.downs)
downs-same h (Answer key m) n = sym (append-nil h.logs.downs)
downs-same h (Ticks target) n = sym (append-nil h.logs.downs)
downs-same h (GivesUp role id) n = sym (append-nil h.logs.downs)

message-hands : (key : Key) (m : Msg) (b : Bool) → HandsNothing (message_comes key m b)
unfolding message_comes
message-hands key m true = tt
message-hands key m false = tt

comes-hands : (direction : Direction) (o : Option Mark) → HandsNothing (comes_if direction o)
unfolding comes_if
comes-hands direction None = tt
comes-hands direction (Some (WholeFrame place frame)) = tt
comes-hands direction (Some (MessageOf key m)) = message-hands key m (same_way direction key.way)

waits-told : (h : History) (role : Role) (packet : List ℕ) (r : Result Accepted DownFault)
    → downs_after h (waits_if role packet r) ≡ h.logs.downs ++ told_downs h.place
    (Down role packet) (Ok (hand_line r))
unfolding downs_after waits_if
waits-told h role packet (Ok accepted) = refl
waits-told h role packet (Err fault) = sym (append-nil h.logs.downs)

-- the log of packets that were handed down gains the one that the line tells, if it tells one
pub downs-told : (h : History) (event : Event)
    → (next h event).logs.downs ≡ h.logs.downs ++ told_downs h.place event (outcome h.world event)
unfolding next after step end_event end_step answered happening_in
downs-told h (Down role packet) =
    waits-told h role packet (down_step (end_of h.world role) packet).1
downs-told h (Slot role) = downs-same h (happening h (Slot role)) tt
downs-told h (Deliver direction number) =
    downs-same h (happening h (Deliver direction number))
    (comes-hands direction (numbered (at_direction h.labels.sent direction) number))
downs-told h (Tick target) = downs-same h (happening h (Tick target)) tt
downs-told h (Abort role) = downs-same h (happening h (Abort role)) tt
downs-told h (Publish raw) = downs-same h (happening h (Publish raw)) tt
downs-told h (Offer role number) = downs-same h (happening h (Offer role number)) tt
downs-told h (Allow role number) = downs-same h (happening h (Allow role number)) tt

-- Packets that are handed up.

-- what the log gains, and the line tells
pub record UpsTold (h new : History) (told : List HandedUp) : Type 0 where
  pub added : List HandedUp
  pub are : new.logs.ups ≡ h.logs.ups ++ added
  pub their_lines : map without_label added ≡ told

abbrev HandsUpNothing : Happening → Type 0
HandsUpNothing (Arrives direction place frame) = ⊥
HandsUpNothing (Fragment key m) = ⊥
HandsUpNothing (Answer key m) = ⊥
HandsUpNothing happening = Unit {0}

ups-same : (h : History) (world : WorldData) (x : Happening) → HandsUpNothing x
    → UpsTold h (after h world x) []
unfolding after ups_after
ups-same h world Nothing n =
    record { added = []; are = sym (append-nil h.logs.ups); their_lines = refl }
ups-same h world (Waits role packet accepted) n =
    record { added = []; are = sym (append-nil h.logs.ups); their_lines = refl }
ups-same h world (Gives role given) n =
    record { added = []; are = sym (append-nil h.logs.ups); their_lines = refl }
ups-same h world (Arrives direction place frame) n = absurd n
ups-same h world (Fragment key m) n = absurd n
ups-same h world (Answer key m) n = absurd n
ups-same h world (Ticks target) n =
    record { added = []; are = sym (append-nil h.logs.ups); their_lines = refl }
ups-same h world (GivesUp role id) n =
    record { added = []; are = sym (append-nil h.logs.ups); their_lines = refl }

waits-ups : (role : Role) (packet : List ℕ) (r : Result Accepted DownFault)
    → HandsUpNothing (waits_if role packet r)
unfolding waits_if
waits-ups role packet (Ok accepted) = tt
waits-ups role packet (Err fault) = tt

unlabelled : (place : ℕ) (direction : Direction) (up : Option HandUpData) (label : Option Label)
    → map without_label (up_entries place direction up label) ≡ up_entries place direction up None
unlabelled place direction None label = refl
unlabelled place direction (Some up) label = refl

-- what the line of a frame that came hands up
abbrev comes_up : History → Direction → FrameData → List HandedUp
comes_up h direction frame = handed h direction frame None

handed-told : (h : History) (direction from : Direction) (frame : FrameData) (label : Option Label)
    → direction ≡ from → map without_label (handed h from frame label) ≡ comes_up h direction frame
handed-told h direction from frame label e =
    unlabelled h.place from (take_step (end_of h.world (taker from)) frame).1.up label
    ∙ ap (λ d. comes_up h d frame) (sym e)

message-ups : (h : History) (world : WorldData) (direction : Direction) (key : Key) (m : Msg)
    (b : Bool) → same_way direction key.way ≡ b
    → UpsTold h (after h world (message_comes key m b))
    (comes_up h direction (marked_frame (MessageOf key m)))
unfolding after ups_after message_comes
message-ups h world direction key m true e =
    record {
      added = _;
      are = refl;
      their_lines =
          handed-told h direction key.way (marked_frame (MessageOf key m)) _
          (same-true direction key.way e);
    }
message-ups h world direction key m false e =
    record {
      added = _;
      are = refl;
      their_lines =
          handed-told h direction (other_direction key.way) (marked_frame (MessageOf key m)) _
          (same-false direction key.way e);
    }

whole-ups : (h : History) (world : WorldData) (direction : Direction) (place : ℕ)
    (frame : FrameData)
    → UpsTold h (after h world (Arrives direction place frame)) (comes_up h direction frame)
unfolding after ups_after
whole-ups h world direction place frame =
    record {
      added = _;
      are = refl;
      their_lines = handed-told h direction direction frame _ refl;
    }

deliver-ups : (h : History) (direction : Direction) (number : ℕ) (o : Option Mark) →
    let s = deliver_step h.world direction number (option_map marked_frame o) in
    UpsTold h (after h s.0 (comes_if direction o))
    (told_ups h.place (Deliver direction number) s.1)
unfolding deliver_step end_event end_step answered comes_if
deliver-ups h direction number None = ups-same h h.world Nothing tt
deliver-ups h direction number (Some (WholeFrame place frame)) =
    whole-ups h _ direction place frame
deliver-ups h direction number (Some (MessageOf key m)) =
    message-ups h _ direction key m (same_way direction key.way) refl

-- the log of packets that were handed up gains the one that the line tells, if it tells one
pub ups-told : (h : History) (event : Event) → FramesMarked h.world.frames h.labels.sent
    → UpsTold h (next h event) (told_ups h.place event (outcome h.world event))
unfolding next step happening_in
ups-told h (Down role packet) marked =
    ups-same h _ _ (waits-ups role packet (down_step (end_of h.world role) packet).1)
ups-told h (Slot role) marked = ups-same h _ (happening h (Slot role)) tt
ups-told h (Deliver direction number) marked =
    subst (λ o.
    let s = deliver_step h.world direction number o in
    UpsTold h
    (after h s.0 (comes_if direction (numbered (at_direction h.labels.sent direction) number)))
    (told_ups h.place (Deliver direction number) s.1))
    (sym (look-up h direction number marked))
    (deliver-ups h direction number (numbered (at_direction h.labels.sent direction) number))
ups-told h (Tick target) marked = ups-same h _ (happening h (Tick target)) tt
ups-told h (Abort role) marked = ups-same h _ (happening h (Abort role)) tt
ups-told h (Publish raw) marked = ups-same h _ (happening h (Publish raw)) tt
ups-told h (Offer role number) marked = ups-same h _ (happening h (Offer role number)) tt
ups-told h (Allow role number) marked = ups-same h _ (happening h (Allow role number)) tt

-- Sessions that begin.

-- what the log gains, and the line tells
pub record BeginsTold (h new : History) (told : List Opening) : Type 0 where
  pub added : List Began
  pub are : new.logs.begins ≡ h.logs.begins ++ added
  pub their_lines : map opening_of added ≡ told

-- the line of a slot
abbrev pub slot_line : History → Role → Option Emitted → Result Line StepFault
slot_line h role emitted =
    Ok (line.Slot (frames_after (frames_of h.world (sent_direction role)) emitted).1)

-- is that of what the end gives
pub slot-outcome : (h : History) (role : Role)
    → outcome h.world (Slot role) ≡ slot_line h role
    (given_step (end_of h.world role) (gives_at h role)).1
unfolding step end_event end_step slot_step answered
slot-outcome h role =
    ap (λ (s : EndData × Option Emitted). slot_line h role s.1)
    (sym (turn-gives (end_of h.world role) (turn (end_of h.world role))))

given-begins : (params : EndParams) (h : History) (world : WorldData) (role : Role) (given : Given)
    → IsGiven role params (end_of h.world role) given
    → BeginsTold h (after h world (Gives role given))
    (told_begins h.place (Slot role)
    (slot_line h role (given_step (end_of h.world role) given).1))
unfolding after begins_after begins_given given_step frames_after new_session
given-begins params h world role (Answers id reception bytes) is =
    record { added = []; are = refl; their_lines = refl }
given-begins params h world role (Goes id session bytes) is =
    record { added = []; are = refl; their_lines = refl }
given-begins params h world role (Opens id session form bytes) is =
    record { added = _; are = refl; their_lines = rw is.is_new refl }
given-begins params h world role (Carries form) is =
    record { added = []; are = refl; their_lines = refl }
given-begins params h world role NoFrame is =
    record { added = []; are = refl; their_lines = refl }

other-begins : (h : History) (world : WorldData) (event : Event) → IsNoSlot event
    → BeginsTold h (after h world (happening h event)) []
unfolding after
other-begins h world event n =
    record {
      added = [];
      are = begins-same h (happening h event) (event-gives h event n)
          ∙ sym (append-nil h.logs.begins);
      their_lines = refl;
    }

-- the log of sessions that began gains the one that the line tells, if it tells one
pub begins-told : (params : EndParams) (h : History) (event : Event)
    → ((role : Role) → IsGiven role params (end_of h.world role) (gives_at h role))
    → BeginsTold h (next h event) (told_begins h.place event (outcome h.world event))
unfolding next
begins-told params h (Slot role) is =
    subst (λ g. BeginsTold h g (told_begins h.place (Slot role) (outcome h.world (Slot role))))
    (sym (slot-next h role))
    (subst (λ o. BeginsTold h (slotted h role (gives_at h role))
    (told_begins h.place (Slot role) o)) (sym (slot-outcome h role))
    (given-begins params h _ role (gives_at h role) (is role)))
begins-told params h (Down role packet) is = other-begins h _ (Down role packet) tt
begins-told params h (Deliver direction number) is =
    other-begins h _ (Deliver direction number) tt
begins-told params h (Tick target) is = other-begins h _ (Tick target) tt
begins-told params h (Abort role) is = other-begins h _ (Abort role) tt
begins-told params h (Publish raw) is = other-begins h _ (Publish raw) tt
begins-told params h (Offer role number) is = other-begins h _ (Offer role number) tt
begins-told params h (Allow role number) is = other-begins h _ (Allow role number) tt
