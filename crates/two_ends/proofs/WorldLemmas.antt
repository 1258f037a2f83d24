-- What an event is in a world: of all events only a slot sends, and what a slot gives says the
-- world after it.
use Rattle.std.proofs.Common.{◌≡◌, ℕ, Bool, true, false, List, ◌++◌, map, Option, Some, None}
use Rattle.std.proofs.Common.{Result, Ok, Err, slice_get, refl, sym, ap, subst, ◌∙◌}
use Rattle.std.proofs.lemmas.List.{append-nil}
use Rattle.schc_ids.specs.Ends.{sent_direction}
use Rattle.schc_ids.specs.PerDirection.{PerDirection, at_direction, put_direction}
use Rattle.schc_ids.specs.declared.ends.Direction.{Direction}
use Rattle.schc_ids.specs.declared.ends.EndParams.{EndParams}
use Rattle.schc_ids.specs.declared.ends.Role.{Role}
use Rattle.schc_ids.specs.declared.ends.Role.TheVariants.{Device, Gateway}
use Rattle.rule_model.specs.declared.finding.Finding.{Finding}
use Rattle.editions.specs.Data.{EditionData}
use Rattle.publishing.specs.Published.{published}
use Rattle.event_data.specs.Records.{FrameData}
use Rattle.event_data.specs.Events.{Event, Down, Slot, Deliver, Tick, Abort, Publish, Offer, Allow}
use Rattle.event_data.specs.declared.events.Target.{Target}
use Rattle.event_data.specs.declared.events.Target.TheVariants as target
use Rattle.event_data.specs.declared.outcomes.Accepted.{Accepted}
use Rattle.event_data.specs.declared.outcomes.DownFault.{DownFault}
use Rattle.event_data.specs.declared.outcomes.Emitted.{Emitted}
use Rattle.end_core.specs.Data.{EndData}
use Rattle.end_core.specs.End.{turn, slot_step, down_step}
use Rattle.end_core.specs.Events as at_end
use Rattle.end_core.specs.EndStep.{end_step}
use Rattle.end_core.proofs.StepLemmas.{Does, end_step-does}
use Rattle.two_ends.specs.Happening.{Given, Answers, Goes, Opens, Carries, NoFrame, given_by}
use Rattle.two_ends.specs.Happening.{Happening, Nothing, Waits, Gives, Arrives, Fragment, Answer}
use Rattle.two_ends.specs.Happening.{Ticks, GivesUp, waits_if, message_comes, comes_if}
use Rattle.two_ends.specs.Happening.{happening_in}
use Rattle.two_ends.specs.History.{History, happening, queued_after, sent_after, begins_after}
use Rattle.two_ends.specs.History.{marks_given, start, after, next}
use Rattle.two_ends.specs.Keys.{Key, same_way}
use Rattle.lanes.specs.Lane.{Msg}
use Rattle.std.proofs.lemmas.List.{map-append}
use Rattle.schc_ids.specs.declared.ends.Direction.TheVariants as way
use Rattle.two_ends.proofs.PerLemmas.{both-put_direction}
use Rattle.two_ends.specs.Labels.{Mark, WholeFrame, MessageOf, marked_frame}
use Rattle.two_ends.specs.World.{WorldData, with_end, with_sent, end_of, taker, frames_of}
use Rattle.two_ends.specs.World.{last_edition, numbered, sent_after as frames_after, answered}
use Rattle.two_ends.specs.World.{end_event, deliver_step, tick_step, publish_step, offer_step, step}
use Rattle.two_ends.proofs.GivenLemmas.{given_step, turn-gives}

-- of the events of an end only a slot sends
abbrev SendsNothing : at_end.EndEvent → Type 0
SendsNothing at_end.Slot = ⊥
SendsNothing event = Unit {0}

does-frames : (h : History) (role : Role) (event : at_end.EndEvent) (this : EndData)
    (o : at_end.Outcome) → SendsNothing event → Does (end_of h.world role) event this o
    → (answered h.world role this o).0.frames ≡ h.world.frames
unfolding answered
does-frames h role _ _ _ other (Does.refuses packet fault) = refl
does-frames h role _ _ _ other (Does.accepts packet ipv6 short) = refl
does-frames h role _ _ _ other (Does.serves given e) = absurd other
does-frames h role _ _ _ other (Does.sends form e) = absurd other
does-frames h role _ _ _ other (Does.begins form e) = absurd other
does-frames h role _ _ _ other (Does.rests e) = absurd other
does-frames h role _ _ _ other (Does.takes_whole frame e) = refl
does-frames h role _ _ _ other (Does.takes_part frame e) = refl
does-frames h role _ _ _ other (Does.takes_none frame e) = refl
does-frames h role _ _ _ other (Does.ticks) = refl
does-frames h role _ _ _ other (Does.aborts) = refl
does-frames h role _ _ _ other (Does.declines edition answer) = refl
does-frames h role _ _ _ other (Does.adopts edition) = refl
does-frames h role _ _ _ other (Does.stays number) = refl
does-frames h role _ _ _ other (Does.writes number) = refl

end_event-frames : (h : History) (role : Role) (event : at_end.EndEvent) → SendsNothing event
    → (end_event h.world role event).0.frames ≡ h.world.frames
unfolding end_event
end_event-frames h role event other =
    let s = end_step (end_of h.world role) event in
    does-frames h role event s.0 s.1 other (end_step-does (end_of h.world role) event)

deliver-frames : (h : History) (direction : Direction) (number : ℕ) (o : Option FrameData)
    → (deliver_step h.world direction number o).0.frames ≡ h.world.frames
unfolding deliver_step
deliver-frames h direction number None = refl
deliver-frames h direction number (Some frame) =
    end_event-frames h (taker direction) (at_end.Take frame) tt

tick-frames : (h : History) (target : Target) → (tick_step h.world target).0.frames ≡ h.world.frames
unfolding tick_step
tick-frames h target.Device = end_event-frames h Device at_end.Tick tt
tick-frames h target.Gateway = end_event-frames h Gateway at_end.Tick tt
tick-frames h target.Both = refl

publish-frames : (h : History) (r : Result EditionData Finding)
    → (publish_step h.world r).0.frames ≡ h.world.frames
unfolding publish_step
publish-frames h (Err finding) = refl
publish-frames h (Ok edition) = refl

offer-frames : (h : History) (role : Role) (number : ℕ) (o : Option EditionData)
    → (offer_step h.world role number o).0.frames ≡ h.world.frames
unfolding offer_step
offer-frames h role number None = refl
offer-frames h role number (Some edition) = end_event-frames h role (at_end.Offer edition) tt

-- an event that isn't a slot
abbrev pub IsNoSlot : Event → Type 0
IsNoSlot (Slot role) = ⊥
IsNoSlot event = Unit {0}

pub event-frames : (h : History) (event : Event) → IsNoSlot event
    → (step h.world event).0.frames ≡ h.world.frames
unfolding step
event-frames h (Down role packet) n = end_event-frames h role (at_end.Down packet) tt
event-frames h (Slot role) n = absurd n
event-frames h (Deliver direction number) n =
    deliver-frames h direction number (numbered (frames_of h.world direction) number)
event-frames h (Tick target) n = tick-frames h target
event-frames h (Abort role) n = end_event-frames h role at_end.Abort tt
event-frames h (Publish raw) n = publish-frames h (published (last_edition h.world.chain) raw)
event-frames h (Offer role number) n = offer-frames h role number (slice_get h.world.chain number)
event-frames h (Allow role number) n = end_event-frames h role (at_end.Allow number) tt

-- What happens gives no frame.
abbrev pub GivesNothing : Happening → Type 0
GivesNothing (Gives role given) = ⊥
GivesNothing happening = Unit {0}

waits-nothing : (role : Role) (packet : List ℕ) (r : Result Accepted DownFault)
    → GivesNothing (waits_if role packet r)
unfolding waits_if
waits-nothing role packet (Ok accepted) = tt
waits-nothing role packet (Err fault) = tt

message-nothing : (key : Key) (m : Msg) (b : Bool) → GivesNothing (message_comes key m b)
unfolding message_comes
message-nothing key m true = tt
message-nothing key m false = tt

comes-nothing : (direction : Direction) (o : Option Mark) → GivesNothing (comes_if direction o)
unfolding comes_if
comes-nothing direction None = tt
comes-nothing direction (Some (WholeFrame place frame)) = tt
comes-nothing direction (Some (MessageOf key m)) =
    message-nothing key m (same_way direction key.way)

-- by an event that isn't a slot no frame is given
pub event-gives : (h : History) (event : Event) → IsNoSlot event → GivesNothing (happening h event)
unfolding happening_in
event-gives h (Down role packet) n =
    waits-nothing role packet (down_step (end_of h.world role) packet).1
event-gives h (Slot role) n = absurd n
event-gives h (Deliver direction number) n =
    comes-nothing direction (numbered (at_direction h.labels.sent direction) number)
event-gives h (Tick target) n = tt
event-gives h (Abort role) n = tt
event-gives h (Publish raw) n = tt
event-gives h (Offer role number) n = tt
event-gives h (Allow role number) n = tt

-- where no frame is given, the marks of the frames that were sent are as they were
pub sent-same : (h : History) (x : Happening) → GivesNothing x → sent_after h x ≡ h.labels.sent
unfolding sent_after
sent-same h Nothing n = refl
sent-same h (Waits role packet accepted) n = refl
sent-same h (Gives role given) n = absurd n
sent-same h (Arrives direction place frame) n = refl
sent-same h (Fragment key m) n = refl
sent-same h (Answer key m) n = refl
sent-same h (Ticks target) n = refl
sent-same h (GivesUp role id) n = refl

-- where no frame is given, no session begins
pub begins-same : (h : History) (x : Happening) → GivesNothing x → begins_after h x ≡ h.logs.begins
unfolding begins_after
begins-same h Nothing n = refl
begins-same h (Waits role packet accepted) n = refl
begins-same h (Gives role given) n = absurd n
begins-same h (Arrives direction place frame) n = refl
begins-same h (Fragment key m) n = refl
begins-same h (Answer key m) n = refl
begins-same h (Ticks target) n = refl
begins-same h (GivesUp role id) n = refl

-- What leaves the queues as they were.
abbrev pub LeavesQueues : Happening → Type 0
LeavesQueues (Gives role given) = ⊥
LeavesQueues (Waits role packet accepted) = ⊥
LeavesQueues happening = Unit {0}

-- where no packet is handed down and no frame is given, the same packets wait
pub queued-same : (h : History) (x : Happening) → LeavesQueues x
    → queued_after h x ≡ h.labels.queued
unfolding queued_after
queued-same h Nothing n = refl
queued-same h (Waits role packet accepted) n = absurd n
queued-same h (Gives role given) n = absurd n
queued-same h (Arrives direction place frame) n = refl
queued-same h (Fragment key m) n = refl
queued-same h (Answer key m) n = refl
queued-same h (Ticks target) n = refl
queued-same h (GivesUp role id) n = refl

message-leaves : (key : Key) (m : Msg) (b : Bool) → LeavesQueues (message_comes key m b)
unfolding message_comes
message-leaves key m true = tt
message-leaves key m false = tt

-- a frame that arrives, or isn't there, leaves the queues as they were
pub comes-leaves : (direction : Direction) (o : Option Mark) → LeavesQueues (comes_if direction o)
unfolding comes_if
comes-leaves direction None = tt
comes-leaves direction (Some (WholeFrame place frame)) = tt
comes-leaves direction (Some (MessageOf key m)) = message-leaves key m (same_way direction key.way)

-- A slot.

-- the world after an end gave this
unfoldable pub given_world : WorldData → Role → Given → WorldData
given_world w role given =
    let s : EndData × Option Emitted = given_step (end_of w role) given in
    with_sent (with_end w role s.0) role s.1

-- what the end gives at a slot now
abbrev pub gives_at : History → Role → Given
gives_at h role = given_by (end_of h.world role) (turn (end_of h.world role))

slot-world : (w : WorldData) (role : Role)
    → (step w (Slot role)).0 ≡ given_world w role (given_by (end_of w role) (turn (end_of w role)))
unfolding step end_event end_step slot_step answered given_world
slot-world w role =
    ap (λ (s : EndData × Option Emitted). with_sent (with_end w role s.0) role s.1)
    (sym (turn-gives (end_of w role) (turn (end_of w role))))

-- the history after a slot
pub slot-next : (h : History) (role : Role)
    → next h (Slot role) ≡ after h (given_world h.world role (gives_at h role))
    (Gives role (gives_at h role))
unfolding next happening_in
slot-next h role = ap (λ w. after h w (Gives role (gives_at h role))) (slot-world h.world role)

-- the frames that it marks
given-frames : (h : History) (role : Role) (frames : List FrameData) (given : Given)
    → (frames_after frames (given_step (end_of h.world role) given).1).0 ≡ frames ++ map
    marked_frame (marks_given h role given)
unfolding given_step marks_given frames_after
given-frames h role frames (Answers id reception bytes) = refl
given-frames h role frames (Goes id session bytes) = refl
given-frames h role frames (Opens id session form bytes) = refl
given-frames h role frames (Carries form) = refl
given-frames h role frames NoFrame = sym (append-nil frames)

-- Each frame is that of its mark.
abbrev pub FramesMarked : PerDirection (List FrameData) → PerDirection (List Mark) → Type 0
FramesMarked frames sent = (direction : Direction)
    → at_direction frames direction ≡ map marked_frame (at_direction sent direction)

pushed : (xs : PerDirection (List FrameData)) (ys : PerDirection (List Mark))
    (direction : Direction) (more : List Mark) → FramesMarked xs ys →
    FramesMarked (put_direction xs direction (at_direction xs direction ++ map marked_frame more))
    (put_direction ys direction (at_direction ys direction ++ more))
pushed xs ys direction more k =
    both-put_direction (λ d fs ms. fs ≡ map marked_frame ms) xs ys direction _ _
    (ap (λ fs. fs ++ map marked_frame more) (k direction)
    ∙ sym (map-append marked_frame (at_direction ys direction) more)) k

slot-marked : (h : History) (role : Role) (given : Given)
    → FramesMarked h.world.frames h.labels.sent
    → FramesMarked (given_world h.world role given).frames (sent_after h (Gives role given))
unfolding given_world sent_after
slot-marked h role given k =
    let direction = sent_direction role in
    subst (λ fs. FramesMarked (put_direction h.world.frames direction fs)
    (put_direction h.labels.sent direction
    (at_direction h.labels.sent direction ++ marks_given h role given)))
    (sym (given-frames h role (at_direction h.world.frames direction) given))
    (pushed h.world.frames h.labels.sent direction (marks_given h role given) k)

-- at the beginning each frame is that of its mark: none was sent
pub marked-start : (params : EndParams)
    → FramesMarked (start params).world.frames (start params).labels.sent
marked-start params way.Up = refl
marked-start params way.Down = refl

other-marked : (h : History) (event : Event) → IsNoSlot event
    → FramesMarked h.world.frames h.labels.sent
    → FramesMarked (next h event).world.frames (next h event).labels.sent
unfolding next after
other-marked h event n k =
    subst (λ fs. FramesMarked fs (sent_after h (happening h event))) (sym (event-frames h event n))
    (subst (FramesMarked h.world.frames)
    (sym (sent-same h (happening h event) (event-gives h event n))) k)

-- every event keeps that each frame is that of its mark
pub marked-step : (h : History) (event : Event) → FramesMarked h.world.frames h.labels.sent
    → FramesMarked (next h event).world.frames (next h event).labels.sent
unfolding after
marked-step h (Slot role) k =
    subst (λ (g : History). FramesMarked g.world.frames g.labels.sent) (sym (slot-next h role))
    (slot-marked h role (gives_at h role) k)
marked-step h (Down role packet) k = other-marked h (Down role packet) tt k
marked-step h (Deliver direction number) k = other-marked h (Deliver direction number) tt k
marked-step h (Tick target) k = other-marked h (Tick target) tt k
marked-step h (Abort role) k = other-marked h (Abort role) tt k
marked-step h (Publish raw) k = other-marked h (Publish raw) tt k
marked-step h (Offer role number) k = other-marked h (Offer role number) tt k
marked-step h (Allow role number) k = other-marked h (Allow role number) tt k
