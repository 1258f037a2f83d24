-- A world's step is the lane's steps, and a run of the world is a run of the lane.
use Rattle.std.proofs.Common.{◌≡◌, ℕ, zero, suc, ◌+◌, ◌<◌, Bool, true, false, List, [], ◌∷◌, length}
use Rattle.std.proofs.Common.{map, Option, Some, None, option_map, unwrap_or, Result, Ok, Err}
use Rattle.std.proofs.Common.{slice_get, refl, sym, ap, subst, ◌∙◌, inl, inr, arith}
use Rattle.std.specs.List.{AllByRecursion}
use Rattle.schc_bits.proofs.ListLemmas.{all-append, all-weaken}
use Rattle.schc_ids.specs.Ends.{other_direction}
use Rattle.schc_ids.specs.Limits.{IsMtu}
use Rattle.schc_ids.specs.PerDirection.{at_direction}
use Rattle.schc_ids.specs.PerRole.{PerRole, at_role}
use Rattle.schc_ids.specs.declared.ends.Direction.{Direction}
use Rattle.schc_ids.specs.declared.ends.Direction.TheVariants as way
use Rattle.schc_ids.specs.declared.ends.EndParams.{EndParams}
use Rattle.schc_ids.specs.declared.ends.Role.{Role}
use Rattle.rule_model.specs.declared.finding.Finding.{Finding}
use Rattle.editions.specs.Data.{EditionData}
use Rattle.publishing.specs.Published.{published}
use Rattle.event_data.specs.Records.{FrameData}
use Rattle.event_data.specs.Events.{Event, Down, Slot, Deliver, Tick, Abort, Publish, Offer, Allow}
use Rattle.event_data.specs.Events.{HandsBytes}
use Rattle.event_data.specs.declared.events.Target.{Target}
use Rattle.event_data.specs.declared.events.Target.TheVariants as target
use Rattle.event_data.specs.declared.outcomes.Accepted.{Accepted}
use Rattle.event_data.specs.declared.outcomes.DownFault.{DownFault}
use Rattle.tiles_bitmap.specs.Places.{Among}
use Rattle.sessions.specs.Data.{in_key, new_reception as new_receptions, receptions}
use Rattle.sessions.specs.Keys as at_keys
use Rattle.sessions.specs.Keys.{SessionKey}
use Rattle.sessions.specs.Reception.{Reception}
use Rattle.sessions.proofs.KeyLemmas.{same_key_true}
use Rattle.lorawan_profile.specs.Ports.{fragments_by}
use Rattle.two_ends.proofs.PortLemmas.{mode-params}
use Rattle.two_ends.specs.Logs.{begins_of}
use Rattle.sessions.specs.Keys.{found}
use Rattle.sessions.specs.Steps.{aborted_from, abort_step as sessions_abort}
use Rattle.sessions.specs.declared.receivers.Receiver.{Receiver}
use Rattle.schc_ids.specs.declared.faults.WireFault.{WireFault}
use Rattle.frag_wire.specs.declared.message.Message.{Message}
use Rattle.lorawan_profile.specs.Ports.{meaning_of}
use Rattle.lorawan_profile.specs.declared.ports.PortMeaning.TheVariants.{Whole}
use Rattle.std.specs.Prelude.{IsSomeAnd}
use Rattle.lanes.specs.Events.{LaneEvent, Possible}
use Rattle.lanes.specs.Lane.{Lane, Msg, Check, new_lane}
use Rattle.lanes.specs.Step.{checks_of, lane_step}
use Rattle.lanes.specs.Runs.{lane_steps, lane_run as run_lane, timed, Along, AlongRun, ArePossible}
use Rattle.lanes.specs.Runs.{lane_after}
use Rattle.lanes.proofs.RunLemmas.{run-append, along-append}
use Rattle.end_core.specs.Data.{EndData}
use Rattle.end_core.specs.End.{with_sessions, form_of, refusal, down_from, down_step, take_from}
use Rattle.end_core.specs.End.{take_step, tick_step as end_tick, abort_step as end_abort}
use Rattle.end_core.specs.Events as at_end
use Rattle.end_core.specs.EndStep.{end_step}
use Rattle.end_core.proofs.StepLemmas.{Does, end_step-does}
use Rattle.two_ends.specs.Happening.{Happening, Nothing, Waits, Gives, Arrives, Fragment, Answer}
use Rattle.two_ends.specs.Happening.{Ticks, GivesUp, own_key, waits_if, message_comes, comes_if}
use Rattle.two_ends.specs.Happening.{happening_in}
use Rattle.two_ends.specs.History.{History, happening, sender_at, reception_at, new_reception}
use Rattle.two_ends.specs.History.{joins_after, came, came_read, came_as, start, after, next, run}
use Rattle.two_ends.specs.Keys.{Key, Keyed, same_way, of_key, keyed, mode_of, lane_params}
use Rattle.two_ends.specs.Labels.{Mark, WholeFrame, MessageOf, marked_frame, Held, held_by}
use Rattle.two_ends.specs.Labels.{nothing_held}
use Rattle.two_ends.specs.Logs.{HandedDown}
use Rattle.two_ends.specs.Lanes.{messages, lane_of, events_of, lane_events, lane_run, IsStepped}
use Rattle.two_ends.specs.World.{WorldData, end_of, with_end, sender, taker, frames_of}
use Rattle.two_ends.specs.World.{last_edition, numbered, answered, end_event, deliver_step}
use Rattle.two_ends.specs.World.{tick_step, publish_step, offer_step, step}
use Rattle.two_ends.proofs.ChainKept.{ChainKept}
use Rattle.two_ends.proofs.EndsKept.{EndsKept}
use Rattle.two_ends.proofs.GivenLemmas.{given-is}
use Rattle.two_ends.proofs.KeyLemmas.{among-messages}
use Rattle.two_ends.proofs.LaneSlots.{slotted, slot-makes}
use Rattle.two_ends.proofs.LaneTakes.{Makes, fragment-makes, answer-makes}
use Rattle.two_ends.proofs.LaneTicks.{given_up, abort-makes, device-makes, gateway-makes}
use Rattle.two_ends.proofs.LaneTicks.{both-makes, IsApart, SameSessions, apart-makes, own-same}
use Rattle.two_ends.proofs.MarksKept.{IsFrameOf, IsLinkKey, IsMarked, IsBegun, MarksKept}
use Rattle.two_ends.proofs.PerLemmas.{each-put_role}
use Rattle.two_ends.proofs.QueuesKept.{QueuesKept}
use Rattle.two_ends.proofs.ReachLemmas.{fragment-step, answer-step}
use Rattle.two_ends.proofs.SessionsKept.{own-key}
use Rattle.two_ends.proofs.GrownLemmas.{answered-ends}
use Rattle.two_ends.proofs.UpsKept.{marked-at, form-whole}
use Rattle.two_ends.proofs.WorldLemmas.{FramesMarked, slot-next, gives_at}

-- each check that passed did so before now
abbrev pub JoinsPast : History → Type 0
JoinsPast h = AllByRecursion (λ (j : Keyed Check). j.it.time < h.place) h.logs.joins

-- what every event keeps of a world, as far as its lanes need it
pub record WorldKeeps (params : EndParams) (h : History) : Type 0 where
  pub chain : ChainKept h.world.chain
  pub ends : EndsKept params h.world
  pub queues : QueuesKept params.iids h
  pub marks : MarksKept params.iids h
  pub frames : FramesMarked h.world.frames h.labels.sent
  pub joins : JoinsPast h
  pub mtu : IsMtu params.mtu

-- Each check that passed did so before now.

times-of : (time : ℕ) (key : Key) (checks : List Check) → AllByRecursion (λ c. c.time ≡ time) checks
    → AllByRecursion (λ (j : Keyed Check). j.it.time < time + 1) (keyed key checks)
times-of time key [] all = tt
times-of time key (c ∷ checks) all =
    (let e = all.0 in omega (arith, e), times-of time key checks all.1)

checks-times : (time : ℕ) (session : Option ℕ) (made : Option (List Bool))
    → AllByRecursion (λ c. c.time ≡ time) (checks_of time session made)
unfolding checks_of
checks-times time session None = tt
checks-times time session (Some assembly) = (refl, tt)

came-times : (time : ℕ) (held : Held) (receiver : Receiver) (m : Msg)
    (reading : Result Message WireFault)
    → AllByRecursion (λ c. c.time ≡ time) (came_read time held receiver m reading).joins
unfolding came_read came_as
came-times time held receiver m (Err fault) = tt
came-times time held receiver m (Ok message) = checks-times time _ _

past-later : (h : History) → JoinsPast h
    → AllByRecursion (λ (j : Keyed Check). j.it.time < h.place + 1) h.logs.joins
past-later h k =
    all-weaken (λ (j : Keyed Check). j.it.time < h.place)
    (λ (j : Keyed Check). j.it.time < h.place + 1) h.logs.joins (λ j e. omega (arith, e)) k

joins-past : (h : History) (x : Happening) → JoinsPast h
    → AllByRecursion (λ (j : Keyed Check). j.it.time < h.place + 1) (joins_after h x)
unfolding joins_after
joins-past h Nothing k = past-later h k
joins-past h (Waits role packet accepted) k = past-later h k
joins-past h (Gives role given) k = past-later h k
joins-past h (Arrives direction place frame) k = past-later h k
joins-past h (Fragment key m) k =
    all-append (λ (j : Keyed Check). j.it.time < h.place + 1) h.logs.joins
    (keyed key (came h key m).joins) (past-later h k)
    (times-of h.place key (came h key m).joins (came-times h.place _ _ m _))
joins-past h (Answer key m) k = past-later h k
joins-past h (Ticks target) k = past-later h k
joins-past h (GivesUp role id) k = past-later h k

-- after each event too, each check that passed did so before then
pub joins-step : (h : History) (event : Event) → JoinsPast h → JoinsPast (next h event)
unfolding next after
joins-step h event k = joins-past h (happening h event) k

-- Events that leave the sessions as they are.

answered-sessions : (w : WorldData) (role : Role) (this : EndData) (o : at_end.Outcome)
    → this.sessions ≡ (end_of w role).sessions → SameSessions w (answered w role this o).0
answered-sessions w role this o e =
    λ other. ap (λ (es : PerRole EndData). (at_role es other).sessions)
    (answered-ends w role this o)
    ∙ each-put_role (λ r (end : EndData). end.sessions ≡ (end_of w r).sessions) w.ends role this e
    (λ r. refl) other

down-sessions : (end : EndData) (packet : List ℕ) (o : Option DownFault)
    → (down_from end (form_of end packet) o).0.sessions ≡ end.sessions
unfolding down_from
down-sessions end packet None = refl
down-sessions end packet (Some fault) = refl

offer-sessions : (end : EndData) (edition : EditionData)
    → (end_step end (at_end.Offer edition)).0.sessions ≡ end.sessions
offer-sessions end edition = does end _ _ (end_step-does end (at_end.Offer edition))
  where
    does : (end this : EndData) (o : at_end.Outcome) → Does end (at_end.Offer edition) this o
        → this.sessions ≡ end.sessions
    does end _ _ (Does.declines _ answer) = refl
    does end _ _ (Does.adopts _) = refl

allow-sessions : (end : EndData) (number : ℕ)
    → (end_step end (at_end.Allow number)).0.sessions ≡ end.sessions
allow-sessions end number = does end _ _ (end_step-does end (at_end.Allow number))
  where
    does : (end this : EndData) (o : at_end.Outcome) → Does end (at_end.Allow number) this o
        → this.sessions ≡ end.sessions
    does end _ _ (Does.stays _) = refl
    does end _ _ (Does.writes _) = refl

waits-apart : (role : Role) (packet : List ℕ) (r : Result Accepted DownFault)
    → IsApart (waits_if role packet r)
unfolding waits_if
waits-apart role packet (Ok accepted) = tt
waits-apart role packet (Err fault) = tt

publish-sessions : (w : WorldData) (r : Result EditionData Finding)
    → SameSessions w (publish_step w r).0
unfolding publish_step
publish-sessions w (Ok edition) = λ role. refl
publish-sessions w (Err finding) = λ role. refl

offered-sessions : (w : WorldData) (role : Role) (number : ℕ) (o : Option EditionData)
    → SameSessions w (offer_step w role number o).0
unfolding offer_step end_event
offered-sessions w role number None = λ role. refl
offered-sessions w role number (Some edition) =
    answered-sessions w role _ _ (offer-sessions (end_of w role) edition)

-- A frame that arrives.

-- a frame that comes by a port of whole packets leaves the end that takes it as it was
pub whole-sessions : (end : EndData) (frame : FrameData) → meaning_of end.role frame.port ≡ Whole
    → (take_step end frame).0 ≡ end
unfolding take_step take_from
whole-sessions end frame e = rw e refl

-- a frame that carries a whole packet comes by a port of whole packets
pub whole-port : (params : EndParams) (h : History) (direction : Direction) (place : ℕ)
    (frame : FrameData) → ChainKept h.world.chain → EndsKept params h.world
    → IsMarked params.iids h direction (WholeFrame place frame)
    → meaning_of (end_of h.world (taker direction)).role frame.port ≡ Whole
whole-port params h direction place frame chain ends marked =
    led (slice_get h.logs.downs place) marked
  where
    led : (o : Option HandedDown) → IsSomeAnd o (IsFrameOf params.iids h direction frame)
        → meaning_of (end_of h.world (taker direction)).role frame.port ≡ Whole
    led None f = absurd f
    led (Some w) f =
        ap (λ g. meaning_of (end_of h.world (taker direction)).role g.port) f.is_frame
        ∙ form-whole params.iids h direction (end_of h.world (taker direction)).role f.form w
        chain f.carries

-- the item with a number
map-place : {A B : Type 0} (f : A → B) (xs : List A) (k : ℕ)
    → slice_get (map f xs) k ≡ option_map f (slice_get xs k)
map-place f [] k = refl
map-place f (x ∷ xs) zero = refl
map-place f (x ∷ xs) (suc k) = map-place f xs k

numbered-map : {A B : Type 0} (f : A → B) (xs : List A) (number : ℕ)
    → numbered (map f xs) number ≡ option_map f (numbered xs number)
numbered-map f xs zero = refl
numbered-map f xs (suc k) = map-place f xs k

among-place : {A : Type 0} (xs : List A) (k : ℕ) (x : A) → slice_get xs k ≡ Some x → Among x xs
among-place [] k x e = absurd cc
among-place (y ∷ xs) zero x e = inl cc
among-place (y ∷ xs) (suc k) x e = inr (among-place xs k x e)

among-numbered : {A : Type 0} (xs : List A) (number : ℕ) (x : A) → numbered xs number ≡ Some x
    → Among x xs
among-numbered xs zero x e = absurd cc
among-numbered xs (suc k) x e = among-place xs k x e

-- directions that are told to be the same are the same
pub same-true : (a b : Direction) → same_way a b ≡ true → a ≡ b
same-true way.Up way.Up e = refl
same-true way.Up way.Down e = absurd cc
same-true way.Down way.Up e = absurd cc
same-true way.Down way.Down e = refl

-- and others are opposite
pub same-false : (a b : Direction) → same_way a b ≡ false → a ≡ other_direction b
same-false way.Up way.Up e = absurd cc
same-false way.Up way.Down e = refl
same-false way.Down way.Up e = refl
same-false way.Down way.Down e = absurd cc

-- the end that takes what goes the other way is the one that sends
pub other-taker : (w : Direction) → taker (other_direction w) ≡ sender w
other-taker way.Up = refl
other-taker way.Down = refl

-- the world after a frame came
abbrev pub came_world : WorldData → Direction → FrameData → WorldData
came_world w direction frame =
    with_end w (taker direction) (take_step (end_of w (taker direction)) frame).0

begun-times : (params : EndParams) (h : History) → WorldKeeps params h
    → AllByRecursion (λ b. b.it.time < h.place) h.logs.begins
begun-times params h k =
    all-weaken (IsBegun params.iids h) (λ b. b.it.time < h.place) h.logs.begins (λ b is. is.past)
    k.marks.begins.each

fragment-comes : (params : EndParams) (key own : Key) (h : History) (m : Msg)
    (direction : Direction) (n : ℕ) → WorldKeeps params h → direction ≡ own.way → IsLinkKey own
    → Among (MessageOf own m) (at_direction h.labels.sent direction) →
    Makes params key h
    (after h (came_world h.world direction (marked_frame (MessageOf own m))) (Fragment own m))
    (events_of key n (Fragment own m))
fragment-comes params key own h m direction n k e link there =
    let end = end_of h.world (taker own.way) in
    let ends = k.ends (taker own.way) in
    subst (λ w. Makes params key h (after h w (Fragment own m)) (events_of key n (Fragment own m)))
    (sym (ap (λ d. came_world h.world d (marked_frame (MessageOf own m))) e
    ∙ ap (with_end h.world (taker own.way))
    (fragment-step end own m link ends.its_role ends.sessions.its_role)))
    (fragment-makes params key own h m n k.ends link
    (among-messages own (at_direction h.labels.sent own.way) m
    (subst (λ d. Among (MessageOf own m) (at_direction h.labels.sent d)) e there))
    (begun-times params h k))

answer-comes : (params : EndParams) (key own : Key) (h : History) (m : Msg) (direction : Direction)
    (n : ℕ) → WorldKeeps params h → direction ≡ other_direction own.way → IsLinkKey own
    → Among (MessageOf own m) (at_direction h.labels.sent direction) →
    Makes params key h
    (after h (came_world h.world direction (marked_frame (MessageOf own m))) (Answer own m))
    (events_of key n (Answer own m))
answer-comes params key own h m direction n k e link there =
    let end = end_of h.world (sender own.way) in
    let ends = k.ends (sender own.way) in
    subst (λ w. Makes params key h (after h w (Answer own m)) (events_of key n (Answer own m)))
    (sym (ap
    (λ r. with_end h.world r (take_step (end_of h.world r) (marked_frame (MessageOf own m))).0)
    (ap taker e ∙ other-taker own.way)
    ∙ ap (with_end h.world (sender own.way))
    (answer-step end own m link ends.its_role ends.sessions.its_role)))
    (answer-makes params key own h m n k.ends
    (among-messages own (at_direction h.labels.sent (other_direction own.way)) m
    (subst (λ d. Among (MessageOf own m) (at_direction h.labels.sent d)) e there)) k.joins)

message-comes : (params : EndParams) (key own : Key) (h : History) (m : Msg) (direction : Direction)
    (n : ℕ) (b : Bool) → same_way direction own.way ≡ b → WorldKeeps params h → IsLinkKey own
    → Among (MessageOf own m) (at_direction h.labels.sent direction) →
    Makes params key h
    (after h (came_world h.world direction (marked_frame (MessageOf own m)))
    (message_comes own m b)) (events_of key n (message_comes own m b))
unfolding message_comes
message-comes params key own h m direction n true e k link there =
    fragment-comes params key own h m direction n k (same-true direction own.way e) link there
message-comes params key own h m direction n false e k link there =
    answer-comes params key own h m direction n k (same-false direction own.way e) link there

whole-comes : (params : EndParams) (h : History) (direction : Direction) (place : ℕ)
    (frame : FrameData) → WorldKeeps params h
    → IsMarked params.iids h direction (WholeFrame place frame)
    → SameSessions h.world (came_world h.world direction frame)
whole-comes params h direction place frame k marked =
    each-put_role (λ r (end : EndData). end.sessions ≡ (end_of h.world r).sessions) h.world.ends
    (taker direction) _
    (ap (λ (end : EndData). end.sessions)
    (whole-sessions (end_of h.world (taker direction)) frame
    (whole-port params h direction place frame k.chain k.ends marked))) (λ r. refl)

deliver-makes : (params : EndParams) (key : Key) (h : History) (direction : Direction)
    (number n : ℕ) (o : Option Mark) → numbered (at_direction h.labels.sent direction) number ≡ o
    → WorldKeeps params h →
    Makes params key h
    (after h (deliver_step h.world direction number (option_map marked_frame o)).0
    (comes_if direction o)) (events_of key n (comes_if direction o))
unfolding deliver_step end_event end_step answered comes_if
deliver-makes params key h direction number n None e k =
    apart-makes params key h h.world Nothing n tt (λ role. refl)
deliver-makes params key h direction number n (Some (WholeFrame place frame)) e k =
    apart-makes params key h (came_world h.world direction frame) (Arrives direction place frame) n
    tt
    (whole-comes params h direction place frame k
    (marked-at params.iids h direction number (WholeFrame place frame) k.marks.marks e))
deliver-makes params key h direction number n (Some (MessageOf own m)) e k =
    message-comes params key own h m direction n (same_way direction own.way) refl k
    (marked-at params.iids h direction number (MessageOf own m) k.marks.marks e)
    (among-numbered (at_direction h.labels.sent direction) number (MessageOf own m) e)

-- A tick, and a session that is given up.

tick-makes : (params : EndParams) (key : Key) (h : History) (target : Target) (n : ℕ)
    → EndsKept params h.world
    → Makes params key h (after h (tick_step h.world target).0 (Ticks target))
    (events_of key n (Ticks target))
unfolding tick_step end_event end_step answered end_tick
tick-makes params key h target.Device n ends = device-makes params key h n ends
tick-makes params key h target.Gateway n ends = gateway-makes params key h n ends
tick-makes params key h target.Both n ends = both-makes params key h n ends

abort-world : (params : EndParams) (h : History) (role : Role) → EndsKept params h.world
    → (end_event h.world role at_end.Abort).0 ≡ given_up h.world role
    (own_key (end_of h.world role))
unfolding end_event end_step answered end_abort sessions_abort
abort-world params h role ends =
    let end = end_of h.world role in
    let k = ends role in
    ap (λ i. with_end h.world role
    (with_sessions end (aborted_from end.sessions i (found i end.sessions.senders)).0))
    (own-key role params end.sessions k.sessions ∙ sym (own-same params role h ends))

-- The world's step.

-- the frame with a number is that of the mark with it, where each frame is that of its mark
pub look-up : (h : History) (direction : Direction) (number : ℕ)
    → FramesMarked h.world.frames h.labels.sent
    → numbered (frames_of h.world direction) number ≡ option_map marked_frame
    (numbered (at_direction h.labels.sent direction) number)
look-up h direction number k = ap (λ frames. numbered frames number) (k direction)
    ∙ numbered-map marked_frame (at_direction h.labels.sent direction) number

slot-gives : (params : EndParams) (key : Key) (h : History) (role : Role) → WorldKeeps params h
    → Makes params key h (slotted h role (gives_at h role))
    (events_of key (length h.logs.begins) (Gives role (gives_at h role)))
unfolding events_of
slot-gives params key h role k =
    slot-makes params key h role (gives_at h role) k.chain k.ends k.queues k.marks k.mtu
    (given-is role params (end_of h.world role) (k.ends role).sessions)

makes : (params : EndParams) (key : Key) (h : History) (event : Event) → WorldKeeps params h
    → Makes params key h (next h event) (lane_events key h event)
unfolding next step end_event end_step down_step happening_in
makes params key h (Down role packet) k =
    apart-makes params key h _
    (waits_if role packet
    (down_from (end_of h.world role) (form_of (end_of h.world role) packet)
    (refusal (end_of h.world role) packet)).1) (length h.logs.begins)
    (waits-apart role packet _)
    (answered-sessions h.world role _ _
    (down-sessions (end_of h.world role) packet (refusal (end_of h.world role) packet)))
makes params key h (Slot role) k =
    subst (λ g. Makes params key h g
    (events_of key (length h.logs.begins) (Gives role (gives_at h role))))
    (sym (slot-next h role))
    (slot-gives params key h role k)
makes params key h (Deliver direction number) k =
    subst (λ o. Makes params key h
    (after h (deliver_step h.world direction number o).0
    (comes_if direction (numbered (at_direction h.labels.sent direction) number)))
    (events_of key (length h.logs.begins)
    (comes_if direction (numbered (at_direction h.labels.sent direction) number))))
    (sym (look-up h direction number k.frames))
    (deliver-makes params key h direction number (length h.logs.begins)
    (numbered (at_direction h.labels.sent direction) number) refl k)
makes params key h (Tick target) k = tick-makes params key h target (length h.logs.begins) k.ends
makes params key h (Abort role) k =
    subst (λ w. Makes params key h (after h w (GivesUp role (own_key (end_of h.world role))))
    (events_of key (length h.logs.begins) (GivesUp role (own_key (end_of h.world role)))))
    (sym (abort-world params h role k.ends))
    (abort-makes params key h role (own_key (end_of h.world role)) (length h.logs.begins) k.ends)
makes params key h (Publish raw) k =
    apart-makes params key h _ Nothing (length h.logs.begins) tt
    (publish-sessions h.world (published (last_edition h.world.chain) raw))
makes params key h (Offer role number) k =
    apart-makes params key h _ Nothing (length h.logs.begins) tt
    (offered-sessions h.world role number (slice_get h.world.chain number))
makes params key h (Allow role number) k =
    apart-makes params key h _ Nothing (length h.logs.begins) tt
    (answered-sessions h.world role _ _ (allow-sessions (end_of h.world role) number))

-- an event of a world is on each key's lane the steps of its events there, each possible
-- where it comes
pub steps-of-a-world : (params : EndParams) (key : Key) (h : History) (event : Event)
    → WorldKeeps params h → IsStepped params key h event
steps-of-a-world params key h event k = let m = makes params key h event k in
    record { same = m.same; possible = m.possible }

-- A run of the world.

timed-steps : (time : ℕ) (l : Lane) (events : List LaneEvent)
    → run_lane l (timed time events) ≡ lane_steps time l events
timed-steps time l [] = refl
timed-steps time l (event ∷ events) = timed-steps time (lane_step time l event) events

timed-along : (Q : ℕ → Lane → LaneEvent → Type 0) (time : ℕ) (l : Lane) (events : List LaneEvent)
    → Along Q time l events → AlongRun Q l (timed time events)
timed-along Q time l [] k = tt
timed-along Q time l (event ∷ events) k =
    (k.0, timed-along Q time (lane_step time l event) events k.1)

run-possible : (params : EndParams) (key : Key) (events : List Event) (h : History)
    → ((g : History) (event : Event) → HandsBytes event → WorldKeeps params g
    → WorldKeeps params (next g event)) → AllByRecursion HandsBytes events → WorldKeeps params h →
    (lane_of params key (run events h) ≡ run_lane (lane_of params key h) (lane_run key h events))
    × AlongRun Possible (lane_of params key h) (lane_run key h events)
run-possible params key [] h step bytes k = (refl, tt)
run-possible params key (event ∷ events) h step bytes k =
    let one = makes params key h event k in
    let rest =
    run-possible params key events (next h event) step bytes.1 (step h event bytes.0 k) in
    let first = timed-steps h.place (lane_of params key h) (lane_events key h event) in
    let to : run_lane (lane_of params key h) (timed h.place (lane_events key h event)) ≡ lane_of
    params key (next h event) = first ∙ sym one.same in (
      rest.0 ∙ ap (λ l. run_lane l (lane_run key (next h event) events)) (sym to)
          ∙ sym (run-append (timed h.place (lane_events key h event))
          (lane_run key (next h event) events) (lane_of params key h)),
      along-append Possible (timed h.place (lane_events key h event))
          (lane_run key (next h event) events) (lane_of params key h)
          (timed-along Possible h.place (lane_of params key h) (lane_events key h event)
          one.possible)
          (subst (λ l. AlongRun Possible l (lane_run key (next h event) events)) (sym to) rest.1),
    )

-- At the beginning.

found-two : (id a b : SessionKey) (x y z : Reception) (m n : Bool) → at_keys.same_key id a ≡ m
    → at_keys.same_key id b ≡ n → (id ≡ a → x ≡ z) → (id ≡ b → y ≡ z)
    → unwrap_or (found id (record { key = a; it = x } ∷ record { key = b; it = y } ∷ [])) z ≡ z
unfolding found
found-two id a b x y z true n e f p q = rw e (p (same_key_true id a e))
found-two id a b x y z false true e f p q = rw (e, f) (q (same_key_true id b f))
found-two id a b x y z false false e f p q = rw (e, f) refl

new-at : (w : Direction) (acked : Bool)
    → new_receptions (taker w) acked ≡ new_reception
    (record { way = w; id = in_key (taker w) acked })
unfolding mode_of fragments_by
new-at way.Up true = refl
new-at way.Up false = refl
new-at way.Down true = refl
new-at way.Down false = refl

new-received : (w : Direction) (id : SessionKey)
    → unwrap_or
    (found id
    (receptions (taker w) (new_receptions (taker w) true) (new_receptions (taker w) false)))
    (new_reception (record { way = w; id = id })) ≡ new_reception (record { way = w; id = id })
new-received w id =
    found-two id (in_key (taker w) true) (in_key (taker w) false) _ _ _
    (at_keys.same_key id (in_key (taker w) true)) (at_keys.same_key id (in_key (taker w) false))
    refl refl
    (λ e. new-at w true ∙ ap (λ i. new_reception (record { way = w; id = i })) (sym e))
    (λ e. new-at w false ∙ ap (λ i. new_reception (record { way = w; id = i })) (sym e))

start-parts : (params : EndParams) (w : Direction) (id : SessionKey) →
    (sender_at (start params).world (record { way = w; id = id }) ≡ None)
    × (reception_at (start params).world (record { way = w; id = id }) ≡ new_reception
    (record { way = w; id = id })) ×
    (held_by (record { way = w; id = id }) (start params).labels ≡ nothing_held)
unfolding sender_at reception_at held_by found
start-parts params way.Up id = (refl, new-received way.Up id, refl)
start-parts params way.Down id = (refl, new-received way.Down id, refl)

lane-begins : (params : EndParams) (w : Direction) (id : SessionKey)
    → lane_of params (record { way = w; id = id }) (start params) ≡ new_lane
    (lane_params params (record { way = w; id = id }))
unfolding lane_of new_lane messages begins_of of_key
lane-begins params way.Up id =
    let p = start-parts params way.Up id in
    rw (p.0, p.1, p.2, mode-params (mode_of (record { way = way.Up; id = id }))) refl
lane-begins params way.Down id =
    let p = start-parts params way.Down id in
    rw (p.0, p.1, p.2, mode-params (mode_of (record { way = way.Down; id = id }))) refl

-- at the beginning a key's lane is a new one
pub lane-start : (params : EndParams) (key : Key)
    → lane_of params key (start params) ≡ new_lane (lane_params params key)
lane-start params key = lane-begins params key.way key.id

-- the lane of a world after its events is the lane after its own, which can come to pass
pub record IsLaneRun (params : EndParams) (key : Key) (events : List Event) : Type 0 where
  pub same : lane_of params key (run events (start params)) ≡ lane_after (lane_params params key)
      (lane_run key (start params) events)
  pub possible : ArePossible (lane_params params key) (lane_run key (start params) events)

-- so it is for events that hand down bytes, where each such event keeps what every event keeps of a
-- world, and this holds at the beginning
pub lane-runs : (params : EndParams) (key : Key) (events : List Event)
    → ((g : History) (event : Event) → HandsBytes event → WorldKeeps params g
    → WorldKeeps params (next g event)) → AllByRecursion HandsBytes events
    → WorldKeeps params (start params) → IsLaneRun params key events
lane-runs params key events step bytes k =
    let r = run-possible params key events (start params) step bytes k in
    record {
      same = r.0
          ∙ ap (λ l. run_lane l (lane_run key (start params) events)) (lane-start params key);
      possible =
          subst (λ l. AlongRun Possible l (lane_run key (start params) events))
          (lane-start params key) r.1;
    }
