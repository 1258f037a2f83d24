-- Every event keeps that each packet that waits was handed down, and waits as it was written then.
use Rattle.std.proofs.Common.{◌≡◌, ◌≤◌, ℕ, ◌<◌, true, List, [], ◌∷◌, ◌++◌, length, drop, Option}
use Rattle.std.proofs.Common.{Some, None, Result, Ok, Err, IsSomeAnd, slice_get, refl, sym, ap}
use Rattle.std.proofs.Common.{subst, ◌∙◌, arith}
use Rattle.schc_bits.specs.Bits.{AreBytes}
use Rattle.schc_ids.specs.Ends.{sent_direction}
use Rattle.schc_ids.specs.declared.ends.EndParams.{EndParams}
use Rattle.schc_ids.specs.declared.ends.Iids.{Iids}
use Rattle.schc_ids.specs.declared.ends.Role.{Role}
use Rattle.schc_ids.specs.declared.ends.Role.TheVariants.{Device, Gateway}
use Rattle.schc_ids.specs.declared.ends.Direction.{Direction}
use Rattle.schc_ids.specs.PerRole.{PerRole, at_role, put_role}
use Rattle.rule_model.specs.declared.finding.Finding.{Finding}
use Rattle.editions.specs.Data.{EditionData}
use Rattle.publishing.specs.Published.{published}
use Rattle.packer.specs.declared.packing.Packed.{Packed}
use Rattle.ip_udp_fields.specs.Fields.{has_ipv6_header}
use Rattle.packer.specs.Packing.{packed}
use Rattle.event_data.specs.Records.{FrameData}
use Rattle.event_data.specs.Events.{Event, Down, Slot, Deliver, Tick, Abort, Publish, Offer, Allow}
use Rattle.event_data.specs.Events.{HandsBytes}
use Rattle.event_data.specs.declared.events.Target.{Target}
use Rattle.event_data.specs.declared.events.Target.TheVariants as target
use Rattle.end_core.specs.Data.{EndData}
use Rattle.end_core.specs.End.{form_of, accepted, with_form, refusal, down_from, down_step}
use Rattle.end_core.specs.End.{tick_step as end_tick, abort_step as end_abort}
use Rattle.end_core.specs.Events as at_end
use Rattle.end_core.specs.EndStep.{end_step}
use Rattle.packer.proofs.PackedLemmas.{packed-edition}
use Rattle.end_core.proofs.StepLemmas.{Does, end_step-does, refusal-none}
use Rattle.schc_ids.specs.Limits.{max_packet}
use Rattle.event_data.specs.declared.outcomes.DownFault.{DownFault}
use Rattle.schc_ids.specs.PerDirection.{at_direction}
use Rattle.two_ends.specs.World.{WorldData, with_end, end_of, taker, frames_of, last_edition}
use Rattle.two_ends.specs.World.{numbered, answered, end_event, deliver_step, tick_step}
use Rattle.two_ends.specs.World.{publish_step, offer_step, step}
use Rattle.two_ends.specs.Happening.{Given, Answers, Goes, Opens, Carries, NoFrame, Waits, Gives}
use Rattle.two_ends.specs.Happening.{waits_if, comes_if, happening_in}
use Rattle.two_ends.specs.Logs.{HandedDown, handed_down}
use Rattle.two_ends.specs.History.{History, downs_after, queued_given, queued_after, start, after}
use Rattle.two_ends.specs.History.{next}
use Rattle.two_ends.proofs.PerLemmas.{each-put_role, both-put_role}
use Rattle.two_ends.proofs.LedLemmas.{Led, led-weaken, led-push, led-rest, slice_get-last}
use Rattle.two_ends.proofs.LedLemmas.{some-moved}
use Rattle.two_ends.proofs.GrownLemmas.{Grown, grown, answered-ends}
use Rattle.two_ends.proofs.GivenLemmas.{given_step}
use Rattle.two_ends.proofs.WorldLemmas.{queued-same, comes-leaves, given_world, gives_at, slot-next}
use Rattle.two_ends.proofs.EndsKept.{EndKeeps, EndsKept, form-is}

-- the form is that of a packet that was handed down in this direction, as an edition of the chain
-- writes it
pub record IsFormOf (iids : Iids) (h : History) (direction : Direction) (form : Packed)
    (w : HandedDown) : Type 0 where
  pub earlier : w.place < h.place
  pub same_direction : w.direction ≡ direction
  pub are_bytes : AreBytes w.packet
  pub ipv6 : has_ipv6_header w.packet ≡ true
  pub short : length w.packet ≤ max_packet
  pub writer : EditionData
  pub written_with : slice_get h.world.chain w.accepted.edition ≡ Some writer
  pub is_form : form ≡ packed writer iids w.direction w.packet
  pub as_said : w.accepted ≡ accepted form

-- each packet that waits at an end is such a form, of the packet at its place
abbrev pub QueueKeeps : Iids → History → Role → List Packed → List ℕ → Type 0
QueueKeeps iids h role queue places =
    Led (IsFormOf iids h (sent_direction role)) (slice_get h.logs.downs) queue places

abbrev pub QueuesKeep : Iids → History → PerRole EndData → PerRole (List ℕ) → Type 0
QueuesKeep iids h ends queued = (role : Role)
    → QueueKeeps iids h role (at_role ends role).queue (at_role queued role)

-- each packet that waits at an end was handed down there, and waits as it was written then
abbrev pub QueuesKept : Iids → History → Type 0
QueuesKept iids h = QueuesKeep iids h h.world.ends h.labels.queued

-- it stays such a form
pub form-later : (iids : Iids) (h new : History) (direction : Direction) → Grown h new
    → (form : Packed) (w : HandedDown) → IsFormOf iids h direction form w
    → IsFormOf iids new direction form w
form-later iids h new direction g form w c =
    record {
      earlier = rw g.later (omega (arith, c.earlier));
      same_direction = c.same_direction;
      are_bytes = c.are_bytes;
      ipv6 = c.ipv6;
      short = c.short;
      writer = c.writer;
      written_with = g.stands w.accepted.edition c.writer c.written_with;
      is_form = c.is_form;
      as_said = c.as_said;
    }

queues-later : (iids : Iids) (h new : History) → Grown h new → QueuesKept iids h
    → QueuesKeep iids new h.world.ends h.labels.queued
queues-later iids h new g k =
    λ role. led-weaken (IsFormOf iids h (sent_direction role))
    (IsFormOf iids new (sent_direction role)) (slice_get h.logs.downs)
    (slice_get new.logs.downs)
    (λ form place leads. some-moved (slice_get h.logs.downs place) (slice_get new.logs.downs place)
    (IsFormOf iids h (sent_direction role) form) (IsFormOf iids new (sent_direction role) form)
    (g.leads place) (form-later iids h new (sent_direction role) g form) leads)
    (end_of h.world role).queue (at_role h.labels.queued role) (k role)

-- an end that has the same packets waiting
same-queue : (iids : Iids) (new : History) (ends : PerRole EndData) (queued : PerRole (List ℕ))
    (role : Role) (this : EndData) → this.queue ≡ (at_role ends role).queue
    → QueuesKeep iids new ends queued → QueuesKeep iids new (put_role ends role this) queued
same-queue iids new ends queued role this same k =
    each-put_role (λ r end. QueueKeeps iids new r end.queue (at_role queued r)) ends role this
    (subst (λ queue. QueueKeeps iids new role queue (at_role queued role)) (sym same) (k role)) k

-- an end whose first packet waits no longer
one-less : (iids : Iids) (h new : History) (role : Role) (this : EndData)
    → this.queue ≡ drop 1 (end_of h.world role).queue → Grown h new → QueuesKept iids h
    → QueuesKeep iids new (put_role h.world.ends role this)
    (put_role h.labels.queued role (drop 1 (at_role h.labels.queued role)))
one-less iids h new role this e g k =
    let later = queues-later iids h new g k in
    both-put_role (λ r end places. QueueKeeps iids new r end.queue places) h.world.ends
    h.labels.queued role this (drop 1 (at_role h.labels.queued role))
    (subst (λ q. QueueKeeps iids new role q (drop 1 (at_role h.labels.queued role))) (sym e)
    (led-rest (IsFormOf iids new (sent_direction role)) (slice_get new.logs.downs)
    (end_of h.world role).queue (at_role h.labels.queued role) (later role))) later

-- a packet that was accepted leads to its hand-down
accepted-leads : (params : EndParams) (h new : History) (role : Role) (packet : List ℕ)
    → Grown h new
    → new.logs.downs ≡ h.logs.downs ++ handed_down h.place (sent_direction role) packet
    (accepted (form_of (end_of h.world role) packet)) ∷ [] →
    EndKeeps params h.world.chain role (end_of h.world role) → AreBytes packet
    → has_ipv6_header packet ≡ true → length packet ≤ max_packet
    → IsSomeAnd (slice_get new.logs.downs (length h.logs.downs))
    (IsFormOf params.iids new (sent_direction role) (form_of (end_of h.world role) packet))
accepted-leads params h new role packet g downs k bytes ipv6 short =
    subst (λ o. IsSomeAnd o (IsFormOf params.iids new (sent_direction role) form))
    (sym (ap (λ d. slice_get d (length h.logs.downs)) downs ∙ slice_get-last h.logs.downs w))
    (record {
      earlier = rw g.later (omega arith);
      same_direction = refl;
      are_bytes = bytes;
      ipv6 = ipv6;
      short = short;
      writer = this.writes;
      written_with =
          subst (λ n. slice_get new.world.chain n ≡ Some this.writes) (sym number)
          (g.stands this.writes.number this.writes k.writes_with);
      is_form = form-is params h.world.chain role this packet k;
      as_said = refl;
    })
  where
    this : EndData
    this = end_of h.world role

    form : Packed
    form = form_of this packet

    w : HandedDown
    w = handed_down h.place (sent_direction role) packet (accepted form)

    number : form.edition ≡ this.writes.number
    number = ap (λ p. p.edition) (form-is params h.world.chain role this packet k)
        ∙ packed-edition this.writes params.iids (sent_direction role) packet

-- a packet is handed down
down-keeps : (params : EndParams) (h : History) (role : Role) (packet : List ℕ)
    (o : Option DownFault) → refusal (end_of h.world role) packet ≡ o →
    let s = down_from (end_of h.world role) (form_of (end_of h.world role) packet) o in
    let new =
    after h (answered h.world role s.0 (at_end.Handed s.1)).0 (waits_if role packet s.1) in
    Grown h new → AreBytes packet → EndsKept params h.world → QueuesKept params.iids h
    → QueuesKept params.iids new
unfolding after answered queued_after downs_after waits_if down_from
down-keeps params h role packet (Some fault) e g bytes ends k =
    same-queue params.iids _ h.world.ends h.labels.queued role (end_of h.world role) refl
    (queues-later params.iids h _ g k)
down-keeps params h role packet None e g bytes ends k =
    let form = form_of (end_of h.world role) packet in
    let new =
    after h (with_end h.world role (with_form (end_of h.world role) form))
    (Waits role packet (accepted form)) in
    let later = queues-later params.iids h new g k in
    let took = refusal-none (end_of h.world role) packet e in
    both-put_role (λ r end places. QueueKeeps params.iids new r end.queue places) h.world.ends
    h.labels.queued role (with_form (end_of h.world role) form)
    (at_role h.labels.queued role ++ length h.logs.downs ∷ [])
    (led-push (IsFormOf params.iids new (sent_direction role)) (slice_get new.logs.downs)
    (end_of h.world role).queue (at_role h.labels.queued role) form (length h.logs.downs)
    (later role)
    (accepted-leads params h new role packet g refl (ends role) bytes took.0 took.1)) later

-- an end gives something
given-keeps : (iids : Iids) (h : History) (role : Role) (given : Given) →
    let new = after h (given_world h.world role given) (Gives role given) in
    Grown h new → QueuesKept iids h → QueuesKept iids new
unfolding after given_world given_step queued_after queued_given
given-keeps iids h role (Answers id reception bytes) g k =
    same-queue iids _ h.world.ends h.labels.queued role _ refl (queues-later iids h _ g k)
given-keeps iids h role (Goes id session bytes) g k =
    same-queue iids _ h.world.ends h.labels.queued role _ refl (queues-later iids h _ g k)
given-keeps iids h role (Opens id session form bytes) g k = one-less iids h _ role _ refl g k
given-keeps iids h role (Carries form) g k = one-less iids h _ role _ refl g k
given-keeps iids h role NoFrame g k =
    same-queue iids _ h.world.ends h.labels.queued role _ refl (queues-later iids h _ g k)

-- an event that hands nothing down and lets no frame go
abbrev IsOther : at_end.EndEvent → Type 0
IsOther (at_end.Down packet) = ⊥
IsOther at_end.Slot = ⊥
IsOther event = Unit {0}

-- the other events of an end leave its queue
same-queues : (end : EndData) (event : at_end.EndEvent) (this : EndData) (o : at_end.Outcome)
    → IsOther event → Does end event this o → this.queue ≡ end.queue
unfolding end_tick end_abort
same-queues end _ _ _ other (Does.refuses packet fault) = absurd other
same-queues end _ _ _ other (Does.accepts packet ipv6 short) = absurd other
same-queues end _ _ _ other (Does.serves given e) = absurd other
same-queues end _ _ _ other (Does.sends form e) = absurd other
same-queues end _ _ _ other (Does.begins form e) = absurd other
same-queues end _ _ _ other (Does.rests e) = absurd other
same-queues end _ _ _ other (Does.takes_whole frame e) = refl
same-queues end _ _ _ other (Does.takes_part frame e) = refl
same-queues end _ _ _ other (Does.takes_none frame e) = refl
same-queues end _ _ _ other (Does.ticks) = refl
same-queues end _ _ _ other (Does.aborts) = refl
same-queues end _ _ _ other (Does.declines edition answer) = refl
same-queues end _ _ _ other (Does.adopts edition) = refl
same-queues end _ _ _ other (Does.stays number) = refl
same-queues end _ _ _ other (Does.writes number) = refl

-- a history that has the labels of what waits, where an event of an end left its queue
other-keeps : (iids : Iids) (h new : History) (role : Role) (event : at_end.EndEvent)
    → IsOther event → new.world.ends ≡ (end_event h.world role event).0.ends
    → new.labels.queued ≡ h.labels.queued → Grown h new → QueuesKept iids h → QueuesKept iids new
unfolding end_event
other-keeps iids h new role event other ends queued g k =
    let s = end_step (end_of h.world role) event in
    subst (QueuesKeep iids new new.world.ends) (sym queued)
    (subst (λ es. QueuesKeep iids new es h.labels.queued)
    (sym (ends ∙ answered-ends h.world role s.0 s.1))
    (same-queue iids new h.world.ends h.labels.queued role s.0
    (same-queues (end_of h.world role) event s.0 s.1 other
    (end_step-does (end_of h.world role) event)) (queues-later iids h new g k)))

-- and where the ends are the same
unchanged : (iids : Iids) (h new : History) → new.world.ends ≡ h.world.ends
    → new.labels.queued ≡ h.labels.queued → Grown h new → QueuesKept iids h → QueuesKept iids new
unchanged iids h new ends queued g k =
    subst (QueuesKeep iids new new.world.ends) (sym queued)
    (subst (λ es. QueuesKeep iids new es h.labels.queued) (sym ends)
    (queues-later iids h new g k))

deliver-keeps : (iids : Iids) (h new : History) (direction : Direction) (number : ℕ)
    (o : Option FrameData) → new.world.ends ≡ (deliver_step h.world direction number o).0.ends
    → new.labels.queued ≡ h.labels.queued → Grown h new → QueuesKept iids h → QueuesKept iids new
unfolding deliver_step
deliver-keeps iids h new direction number None ends queued g k =
    unchanged iids h new ends queued g k
deliver-keeps iids h new direction number (Some frame) ends queued g k =
    other-keeps iids h new (taker direction) (at_end.Take frame) tt ends queued g k

tick-keeps : (iids : Iids) (h new : History) (target : Target)
    → new.world.ends ≡ (tick_step h.world target).0.ends → new.labels.queued ≡ h.labels.queued
    → Grown h new → QueuesKept iids h → QueuesKept iids new
unfolding tick_step
tick-keeps iids h new target.Device ends queued g k =
    other-keeps iids h new Device at_end.Tick tt ends queued g k
tick-keeps iids h new target.Gateway ends queued g k =
    other-keeps iids h new Gateway at_end.Tick tt ends queued g k
tick-keeps iids h new target.Both ends queued g k =
    let device = end_step (end_of h.world Device) at_end.Tick in
    let gateway = end_step (end_of h.world Gateway) at_end.Tick in
    subst (QueuesKeep iids new new.world.ends) (sym queued)
    (subst (λ es. QueuesKeep iids new es h.labels.queued) (sym ends)
    (same-queue iids new (put_role h.world.ends Device device.0) h.labels.queued Gateway gateway.0
    (same-queues (end_of h.world Gateway) at_end.Tick gateway.0 gateway.1 tt
    (end_step-does (end_of h.world Gateway) at_end.Tick))
    (same-queue iids new h.world.ends h.labels.queued Device device.0
    (same-queues (end_of h.world Device) at_end.Tick device.0 device.1 tt
    (end_step-does (end_of h.world Device) at_end.Tick)) (queues-later iids h new g k))))

publish-ends : (w : WorldData) (r : Result EditionData Finding) → (publish_step w r).0.ends ≡ w.ends
unfolding publish_step
publish-ends w (Err finding) = refl
publish-ends w (Ok edition) = refl

offer-keeps : (iids : Iids) (h new : History) (role : Role) (number : ℕ) (o : Option EditionData)
    → new.world.ends ≡ (offer_step h.world role number o).0.ends
    → new.labels.queued ≡ h.labels.queued → Grown h new → QueuesKept iids h → QueuesKept iids new
unfolding offer_step
offer-keeps iids h new role number None ends queued g k = unchanged iids h new ends queued g k
offer-keeps iids h new role number (Some edition) ends queued g k =
    other-keeps iids h new role (at_end.Offer edition) tt ends queued g k

-- it holds at the beginning
pub queues-start : (params : EndParams) → QueuesKept params.iids (start params)
queues-start params Device = tt
queues-start params Gateway = tt

-- every event keeps it
pub queues-step : (params : EndParams) (h : History) (event : Event) → HandsBytes event
    → EndsKept params h.world → QueuesKept params.iids h → QueuesKept params.iids (next h event)
unfolding next step end_event end_step down_step happening_in after queued_after
queues-step params h (Down role packet) bytes ends k =
    down-keeps params h role packet (refusal (end_of h.world role) packet) refl
    (grown h (Down role packet)) bytes ends k
queues-step params h (Slot role) bytes ends k =
    subst (QueuesKept params.iids) (sym (slot-next h role))
    (given-keeps params.iids h role (gives_at h role)
    (subst (Grown h) (slot-next h role) (grown h (Slot role))) k)
queues-step params h (Deliver direction number) bytes ends k =
    deliver-keeps params.iids h _ direction number (numbered (frames_of h.world direction) number)
    refl
    (queued-same h (comes_if direction (numbered (at_direction h.labels.sent direction) number))
    (comes-leaves direction (numbered (at_direction h.labels.sent direction) number)))
    (grown h (Deliver direction number)) k
queues-step params h (Tick target) bytes ends k =
    tick-keeps params.iids h _ target refl refl (grown h (Tick target)) k
queues-step params h (Abort role) bytes ends k =
    other-keeps params.iids h (next h (Abort role)) role at_end.Abort tt refl refl
    (grown h (Abort role)) k
queues-step params h (Publish raw) bytes ends k =
    unchanged params.iids h (next h (Publish raw))
    (publish-ends h.world (published (last_edition h.world.chain) raw)) refl
    (grown h (Publish raw)) k
queues-step params h (Offer role number) bytes ends k =
    offer-keeps params.iids h _ role number (slice_get h.world.chain number) refl refl
    (grown h (Offer role number)) k
queues-step params h (Allow role number) bytes ends k =
    other-keeps params.iids h (next h (Allow role number)) role (at_end.Allow number) tt refl refl
    (grown h (Allow role number)) k
