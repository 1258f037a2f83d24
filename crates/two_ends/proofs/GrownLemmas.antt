-- What stays true while events happen: the chain and the logs only grow.
use Rattle.std.proofs.Common.{◌≡◌, ℕ, ◌+◌, Option, Some, None, Result, Ok, Err, slice_get, refl}
use Rattle.std.proofs.Common.{sym, ap, subst, ◌∙◌}
use Rattle.schc_bits.proofs.ListLemmas.{slice_get-more}
use Rattle.schc_ids.specs.declared.ends.Role.{Role}
use Rattle.schc_ids.specs.declared.ends.Role.TheVariants.{Device, Gateway}
use Rattle.schc_ids.specs.declared.ends.Direction.{Direction}
use Rattle.schc_ids.specs.PerRole.{put_role}
use Rattle.rule_model.specs.declared.finding.Finding.{Finding}
use Rattle.editions.specs.Data.{EditionData}
use Rattle.publishing.specs.Published.{published}
use Rattle.event_data.specs.Records.{FrameData}
use Rattle.event_data.specs.Events.{Event, Down, Slot, Deliver, Tick, Abort, Publish, Offer, Allow}
use Rattle.event_data.specs.declared.events.Target.{Target}
use Rattle.event_data.specs.declared.events.Target.TheVariants as target
use Rattle.end_core.specs.Data.{EndData}
use Rattle.end_core.specs.Events as at_end
use Rattle.end_core.specs.EndStep.{end_step}
use Rattle.two_ends.specs.World.{WorldData, end_of, taker, frames_of, last_edition, numbered}
use Rattle.two_ends.specs.World.{answered, end_event, deliver_step, tick_step, publish_step}
use Rattle.two_ends.specs.World.{offer_step, step}
use Rattle.two_ends.specs.Labels.{Label, Whole, Session}
use Rattle.two_ends.specs.Logs.{HandedDown, Began}
use Rattle.two_ends.specs.Safe.{carried_down, down_of}
use Rattle.two_ends.specs.Happening.{Happening, Nothing, Waits, Gives, Arrives, Fragment, Answer}
use Rattle.two_ends.specs.Happening.{Ticks, GivesUp}
use Rattle.two_ends.specs.History.{History, happening, downs_after, begins_after, joins_after}
use Rattle.two_ends.specs.History.{after, next}
use Rattle.two_ends.specs.Keys.{Keyed}
use Rattle.lanes.specs.Lane.{Check}
use Rattle.lanes.proofs.ListLemmas.{among-more}
use Rattle.tiles_bitmap.specs.Places.{Among}

-- editions, packets that were handed down and sessions that began stay where they are, checks that
-- passed stay, and one more event has happened
pub record Grown (h new : History) : Type 0 where
  pub stands : (i : ℕ) (edition : EditionData) → slice_get h.world.chain i ≡ Some edition
      → slice_get new.world.chain i ≡ Some edition
  pub leads : (i : ℕ) (w : HandedDown) → slice_get h.logs.downs i ≡ Some w
      → slice_get new.logs.downs i ≡ Some w
  pub begun : (i : ℕ) (b : Began) → slice_get h.logs.begins i ≡ Some b
      → slice_get new.logs.begins i ≡ Some b
  pub joined : (j : Keyed Check) → Among j h.logs.joins → Among j new.logs.joins
  pub later : new.place ≡ h.place + 1

-- an end that takes an event leaves the chain, and the other end
pub answered-chain : (w : WorldData) (role : Role) (new : EndData) (o : at_end.Outcome)
    → (answered w role new o).0.chain ≡ w.chain
unfolding answered
answered-chain w role new (at_end.Handed answer) = refl
answered-chain w role new (at_end.Sent emitted) = refl
answered-chain w role new (at_end.Took taken) = refl
answered-chain w role new (at_end.Ticked report) = refl
answered-chain w role new (at_end.Aborted report) = refl
answered-chain w role new (at_end.Answered offered) = refl
answered-chain w role new (at_end.Allowed allowed) = refl

-- after an event at an end, that end is the one that the event left, and the other is as it was
pub answered-ends : (w : WorldData) (role : Role) (new : EndData) (o : at_end.Outcome)
    → (answered w role new o).0.ends ≡ put_role w.ends role new
unfolding answered
answered-ends w role new (at_end.Handed answer) = refl
answered-ends w role new (at_end.Sent emitted) = refl
answered-ends w role new (at_end.Took taken) = refl
answered-ends w role new (at_end.Ticked report) = refl
answered-ends w role new (at_end.Aborted report) = refl
answered-ends w role new (at_end.Answered offered) = refl
answered-ends w role new (at_end.Allowed allowed) = refl

end_event-chain : (w : WorldData) (role : Role) (event : at_end.EndEvent) (i : ℕ)
    (edition : EditionData) → slice_get w.chain i ≡ Some edition
    → slice_get (end_event w role event).0.chain i ≡ Some edition
unfolding end_event
end_event-chain w role event i edition e =
    let s = end_step (end_of w role) event in
    subst (λ chain. slice_get chain i ≡ Some edition) (sym (answered-chain w role s.0 s.1)) e

deliver-chain : (w : WorldData) (direction : Direction) (number : ℕ) (o : Option FrameData) (i : ℕ)
    (edition : EditionData) → slice_get w.chain i ≡ Some edition
    → slice_get (deliver_step w direction number o).0.chain i ≡ Some edition
unfolding deliver_step
deliver-chain w direction number None i edition e = e
deliver-chain w direction number (Some frame) i edition e =
    end_event-chain w (taker direction) (at_end.Take frame) i edition e

tick-chain : (w : WorldData) (target : Target) (i : ℕ) (edition : EditionData)
    → slice_get w.chain i ≡ Some edition → slice_get (tick_step w target).0.chain i ≡ Some edition
unfolding tick_step
tick-chain w target.Device i edition e = end_event-chain w Device at_end.Tick i edition e
tick-chain w target.Gateway i edition e = end_event-chain w Gateway at_end.Tick i edition e
tick-chain w target.Both i edition e = e

publish-chain : (w : WorldData) (r : Result EditionData Finding) (i : ℕ) (edition : EditionData)
    → slice_get w.chain i ≡ Some edition → slice_get (publish_step w r).0.chain i ≡ Some edition
unfolding publish_step
publish-chain w (Err finding) i edition e = e
publish-chain w (Ok new) i edition e = slice_get-more w.chain _ i edition e

offer-chain : (w : WorldData) (role : Role) (number : ℕ) (o : Option EditionData) (i : ℕ)
    (edition : EditionData) → slice_get w.chain i ≡ Some edition
    → slice_get (offer_step w role number o).0.chain i ≡ Some edition
unfolding offer_step
offer-chain w role number None i edition e = e
offer-chain w role number (Some offered) i edition e =
    end_event-chain w role (at_end.Offer offered) i edition e

-- each step keeps the chain, but that an edition may come behind it
pub step-chain : (w : WorldData) (event : Event) (i : ℕ) (edition : EditionData)
    → slice_get w.chain i ≡ Some edition → slice_get (step w event).0.chain i ≡ Some edition
unfolding step
step-chain w (Down role packet) i edition e =
    end_event-chain w role (at_end.Down packet) i edition e
step-chain w (Slot role) i edition e = end_event-chain w role at_end.Slot i edition e
step-chain w (Deliver direction number) i edition e =
    deliver-chain w direction number (numbered (frames_of w direction) number) i edition e
step-chain w (Tick target) i edition e = tick-chain w target i edition e
step-chain w (Abort role) i edition e = end_event-chain w role at_end.Abort i edition e
step-chain w (Publish raw) i edition e =
    publish-chain w (published (last_edition w.chain) raw) i edition e
step-chain w (Offer role number) i edition e =
    offer-chain w role number (slice_get w.chain number) i edition e
step-chain w (Allow role number) i edition e =
    end_event-chain w role (at_end.Allow number) i edition e

-- the logs only grow
down-stays : (h : History) (x : Happening) (i : ℕ) (w : HandedDown)
    → slice_get h.logs.downs i ≡ Some w → slice_get (downs_after h x) i ≡ Some w
unfolding downs_after
down-stays h Nothing i w e = e
down-stays h (Waits role packet accepted) i w e = slice_get-more h.logs.downs _ i w e
down-stays h (Gives role given) i w e = e
down-stays h (Arrives direction place frame) i w e = e
down-stays h (Fragment key m) i w e = e
down-stays h (Answer key m) i w e = e
down-stays h (Ticks target) i w e = e
down-stays h (GivesUp role id) i w e = e

begun-stays : (h : History) (x : Happening) (i : ℕ) (b : Began) → slice_get h.logs.begins i ≡ Some b
    → slice_get (begins_after h x) i ≡ Some b
unfolding begins_after
begun-stays h Nothing i b e = e
begun-stays h (Waits role packet accepted) i b e = e
begun-stays h (Gives role given) i b e = slice_get-more h.logs.begins _ i b e
begun-stays h (Arrives direction place frame) i b e = e
begun-stays h (Fragment key m) i b e = e
begun-stays h (Answer key m) i b e = e
begun-stays h (Ticks target) i b e = e
begun-stays h (GivesUp role id) i b e = e

join-stays : (h : History) (x : Happening) (j : Keyed Check) → Among j h.logs.joins
    → Among j (joins_after h x)
unfolding joins_after
join-stays h Nothing j there = there
join-stays h (Waits role packet accepted) j there = there
join-stays h (Gives role given) j there = there
join-stays h (Arrives direction place frame) j there = there
join-stays h (Fragment key m) j there = among-more j h.logs.joins _ there
join-stays h (Answer key m) j there = there
join-stays h (Ticks target) j there = there
join-stays h (GivesUp role id) j there = there

-- each event leaves a history that has grown
pub grown : (h : History) (event : Event) → Grown h (next h event)
unfolding next after
grown h event =
    record {
      stands = λ i edition e. step-chain h.world event i edition e;
      leads = λ i w e. down-stays h (happening h event) i w e;
      begun = λ i b e. begun-stays h (happening h event) i b e;
      joined = λ j there. join-stays h (happening h event) j there;
      later = refl;
    }

carried-leads : (h new : History) → Grown h new → (o : Option Began) (w : HandedDown)
    → carried_down h.logs.downs o ≡ Some w → carried_down new.logs.downs o ≡ Some w
carried-leads h new g None w e = absurd cc
carried-leads h new g (Some b) w e = g.leads b.down w e

session-leads : (h new : History) → Grown h new → (place : ℕ) (o : Option Began) (w : HandedDown)
    → slice_get h.logs.begins place ≡ o → carried_down h.logs.downs o ≡ Some w
    → carried_down new.logs.downs (slice_get new.logs.begins place) ≡ Some w
session-leads h new g place None w there e = absurd cc
session-leads h new g place (Some b) w there e =
    ap (carried_down new.logs.downs) (g.begun place b there) ∙ g.leads b.down w e

-- a label leads where it led
pub label-leads : (h new : History) → Grown h new → (label : Label) (w : HandedDown)
    → down_of h.logs label ≡ Some w → down_of new.logs label ≡ Some w
label-leads h new g (Whole place) w e = g.leads place w e
label-leads h new g (Session place) w e =
    session-leads h new g place (slice_get h.logs.begins place) w refl e
