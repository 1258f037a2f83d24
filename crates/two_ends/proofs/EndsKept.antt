-- Every event keeps that each end has its role and its parameters, and editions of the chain.
use Rattle.std.proofs.Common.{◌≡◌, ℕ, List, Option, Some, None, Result, Ok, Err, slice_get, ◌++◌}
use Rattle.std.proofs.Common.{[], ◌∷◌, refl, sym, ap, subst, ◌∙◌}
use Rattle.schc_bits.proofs.ListLemmas.{slice_get-more}
use Rattle.schc_ids.specs.Ends.{sent_direction}
use Rattle.schc_ids.specs.declared.ends.EndParams.{EndParams}
use Rattle.schc_ids.specs.declared.ends.Role.{Role}
use Rattle.schc_ids.specs.declared.ends.Role.TheVariants.{Device, Gateway}
use Rattle.schc_ids.specs.declared.ends.Direction.{Direction}
use Rattle.schc_ids.specs.PerRole.{PerRole, at_role, put_role}
use Rattle.rule_model.specs.declared.finding.Finding.{Finding}
use Rattle.editions.specs.Data.{EditionData}
use Rattle.editions.specs.Chains.{IsChain}
use Rattle.editions.proofs.ChainLemmas.{number-of-place}
use Rattle.publishing.specs.Published.{published}
use Rattle.packer.specs.Packing.{packed}
use Rattle.event_data.specs.Records.{FrameData}
use Rattle.event_data.specs.Events.{Event, Down, Slot, Deliver, Tick, Abort, Publish, Offer, Allow}
use Rattle.event_data.specs.declared.events.Target.{Target}
use Rattle.event_data.specs.declared.events.Target.TheVariants as target
use Rattle.end_core.specs.Data.{EndData}
use Rattle.end_core.specs.End.{form_of}
use Rattle.end_core.specs.Events as at_end
use Rattle.end_core.specs.EndStep.{end_step}
use Rattle.sessions.specs.Data.{SessionsData}
use Rattle.packer.specs.declared.packing.Packed.{Packed}
use Rattle.end_core.specs.End.{tick_step as end_tick, abort_step as end_abort}
use Rattle.end_core.proofs.StepLemmas.{Does, end_step-does, turn-serves}
use Rattle.two_ends.proofs.SessionsKept.{AreSessions, are-new, IsChoiceOf, choice-is, next-keeps}
use Rattle.two_ends.proofs.SessionsKept.{begin-keeps, take-keeps, tick-keeps as sessions-tick}
use Rattle.two_ends.proofs.SessionsKept.{abort-keeps}
use Rattle.two_ends.specs.World.{WorldData, beginning, end_of, taker, frames_of, last_edition}
use Rattle.two_ends.specs.World.{numbered, end_event, deliver_step, tick_step, publish_step}
use Rattle.two_ends.specs.World.{offer_step, step}
use Rattle.two_ends.proofs.PerLemmas.{each-put_role}
use Rattle.two_ends.proofs.GrownLemmas.{answered-chain, answered-ends}

-- an end has its role and its parameters, the editions that it knows and writes with stand in the
-- chain, and what it keeps of its sessions has its form
pub record EndKeeps (params : EndParams) (chain : List EditionData) (role : Role)
    (this : EndData) : Type 0 where
  pub its_role : this.role ≡ role
  pub its_params : this.params ≡ params
  pub knows : slice_get chain this.known.number ≡ Some this.known
  pub writes_with : slice_get chain this.writes.number ≡ Some this.writes
  pub sessions : AreSessions role params this.sessions

-- both ends of a world
abbrev pub EndsKeep : EndParams → List EditionData → PerRole EndData → Type 0
EndsKeep params chain ends = (role : Role) → EndKeeps params chain role (at_role ends role)

-- each end of the world is such an end, with editions of the world's chain
abbrev pub EndsKept : EndParams → WorldData → Type 0
EndsKept params w = EndsKeep params w.chain w.ends

-- an edition that is offered stands in the chain
abbrev Stands : List EditionData → at_end.EndEvent → Type 0
Stands chain (at_end.Offer edition) = slice_get chain edition.number ≡ Some edition
Stands chain event = Unit {0}

-- the end with other sessions, and with another queue
sessions-kept : (params : EndParams) (chain : List EditionData) (role : Role) (this : EndData)
    (queue : List Packed) (s : SessionsData) → AreSessions role params s
    → EndKeeps params chain role this
    → EndKeeps params chain role (record this { queue = queue; sessions = s })
sessions-kept params chain role this queue s a k =
    record {
      its_role = k.its_role;
      its_params = k.its_params;
      knows = k.knows;
      writes_with =
          k.writes_with;
      sessions = a;
    }

does-keeps : (params : EndParams) (chain : List EditionData) (role : Role) (this : EndData)
    (event : at_end.EndEvent) (new : EndData) (o : at_end.Outcome) → Does this event new o
    → Stands chain event → EndKeeps params chain role this → EndKeeps params chain role new
unfolding end_tick end_abort
does-keeps params chain role this _ _ _ (Does.refuses packet fault) s k = k
does-keeps params chain role this _ _ _ (Does.accepts packet ipv6 short) s k =
    sessions-kept params chain role this _ this.sessions k.sessions k
does-keeps params chain role this _ _ _ (Does.serves given e) s k =
    sessions-kept params chain role this this.queue _
    (next-keeps role params this.sessions given
    (subst (IsChoiceOf role params this.sessions.senders this.sessions.receivers)
    (turn-serves this given e) (choice-is role params this.sessions k.sessions)) k.sessions) k
does-keeps params chain role this _ _ _ (Does.sends form e) s k =
    sessions-kept params chain role this _ this.sessions k.sessions k
does-keeps params chain role this _ _ _ (Does.begins form e) s k =
    sessions-kept params chain role this _ _
    (begin-keeps role params this.sessions form.bits k.sessions) k
does-keeps params chain role this _ _ _ (Does.rests e) s k = k
does-keeps params chain role this _ _ _ (Does.takes_whole frame e) s k = k
does-keeps params chain role this _ _ _ (Does.takes_part frame e) s k =
    sessions-kept params chain role this this.queue _
    (take-keeps role params this.sessions frame.port frame.bytes k.sessions) k
does-keeps params chain role this _ _ _ (Does.takes_none frame e) s k = k
does-keeps params chain role this _ _ _ (Does.ticks) s k =
    sessions-kept params chain role this this.queue _
    (sessions-tick role params this.sessions k.sessions) k
does-keeps params chain role this _ _ _ (Does.aborts) s k =
    sessions-kept params chain role this this.queue _
    (abort-keeps role params this.sessions k.sessions) k
does-keeps params chain role this _ _ _ (Does.declines edition answer) s k = k
does-keeps params chain role this _ _ _ (Does.adopts edition) s k =
    record {
      its_role = k.its_role;
      its_params = k.its_params;
      knows = s;
      writes_with =
          k.writes_with;
      sessions = k.sessions;
    }
does-keeps params chain role this _ _ _ (Does.stays number) s k = k
does-keeps params chain role this _ _ _ (Does.writes number) s k =
    record {
      its_role = k.its_role;
      its_params = k.its_params;
      knows = k.knows;
      writes_with =
          k.knows;
      sessions = k.sessions;
    }

end_event-keeps : (params : EndParams) (w : WorldData) (role : Role) (event : at_end.EndEvent)
    → Stands w.chain event → EndsKept params w → EndsKept params (end_event w role event).0
unfolding end_event
end_event-keeps params w role event s k =
    let new = end_step (end_of w role) event in
    subst (λ chain. EndsKeep params chain (end_event w role event).0.ends)
    (sym (answered-chain w role new.0 new.1))
    (subst (EndsKeep params w.chain) (sym (answered-ends w role new.0 new.1))
    (each-put_role (EndKeeps params w.chain) w.ends role new.0
    (does-keeps params w.chain role (end_of w role) event new.0 new.1
    (end_step-does (end_of w role) event) s (k role)) k))

deliver-keeps : (params : EndParams) (w : WorldData) (direction : Direction) (number : ℕ)
    (o : Option FrameData) → EndsKept params w
    → EndsKept params (deliver_step w direction number o).0
unfolding deliver_step
deliver-keeps params w direction number None k = k
deliver-keeps params w direction number (Some frame) k =
    end_event-keeps params w (taker direction) (at_end.Take frame) tt k

-- an end after a tick
ticked-keeps : (params : EndParams) (chain : List EditionData) (role : Role) (this : EndData)
    → EndKeeps params chain role this → EndKeeps params chain role (end_step this at_end.Tick).0
ticked-keeps params chain role this k =
    let new = end_step this at_end.Tick in
    does-keeps params chain role this at_end.Tick new.0 new.1 (end_step-does this at_end.Tick)
    tt k

tick-keeps : (params : EndParams) (w : WorldData) (target : Target) → EndsKept params w
    → EndsKept params (tick_step w target).0
unfolding tick_step
tick-keeps params w target.Device k = end_event-keeps params w Device at_end.Tick tt k
tick-keeps params w target.Gateway k = end_event-keeps params w Gateway at_end.Tick tt k
tick-keeps params w target.Both k =
    let device = end_step (end_of w Device) at_end.Tick in
    let gateway = end_step (end_of w Gateway) at_end.Tick in
    each-put_role (EndKeeps params w.chain) (put_role w.ends Device device.0) Gateway gateway.0
    (ticked-keeps params w.chain Gateway (end_of w Gateway) (k Gateway))
    (each-put_role (EndKeeps params w.chain) w.ends Device device.0
    (ticked-keeps params w.chain Device (end_of w Device) (k Device)) k)

offer-keeps : (params : EndParams) (w : WorldData) (role : Role) (number : ℕ)
    (o : Option EditionData) → slice_get w.chain number ≡ o → IsChain w.chain → EndsKept params w
    → EndsKept params (offer_step w role number o).0
unfolding offer_step
offer-keeps params w role number None there is k = k
offer-keeps params w role number (Some edition) there is k =
    end_event-keeps params w role (at_end.Offer edition)
    (subst (λ n. slice_get w.chain n ≡ Some edition)
    (sym (number-of-place w.chain is number edition there)) there) k

-- the editions of an end stand in a longer chain too
end-longer : (params : EndParams) (chain more : List EditionData) (role : Role) (this : EndData)
    → EndKeeps params chain role this → EndKeeps params (chain ++ more) role this
end-longer params chain more role this k =
    record {
      its_role = k.its_role;
      its_params = k.its_params;
      knows = slice_get-more chain more this.known.number this.known k.knows;
      writes_with = slice_get-more chain more this.writes.number this.writes k.writes_with;
      sessions = k.sessions;
    }

publish-keeps : (params : EndParams) (w : WorldData) (r : Result EditionData Finding)
    → EndsKept params w → EndsKept params (publish_step w r).0
unfolding publish_step
publish-keeps params w (Err finding) k = k
publish-keeps params w (Ok new) k =
    λ role. end-longer params w.chain (new ∷ []) role (end_of w role) (k role)

-- it holds at the beginning
pub ends-start : (params : EndParams) → EndsKept params (beginning params)
ends-start params Device =
    record {
      its_role = refl;
      its_params = refl;
      knows = refl;
      writes_with = refl;
      sessions =
          are-new Device params;
    }
ends-start params Gateway =
    record {
      its_role = refl;
      its_params = refl;
      knows = refl;
      writes_with = refl;
      sessions =
          are-new Gateway params;
    }

-- every event keeps it
pub ends-step : (params : EndParams) (w : WorldData) (event : Event) → IsChain w.chain
    → EndsKept params w → EndsKept params (step w event).0
unfolding step
ends-step params w (Down role packet) is k = end_event-keeps params w role (at_end.Down packet) tt k
ends-step params w (Slot role) is k = end_event-keeps params w role at_end.Slot tt k
ends-step params w (Deliver direction number) is k =
    deliver-keeps params w direction number (numbered (frames_of w direction) number) k
ends-step params w (Tick target) is k = tick-keeps params w target k
ends-step params w (Abort role) is k = end_event-keeps params w role at_end.Abort tt k
ends-step params w (Publish raw) is k =
    publish-keeps params w (published (last_edition w.chain) raw) k
ends-step params w (Offer role number) is k =
    offer-keeps params w role number (slice_get w.chain number) refl is k
ends-step params w (Allow role number) is k =
    end_event-keeps params w role (at_end.Allow number) tt k

-- a packet as an end of the world writes it
pub form-is : (params : EndParams) (chain : List EditionData) (role : Role) (this : EndData)
    (packet : List ℕ) → EndKeeps params chain role this
    → form_of this packet ≡ packed this.writes params.iids (sent_direction role) packet
form-is params chain role this packet k =
    ap (λ p. packed this.writes p.iids (sent_direction this.role) packet) k.its_params
    ∙ ap (λ r. packed this.writes params.iids (sent_direction r) packet) k.its_role
