-- The line that an event has as its outcome is one of the event's.
use Rattle.std.proofs.Common.{◌≡◌, ℕ, Option, Some, None, Result, Ok, Err}
use Rattle.rule_model.specs.declared.finding.Finding.{Finding}
use Rattle.schc_ids.specs.declared.ends.Role.{Role}
use Rattle.schc_ids.specs.declared.ends.Direction.{Direction}
use Rattle.editions.specs.Data.{EditionData}
use Rattle.event_data.specs.Records.{FrameData}
use Rattle.event_data.specs.Events.{Event, Down, Slot, Deliver, Tick, Abort, Publish, Offer, Allow}
use Rattle.event_data.specs.Outcomes.{IsHandLine, IsDeliverLine, IsPublishLine, IsOfferLine}
use Rattle.event_data.specs.Outcomes.{IsLineOf}
use Rattle.event_data.specs.declared.events.Target.{Target}
use Rattle.event_data.specs.declared.events.Target.TheVariants as target
use Rattle.event_data.specs.declared.outcomes.Accepted.{Accepted}
use Rattle.event_data.specs.declared.outcomes.DownFault.{DownFault}
use Rattle.event_data.specs.declared.outcomes.Line.{Line}
use Rattle.event_data.specs.declared.outcomes.Line.TheVariants as line
use Rattle.event_data.specs.declared.outcomes.Taken.{Taken}
use Rattle.end_core.specs.EndStep.{end_step}
use Rattle.two_ends.specs.World.{WorldData, step, end_event, answered, hand_line, deliver_step}
use Rattle.two_ends.specs.World.{tick_step, publish_step, offer_step}
use Rattle.transcripts.specs.Lines.{IsSaid}
use Rattle.gw_top.specs.Run.{line_of}

refusal-said : (event : Event) (fault : DownFault) → IsLineOf event (line.HandRefused fault)
    → IsSaid (line.HandRefused fault)
refusal-said (Down role packet) fault of = of
refusal-said (Slot role) fault of = absurd of
refusal-said (Deliver direction number) fault of = absurd of
refusal-said (Tick at) fault of = absurd of
refusal-said (Abort role) fault of = absurd of
refusal-said (Publish raw) fault of = absurd of
refusal-said (Offer role number) fault of = absurd of
refusal-said (Allow role number) fault of = absurd of

taken-said : (event : Event) (taken : Taken) → IsLineOf event (line.Deliver taken)
    → IsSaid (line.Deliver taken)
taken-said (Down role packet) taken of = absurd of
taken-said (Slot role) taken of = absurd of
taken-said (Deliver direction number) taken of = of
taken-said (Tick at) taken of = absurd of
taken-said (Abort role) taken of = absurd of
taken-said (Publish raw) taken of = absurd of
taken-said (Offer role number) taken of = absurd of
taken-said (Allow role number) taken of = absurd of

-- a line of an event doesn't tell of want of memory
pub said : (event : Event) (l : Line) → IsLineOf event l → IsSaid l
said event (line.Hand accepted) of = tt
said event (line.HandRefused fault) of = refusal-said event fault of
said event (line.Slot emission) of = tt
said event (line.Deliver taken) of = taken-said event taken of
said event (line.Tick device gateway) of = tt
said event (line.Abort report) of = tt
said event (line.Published number) of = tt
said event (line.Refused finding) of = tt
said event (line.Offer answer) of = tt
said event (line.Allow written) of = tt
said event line.NoFrame of = tt
said event line.NoEdition of = tt

hand-fits : (answer : Result Accepted DownFault) → IsSaid (hand_line answer)
    → IsHandLine (hand_line answer)
hand-fits (Ok accepted) is = tt
hand-fits (Err fault) is = is

deliver-fits : (w : WorldData) (way : Direction) (number : ℕ) (o : Option FrameData)
    → IsSaid (line_of (deliver_step w way number o).1)
    → IsDeliverLine (line_of (deliver_step w way number o).1)
unfolding deliver_step end_event end_step answered
deliver-fits w way number None is = tt
deliver-fits w way number (Some frame) is = is

tick-fits : (w : WorldData) (at : Target) → IsLineOf (Tick at) (line_of (tick_step w at).1)
unfolding tick_step end_event end_step answered
tick-fits w target.Device = tt
tick-fits w target.Gateway = tt
tick-fits w target.Both = tt

publish-fits : (w : WorldData) (made : Result EditionData Finding)
    → IsPublishLine (line_of (publish_step w made).1)
unfolding publish_step
publish-fits w (Ok edition) = tt
publish-fits w (Err finding) = tt

offer-fits : (w : WorldData) (role : Role) (number : ℕ) (o : Option EditionData)
    → IsOfferLine (line_of (offer_step w role number o).1)
unfolding offer_step end_event end_step answered
offer-fits w role number None = tt
offer-fits w role number (Some edition) = tt

-- the outcome of an event is one of the event's, if it doesn't tell of want of memory
pub fits : (w : WorldData) (event : Event) → IsSaid (line_of (step w event).1)
    → IsLineOf event (line_of (step w event).1)
unfolding step end_event end_step answered
fits w (Down role packet) is = hand-fits _ is
fits w (Slot role) is = tt
fits w (Deliver way number) is = deliver-fits w way number _ is
fits w (Tick at) is = tick-fits w at
fits w (Abort role) is = tt
fits w (Publish raw) is = publish-fits w _
fits w (Offer role number) is = offer-fits w role number _
fits w (Allow role number) is = tt
