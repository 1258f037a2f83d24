-- Both ends of one link, the editions of rules that were published, and every frame that was ever
-- sent: one event at a time, and its outcome.
use Rattle.std.specs.Prelude.{ℕ, zero, suc, ◌+◌, ◌-◌, List, [], ◌∷◌, ◌++◌, length, Option, Some}
use Rattle.std.specs.Prelude.{None, unwrap_or, Result, Ok, Err, slice_get}
use Rattle.schc_ids.specs.Ends.{sent_direction}
use Rattle.schc_ids.specs.PerRole.{PerRole, at_role, put_role}
use Rattle.schc_ids.specs.PerDirection.{PerDirection, at_direction, put_direction}
use Rattle.schc_ids.specs.declared.ends.EndParams.{EndParams}
use Rattle.schc_ids.specs.declared.ends.Role.{Role}
use Rattle.schc_ids.specs.declared.ends.Role.TheVariants.{Device, Gateway}
use Rattle.schc_ids.specs.declared.ends.Direction.{Direction}
use Rattle.schc_ids.specs.declared.ends.Direction.TheVariants as way
use Rattle.schc_ids.specs.declared.notes.Report.{Report}
use Rattle.rule_model.specs.declared.finding.Finding.{Finding}
use Rattle.editions.specs.Data.{EditionData, first_edition}
use Rattle.publishing.specs.Published.{published}
use Rattle.event_data.specs.Records.{FrameData}
use Rattle.event_data.specs.Events.{Event, Down, Slot, Deliver, Tick, Abort, Publish, Offer, Allow}
use Rattle.event_data.specs.declared.events.Target.{Target}
use Rattle.event_data.specs.declared.events.Target.TheVariants as target
use Rattle.event_data.specs.declared.outcomes.Accepted.{Accepted}
use Rattle.event_data.specs.declared.outcomes.DownFault.{DownFault}
use Rattle.event_data.specs.declared.outcomes.Emission.{Emission}
use Rattle.event_data.specs.declared.outcomes.Emitted.{Emitted}
use Rattle.event_data.specs.declared.outcomes.Line.{Line}
use Rattle.event_data.specs.declared.outcomes.Line.TheVariants as line
use Rattle.event_data.specs.declared.outcomes.StepFault.{StepFault}
use Rattle.event_data.specs.declared.outcomes.StepFault.TheVariants.{NoSuchFrame, NoSuchEdition}
use Rattle.end_core.specs.Data.{EndData}
use Rattle.end_core.specs.End.{new_end}
use Rattle.end_core.specs.Events as at_end
use Rattle.end_core.specs.EndStep.{end_step}

-- both ends, the chain of editions, and all frames that were ever sent in each direction, each the
-- first first. The chain begins with the empty edition 0, so that an edition stands at the place of
-- its number
pub record WorldData : Type 0 where
  pub ends : PerRole EndData
  pub chain : List EditionData
  pub frames : PerDirection (List FrameData)

-- two new ends, the empty edition, and no frame
abbrev pub beginning : EndParams → WorldData
beginning params = record {
  ends = record { device = new_end Device params; gateway = new_end Gateway params };
  chain = first_edition ∷ [];
  frames = record { up = []; down = [] };
}

-- the end with this role
abbrev pub end_of : WorldData → Role → EndData
end_of w role = at_role w.ends role

-- the world with another end of this role
abbrev pub with_end : WorldData → Role → EndData → WorldData
with_end w role new = record w { ends = put_role w.ends role new }

-- the end that sends in this direction, and the one that its frames come to
abbrev pub sender : Direction → Role
sender way.Up = Device
sender way.Down = Gateway

abbrev pub taker : Direction → Role
taker way.Up = Gateway
taker way.Down = Device

-- the frames that were sent in this direction
abbrev pub frames_of : WorldData → Direction → List FrameData
frames_of w direction = at_direction w.frames direction

-- the world after one more edition was published
abbrev pub with_edition : WorldData → EditionData → WorldData
with_edition w edition = record w { chain = w.chain ++ edition ∷ [] }

-- the edition that was published last
abbrev pub last_edition : List EditionData → EditionData
last_edition chain = unwrap_or (slice_get chain (length chain - 1)) first_edition

-- the item with this number, counted from 1
abbrev pub numbered : {Item : Type 0} → List Item → ℕ → Option Item
numbered items zero = None
numbered items (suc k) = slice_get items k

-- what an end answers to a packet that is handed down
abbrev pub hand_line : Result Accepted DownFault → Line
hand_line (Ok accepted) = line.Hand accepted
hand_line (Err fault) = line.HandRefused fault

-- the frame, as the next one after these
abbrev pub emission : List FrameData → Emitted → Emission
emission frames emitted = record { number = length frames + 1; emitted = emitted }

-- the frames after an end that may have sent one more, and what is said of it
unfoldable pub sent_after : List FrameData → Option Emitted → List FrameData × Option Emission
sent_after frames None = (frames, None)
sent_after frames (Some emitted) = (frames ++ emitted.frame ∷ [], Some (emission frames emitted))

-- the world with what an end sent, if it sent a frame, as the last of its direction
abbrev pub with_sent : WorldData → Role → Option Emitted → WorldData
with_sent w role emitted =
    let direction = sent_direction role
    in record w
    { frames = put_direction w.frames direction (sent_after (frames_of w direction) emitted).0 }

-- the line of a tick of one end
abbrev pub tick_line : Role → Option Report → Line
tick_line Device report = line.Tick report None
tick_line Gateway report = line.Tick None report

-- an end is this one now, and had this outcome
unfoldable pub answered : WorldData → Role → EndData → at_end.Outcome → WorldData
    × Result Line StepFault
answered w role new (at_end.Handed answer) = (with_end w role new, Ok (hand_line answer))
answered w role new (at_end.Sent emitted) = (
  with_sent (with_end w role new) role emitted,
  Ok
      (line.Slot (sent_after (frames_of w (sent_direction role)) emitted).1),
)
answered w role new (at_end.Took taken) = (with_end w role new, Ok (line.Deliver taken))
answered w role new (at_end.Ticked report) = (with_end w role new, Ok (tick_line role report))
answered w role new (at_end.Aborted report) = (with_end w role new, Ok (line.Abort report))
answered w role new (at_end.Answered offered) = (with_end w role new, Ok (line.Offer offered))
answered w role new (at_end.Allowed allowed) = (with_end w role new, Ok (line.Allow allowed))

-- an event happens at an end
unfoldable pub end_event : WorldData → Role → at_end.EndEvent → WorldData × Result Line StepFault
end_event w role event = let s = end_step (end_of w role) event in answered w role s.0 s.1

-- the frame with this number arrives, if it was ever sent; it stays there to arrive again
unfoldable pub deliver_step : WorldData → Direction → ℕ → Option FrameData → WorldData
    × Result Line StepFault
deliver_step w direction number None = (w, Err (NoSuchFrame number))
deliver_step w direction number (Some frame) = end_event w (taker direction) (at_end.Take frame)

-- how a session ended by a tick
abbrev pub tick_report : at_end.Outcome → Option Report
tick_report (at_end.Ticked report) = report
tick_report outcome = None

-- a tick passes at one end, or at both: at the device first
unfoldable pub tick_step : WorldData → Target → WorldData × Result Line StepFault
tick_step w target.Device = end_event w Device at_end.Tick
tick_step w target.Gateway = end_event w Gateway at_end.Tick
tick_step w target.Both =
    let device = end_step (end_of w Device) at_end.Tick
    in let gateway = end_step (end_of w Gateway) at_end.Tick
    in (
      with_end (with_end w Device device.0) Gateway gateway.0,
      Ok
          (line.Tick (tick_report device.1) (tick_report gateway.1)),
    )

-- an edition is published: it is the last one of the chain then, unless there is a finding
unfoldable pub publish_step : WorldData → Result EditionData Finding → WorldData
    × Result Line StepFault
publish_step w (Ok edition) = (with_edition w edition, Ok (line.Published edition.number))
publish_step w (Err finding) = (w, Ok (line.Refused finding))

-- an end is offered the edition with this number, if it was published
unfoldable pub offer_step : WorldData → Role → ℕ → Option EditionData → WorldData
    × Result Line StepFault
offer_step w role number None = (w, Err (NoSuchEdition number))
offer_step w role number (Some edition) = end_event w role (at_end.Offer edition)

-- the world after the event, and the event's outcome, want of memory aside
unfoldable pub step : WorldData → Event → WorldData × Result Line StepFault
step w (Down role packet) = end_event w role (at_end.Down packet)
step w (Slot role) = end_event w role at_end.Slot
step w (Deliver direction number) =
    deliver_step w direction number (numbered (frames_of w direction) number)
step w (Tick target) = tick_step w target
step w (Abort role) = end_event w role at_end.Abort
step w (Publish raw) = publish_step w (published (last_edition w.chain) raw)
step w (Offer role number) = offer_step w role number (slice_get w.chain number)
step w (Allow role number) = end_event w role (at_end.Allow number)

-- the event can want memory: a tick, an abort and the allowance of an edition never do
abbrev pub MayWantMemory : Event → Type 0
MayWantMemory (Tick target) = ⊥
MayWantMemory (Abort role) = ⊥
MayWantMemory (Allow role number) = ⊥
MayWantMemory event = Unit {0}
