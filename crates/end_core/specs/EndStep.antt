-- One step of an end: an event, the end that it is then, and the outcome.
use Rattle.std.specs.Prelude.{}
use Rattle.end_core.specs.Data.{EndData}
use Rattle.end_core.specs.Events.{EndEvent, Down, Slot, Take, Tick, Abort, Offer, Allow, Outcome}
use Rattle.end_core.specs.Events.{Handed, Sent, Took, Ticked, Aborted, Answered, Allowed}
use Rattle.end_core.specs.End.{down_step, slot_step, take_step, tick_step, abort_step, offer_step}
use Rattle.end_core.specs.End.{allow_step}

-- the end after the event and the event's outcome, want of memory aside: by cases over the calls
unfoldable pub end_step : EndData → EndEvent → EndData × Outcome
end_step end (Down packet) = let s = down_step end packet in (s.0, Handed s.1)
end_step end Slot = let s = slot_step end in (s.0, Sent s.1)
end_step end (Take frame) = let s = take_step end frame in (s.0, Took s.1)
end_step end Tick = let s = tick_step end in (s.0, Ticked s.1)
end_step end Abort = let s = abort_step end in (s.0, Aborted s.1)
end_step end (Offer edition) = let s = offer_step end edition in (s.0, Answered s.1)
end_step end (Allow number) = let s = allow_step end number in (s.0, Allowed s.1)
