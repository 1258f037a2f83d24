-- The ranges in which the laws speak: each number and byte is one of its type, where of the rules
-- of a publication nothing is asked, and the parameters are within their limits.
use Rattle.std.specs.Prelude.{◌^◌, ◌<◌, List}
use Rattle.std.specs.List.{AllByRecursion}
use Rattle.schc_bits.specs.Bits.{AreBytes}
use Rattle.schc_ids.specs.Params.{IsParams}
use Rattle.schc_ids.specs.declared.ends.EndParams.{EndParams}
pub use Rattle.event_data.specs.Events.{HandsBytes}
use Rattle.event_data.specs.Events.{Event, Down, Slot, Deliver, Tick, Abort, Publish, Offer, Allow}

-- parameters that an end may be made with
abbrev pub FitsParams : EndParams → Type 0
FitsParams params = IsParams params × (params.iids.dev < 2 ^ 64) × (params.iids.app < 2 ^ 64)

-- an event whose numbers and bytes are in the ranges of their types; of a publication only the
-- edition's number is asked
abbrev pub FitsEvent : Event → Type 0
FitsEvent (Down role packet) = AreBytes packet
FitsEvent (Slot role) = Unit {0}
FitsEvent (Deliver direction number) = number < 2 ^ 64
FitsEvent (Tick target) = Unit {0}
FitsEvent (Abort role) = Unit {0}
FitsEvent (Publish edition) = edition.number < 2 ^ 32
FitsEvent (Offer role number) = number < 2 ^ 32
FitsEvent (Allow role number) = number < 2 ^ 32

-- the parameters are within their limits, and each number and byte of the events is one of its type
pub record Fits (params : EndParams) (events : List Event) : Type 0 where
  pub within : FitsParams params
  pub each : AllByRecursion FitsEvent events
