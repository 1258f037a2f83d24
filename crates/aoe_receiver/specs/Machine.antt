-- What the fields of a receiver stand for.
use Rattle.std.specs.Prelude.{◌≡◌, ◌<◌, Bool, List, Option, Some, None}
use Rattle.aoe_receiver.specs.declared.receiver.LastFragment.{LastFragment}
use Rattle.aoe_receiver.specs.declared.receiver.Stage.{Stage}
use Rattle.aoe_receiver.specs.declared.receiver.Stage.TheVariants as stage
use Rattle.aoe_receiver.specs.State.{LastData, AoeReceiverData, Empty, Gathering, Finished}
use Rattle.aoe_receiver.specs.Store.{Store, empty_store}

abbrev pub last_data : LastFragment → List Bool → LastData
last_data last tile = record { w = last.w; rcs = last.rcs; tile = tile }

abbrev pub kept_data : Option LastFragment → List Bool → Option LastData
kept_data None tile = None
kept_data (Some last) tile = Some (last_data last tile)

abbrev pub data_of : Stage → Store → AoeReceiverData
data_of (stage.Empty abort) store = Empty abort
data_of (stage.Gathering kept answer) store =
    Gathering store.tiles (kept_data kept store.last) answer
data_of (stage.Finished last answer) store = Finished store.tiles (last_data last store.last) answer

-- the window of an All-1 is one of the four
abbrev pub IsOfFour : Option LastFragment → Type 0
IsOfFour None = Unit {0}
IsOfFour (Some last) = last.w < 4

-- while nothing is gathered no tile is held, and the window of an All-1 is one of the four
abbrev pub IsStaged : Stage → Store → Type 0
IsStaged (stage.Empty abort) store = store ≡ empty_store
IsStaged (stage.Gathering kept answer) store = IsOfFour kept
IsStaged (stage.Finished last answer) store = last.w < 4
