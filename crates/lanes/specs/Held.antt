-- RFC 8724, section 8.4.3.2, and RFC 9011, section 5.6.2: the tiles that a receiver of ACK-on-Error
-- holds.
use Rattle.std.specs.Prelude.{◌≡◌, Bool, List, [], ◌∷◌, Option, Some, None}
use Rattle.schc_ids.specs.declared.phases.ReceiverPhase.TheVariants as phase
use Rattle.aoe_receiver.specs.State.{AoeReceiverData, Empty, Gathering, Finished}
use Rattle.aoe_sender.specs.Steps.{begun}
use Rattle.aoe_sender.specs.Tiles.{regular_tiles}
use Rattle.sessions.specs.Receivers.{receiver_phase}
use Rattle.sessions.specs.declared.receivers.Receiver.{Receiver}
use Rattle.sessions.specs.declared.receivers.Receiver.TheVariants.{NoAck, AckAlways, AckOnError}
use Rattle.lanes.specs.Lane.{Begun, LaneParams}

-- each tile that is held is the tile with the number of its place, and there is a place for each
-- tile
abbrev pub AreHeldOf : List (List Bool) → List (Option (List Bool)) → Type 0
AreHeldOf [] [] = Unit {0}
AreHeldOf [] (None ∷ places) = AreHeldOf [] places
AreHeldOf [] (Some held ∷ places) = ⊥
AreHeldOf (tile ∷ tiles) [] = ⊥
AreHeldOf (tile ∷ tiles) (None ∷ places) = AreHeldOf tiles places
AreHeldOf (tile ∷ tiles) (Some held ∷ places) = (held ≡ tile) × AreHeldOf tiles places

-- the tiles that go in Regulars in a session with these bits
abbrev pub session_tiles : LaneParams → List Bool → List (List Bool)
session_tiles params bits = regular_tiles (begun params.frag params.ends.mtu params.ends.last bits)

-- while it gathers, a receiver holds tiles of these alone
abbrev pub HoldsIn : List (List Bool) → AoeReceiverData → Type 0
HoldsIn tiles (Empty abort) = Unit {0}
HoldsIn tiles (Gathering places kept answer) = AreHeldOf tiles places
HoldsIn tiles (Finished places last answer) = Unit {0}

abbrev pub HoldsOnly : List (List Bool) → Receiver → Type 0
HoldsOnly tiles (NoAck r) = Unit {0}
HoldsOnly tiles (AckAlways r) = Unit {0}
HoldsOnly tiles (AckOnError r) = HoldsIn tiles r

-- those of the session that began last; where none has begun the receiver is empty
abbrev pub HoldsOf : LaneParams → Option Begun → Receiver → Type 0
HoldsOf params None receiver = receiver_phase receiver ≡ phase.Empty
HoldsOf params (Some begun) receiver = HoldsOnly (session_tiles params begun.bits) receiver
