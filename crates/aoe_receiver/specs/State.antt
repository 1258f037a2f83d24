-- RFC 8724, section 8.4.3.2: what a receiver of ACK-on-Error keeps.
use Rattle.std.specs.Prelude.{ℕ, ◌+◌, ◌/◌, ◌%◌, ◌≡◌, ◌<◌, ◌≤◌, zero, suc, Bool, false, List, []}
use Rattle.std.specs.Prelude.{◌∷◌, length, take, drop, replicate, Option, Some, None}
use Rattle.std.specs.List.{AllByRecursion}
use Rattle.schc_ids.specs.declared.phases.ReceiverPhase.{ReceiverPhase}
use Rattle.schc_ids.specs.declared.phases.ReceiverPhase.TheVariants as phase
use Rattle.frag_wire.specs.declared.message.Message.{Message}
use Rattle.frag_wire.specs.declared.message.Message.TheVariants as form

-- an All-1: its window, its RCS, and its tile, which has no bits where the last tile came in a
-- Regular
pub record LastData : Type 0 where
  pub w : ℕ
  pub rcs : ℕ
  pub tile : List Bool

-- a place for each tile of the four windows (RFC 9011, section 5.6.2), by its index: the tile,
-- where it is held. While nothing is kept, a Receiver-Abort may be due; else an answer may be due.
-- The latest All-1 is kept.
pub data AoeReceiverData : Type 0 where
  Empty : (abort : Bool) → AoeReceiverData
  Gathering : (tiles : List (Option (List Bool))) → (kept : Option LastData) → (answer : Bool)
      → AoeReceiverData
  Finished : (tiles : List (Option (List Bool))) → (last : LastData) → (answer : Bool)
      → AoeReceiverData

-- no place holds a tile
unfoldable pub no_tiles : List (Option (List Bool))
no_tiles = replicate 252 None

unfoldable pub empty_receiver : AoeReceiverData
empty_receiver = Empty false

unfoldable pub receiver_phase : AoeReceiverData → ReceiverPhase
receiver_phase (Empty abort) = phase.Empty
receiver_phase (Gathering tiles kept answer) = phase.Gathering
receiver_phase (Finished tiles last answer) = phase.Finished

-- a place is free, or holds a tile of one to ten whole bytes
abbrev pub IsPlace : Option (List Bool) → Type 0
IsPlace None = Unit {0}
IsPlace (Some tile) = (8 ≤ length tile) × (length tile ≤ 80) × (length tile % 8 ≡ 0)

-- a place for each tile of the four windows
abbrev pub ArePlaces : List (Option (List Bool)) → Type 0
ArePlaces tiles = (length tiles ≡ 252) × AllByRecursion IsPlace tiles

-- the tile of an All-1, of at most ten whole bytes
abbrev pub IsLastTile : List Bool → Type 0
IsLastTile tile = (length tile ≤ 80) × (length tile % 8 ≡ 0)

-- an All-1 of one of the four windows
abbrev pub IsLast : LastData → Type 0
IsLast last = (last.w < 4) × IsLastTile last.tile

abbrev pub IsKept : Option LastData → Type 0
IsKept None = Unit {0}
IsKept (Some last) = IsLast last

-- what holds of every receiver
abbrev pub IsAoeReceiver : AoeReceiverData → Type 0
IsAoeReceiver (Empty abort) = Unit {0}
IsAoeReceiver (Gathering tiles kept answer) = ArePlaces tiles × IsKept kept
IsAoeReceiver (Finished tiles last answer) = ArePlaces tiles × IsLast last

-- so many tiles of ten bytes, the last may be shorter
unfoldable pub parts_of_ten : ℕ → List Bool → List (List Bool)
parts_of_ten zero bits = []
parts_of_ten (suc count) bits = take 80 bits ∷ parts_of_ten count (drop 80 bits)

-- RFC 8724, section 8.4.3.1, and RFC 9011, section 5.6.2: the tiles of a Regular's payload, ten
-- bytes each, the last may be shorter
unfoldable pub payload_tiles : List Bool → List (List Bool)
payload_tiles payload = parts_of_ten ((length payload + 79) / 80) payload

-- the check is made at an All-1 and at an ACK REQ alone
abbrev pub MayJoin : Message → Type 0
MayJoin (form.Regular w fcn from) = ⊥
MayJoin (form.All1 w rcs from) = Unit {0}
MayJoin (form.Ack w c bitmap) = ⊥
MayJoin (form.AckReq w) = Unit {0}
MayJoin form.SenderAbort = ⊥
MayJoin form.ReceiverAbort = ⊥
