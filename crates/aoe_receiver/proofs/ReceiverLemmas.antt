-- What is seen of a receiver: its places and their tiles.
use Rattle.std.proofs.Common.{ℕ, zero, suc, ◌*◌, ◌≤◌, List, [], ◌∷◌, take, drop, length, Some, None}
use Rattle.std.proofs.Common.{arith}
use Rattle.std.specs.List.{AllByRecursion}
use Rattle.std.proofs.lemmas.List.{length-take, length-drop}
use Rattle.schc_bits.specs.Bits.{octets}
use Rattle.schc_bits.proofs.Octets.{length-octets}
use Rattle.aoe_receiver.specs.declared.receiver.Stage.{Stage}
use Rattle.aoe_receiver.specs.declared.receiver.Stage.TheVariants as stage
use Rattle.aoe_receiver.specs.Machine.{data_of, IsStaged}
use Rattle.aoe_receiver.specs.State.{IsPlace, ArePlaces, IsLastTile, IsAoeReceiver}
use Rattle.aoe_receiver.specs.Store.{Store, IsStore, place_of, places}
use Rattle.aoe_receiver.proofs.StoreLemmas.{length-places}

place-is : (size : ℕ) (buffer : List ℕ) → size ≤ 10 → 10 ≤ length buffer
    → IsPlace (place_of size buffer)
unfolding place_of
place-is zero buffer small room = tt
place-is (suc more) buffer small room =
    let bits = length-octets (take (suc more) buffer) in
    let bytes = length-take (suc more) buffer in
    (omega (arith, bits, bytes, room), omega (arith, bits, bytes, small), omega (arith, bits))

places-are : (sizes buffer : List ℕ) → AllByRecursion (λ size. size ≤ 10) sizes
    → 10 * length sizes ≤ length buffer → AllByRecursion IsPlace (places sizes buffer)
unfolding places
places-are [] buffer small room = tt
places-are (size ∷ sizes) buffer small room = (
  place-is size buffer small.0 (omega (arith, room)),
  places-are sizes (drop 10 buffer) small.1
      (rw length-drop (omega (arith, room))),
)

-- a store has 252 places, each free or with a tile of one to ten whole bytes
pub store-places : (buffer sizes marks : List ℕ) (last : ℕ) → IsStore buffer sizes marks last
    → ArePlaces (places sizes buffer)
store-places buffer sizes marks last s =
    let bytes = s.all_bytes in
    let all = s.all_places in
    (rw length-places all, places-are sizes buffer s.small (omega (arith, bytes, all)))

-- the All-1's tile in a store is at most ten whole bytes
pub store-last-tile : (buffer sizes marks : List ℕ) (last : ℕ) → IsStore buffer sizes marks last
    → IsLastTile (octets (take last (drop 2520 buffer)))
store-last-tile buffer sizes marks last s =
    let bits = length-octets (take last (drop 2520 buffer)) in
    let bytes = length-take last (drop 2520 buffer) in
    (omega (arith, bits, bytes, s.last_small), omega (arith, bits))

-- places, a last tile and a stage whose All-1 is of one of the four windows make a receiver
pub is_receiver : (at : Stage) (store : Store) → IsStaged at store → ArePlaces store.tiles
    → IsLastTile store.last → IsAoeReceiver (data_of at store)
is_receiver (stage.Empty abort) store staged tiles last = tt
is_receiver (stage.Gathering None answer) store staged tiles last = (tiles, tt)
is_receiver (stage.Gathering (Some kept) answer) store staged tiles last = (tiles, (staged, last))
is_receiver (stage.Finished kept answer) store staged tiles last = (tiles, (staged, last))
