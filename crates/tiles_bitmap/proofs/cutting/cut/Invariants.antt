use Rattle.std.proofs.Common.{◌≡◌, ◌≤◌, ◌-◌, ◌++◌}
use Rattle.tiles_bitmap.specs.Tiles.{ends_from, tile_sizes_of, tile_ends}
use Rattle.tiles_bitmap.proofs.cutting.cut.Given as goal

-- the ends that were found, and those of what is left
abbrev pub invariant-loop-at : goal.invariant-loop-at
invariant-loop-at l =
    (l.at ≤ l.bits)
    × (l.cuts.items ++ ends_from l.at
    (tile_sizes_of (l.bits - l.at) l.params.mode l.mtu (l.bits - l.at)) ≡ tile_ends l.params
    l.mtu l.bits)

abbrev pub decreases-loop-at : goal.decreases-loop-at
decreases-loop-at l = l.bits - l.at
