use Rattle.std.proofs.Common.{◌≡◌, ◌+◌, ◌-◌, ◌*◌, drop}
use Rattle.tiles_bitmap.specs.Places.{held_bits, open_window}
use Rattle.aoe_receiver.proofs.store.TileStore.open_window.Given as goal

-- the lowest open window isn't below this one
abbrev pub invariant-loop-w : goal.invariant-loop-w
invariant-loop-w l =
    l.w + open_window 63 (l.last - l.w) (drop (l.w * 63) (held_bits l.self.tiles)) ≡ open_window 63
    l.last (held_bits l.self.tiles)
