use Rattle.std.proofs.Common.{◌≡◌, take}
use Rattle.schc_bits.proofs.list.ItemList.copy.Given as goal

-- what was passed has been copied
abbrev pub invariant-loop-item : goal.invariant-loop-item
invariant-loop-item g l = l.copy.items ≡ take l.item-index l.item-items
