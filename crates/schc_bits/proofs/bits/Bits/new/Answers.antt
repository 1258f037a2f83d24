use Rattle.schc_bits.proofs.WordBits.{filled-none}
use Rattle.schc_bits.proofs.bits.Bits.new.Goals as goal

pub invariant_of-result : goal.invariant_of-result
invariant_of-result c = filled-none _ c.new.ensures.items
