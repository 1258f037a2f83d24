use Rattle.std.proofs.Common.{sym}
use Rattle.schc_bits.proofs.WordBits.{length-held}
use Rattle.schc_bits.proofs.bits.Bits.len.Goals as goal

pub returns : goal.returns
returns c = rw (← c.self.view_is) (sym (length-held _ _ c.self.invariant))
