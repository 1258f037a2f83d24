use Rattle.std.proofs.Common.{sym}
use Rattle.schc_bits.proofs.PartBits.{length-part}
use Rattle.schc_bits.proofs.part.Part.len.Goals as goal

pub returns : goal.returns
returns c = rw (← c.self.view_is) (sym (length-part _ _ _ c.self.invariant.0))
