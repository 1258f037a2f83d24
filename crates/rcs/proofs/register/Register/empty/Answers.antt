use Rattle.std.proofs.Common.{refl}
use Rattle.schc_bits.specs.Bits.{number_bits}
use Rattle.rcs.specs.Words.{empty_sum}
use Rattle.rcs.proofs.register.Register.empty.Goals as goal

pub returns : goal.returns
unfolding empty_sum number_bits
returns c = refl
