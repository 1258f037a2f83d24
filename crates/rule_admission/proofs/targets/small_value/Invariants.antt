use Rattle.std.proofs.Common.{◌≡◌, min, take}
use Rattle.schc_bits.specs.Bits.{bits_value}
use Rattle.rule_admission.proofs.targets.small_value.Given as goal

abbrev pub invariant-loop-i : goal.invariant-loop-i
invariant-loop-i l = l.value ≡ min (bits_value (take l.i l.target)) 255
