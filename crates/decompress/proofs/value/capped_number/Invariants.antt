use Rattle.std.proofs.Common.{◌≡◌, ◌^◌, min, take}
use Rattle.schc_bits.specs.Bits.{bits_value}
use Rattle.decompress.proofs.value.capped_number.Given as goal

abbrev pub invariant-loop-i : goal.invariant-loop-i
invariant-loop-i l = l.number ≡ min (bits_value (take l.i l.bits)) (2 ^ 61)
