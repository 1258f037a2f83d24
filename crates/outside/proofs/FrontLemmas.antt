-- Fronts of what is read or written, one after the other.
use Rattle.std.proofs.Common.{ℕ, ◌+◌, ◌≤◌, List, ◌++◌, length, take, drop, sym, subst, arith}
use Rattle.std.proofs.Common.{length-append, length-take}
use Rattle.std.proofs.Math.Seq.{take-add}
use Rattle.std.proofs.KnownBytes.{Appends-trans, Consumes-trans}
use Rattle.std.specs.Prelude.{Option}
use Rattle.std.specs.Io.KnownBytes.{Appends, Consumes}

-- the first m bytes, then the first n of the rest, are the first m + n
pub Appends-next : (a b c : Option (List ℕ)) (m n : ℕ) (text : List ℕ)
    → Appends a b (take m text) → Appends b c (take n (drop m text))
    → Appends a c (take (m + n) text)
Appends-next a b c m n text first second =
    subst (Appends a c) (sym (take-add m n text)) (Appends-trans a b c _ _ first second)

-- a front, and then n bytes, are a front as long as both
pub Consumes-next : (a b c : Option (List ℕ)) (most n : ℕ) (xs piece : List ℕ)
    → Consumes a b xs → Consumes b c (take n piece) → length xs + n ≤ most
    → (front : List ℕ) × (length front ≤ most) × Consumes a c front
Consumes-next a b c most n xs piece first second bound = (
  xs ++ take n piece,
  grind (arith, length-append, length-take),
  Consumes-trans a b c xs _ first
      second,
)
