-- Bits kept in words of 64 bits, the first bit highest in its word.
use Rattle.std.specs.Prelude.{ℕ, ◌≡◌, ◌+◌, ◌-◌, ◌*◌, ◌/◌, Bool, false, List, [], ◌∷◌, ◌++◌, length}
use Rattle.std.specs.Prelude.{drop, replicate}
use Rattle.schc_bits.specs.Bits.{number_bits}

-- all bits of the words
unfoldable pub words_bits : List ℕ → List Bool
words_bits [] = []
words_bits (word ∷ words) = number_bits 64 word ++ words_bits words

-- the words hold `count` bits: no word is there in vain, and behind the bits all is zero
pub record IsFilled (words : List ℕ) (count : ℕ) : Type 0 where
  pub least : length words ≡ (count + 63) / 64
  pub clear : drop count (words_bits words) ≡ replicate (64 * length words - count) false
