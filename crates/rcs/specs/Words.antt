-- The division's remainder as a word of 32 bits, its lowest bit the highest coefficient, and what a
-- register holds.
use Rattle.std.specs.Prelude.{ℕ, ◌≡◌, ◌-◌, ◌*◌, ◌/◌, ◌%◌, ◌^◌, ◌==◌, zero, suc, Bool, if◌then◌else◌}
use Rattle.std.specs.Prelude.{List, [], ◌∷◌, ◌++◌, length, drop}
use Rattle.std.specs.Int.Bits.{bit_xor}
use Rattle.schc_bits.specs.Bits.{number_bits, padded, bytes_of}

-- one step of the division, where the next bit of the dividend is 0
unfoldable pub bit_step : ℕ → ℕ
bit_step word = bit_xor (word / 2) (if word % 2 == 1 then 3988292384 else 0)

unfoldable pub bit_steps : ℕ → ℕ → ℕ
bit_steps zero word = word
bit_steps (suc count) word = bit_steps count (bit_step word)

-- the eight steps of a byte
unfoldable pub byte_step : ℕ → ℕ → ℕ
byte_step word byte = bit_steps 8 (bit_xor word byte)

-- the word after the bytes
unfoldable pub word_after : ℕ → List ℕ → ℕ
word_after word [] = word
word_after word (byte ∷ bytes) = word_after (byte_step word byte) bytes

-- the words that the eight steps make of the numbers from `first` on
unfoldable pub words_from : ℕ → ℕ → List ℕ
words_from zero first = []
words_from (suc count) first = bit_steps 8 first ∷ words_from count (suc first)

-- what a register holds: the word after all whole bytes, and the bits of the byte that is begun
pub record Sum : Type 0 where
  pub word : ℕ
  pub begun : List Bool

unfoldable pub empty_sum : Sum
empty_sum = record { word = 4294967295; begun = [] }

-- the bits behind the last whole byte
unfoldable pub begun_of : List Bool → List Bool
begun_of bits = drop (8 * (length bits / 8)) bits

-- what a register holds whose byte that is begun has `count` bits, which write a number
abbrev pub sum_of : ℕ → ℕ → ℕ → Sum
sum_of word count part = record { word = word; begun = number_bits count part }

-- what a register holds after the bits
unfoldable pub added : Sum → List Bool → Sum
added sum bits =
    record {
      word = word_after sum.word (bytes_of (sum.begun ++ bits));
      begun =
          begun_of (sum.begun ++ bits);
    }

-- the register holds the sum of the bits
unfoldable pub Sums : Sum → List Bool → Type 0
Sums sum bits = sum ≡ added empty_sum bits

-- the check of what a register holds
unfoldable pub check_of_sum : Sum → ℕ
check_of_sum sum = 2 ^ 32 - 1 - word_after sum.word (bytes_of (padded sum.begun))
