-- How a script is cut into lines and words, and how numbers and bytes are spelled in them.
use Rattle.std.specs.Prelude.{ℕ, ◌==◌, ◌&&◌, nat_lt, Bool, false, not, if◌then◌else◌, List, [], ◌∷◌}
use Rattle.std.specs.Prelude.{length, Option, Some, None, Result, Ok, Err}
use Rattle.std.specs.Option.{option_map, option_and_then}
use Rattle.std.specs.List.{slice_split, list_all}
use Rattle.std.specs.Char.{is_ascii_digit}
use Rattle.std.specs.Str.Parse.{digits_value}
use Rattle.std.specs.Int.{from_be_bytes}
use mir.Syntax.{w64}
use Rattle.hex.specs.Hex.{decode_of, decode_sized}

-- a value from a value, where there is one
infixl 10 ◌>>=◌
abbrev pub ◌>>=◌ : {A B : Type 0} → Option A → (A → Option B) → Option B
first >>= second = option_and_then second first

-- the byte that ends a line
abbrev pub is_line_feed : ℕ → Bool
is_line_feed b = b == 10

-- the byte that stands between two words
abbrev pub is_space : ℕ → Bool
is_space b = b == 32

-- some parts, but for an empty one at the end
abbrev pub without_empty_end : List (List ℕ) → List (List ℕ)
without_empty_end [] = []
without_empty_end (part ∷ []) = if length part == 0 then [] else part ∷ []
without_empty_end (part ∷ next ∷ parts) = part ∷ without_empty_end (next ∷ parts)

-- the lines of a text: each ends with a line feed, which the last may lack
abbrev pub lines_of : List ℕ → List (List ℕ)
lines_of text = without_empty_end (slice_split is_line_feed text)

-- the words of a line: one space stands between two of them
abbrev pub words_of : List ℕ → List (List ℕ)
words_of line = slice_split is_space line

-- a decimal number without a sign and without a leading zero, but `0` itself
abbrev pub is_numeral : List ℕ → Bool
is_numeral [] = false
is_numeral (digit ∷ []) = is_ascii_digit digit
is_numeral (digit ∷ next ∷ digits) =
    not (digit == 48) && list_all is_ascii_digit (digit ∷ next ∷ digits)

-- the number below the limit that a word spells
unfoldable pub number_of : ℕ → List ℕ → Option ℕ
number_of limit word =
    if is_numeral word && nat_lt (digits_value 10 word) limit then Some (digits_value 10 word)
    else None

-- a value that was read, where one was
abbrev pub read_value : {A E : Type 0} → Result A E → Option A
read_value (Ok value) = Some value
read_value (Err _) = None

-- at least one byte
abbrev pub some_bytes : List ℕ → Option (List ℕ)
some_bytes [] = None
some_bytes (byte ∷ bytes) = Some (byte ∷ bytes)

-- the bytes that a word spells: two hex digits for each, in either case, and at least one byte
unfoldable pub packet_in : List ℕ → Option (List ℕ)
packet_in word = option_and_then some_bytes (read_value (decode_of word))

-- the interface identifier that a word spells: 16 hex digits in either case, the highest first
unfoldable pub iid_of : List ℕ → Option ℕ
iid_of word = option_map (from_be_bytes w64) (read_value (decode_sized word 8))
