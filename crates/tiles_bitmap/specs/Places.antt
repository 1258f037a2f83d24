-- RFC 8724, section 8.2.2.3: the places of an SCHC packet's tiles, what is held of them, and
-- bitmaps.
use Rattle.std.specs.Prelude.{ℕ, ◌≡◌, ◌⊎◌, zero, suc, ◌*◌, ◌%◌, Bool, true, false, not, ◌==◌, List}
use Rattle.std.specs.Prelude.{[], ◌∷◌, ◌++◌, take, drop, if◌then◌else◌, Option, Some, None}

-- the numbers from here on
unfoldable pub numbers_from : ℕ → ℕ → List ℕ
numbers_from k zero = []
numbers_from k (suc n) = k ∷ numbers_from (suc k) n

-- a place that holds a tile keeps it
unfoldable pub or_kept : Option (List Bool) → List Bool → Option (List Bool)
or_kept None tile = Some tile
or_kept (Some held) tile = Some held

-- the places after these tiles came for the place with this number and those after it
unfoldable pub keep : ℕ → List (List Bool) → List (Option (List Bool)) → List (Option (List Bool))
keep k tiles [] = []
keep zero [] (place ∷ places) = place ∷ places
keep zero (tile ∷ tiles) (place ∷ places) = or_kept place tile ∷ keep zero tiles places
keep (suc k) tiles (place ∷ places) = place ∷ keep k tiles places

-- which places hold a tile
unfoldable pub held_bits : List (Option (List Bool)) → List Bool
held_bits [] = []
held_bits (None ∷ places) = false ∷ held_bits places
held_bits (Some tile ∷ places) = true ∷ held_bits places

-- the tiles that are held, joined
unfoldable pub joined_tiles : List (Option (List Bool)) → List Bool
joined_tiles [] = []
joined_tiles (None ∷ places) = joined_tiles places
joined_tiles (Some tile ∷ places) = tile ++ joined_tiles places

unfoldable pub all_true : List Bool → Bool
all_true [] = true
all_true (true ∷ bits) = all_true bits
all_true (false ∷ bits) = false

unfoldable pub none_true : List Bool → Bool
none_true [] = true
none_true (false ∷ bits) = none_true bits
none_true (true ∷ bits) = false

-- no bit is true behind one that isn't
unfoldable pub no_gap : List Bool → Bool
no_gap [] = true
no_gap (true ∷ bits) = no_gap bits
no_gap (false ∷ bits) = none_true bits

-- the lowest window below the last that isn't full, else the last
unfoldable pub open_window : ℕ → ℕ → List Bool → ℕ
open_window size zero bits = zero
open_window size (suc last) bits =
    if all_true (take size bits) then suc (open_window size last (drop size bits)) else zero

unfoldable pub bitmap : ℕ → ℕ → List Bool → List Bool
bitmap size window bits = take size (drop (window * size) bits)

-- the rightmost bit stands for a tile that came
unfoldable pub with_last : List Bool → List Bool
with_last [] = []
with_last (b ∷ []) = true ∷ []
with_last (b ∷ c ∷ bits) = b ∷ with_last (c ∷ bits)

-- the numbers from here on, so many, whose bit is 0
unfoldable pub missing : ℕ → ℕ → List Bool → List ℕ
missing k zero bits = []
missing k (suc left) [] = []
missing k (suc left) (true ∷ bits) = missing (suc k) left bits
missing k (suc left) (false ∷ bits) = k ∷ missing (suc k) left bits

-- the number follows this one in its window
unfoldable pub goes_on : ℕ → ℕ → ℕ → Bool
goes_on size k next = if next == suc k then not (next % size == 0) else false

unfoldable pub one_more : Bool → ℕ × List ℕ → List ℕ → ℕ × List ℕ
one_more true rest numbers = (suc rest.0, rest.1)
one_more false rest numbers = (zero, numbers)

-- how many of the numbers follow this one without a gap in its window, at most so many; and the
-- others
unfoldable pub run : ℕ → ℕ → ℕ → List ℕ → ℕ × List ℕ
run size zero k numbers = (zero, numbers)
run size (suc most) k [] = (zero, [])
run size (suc most) k (next ∷ numbers) =
    one_more (goes_on size k next) (run size most next numbers) (next ∷ numbers)

-- the item is one of the list
abbrev pub Among : {A : Type 0} → A → List A → Type 0
Among x [] = ⊥
Among x (y ∷ ys) = (x ≡ y) ⊎ Among x ys
