-- The numbers of the tiles to send, kept as a bitmap of each window: what the sender's fields mean.
use Rattle.std.specs.Prelude.{ℕ, ◌-◌, ◌%◌, ◌==◌, ◌&&◌, not, nat_lt, false, List, [], ◌∷◌, ◌++◌}
use Rattle.std.specs.Prelude.{Bool, drop, get_or, Option, Some, None}
use Rattle.schc_bits.specs.Bits.{number_bits}
use Rattle.tiles_bitmap.specs.Places.{missing, run}
use Rattle.aoe_sender.specs.Tiles.{window_size}
use Rattle.aoe_sender.specs.declared.to_send.TileRun.{TileRun}

-- the bits of the windows one after the other, which is the order of the numbers
unfoldable pub windows_bits : List ℕ → List Bool
windows_bits [] = []
windows_bits (word ∷ words) = number_bits window_size word ++ windows_bits words

-- the numbers from `at` on and below `end` whose bit is 0
unfoldable pub numbers_of : List ℕ → ℕ → ℕ → List ℕ
numbers_of words at end = missing at (end - at) (drop at (windows_bits words))

-- the lowest number and how many more go with it, and the numbers that are left
unfoldable pub first_run : ℕ → List ℕ → Option (TileRun × List ℕ)
first_run most [] = None
first_run most (number ∷ numbers) =
    let taken : ℕ × List ℕ = run window_size most number numbers in
    Some (record { first = number; more = taken.0 }, taken.1)

-- the number is below `end`, isn't the first of its window, and its bit is 0
unfoldable pub follows : List ℕ → ℕ → ℕ → Bool
follows words end number =
    nat_lt number end && not (number % window_size == 0) && not
    (get_or (windows_bits words) number false)
