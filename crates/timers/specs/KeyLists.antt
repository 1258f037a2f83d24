-- Rings of nodes, each of the head of a place and the keys of that place.
use Rattle.std.specs.Prelude.{ℕ, ◌≡◌, ◌<◌, ◌≤◌, ◌==◌, cond, List, length, slice_index_or}

-- a and b are exchanged
abbrev pub exchanged : ℕ → ℕ → ℕ → ℕ
exchanged a b x = cond (x == a) b (cond (x == b) a x)

-- the nodes below `total` are in rings: `previous` leads back where `next` leads to
pub record AreInverse (total : ℕ) (next previous : ℕ → ℕ) : Type 0 where
  pub next_inside : (x : ℕ) → x < total → next x < total
  pub previous_inside : (x : ℕ) → x < total → previous x < total
  pub back : (x : ℕ) → x < total → previous (next x) ≡ x
  pub forth : (x : ℕ) → x < total → next (previous x) ≡ x

-- what was behind a is behind b, and the other way round
pub record IsExchanged (total a b : ℕ) (next previous next' previous' : ℕ → ℕ) : Type 0 where
  pub next_is : (x : ℕ) → x < total → next' x ≡ next (exchanged a b x)
  pub previous_is : (x : ℕ) → x < total → previous' x ≡ exchanged a b (previous x)

-- each ring has nodes of one place. Each key of a place is in the ring of its head, since its rank
-- is above that of the node before it.
pub record AreRings (total : ℕ) (place next previous rank : ℕ → ℕ) : Type 0 where
  pub inverse : AreInverse total next previous
  pub alike : (x : ℕ) → x < total → place (next x) ≡ place x
  pub heads : (x : ℕ) → x < 128 → place x ≡ x
  pub ranked : (x : ℕ) → x < total → 128 ≤ x → place x < 128 → rank (previous x) < rank x

-- the number that a list has at a node
abbrev pub at_node : List ℕ → ℕ → ℕ
at_node list x = slice_index_or list x 0

pub record AreLinked (places next previous : List ℕ) : Type 0 where
  pub next_len : length next ≡ length places
  pub previous_len : length previous ≡ length places
  pub heads_inside : 128 ≤ length places
  pub rank : ℕ → ℕ
  pub rings : AreRings (length places) (at_node places) (at_node next) (at_node previous) rank
