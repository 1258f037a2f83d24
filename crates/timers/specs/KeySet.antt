-- The lowest key of a set, at the root of a tree.
use Rattle.std.specs.Prelude.{ℕ, ◌⊎◌, ◌≡◌, ◌<◌, ◌≤◌, ◌+◌, ◌*◌, Bool, true, false, List, length}
use Rattle.std.specs.Prelude.{slice_index_or}

-- x is the lower of a and b
pub record IsLowerOf (x a b : ℕ) : Type 0 where
  pub first : x ≤ a
  pub second : x ≤ b
  pub one : (x ≡ a) ⊎ (x ≡ b)

-- each node that has nodes below it is the lower of them; node 1 is the root
pub record IsTree (nodes : List ℕ) : Type 0 where
  pub at : (i : ℕ) → 1 ≤ i → 2 * i + 1 < length nodes →
      IsLowerOf (slice_index_or nodes i 0) (slice_index_or nodes (2 * i) 0)
      (slice_index_or nodes (2 * i + 1) 0)

-- what the leaf of a key has: the key where it is in the set, and a number above all keys where it
-- isn't
abbrev pub leaf_of : ℕ → Bool → ℕ
leaf_of key true = key
leaf_of key false = 4294967295

-- the leaves stand behind the other nodes
pub record HasLeaves (members : List Bool) (nodes : List ℕ) : Type 0 where
  pub at : (key : ℕ) → key < length members →
      slice_index_or nodes (length members + key) 0 ≡ leaf_of key (slice_index_or members key false)
