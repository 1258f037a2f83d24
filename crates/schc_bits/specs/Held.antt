-- What a list type is seen as: its items, and beside them the room that is left.
use Rattle.std.specs.Prelude.{ℕ, List}

-- `spare` says for how many more items there is room already, so that `put` needs no memory
pub record Held (Item : Type 0) : Type 0 where
  pub items : List Item
  pub spare : ℕ
