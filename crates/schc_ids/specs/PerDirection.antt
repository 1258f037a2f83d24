-- One thing for each direction.
use Rattle.schc_ids.specs.declared.ends.Direction.{Direction}
use Rattle.schc_ids.specs.declared.ends.Direction.TheVariants.{Up, Down}

pub record PerDirection (A : Type 0) : Type 0 where
  pub up : A
  pub down : A

-- the one of this direction
abbrev pub at_direction : {A : Type 0} → PerDirection A → Direction → A
at_direction both Up = both.up
at_direction both Down = both.down

-- the same with another one in this direction
abbrev pub put_direction : {A : Type 0} → PerDirection A → Direction → A → PerDirection A
put_direction both Up one = record { up = one; down = both.down }
put_direction both Down one = record { up = both.up; down = one }
