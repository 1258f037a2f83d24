-- What is put for one end or direction is found there, and the other one stays.
use Rattle.std.specs.Prelude.{◌≡◌}
use Rattle.std.proofs.Common.{refl}
use Rattle.schc_ids.specs.declared.ends.Role.{Role}
use Rattle.schc_ids.specs.declared.ends.Role.TheVariants.{Device, Gateway}
use Rattle.schc_ids.specs.declared.ends.Direction.{Direction}
use Rattle.schc_ids.specs.declared.ends.Direction.TheVariants as way
use Rattle.schc_ids.specs.Ends.{other_role, other_direction}
use Rattle.schc_ids.specs.PerRole.{PerRole, at_role, put_role}
use Rattle.schc_ids.specs.PerDirection.{PerDirection, at_direction, put_direction}

-- what is put for an end is found there
pub at_role-put_role : {A : Type 0} (both : PerRole A) (role : Role) (one : A)
    → at_role (put_role both role one) role ≡ one
at_role-put_role both Device one = refl
at_role-put_role both Gateway one = refl

pub at_role-put_role-other : {A : Type 0} (both : PerRole A) (role : Role) (one : A)
    → at_role (put_role both role one) (other_role role) ≡ at_role both (other_role role)
at_role-put_role-other both Device one = refl
at_role-put_role-other both Gateway one = refl

-- what is put for a direction is found there
pub at_direction-put_direction : {A : Type 0} (both : PerDirection A) (direction : Direction)
    (one : A) → at_direction (put_direction both direction one) direction ≡ one
at_direction-put_direction both way.Up one = refl
at_direction-put_direction both way.Down one = refl

pub at_direction-put_direction-other : {A : Type 0} (both : PerDirection A) (direction : Direction)
    (one : A)
    → at_direction (put_direction both direction one) (other_direction direction) ≡ at_direction
    both (other_direction direction)
at_direction-put_direction-other both way.Up one = refl
at_direction-put_direction-other both way.Down one = refl
