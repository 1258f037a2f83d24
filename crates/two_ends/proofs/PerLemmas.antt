-- What holds at each end or in each direction holds there too after something was put at one of
-- them.
use Rattle.std.proofs.Common.{◌≡◌, refl}
use Rattle.schc_ids.specs.declared.ends.Role.{Role}
use Rattle.schc_ids.specs.declared.ends.Role.TheVariants.{Device, Gateway}
use Rattle.schc_ids.specs.declared.ends.Direction.{Direction}
use Rattle.schc_ids.specs.declared.ends.Direction.TheVariants as way
use Rattle.schc_ids.specs.Ends.{sent_direction, other_role}
use Rattle.schc_ids.specs.PerRole.{PerRole, at_role, put_role}
use Rattle.schc_ids.specs.PerDirection.{PerDirection, at_direction, put_direction}
use Rattle.two_ends.specs.World.{sender, taker}

-- one value was put
pub each-put_role : {A : Type 0} (P : Role → A → Type 0) (xs : PerRole A) (role : Role) (x : A)
    → P role x → ((other : Role) → P other (at_role xs other)) → (other : Role)
    → P other (at_role (put_role xs role x) other)
each-put_role P xs Device x p each Device = p
each-put_role P xs Device x p each Gateway = each Gateway
each-put_role P xs Gateway x p each Device = each Device
each-put_role P xs Gateway x p each Gateway = p

-- two values were put at the same end
pub both-put_role : {A B : Type 0} (P : Role → A → B → Type 0) (xs : PerRole A) (ys : PerRole B)
    (role : Role) (x : A) (y : B) → P role x y
    → ((other : Role) → P other (at_role xs other) (at_role ys other)) → (other : Role)
    → P other (at_role (put_role xs role x) other) (at_role (put_role ys role y) other)
both-put_role P xs ys Device x y p each Device = p
both-put_role P xs ys Device x y p each Gateway = each Gateway
both-put_role P xs ys Gateway x y p each Device = each Device
both-put_role P xs ys Gateway x y p each Gateway = p

-- two values were put in the same direction
pub both-put_direction : {A B : Type 0} (P : Direction → A → B → Type 0) (xs : PerDirection A)
    (ys : PerDirection B) (direction : Direction) (x : A) (y : B) → P direction x y
    → ((other : Direction) → P other (at_direction xs other) (at_direction ys other))
    → (other : Direction)
    → P other (at_direction (put_direction xs direction x) other)
    (at_direction (put_direction ys direction y) other)
both-put_direction P xs ys way.Up x y p each way.Up = p
both-put_direction P xs ys way.Up x y p each way.Down = each way.Down
both-put_direction P xs ys way.Down x y p each way.Up = each way.Up
both-put_direction P xs ys way.Down x y p each way.Down = p

-- what was there was put
pub put_direction-at_direction : {A : Type 0} (xs : PerDirection A) (direction : Direction)
    → put_direction xs direction (at_direction xs direction) ≡ xs
put_direction-at_direction xs way.Up = refl
put_direction-at_direction xs way.Down = refl

-- where what was at an end is put there, nothing changes
pub put_role-at_role : {A : Type 0} (xs : PerRole A) (role : Role)
    → put_role xs role (at_role xs role) ≡ xs
put_role-at_role xs Device = refl
put_role-at_role xs Gateway = refl

-- what was put last is there
pub put_role-put_role : {A : Type 0} (xs : PerRole A) (role : Role) (x y : A)
    → put_role (put_role xs role x) role y ≡ put_role xs role y
put_role-put_role xs Device x y = refl
put_role-put_role xs Gateway x y = refl

-- the end that the frames of an end come to is the other one
pub taker-sent : (role : Role) → taker (sent_direction role) ≡ other_role role
taker-sent Device = refl
taker-sent Gateway = refl

-- where something is put at an end, the end that its frames come to has what it had
pub at_role-put_role-taker : {A : Type 0} (xs : PerRole A) (role : Role) (x : A)
    → at_role (put_role xs role x) (taker (sent_direction role)) ≡ at_role xs
    (taker (sent_direction role))
at_role-put_role-taker xs Device x = refl
at_role-put_role-taker xs Gateway x = refl

-- the direction in which the sender of a direction sends
pub sends-way : (direction : Direction) → sent_direction (sender direction) ≡ direction
sends-way way.Up = refl
sends-way way.Down = refl

-- one value was put in a direction
pub each-put_direction : {A : Type 0} (P : Direction → A → Type 0) (xs : PerDirection A)
    (direction : Direction) (x : A) → P direction x
    → ((other : Direction) → P other (at_direction xs other)) → (other : Direction)
    → P other (at_direction (put_direction xs direction x) other)
each-put_direction P xs way.Up x p each way.Up = p
each-put_direction P xs way.Up x p each way.Down = each way.Down
each-put_direction P xs way.Down x p each way.Up = each way.Up
each-put_direction P xs way.Down x p each way.Down = p
