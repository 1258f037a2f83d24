use Rattle.std.specs.Prelude.{Bool, true, false, ◌&&◌, ◌||◌}
use Rattle.schc_ids.specs.declared.ends.Role.{Role}
use Rattle.schc_ids.specs.declared.ends.Role.TheVariants.{Device, Gateway}
use Rattle.schc_ids.specs.declared.ends.Direction.{Direction}
use Rattle.schc_ids.specs.declared.ends.Direction.TheVariants as way
use Rattle.schc_ids.specs.declared.ends.DirInd.{DirInd}
use Rattle.schc_ids.specs.declared.ends.DirInd.TheVariants as indicator

-- the end at the other side of the link
abbrev pub other_role : Role → Role
other_role Device = Gateway
other_role Gateway = Device

-- the direction of what an end sends: a device sends up, a gateway down
abbrev pub sent_direction : Role → Direction
sent_direction Device = way.Up
sent_direction Gateway = way.Down

-- the direction of what an end takes
abbrev pub taken_direction : Role → Direction
taken_direction role = sent_direction (other_role role)

-- the other way
abbrev pub other_direction : Direction → Direction
other_direction way.Up = way.Down
other_direction way.Down = way.Up

-- an entry is used in the direction that its indicator (DI) names, or in both: RFC 8724, section
-- 7.1
abbrev pub covers : DirInd → Direction → Bool
covers indicator.Up way.Up = true
covers indicator.Up way.Down = false
covers indicator.Down way.Up = false
covers indicator.Down way.Down = true
covers indicator.Both direction = true

-- some direction is among those of both indicators
abbrev pub share_direction : DirInd → DirInd → Bool
share_direction a b =
    (covers a way.Up && covers b way.Up) || (covers a way.Down && covers b way.Down)
