-- What a check says of an assembly.
use Rattle.std.specs.Prelude.{ℕ, ◌≡◌, List, Option, Some}
use Rattle.rcs.specs.Division.{rcs_of}
use Rattle.tiles_bitmap.specs.Places.{Among}
use Rattle.lanes.specs.Lane.{Begun, Check, Lane, LaneParams, padded_of}

-- the value is the RCS of the session with this label (RFC 8724, section 8.2.3)
pub record IsRcsOf (params : LaneParams) (begins : List Begun) (label : Option ℕ) (value : ℕ) : Type
    0 where
  pub begun : Begun
  pub there : Among begun begins
  pub labelled : label ≡ Some begun.place
  pub same : value ≡ rcs_of (padded_of params begun.bits)

-- no assembly over which a check was made has the RCS of its session without being that session's
-- padded packet
abbrev pub IsHonest : Lane → Type 0
IsHonest l =
    (check : Check) (begun : Begun) → Among check l.checks → Among begun l.begins
    → check.session ≡ Some begun.place →
    rcs_of check.assembly ≡ rcs_of (padded_of l.params begun.bits)
    → check.assembly ≡ padded_of l.params begun.bits
