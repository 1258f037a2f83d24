-- The sessions of a link by their keys, and what belongs to the sessions of one key.
use Rattle.std.specs.Prelude.{Bool, true, false, cond, List, [], ◌∷◌, map, Option, Some, None}
use Rattle.std.specs.List.{flat_map}
use Rattle.schc_ids.specs.Ends.{sent_direction, taken_direction}
use Rattle.schc_ids.specs.Fragments.{params_of}
use Rattle.schc_ids.specs.declared.ends.Direction.{Direction}
use Rattle.schc_ids.specs.declared.ends.Direction.TheVariants as way
use Rattle.schc_ids.specs.declared.ends.EndParams.{EndParams}
use Rattle.schc_ids.specs.declared.ends.Role.{Role}
use Rattle.schc_ids.specs.declared.fragments.FragMode.{FragMode}
use Rattle.schc_ids.specs.declared.fragments.FragMode.TheVariants.{NoAck}
use Rattle.lorawan_profile.specs.Ports.{fragments_by}
use Rattle.sessions.specs.Keys.{SessionKey}
use Rattle.sessions.specs.Keys as at_end
use Rattle.lanes.specs.Lane.{LaneParams}

-- RFC 8724, section 8.2.4: the direction of the fragments, the RuleID, which is the port, and the
-- DTag
pub record Key : Type 0 where
  pub way : Direction
  pub id : SessionKey

pub record Keyed (A : Type 0) : Type 0 where
  pub key : Key
  pub it : A

-- the key of what an end sends, and of what it receives
abbrev pub sent_key : Role → SessionKey → Key
sent_key role id = record { way = sent_direction role; id = id }

abbrev pub taken_key : Role → SessionKey → Key
taken_key role id = record { way = taken_direction role; id = id }

abbrev pub same_way : Direction → Direction → Bool
same_way way.Up way.Up = true
same_way way.Up way.Down = false
same_way way.Down way.Up = false
same_way way.Down way.Down = true

unfoldable pub same_key : Key → Key → Bool
same_key a b = cond (same_way a.way b.way) (at_end.same_key a.id b.id) false

-- the value, if it is to be there
abbrev pub piece : {A : Type 0} → Bool → A → List A
piece true x = x ∷ []
piece false x = []

-- what belongs to the key
unfoldable pub of_key : {A : Type 0} → Key → List (Keyed A) → List A
of_key key xs = flat_map (λ x. piece (same_key key x.key) x.it) xs

-- these values belong to the key
abbrev pub keyed : {A : Type 0} → Key → List A → List (Keyed A)
keyed key xs = map (λ x. record { key = key; it = x }) xs

abbrev pub mode_or : Option (Direction × FragMode) → FragMode
mode_or None = NoAck
mode_or (Some fragments) = fragments.1

-- the mode of the key's sessions (RFC 9011, section 5.2); where no fragments go by the port there
-- are none
unfoldable pub mode_of : Key → FragMode
mode_of key = mode_or (fragments_by key.id.port)

abbrev pub lane_params : EndParams → Key → LaneParams
lane_params params key = record { frag = params_of (mode_of key); ends = params }
