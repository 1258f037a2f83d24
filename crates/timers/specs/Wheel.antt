-- The wheel: deadlines, the set of the keys whose deadline has come, and the places of the others.
-- Each of the four levels has 32 places, at level l of 32 ^ l ticks each: the ticks from n 32 ^ l
-- on are those of place n % 32.
use Rattle.std.specs.Prelude.{ℕ, ◌⊎◌, ◌≡◌, ◌≢◌, ◌<◌, ◌≤◌, ◌+◌, ◌-◌, ◌*◌, ◌/◌, ◌%◌, ◌^◌, Bool, true}
use Rattle.std.specs.Prelude.{false, Option, None, Some, List, length, slice_set, slice_index_or}

-- the ticks that are left of a deadline
abbrev pub left : ℕ → Option ℕ → Option ℕ
left now None = None
left now (Some at) = Some (at - now)

-- the place of the n-th turn at the level
abbrev pub place_at : ℕ → ℕ → ℕ
place_at level number = 32 * level + number % 32

-- the place is opened after now, and not after the deadline
pub record IsAhead (now at place : ℕ) : Type 0 where
  pub level : ℕ
  pub number : ℕ
  pub level_is : level < 4
  pub ahead : now / 32 ^ level < number
  pub in_time : number ≤ at / 32 ^ level
  pub place_is : place ≡ place_at level number

-- a key whose deadline has come is in the set, and one whose deadline is to come is at a place
-- ahead
abbrev pub IsFiled : ℕ → Option ℕ → Bool → ℕ → Type 0
IsFiled now None member place = member ≡ false
IsFiled now (Some at) member place = ((at ≤ now) × (member ≡ true))
    ⊎ ((member ≡ false) × IsAhead now at place)

-- the place begins now, at a level from `from` on
pub record Begins (now from place : ℕ) : Type 0 where
  pub level : ℕ
  pub from_is : from ≤ level
  pub level_is : level < 4
  pub begins : now % 32 ^ level ≡ 0
  pub place_is : place ≡ place_at level (now / 32 ^ level)

-- a key is filed, or it is at a place that begins now and isn't opened yet: the levels below `from`
-- are
abbrev pub IsFiledFrom : ℕ → ℕ → Option ℕ → Bool → ℕ → Type 0
IsFiledFrom now from deadline member place = IsFiled now deadline member place
    ⊎ ((member ≡ false) × Begins now from place)

-- so is the key with this number
abbrev pub IsKeyFiled : ℕ → ℕ → List (Option ℕ) → List Bool → List ℕ → ℕ → Type 0
IsKeyFiled now from deadlines members places key =
    IsFiledFrom now from (slice_index_or deadlines key None) (slice_index_or members key false)
    (slice_index_or places (128 + key) 0)

-- so is each key; the lists have all keys
pub record IsIndex (now from : ℕ) (deadlines : List (Option ℕ)) (members : List Bool)
    (places : List ℕ) : Type 0 where
  pub members_len : length members ≡ length deadlines
  pub places_len : length places ≡ 128 + length deadlines
  pub at : (key : ℕ) → key < length deadlines → IsKeyFiled now from deadlines members places key

-- all levels are opened
pub record IsWheel (now : ℕ) (deadlines : List (Option ℕ)) (members : List Bool)
    (places : List ℕ) : Type 0 where
  pub below_last : now ≤ 2 ^ 31
  pub keys : length deadlines < 2 ^ 32
  pub index : IsIndex now 4 deadlines members places

-- the place of a key whose deadline is to come
abbrev pub IsPlaceOf : ℕ → Option ℕ → ℕ → Type 0
IsPlaceOf now None place = Unit {0}
IsPlaceOf now (Some at) place = now < at → IsAhead now at place

-- whether the deadline has come
abbrev pub HasCome : ℕ → Option ℕ → Bool → Type 0
HasCome now None member = member ≡ false
HasCome now (Some at) member = ((at ≤ now) × (member ≡ true)) ⊎ ((now < at) × (member ≡ false))

-- the place isn't one that begins now
abbrev pub IsElsewhere : ℕ → ℕ → Type 0
IsElsewhere now place = (level : ℕ) → level < 4 → place ≢ place_at level (now / 32 ^ level)

-- a key is filed anew, and the others stay
pub record IsFiledAnew (now key : ℕ) (deadline : Option ℕ) (members members' : List Bool)
    (places places' : List ℕ) : Type 0 where
  pub member : Bool
  pub place : ℕ
  pub members_are : members' ≡ slice_set members key member
  pub places_are : places' ≡ slice_set places (128 + key) place
  pub filed : IsFiled now deadline member place
  pub elsewhere : IsElsewhere now place
