-- Numbers, members and lists of JSON values (RFC 8259).
use Rattle.std.specs.Prelude.{ℕ, nat_lt, if◌then◌else◌, List, [], ◌∷◌, Option, Some, None}
use Rattle.std.specs.Option.{option_and_then}
use Rattle.serde_json.specs.Data.{Data, Items, no_items, item}
use Rattle.serde_json.specs.Find.{get, as_number, as_u64, as_array}

-- a value from a value, where there is one
infixl 10 ◌>>=◌
abbrev pub ◌>>=◌ : {A B : Type 0} → Option A → (A → Option B) → Option B
first >>= second = option_and_then second first

-- the number below the limit that a value is: whole, not negative and written as an integer
unfoldable pub number_below : ℕ → Data → Option ℕ
number_below limit d = do
  n ← option_and_then as_u64 (as_number d)
  if nat_lt n limit then Some n else None

-- what a member of an object is read as; none where the member isn't there
abbrev pub member_in : {A : Type 0} → List ℕ → (Data → Option A) → Data → Option A
member_in name read d = option_and_then read (get name d)

-- what a member of an object is read as, where it may be absent and then means `default`
abbrev pub default_or : {A : Type 0} → A → (Data → Option A) → Option Data → Option A
default_or default read None = Some default
default_or default read (Some d) = read d

-- what each of some values is read as
abbrev pub each_of : {A : Type 0} → (Data → Option A) → Items → Option (List A)
each_of read no_items = Some []
each_of read (item d ds) = read d >>= λ x. each_of read ds >>= λ xs. Some (x ∷ xs)

-- what the values of a list are read as
abbrev pub list_of : {A : Type 0} → (Data → Option A) → Data → Option (List A)
list_of read d = option_and_then (each_of read) (as_array d)
