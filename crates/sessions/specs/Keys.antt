-- RFC 8724, section 8.2.4: at an end a session has a RuleID, which is its port (RFC 9011, section
-- 5.1), and a DTag. Lists by this key, in the order in which they are served.
use Rattle.std.specs.Prelude.{ℕ, Bool, ◌==◌, ◌&&◌, cond, List, [], ◌∷◌, ◌++◌, Option, Some, None}

-- the DTag has no bits, so the tag is 0
pub record SessionKey : Type 0 where
  pub port : ℕ
  pub tag : ℕ

pub record Entry (A : Type 0) : Type 0 where
  pub key : SessionKey
  pub it : A

unfoldable pub same_key : SessionKey → SessionKey → Bool
same_key a b = (a.port == b.port) && (a.tag == b.tag)

-- what the key has
unfoldable pub found : {A : Type 0} → SessionKey → List (Entry A) → Option A
found key [] = None
found key (x ∷ xs) = cond (same_key key x.key) (Some x.it) (found key xs)

unfoldable pub entry : {A : Type 0} → SessionKey → Option A → List (Entry A)
entry key None = []
entry key (Some x) = record { key = key; it = x } ∷ []

unfoldable pub without : {A : Type 0} → SessionKey → List (Entry A) → List (Entry A)
without key [] = []
without key (x ∷ xs) = cond (same_key key x.key) (without key xs) (x ∷ without key xs)

-- the list where the key has this, or nothing; it keeps its place, and a new key comes last
unfoldable pub put_in : {A : Type 0} → SessionKey → Option A → List (Entry A) → List (Entry A)
put_in key o [] = entry key o
put_in key o (x ∷ xs) =
    cond (same_key key x.key) (entry key o ++ without key xs) (x ∷ put_in key o xs)

-- each value changed, or gone
unfoldable pub changed : {A : Type 0} → (A → Option A) → List (Entry A) → List (Entry A)
changed f [] = []
changed f (x ∷ xs) = entry x.key (f x.it) ++ changed f xs

-- each value changed
unfoldable pub each : {A : Type 0} → (A → A) → List (Entry A) → List (Entry A)
each f [] = []
each f (x ∷ xs) = record x { it = f x.it } ∷ each f xs
