-- Lists by key.
use Rattle.std.specs.Prelude.{◌≡◌, ◌==◌, ◌&&◌, Bool, true, false, Option, Some, None}
use Rattle.std.proofs.Common.{refl, ap, ◌∙◌, eqb-true, eq-eqb}
use Rattle.sessions.specs.Keys.{SessionKey, same_key, found, entry, without, put_in}

-- a key is the same as itself
pub same_key_refl : (key : SessionKey) → same_key key key ≡ true
unfolding same_key
same_key_refl key = rw (eq-eqb key.port key.port refl, eq-eqb key.tag key.tag refl)

and-true : (x y : Bool) → x && y ≡ true → (x ≡ true) × (y ≡ true)
and-true true y e = (refl, e)
and-true false y e = absurd cc

-- keys that are found to be the same, by port and tag, are equal
pub same_key_true : (a b : SessionKey) → same_key a b ≡ true → a ≡ b
unfolding same_key
same_key_true a b e =
    let both = and-true (a.port == b.port) (a.tag == b.tag) e in
    ap (λ p. record { port = p; tag = a.tag }) (eqb-true a.port b.port both.0)
    ∙ ap (λ t. record { port = b.port; tag = t }) (eqb-true a.tag b.tag both.1)

-- a list of one key
pub found_own : {A : Type 0} (key : SessionKey) (o : Option A) → found key (entry key o) ≡ o
unfolding found entry
found_own key None = refl
found_own key (Some x) = rw (same_key_refl key)

-- in a list that has at most this key, what is put in takes the place of what the key had
pub put-own : {A : Type 0} (key : SessionKey) (old new : Option A)
    → put_in key new (entry key old) ≡ entry key new
unfolding put_in entry without
put-own key None None = refl
put-own key None (Some y) = refl
put-own key (Some x) None = rw (same_key_refl key)
put-own key (Some x) (Some y) = rw (same_key_refl key)

-- a list that has at most another key has nothing for this one
pub found-other : {A : Type 0} (key other : SessionKey) (o : Option A) → same_key key other ≡ false
    → found key (entry other o) ≡ None
unfolding found entry
found-other key other None e = refl
found-other key other (Some x) e = rw e
