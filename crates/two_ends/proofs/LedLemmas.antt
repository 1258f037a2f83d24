-- Lists whose items each have a label that leads to a packet that was handed down.
use Rattle.std.proofs.Common.{◌≡◌, ℕ, suc, List, [], ◌∷◌, ◌++◌, length, take, drop, Option, Some}
use Rattle.std.proofs.Common.{None, refl, sym, subst, ap}
use Rattle.std.specs.Prelude.{IsSomeAnd, slice_get}
use Rattle.two_ends.specs.Labels.{first_place}
use Rattle.two_ends.specs.Logs.{HandedDown}

-- each item has a label, and is related to the packet to which its label leads
abbrev pub Led : {A L : Type 0} → (A → HandedDown → Type 0) → (L → Option HandedDown) → List A
    → List L → Type 0
Led R find [] [] = Unit {0}
Led R find [] (l ∷ ls) = ⊥
Led R find (x ∷ xs) [] = ⊥
Led R find (x ∷ xs) (l ∷ ls) = IsSomeAnd (find l) (R x) × Led R find xs ls

-- a value that is there is one value
pub some-injective : {A : Type 0} {x y : A} → Some x ≡ Some y → x ≡ y
some-injective e = cc

-- the last item of a list is at the length of the rest
pub slice_get-last : {A : Type 0} (xs : List A) (x : A)
    → slice_get (xs ++ x ∷ []) (length xs) ≡ Some x
slice_get-last [] x = refl
slice_get-last (y ∷ xs) x = slice_get-last xs x

-- what holds of a value that is there, and implies something else, gives that
pub some-weaken : {A : Type 0} (o : Option A) (P Q : A → Type 0) → ((x : A) → P x → Q x)
    → IsSomeAnd o P → IsSomeAnd o Q
some-weaken None P Q f h = h
some-weaken (Some x) P Q f h = f x h

-- and where the value is there in another place too
pub some-moved : {A : Type 0} (o o' : Option A) (P Q : A → Type 0)
    → ((x : A) → o ≡ Some x → o' ≡ Some x) → ((x : A) → P x → Q x) → IsSomeAnd o P → IsSomeAnd o' Q
some-moved None o' P Q same f h = absurd h
some-moved (Some x) o' P Q same f h = subst (λ o. IsSomeAnd o Q) (sym (same x refl)) (f x h)

-- each label leads where it led before, and a relation that implies another may be put in its place
pub led-weaken : {A L : Type 0} (R S : A → HandedDown → Type 0) (find find' : L → Option HandedDown)
    → ((x : A) (l : L) → IsSomeAnd (find l) (R x) → IsSomeAnd (find' l) (S x))
    → (xs : List A) (ls : List L) → Led R find xs ls → Led S find' xs ls
led-weaken R S find find' f [] [] h = tt
led-weaken R S find find' f [] (l ∷ ls) h = absurd h
led-weaken R S find find' f (x ∷ xs) [] h = absurd h
led-weaken R S find find' f (x ∷ xs) (l ∷ ls) h = (f x l h.0, led-weaken R S find find' f xs ls h.1)

-- one more item, with one more label
pub led-push : {A L : Type 0} (R : A → HandedDown → Type 0) (find : L → Option HandedDown)
    (xs : List A) (ls : List L) (x : A) (l : L) → Led R find xs ls → IsSomeAnd (find l) (R x)
    → Led R find (xs ++ x ∷ []) (ls ++ l ∷ [])
led-push R find [] [] x l h p = (p, tt)
led-push R find [] (m ∷ ls) x l h p = absurd h
led-push R find (y ∷ xs) [] x l h p = absurd h
led-push R find (y ∷ xs) (m ∷ ls) x l h p = (h.0, led-push R find xs ls x l h.1 p)

-- the rest of the items has the rest of the labels
pub led-rest : {A L : Type 0} (R : A → HandedDown → Type 0) (find : L → Option HandedDown)
    (xs : List A) (ls : List L) → Led R find xs ls → Led R find (drop 1 xs) (drop 1 ls)
led-rest R find [] [] h = tt
led-rest R find [] (l ∷ ls) h = absurd h
led-rest R find (x ∷ xs) [] h = absurd h
led-rest R find (x ∷ xs) (l ∷ ls) h = h.1

-- the first item has the first label
pub led-first : {A L : Type 0} (R : A → HandedDown → Type 0) (find : L → Option HandedDown)
    (xs : List A) (ls : List L) (x : A) → slice_get xs 0 ≡ Some x → Led R find xs ls → (l : L)
    × (take 1 ls ≡ l ∷ []) × IsSomeAnd (find l) (R x)
led-first R find [] ls x e h = absurd cc
led-first R find (y ∷ xs) [] x e h = absurd h
led-first R find (y ∷ xs) (l ∷ ls) x e h =
    (l, refl, subst (λ v. IsSomeAnd (find l) (R v)) (some-injective e) h.0)

-- there are as many labels as items
pub led-length : {A L : Type 0} (R : A → HandedDown → Type 0) (find : L → Option HandedDown)
    (xs : List A) (ls : List L) → Led R find xs ls → length xs ≡ length ls
led-length R find [] [] h = refl
led-length R find [] (l ∷ ls) h = absurd h
led-length R find (x ∷ xs) [] h = absurd h
led-length R find (x ∷ xs) (l ∷ ls) h = ap suc (led-length R find xs ls h.1)

-- the first of the labels is the first place
pub led-first_place : {A : Type 0} (R : A → HandedDown → Type 0) (find : ℕ → Option HandedDown)
    (xs : List A) (ls : List ℕ) (x : A) → slice_get xs 0 ≡ Some x → Led R find xs ls
    → IsSomeAnd (find (first_place ls)) (R x)
led-first_place R find [] ls x e h = absurd cc
led-first_place R find (y ∷ xs) [] x e h = absurd h
led-first_place R find (y ∷ xs) (l ∷ ls) x e h =
    subst (λ v. IsSomeAnd (find l) (R v)) (some-injective e) h.0

-- where there is no item, there is no label
pub led-none : {A L : Type 0} (R : A → HandedDown → Type 0) (find : L → Option HandedDown)
    (xs : List A) (ls : List L) → xs ≡ [] → Led R find xs ls → ls ≡ []
led-none R find [] [] e h = refl
led-none R find [] (l ∷ ls) e h = absurd h
led-none R find (x ∷ xs) ls e h = absurd cc
