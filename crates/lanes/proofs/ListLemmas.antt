-- Lists.
use Rattle.std.proofs.Common.{◌≡◌, List, [], ◌∷◌, ◌++◌, Some, refl, sym, subst, inl, inr}
use Rattle.std.specs.List.{AllByRecursion}
use Rattle.tiles_bitmap.specs.Places.{Among}
use Rattle.lanes.specs.Lane.{last_item}

-- what follows from something that holds of all items holds of them all
pub all-weaken : {A : Type 0} (P Q : A → Type 0) (xs : List A) → ((x : A) → P x → Q x)
    → AllByRecursion P xs → AllByRecursion Q xs
all-weaken P Q [] f all = tt
all-weaken P Q (x ∷ xs) f all = (f x all.0, all-weaken P Q xs f all.1)

-- what holds of all items of two lists holds of all items of both together
pub all-append : {A : Type 0} (P : A → Type 0) (xs ys : List A) → AllByRecursion P xs
    → AllByRecursion P ys → AllByRecursion P (xs ++ ys)
all-append P [] ys all more = more
all-append P (x ∷ xs) ys all more = (all.0, all-append P xs ys all.1 more)

-- what holds of all items of a list holds of each that is among them
pub all-among : {A : Type 0} (P : A → Type 0) (xs : List A) (x : A) → Among x xs
    → AllByRecursion P xs → P x
all-among P [] x there all = absurd there
all-among P (y ∷ xs) x (inl e) all = subst P (sym e) all.0
all-among P (y ∷ xs) x (inr there) all = all-among P xs x there all.1

-- an item of a list is still there when more are put behind
pub among-more : {A : Type 0} (x : A) (xs ys : List A) → Among x xs → Among x (xs ++ ys)
among-more x [] ys there = absurd there
among-more x (y ∷ xs) ys (inl e) = inl e
among-more x (y ∷ xs) ys (inr there) = inr (among-more x xs ys there)

-- an item of a list is still there when others are put in front
pub among-after : {A : Type 0} (x : A) (xs ys : List A) → Among x ys → Among x (xs ++ ys)
among-after x [] ys there = there
among-after x (y ∷ xs) ys there = inr (among-after x xs ys there)

-- an item that is put behind a list is its last
pub last-push : {A : Type 0} (xs : List A) (x : A) → last_item (xs ++ x ∷ []) ≡ Some x
last-push [] x = refl
last-push (y ∷ []) x = refl
last-push (y ∷ z ∷ xs) x = last-push (z ∷ xs) x

-- the last item of a list is among its items
pub among-last : {A : Type 0} (xs : List A) (x : A) → last_item xs ≡ Some x → Among x xs
among-last [] x e = absurd cc
among-last (y ∷ []) x e = let same : y ≡ x = cc in inl (sym same)
among-last (y ∷ z ∷ xs) x e = inr (among-last (z ∷ xs) x e)
