-- Lists of any items.
use Rattle.std.specs.Prelude.{ℕ, ◌≡◌, ◌-◌, zero, suc, List, [], ◌∷◌, ◌++◌, length, take, drop}
use Rattle.std.specs.Prelude.{slice_get, Some}
use Rattle.std.specs.List.{AllByRecursion}
use Rattle.std.proofs.Common.{arith, subst, length-append}
use Rattle.std.proofs.lemmas.List.{drop_at}

-- what stands at a place of a list stands there in a longer one
pub slice_get-more : {A : Type 0} (xs ys : List A) (i : ℕ) (x : A) → slice_get xs i ≡ Some x
    → slice_get (xs ++ ys) i ≡ Some x
slice_get-more [] ys i x e = absurd cc
slice_get-more (y ∷ xs) ys zero x e = e
slice_get-more (y ∷ xs) ys (suc i) x e = slice_get-more xs ys i x e

-- what holds of each item holds of the one at a place
pub all-at_place : {A : Type 0} (P : A → Type 0) (xs : List A) (i : ℕ) (x : A) → AllByRecursion P xs
    → slice_get xs i ≡ Some x → P x
all-at_place P [] i x all e = absurd cc
all-at_place P (y ∷ xs) zero x all e = let same : y ≡ x = cc in subst P same all.0
all-at_place P (y ∷ xs) (suc i) x all e = all-at_place P xs i x all.1 e

-- what holds of each item of two lists holds of each of the one behind the other
pub all-append : {A : Type 0} (P : A → Type 0) (xs ys : List A) → AllByRecursion P xs
    → AllByRecursion P ys → AllByRecursion P (xs ++ ys)
all-append P [] ys first second = second
all-append P (x ∷ xs) ys first second = (first.0, all-append P xs ys first.1 second)

-- what holds of each item, and of one more, holds of each with that one at the end
pub all-push : {A : Type 0} (P : A → Type 0) (xs : List A) (x : A) → AllByRecursion P xs → P x
    → AllByRecursion P (xs ++ x ∷ [])
all-push P xs x all p = all-append P xs (x ∷ []) all (p, tt)

-- what holds of each item holds of each of the first ones
pub all-take : {A : Type 0} (P : A → Type 0) (n : ℕ) (xs : List A) → AllByRecursion P xs
    → AllByRecursion P (take n xs)
all-take P zero xs all = tt
all-take P (suc n) [] all = tt
all-take P (suc n) (x ∷ xs) all = (all.0, all-take P n xs all.1)

-- what holds of each item holds of each that is left behind the first ones
pub all-drop : {A : Type 0} (P : A → Type 0) (n : ℕ) (xs : List A) → AllByRecursion P xs
    → AllByRecursion P (drop n xs)
all-drop P zero xs all = all
all-drop P (suc n) [] all = tt
all-drop P (suc n) (x ∷ xs) all = all-drop P n xs all.1

-- what follows for any item from what holds of each item of a list holds of each of them too
pub all-weaken : {A : Type 0} (P Q : A → Type 0) (xs : List A) → ((x : A) → P x → Q x)
    → AllByRecursion P xs → AllByRecursion Q xs
all-weaken P Q [] f all = tt
all-weaken P Q (x ∷ xs) f all = (f x all.0, all-weaken P Q xs f all.1)

-- the two halves of what holds of each item
pub all-firsts : {A : Type 0} (P Q : A → Type 0) (xs : List A) → AllByRecursion (λ x. P x × Q x) xs
    → AllByRecursion P xs
all-firsts P Q xs all = all-weaken (λ x. P x × Q x) P xs (λ x both. both.0) all

pub all-seconds : {A : Type 0} (P Q : A → Type 0) (xs : List A) → AllByRecursion (λ x. P x × Q x) xs
    → AllByRecursion Q xs
all-seconds P Q xs all = all-weaken (λ x. P x × Q x) Q xs (λ x both. both.1) all

-- what stands last is what is left behind the front
pub drop-front : {A : Type 0} (front back : List A)
    → drop (length (front ++ back) - length back) (front ++ back) ≡ back
drop-front front back =
    drop_at front back (length (front ++ back) - length back)
    (omega (arith, length-append front back))
