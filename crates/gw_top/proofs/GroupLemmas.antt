-- Groups of devices and their shares, one after the other.
use Rattle.std.proofs.Common.{ℕ, zero, suc, ◌≡◌, ◌+◌, ◌-◌, ◌*◌, ◌<◌, ◌≤◌, List, [], ◌∷◌}
use Rattle.std.proofs.Common.{◌++◌, length, map, take, drop, All, slice_index_or, Option, Some}
use Rattle.std.proofs.Common.{None, option_map, Result, Ok, Err, Vec, refl, sym, ap, ◌∙◌, subst}
use Rattle.std.proofs.Common.{arith, cond, Bool, true, false, nat_lt}
use Rattle.std.specs.List.{AllByRecursion}
use Rattle.std.specs.Borrow.{Bor}
use Rattle.std.proofs.lemmas.Bool.{ltb-true, ltb-false}
use Rattle.std.proofs.lemmas.List.{map-append, append-nil, append_assoc, take-append-drop}
use Rattle.rule_model.specs.declared.raw.DeviceLine.{DeviceLine}
use Rattle.event_data.specs.declared.outcomes.Line.{Line}
use Rattle.script_lang.specs.Ranges.{HaveParams}
use Rattle.gw_top.specs.Groups.{joined, IsEven, IsShared, shares_in}

-- what holds of each item holds at each place
pub all-index : {A : Type 0} (P : A → Type 0) (xs : List A) → AllByRecursion P xs → All P xs
all-index P [] all k d less = absurd (omega arith)
all-index P (x ∷ xs) all zero d less = all.0
all-index P (x ∷ xs) all (suc k) d less = all-index P xs all.1 k d (omega arith)

-- a slice's list
abbrev pub now_of : Bor (List DeviceLine) → List DeviceLine
now_of group = group.now

-- one more group behind the others
pub joined_last : (groups : List (List DeviceLine)) (group : List DeviceLine)
    → joined (groups ++ group ∷ []) ≡ joined groups ++ group
joined_last [] group = append-nil group
joined_last (first ∷ groups) group = ap (λ rest. first ++ rest) (joined_last groups group)
    ∙ assoc first (joined groups) group
  where
    assoc : (xs ys zs : List DeviceLine) → xs ++ (ys ++ zs) ≡ (xs ++ ys) ++ zs
    assoc [] ys zs = refl
    assoc (x ∷ xs) ys zs = ap (λ rest. x ∷ rest) (assoc xs ys zs)

params-front : (xs ys : List DeviceLine) → HaveParams (xs ++ ys) → HaveParams xs × HaveParams ys
params-front [] ys all = (tt, all)
params-front (x ∷ xs) ys all = let rest = params-front xs ys all.1 in ((all.0, rest.0), rest.1)

module _ {G : Type 0} (devices_of : G → List DeviceLine) where
  params-each : (groups : List G) → HaveParams (joined (map devices_of groups))
      → AllByRecursion (λ (group : G). HaveParams (devices_of group)) groups
  params-each [] all = tt
  params-each (group ∷ groups) all =
      let parts = params-front (devices_of group) (joined (map devices_of groups)) all in
      (parts.0, params-each groups parts.1)

  -- the devices of each group have parameters that ends may be made with, as all have
  pub group-params : (groups : List G) (devices : List DeviceLine)
      → joined (map devices_of groups) ≡ devices → HaveParams devices
      → All (λ (group : G). HaveParams (devices_of group)) groups
  group-params groups devices all range =
      all-index (λ (group : G). HaveParams (devices_of group)) groups
      (params-each groups (subst HaveParams (sym all) range))

-- what all groups have, where the others are read
behind : (share : DeviceLine → ℕ × List Line) (group others : List DeviceLine)
    (shares all : List (ℕ × List Line)) (made : Option (List (ℕ × List Line)))
    → shares ≡ map share group
    → ((rest : List (ℕ × List Line)) → made ≡ Some rest → rest ≡ map share others)
    → option_map (λ rest. shares ++ rest) made ≡ Some all → all ≡ map share (group ++ others)
behind share group others shares all None first later whole = absurd (cc)
behind share group others shares all (Some rest) first later whole =
    same all (shares ++ rest) whole
    ∙ ap (λ front. front ++ rest) first
    ∙ ap (λ back. map share group ++ back) (later rest refl)
    ∙ sym (map-append share group others)
  where
    same : (xs ys : List (ℕ × List Line)) → Some ys ≡ Some xs → xs ≡ ys
    same xs ys h = cc

module _ {A E G : Type 0} (devices_of : G → List DeviceLine)
    (share : DeviceLine → ℕ × List Line) where
  -- what was made at each place are the shares of the devices of the group there
  abbrev pub Shared : List G → List (Result (Vec (ℕ × List Line) A) E) → Type 0
  Shared groups made = (i : ℕ) (g : G) (m : Result (Vec (ℕ × List Line) A) E)
      → i < length groups
      → IsShared share (devices_of (slice_index_or groups i g)) (slice_index_or made i m)

  -- the shares of all groups are those of all devices
  pub all-shared : (groups : List G) (made : List (Result (Vec (ℕ × List Line) A) E))
      (all : List (ℕ × List Line))
      → length made ≡ length groups → Shared groups made
      → shares_in made ≡ Some all → all ≡ map share (joined (map devices_of groups))
  all-shared [] [] all same each whole = none all whole
    where
      none : (xs : List (ℕ × List Line)) → Some [] ≡ Some xs → xs ≡ []
      none xs h = cc
  all-shared [] (m ∷ made) all same each whole = absurd (omega arith)
  all-shared (group ∷ groups) [] all same each whole = absurd (omega arith)
  all-shared (group ∷ groups) (Ok shares ∷ made) all same each whole =
      behind share (devices_of group) (joined (map devices_of groups)) shares.items all
      (shares_in made)
      (each 0 group (Ok shares) (omega arith))
      (λ rest is. all-shared groups made rest (omega arith)
      (λ i g m less. each (suc i) g m (omega arith)) is) whole
  all-shared (group ∷ groups) (Err fault ∷ made) all same each whole = absurd (cc)

-- what is left for one more group
mul-more : (k size : ℕ) → (k + 1) * size ≡ k * size + size
mul-more k size = grind arith

extra : (place longer : ℕ) (b : Bool) → nat_lt place longer ≡ b
    → longer - place ≡ (longer - (place + 1)) + cond b 1 0
extra place longer true is = let less : place < longer = ltb-true place longer is in omega arith
extra place longer false is = let past : longer ≤ place = ltb-false place longer is in omega arith

-- one group less is to be cut of what is left
pub cut-less : (workers place size longer : ℕ) → place < workers
    → (workers - place) * size + (longer - place)
    ≡ ((workers - (place + 1)) * size + (longer - (place + 1)))
    + (size + cond (nat_lt place longer) 1 0)
cut-less workers place size longer less =
    let step : workers - place ≡ (workers - (place + 1)) + 1 = omega arith in
    let parts = mul-more (workers - (place + 1)) size in
    let more = extra place longer (nat_lt place longer) refl in
    ap (λ k. k * size + (longer - place)) step ∙ omega (arith, parts, more)

-- one more group of the right size
even_last : (size : ℕ) (groups : List (Bor (List DeviceLine))) (group : Bor (List DeviceLine))
    → AllByRecursion (λ (g : Bor (List DeviceLine)). IsEven size g.now) groups
    → IsEven size group.now
    → AllByRecursion (λ (g : Bor (List DeviceLine)). IsEven size g.now) (groups ++ group ∷ [])
even_last size [] group all one = (one, tt)
even_last size (first ∷ groups) group all one = (all.0, even_last size groups group all.1 one)

-- groups of so many devices, or one more, stay so when another such group comes behind them
pub even-step : (size : ℕ) (groups more : List (Bor (List DeviceLine)))
    (group : Bor (List DeviceLine)) → more ≡ groups ++ group ∷ []
    → AllByRecursion (λ (g : Bor (List DeviceLine)). IsEven size g.now) groups
    → IsEven size group.now → AllByRecursion (λ (g : Bor (List DeviceLine)). IsEven size g.now) more
even-step size groups more group pushed all one =
    subst (AllByRecursion (λ (g : Bor (List DeviceLine)). IsEven size g.now)) (sym pushed)
    (even_last size groups group all one)

-- the groups and what is left stay the devices, where the front of what is left is one more group
pub joined-step : (groups more : List (Bor (List DeviceLine))) (group : Bor (List DeviceLine))
    (left back devices : List DeviceLine) (n : ℕ) → more ≡ groups ++ group ∷ []
    → group.now ≡ take n left → back ≡ drop n left → joined (map now_of groups) ++ left ≡ devices
    → joined (map now_of more) ++ back ≡ devices
joined-step groups more group left back devices n pushed front behind_it all =
    ap (λ gs. joined (map now_of gs) ++ back) pushed
    ∙ ap (λ lists. joined lists ++ back) (map-append now_of groups (group ∷ []))
    ∙ ap (λ list. list ++ back) (joined_last (map now_of groups) group.now)
    ∙ append_assoc (joined (map now_of groups)) group.now back
    ∙ ap (λ list. joined (map now_of groups) ++ (list ++ back)) front
    ∙ ap (λ list. joined (map now_of groups) ++ (take n left ++ list)) behind_it
    ∙ ap (λ list. joined (map now_of groups) ++ list) (take-append-drop n left)
    ∙ all
