-- The lowest loss, as it is computed and as it is described.
use Rattle.std.proofs.Common.{◌≡◌, ℕ, ◌==◌, ◌<◌, Bool, true, false, ◌&&◌, not, cond, List, [], ◌∷◌}
use Rattle.std.proofs.Common.{Option, Some, None, IfSome, IsSomeAnd, ◌∙◌, refl, sym, ap, subst, inl}
use Rattle.std.proofs.Common.{inr, arith, eqb-true, eq-eqb}
use Rattle.std.proofs.lemmas.Bool.{true≢false, false_from_ne_true, cases_lt}
use Rattle.std.specs.Option.{option_map}
use Rattle.editions.specs.declared.listed.Listed.{Listed}
use Rattle.editions.specs.declared.losses.Loss.{Loss}
use Rattle.editions.specs.declared.losses.Loss.TheVariants.{IdGone, MeaningChanged, Revived}
use Rattle.editions.specs.declared.losses.LostId.{LostId}
use Rattle.editions.specs.Data.{lookup, IsAscending}
use Rattle.editions.specs.Losses.{HasSameRule, StaysRetired, IsFirstLoss, KeepsId, LosesId}
use Rattle.editions.specs.Losses.{IsLowestLoss}
use Rattle.editions.specs.SameRules.{same_rule}
use Rattle.editions.specs.Followed.{loss_of, lost_first, lowest_loss, diverged}
use Rattle.editions.proofs.SameRuleLemmas.{same_rule-Decides}
use Rattle.editions.proofs.LookupLemmas.{IsKept, AreKept, IsAscending-tail, lookup-below}

-- the loss by the three tests
abbrev loss_by : Bool → Bool → Bool → Option Loss
loss_by same live was =
    cond (not same) (Some MeaningChanged) (cond (live && not was) (Some Revived) None)

none-cases : (was now : Listed) (same live lived : Bool) → same_rule now.rule was.rule ≡ same
    → now.live ≡ live → was.live ≡ lived → loss_by same live lived ≡ None → (now.rule ≡ was.rule)
    × (was.live ≡ false → now.live ≡ false)
none-cases was now false live lived s l w h = absurd cc
none-cases was now true true false s l w h = absurd cc
none-cases was now true true true s l w h =
    ((same_rule-Decides now.rule was.rule).0 s, λ retired. absurd (true≢false (sym w ∙ retired)))
none-cases was now true false lived s l w h =
    ((same_rule-Decides now.rule was.rule).0 s, λ retired. l)

-- what isn't lost is kept
loss_of-none : (was : Listed) (now : Option Listed) → loss_of was now ≡ None → HasSameRule was now
    × StaysRetired was now
loss_of-none was None h = absurd cc
loss_of-none was (Some now) h =
    none-cases was now (same_rule now.rule was.rule) now.live was.live refl refl refl h

kept-cases : (same live lived : Bool) → same ≡ true → (lived ≡ false → live ≡ false)
    → loss_by same live lived ≡ None
kept-cases false live lived s k = absurd (true≢false (sym s))
kept-cases true true true s k = refl
kept-cases true true false s k = absurd (true≢false (k refl))
kept-cases true false lived s k = refl

-- what is kept isn't lost
loss_of-kept : (was : Listed) (now : Option Listed) → HasSameRule was now × StaysRetired was now
    → loss_of was now ≡ None
loss_of-kept was None k = absurd k.0
loss_of-kept was (Some now) k =
    kept-cases (same_rule now.rule was.rule) now.live was.live
    ((same_rule-Decides now.rule was.rule).1 k.0) k.1

changed-cases : (same live lived : Bool) → same ≡ false
    → loss_by same live lived ≡ Some MeaningChanged
changed-cases true live lived s = absurd (true≢false s)
changed-cases false live lived s = refl

revived-cases : (same live lived : Bool) → same ≡ true → live ≡ true → lived ≡ false
    → loss_by same live lived ≡ Some Revived
revived-cases false live lived s l w = absurd (true≢false (sym s))
revived-cases true false lived s l w = absurd (true≢false (sym l))
revived-cases true true true s l w = absurd (true≢false w)
revived-cases true true false s l w = refl

-- the first loss is computed
loss_of-first : (was : Listed) (now : Option Listed) (loss : Loss) → IsFirstLoss was now loss
    → loss_of was now ≡ Some loss
loss_of-first was None IdGone h = refl
loss_of-first was None MeaningChanged h = absurd h
loss_of-first was None Revived h = absurd h.0
loss_of-first was (Some now) IdGone h = absurd cc
loss_of-first was (Some now) MeaningChanged h =
    changed-cases (same_rule now.rule was.rule) now.live was.live
    (false_from_ne_true (same_rule now.rule was.rule)
    (λ e. h ((same_rule-Decides now.rule was.rule).0 e)))
loss_of-first was (Some now) Revived h =
    revived-cases (same_rule now.rule was.rule) now.live was.live
    ((same_rule-Decides now.rule was.rule).1 h.0) h.1.1 h.1.0

no-loss : (id : ℕ) (loss : Option Loss) (later : Option LostId) → lost_first id loss later ≡ None
    → (loss ≡ None) × (later ≡ None)
no-loss id None later e = (refl, e)
no-loss id (Some loss) later e = absurd cc

-- without a loss all rules are kept
pub AreKept-from_lowest_loss : (old new : List Listed) → lowest_loss old new ≡ None
    → AreKept new old
AreKept-from_lowest_loss [] new e = tt
AreKept-from_lowest_loss (x ∷ xs) new e =
    let none = no-loss x.rule.id (loss_of x (lookup new x.rule.id)) (lowest_loss xs new) e in
    (loss_of-none x (lookup new x.rule.id) none.0, AreKept-from_lowest_loss xs new none.1)

-- the first rule is kept
first-kept : (new : List Listed) (x : Listed) (xs : List Listed) (b : Bool)
    → (x.rule.id == x.rule.id) ≡ b → b ≡ true
    → IfSome (cond b (Some x) (lookup xs x.rule.id))
    (λ was. HasSameRule was (lookup new x.rule.id) × StaysRetired was (lookup new x.rule.id))
    → IsKept new x
first-kept new x xs true e t k = k
first-kept new x xs false e t k = absurd (true≢false (sym t))

-- and the RuleIDs of the others
rest-kept : (new : List Listed) (x : Listed) (xs : List Listed) (id : ℕ) (b : Bool)
    → (x.rule.id == id) ≡ b → IsAscending (x ∷ xs)
    → IfSome (cond b (Some x) (lookup xs id))
    (λ was. HasSameRule was (lookup new id) × StaysRetired was (lookup new id)) → KeepsId xs new id
rest-kept new x xs id true e asc k =
    let same : x.rule.id ≡ id = eqb-true x.rule.id id e in
    rw (lookup-below x xs id asc (omega arith)) tt
rest-kept new x xs id false e asc k = k

-- what is listed first is kept, and so no loss is of it
kept-first : (new : List Listed) (x : Listed) (xs : List Listed) → KeepsId (x ∷ xs) new x.rule.id
    → loss_of x (lookup new x.rule.id) ≡ None
kept-first new x xs k =
    loss_of-kept x (lookup new x.rule.id)
    (first-kept new x xs (x.rule.id == x.rule.id) refl (eq-eqb x.rule.id x.rule.id refl) k)

step-none : (id : ℕ) (loss : Option Loss) (later : Option LostId) → loss ≡ None
    → lost_first id loss later ≡ later
step-none id loss later e = ap (λ l. lost_first id l later) e

-- where each RuleID is kept, there is no loss
pub lowest_loss-none : (old new : List Listed) → IsAscending old → ((id : ℕ) → KeepsId old new id)
    → lowest_loss old new ≡ None
lowest_loss-none [] new asc k = refl
lowest_loss-none (x ∷ xs) new asc k =
    step-none x.rule.id (loss_of x (lookup new x.rule.id)) (lowest_loss xs new)
    (kept-first new x xs (k x.rule.id))
    ∙ lowest_loss-none xs new (IsAscending-tail x xs asc)
    (λ id. rest-kept new x xs id (x.rule.id == id) refl asc (k id))

not-below : (new : List Listed) (x : Listed) (xs : List Listed) (id : ℕ) (loss : Loss)
    → IsAscending (x ∷ xs) → LosesId xs new id loss → x.rule.id < id
not-below new x xs id loss asc l =
    elim (cases_lt x.rule.id id) [
      | inl above ↦ above
      | inr below ↦ absurd
          (subst (λ o. IsSomeAnd o (λ was. IsFirstLoss was (lookup new id) loss))
          (lookup-below x xs id asc below) l)
    ]

found-cases : (new : List Listed) (x : Listed) (xs : List Listed) (id : ℕ) (loss : Loss) (b : Bool)
    → (x.rule.id == id) ≡ b → IsAscending (x ∷ xs)
    → IsSomeAnd (cond b (Some x) (lookup xs id)) (λ was. IsFirstLoss was (lookup new id) loss)
    → ((lower : ℕ) → lower < id → KeepsId (x ∷ xs) new lower)
    → (IsLowestLoss xs new id loss → lowest_loss xs new ≡ Some (record { id = id; loss = loss }))
    → lowest_loss (x ∷ xs) new ≡ Some (record { id = id; loss = loss })
found-cases new x xs id loss true e asc l low rest =
    let same : x.rule.id ≡ id = eqb-true x.rule.id id e in
    let first : loss_of x (lookup new x.rule.id) ≡ Some loss =
    loss_of-first x (lookup new x.rule.id) loss
    (subst (λ n. IsFirstLoss x (lookup new n) loss) (sym same) l) in
    ap (λ o. lost_first x.rule.id o (lowest_loss xs new)) first
    ∙ ap (λ n. Some (record { id = n; loss = loss })) same
found-cases new x xs id loss false e asc l low rest =
    let above : x.rule.id < id = not-below new x xs id loss asc l in
    step-none x.rule.id (loss_of x (lookup new x.rule.id)) (lowest_loss xs new)
    (kept-first new x xs (low x.rule.id above))
    ∙ rest (l, λ lower h. rest-kept new x xs lower (x.rule.id == lower) refl asc (low lower h))

-- the lowest loss is computed
pub lowest_loss-found : (old new : List Listed) (id : ℕ) (loss : Loss) → IsAscending old
    → IsLowestLoss old new id loss → lowest_loss old new ≡ Some (record { id = id; loss = loss })
lowest_loss-found [] new id loss asc low = absurd low.0
lowest_loss-found (x ∷ xs) new id loss asc low =
    found-cases new x xs id loss (x.rule.id == id) refl asc low.0 low.1
    (lowest_loss-found xs new id loss (IsAscending-tail x xs asc))

-- the lowest RuleID of which there is a loss is the computed one
pub diverged-found : (old new : List Listed) (id : ℕ) (loss : Loss) → IsAscending old
    → IsLowestLoss old new id loss → diverged old new ≡ Some id
unfolding diverged
diverged-found old new id loss asc low =
    ap (option_map (λ (lost : LostId). lost.id)) (lowest_loss-found old new id loss asc low)

-- where the new rules keep each RuleID of the old, there is none at which they diverge
pub diverged-none : (old new : List Listed) → IsAscending old → ((id : ℕ) → KeepsId old new id)
    → diverged old new ≡ None
unfolding diverged
diverged-none old new asc kept =
    ap (option_map (λ (lost : LostId). lost.id)) (lowest_loss-none old new asc kept)
