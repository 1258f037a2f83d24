-- Chains: one more edition, and any two of a chain.
use Rattle.std.proofs.Common.{◌≡◌, ◌⊎◌, ℕ, zero, suc, ◌+◌, ◌≤◌, true, false, List, [], ◌∷◌, ◌++◌}
use Rattle.std.proofs.Common.{Option, Some, None, IfSome, IsSomeAnd, slice_get, ◌∙◌, refl, ap}
use Rattle.std.proofs.Common.{subst, inl, inr, arith}
use Rattle.editions.specs.declared.listed.Listed.{Listed}
use Rattle.editions.specs.Data.{EditionData, lookup}
use Rattle.editions.specs.Losses.{HasSameRule, StaysRetired, IsGone, HasOtherRule, IsRevived}
use Rattle.editions.specs.Losses.{DivergesAt}
use Rattle.editions.specs.Follows.{Follows, KeepsMeanings, KeepsRetired}
use Rattle.editions.specs.Chains.{EachFollows, IsChain, EndsChain, OneMeaning}

EachFollows-push : (before : EditionData) (es : List EditionData) (last new : EditionData)
    → EachFollows before (es ++ last ∷ []) → Follows last new
    → EachFollows before ((es ++ last ∷ []) ++ new ∷ [])
EachFollows-push before [] last new h f = (h.0, (f, tt))
EachFollows-push before (e ∷ es) last new h f = (h.0, EachFollows-push e es last new h.1 f)

-- an edition that follows the last one of a chain makes it longer
pub IsChain-push : (earlier : List EditionData) (last new : EditionData)
    → IsChain (earlier ++ last ∷ []) → Follows last new
    → IsChain ((earlier ++ last ∷ []) ++ new ∷ [])
IsChain-push [] last new h f = (h.0, (f, tt))
IsChain-push (e ∷ es) last new h f = (h.0, EachFollows-push e es last new h.1 f)

-- what follows the last edition of a chain is the last one of a chain
pub EndsChain-next : (last new : EditionData) → EndsChain last → Follows last new → EndsChain new
EndsChain-next last new ends f = (ends.0 ++ last ∷ [], IsChain-push ends.0 last new ends.1 f)

-- the later rules keep meanings and retirements
abbrev Keeps : List Listed → List Listed → Type 0
Keeps earlier later = KeepsMeanings earlier later × KeepsRetired earlier later

kept-again : (o p q : Option Listed) → IfSome o (λ was. HasSameRule was p)
    → IfSome o (λ was. StaysRetired was p) → IfSome p (λ was. HasSameRule was q)
    → IfSome p (λ was. StaysRetired was q) → IfSome o (λ was. HasSameRule was q)
    × IfSome o (λ was. StaysRetired was q)
kept-again None p q k r l s = (tt, tt)
kept-again (Some a) None q k r l s = absurd k
kept-again (Some a) (Some b) None k r l s = absurd l
kept-again (Some a) (Some b) (Some c) k r l s = (l ∙ k, λ retired. s (r retired))

-- over two steps
Keeps-trans : (a b c : List Listed) → Keeps a b → Keeps b c → Keeps a c
Keeps-trans a b c k l = (
  λ id. (kept-again (lookup a id) (lookup b id) (lookup c id) (k.0 id) (k.1 id) (l.0 id)
      (l.1 id)).0,
  λ id. (kept-again (lookup a id) (lookup b id) (lookup c id) (k.0 id) (k.1 id) (l.0 id)
      (l.1 id)).1,
)

kept-itself : (o : Option Listed) → IfSome o (λ was. HasSameRule was o)
    × IfSome o (λ was. StaysRetired was o)
kept-itself None = (tt, tt)
kept-itself (Some was) = (refl, λ retired. retired)

Keeps-refl : (a : List Listed) → Keeps a a
Keeps-refl a = (λ id. (kept-itself (lookup a id)).0, λ id. (kept-itself (lookup a id)).1)

-- from an edition to a later one
keeps-later : (e : EditionData) (es : List EditionData) → EachFollows e es
    → (j : ℕ) (later : EditionData) → slice_get es j ≡ Some later → Keeps e.rules later.rules
keeps-later e [] h j later at = absurd cc
keeps-later e (f ∷ fs) h zero later at =
    let same : f ≡ later = cc in
    subst (λ x. Keeps e.rules x.rules) same (h.0.keeps_meanings, h.0.keeps_retired)
keeps-later e (f ∷ fs) h (suc j) later at =
    Keeps-trans e.rules f.rules later.rules (h.0.keeps_meanings, h.0.keeps_retired)
    (keeps-later f fs h.1 j later at)

keeps-between : (e : EditionData) (es : List EditionData) → EachFollows e es
    → (i j : ℕ) (earlier later : EditionData) → i ≤ j → slice_get (e ∷ es) i ≡ Some earlier
    → slice_get (e ∷ es) j ≡ Some later → Keeps earlier.rules later.rules
keeps-between e es h zero zero earlier later order at there =
    let same : e ≡ earlier = cc in let also : e ≡ later = cc in
    subst (λ x. Keeps x.rules later.rules) same
    (subst (λ x. Keeps e.rules x.rules) also (Keeps-refl e.rules))
keeps-between e es h zero (suc j) earlier later order at there =
    let same : e ≡ earlier = cc in
    subst (λ x. Keeps x.rules later.rules) same (keeps-later e es h j later there)
keeps-between e es h (suc i) zero earlier later order at there = absurd (omega arith)
keeps-between e [] h (suc i) (suc j) earlier later order at there = absurd cc
keeps-between e (f ∷ fs) h (suc i) (suc j) earlier later order at there =
    keeps-between f fs h.1 i j earlier later (omega arith) at there

-- in one chain a RuleID has one meaning
pub one-meaning : OneMeaning
one-meaning [] chain i j earlier later order at there = absurd chain
one-meaning (e ∷ es) chain i j earlier later order at there =
    keeps-between e es chain.1 i j earlier later order at there

number-from : (e : EditionData) (es : List EditionData) → EachFollows e es
    → (i : ℕ) (edition : EditionData) → slice_get (e ∷ es) i ≡ Some edition
    → edition.number ≡ e.number + i
number-from e es h zero edition at =
    let same : e ≡ edition = cc in subst (λ x. x.number ≡ e.number + 0) same (omega arith)
number-from e [] h (suc i) edition at = absurd cc
number-from e (f ∷ fs) h (suc i) edition at =
    let rest : edition.number ≡ f.number + i = number-from f fs h.1 i edition at in
    let next : f.number ≡ e.number + 1 = h.0.next_number in omega arith

-- in a chain an edition's number is its place, from 0
pub number-of-place : (chain : List EditionData) → IsChain chain → (i : ℕ) (edition : EditionData)
    → slice_get chain i ≡ Some edition → edition.number ≡ i
number-of-place [] chain i edition at = absurd chain
number-of-place (e ∷ es) chain i edition at =
    let from : edition.number ≡ e.number + i = number-from e es chain.1 i edition at in
    let first : e.number ≡ 0 = ap (λ x. x.number) chain.0 in omega arith

diverges-cases : (o now : Option Listed) → IfSome o (λ was. HasSameRule was now)
    → IfSome o (λ was. StaysRetired was now)
    → IsSomeAnd o (λ was. IsGone now ⊎ HasOtherRule was now ⊎ IsRevived was now) → ⊥
diverges-cases None now k r d = d
diverges-cases (Some was) None k r d = k
diverges-cases (Some was) (Some now) k r (inl gone) = absurd cc
diverges-cases (Some was) (Some now) k r (inr (inl other)) = other k
diverges-cases (Some was) (Some now) k r (inr (inr revived)) =
    let retired : now.live ≡ false = r revived.0 in let live : now.live ≡ true = revived.1 in
    absurd cc

-- of two editions of one chain, the earlier one doesn't diverge from the later one
pub not-diverging : (earlier later : List Listed) → KeepsMeanings earlier later
    → KeepsRetired earlier later → (id : ℕ) → ¬ DivergesAt earlier later id
not-diverging earlier later k r id d =
    diverges-cases (lookup earlier id) (lookup later id) (k id) (r id) d
