-- The test whether two rules are one holds exactly where they are.
use Rattle.std.proofs.Common.{◌≡◌, ℕ, ◌==◌, ◌&&◌, Bool, true, false, List, [], ◌∷◌, refl, ap, subst}
use Rattle.std.proofs.Common.{eqb-true, eq-eqb}
use Rattle.std.specs.Bool.{Decides}
use Rattle.std.specs.Cmp.Lexicographic.{pointwise}
use Rattle.std.proofs.lemmas.Bool.{false≢true}
use Rattle.std.proofs.lemmas.Bool.Decides.{Decides-and, Decides-like, Decides-eqb}
use Rattle.std.proofs.lemmas.Slice.Eq.{slice_eq-Decides}
use Rattle.schc_ids.specs.declared.ends.DirInd.{DirInd}
use Rattle.schc_ids.specs.declared.ends.DirInd.TheVariants.{Up, Down, Both}
use Rattle.schc_ids.specs.declared.names.FieldName.{FieldName}
use Rattle.schc_ids.specs.Names.{same_name}
use Rattle.schc_ids.proofs.NamesLemmas.{same_name-true, same_name-itself}
use Rattle.rule_model.specs.declared.rule.Length.{Length}
use Rattle.rule_model.specs.declared.rule.Length.TheVariants.{Fixed, Variable, TokenLength}
use Rattle.rule_model.specs.declared.rule.Operator.{Operator}
use Rattle.rule_model.specs.declared.rule.Operator.TheVariants.{Equal, Ignore, Msb, MatchMapping}
use Rattle.rule_model.specs.declared.rule.Action.{Action}
use Rattle.rule_model.specs.declared.rule.Action.TheVariants.{NotSent, ValueSent, MappingSent, Lsb}
use Rattle.rule_model.specs.declared.rule.Action.TheVariants.{Compute, DevIid, AppIid}
use Rattle.rule_model.specs.Data.{EntryData, RuleData}
use Rattle.rule_model.specs.Findings.{same_bits}
use Rattle.editions.specs.SameRules.{same_length, same_indicator, same_operator, same_action}
use Rattle.editions.specs.SameRules.{same_entry, same_rule}

-- a test that holds of each value with itself, and of no two others, decides equality
decides : {A : Type 0} (test : A → A → Bool) → ((a b : A) → test a b ≡ true → a ≡ b)
    → ((a : A) → test a a ≡ true) → (a b : A) → Decides (test a b) (a ≡ b)
decides test sound itself a b = (sound a b, λ e. subst (λ c. test a c ≡ true) e (itself a))

same_bits-true : (a b : List Bool) → same_bits a b ≡ true → a ≡ b
same_bits-true [] [] h = refl
same_bits-true [] (y ∷ ys) h = absurd cc
same_bits-true (x ∷ xs) [] h = absurd cc
same_bits-true (true ∷ xs) (true ∷ ys) h = ap (λ t. true ∷ t) (same_bits-true xs ys h)
same_bits-true (true ∷ xs) (false ∷ ys) h = absurd cc
same_bits-true (false ∷ xs) (true ∷ ys) h = absurd cc
same_bits-true (false ∷ xs) (false ∷ ys) h = ap (λ t. false ∷ t) (same_bits-true xs ys h)

same_bits-itself : (a : List Bool) → same_bits a a ≡ true
same_bits-itself [] = refl
same_bits-itself (true ∷ xs) = same_bits-itself xs
same_bits-itself (false ∷ xs) = same_bits-itself xs

same_length-true : (a b : Length) → same_length a b ≡ true → a ≡ b
same_length-true (Fixed a) (Fixed b) h = ap Fixed (eqb-true a b h)
same_length-true Variable Variable h = refl
same_length-true TokenLength TokenLength h = refl
same_length-true _ _ h = absurd (false≢true h)

same_length-itself : (a : Length) → same_length a a ≡ true
same_length-itself (Fixed a) = eq-eqb a a refl
same_length-itself _ = refl

same_indicator-true : (a b : DirInd) → same_indicator a b ≡ true → a ≡ b
same_indicator-true Up Up h = refl
same_indicator-true Down Down h = refl
same_indicator-true Both Both h = refl
same_indicator-true _ _ h = absurd (false≢true h)

same_indicator-itself : (a : DirInd) → same_indicator a a ≡ true
same_indicator-itself Up = refl
same_indicator-itself Down = refl
same_indicator-itself Both = refl

same_operator-true : (a b : Operator) → same_operator a b ≡ true → a ≡ b
same_operator-true Equal Equal h = refl
same_operator-true Ignore Ignore h = refl
same_operator-true (Msb a) (Msb b) h = ap Msb (eqb-true a b h)
same_operator-true MatchMapping MatchMapping h = refl
same_operator-true _ _ h = absurd (false≢true h)

same_operator-itself : (a : Operator) → same_operator a a ≡ true
same_operator-itself (Msb a) = eq-eqb a a refl
same_operator-itself _ = refl

same_action-true : (a b : Action) → same_action a b ≡ true → a ≡ b
same_action-true NotSent NotSent h = refl
same_action-true ValueSent ValueSent h = refl
same_action-true MappingSent MappingSent h = refl
same_action-true Lsb Lsb h = refl
same_action-true Compute Compute h = refl
same_action-true DevIid DevIid h = refl
same_action-true AppIid AppIid h = refl
same_action-true _ _ h = absurd (false≢true h)

same_action-itself : (a : Action) → same_action a a ≡ true
same_action-itself NotSent = refl
same_action-itself ValueSent = refl
same_action-itself MappingSent = refl
same_action-itself Lsb = refl
same_action-itself Compute = refl
same_action-itself DevIid = refl
same_action-itself AppIid = refl

-- the members of two entries are equal
abbrev SameMembers : EntryData → EntryData → Type 0
SameMembers a b =
    ((((((a.name ≡ b.name) × (a.length ≡ b.length)) × (a.position ≡ b.position))
    × (a.direction ≡ b.direction)) × (a.targets ≡ b.targets)) × (a.operator ≡ b.operator))
    × (a.action ≡ b.action)

same_entry-members : (a b : EntryData) → Decides (same_entry a b) (SameMembers a b)
unfolding same_entry
same_entry-members a b =
    Decides-and _ _
    (Decides-and _ _
    (Decides-and _ _
    (Decides-and _ _
    (Decides-and _ _
    (Decides-and _ _ (decides same_name same_name-true same_name-itself a.name b.name)
    (decides same_length same_length-true same_length-itself a.length b.length))
    (Decides-eqb a.position b.position))
    (decides same_indicator same_indicator-true same_indicator-itself a.direction b.direction))
    (slice_eq-Decides (decides same_bits same_bits-true same_bits-itself) a.targets b.targets
    (pointwise same_bits a.targets b.targets) refl))
    (decides same_operator same_operator-true same_operator-itself a.operator b.operator))
    (decides same_action same_action-true same_action-itself a.action b.action)

abbrev entry_of : FieldName → Length → ℕ → DirInd → List (List Bool) → Operator → Action → EntryData
entry_of n l p d t o a =
    record {
      name = n;
      length = l;
      position = p;
      direction = d;
      targets = t;
      operator = o;
      action =
          a;
    }

-- entries with equal members are equal
entry-equal : (n n' : FieldName) (l l' : Length) (p p' : ℕ) (d d' : DirInd)
    (t t' : List (List Bool)) (o o' : Operator) (a a' : Action) → n ≡ n' → l ≡ l' → p ≡ p' → d ≡ d'
    → t ≡ t' → o ≡ o' → a ≡ a' → entry_of n l p d t o a ≡ entry_of n' l' p' d' t' o' a'
entry-equal n n' l l' p p' d d' t t' o o' a a' e0 e1 e2 e3 e4 e5 e6 = cc

same_entry-Decides : (a b : EntryData) → Decides (same_entry a b) (a ≡ b)
same_entry-Decides a b =
    Decides-like (same_entry a b)
    (λ m. entry-equal a.name b.name a.length b.length a.position b.position a.direction b.direction
    a.targets b.targets a.operator b.operator a.action b.action m.0.0.0.0.0.0 m.0.0.0.0.0.1
    m.0.0.0.0.1 m.0.0.0.1 m.0.0.1 m.0.1 m.1)
    (λ e. rw e ((((((refl, refl), refl), refl), refl), refl), refl)) (same_entry-members a b)

abbrev rule_of : ℕ → List EntryData → RuleData
rule_of id entries = record { id = id; entries = entries }

rule-equal : (i i' : ℕ) (es es' : List EntryData) → i ≡ i' → es ≡ es'
    → rule_of i es ≡ rule_of i' es'
rule-equal i i' es es' e0 e1 = cc

-- the test holds exactly of one rule
pub same_rule-Decides : (a b : RuleData) → Decides (same_rule a b) (a ≡ b)
unfolding same_rule
same_rule-Decides a b =
    Decides-like ((a.id == b.id) && pointwise same_entry a.entries b.entries)
    (λ (m : (a.id ≡ b.id) × (a.entries ≡ b.entries)). rule-equal a.id b.id a.entries b.entries
    m.0 m.1) (λ e. rw e (refl, refl))
    (Decides-and _ _ (Decides-eqb a.id b.id)
    (slice_eq-Decides same_entry-Decides a.entries b.entries
    (pointwise same_entry a.entries b.entries) refl))
