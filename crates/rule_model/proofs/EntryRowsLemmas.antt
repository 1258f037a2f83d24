-- What holds of the entries of an admitted rule.
use Rattle.std.specs.Prelude.{ℕ, ◌≡◌, ◌+◌, ◌<◌, zero, suc, Bool, true, false, ◌&&◌, List, [], ◌∷◌}
use Rattle.std.specs.Prelude.{length, take, drop, get_or, Option, Some, None, position, Contains}
use Rattle.std.specs.List.{list_any, enumerate_from, position_or_len}
use Rattle.std.specs.Option.{option_map}
use Rattle.std.proofs.Common.{arith, refl, sym, ◌∙◌, subst, inl, inr}
use Rattle.std.proofs.lemmas.Bool.{cases_lt, lt-ltb, and_cases, and_from, or_parts, or_left}
use Rattle.std.proofs.lemmas.Bool.{or_right, true≢false}
use Rattle.std.proofs.lemmas.List.FromFn.{length-enumerate_from, get_or-enumerate_from}
use Rattle.std.proofs.lemmas.List.Sums.{fails_before_first}
use Rattle.schc_ids.specs.declared.ends.DirInd.{DirInd}
use Rattle.schc_ids.specs.declared.ends.Direction.{Direction}
use Rattle.schc_ids.specs.declared.ends.Direction.TheVariants as way
use Rattle.schc_ids.specs.declared.names.FieldName.TheVariants.{CoapTkl, CoapToken}
use Rattle.schc_ids.specs.declared.names.Stack.{Stack}
use Rattle.schc_ids.specs.Ends.{covers, share_direction}
use Rattle.schc_ids.specs.Names.{same_name}
use Rattle.rule_model.specs.declared.finding.FindingKind.TheVariants as kind
use Rattle.rule_model.specs.Data.{EntryData, RuleData}
use Rattle.rule_model.specs.Cover.{field_of, stack_of}
use Rattle.rule_model.specs.Findings.{is_of_entry, shape_wrong, pair_not_allowed, target_wrong}
use Rattle.rule_model.specs.Findings.{msb_wrong, not_droppable, compute_wrong, repeats, order_wrong}
use Rattle.rule_model.specs.Findings.{IsAdmitted}
use Rattle.rule_model.specs.Residue.{same_field}

-- where no element passes, each fails
pub position-none : {X : Type 0} → (p : X → Bool) (xs : List X) → position p xs ≡ None
    → (k : ℕ) (d : X) → k < length xs → p (get_or xs k d) ≡ false
position-none p xs e k d h =
    elim (cases_lt (position_or_len p xs) (length xs)) [
      | inl l ↦ let found : position p xs ≡ Some (position_or_len p xs) =
          rw (lt-ltb (position_or_len p xs) (length xs) l) in absurd (cc)
      | inr l ↦ fails_before_first p xs k d (omega arith)
    ]

mapped_none : {X Y : Type 0} → (f : X → Y) (o : Option X) → option_map f o ≡ None → o ≡ None
mapped_none f None e = refl
mapped_none f (Some x) e = absurd (cc)

-- where no entry passes a row's test, each fails it
none-passes : (test : ℕ → EntryData → Bool) (entries : List EntryData)
    → option_map (λ before. before + 1)
    (position (λ p. test p.0 p.1) (enumerate_from 0 entries)) ≡ None → (k : ℕ) (d : EntryData)
    → k < length entries → test k (get_or entries k d) ≡ false
none-passes test entries e k d h =
    let n : length (enumerate_from 0 entries) ≡ length entries = length-enumerate_from 0 entries in
    let fails : test (get_or (enumerate_from 0 entries) k (0, d)).0
    (get_or (enumerate_from 0 entries) k (0, d)).1 ≡ false =
    position-none (λ p. test p.0 p.1) (enumerate_from 0 entries)
    (mapped_none (λ before. before + 1) _ e) k (0, d) (omega arith)
    in
    let at : get_or (enumerate_from 0 entries) k (0, d) ≡ (0 + k, get_or entries k d) =
    get_or-enumerate_from 0 entries k (0, d) h in
    let same : 0 + k ≡ k = omega arith in
    subst (λ n. test n (get_or entries k d) ≡ false) same
    (subst (λ (p : ℕ × EntryData). test p.0 p.1 ≡ false) at fails)

-- an entry to which none of the rows applies
pub record EntryHolds (stack : Stack) (e : EntryData) : Type 0 where
  pub shape : shape_wrong e ≡ false
  pub pair : pair_not_allowed e ≡ false
  pub target : target_wrong stack e ≡ false
  pub msb : msb_wrong e ≡ false
  pub needed : not_droppable e ≡ false
  pub computed : compute_wrong e ≡ false

-- each entry of an admitted rule
pub EntryHolds-from_IsAdmitted : (rule : RuleData) → IsAdmitted rule → (e : EntryData)
    → Contains rule.entries e → EntryHolds (stack_of rule) e
EntryHolds-from_IsAdmitted rule admitted e among =
    record {
      shape = subst (λ d. shape_wrong d ≡ false) among.2
          (none-passes (is_of_entry kind.ShapeWrong rule) rule.entries (admitted kind.ShapeWrong)
          among.0 e among.1);
      pair = subst (λ d. pair_not_allowed d ≡ false) among.2
          (none-passes (is_of_entry kind.PairNotAllowed rule) rule.entries
          (admitted kind.PairNotAllowed) among.0 e among.1);
      target =
          subst (λ d. target_wrong (stack_of rule) d ≡ false) among.2
          (none-passes (is_of_entry kind.TargetWrong rule) rule.entries (admitted kind.TargetWrong)
          among.0 e among.1);
      msb = subst (λ d. msb_wrong d ≡ false) among.2
          (none-passes (is_of_entry kind.MsbWrong rule) rule.entries (admitted kind.MsbWrong)
          among.0 e among.1);
      needed =
          subst (λ d. not_droppable d ≡ false) among.2
          (none-passes (is_of_entry kind.NotDroppable rule) rule.entries
          (admitted kind.NotDroppable) among.0 e among.1);
      computed =
          subst (λ d. compute_wrong d ≡ false) among.2
          (none-passes (is_of_entry kind.ComputeWrong rule) rule.entries
          (admitted kind.ComputeWrong) among.0 e among.1);
    }

-- no token's entry stands before a token length entry that is used with it
abbrev pub InOrder : List EntryData → Type 0
InOrder [] = Unit {0}
InOrder (e ∷ entries) = (order_wrong e (e ∷ entries) ≡ false) × InOrder entries

order_along : (entries : List EntryData)
    → ((k : ℕ) (d : EntryData) → k < length entries
    → order_wrong (get_or entries k d) (drop k entries) ≡ false) → InOrder entries
order_along [] h = tt
order_along (e ∷ entries) h =
    (h 0 e (omega arith), order_along entries (λ k d l. h (suc k) d (omega arith)))

-- in an admitted rule no token's entry stands before a token length entry used with it
pub InOrder-from_IsAdmitted : (rule : RuleData) → IsAdmitted rule → InOrder rule.entries
InOrder-from_IsAdmitted rule admitted =
    order_along rule.entries
    (none-passes (is_of_entry kind.OrderWrong rule) rule.entries (admitted kind.OrderWrong))

-- no entry repeats an earlier one
abbrev pub AreApart : List EntryData → Type 0
AreApart [] = Unit {0}
AreApart (e ∷ entries) = ((d : EntryData) → Contains entries d → repeats d e ≡ false)
    × AreApart entries

apart_along : (entries : List EntryData)
    → ((k : ℕ) (d : EntryData) → k < length entries
    → list_any (repeats (get_or entries k d)) (take k entries) ≡ false) → AreApart entries
apart_along [] h = tt
apart_along (e ∷ entries) h =
    let parts : (k : ℕ) (d : EntryData) → k < length entries
    → (repeats (get_or entries k d) e ≡ false)
    × (list_any (repeats (get_or entries k d)) (take k entries) ≡ false) =
    λ k d l. or_parts (repeats (get_or entries k d) e)
    (list_any (repeats (get_or entries k d)) (take k entries)) (h (suc k) d (omega arith))
    in (
      λ d among. subst (λ x. repeats x e ≡ false) among.2 (parts among.0 d among.1).0,
      apart_along entries (λ k d l. (parts k d l).1),
    )

-- in an admitted rule no entry repeats an earlier one
pub AreApart-from_IsAdmitted : (rule : RuleData) → IsAdmitted rule → AreApart rule.entries
AreApart-from_IsAdmitted rule admitted =
    apart_along rule.entries
    (none-passes (is_of_entry kind.FieldTwice rule) rule.entries (admitted kind.FieldTwice))

-- entries that are used in one direction share it
share : (a b : DirInd) (direction : Direction) → covers a direction ≡ true
    → covers b direction ≡ true → share_direction a b ≡ true
share a b way.Up h k =
    or_left (covers a way.Up && covers b way.Up) (covers a way.Down && covers b way.Down)
    (and_from (covers a way.Up) (covers b way.Up) h k)
share a b way.Down h k =
    or_right (covers a way.Up && covers b way.Up) (covers a way.Down && covers b way.Down)
    (and_from (covers a way.Down) (covers b way.Down) h k)

-- an entry that doesn't repeat one is of another field, where both are used in one direction
pub other-field : (d e : EntryData) (direction : Direction) → repeats d e ≡ false
    → covers d.direction direction ≡ true → covers e.direction direction ≡ true
    → same_field (field_of d) (field_of e) ≡ false
other-field d e direction h k l =
    elim (and_cases (same_field (field_of d) (field_of e)) (share_direction d.direction e.direction)
    h) [
      | inl other ↦ other
      | inr apart ↦ absurd (true≢false (sym (share d.direction e.direction direction k l) ∙ apart))
    ]

found_none : {X : Type 0} → (p : X → Bool) (xs : List X) → list_any p xs ≡ false → (x : X) (k : ℕ)
    → k < length xs → get_or xs k x ≡ x → p x ≡ false
found_none p [] h x k l e = absurd (omega arith)
found_none p (y ∷ xs) h x zero l e = subst (λ z. p z ≡ false) e (or_parts (p y) (list_any p xs) h).0
found_none p (y ∷ xs) h x (suc k) l e =
    found_none p xs (or_parts (p y) (list_any p xs) h).1 x k (omega arith) e

list_any_none : {X : Type 0} → (p : X → Bool) (xs : List X) → list_any p xs ≡ false → (x : X)
    → Contains xs x → p x ≡ false
list_any_none p xs h x among = found_none p xs h x among.0 among.1 among.2

-- behind a token's entry, and at it, no entry that is used with it is of the token length
pub no-later-length : (e : EntryData) (entries : List EntryData) (direction : Direction)
    → order_wrong e entries ≡ false → e.name ≡ CoapToken → covers e.direction direction ≡ true
    → (d : EntryData) → Contains entries d → covers d.direction direction ≡ true
    → same_name d.name CoapTkl ≡ false
no-later-length e entries direction h token k d among l =
    let test : EntryData → Bool =
    λ f. same_name f.name CoapTkl && share_direction e.direction f.direction in
    let none : list_any test entries ≡ false =
    subst (λ name. (same_name name CoapToken && list_any test entries) ≡ false) token h in
    elim (and_cases (same_name d.name CoapTkl) (share_direction e.direction d.direction)
    (list_any_none test entries none d among)) [
      | inl other ↦ other
      | inr apart ↦ absurd (true≢false (sym (share e.direction d.direction direction k l) ∙ apart))
    ]
