-- Places count the options of one number.
use Rattle.std.specs.Prelude.{ℕ, ◌≡◌, ◌↔◌, ◌+◌, ◌<◌, ◌≤◌, List, [], ◌∷◌, ◌++◌}
use Rattle.std.specs.List.{AllByRecursion}
use Rattle.std.proofs.Common.{arith, ap, refl, sym, ◌∙◌, subst, inl, inr}
use Rattle.std.proofs.lemmas.Bool.{cases_eq, eq-eqb, ne_eqb}
use Rattle.std.proofs.lemmas.List.{append_assoc}
use Rattle.rule_model.specs.declared.value.FieldValue.{FieldValue}
use Rattle.coap_fields.specs.Message.{OptionData, next_place, IsOption, AreOptions}
use Rattle.coap_fields.specs.Fields.{option_field, option_fields}
use Rattle.coap_fields.specs.Counting.{repeats, Ascend, IsSpellable, AreSpellable, counted_fields}

-- `place` is how often the last number, `before`, stands among the earlier options, and no later
-- number stands there
pub record Counts (earlier : List OptionData) (before place : ℕ) : Type 0 where
  pub place_is : place ≡ repeats before earlier
  pub later : (number : ℕ) → before < number → repeats number earlier ≡ 0

repeats-append : (number : ℕ) (earlier options : List OptionData)
    → repeats number (earlier ++ options) ≡ repeats number earlier + repeats number options
repeats-append number [] options = omega arith
repeats-append number (o ∷ earlier) options = omega (arith, repeats-append number earlier options)

one : (number : ℕ) (o : OptionData) → number ≡ o.number → repeats number (o ∷ []) ≡ 1
one number o e = rw (eq-eqb o.number number (sym e))

none : (number : ℕ) (o : OptionData) → (number ≡ o.number → ⊥) → repeats number (o ∷ []) ≡ 0
none number o n = rw (ne_eqb o.number number (λ e. n (sym e)))

next-counts : (earlier : List OptionData) (before place : ℕ) (o : OptionData)
    → Counts earlier before place → before ≤ o.number
    → next_place before place o.number ≡ repeats o.number earlier + 1
next-counts earlier before place o c h =
    elim (cases_eq o.number before) [
      | inl e ↦ rw (eq-eqb o.number before e, e, c.place_is)
      | inr n ↦ rw (ne_eqb o.number before n, c.later o.number (omega (arith, h, n)))
    ]

counts-next : (earlier : List OptionData) (before place : ℕ) (o : OptionData)
    → Counts earlier before place → before ≤ o.number
    → Counts (earlier ++ o ∷ []) o.number (next_place before place o.number)
counts-next earlier before place o c h =
    record {
      place_is = next-counts earlier before place o c h
          ∙ omega (arith, repeats-append o.number earlier (o ∷ []), one o.number o refl);
      later =
          λ number l.
          let old : repeats number earlier ≡ 0 = c.later number (omega (arith, h, l)) in
          let new : repeats number (o ∷ []) ≡ 0 = none number o (λ e. omega (arith, l, e)) in
          omega (arith, repeats-append number earlier (o ∷ []), old, new);
    }

nothing_counts : Counts [] 0 0
nothing_counts = record { place_is = refl; later = λ number l. refl }

counted : (earlier options : List OptionData) (before place : ℕ) → Counts earlier before place
    → AreOptions before place options
    → option_fields before place options ≡ counted_fields earlier options
unfolding option_fields
counted earlier [] before place c h = refl
counted earlier (o ∷ options) before place c h =
    let next : next_place before place o.number ≡ repeats o.number earlier + 1 =
    next-counts earlier before place o c h.0.ascends in
    let rest : option_fields o.number (next_place before place o.number) options ≡ counted_fields
    (earlier ++ o ∷ []) options =
    counted (earlier ++ o ∷ []) options o.number (next_place before place o.number)
    (counts-next earlier before place o c h.0.ascends) h.1
    in
    ap (λ (fs : List FieldValue). option_field o.number (next_place before place o.number)
    o.value ∷ fs) rest
    ∙ ap (λ (p : ℕ). option_field o.number p o.value ∷ counted_fields (earlier ++ o ∷ []) options)
    next

-- positions count the options of one number from 1
pub counts-positions : (options : List OptionData) → AreOptions 0 0 options
    → option_fields 0 0 options ≡ counted_fields [] options
counts-positions options h = counted [] options 0 0 nothing_counts h

ascending : (options : List OptionData) (before place : ℕ) → AreOptions before place options
    → Ascend before options × AllByRecursion IsSpellable options
ascending [] before place h = (tt, tt)
ascending (o ∷ options) before place h =
    let more = ascending options o.number (next_place before place o.number) h.1 in (
      (h.0.ascends, more.0),
      (record { number = h.0.number; size = h.0.size; bytes = h.0.bytes }, more.1),
    )

few_more : (earlier : List OptionData) (o : OptionData) (before place : ℕ)
    → Counts earlier before place → IsOption before place o
    → ((number : ℕ) → repeats number earlier ≤ 65535) → (number : ℕ)
    → repeats number (earlier ++ o ∷ []) ≤ 65535
few_more earlier o before place c h few number =
    elim (cases_eq number o.number) [
      | inl e ↦
          let next : next_place before place o.number ≡ repeats o.number earlier + 1 =
          next-counts earlier before place o c h.ascends in
          let same : repeats number earlier ≡ repeats o.number earlier =
          ap (λ (n : ℕ). repeats n earlier) e in
          omega (
            arith,
            repeats-append number earlier (o ∷ []),
            one number o e,
            next,
            same,
            h.repeats,
          )
      | inr n ↦ omega (arith, repeats-append number earlier (o ∷ []), none number o n, few number)
    ]

few_all : (earlier options : List OptionData) (before place : ℕ) → Counts earlier before place
    → AreOptions before place options → ((number : ℕ) → repeats number earlier ≤ 65535)
    → (number : ℕ) → repeats number (earlier ++ options) ≤ 65535
few_all earlier [] before place c h few number =
    omega (arith, repeats-append number earlier [], few number)
few_all earlier (o ∷ options) before place c h few number =
    rw (sym (append_assoc earlier (o ∷ []) options))
    (few_all (earlier ++ o ∷ []) options o.number (next_place before place o.number)
    (counts-next earlier before place o c h.0.ascends) h.1
    (few_more earlier o before place c h.0 few) number)

spellable-from : (earlier options : List OptionData) (before place : ℕ)
    → Counts earlier before place → Ascend before options → AllByRecursion IsSpellable options
    → ((number : ℕ) → repeats number (earlier ++ options) ≤ 65535) → AreOptions before place options
spellable-from earlier [] before place c a s few = tt
spellable-from earlier (o ∷ options) before place c a s few =
    let next : next_place before place o.number ≡ repeats o.number earlier + 1 =
    next-counts earlier before place o c a.0 in
    let joined : earlier ++ o ∷ options ≡ (earlier ++ o ∷ []) ++ options =
    sym (append_assoc earlier (o ∷ []) options) in
    let here : repeats o.number (o ∷ options) ≡ 1 + repeats o.number options =
    rw (eq-eqb o.number o.number refl) in (
      record {
        ascends = a.0;
        number = s.0.number;
        repeats =
            omega (arith, next, few o.number, repeats-append o.number earlier (o ∷ options), here);
        size = s.0.size;
        bytes = s.0.bytes;
      },
      spellable-from (earlier ++ o ∷ []) options o.number (next_place before place o.number)
          (counts-next earlier before place o c a.0) a.1 s.1
          (λ number. subst (λ (all : List OptionData). repeats number all ≤ 65535) joined
          (few number)),
    )

-- options can stand in a message exactly where they are spellable
pub are-spellable-exactly : (options : List OptionData)
    → AreOptions 0 0 options ↔ AreSpellable options
are-spellable-exactly options = (
  λ h. let p = ascending options 0 0 h in
      record {
        ascend = p.0;
        each = p.1;
        few =
            few_all [] options 0 0 nothing_counts h (λ number. omega arith);
      },
  λ s. spellable-from [] options 0 0 nothing_counts s.ascend s.each s.few,
)
