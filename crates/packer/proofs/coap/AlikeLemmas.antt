-- Lists of fields of a message that differ in values that say nothing of its shape.
use Rattle.std.specs.Prelude.{ℕ, ◌≡◌, ◌==◌, Bool, true, false, List, [], ◌∷◌, ◌++◌, length, map}
use Rattle.std.specs.Prelude.{Some, is_none, Contains}
use Rattle.std.proofs.Common.{arith, ap, refl, sym, ◌∙◌, subst, inl, inr}
use Rattle.std.proofs.lemmas.Bool.{cases_Bool, and_parts}
use Rattle.std.proofs.lemmas.List.Elements.{All-contains}
use Rattle.schc_ids.specs.declared.names.FieldAt.{FieldAt}
use Rattle.schc_ids.specs.declared.names.FieldName.{FieldName}
use Rattle.schc_ids.specs.declared.names.FieldName.TheVariants.{CoapVersion, CoapTkl, CoapToken}
use Rattle.schc_ids.specs.declared.names.FieldName.TheVariants.{CoapOption}
use Rattle.schc_ids.specs.Names.{same_name, rank_of, coap_fields}
use Rattle.schc_ids.proofs.NamesLemmas.{same_name-true}
use Rattle.rule_model.specs.declared.value.FieldValue.{FieldValue}
use Rattle.rule_model.specs.Findings.{is_needed}
use Rattle.rule_model.proofs.SizedLemmas.{Contains-first, Contains-rest}
use Rattle.coap_fields.specs.Message.{spelled}
use Rattle.coap_fields.specs.Join.{is_at, value_in, value_of, presence, is_size_right, order}
use Rattle.coap_fields.specs.Join.{value_refusals, gap, gaps, number_after, position_after}
use Rattle.coap_fields.specs.Join.{join_refusals, option_from, options_from, message_from}
use Rattle.packer.specs.Ordering.{stands_before}
use Rattle.packer.proofs.coap.AscendLemmas.{stands-trans, AscendsAfter, ascends-all, stands-other}
use Rattle.packer.proofs.CoverLemmas.{Contains-parts}

-- the same field with as many bits, and the same value where the field may not be dropped
pub record IsAlike (f g : FieldValue) : Type 0 where
  pub at : f.at ≡ g.at
  pub wide : length f.value ≡ length g.value
  pub value : is_needed f.at.name ≡ true → f.value ≡ g.value

-- as many fields in both lists, each alike to the one at its place in the other
abbrev pub AreAlike : List FieldValue → List FieldValue → Type 0
AreAlike [] [] = Unit {0}
AreAlike [] (g ∷ gs) = ⊥
AreAlike (f ∷ fs) [] = ⊥
AreAlike (f ∷ fs) (g ∷ gs) = IsAlike f g × AreAlike fs gs

-- each field of the first has one in the second
abbrev pub HasEach : List FieldValue → List FieldValue → Type 0
HasEach fs gs = (f : FieldValue) → Contains fs f → (g : FieldValue) × Contains gs g × (f.at ≡ g.at)

stands-both : (a b : FieldAt) → stands_before a b ≡ true → stands_before b a ≡ true → ⊥
stands-both a b h k = stands-other a a (stands-trans (rank_of a.name) a.position b a h k) refl

later_each : (f : FieldValue) (fs : List FieldValue)
    → AscendsAfter (rank_of f.at.name) f.at.position fs → (x : FieldValue) → Contains fs x
    → stands_before f.at x.at ≡ true
later_each f fs asc x among =
    All-contains (λ x. stands_before f.at x.at ≡ true) fs x
    (ascends-all (rank_of f.at.name) f.at.position fs asc) among

moved : (a b c : FieldAt) → stands_before a b ≡ true → b ≡ c → stands_before a c ≡ true
moved a b c h e = subst (λ (x : FieldAt). stands_before a x ≡ true) e h

-- the first fields are one
heads_one : (f g : FieldValue) (fs gs : List FieldValue)
    → AscendsAfter (rank_of f.at.name) f.at.position fs
    → AscendsAfter (rank_of g.at.name) g.at.position gs → HasEach (f ∷ fs) (g ∷ gs)
    → HasEach (g ∷ gs) (f ∷ fs) → f.at ≡ g.at
heads_one f g fs gs a b there back =
    let x = there f (Contains-first f fs) in
    let y = back g (Contains-first g gs) in
    elim (Contains-parts g gs x.0 x.1) [
      | inl e ↦ x.2 ∙ sym (ap (λ (z : FieldValue). z.at) e)
      | inr later ↦
          elim (Contains-parts f fs y.0 y.1) [
            | inl e ↦ ap (λ (z : FieldValue). z.at) e ∙ sym y.2
            | inr after ↦
                absurd (stands-both f.at g.at
                (moved f.at y.0.at g.at (later_each f fs a y.0 after) (sym y.2))
                (moved g.at x.0.at f.at (later_each g gs b x.0 later) (sym x.2)))
          ]
    ]

tail_each : (f g : FieldValue) (fs gs : List FieldValue)
    → AscendsAfter (rank_of f.at.name) f.at.position fs → f.at ≡ g.at → HasEach (f ∷ fs) (g ∷ gs)
    → HasEach fs gs
tail_each f g fs gs a same there x among =
    let y = there x (Contains-rest f fs x among) in
    elim (Contains-parts g gs y.0 y.1) [
      | inl e ↦
          absurd (stands-other f.at x.at (later_each f fs a x among)
          (same ∙ ap (λ (z : FieldValue). z.at) e ∙ sym y.2))
      | inr later ↦ (y.0, later, y.2)
    ]

-- lists of the same fields in packet order are alike, where the fields are
pub alike-from : (r p : ℕ) (fs gs : List FieldValue) → AscendsAfter r p fs → AscendsAfter r p gs
    → HasEach fs gs → HasEach gs fs
    → ((f g : FieldValue) → Contains fs f → Contains gs g → f.at ≡ g.at → IsAlike f g)
    → AreAlike fs gs
alike-from r p [] [] a b there back each = tt
alike-from r p [] (g ∷ gs) a b there back each =
    absurd (omega (arith, (back g (Contains-first g gs)).1.1))
alike-from r p (f ∷ fs) [] a b there back each =
    absurd (omega (arith, (there f (Contains-first f fs)).1.1))
alike-from r p (f ∷ fs) (g ∷ gs) a b there back each =
    let same : f.at ≡ g.at = heads_one f g fs gs a.1 b.1 there back in (
      each f g (Contains-first f fs) (Contains-first g gs) same,
      alike-from (rank_of f.at.name) f.at.position fs gs a.1
          (subst (λ (at : FieldAt). AscendsAfter (rank_of at.name) at.position gs) (sym same) b.1)
          (tail_each f g fs gs a.1 same there) (tail_each g f gs fs b.1 (sym same) back)
          (λ x y m n e. each x y (Contains-rest f fs x m) (Contains-rest g gs y n) e),
    )

-- the same names and positions
pub alike-ats : (fs gs : List FieldValue) → AreAlike fs gs
    → map (λ (f : FieldValue). f.at) fs ≡ map (λ (f : FieldValue). f.at) gs
alike-ats [] [] h = refl
alike-ats [] (g ∷ gs) h = absurd h
alike-ats (f ∷ fs) [] h = absurd h
alike-ats (f ∷ fs) (g ∷ gs) h = ap (λ (at : FieldAt). at ∷ map (λ (x : FieldValue). x.at) fs) h.0.at
    ∙ ap (λ rest. g.at ∷ rest) (alike-ats fs gs h.1)

-- looking up
record FoundAlike (fs gs : List FieldValue) (name : FieldName) : Type 0 where
  none : is_none (value_in fs name) ≡ is_none (value_in gs name)
  wide : length (value_of fs name) ≡ length (value_of gs name)
  same : is_needed name ≡ true → value_in fs name ≡ value_in gs name

named : (at : FieldAt) (name : FieldName) → is_at at name ≡ true → is_needed name ≡ true
    → is_needed at.name ≡ true
named at name h n =
    ap is_needed
    (same_name-true at.name name (and_parts (same_name at.name name) (at.position == 1) h).0) ∙ n

found : (fs gs : List FieldValue) (name : FieldName) → AreAlike fs gs → FoundAlike fs gs name
found [] [] name h = record { none = refl; wide = refl; same = λ n. refl }
found [] (g ∷ gs) name h = absurd h
found (f ∷ fs) [] name h = absurd h
found (f ∷ fs) (g ∷ gs) name h =
    let later = found fs gs name h.1 in
    let ats : is_at f.at name ≡ is_at g.at name = ap (λ (at : FieldAt). is_at at name) h.0.at in
    elim (cases_Bool (is_at g.at name)) [
      | inl t ↦
          let here : is_at f.at name ≡ true = ats ∙ t in
          record {
            none = rw (here, t) refl;
            wide = rw (here, t) h.0.wide;
            same = λ n. rw (here, t) (ap Some (h.0.value (named f.at name here n)));
          }
      | inr n ↦
          let there : is_at f.at name ≡ false = ats ∙ n in
          record {
            none = rw (there, n) later.none;
            wide = rw (there, n) later.wide;
            same =
                λ m. rw (there, n) (later.same m);
          }
    ]

presence-alike : (fs gs : List FieldValue) (names : List FieldName) → AreAlike fs gs
    → presence fs names ≡ presence gs names
presence-alike fs gs [] h = refl
presence-alike fs gs (name ∷ names) h =
    let f = found fs gs name h in
    rw (f.none, f.wide, presence-alike fs gs names h) refl

size_same : (name : FieldName) (a b : List Bool) → (is_needed name ≡ true → a ≡ b)
    → is_size_right name a ≡ is_size_right name b
size_same (CoapOption number) a b h = ap (is_size_right (CoapOption number)) (h refl)
size_same _ a b h = refl

order-alike : (r p : ℕ) (fs gs : List FieldValue) → AreAlike fs gs → order r p fs ≡ order r p gs
order-alike r p [] [] h = refl
order-alike r p [] (g ∷ gs) h = absurd h
order-alike r p (f ∷ fs) [] h = absurd h
order-alike r p (f ∷ fs) (g ∷ gs) h =
    let size : is_size_right f.at.name f.value ≡ is_size_right f.at.name g.value =
    size_same f.at.name f.value g.value h.0.value in
    let rest : order (rank_of f.at.name) f.at.position fs ≡ order (rank_of f.at.name) f.at.position
    gs = order-alike (rank_of f.at.name) f.at.position fs gs h.1 in
    rw (size, rest)
    (ap (λ (at : FieldAt). order r p
    ((let x : FieldValue = record { at = at; value = g.value } in x) ∷ gs)) h.0.at)

value_refusals-alike : (fs gs : List FieldValue) → AreAlike fs gs
    → value_refusals fs ≡ value_refusals gs
value_refusals-alike fs gs h =
    rw (
      (found fs gs CoapVersion h).same refl,
      (found fs gs CoapTkl h).same refl,
      (found fs gs CoapToken h).same refl,
    ) refl

gaps-alike : (before place : ℕ) (fs gs : List FieldValue) → AreAlike fs gs
    → gaps before place fs ≡ gaps before place gs
gaps-alike before place [] [] h = refl
gaps-alike before place [] (g ∷ gs) h = absurd h
gaps-alike before place (f ∷ fs) [] h = absurd h
gaps-alike before place (f ∷ fs) (g ∷ gs) h =
    rw (gaps-alike (number_after before f.at.name) (position_after place f.at.name f.at.position) fs
    gs h.1)
    (ap (λ (at : FieldAt). gap before place at.name at.position ++ gaps
    (number_after before at.name) (position_after place at.name at.position) gs) h.0.at)

-- the same conditions
pub refusals-alike : (fs gs : List FieldValue) → AreAlike fs gs
    → join_refusals fs ≡ join_refusals gs
refusals-alike fs gs h =
    ap (λ x. x ++ (order 0 0 fs ++ (value_refusals fs ++ gaps 0 0 fs)))
    (presence-alike fs gs coap_fields h)
    ∙ ap (λ x. presence gs coap_fields ++ (x ++ (value_refusals fs ++ gaps 0 0 fs)))
    (order-alike 0 0 fs gs h)
    ∙ ap (λ x. presence gs coap_fields ++ (order 0 0 gs ++ (x ++ gaps 0 0 fs)))
    (value_refusals-alike fs gs h)
    ∙ ap (λ x. presence gs coap_fields ++ (order 0 0 gs ++ (value_refusals gs ++ x)))
    (gaps-alike 0 0 fs gs h)

option_same : (name : FieldName) (a b : List Bool) → (is_needed name ≡ true → a ≡ b)
    → option_from name a ≡ option_from name b
option_same (CoapOption number) a b h = ap (option_from (CoapOption number)) (h refl)
option_same _ a b h = refl

options-alike : (fs gs : List FieldValue) → AreAlike fs gs → options_from fs ≡ options_from gs
options-alike [] [] h = refl
options-alike [] (g ∷ gs) h = absurd h
options-alike (f ∷ fs) [] h = absurd h
options-alike (f ∷ fs) (g ∷ gs) h =
    rw (options-alike fs gs h.1, option_same f.at.name f.value g.value h.0.value)
    (ap (λ (at : FieldAt). option_from at.name g.value (options_from gs)) h.0.at)

-- and as many bytes
pub length-alike : (fs gs : List FieldValue) (payload : List ℕ) → AreAlike fs gs
    → length (message_from fs payload) ≡ length (message_from gs payload)
unfolding message_from spelled
length-alike fs gs payload h =
    rw (options-alike fs gs h, (found fs gs CoapToken h).same refl) refl
