-- The fields that are read are those whose residue stands there.
use Rattle.std.specs.Prelude.{ℕ, ◌≡◌, ◌+◌, Bool, true, false, List, [], ◌∷◌, ◌++◌, map, Result, Ok}
use Rattle.std.specs.Prelude.{Err}
use Rattle.std.specs.List.{flat_map, AllByRecursion}
use Rattle.std.proofs.Common.{ap, refl, sym, ◌∙◌, subst, inl, inr}
use Rattle.std.proofs.lemmas.Bool.{cases_Bool, true≢false}
use Rattle.std.proofs.lemmas.List.{append_assoc, append-nil}
use Rattle.schc_ids.specs.declared.ends.Direction.{Direction}
use Rattle.schc_ids.specs.declared.ends.Iids.{Iids}
use Rattle.schc_ids.specs.declared.faults.ResidueFault.{ResidueFault}
use Rattle.schc_ids.specs.declared.faults.UnpackFault.{UnpackFault}
use Rattle.schc_ids.specs.declared.names.FieldAt.{FieldAt}
use Rattle.schc_ids.specs.Ends.{covers}
use Rattle.rule_model.specs.declared.value.FieldValue.{FieldValue}
use Rattle.rule_model.specs.Data.{EntryData}
use Rattle.rule_model.specs.Cover.{field_of}
use Rattle.rule_model.specs.Findings.{order_wrong}
use Rattle.rule_model.specs.Residue.{same_field, value_of, entry_residue, restored_value}
use Rattle.rule_model.specs.Residue.{restored_field}
use Rattle.rule_model.proofs.SizedLemmas.{same_field-true, same_field-itself}
use Rattle.rule_model.proofs.EntryRowsLemmas.{InOrder, AreApart, other-field}
use Rattle.decompress.specs.Reading.{entry_at, with_field, then_entry, restore_from}
use Rattle.decompress.proofs.ReadLemmas.{ok-parts}
use Rattle.decompress.proofs.EntryLemmas.{SentFits, entry_at-takes}
use Rattle.decompress.proofs.AlongLemmas.{kept, kept-used, kept-unused, kept-all, written}
use Rattle.decompress.proofs.AlongLemmas.{restore-used, restore-unused, Lacks, Lacks-append}
use Rattle.decompress.proofs.AlongLemmas.{value_of-found, token-stands, SentBy-token, IsSound}

-- the test doesn't see the order
same_field-flip : (a b : FieldAt) → same_field a b ≡ false → same_field b a ≡ false
same_field-flip a b h =
    elim (cases_Bool (same_field b a)) [
      | inl t ↦
          let same : a ≡ b = sym (same_field-true b a t) in
          absurd (true≢false
          (sym (subst (λ (x : FieldAt). same_field x b ≡ true) (sym same) (same_field-itself b))
          ∙ h))
      | inr f ↦ f
    ]

-- what goes on was read
then_entry-ok : (number : ℕ) (read : Result (List Bool × List Bool) ResidueFault)
    (next : List Bool → List Bool → Result (List FieldValue × List Bool) UnpackFault)
    (whole : List FieldValue) (rest : List Bool) → then_entry number read next ≡ Ok (whole, rest)
    → (r : List Bool × List Bool) × (read ≡ Ok r) × (next r.0 r.1 ≡ Ok (whole, rest))
then_entry-ok number (Err fault) next whole rest e = absurd (cc)
then_entry-ok number (Ok r) next whole rest e = (r, refl, e)

-- the entries that are kept are all of other fields than those read so far
abbrev pub IsFresh : Direction → List FieldValue → List EntryData → Type 0
IsFresh direction before entries =
    AllByRecursion (λ d. Lacks before (field_of d)) (kept direction entries)

-- before any field is read, each entry is of another field than those read
pub IsFresh-none : (entries : List EntryData) → AllByRecursion (λ d. Lacks [] (field_of d)) entries
IsFresh-none [] = tt
IsFresh-none (e ∷ entries) = (tt, IsFresh-none entries)

fresh_next : (before : List FieldValue) (f : FieldValue) (entries : List EntryData)
    → AllByRecursion (λ d. Lacks before (field_of d)) entries
    → AllByRecursion (λ d. same_field f.at (field_of d) ≡ false) entries
    → AllByRecursion (λ d. Lacks (before ++ f ∷ []) (field_of d)) entries
fresh_next before f [] h k = tt
fresh_next before f (d ∷ entries) h k =
    (Lacks-append before (f ∷ []) (field_of d) h.0 (k.0, tt), fresh_next before f entries h.1 k.1)

-- the entries after one that is used, and are used themselves, are of other fields
pub apart-kept : (direction : Direction) (e : EntryData) (later : List EntryData)
    → AreApart (e ∷ later) → covers e.direction direction ≡ true
    → AllByRecursion (λ d. same_field (field_of e) (field_of d) ≡ false) (kept direction later)
apart-kept direction e later apart t =
    kept-all (λ d. same_field (field_of e) (field_of d) ≡ false) direction later
    (λ d among used. same_field-flip (field_of d) (field_of e)
    (other-field d e direction (apart.0 d among) used t))

-- what is read of the entries
pub record IsTaken (iids : Iids) (direction : Direction) (before : List FieldValue)
    (entries : List EntryData) (bits : List Bool) (whole : List FieldValue)
    (rest : List Bool) : Type 0 where
  pub restored : whole ≡ before ++ map (restored_field iids whole) (kept direction entries)
  pub bits_are : bits ≡ written direction whole entries ++ rest
  pub fits : AllByRecursion (λ e. SentFits whole e (value_of whole (field_of e)))
      (kept direction entries)
  pub stays : AllByRecursion
      (λ e. restored_value iids e (value_of whole (field_of e)) ≡ value_of whole (field_of e))
      (kept direction entries)

abbrev field_with : EntryData → List Bool → FieldValue
field_with e value = record { at = field_of e; value = value }

-- one entry that is used, and then the others
taken_used : (iids : Iids) (direction : Direction) (before : List FieldValue) (e : EntryData)
    (later : List EntryData) (bits value more : List Bool) (whole : List FieldValue)
    (rest : List Bool) → order_wrong e (e ∷ later) ≡ false → IsSound e → Lacks before (field_of e)
    → covers e.direction direction ≡ true → bits ≡ entry_residue e value ++ more
    → restored_value iids e value ≡ value → SentFits before e value
    → IsTaken iids direction (with_field before e value) later more whole rest
    → IsTaken iids direction before (e ∷ later) bits whole rest
taken_used iids direction before e later bits value more whole rest order sound lacks t b r fits
    taken =
    let f : FieldValue = record { at = field_of e; value = value } in
    let after : List FieldValue = map (restored_field iids whole) (kept direction later) in
    let split : whole ≡ before ++ (f ∷ after) = taken.restored
    ∙ append_assoc before (f ∷ []) after in
    let own : value_of whole (field_of e) ≡ value =
    ap (λ all. value_of all (field_of e)) split
    ∙ value_of-found before f after (field_of e) lacks (same_field-itself (field_of e))
    in
    let first : restored_field iids whole e ≡ f =
    ap (λ v. field_with e (restored_value iids e v)) own ∙ ap (field_with e) r in
    let restored_all : whole ≡ before ++ map (restored_field iids whole)
    (kept direction (e ∷ later)) =
    split ∙ ap (λ g. before ++ (g ∷ after)) (sym first)
    ∙ ap (λ entries. before ++ map (restored_field iids whole) entries)
    (sym (kept-used direction e later t))
    in
    let residue : written direction whole (e ∷ later) ++ rest ≡ entry_residue e
    value ++ (written direction whole later ++ rest) =
    ap (λ entries. flat_map (λ d. entry_residue d (value_of whole (field_of d))) entries ++ rest)
    (kept-used direction e later t)
    ∙ append_assoc (entry_residue e (value_of whole (field_of e))) (written direction whole later)
    rest
    ∙ ap (λ v. entry_residue e v ++ (written direction whole later ++ rest)) own
    in
    let fits_here : SentFits whole e (value_of whole (field_of e)) =
    subst (SentFits whole e) (sym own)
    (SentBy-token before whole e.action e.length e.operator e.targets value
    (λ kind. token-stands iids direction whole before whole e later order (sound.token kind) t
    restored_all) fits)
    in
    record {
      restored = restored_all;
      bits_are = b ∙ ap (λ last. entry_residue e value ++ last) taken.bits_are ∙ sym residue;
      fits = subst (AllByRecursion (λ d. SentFits whole d (value_of whole (field_of d))))
          (sym (kept-used direction e later t)) (fits_here, taken.fits);
      stays =
          subst (AllByRecursion
          (λ d. restored_value iids d (value_of whole (field_of d)) ≡ value_of whole
          (field_of d))) (sym (kept-used direction e later t))
          (ap (restored_value iids e) own ∙ r ∙ sym own, taken.stays);
    }

-- the fields that are read are those whose residue stands there
pub takes-along : (iids : Iids) (direction : Direction) (number : ℕ) (before : List FieldValue)
    (entries : List EntryData) (bits : List Bool) (whole : List FieldValue) (rest : List Bool)
    → InOrder entries → AreApart entries → AllByRecursion IsSound entries
    → IsFresh direction before entries
    → restore_from iids direction number before entries bits ≡ Ok (whole, rest)
    → IsTaken iids direction before entries bits whole rest
takes-along iids direction number before [] bits whole rest order apart sound fresh e =
    let parts : (before ≡ whole) × (bits ≡ rest) =
    ok-parts (restore_from iids direction number before [] bits) before whole bits rest refl e
    in
    record {
      restored = sym (append-nil before ∙ parts.0);
      bits_are = parts.1;
      fits = tt;
      stays =
          tt;
    }
takes-along iids direction number before (e ∷ later) bits whole rest order apart sound fresh q =
    elim (cases_Bool (covers e.direction direction)) [
      | inl t ↦
          let r = then_entry-ok number (entry_at iids before e bits)
          (λ value more. restore_from iids direction (number + 1) (with_field before e value)
          later more) whole rest
          (sym (restore-used iids direction number before e later bits t) ∙ q) in
          let here = entry_at-takes iids before e bits r.0.0 r.0.1 sound.0.regular r.1 in
          let fresh_here : AllByRecursion (λ d. Lacks before (field_of d))
          (e ∷ kept direction later) =
          subst (AllByRecursion (λ d. Lacks before (field_of d))) (kept-used direction e later t)
          fresh
          in
          let fresh_later : IsFresh direction (with_field before e r.0.0) later =
          fresh_next before (field_with e r.0.0) (kept direction later) fresh_here.1
          (apart-kept direction e later apart t)
          in
          taken_used iids direction before e later bits r.0.0 r.0.1 whole rest order.0 sound.0
          fresh_here.0 t here.0 here.1 here.2
          (takes-along iids direction (number + 1) (with_field before e r.0.0) later r.0.1 whole
          rest order.1 apart.1 sound.1 fresh_later r.2)
      | inr f ↦
          let onward : IsTaken iids direction before later bits whole rest =
          takes-along iids direction (number + 1) before later bits whole rest order.1 apart.1
          sound.1
          (subst (AllByRecursion (λ d. Lacks before (field_of d))) (kept-unused direction e later f)
          fresh)
          (sym (restore-unused iids direction number before e later bits f) ∙ q)
          in
          let same : kept direction later ≡ kept direction (e ∷ later) =
          sym (kept-unused direction e later f) in
          record {
            restored = onward.restored
                ∙ ap (λ entries. before ++ map (restored_field iids whole) entries) same;
            bits_are = onward.bits_are
                ∙ ap (λ entries. flat_map (λ d. entry_residue d (value_of whole (field_of d)))
                entries ++ rest) same;
            fits = subst (AllByRecursion (λ d. SentFits whole d (value_of whole (field_of d)))) same
                onward.fits;
            stays = subst
                (AllByRecursion
                (λ d. restored_value iids d (value_of whole (field_of d)) ≡ value_of whole
                (field_of d))) same onward.stays;
          }
    ]
