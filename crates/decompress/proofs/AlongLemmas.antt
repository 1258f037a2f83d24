-- Reading the entries of a rule one after another.
use Rattle.std.specs.Prelude.{ℕ, ◌≡◌, ◌+◌, ◌*◌, ◌==◌, Bool, true, false, if◌then◌else◌, List, []}
use Rattle.std.specs.Prelude.{◌∷◌, ◌++◌, drop, map, filter, Contains, Ok}
use Rattle.std.specs.List.{flat_map, AllByRecursion}
use Rattle.std.proofs.Common.{ap, refl, sym, ◌∙◌, subst, inl, inr}
use Rattle.std.proofs.lemmas.Bool.{cases_Bool, and_left}
use Rattle.std.proofs.lemmas.List.{append_assoc, append-nil}
use Rattle.schc_bits.specs.Bits.{bits_value}
use Rattle.schc_ids.specs.declared.ends.Direction.{Direction}
use Rattle.schc_ids.specs.declared.ends.Iids.{Iids}
use Rattle.schc_ids.specs.declared.names.FieldAt.{FieldAt}
use Rattle.schc_ids.specs.declared.names.FieldName.TheVariants.{CoapTkl, CoapToken}
use Rattle.schc_ids.specs.Ends.{covers}
use Rattle.schc_ids.specs.Names.{same_name}
use Rattle.rule_model.specs.declared.rule.Length.{Length}
use Rattle.rule_model.specs.declared.rule.Length.TheVariants.{Fixed, Variable, TokenLength}
use Rattle.rule_model.specs.declared.rule.Operator.{Operator}
use Rattle.rule_model.specs.declared.rule.Action.{Action}
use Rattle.rule_model.specs.declared.rule.Action.TheVariants.{NotSent, ValueSent, MappingSent, Lsb}
use Rattle.rule_model.specs.declared.rule.Action.TheVariants.{Compute, DevIid, AppIid}
use Rattle.rule_model.specs.declared.value.FieldValue.{FieldValue}
use Rattle.rule_model.specs.Data.{EntryData}
use Rattle.rule_model.specs.Cover.{field_of}
use Rattle.rule_model.specs.Findings.{order_wrong}
use Rattle.rule_model.specs.Residue.{same_field, value_of, entry_residue, token_bits, msb_bits}
use Rattle.rule_model.specs.Residue.{restored_value, restored_field}
use Rattle.rule_model.proofs.SizedLemmas.{Contains-first, Contains-rest}
use Rattle.rule_model.proofs.EntryRowsLemmas.{InOrder, no-later-length}
use Rattle.decompress.specs.Reading.{entry_at, with_field, then_entry, restore_from}
use Rattle.decompress.proofs.EntryLemmas.{FitsKind, SentBy, SentFits, IsRegular, entry_at-again}

-- the entries that are used in the direction
abbrev pub kept : Direction → List EntryData → List EntryData
kept direction entries = filter (λ e. covers e.direction direction) entries

-- an entry that is used in the direction is kept, before those that are kept of the later ones
pub kept-used : (direction : Direction) (e : EntryData) (later : List EntryData)
    → covers e.direction direction ≡ true → kept direction (e ∷ later) ≡ e ∷ kept direction later
kept-used direction e later t = rw t

-- an entry that isn't used in the direction isn't kept
pub kept-unused : (direction : Direction) (e : EntryData) (later : List EntryData)
    → covers e.direction direction ≡ false → kept direction (e ∷ later) ≡ kept direction later
kept-unused direction e later f = rw f

-- what is sent of the entries
abbrev pub written : Direction → List FieldValue → List EntryData → List Bool
written direction fields entries =
    flat_map (λ e. entry_residue e (value_of fields (field_of e))) (kept direction entries)

-- at an entry that is used its value is read, and then the later entries with its field before them
pub restore-used : (iids : Iids) (direction : Direction) (number : ℕ) (before : List FieldValue)
    (e : EntryData) (later : List EntryData) (bits : List Bool)
    → covers e.direction direction ≡ true
    → restore_from iids direction number before (e ∷ later) bits ≡ then_entry number
    (entry_at iids before e bits)
    (λ value rest. restore_from iids direction (number + 1) (with_field before e value) later rest)
restore-used iids direction number before e later bits t = rw t

-- at an entry that isn't used nothing is read, but it counts in the numbers of the later ones
pub restore-unused : (iids : Iids) (direction : Direction) (number : ℕ) (before : List FieldValue)
    (e : EntryData) (later : List EntryData) (bits : List Bool)
    → covers e.direction direction ≡ false
    → restore_from iids direction number before (e ∷ later) bits ≡ restore_from iids direction
    (number + 1) before later bits
restore-unused iids direction number before e later bits f = rw f

-- what holds of each entry that is used holds of those that are kept
pub kept-all : (P : EntryData → Type 0) (direction : Direction) (entries : List EntryData)
    → ((d : EntryData) → Contains entries d → covers d.direction direction ≡ true → P d)
    → AllByRecursion P (kept direction entries)
kept-all P direction [] h = tt
kept-all P direction (e ∷ later) h =
    let rest : AllByRecursion P (kept direction later) =
    kept-all P direction later (λ d among. h d (Contains-rest e later d among)) in
    elim (cases_Bool (covers e.direction direction)) [
      | inl t ↦ subst (AllByRecursion P) (sym (kept-used direction e later t))
          (h e (Contains-first e later) t, rest)
      | inr f ↦ subst (AllByRecursion P) (sym (kept-unused direction e later f)) rest
    ]

-- none of the fields is this one
abbrev pub Lacks : List FieldValue → FieldAt → Type 0
Lacks fields at = AllByRecursion (λ f. same_field f.at at ≡ false) fields

-- a field that isn't among the fields has no bits
pub value_of-lacks : (fields : List FieldValue) (at : FieldAt) → Lacks fields at
    → value_of fields at ≡ []
value_of-lacks [] at h = refl
value_of-lacks (f ∷ fields) at h = rw h.0 (value_of-lacks fields at h.1)

value_of-append : (fields more : List FieldValue) (at : FieldAt) → Lacks more at
    → value_of (fields ++ more) at ≡ value_of fields at
value_of-append [] more at h = value_of-lacks more at h
value_of-append (f ∷ fields) more at h =
    elim (same_field f.at at) as
    (λ b. (if b then f.value else value_of (fields ++ more) at) ≡ (if b then f.value
    else value_of fields at)) [
      | true ↦ refl
      | false ↦ value_of-append fields more at h
    ]

-- the value of a field is that of the first one with its name and position
pub value_of-found : (fields : List FieldValue) (f : FieldValue) (more : List FieldValue)
    (at : FieldAt) → Lacks fields at → same_field f.at at ≡ true
    → value_of (fields ++ f ∷ more) at ≡ f.value
value_of-found [] f more at h t = rw t
value_of-found (g ∷ fields) f more at h t = rw h.0 (value_of-found fields f more at h.1 t)

-- a field that is in neither of two lists isn't in the two joined
pub Lacks-append : (fields more : List FieldValue) (at : FieldAt) → Lacks fields at → Lacks more at
    → Lacks (fields ++ more) at
Lacks-append [] more at h k = k
Lacks-append (f ∷ fields) more at h k = (h.0, Lacks-append fields more at h.1 k)

-- where none of the entries has this field, what is restored of them hasn't it either
pub Lacks-restored : (iids : Iids) (fields : List FieldValue) (at : FieldAt)
    (entries : List EntryData) → AllByRecursion (λ d. same_field (field_of d) at ≡ false) entries
    → Lacks (map (restored_field iids fields) entries) at
Lacks-restored iids fields at [] h = tt
Lacks-restored iids fields at (e ∷ entries) h = (h.0, Lacks-restored iids fields at entries h.1)

-- the token length field of CoAP
abbrev pub token_length : FieldAt
token_length = record { name = CoapTkl; position = 1 }

-- the token length stands before the token
pub token-stands : (iids : Iids) (direction : Direction) (fields before whole : List FieldValue)
    (e : EntryData) (later : List EntryData) → order_wrong e (e ∷ later) ≡ false
    → e.name ≡ CoapToken → covers e.direction direction ≡ true
    → whole ≡ before ++ map (restored_field iids fields) (kept direction (e ∷ later))
    → token_bits before ≡ token_bits whole
token-stands iids direction fields before whole e later order token t w =
    let none : AllByRecursion (λ d. same_field (field_of d) token_length ≡ false)
    (kept direction (e ∷ later)) =
    kept-all (λ d. same_field (field_of d) token_length ≡ false) direction (e ∷ later)
    (λ d among used. and_left (same_name d.name CoapTkl) (d.position == 1)
    (no-later-length e (e ∷ later) direction order token t d among used))
    in
    let same : value_of (before ++ map (restored_field iids fields) (kept direction (e ∷ later)))
    token_length ≡ value_of before token_length =
    value_of-append before (map (restored_field iids fields) (kept direction (e ∷ later)))
    token_length (Lacks-restored iids fields token_length (kept direction (e ∷ later)) none)
    in
    sym (ap (λ all. 8 * bits_value (value_of all token_length)) w
    ∙ ap (λ value. 8 * bits_value value) same)

-- a token's length may be that of other fields with the same token length
FitsKind-token : (a b : List FieldValue) (kind : Length) (skip : ℕ) (sent : List Bool)
    → (kind ≡ TokenLength → token_bits a ≡ token_bits b) → FitsKind a kind skip sent
    → FitsKind b kind skip sent
FitsKind-token a b (Fixed width) skip sent h k = k
FitsKind-token a b TokenLength skip sent h k = k ∙ h refl
FitsKind-token a b Variable skip sent h k = k

-- what is sent of a value fits among other fields too, if these have the same token length where
-- the entry's length is a token's
pub SentBy-token : (a b : List FieldValue) (action : Action) (kind : Length) (operator : Operator)
    (targets : List (List Bool)) (value : List Bool)
    → (kind ≡ TokenLength → token_bits a ≡ token_bits b)
    → SentBy a action kind operator targets value → SentBy b action kind operator targets value
SentBy-token a b NotSent kind operator targets value h k = k
SentBy-token a b ValueSent kind operator targets value h k = FitsKind-token a b kind 0 value h k
SentBy-token a b MappingSent kind operator targets value h k = k
SentBy-token a b Lsb kind operator targets value h k =
    FitsKind-token a b kind (msb_bits operator) (drop (msb_bits operator) value) h k
SentBy-token a b Compute kind operator targets value h k = k
SentBy-token a b DevIid kind operator targets value h k = k
SentBy-token a b AppIid kind operator targets value h k = k

-- what holds of each entry of an admitted rule, as far as reading needs it: beside the action's,
-- only a token has the token's length
pub record IsSound (e : EntryData) : Type 0 where
  pub regular : IsRegular e
  pub token : e.length ≡ TokenLength → e.name ≡ CoapToken

-- what was written is read: the fields as they are restored
pub again-along : (iids : Iids) (direction : Direction) (fields whole : List FieldValue)
    (number : ℕ) (before : List FieldValue) (entries : List EntryData) (rest : List Bool)
    → InOrder entries → AllByRecursion IsSound entries
    → AllByRecursion (λ e. SentFits fields e (value_of fields (field_of e)))
    (kept direction entries) → token_bits whole ≡ token_bits fields
    → whole ≡ before ++ map (restored_field iids fields) (kept direction entries)
    → restore_from iids direction number before entries
    (written direction fields entries ++ rest) ≡ Ok (whole, rest)
again-along iids direction fields whole number before [] rest order sound fits tokens w =
    ap (λ all. Ok (all, rest)) (sym (append-nil before) ∙ sym w)
again-along iids direction fields whole number before (e ∷ later) rest order sound fits tokens w =
    elim (cases_Bool (covers e.direction direction)) [
      | inl t ↦
          let at : FieldAt = field_of e in
          let value : List Bool = value_of fields at in
          let more : List Bool = written direction fields later ++ rest in
          let front : written direction fields (e ∷ later) ++ rest ≡ entry_residue e value ++ more =
          ap (λ entries. flat_map (λ d. entry_residue d (value_of fields (field_of d)))
          entries ++ rest) (kept-used direction e later t)
          ∙ append_assoc (entry_residue e value) (written direction fields later) rest
          in
          let here : AllByRecursion (λ d. SentFits fields d (value_of fields (field_of d)))
          (e ∷ kept direction later) =
          subst (AllByRecursion (λ d. SentFits fields d (value_of fields (field_of d))))
          (kept-used direction e later t) fits
          in
          let fits_here : SentFits before e value =
          SentBy-token fields before e.action e.length e.operator e.targets value
          (λ kind. sym
          (token-stands iids direction fields before whole e later order.0 (sound.0.token kind)
          t w ∙ tokens)) here.0
          in
          let onward : whole ≡ with_field before e (restored_value iids e value) ++ map
          (restored_field iids fields) (kept direction later) =
          w ∙ ap (λ entries. before ++ map (restored_field iids fields) entries)
          (kept-used direction e later t)
          ∙ sym (append_assoc before (restored_field iids fields e ∷ [])
          (map (restored_field iids fields) (kept direction later)))
          in
          ap (restore_from iids direction number before (e ∷ later)) front
          ∙ restore-used iids direction number before e later (entry_residue e value ++ more) t
          ∙ ap (λ read. then_entry number read
          (λ v r. restore_from iids direction (number + 1) (with_field before e v) later r))
          (entry_at-again iids before e value more fits_here)
          ∙ again-along iids direction fields whole (number + 1)
          (with_field before e (restored_value iids e value)) later rest order.1 sound.1 here.1
          tokens onward
      | inr f ↦
          let front : written direction fields (e ∷ later) ++ rest ≡ written direction fields
          later ++ rest =
          ap (λ entries. flat_map (λ d. entry_residue d (value_of fields (field_of d)))
          entries ++ rest) (kept-unused direction e later f)
          in
          ap (restore_from iids direction number before (e ∷ later)) front
          ∙ restore-unused iids direction number before e later
          (written direction fields later ++ rest) f
          ∙ again-along iids direction fields whole (number + 1) before later rest order.1 sound.1
          (subst (AllByRecursion (λ d. SentFits fields d (value_of fields (field_of d))))
          (kept-unused direction e later f) fits) tokens
          (w ∙ ap (λ entries. before ++ map (restored_field iids fields) entries)
          (kept-unused direction e later f))
    ]
