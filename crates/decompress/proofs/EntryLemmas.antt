-- What is read of an entry is what was written of it.
use Rattle.std.specs.Prelude.{ℕ, ◌≡◌, ◌-◌, ◌*◌, ◌/◌, ◌^◌, ◌<◌, ◌≤◌, zero, suc, Bool, true, false}
use Rattle.std.specs.Prelude.{not, List, [], ◌∷◌, ◌++◌, length, take, drop, get_or, slice_get}
use Rattle.std.specs.Prelude.{position, unwrap_or, Option, Some, None, Ok}
use Rattle.std.specs.List.{list_any, position_or_len}
use Rattle.std.proofs.Common.{arith, ap, refl, sym, ◌∙◌, subst, inl, inr}
use Rattle.std.proofs.lemmas.Bool.{lt-ltb, and_parts, or_parts, not-true}
use Rattle.std.proofs.lemmas.List.{append_assoc, length-take-le, drop_at}
use Rattle.std.proofs.lemmas.List.Sums.{position_or_len_is}
use Rattle.schc_bits.specs.Bits.{number_bits}
use Rattle.schc_ids.specs.declared.ends.Iids.{Iids}
use Rattle.rule_model.specs.declared.rule.Length.{Length}
use Rattle.rule_model.specs.declared.rule.Length.TheVariants.{Fixed, Variable, TokenLength}
use Rattle.rule_model.specs.declared.rule.Operator.{Operator}
use Rattle.rule_model.specs.declared.rule.Action.{Action}
use Rattle.rule_model.specs.declared.rule.Action.TheVariants.{NotSent, ValueSent, MappingSent, Lsb}
use Rattle.rule_model.specs.declared.rule.Action.TheVariants.{Compute, DevIid, AppIid}
use Rattle.rule_model.specs.declared.value.FieldValue.{FieldValue}
use Rattle.rule_model.specs.Data.{EntryData}
use Rattle.rule_model.specs.Findings.{same_bits, all_different}
use Rattle.rule_model.specs.Residue.{size_code, index_width, index_of, msb_bits, with_size}
use Rattle.rule_model.specs.Residue.{sent_bits, entry_residue, token_bits, HasSize, first_target}
use Rattle.rule_model.specs.Residue.{restored_by, restored_value}
use Rattle.rule_model.proofs.ResidueLemmas.{same_bits-itself, index_of-cases, index_of-fits}
use Rattle.decompress.specs.Reading.{then_read, taken_at, counted_at, size_at, value_at, target_or}
use Rattle.decompress.specs.Reading.{target_at, after_target, lsb_at, value_by, entry_at}
use Rattle.decompress.proofs.ReadLemmas.{ok-parts, then_read-ok, taken_at-again, taken_at-takes}
use Rattle.decompress.proofs.ReadLemmas.{counted_at-again, counted_at-takes, size_at-again}
use Rattle.decompress.proofs.ReadLemmas.{size_at-takes}

-- the bits that are sent of a value have the length that the other end reads
abbrev pub FitsKind : List FieldValue → Length → ℕ → List Bool → Type 0
FitsKind fields (Fixed width) skip sent = length sent ≡ width - skip
FitsKind fields TokenLength skip sent = length sent ≡ token_bits fields
FitsKind fields Variable skip sent = HasSize sent

pub value_at-again : (fields : List FieldValue) (kind : Length) (skip : ℕ) (sent rest : List Bool)
    → FitsKind fields kind skip sent
    → value_at fields kind skip (with_size kind sent ++ rest) ≡ Ok (sent, rest)
value_at-again fields (Fixed width) skip sent rest h = taken_at-again (width - skip) sent rest h
value_at-again fields TokenLength skip sent rest h = taken_at-again (token_bits fields) sent rest h
value_at-again fields Variable skip sent rest h =
    ap (λ bits. then_read (size_at bits) (λ size more. taken_at (8 * size) more))
    (append_assoc (size_code (length sent / 8)) sent rest)
    ∙ ap (λ read. then_read read (λ size more. taken_at (8 * size) more))
    (size_at-again (length sent / 8) (sent ++ rest) h.1)
    ∙ taken_at-again (8 * (length sent / 8)) sent rest (omega (arith, h.0))

pub value_at-takes : (fields : List FieldValue) (kind : Length) (skip : ℕ)
    (bits sent rest : List Bool) → value_at fields kind skip bits ≡ Ok (sent, rest)
    → (bits ≡ with_size kind sent ++ rest) × FitsKind fields kind skip sent
value_at-takes fields (Fixed width) skip bits sent rest e =
    taken_at-takes (width - skip) bits sent rest e
value_at-takes fields TokenLength skip bits sent rest e =
    taken_at-takes (token_bits fields) bits sent rest e
value_at-takes fields Variable skip bits sent rest e =
    let r = then_read-ok (size_at bits) (λ size more. taken_at (8 * size) more) sent rest e in
    let size : (bits ≡ size_code r.0.0 ++ r.0.1) × (r.0.0 ≤ 65535) =
    size_at-takes bits r.0.0 r.0.1 r.1 in
    let value : (r.0.1 ≡ sent ++ rest) × (length sent ≡ 8 * r.0.0) =
    taken_at-takes (8 * r.0.0) r.0.1 sent rest r.2 in
    let bytes : r.0.0 ≡ length sent / 8 = omega (arith, value.1) in (
      size.0 ∙ ap (λ n. size_code n ++ r.0.1) bytes
          ∙ ap (λ more. size_code (length sent / 8) ++ more) value.0
          ∙ sym (append_assoc (size_code (length sent / 8)) sent rest),
      (omega (arith, value.1), omega (arith, size.1, bytes)),
    )

-- what is sent of a value has the length that the other end reads, and there is a target where its
-- index is sent
abbrev pub SentBy : List FieldValue → Action → Length → Operator → List (List Bool) → List Bool
    → Type 0
SentBy fields ValueSent kind operator targets value = FitsKind fields kind 0 value
SentBy fields MappingSent kind operator targets value = 0 < length targets
SentBy fields Lsb kind operator targets value =
    FitsKind fields kind (msb_bits operator) (drop (msb_bits operator) value)
SentBy fields _ kind operator targets value = Unit {0}

-- the same of an entry, with its action, length, operator and targets
abbrev pub SentFits : List FieldValue → EntryData → List Bool → Type 0
SentFits fields e value = SentBy fields e.action e.length e.operator e.targets value

-- a target with an index
pub some-at : (targets : List (List Bool)) (i : ℕ) → i < length targets
    → slice_get targets i ≡ Some (get_or targets i [])
some-at [] i h = absurd (omega arith)
some-at (t ∷ targets) zero h = refl
some-at (t ∷ targets) (suc i) h = some-at targets i (omega arith)

some_within : (targets : List (List Bool)) (i : ℕ) (value : List Bool)
    → slice_get targets i ≡ Some value → (i < length targets) × (get_or targets i [] ≡ value)
some_within [] i value e = absurd (cc)
some_within (t ∷ targets) zero value e = (omega arith, cc)
some_within (t ∷ targets) (suc i) value e =
    let later : (i < length targets) × (get_or targets i [] ≡ value) =
    some_within targets i value e in
    (omega (arith, later.0), later.1)

-- the index of a value is one of a target where there is one
pub index-within : (targets : List (List Bool)) (value : List Bool) → 0 < length targets
    → index_of targets value < length targets
index-within targets value h =
    elim (index_of-cases targets value) [
      | inl among ↦ among.0
      | inr none ↦
          let index : index_of targets value ≡ 0 = ap (λ found. unwrap_or found 0) none in
          omega arith
    ]

target-again : (targets : List (List Bool)) (value rest : List Bool) → 0 < length targets
    → target_at targets
    (number_bits (index_width (length targets)) (index_of targets value) ++ rest) ≡ Ok
    (unwrap_or (slice_get targets (index_of targets value)) [], rest)
target-again targets value rest h =
    let at : slice_get targets (index_of targets value) ≡ Some
    (get_or targets (index_of targets value) []) =
    some-at targets (index_of targets value) (index-within targets value h) in
    ap (λ read. then_read read (λ index more. target_or (slice_get targets index) more))
    (counted_at-again (index_width (length targets)) (index_of targets value) rest
    (index_of-fits targets value))
    ∙ ap (λ found. target_or found rest) at
    ∙ ap (λ found. Ok (unwrap_or found [], rest)) (sym at)

-- what was written of an entry is read as what is restored of its value
again_by : (iids : Iids) (fields : List FieldValue) (action : Action) (e : EntryData)
    (value rest : List Bool) → SentBy fields action e.length e.operator e.targets value
    → value_by iids fields action e
    (sent_bits action e.length e.operator e.targets value ++ rest) ≡ Ok
    (restored_by iids action e.name e.operator e.targets value, rest)
again_by iids fields NotSent e value rest h = refl
again_by iids fields ValueSent e value rest h = value_at-again fields e.length 0 value rest h
again_by iids fields MappingSent e value rest h = target-again e.targets value rest h
again_by iids fields Lsb e value rest h =
    ap (λ read. then_read read (after_target (msb_bits e.operator) e.targets))
    (value_at-again fields e.length (msb_bits e.operator) (drop (msb_bits e.operator) value)
    rest h)
again_by iids fields Compute e value rest h = refl
again_by iids fields DevIid e value rest h = refl
again_by iids fields AppIid e value rest h = refl

-- what an entry sends of a value is read as what is restored of it, whatever follows
pub entry_at-again : (iids : Iids) (fields : List FieldValue) (e : EntryData)
    (value rest : List Bool) → SentFits fields e value
    → entry_at iids fields e (entry_residue e value ++ rest) ≡ Ok
    (restored_value iids e value, rest)
entry_at-again iids fields e value rest h = again_by iids fields e.action e value rest h

-- each target differs from those after it
different_from : (target : List Bool) (targets : List (List Bool))
    → list_any (same_bits target) targets ≡ false → (i : ℕ) → i < length targets
    → same_bits target (get_or targets i []) ≡ false
different_from target [] h i l = absurd (omega arith)
different_from target (t ∷ targets) h zero l =
    (or_parts (same_bits target t) (list_any (same_bits target) targets) h).0
different_from target (t ∷ targets) h (suc i) l =
    different_from target targets
    (or_parts (same_bits target t) (list_any (same_bits target) targets) h).1 i (omega arith)

different_at : (targets : List (List Bool)) → all_different targets ≡ true → (k i : ℕ) → k < i
    → i < length targets → same_bits (get_or targets k []) (get_or targets i []) ≡ false
different_at [] h k i l m = absurd (omega arith)
different_at (t ∷ targets) h k zero l m = absurd (omega arith)
different_at (t ∷ targets) h zero (suc i) l m =
    different_from t targets
    (not-true (list_any (same_bits t) targets)
    (and_parts (not (list_any (same_bits t) targets)) (all_different targets) h).0) i
    (omega arith)
different_at (t ∷ targets) h (suc k) (suc i) l m =
    different_at targets
    (and_parts (not (list_any (same_bits t) targets)) (all_different targets) h).1 k i
    (omega arith) (omega arith)

-- a target has its own index
own_index : (targets : List (List Bool)) (i : ℕ) → all_different targets ≡ true → i < length targets
    → index_of targets (get_or targets i []) ≡ i
own_index targets i h l =
    let test : List Bool → Bool = λ target. same_bits target (get_or targets i []) in
    let first : position_or_len test targets ≡ i =
    position_or_len_is test targets i [] (omega arith) (λ k m. different_at targets h k i m l)
    (λ m. same_bits-itself (get_or targets i []))
    in
    let found : position test targets ≡ Some i = rw (first, lt-ltb i (length targets) l) in
    ap (λ found. unwrap_or found 0) found

-- what holds of an admitted entry, as far as reading it needs
abbrev pub RegularBy : Action → Operator → List (List Bool) → Type 0
RegularBy MappingSent operator targets = (0 < length targets) × (all_different targets ≡ true)
RegularBy Lsb operator targets = msb_bits operator ≤ length (first_target targets)
RegularBy _ operator targets = Unit {0}

-- a mapping has targets, all different; with LSB the target has the bits that MSB takes from it
abbrev pub IsRegular : EntryData → Type 0
IsRegular e = RegularBy e.action e.operator e.targets

-- what is read of an entry: what was written of the value, which is what is restored of it
abbrev pub TakenBy : Iids → List FieldValue → Action → EntryData → List Bool → List Bool → List Bool
    → Type 0
TakenBy iids fields action e bits value rest =
    (bits ≡ sent_bits action e.length e.operator e.targets value ++ rest)
    × (restored_by iids action e.name e.operator e.targets value ≡ value)
    × SentBy fields action e.length e.operator e.targets value

target-takes : (targets : List (List Bool)) (found : Option (List Bool))
    (value more rest : List Bool) → target_or found more ≡ Ok (value, rest) → (found ≡ Some value)
    × (more ≡ rest)
target-takes targets None value more rest e = absurd (cc)
target-takes targets (Some target) value more rest e =
    let parts : (target ≡ value) × (more ≡ rest) =
    ok-parts (target_or (Some target) more) target value more rest refl e in
    (ap Some parts.0, parts.1)

mapped-takes : (targets : List (List Bool)) (bits value rest : List Bool) → (0 < length targets)
    × (all_different targets ≡ true) → target_at targets bits ≡ Ok (value, rest)
    → (bits ≡ number_bits (index_width (length targets)) (index_of targets value) ++ rest)
    × (unwrap_or (slice_get targets (index_of targets value)) [] ≡ value)
mapped-takes targets bits value rest h e =
    let r = then_read-ok (counted_at (index_width (length targets)) bits)
    (λ index more. target_or (slice_get targets index) more) value rest e in
    let number : (bits ≡ number_bits (index_width (length targets)) r.0.0 ++ r.0.1)
    × (r.0.0 < 2 ^ index_width (length targets)) =
    counted_at-takes (index_width (length targets)) bits r.0.0 r.0.1 r.1
    in
    let found : (slice_get targets r.0.0 ≡ Some value) × (r.0.1 ≡ rest) =
    target-takes targets (slice_get targets r.0.0) value r.0.1 rest r.2 in
    let at : (r.0.0 < length targets) × (get_or targets r.0.0 [] ≡ value) =
    some_within targets r.0.0 value found.0 in
    let own : index_of targets value ≡ r.0.0 = ap (index_of targets) (sym at.1)
    ∙ own_index targets r.0.0 h.1 at.0 in (
      number.0
          ∙ ap (λ n. number_bits (index_width (length targets)) n ++ r.0.1) (sym own)
          ∙ ap (λ more. number_bits (index_width (length targets)) (index_of targets value) ++ more)
          found.1,
      ap (λ n. unwrap_or (slice_get targets n) []) own ∙ ap (λ target. unwrap_or target []) found.0,
    )

lsb-takes : (fields : List FieldValue) (e : EntryData) (bits value rest : List Bool)
    → msb_bits e.operator ≤ length (first_target e.targets)
    → lsb_at fields e bits ≡ Ok (value, rest)
    → (bits ≡ with_size e.length (drop (msb_bits e.operator) value) ++ rest)
    × (take (msb_bits e.operator) (first_target e.targets) ++ drop (msb_bits e.operator)
    value ≡ value)
    × FitsKind fields e.length (msb_bits e.operator) (drop (msb_bits e.operator) value)
lsb-takes fields e bits value rest h q =
    let x : ℕ = msb_bits e.operator in
    let front : List Bool = take x (first_target e.targets) in
    let r = then_read-ok (value_at fields e.length x bits) (after_target x e.targets) value rest q
    in
    let parts : (front ++ r.0.0 ≡ value) × (r.0.1 ≡ rest) =
    ok-parts (after_target x e.targets r.0.0 r.0.1) (front ++ r.0.0) value r.0.1 rest refl r.2
    in
    let sent : (bits ≡ with_size e.length r.0.0 ++ r.0.1) × FitsKind fields e.length x r.0.0 =
    value_at-takes fields e.length x bits r.0.0 r.0.1 r.1 in
    let later : r.0.0 ≡ drop x value =
    sym (drop_at front r.0.0 x (length-take-le x (first_target e.targets) h))
    ∙ ap (drop x) parts.0 in (
      sent.0 ∙ ap (λ last. with_size e.length last ++ r.0.1) later
          ∙ ap (λ more. with_size e.length (drop x value) ++ more) parts.1,
      ap (λ last. front ++ last) (sym later) ∙ parts.0,
      subst (FitsKind fields e.length x) later sent.1,
    )

takes_by : (iids : Iids) (fields : List FieldValue) (action : Action) (e : EntryData)
    (bits value rest : List Bool) → RegularBy action e.operator e.targets
    → value_by iids fields action e bits ≡ Ok (value, rest)
    → TakenBy iids fields action e bits value rest
takes_by iids fields NotSent e bits value rest h q = let p =
    ok-parts (value_by iids fields NotSent e bits) (first_target e.targets) value bits rest refl q
    in (p.1, p.0, tt)
takes_by iids fields ValueSent e bits value rest h q = let p =
    value_at-takes fields e.length 0 bits value rest q in (p.0, refl, p.1)
takes_by iids fields MappingSent e bits value rest h q = let p =
    mapped-takes e.targets bits value rest h q in (p.0, p.1, h.0)
takes_by iids fields Lsb e bits value rest h q = lsb-takes fields e bits value rest h q
takes_by iids fields Compute e bits value rest h q = let p =
    ok-parts (value_by iids fields Compute e bits)
    (restored_by iids Compute e.name e.operator e.targets []) value bits rest refl q in
    (p.1, p.0, tt)
takes_by iids fields DevIid e bits value rest h q = let p =
    ok-parts (value_by iids fields DevIid e bits) (number_bits 64 iids.dev) value bits rest refl q
    in (p.1, p.0, tt)
takes_by iids fields AppIid e bits value rest h q = let p =
    ok-parts (value_by iids fields AppIid e bits) (number_bits 64 iids.app) value bits rest refl q
    in (p.1, p.0, tt)

-- where an entry reads a value, its residue stands in front of the bits left, the value is restored
-- as it is, and what is sent of it has the length that is read
pub entry_at-takes : (iids : Iids) (fields : List FieldValue) (e : EntryData)
    (bits value rest : List Bool) → IsRegular e → entry_at iids fields e bits ≡ Ok (value, rest)
    → (bits ≡ entry_residue e value ++ rest) × (restored_value iids e value ≡ value)
    × SentFits fields e value
entry_at-takes iids fields e bits value rest h q =
    takes_by iids fields e.action e bits value rest h q
