-- Fields that stand in order and leave no gap are those of options.
use Rattle.std.specs.Prelude.{ℕ, ◌≡◌, ◌+◌, ◌*◌, ◌%◌, ◌==◌, ◌<◌, ◌≤◌, nat_lt, nat_le, ◌&&◌, Bool}
use Rattle.std.specs.Prelude.{List, [], ◌∷◌, length, None}
use Rattle.std.specs.List.{AllByRecursion}
use Rattle.std.proofs.Common.{arith, ap, refl, sym, subst, inl, inr}
use Rattle.std.proofs.lemmas.Bool.{leb-true, ltb-false, eqb-true, eq-eqb, ne_eqb, and_parts}
use Rattle.schc_bits.specs.Bits.{octets, bytes_of}
use Rattle.schc_bits.proofs.Octets.{octets-bytes_of, AreBytes-bytes_of, length-bytes_of}
use Rattle.schc_ids.specs.declared.names.FieldName.{FieldName}
use Rattle.schc_ids.specs.declared.names.FieldName.TheVariants.{CoapOption}
use Rattle.schc_ids.specs.Names.{rank_of}
use Rattle.rule_model.specs.declared.value.FieldValue.{FieldValue}
use Rattle.rule_model.specs.First.{first_held}
use Rattle.coap_fields.specs.Message.{next_place, AreOptions}
use Rattle.coap_fields.specs.Fields.{option_fields}
use Rattle.coap_fields.specs.Join.{order, gaps, options_from}
use Rattle.coap_fields.specs.Placed.{IsWritable}
use Rattle.coap_fields.proofs.RankLemmas.{is_option-name, after, after-at_least, Follows}
use Rattle.coap_fields.proofs.RankLemmas.{held-first, order-first}

-- the fields of options after one of this number and place
pub record AreFields (before place : ℕ) (fields : List FieldValue) : Type 0 where
  pub is : fields ≡ option_fields before place (options_from fields)
  pub are_options : AreOptions before place (options_from fields)
  pub writable : AllByRecursion IsWritable fields

next-same : (before place number position : ℕ) → before ≡ number
    → position ≤ next_place before place number → place < position
    → next_place before place number ≡ position
next-same before place number position e h k =
    let one : next_place before place number ≡ place + 1 = rw (eq-eqb number before (sym e)) in
    omega (arith, one)

next-other : (before place number position : ℕ) → before < number
    → position ≤ next_place before place number → 1 ≤ position
    → next_place before place number ≡ position
next-other before place number position e h k =
    let one : next_place before place number ≡ 1 =
    rw (ne_eqb number before (λ same. absurd (omega (arith, same)))) in
    omega (arith, one)

abbrev field_with : ℕ → ℕ → List Bool → FieldValue
field_with number position value =
    record { at = record { name = CoapOption number; position = position }; value = value }

position_is : (before place number position : ℕ) (value : List Bool)
    → Follows (20 + before) place (field_with number position value) → 1 ≤ position
    → position ≤ next_place before place number → next_place before place number ≡ position
position_is before place number position value f one h =
    elim (after (20 + before) place (record { name = CoapOption number; position = position })
    f.stands) [
      | inl l ↦ next-other before place number position (omega (arith, l)) h one
      | inr e ↦ next-same before place number position (omega (arith, e.0)) h e.1
    ]

ascends_from : (before place number position : ℕ) (value : List Bool)
    → Follows (20 + before) place (field_with number position value) → before ≤ number
ascends_from before place number position value f =
    omega (
      arith,
      after-at_least (20 + before) place
          (record { name = CoapOption number; position = position }) f.stands,
    )

option-step : (before place number position : ℕ) (value : List Bool) (fields : List FieldValue)
    → first_held (order (20 + before) place (field_with number position value ∷ fields)) ≡ None
    → first_held (gaps before place (field_with number position value ∷ fields)) ≡ None
    → (first_held (order (20 + number) position fields) ≡ None
    → first_held (gaps number position fields) ≡ None → AreFields number position fields)
    → AreFields before place (field_with number position value ∷ fields)
unfolding option_fields
option-step before place number position value fields o g ih =
    let q = order-first (20 + before) place (field_with number position value) fields o in
    let h = held-first (nat_lt (next_place before place number) position) _
    (gaps number position fields) g in
    let p = and_parts (nat_le number 65535 && nat_le 1 position) (nat_le position 65535)
    q.0.possible in
    let r = and_parts (nat_le number 65535) (nat_le 1 position) p.0 in
    let s = and_parts (length value % 8 == 0) (nat_le (length value) (8 * 65804)) q.0.size in
    let one : 1 ≤ position = leb-true 1 position r.1 in
    let is_next : next_place before place number ≡ position =
    position_is before place number position value q.0 one
    (ltb-false (next_place before place number) position h.0) in
    let whole : octets (bytes_of value) ≡ value =
    octets-bytes_of value (eqb-true (length value % 8) 0 s.0) in
    let size : length (bytes_of value) ≤ 65804 =
    omega (arith, length-bytes_of value, leb-true (length value) (8 * 65804) s.1)
    in
    let rest : AreFields number position fields = ih q.1 h.1 in
    let top : position ≤ 65535 = leb-true position 65535 p.1 in
    record {
      is = rw (is_next, whole, ← rest.is);
      are_options = (
        record {
          ascends = ascends_from before place number position value q.0;
          number = leb-true number 65535 r.0;
          repeats = rw is_next top;
          size = size;
          bytes = AreBytes-bytes_of value;
        },
        rw is_next rest.are_options,
      );
      writable = (size, rest.writable);
    }

abbrev named_field : FieldName → ℕ → List Bool → FieldValue
named_field name position value =
    record { at = record { name = name; position = position }; value = value }

-- fields that are in order and without a gap after an option of this number and place are those of
-- options that can stand there
pub options-are : (before place : ℕ) (fields : List FieldValue)
    → first_held (order (20 + before) place fields) ≡ None
    → first_held (gaps before place fields) ≡ None → AreFields before place fields
unfolding option_fields
options-are before place [] o g = record { is = refl; are_options = tt; writable = tt }
options-are before place (f ∷ fields) o g =
    let q = order-first (20 + before) place f fields o in
    let least : 20 + before ≤ rank_of f.at.name =
    after-at_least (20 + before) place f.at q.0.stands in
    let n = is_option-name f.at.name (omega (arith, least)) in
    let is : f ≡ field_with n.0 f.at.position f.value =
    ap (λ name. named_field name f.at.position f.value) n.1 in
    let step =
    option-step before place n.0 f.at.position f.value fields
    (subst (λ (first : FieldValue). first_held
    (order (20 + before) place (first ∷ fields)) ≡ None) is o)
    (subst (λ (first : FieldValue). first_held (gaps before place (first ∷ fields)) ≡ None) is
    g) (λ x y. options-are n.0 f.at.position fields x y) in
    subst (λ (first : FieldValue). AreFields before place (first ∷ fields)) (sym is) step
