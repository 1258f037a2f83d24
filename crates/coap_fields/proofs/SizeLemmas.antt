-- Fields that make no message for the size of an option alone, and how long that message would be.
use Rattle.std.specs.Prelude.{ℕ, ◌≡◌, ◌-◌, ◌*◌, ◌%◌, ◌==◌, ◌<◌, ◌⊎◌, Bool, true, nat_le, not, ◌&&◌}
use Rattle.std.specs.Prelude.{List, [], ◌∷◌, ◌++◌, length, Some, None}
use Rattle.std.proofs.Common.{arith, refl, sym, ◌∙◌, inl, inr}
use Rattle.std.proofs.lemmas.Bool.{cases_Bool, and_parts, and_from, not-false, leb-false}
use Rattle.std.proofs.lemmas.List.{length-append}
use Rattle.schc_bits.specs.Bits.{bytes_of}
use Rattle.schc_bits.proofs.Octets.{length-bytes_of}
use Rattle.schc_ids.specs.declared.names.FieldName.{FieldName}
use Rattle.schc_ids.specs.declared.names.FieldName.TheVariants.{CoapOption}
use Rattle.schc_ids.specs.Names.{rank_of, coap_fields}
use Rattle.rule_model.specs.declared.value.FieldValue.{FieldValue}
use Rattle.rule_model.specs.declared.parts.JoinFault.{JoinFault}
use Rattle.rule_model.specs.First.{first_held}
use Rattle.rule_model.proofs.FirstLemmas.{first_held-append_some, first_held-append_none}
use Rattle.rule_model.proofs.FirstLemmas.{first_held-front}
use Rattle.coap_fields.specs.Message.{Message, extension, options_spelled, payload_spelled, spelled}
use Rattle.coap_fields.specs.Join.{presence, is_possible, stands_after, is_size_right, can_follow}
use Rattle.coap_fields.specs.Join.{order, is_whole, can_stand, standing, message_refusals}
use Rattle.coap_fields.specs.Join.{value_refusals, gaps, number_after, options_from, message_of}
use Rattle.coap_fields.specs.Join.{message_from, join_refusal}
use Rattle.coap_fields.specs.Placed.{field_spelled}
use Rattle.coap_fields.proofs.RankLemmas.{held-first, order-first}
use Rattle.coap_fields.proofs.WriteLemmas.{field-next}
use Rattle.coap_fields.proofs.JoinLemmas.{NoneHeld, none-held}

-- where a condition of presence holds, the first one is why the fields make no message, the sizes
-- of options apart
pub wrong-presence : (fields : List FieldValue) (fault : JoinFault)
    → first_held (presence fields coap_fields) ≡ Some fault
    → first_held (message_refusals fields) ≡ Some fault
wrong-presence fields fault e =
    first_held-append_some (presence fields coap_fields)
    (standing 0 0 fields ++ (value_refusals fields ++ gaps 0 0 fields)) fault e

-- where presence is right, the first field that can't stand after the one before it is why the
-- fields make no message, the sizes of options apart
pub wrong-standing : (fields : List FieldValue) (fault : JoinFault)
    → first_held (presence fields coap_fields) ≡ None
    → first_held (standing 0 0 fields) ≡ Some fault
    → first_held (message_refusals fields) ≡ Some fault
wrong-standing fields fault p e =
    first_held-append_none (presence fields coap_fields)
    (standing 0 0 fields ++ (value_refusals fields ++ gaps 0 0 fields)) p
    ∙ first_held-append_some (standing 0 0 fields) (value_refusals fields ++ gaps 0 0 fields) fault
    e

-- where presence and order are right, the first fault of the values is why the fields make no
-- message, the sizes of options apart
pub wrong-values : (fields : List FieldValue) (fault : JoinFault)
    → first_held (presence fields coap_fields) ≡ None → first_held (standing 0 0 fields) ≡ None
    → first_held (value_refusals fields) ≡ Some fault
    → first_held (message_refusals fields) ≡ Some fault
wrong-values fields fault p o e =
    first_held-append_none (presence fields coap_fields)
    (standing 0 0 fields ++ (value_refusals fields ++ gaps 0 0 fields)) p
    ∙ first_held-append_none (standing 0 0 fields) (value_refusals fields ++ gaps 0 0 fields) o
    ∙ first_held-append_some (value_refusals fields) (gaps 0 0 fields) fault e

-- where presence, order and values are right, only a gap in the positions of an option, the first,
-- can be why the fields make no message, the sizes of options apart
pub wrong-gaps : (fields : List FieldValue) → first_held (presence fields coap_fields) ≡ None
    → first_held (standing 0 0 fields) ≡ None → first_held (value_refusals fields) ≡ None
    → first_held (message_refusals fields) ≡ first_held (gaps 0 0 fields)
wrong-gaps fields p o c =
    first_held-append_none (presence fields coap_fields)
    (standing 0 0 fields ++ (value_refusals fields ++ gaps 0 0 fields)) p
    ∙ first_held-append_none (standing 0 0 fields) (value_refusals fields ++ gaps 0 0 fields) o
    ∙ first_held-append_none (value_refusals fields) (gaps 0 0 fields) c

-- no condition but those of the options' sizes holds
record NoneWrong (fields : List FieldValue) : Type 0 where
  present : first_held (presence fields coap_fields) ≡ None
  stands : first_held (standing 0 0 fields) ≡ None
  right : first_held (value_refusals fields) ≡ None
  no_gap : first_held (gaps 0 0 fields) ≡ None

none_wrong : (fields : List FieldValue) → first_held (message_refusals fields) ≡ None
    → NoneWrong fields
none_wrong fields e =
    let p : first_held (presence fields coap_fields) ≡ None =
    first_held-front (presence fields coap_fields)
    (standing 0 0 fields ++ (value_refusals fields ++ gaps 0 0 fields)) e in
    let q : first_held (standing 0 0 fields ++ (value_refusals fields ++ gaps 0 0 fields)) ≡ None =
    sym (first_held-append_none (presence fields coap_fields)
    (standing 0 0 fields ++ (value_refusals fields ++ gaps 0 0 fields)) p) ∙ e in
    let o : first_held (standing 0 0 fields) ≡ None =
    first_held-front (standing 0 0 fields) (value_refusals fields ++ gaps 0 0 fields) q in
    let r : first_held (value_refusals fields ++ gaps 0 0 fields) ≡ None =
    sym (first_held-append_none (standing 0 0 fields) (value_refusals fields ++ gaps 0 0 fields)
    o) ∙ q in
    let c : first_held (value_refusals fields) ≡ None =
    first_held-front (value_refusals fields) (gaps 0 0 fields) r in
    record {
      present = p;
      stands = o;
      right = c;
      no_gap =
          sym (first_held-append_none (value_refusals fields) (gaps 0 0 fields) c) ∙ r;
    }

-- whole bytes are few enough, or their option is long
size-cases : (name : FieldName) (value : List Bool) → is_whole name value ≡ true
    → (is_size_right name value ≡ true)
    ⊎ ((before : ℕ) → 65804 < length (field_spelled before name value))
size-cases (CoapOption number) value h =
    elim (cases_Bool (nat_le (length value) (8 * 65804))) [
      | inl t ↦ inl (and_from (length value % 8 == 0) (nat_le (length value) (8 * 65804)) h t)
      | inr f ↦ inr (λ before.
          omega (
            arith,
            leb-false (length value) (8 * 65804) f,
            length-bytes_of value,
            length-append (extension (number - before))
                (extension (length (bytes_of value)) ++ bytes_of value),
            length-append (extension (length (bytes_of value))) (bytes_of value),
          ))
    ]
size-cases _ value h = inl refl

-- fields that stand in packet order aren't refused for it, or an option of them is long
pub order-cases : (rank position : ℕ) (fields : List FieldValue)
    → first_held (standing rank position fields) ≡ None
    → (first_held (order rank position fields) ≡ None)
    ⊎ ((before : ℕ) → 65804 < length (options_spelled before (options_from fields)))
order-cases rank position [] e = inl refl
order-cases rank position (f ∷ fields) e =
    let h = held-first (not (can_stand rank position f)) _
    (standing (rank_of f.at.name) f.at.position fields) e in
    let p = and_parts (is_possible f.at.name f.at.position && stands_after rank position f.at)
    (is_whole f.at.name f.value) (not-false (can_stand rank position f) h.0) in
    elim (size-cases f.at.name f.value p.1) [
      | inr long ↦ inr
          (λ before.
          rw (
            field-next before f.at.name f.value (options_from fields),
            length-append
                (field_spelled before f.at.name f.value)
                (options_spelled (number_after before f.at.name) (options_from fields)),
          )
          (omega (arith, long before)))
      | inl size ↦
          let follows : can_follow rank position f ≡ true =
          and_from (is_possible f.at.name f.at.position && stands_after rank position f.at)
          (is_size_right f.at.name f.value) p.0 size in
          elim (order-cases (rank_of f.at.name) f.at.position fields h.1) [
            | inr long ↦ inr
                (λ before.
                rw (
                  field-next before f.at.name f.value (options_from fields),
                  length-append
                      (field_spelled before f.at.name f.value)
                      (options_spelled (number_after before f.at.name) (options_from fields)),
                )
                (omega (arith, long (number_after before f.at.name))))
            | inl rest ↦ inl (rw follows rest)
          ]
    ]

-- fields of which nothing else is wrong make a message, or would make a long one
pub size-refusal : (fields : List FieldValue) (payload : List ℕ)
    → first_held (message_refusals fields) ≡ None → (join_refusal fields ≡ None)
    ⊎ (65804 < length (message_from fields payload))
unfolding join_refusal message_from spelled
size-refusal fields payload e =
    let n : NoneWrong fields = none_wrong fields e in
    let m : Message = message_of fields payload in
    elim (order-cases 0 0 fields n.stands) [
      | inl o ↦
          inl (first_held-append_none (presence fields coap_fields)
          (order 0 0 fields ++ (value_refusals fields ++ gaps 0 0 fields)) n.present
          ∙ first_held-append_none (order 0 0 fields) (value_refusals fields ++ gaps 0 0 fields) o
          ∙ first_held-append_none (value_refusals fields) (gaps 0 0 fields) n.right
          ∙ n.no_gap)
      | inr long ↦
          inr (omega (
            arith,
            long 0,
            length-append m.token (options_spelled 0 m.options ++ payload_spelled m.payload),
            length-append (options_spelled 0 m.options) (payload_spelled m.payload),
          ))
    ]

size_whole : (name : FieldName) (value : List Bool) → is_size_right name value ≡ true
    → is_whole name value ≡ true
size_whole (CoapOption number) value h =
    (and_parts (length value % 8 == 0) (nat_le (length value) (8 * 65804)) h).0
size_whole _ value h = refl

order-standing : (rank position : ℕ) (fields : List FieldValue)
    → first_held (order rank position fields) ≡ None
    → first_held (standing rank position fields) ≡ None
order-standing rank position [] e = refl
order-standing rank position (f ∷ fields) e =
    let o = order-first rank position f fields e in
    rw (o.0.possible, o.0.stands, size_whole f.at.name f.value o.0.size)
    (order-standing (rank_of f.at.name) f.at.position fields o.1)

-- nothing is wrong with fields that make a message
pub none-wrong : (fields : List FieldValue) → join_refusal fields ≡ None
    → first_held (message_refusals fields) ≡ None
none-wrong fields e =
    let n : NoneHeld fields = none-held fields e in
    wrong-gaps fields n.present (order-standing 0 0 fields n.ordered) n.right ∙ n.no_gap
