-- Writing fields.
use Rattle.std.specs.Prelude.{ℕ, suc, ◌≡◌, ◌+◌, ◌^◌, ◌<◌, ◌≤◌, List, [], ◌∷◌, ◌++◌, Bool, length}
use Rattle.std.specs.Prelude.{get_or, drop, None}
use Rattle.std.proofs.Common.{arith, ap, refl, sym, ◌∙◌, subst, add-one}
use Rattle.std.specs.List.{AllByRecursion}
use Rattle.std.proofs.Math.Seq.{drop-cons}
use Rattle.std.proofs.Math.Nat.{pow-le-pow_right}
use Rattle.schc_bits.specs.Bits.{bits_value, bytes_of}
use Rattle.schc_bits.proofs.NumberBits.{bits_value-below}
use Rattle.schc_bits.proofs.Octets.{bytes_of-short}
use Rattle.std.proofs.lemmas.List.{append_assoc, append-nil, drop_all}
use Rattle.schc_ids.specs.declared.names.FieldName.{FieldName}
use Rattle.schc_ids.specs.declared.names.FieldName.TheVariants.{CoapToken, CoapOption}
use Rattle.rule_model.specs.declared.value.FieldValue.{FieldValue}
use Rattle.coap_fields.specs.Message.{OptionData, options_spelled}
use Rattle.coap_fields.specs.Join.{value_in, value_of, option_from, options_from, number_after}
use Rattle.coap_fields.specs.Placed.{IsWritable, field_spelled}

-- one field, and then the others
pub field-next : (before : ℕ) (name : FieldName) (value : List Bool) (options : List OptionData)
    → options_spelled before (option_from name value options) ≡ field_spelled before name
    value ++ options_spelled (number_after before name) options
unfolding options_spelled
field-next before (CoapOption number) value options = refl
field-next before _ value options = refl

pub written-next : (old now : List ℕ) (before number : ℕ) (f : FieldValue)
    (fields : List FieldValue) → now ≡ old ++ field_spelled before f.at.name f.value
    → number ≡ number_after before f.at.name
    → now ++ options_spelled number (options_from fields) ≡ old ++ options_spelled before
    (options_from (f ∷ fields))
written-next old now before number f fields n k =
    rw (n, k)
    (append_assoc old (field_spelled before f.at.name f.value)
    (options_spelled (number_after before f.at.name) (options_from fields))
    ∙ ap (λ bytes. old ++ bytes) (sym (field-next before f.at.name f.value (options_from fields))))

pub written-end : (bytes : List ℕ) (before : ℕ) → bytes ++ options_spelled before [] ≡ bytes
unfolding options_spelled
written-end bytes before = append-nil bytes

pow-mono : {n : ℕ} (width : ℕ) → n ≤ width → 2 ^ n ≤ 2 ^ width
pow-mono width h = pow-le-pow_right (omega arith) h

-- a number of so many bits fits them
pub fits-below : (value : List Bool) (width : ℕ) → length value ≤ width
    → bits_value value < 2 ^ width
fits-below value width h =
    omega (arith, bits_value-below value, pow-mono width h)

-- no token is no bytes
pub no-token : (fields : List FieldValue) → value_in fields CoapToken ≡ None
    → bytes_of (value_of fields CoapToken) ≡ []
no-token fields n = rw n (bytes_of-short [] (omega arith))

-- one turn of writing
pub turn : (old now all : List ℕ) (before number i : ℕ) (f : FieldValue) (fields : List FieldValue)
    → i < length fields → f ≡ get_or fields i f
    → now ≡ old ++ field_spelled before f.at.name f.value → number ≡ number_after before f.at.name
    → AllByRecursion IsWritable (drop i fields)
    → old ++ options_spelled before (options_from (drop i fields)) ≡ all
    → AllByRecursion IsWritable (drop (i + 1) fields)
    × (now ++ options_spelled number (options_from (drop (i + 1) fields)) ≡ all)
turn old now all before number i f fields h e n k w a =
    let first : drop i fields ≡ f ∷ drop (i + 1) fields =
    rw (add-one i) (drop-cons fields i f h ∙ ap (λ g. g ∷ drop (suc i) fields) (sym e)) in
    let writable : AllByRecursion IsWritable (f ∷ drop (i + 1) fields) =
    subst (λ (fs : List FieldValue). AllByRecursion IsWritable fs) first w in (
      writable.1,
      written-next old now before number f (drop (i + 1) fields) n k
          ∙ ap (λ (fs : List FieldValue). old ++ options_spelled before (options_from fs))
          (sym first)
          ∙ a,
    )

pub first-writable : (i : ℕ) (f : FieldValue) (fields : List FieldValue) → i < length fields
    → f ≡ get_or fields i f → AllByRecursion IsWritable (drop i fields) → IsWritable f
first-writable i f fields h e w =
    let first : drop i fields ≡ f ∷ drop (suc i) fields = drop-cons fields i f h
    ∙ ap (λ g. g ∷ drop (suc i) fields) (sym e) in
    (subst (λ (fs : List FieldValue). AllByRecursion IsWritable fs) first w).0

-- no field is left
pub turn-end : (now all : List ℕ) (before i : ℕ) (fields : List FieldValue) → length fields ≤ i
    → now ++ options_spelled before (options_from (drop i fields)) ≡ all → now ≡ all
turn-end now all before i fields h e =
    sym (written-end now before)
    ∙ ap (λ (fs : List FieldValue). now ++ options_spelled before (options_from fs))
    (sym (drop_all i fields h)) ∙ e
