-- Fields that aren't refused are those of a message.
use Rattle.std.specs.Prelude.{ℕ, ◌≡◌, ◌*◌, ◌^◌, ◌==◌, ◌<◌, ◌≤◌, nat_lt, ◌&&◌, Bool, true, false}
use Rattle.std.specs.Prelude.{not, List, [], ◌∷◌, ◌++◌, length, Option, Some, None, is_none}
use Rattle.std.specs.Prelude.{is_some, unwrap_or}
use Rattle.std.specs.List.{AllByRecursion}
use Rattle.std.proofs.Common.{arith, ap, refl, sym, ◌∙◌, subst, inl, inr}
use Rattle.std.proofs.lemmas.Bool.{ltb-false, eqb-true, eqb-false, and_cases, not-false, true≢false}
use Rattle.schc_bits.specs.Bits.{number_bits, bits_value, octets, bytes_of, AreBytes}
use Rattle.schc_bits.proofs.NumberBits.{number_bits-bits_value, bits_value-below}
use Rattle.schc_bits.proofs.Octets.{octets-bytes_of, bytes_of-short, AreBytes-bytes_of}
use Rattle.schc_bits.proofs.Octets.{length-bytes_of}
use Rattle.schc_ids.specs.declared.names.FieldName.{FieldName}
use Rattle.schc_ids.specs.declared.names.FieldName.TheVariants.{CoapVersion, CoapType, CoapTkl}
use Rattle.schc_ids.specs.declared.names.FieldName.TheVariants.{CoapCode, CoapMid, CoapToken}
use Rattle.schc_ids.specs.Names.{coap_fields}
use Rattle.rule_model.specs.declared.value.FieldValue.{FieldValue}
use Rattle.rule_model.specs.declared.parts.JoinFault.{JoinFault}
use Rattle.rule_model.specs.declared.parts.JoinFault.TheVariants.{FieldAbsent, FieldWrong}
use Rattle.rule_model.specs.First.{first_held}
use Rattle.rule_model.proofs.FirstLemmas.{first_held-front, first_held-append_none}
use Rattle.coap_fields.specs.Message.{IsMessage}
use Rattle.coap_fields.specs.Fields.{at_name, field, token_fields, option_fields, fields_of_message}
use Rattle.coap_fields.specs.Join.{value_in, value_of, bits_of, presence, order, token_refusals}
use Rattle.coap_fields.specs.Join.{value_refusals, gaps, join_refusal, options_from, message_of}
use Rattle.coap_fields.specs.Placed.{IsWritable}
use Rattle.coap_fields.proofs.RankLemmas.{held-first, order-begins, order-options}
use Rattle.coap_fields.proofs.RankLemmas.{order-after_token, Starts, starts}
use Rattle.coap_fields.proofs.FieldsLemmas.{AreFields, options-are}

-- no condition of any kind holds
pub record NoneHeld (fields : List FieldValue) : Type 0 where
  pub present : first_held (presence fields coap_fields) ≡ None
  pub ordered : first_held (order 0 0 fields) ≡ None
  pub right : first_held (value_refusals fields) ≡ None
  pub no_gap : first_held (gaps 0 0 fields) ≡ None

-- where joining isn't refused, no condition of presence, order, values or gaps holds
pub none-held : (fields : List FieldValue) → join_refusal fields ≡ None → NoneHeld fields
unfolding join_refusal
none-held fields e =
    let p : first_held (presence fields coap_fields) ≡ None =
    first_held-front (presence fields coap_fields)
    (order 0 0 fields ++ (value_refusals fields ++ gaps 0 0 fields)) e in
    let q : first_held (order 0 0 fields ++ (value_refusals fields ++ gaps 0 0 fields)) ≡ None =
    sym (first_held-append_none (presence fields coap_fields)
    (order 0 0 fields ++ (value_refusals fields ++ gaps 0 0 fields)) p) ∙ e in
    let o : first_held (order 0 0 fields) ≡ None =
    first_held-front (order 0 0 fields) (value_refusals fields ++ gaps 0 0 fields) q in
    let r : first_held (value_refusals fields ++ gaps 0 0 fields) ≡ None =
    sym (first_held-append_none (order 0 0 fields) (value_refusals fields ++ gaps 0 0 fields) o)
    ∙ q in
    let c : first_held (value_refusals fields) ≡ None =
    first_held-front (value_refusals fields) (gaps 0 0 fields) r in
    record {
      present = p;
      ordered = o;
      right = c;
      no_gap =
          sym (first_held-append_none (value_refusals fields) (gaps 0 0 fields) c) ∙ r;
    }

-- a field is there, with its width
pub record IsThere (fields : List FieldValue) (name : FieldName) : Type 0 where
  pub value : List Bool
  pub value_is : value_in fields name ≡ Some value
  pub wide : length value ≡ bits_of name

some_there : (fields : List FieldValue) (name : FieldName) (held : Option (List Bool))
    → value_in fields name ≡ held → is_none held ≡ false
    → not (length (unwrap_or held []) == bits_of name) ≡ false → IsThere fields name
some_there fields name None e a w = absurd (true≢false a)
some_there fields name (Some value) e a w =
    record {
      value = value;
      value_is = e;
      wide =
          eqb-true (length value) (bits_of name) (not-false (length value == bits_of name) w);
    }

there : (fields : List FieldValue) (name : FieldName) (names : List FieldName)
    → first_held (presence fields (name ∷ names)) ≡ None → IsThere fields name
    × (first_held (presence fields names) ≡ None)
there fields name names e =
    let a = held-first (is_none (value_in fields name)) (FieldAbsent (at_name name))
    ((not (length (value_of fields name) == bits_of name), FieldWrong (at_name name)) ∷ presence
    fields names) e in
    let w = held-first (not (length (value_of fields name) == bits_of name))
    (FieldWrong (at_name name)) (presence fields names) a.1 in
    (some_there fields name (value_in fields name) refl a.0 w.0, w.1)

-- the five fields of the header stand first
pub record Begins (fields : List FieldValue) : Type 0 where
  pub version : List Bool
  pub kind : List Bool
  pub tkl : List Bool
  pub code : List Bool
  pub id : List Bool
  pub rest : List FieldValue
  pub is : fields ≡ field CoapVersion version ∷ field CoapType kind ∷ field CoapTkl tkl ∷ field
      CoapCode code ∷ field CoapMid id ∷ rest
  pub ordered : first_held (order 18 1 rest) ≡ None
  pub version_width : length version ≡ 2
  pub kind_width : length kind ≡ 2
  pub tkl_width : length tkl ≡ 4
  pub code_width : length code ≡ 8
  pub id_width : length id ≡ 16

in_rest : (first : FieldValue) (rest fields : List FieldValue) (name : FieldName)
    (value : List Bool) → fields ≡ first ∷ rest → value_in fields name ≡ Some value
    → value_in (first ∷ rest) name ≡ Some value
in_rest first rest fields name value e v =
    subst (λ (fs : List FieldValue). value_in fs name ≡ Some value) e v

five : (fields r1 r2 r3 r4 r5 : List FieldValue) (a b c d e : FieldValue) → fields ≡ a ∷ r1
    → r1 ≡ b ∷ r2 → r2 ≡ c ∷ r3 → r3 ≡ d ∷ r4 → r4 ≡ e ∷ r5 → fields ≡ a ∷ b ∷ c ∷ d ∷ e ∷ r5
five fields r1 r2 r3 r4 r5 a b c d e h1 h2 h3 h4 h5 =
    h1 ∙ ap (λ fs. a ∷ fs)
    (h2 ∙ ap (λ fs. b ∷ fs) (h3 ∙ ap (λ fs. c ∷ fs) (h4 ∙ ap (λ fs. d ∷ fs) h5)))

pub begins : (fields : List FieldValue) → first_held (presence fields coap_fields) ≡ None
    → first_held (order 0 0 fields) ≡ None → Begins fields
begins fields p o =
    let v = there fields CoapVersion (CoapType ∷ CoapTkl ∷ CoapCode ∷ CoapMid ∷ []) p in
    let t = there fields CoapType (CoapTkl ∷ CoapCode ∷ CoapMid ∷ []) v.1 in
    let k = there fields CoapTkl (CoapCode ∷ CoapMid ∷ []) t.1 in
    let c = there fields CoapCode (CoapMid ∷ []) k.1 in
    let m = there fields CoapMid [] c.1 in
    let s1 : Starts CoapVersion v.0.value fields =
    starts 13 fields CoapVersion v.0.value (omega arith) (omega arith) refl
    (order-begins fields o) v.0.value_is in
    let r1 : List FieldValue = s1.rest in
    let t1 : value_in r1 CoapType ≡ Some t.0.value =
    in_rest (field CoapVersion v.0.value) r1 fields CoapType t.0.value s1.is t.0.value_is in
    let k1 : value_in r1 CoapTkl ≡ Some k.0.value =
    in_rest (field CoapVersion v.0.value) r1 fields CoapTkl k.0.value s1.is k.0.value_is in
    let c1 : value_in r1 CoapCode ≡ Some c.0.value =
    in_rest (field CoapVersion v.0.value) r1 fields CoapCode c.0.value s1.is c.0.value_is in
    let m1 : value_in r1 CoapMid ≡ Some m.0.value =
    in_rest (field CoapVersion v.0.value) r1 fields CoapMid m.0.value s1.is m.0.value_is in
    let s2 : Starts CoapType t.0.value r1 =
    starts 14 r1 CoapType t.0.value (omega arith) (omega arith) refl s1.ordered t1 in
    let r2 : List FieldValue = s2.rest in
    let k2 : value_in r2 CoapTkl ≡ Some k.0.value =
    in_rest (field CoapType t.0.value) r2 r1 CoapTkl k.0.value s2.is k1 in
    let c2 : value_in r2 CoapCode ≡ Some c.0.value =
    in_rest (field CoapType t.0.value) r2 r1 CoapCode c.0.value s2.is c1 in
    let m2 : value_in r2 CoapMid ≡ Some m.0.value =
    in_rest (field CoapType t.0.value) r2 r1 CoapMid m.0.value s2.is m1 in
    let s3 : Starts CoapTkl k.0.value r2 =
    starts 15 r2 CoapTkl k.0.value (omega arith) (omega arith) refl s2.ordered k2 in
    let r3 : List FieldValue = s3.rest in
    let c3 : value_in r3 CoapCode ≡ Some c.0.value =
    in_rest (field CoapTkl k.0.value) r3 r2 CoapCode c.0.value s3.is c2 in
    let m3 : value_in r3 CoapMid ≡ Some m.0.value =
    in_rest (field CoapTkl k.0.value) r3 r2 CoapMid m.0.value s3.is m2 in
    let s4 : Starts CoapCode c.0.value r3 =
    starts 16 r3 CoapCode c.0.value (omega arith) (omega arith) refl s3.ordered c3 in
    let r4 : List FieldValue = s4.rest in
    let m4 : value_in r4 CoapMid ≡ Some m.0.value =
    in_rest (field CoapCode c.0.value) r4 r3 CoapMid m.0.value s4.is m3 in
    let s5 : Starts CoapMid m.0.value r4 =
    starts 17 r4 CoapMid m.0.value (omega arith) (omega arith) refl s4.ordered m4 in
    let all : fields ≡ field CoapVersion v.0.value ∷ field CoapType t.0.value ∷ field CoapTkl
    k.0.value ∷ field CoapCode c.0.value ∷ field CoapMid m.0.value ∷ s5.rest =
    five fields r1 r2 r3 r4 s5.rest (field CoapVersion v.0.value) (field CoapType t.0.value)
    (field CoapTkl k.0.value) (field CoapCode c.0.value) (field CoapMid m.0.value) s1.is s2.is
    s3.is s4.is s5.is
    in
    record {
      version = v.0.value;
      kind = t.0.value;
      tkl = k.0.value;
      code = c.0.value;
      id = m.0.value;
      rest = s5.rest;
      is = all;
      ordered = s5.ordered;
      version_width = v.0.wide;
      kind_width = t.0.wide;
      tkl_width = k.0.wide;
      code_width = c.0.wide;
      id_width = m.0.wide;
    }

-- the token, where it is one, and the options
pub record Ends (tkl : ℕ) (rest : List FieldValue) : Type 0 where
  pub token : List ℕ
  pub size : length token ≡ tkl
  pub options : List FieldValue
  pub is : rest ≡ token_fields token ++ options
  pub token_bytes : AreBytes token
  pub token_is : bytes_of (value_of rest CoapToken) ≡ token
  pub ordered : first_held (order 20 0 options) ≡ None
  pub no_gap : first_held (gaps 0 0 rest) ≡ first_held (gaps 0 0 options)

-- what the values are
pub record IsRight (version tkl : List Bool) (token : Option (List Bool)) : Type 0 where
  pub version_is : bits_value version ≡ 1
  pub most : bits_value tkl ≤ 8
  pub extra : ((bits_value tkl == 0) && is_some token) ≡ false
  pub size : length (unwrap_or token []) ≡ 8 * bits_value tkl

-- fields that begin with the five of the header, with these values
abbrev pub header : List Bool → List Bool → List Bool → List Bool → List Bool → List FieldValue
    → List FieldValue
header version kind tkl code id rest =
    field CoapVersion version ∷ field CoapType kind ∷ field CoapTkl tkl ∷ field CoapCode
    code ∷ field CoapMid id ∷ rest

is_right : (version kind tkl code id : List Bool) (rest : List FieldValue)
    → first_held (value_refusals (header version kind tkl code id rest)) ≡ None
    → IsRight version tkl (value_in rest CoapToken)
is_right version kind tkl code id rest e =
    let fields : List FieldValue = header version kind tkl code id rest in
    let token : Option (List Bool) = value_in rest CoapToken in
    let size_test : Bool = not (length (unwrap_or token []) == 8 * bits_value tkl) in
    let last : List (Bool × JoinFault) = (size_test, FieldWrong (at_name CoapToken)) ∷ [] in
    let extra_test : Bool = (bits_value tkl == 0) && is_some token in
    let absent_test : Bool = nat_lt 0 (bits_value tkl) && is_none token in
    let a = held-first (not (bits_value version == 1)) (FieldWrong (at_name CoapVersion))
    ((nat_lt 8 (bits_value tkl), FieldWrong (at_name CoapTkl)) ∷ token_refusals fields) e in
    let b = held-first (nat_lt 8 (bits_value tkl)) (FieldWrong (at_name CoapTkl))
    (token_refusals fields) a.1 in
    let c = held-first absent_test (FieldAbsent (at_name CoapToken))
    ((extra_test, FieldWrong (at_name CoapToken)) ∷ last) b.1 in
    let d = held-first extra_test (FieldWrong (at_name CoapToken)) last c.1 in
    let f = held-first size_test (FieldWrong (at_name CoapToken)) [] d.1 in
    record {
      version_is = eqb-true (bits_value version) 1 (not-false (bits_value version == 1) a.0);
      most = ltb-false 8 (bits_value tkl) b.0;
      extra = d.0;
      size = eqb-true (length (unwrap_or token [])) (8 * bits_value tkl)
          (not-false (length (unwrap_or token []) == 8 * bits_value tkl) f.0);
    }

token_fields-some : (token : List ℕ) → 0 < length token
    → token_fields token ≡ field CoapToken (octets token) ∷ []
token_fields-some [] h = absurd (omega arith)
token_fields-some (byte ∷ token) h = refl

-- the field of the token is no option: the options are those among the fields behind it
pub no-options : (token : List ℕ) (options : List FieldValue)
    → options_from (token_fields token ++ options) ≡ options_from options
no-options [] options = refl
no-options (byte ∷ token) options = refl

ends-none : (tkl : List Bool) (rest : List FieldValue) → value_in rest CoapToken ≡ None
    → length (unwrap_or (value_in rest CoapToken) []) ≡ 8 * bits_value tkl
    → first_held (order 18 1 rest) ≡ None → Ends (bits_value tkl) rest
ends-none tkl rest n s o =
    let none : bytes_of [] ≡ [] = bytes_of-short [] (omega arith) in
    let zero_size : length (unwrap_or (value_in rest CoapToken) []) ≡ 0 = rw n in
    record {
      token = [];
      size = omega (arith, s, zero_size);
      options = rest;
      is = refl;
      token_bytes = tt;
      token_is = rw n none;
      ordered = order-after_token rest (order-options rest n o);
      no_gap = refl;
    }

ends-some : (tkl token : List Bool) (rest : List FieldValue) → value_in rest CoapToken ≡ Some token
    → (bits_value tkl == 0) ≡ false → length token ≡ 8 * bits_value tkl
    → first_held (order 18 1 rest) ≡ None → Ends (bits_value tkl) rest
ends-some tkl token rest v k s o =
    let st : Starts CoapToken token rest =
    starts 18 rest CoapToken token (omega arith) (omega arith) refl o v in
    let not_zero : bits_value tkl ≡ 0 → ⊥ = eqb-false (bits_value tkl) 0 k in
    let count : length (bytes_of token) ≡ bits_value tkl =
    omega (arith, length-bytes_of token, s) in
    let whole : octets (bytes_of token) ≡ token = octets-bytes_of token (omega (arith, s)) in
    let one : token_fields (bytes_of token) ≡ field CoapToken token ∷ [] =
    token_fields-some (bytes_of token) (omega (arith, count, not_zero))
    ∙ ap (λ t. field CoapToken t ∷ []) whole in
    record {
      token = bytes_of token;
      size = count;
      options = st.rest;
      is = st.is ∙ ap (λ fs. fs ++ st.rest) (sym one);
      token_bytes = AreBytes-bytes_of token;
      token_is = rw v;
      ordered = order-after_token st.rest st.ordered;
      no_gap = ap (λ fs. first_held (gaps 0 0 fs)) st.is;
    }

ends-from : (tkl : List Bool) (rest : List FieldValue) (token : Option (List Bool))
    → value_in rest CoapToken ≡ token → ((bits_value tkl == 0) && is_some token) ≡ false
    → length (unwrap_or token []) ≡ 8 * bits_value tkl → first_held (order 18 1 rest) ≡ None
    → Ends (bits_value tkl) rest
ends-from tkl rest None v x s o = ends-none tkl rest v (rw v s) o
ends-from tkl rest (Some token) v x s o =
    elim (and_cases (bits_value tkl == 0) true x) [
      | inl k ↦ ends-some tkl token rest v k s o
      | inr k ↦ absurd (true≢false k)
    ]

wide_bits : (value : List Bool) (width number : ℕ) → length value ≡ width
    → bits_value value ≡ number → number_bits width number ≡ value
wide_bits value width number w n = rw (← w, ← n) (number_bits-bits_value value)

-- fields that aren't refused are those of the message that they make
pub record IsMade (fields : List FieldValue) (payload : List ℕ) : Type 0 where
  pub fields_are : fields ≡ fields_of_message (message_of fields payload)
  pub is_message : AreBytes payload → IsMessage (message_of fields payload)
  pub writable : AllByRecursion IsWritable fields
  pub kind_width : length (value_of fields CoapType) ≡ 2
  pub code_width : length (value_of fields CoapCode) ≡ 8
  pub id_width : length (value_of fields CoapMid) ≡ 16
  pub most : length (bytes_of (value_of fields CoapToken)) ≤ 8

below : (value : List Bool) (width : ℕ) → length value ≡ width → bits_value value < 2 ^ width
below value width w = subst (λ n. bits_value value < 2 ^ n) w (bits_value-below value)

writable_rest : (token : List ℕ) (options : List FieldValue) → AllByRecursion IsWritable options
    → AllByRecursion IsWritable (token_fields token ++ options)
writable_rest [] options w = w
writable_rest (byte ∷ token) options w = (tt, w)

made-from : (version kind tkl code id : List Bool) (rest : List FieldValue) (payload : List ℕ)
    → length version ≡ 2 → length kind ≡ 2 → length tkl ≡ 4 → length code ≡ 8 → length id ≡ 16
    → bits_value version ≡ 1 → bits_value tkl ≤ 8 → (e : Ends (bits_value tkl) rest)
    → AreFields 0 0 e.options → IsMade (header version kind tkl code id rest) payload
unfolding fields_of_message
made-from version kind tkl code id rest payload wv wk wt wc wi one most e a =
    let fields : List FieldValue = header version kind tkl code id rest in
    let token_is : bytes_of (value_of rest CoapToken) ≡ e.token = e.token_is in
    let options : options_from rest ≡ options_from e.options = ap options_from e.is
    ∙ no-options e.token e.options in
    let bits_v : number_bits 2 1 ≡ version = wide_bits version 2 1 wv one in
    let bits_k : number_bits 2 (bits_value kind) ≡ kind =
    wide_bits kind 2 (bits_value kind) wk refl in
    let bits_t : number_bits 4 (length e.token) ≡ tkl =
    wide_bits tkl 4 (length e.token) wt (sym e.size) in
    let bits_c : number_bits 8 (bits_value code) ≡ code =
    wide_bits code 8 (bits_value code) wc refl in
    let bits_i : number_bits 16 (bits_value id) ≡ id = wide_bits id 16 (bits_value id) wi refl in
    let tail : rest ≡ token_fields e.token ++ option_fields 0 0 (options_from e.options) = e.is
    ∙ ap (λ fs. token_fields e.token ++ fs) a.is in
    let size : length e.token ≤ 8 = omega (arith, e.size) in
    record {
      fields_are = rw (token_is, options, bits_v, bits_k, bits_t, bits_c, bits_i, ← tail);
      is_message =
          λ p. record {
            kind = below kind 2 wk;
            code = below code 8 wc;
            id = below id 16 wi;
            token = rw token_is size;
            token_bytes = rw token_is e.token_bytes;
            options = rw options a.are_options;
            payload_bytes = p;
          };
      writable = (tt, (tt, (tt, (tt, (tt, rw e.is (writable_rest e.token e.options a.writable))))));
      kind_width = wk;
      code_width = wc;
      id_width = wi;
      most = rw token_is size;
    }

-- fields that aren't refused make a message with any payload of bytes, and are its fields
pub made : (fields : List FieldValue) (payload : List ℕ) → join_refusal fields ≡ None
    → IsMade fields payload
made fields payload e =
    let n : NoneHeld fields = none-held fields e in
    let b : Begins fields = begins fields n.present n.ordered in
    let right : IsRight b.version b.tkl (value_in b.rest CoapToken) =
    is_right b.version b.kind b.tkl b.code b.id b.rest
    (subst (λ (fs : List FieldValue). first_held (value_refusals fs) ≡ None) b.is n.right)
    in
    let ends : Ends (bits_value b.tkl) b.rest =
    ends-from b.tkl b.rest (value_in b.rest CoapToken) refl right.extra right.size b.ordered in
    let no_gap : first_held (gaps 0 0 b.rest) ≡ None =
    subst (λ (fs : List FieldValue). first_held (gaps 0 0 fs) ≡ None) b.is n.no_gap in
    let are : AreFields 0 0 ends.options =
    options-are 0 0 ends.options ends.ordered (sym ends.no_gap ∙ no_gap) in
    subst (λ (fs : List FieldValue). IsMade fs payload) (sym b.is)
    (made-from b.version b.kind b.tkl b.code b.id b.rest payload b.version_width b.kind_width
    b.tkl_width b.code_width b.id_width right.version_is right.most ends are)

-- what writing asks for
pub kind-below : (fields : List FieldValue) → join_refusal fields ≡ None
    → bits_value (value_of fields CoapType) < 4
kind-below fields e = below (value_of fields CoapType) 2 (made fields [] e).kind_width
