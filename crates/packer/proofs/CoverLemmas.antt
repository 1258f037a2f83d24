-- The entries of an admitted rule that are used in a direction, and the fields of the headers of
-- its stack.
use Rattle.std.specs.Prelude.{ℕ, ◌≡◌, ◌⊎◌, ◌<◌, ◌==◌, zero, suc, Bool, true, false, not, ◌&&◌, ◌||◌}
use Rattle.std.specs.Prelude.{nat_lt, if◌then◌else◌, List, [], ◌∷◌, ◌++◌, length, get_or, map, Some}
use Rattle.std.specs.Prelude.{unwrap_or, Contains, Any}
use Rattle.std.specs.List.{list_any, list_all}
use Rattle.std.proofs.Common.{arith, ap, refl, sym, ◌∙◌, subst, inl, inr}
use Rattle.std.proofs.lemmas.Bool.{cases_Bool, and_parts, or_parts, and_from, true≢false, eqb-true}
use Rattle.std.proofs.lemmas.Bool.{ltb-false, not-true}
use Rattle.std.proofs.lemmas.List.Folds.{Any-from_list_any, list_any-from_Any}
use Rattle.schc_ids.specs.declared.ends.Direction.{Direction}
use Rattle.schc_ids.specs.declared.names.FieldAt.{FieldAt}
use Rattle.schc_ids.specs.declared.names.FieldName.{FieldName}
use Rattle.schc_ids.specs.declared.names.FieldName.TheVariants.{
  IpVersion,
  IpTrafficClass,
  IpFlowLabel,
  IpPayloadLength,
  IpNextHeader,
  IpHopLimit,
  IpDevPrefix,
  IpDevIid,
  IpAppPrefix,
  IpAppIid,
  UdpDevPort,
  UdpAppPort,
  UdpLength,
  UdpChecksum,
}
use Rattle.schc_ids.specs.declared.names.Layer.TheVariants as layer
use Rattle.schc_ids.specs.declared.names.Stack.{Stack}
use Rattle.schc_ids.specs.declared.names.Stack.TheVariants as stack
use Rattle.schc_ids.specs.Ends.{covers}
use Rattle.schc_ids.specs.Names.{layer_of, same_layer, same_name, is_option, ip_fields, udp_fields}
use Rattle.schc_ids.specs.Names.{fields_of_stack}
use Rattle.schc_ids.proofs.NamesLemmas.{same_name-true}
use Rattle.rule_model.specs.declared.value.FieldValue.{FieldValue}
use Rattle.rule_model.specs.Data.{EntryData, RuleData}
use Rattle.rule_model.specs.Cover.{covered, field_of, has_layer, has_field, stack_of, serves}
use Rattle.rule_model.specs.Findings.{shape_wrong, is_length_of, IsAdmitted}
use Rattle.rule_model.specs.Residue.{same_field, value_of}
use Rattle.rule_model.proofs.SizedLemmas.{same_field-itself, Contains-first, Contains-rest}
use Rattle.rule_model.proofs.EntryRowsLemmas.{AreApart, AreApart-from_IsAdmitted, EntryHolds}
use Rattle.rule_model.proofs.EntryRowsLemmas.{EntryHolds-from_IsAdmitted}
use Rattle.decompress.proofs.AlongLemmas.{kept, kept-used, kept-unused}
use Rattle.decompress.proofs.TakesLemmas.{apart-kept}
use Rattle.decompress.proofs.LawLemmas.{all-at, unfilter}
use Rattle.ip_udp_fields.specs.Layout.{IsWithoutCoap}
use Rattle.ip_udp_fields.specs.Fields.{at_name}
use Rattle.ip_udp_fields.specs.Join.{value_in}
use Rattle.packer.specs.Unpacking.{reads}

parts_at : {X : Type 0} (x : X) (xs : List X) (y : X) (k : ℕ) → k < length (x ∷ xs)
    → get_or (x ∷ xs) k y ≡ y → (x ≡ y) ⊎ Contains xs y
parts_at x xs y zero l e = inl e
parts_at x xs y (suc k) l e = inr (k, omega arith, e)

-- an element is the first one, or one of the others
pub Contains-parts : {X : Type 0} (x : X) (xs : List X) (y : X) → Contains (x ∷ xs) y → (x ≡ y)
    ⊎ Contains xs y
Contains-parts x xs y h = parts_at x xs y h.0 h.1 h.2

-- an element makes one of the mapped list
pub Contains-map : {X Y : Type 0} (f : X → Y) (xs : List X) (x : X) → Contains xs x
    → Contains (map f xs) (f x)
Contains-map f [] x h = absurd (omega (arith, h.1))
Contains-map f (y ∷ xs) x h =
    elim (Contains-parts y xs x h) [
      | inl e ↦ subst (λ z. Contains (map f (y ∷ xs)) (f z)) e (Contains-first (f y) (map f xs))
      | inr rest ↦ Contains-rest (f y) (map f xs) (f x) (Contains-map f xs x rest)
    ]

-- a test that passes on each element
pub passes-each : {X : Type 0} (test : X → Bool) (xs : List X) → list_all test xs ≡ true → (x : X)
    → Contains xs x → test x ≡ true
passes-each test [] h x among = absurd (omega (arith, among.1))
passes-each test (y ∷ xs) h x among =
    let parts = and_parts (test y) (list_all test xs) h in
    elim (Contains-parts y xs x among) [
      | inl e ↦ subst (λ z. test z ≡ true) e parts.0
      | inr rest ↦ passes-each test xs parts.1 x rest
    ]

-- where each element of a list passes a test, whether all do is computed to true
pub each-passes : {X : Type 0} (test : X → Bool) (xs : List X)
    → ((x : X) → Contains xs x → test x ≡ true) → list_all test xs ≡ true
each-passes test [] h = refl
each-passes test (x ∷ xs) h =
    and_from (test x) (list_all test xs) (h x (Contains-first x xs))
    (each-passes test xs (λ y among. h y (Contains-rest x xs y among)))

-- and one that passes on none
pub fails-each : {X : Type 0} (test : X → Bool) (xs : List X) → list_any test xs ≡ false → (x : X)
    → Contains xs x → test x ≡ false
fails-each test [] h x among = absurd (omega (arith, among.1))
fails-each test (y ∷ xs) h x among =
    let parts = or_parts (test y) (list_any test xs) h in
    elim (Contains-parts y xs x among) [
      | inl e ↦ subst (λ z. test z ≡ false) e parts.0
      | inr rest ↦ fails-each test xs parts.1 x rest
    ]

-- the one that passes
pub passes-some : {X : Type 0} (test : X → Bool) (xs : List X) → list_any test xs ≡ true → (x : X)
    × Contains xs x × (test x ≡ true)
passes-some test xs h =
    let some : Any (λ x. test x ≡ true) xs = Any-from_list_any test xs h in
    (some.1, (some.0, some.2, some.3), some.4)

-- where one element of a list passes a test, whether any does is computed to true
pub some-passes : {X : Type 0} (test : X → Bool) (xs : List X) (x : X) → Contains xs x
    → test x ≡ true → list_any test xs ≡ true
some-passes test xs x among t = list_any-from_Any test xs (among.0, x, among.1, among.2, t)

other_one : (x e : EntryData) → field_of x ≡ field_of e
    → same_field (field_of x) (field_of e) ≡ false → ⊥
other_one x e s f =
    true≢false
    (sym (subst (λ (at : FieldAt). same_field (field_of x) at ≡ true) s
    (same_field-itself (field_of x))) ∙ f)

-- entries that are used are one, where they are of one field
pub same_entry : (direction : Direction) (entries : List EntryData) (d e : EntryData)
    → AreApart entries → Contains (kept direction entries) d → Contains (kept direction entries) e
    → field_of d ≡ field_of e → d ≡ e
same_entry direction [] d e apart m n s = absurd (omega (arith, m.1))
same_entry direction (x ∷ later) d e apart m n s =
    elim (cases_Bool (covers x.direction direction)) [
      | inl t ↦
          let others = apart-kept direction x later apart t in
          let first =
          Contains-parts x (kept direction later) d
          (subst (λ (es : List EntryData). Contains es d) (kept-used direction x later t) m) in
          let second =
          Contains-parts x (kept direction later) e
          (subst (λ (es : List EntryData). Contains es e) (kept-used direction x later t) n) in
          elim first [
            | inl a ↦
                elim second [
                  | inl b ↦ sym a ∙ b
                  | inr b ↦ absurd
                      (other_one x e (ap field_of a ∙ s)
                      (all-at (λ d. same_field (field_of x) (field_of d) ≡ false)
                      (kept direction later) others e b))
                ]
            | inr a ↦
                elim second [
                  | inl b ↦ absurd
                      (other_one x d (ap field_of b ∙ sym s)
                      (all-at (λ d. same_field (field_of x) (field_of d) ≡ false)
                      (kept direction later) others d a))
                  | inr b ↦ same_entry direction later d e apart.1 a b s
                ]
          ]
      | inr f ↦
          same_entry direction later d e apart.1
          (subst (λ (es : List EntryData). Contains es d) (kept-unused direction x later f) m)
          (subst (λ (es : List EntryData). Contains es e) (kept-unused direction x later f) n) s
    ]

-- a field for each entry
abbrev pub with_values : (EntryData → List Bool) → EntryData → FieldValue
with_values h e = record { at = field_of e; value = h e }

found_used : (direction : Direction) (h : EntryData → List Bool) (x : EntryData)
    (later : List EntryData) (e : EntryData) (at : FieldAt) → AreApart (x ∷ later)
    → covers x.direction direction ≡ true → Contains (x ∷ kept direction later) e → field_of e ≡ at
    → (Contains (kept direction later) e
    → value_of (map (with_values h) (kept direction later)) at ≡ h e)
    → value_of (map (with_values h) (x ∷ kept direction later)) at ≡ h e
found_used direction h x later e at apart t among s rest =
    elim (Contains-parts x (kept direction later) e among) [
      | inl a ↦
          let passes : same_field (field_of x) at ≡ true =
          subst (λ (b : FieldAt). same_field (field_of x) b ≡ true) (ap field_of a ∙ s)
          (same_field-itself (field_of x)) in
          rw passes (ap h a)
      | inr a ↦
          let fails : same_field (field_of x) at ≡ false =
          subst (λ (b : FieldAt). same_field (field_of x) b ≡ false) s
          (all-at (λ d. same_field (field_of x) (field_of d) ≡ false) (kept direction later)
          (apart-kept direction x later apart t) e a)
          in
          rw fails (rest a)
    ]

-- the value of an entry's field, where there is one for each entry that is used
value_along : (direction : Direction) (h : EntryData → List Bool) (entries : List EntryData)
    (e : EntryData) (at : FieldAt) → AreApart entries → Contains (kept direction entries) e
    → field_of e ≡ at → value_of (map (with_values h) (kept direction entries)) at ≡ h e
value_along direction h [] e at apart among s = absurd (omega (arith, among.1))
value_along direction h (x ∷ later) e at apart among s =
    elim (cases_Bool (covers x.direction direction)) [
      | inl t ↦
          ap (λ (es : List EntryData). value_of (map (with_values h) es) at)
          (kept-used direction x later t)
          ∙ found_used direction h x later e at apart t
          (subst (λ (es : List EntryData). Contains es e) (kept-used direction x later t) among) s
          (λ a. value_along direction h later e at apart.1 a s)
      | inr f ↦
          ap (λ (es : List EntryData). value_of (map (with_values h) es) at)
          (kept-unused direction x later f)
          ∙ value_along direction h later e at apart.1
          (subst (λ (es : List EntryData). Contains es e) (kept-unused direction x later f) among) s
    ]

-- where no entry repeats another, the field of an entry that is used in the direction has the
-- value that was made for that entry
pub mapped-value : (rule : RuleData) (direction : Direction) (h : EntryData → List Bool)
    (e : EntryData) → AreApart rule.entries → Contains (covered rule direction) e
    → value_of (map (with_values h) (covered rule direction)) (field_of e) ≡ h e
mapped-value rule direction h e apart among =
    value_along direction h rule.entries e (field_of e) apart among refl

-- a field that is there is found by its name
pub value_in-there : (fields : List FieldValue) (name : FieldName) (f : FieldValue)
    → Contains fields f → f.at ≡ at_name name
    → value_in fields name ≡ Some (value_of fields (at_name name))
value_in-there [] name f among s = absurd (omega (arith, among.1))
value_in-there (g ∷ fields) name f among s =
    elim (cases_Bool (same_field g.at (at_name name))) [
      | inl t ↦ rw t refl
      | inr n ↦
          elim (Contains-parts g fields f among) [
            | inl a ↦
                let passes : same_field g.at (at_name name) ≡ true =
                subst (λ (b : FieldAt). same_field b (at_name name) ≡ true)
                (sym (ap (λ (h : FieldValue). h.at) a ∙ s)) (same_field-itself (at_name name))
                in
                absurd (true≢false (sym passes ∙ n))
            | inr a ↦ rw n (value_in-there fields name f a s)
          ]
    ]

-- both ways of looking a value up are one
pub value_of-value_in : (fields : List FieldValue) (name : FieldName)
    → value_of fields (at_name name) ≡ unwrap_or (value_in fields name) []
value_of-value_in [] name = refl
value_of-value_in (f ∷ fields) name =
    elim (same_field f.at (at_name name)) as
    (λ b. (if b then f.value else value_of fields (at_name name)) ≡ unwrap_or
    (if b then Some f.value else value_in fields name) []) [
      | true ↦ refl
      | false ↦ value_of-value_in fields name
    ]

-- the names of a layer are those of its header
ip_listed : (name : FieldName) → same_layer (layer_of name) layer.Coap ≡ false
    → same_layer (layer_of name) layer.Udp ≡ false → list_any (same_name name) ip_fields ≡ true
ip_listed IpVersion h k = refl
ip_listed IpTrafficClass h k = refl
ip_listed IpFlowLabel h k = refl
ip_listed IpPayloadLength h k = refl
ip_listed IpNextHeader h k = refl
ip_listed IpHopLimit h k = refl
ip_listed IpDevPrefix h k = refl
ip_listed IpDevIid h k = refl
ip_listed IpAppPrefix h k = refl
ip_listed IpAppIid h k = refl
ip_listed UdpDevPort h k = absurd (true≢false k)
ip_listed UdpAppPort h k = absurd (true≢false k)
ip_listed UdpLength h k = absurd (true≢false k)
ip_listed UdpChecksum h k = absurd (true≢false k)
ip_listed name h k = absurd (true≢false h)

-- a name that isn't of CoAP is that of a field of IPv6 or UDP
pub udp-listed : (name : FieldName) → same_layer (layer_of name) layer.Coap ≡ false
    → list_any (same_name name) (ip_fields ++ udp_fields) ≡ true
udp-listed IpVersion h = refl
udp-listed IpTrafficClass h = refl
udp-listed IpFlowLabel h = refl
udp-listed IpPayloadLength h = refl
udp-listed IpNextHeader h = refl
udp-listed IpHopLimit h = refl
udp-listed IpDevPrefix h = refl
udp-listed IpDevIid h = refl
udp-listed IpAppPrefix h = refl
udp-listed IpAppIid h = refl
udp-listed UdpDevPort h = refl
udp-listed UdpAppPort h = refl
udp-listed UdpLength h = refl
udp-listed UdpChecksum h = refl
udp-listed name h = absurd (true≢false h)

stack_listed : (coap udp : Bool) (name : FieldName)
    → IsWithoutCoap (if coap then stack.IpUdpCoap else (if udp then stack.IpUdp else stack.Ip))
    → (coap ≡ false → same_layer (layer_of name) layer.Coap ≡ false)
    → (udp ≡ false → same_layer (layer_of name) layer.Udp ≡ false)
    → list_any (same_name name)
    (fields_of_stack
    (if coap then stack.IpUdpCoap else (if udp then stack.IpUdp else stack.Ip))) ≡ true
stack_listed true udp name r h k = absurd r
stack_listed false true name r h k = udp-listed name (h refl)
stack_listed false false name r h k = ip_listed name (h refl) (k refl)

-- no field of a stack without CoAP is an option
pub no-option : (name : FieldName) (of : Stack) → IsWithoutCoap of
    → list_any (same_name name) (fields_of_stack of) ≡ true → is_option name ≡ false
no-option name stack.Ip r h =
    let some = passes-some (same_name name) ip_fields h in
    subst (λ n. is_option n ≡ false) (sym (same_name-true name some.0 some.2))
    (not-true (is_option some.0)
    (passes-each (λ n. not (is_option n)) ip_fields refl some.0 some.1))
no-option name stack.IpUdp r h =
    let some = passes-some (same_name name) (ip_fields ++ udp_fields) h in
    subst (λ n. is_option n ≡ false) (sym (same_name-true name some.0 some.2))
    (not-true (is_option some.0)
    (passes-each (λ n. not (is_option n)) (ip_fields ++ udp_fields) refl some.0 some.1))
no-option name stack.IpUdpCoap r h = absurd r

position_one : (n : ℕ) → (n == 0) ≡ false → nat_lt 1 n ≡ false → (n == 1) ≡ false → ⊥
position_one zero a b c = true≢false a
position_one (suc zero) a b c = true≢false c
position_one (suc (suc n)) a b c = omega (arith, ltb-false 1 (suc (suc n)) b)

abbrev placed : FieldName → ℕ → FieldAt
placed name position = record { name = name; position = position }

-- an entry whose shape isn't wrong, and which isn't of an option, is of a field at position 1
pub first-position : (e : EntryData) → shape_wrong e ≡ false → is_option e.name ≡ false
    → field_of e ≡ at_name e.name
first-position e h o =
    let parts =
    or_parts (not (is_length_of e.name e.length) || (e.position == 0))
    (nat_lt 1 e.position && not (is_option e.name)) h in
    let some = or_parts (not (is_length_of e.name e.length)) (e.position == 0) parts.0 in
    let most : nat_lt 1 e.position ≡ false =
    elim (cases_Bool (nat_lt 1 e.position)) [
      | inl t ↦ absurd
          (true≢false
          (sym (and_from (nat_lt 1 e.position) (not (is_option e.name)) t (ap not o)) ∙ parts.1))
      | inr f ↦ f
    ]
    in
    let one : e.position ≡ 1 =
    elim (cases_Bool (e.position == 1)) [
      | inl t ↦ eqb-true e.position 1 t
      | inr f ↦ absurd (position_one e.position some.1 most f)
    ]
    in
    ap (placed e.name) one

-- the entries that are used are those of the fields of the headers
pub record Covers (rule : RuleData) (direction : Direction) : Type 0 where
  pub without : IsWithoutCoap (stack_of rule)
  pub apart : AreApart rule.entries
  pub each_entry : (e : EntryData) → Contains (covered rule direction) e
      → Contains (fields_of_stack (stack_of rule)) e.name × (field_of e ≡ at_name e.name)
  pub each_name : (name : FieldName) → Contains (fields_of_stack (stack_of rule)) name
      → (e : EntryData) × Contains (covered rule direction) e × (field_of e ≡ at_name name)

-- an entry of an admitted rule that reads the direction
entry_named : (rule : RuleData) (direction : Direction) (e : EntryData) → IsAdmitted rule
    → IsWithoutCoap (stack_of rule) → Contains (covered rule direction) e
    → Contains (fields_of_stack (stack_of rule)) e.name × (field_of e ≡ at_name e.name)
entry_named rule direction e admitted r among =
    let own : Contains rule.entries e =
    (unfilter (λ d. covers d.direction direction) rule.entries e among).0 in
    let listed : list_any (same_name e.name) (fields_of_stack (stack_of rule)) ≡ true =
    stack_listed (has_layer rule layer.Coap) (has_layer rule layer.Udp) e.name r
    (λ none. fails-each (λ d. same_layer (layer_of d.name) layer.Coap) rule.entries none e own)
    (λ none. fails-each (λ d. same_layer (layer_of d.name) layer.Udp) rule.entries none e own)
    in
    let some = passes-some (same_name e.name) (fields_of_stack (stack_of rule)) listed in
    let holds : EntryHolds (stack_of rule) e = EntryHolds-from_IsAdmitted rule admitted e own in (
      subst (Contains (fields_of_stack (stack_of rule))) (sym (same_name-true e.name some.0 some.2))
          some.1,
      first-position e holds.shape (no-option e.name (stack_of rule) r listed),
    )

name_entered : (rule : RuleData) (direction : Direction) (name : FieldName) → IsAdmitted rule
    → IsWithoutCoap (stack_of rule) → serves rule direction ≡ true
    → Contains (fields_of_stack (stack_of rule)) name → (e : EntryData)
    × Contains (covered rule direction) e × (field_of e ≡ at_name name)
name_entered rule direction name admitted r s among =
    let some =
    passes-some (λ e. same_name e.name name) (covered rule direction)
    (passes-each (has_field rule direction) (fields_of_stack (stack_of rule)) s name among) in (
      some.0,
      some.1,
      (entry_named rule direction some.0 admitted r some.1).1
          ∙ ap at_name (same_name-true some.0.name name some.2),
    )

-- an admitted rule of a stack without CoAP that serves the direction has an entry there for each
-- field of the headers, and none of another
pub Covers-from_reads : (rule : RuleData) (direction : Direction) → IsAdmitted rule
    → IsWithoutCoap (stack_of rule) → reads rule direction ≡ true → Covers rule direction
Covers-from_reads rule direction admitted without h =
    record {
      without = without;
      apart = AreApart-from_IsAdmitted rule admitted;
      each_entry = λ e among. entry_named rule direction e admitted without among;
      each_name = λ name among. name_entered rule direction name admitted without h among;
    }
