-- The headers that are made of restored fields.
use Rattle.std.specs.Prelude.{ℕ, ◌≡◌, Bool, true, not, ◌&&◌, ◌||◌, List, ◌++◌, length, Option, Some}
use Rattle.std.specs.Prelude.{None, is_some, unwrap_or, Contains, IfSome}
use Rattle.std.proofs.Common.{ap, refl, sym, ◌∙◌, subst, inl, inr}
use Rattle.std.proofs.lemmas.Bool.{cases_Bool, and_parts, false≢true}
use Rattle.schc_bits.proofs.NumberBits.{length-number_bits}
use Rattle.schc_ids.specs.declared.ends.Direction.{Direction}
use Rattle.schc_ids.specs.declared.names.FieldAt.{FieldAt}
use Rattle.schc_ids.specs.declared.names.FieldName.{FieldName}
use Rattle.schc_ids.specs.declared.names.FieldName.TheVariants.{IpPayloadLength, UdpLength}
use Rattle.schc_ids.specs.declared.names.FieldName.TheVariants.{UdpChecksum}
use Rattle.schc_ids.specs.declared.names.Stack.{Stack}
use Rattle.schc_ids.specs.declared.names.Stack.TheVariants as stack
use Rattle.schc_ids.specs.Names.{same_name, width_of, ip_fields, udp_fields, fields_of_stack}
use Rattle.schc_ids.proofs.NamesLemmas.{same_name-true}
use Rattle.rule_model.specs.declared.value.FieldValue.{FieldValue}
use Rattle.rule_model.specs.Data.{EntryData, RuleData}
use Rattle.rule_model.specs.Cover.{covered, field_of, stack_of, is_compute, computes_checksum}
use Rattle.rule_model.specs.Residue.{value_of}
use Rattle.decompress.proofs.LawLemmas.{all-from}
use Rattle.ip_udp_fields.specs.Layout.{IsWithoutCoap, bits_of}
use Rattle.ip_udp_fields.specs.Fields.{at_name}
use Rattle.ip_udp_fields.specs.Join.{value_in}
use Rattle.packer.specs.Unpacking.{is_computed_length, filled_value, filled_field, with_lengths}
use Rattle.packer.specs.Unpacking.{size_after, filled_headers}
use Rattle.packer.specs.Rebuilding.{AreRestored}
use Rattle.packer.proofs.CoverLemmas.{Contains-map, passes-each, passes-some, mapped-value}
use Rattle.packer.proofs.CoverLemmas.{value_in-there, Covers}
use Rattle.packer.proofs.rebuilt.JoinedLemmas.{AreFound, AreWide}

-- the values of the headers
abbrev pub header_values : RuleData → Direction → List FieldValue → ℕ → FieldName → List Bool
header_values rule direction fields size name =
    value_of (filled_headers rule direction fields size) (at_name name)

-- without CoAP, the filled-in field of an entry has its restored value, or where it is a computed
-- length the true one
pub headers-value : (rule : RuleData) (direction : Direction) (fields : List FieldValue) (size : ℕ)
    (e : EntryData) → Covers rule direction → Contains (covered rule direction) e
    → value_of (filled_headers rule direction fields size) (field_of e) ≡ filled_value
    (size_after (stack_of rule) size) e (value_of fields (field_of e))
unfolding with_lengths
headers-value rule direction fields size e covers among =
    mapped-value rule direction
    (λ d. filled_value (size_after (stack_of rule) size) d (value_of fields (field_of d))) e
    covers.apart among

-- without CoAP, each field of the rule's stack is found by its name among the filled-in fields
pub headers-found : (rule : RuleData) (direction : Direction) (fields : List FieldValue) (size : ℕ)
    → Covers rule direction
    → AreFound (stack_of rule) (header_values rule direction fields size)
    (filled_headers rule direction fields size)
unfolding with_lengths
headers-found rule direction fields size covers =
    all-from
    (λ n. value_in (filled_headers rule direction fields size) n ≡ Some
    (header_values rule direction fields size n)) (fields_of_stack (stack_of rule))
    (λ n among.
    let e = covers.each_name n among in
    value_in-there (filled_headers rule direction fields size) n
    (filled_field (size_after (stack_of rule) size) fields e.0)
    (Contains-map (filled_field (size_after (stack_of rule) size) fields)
    (covered rule direction) e.0 e.1) e.2)

length_width : (name : FieldName) → (name ≡ IpPayloadLength) → bits_of name ≡ 16
length_width name e = ap bits_of e

udp_width : (name : FieldName) → (name ≡ UdpLength) → bits_of name ≡ 16
udp_width name e = ap bits_of e

-- a length that is filled in has 16 bits
pub filled-wide : (e : EntryData) (size : ℕ) (value : List Bool) → length value ≡ bits_of e.name
    → length (filled_value size e value) ≡ bits_of e.name
filled-wide e size value l =
    elim (cases_Bool (is_computed_length e)) [
      | inl t ↦
          let parts =
          and_parts (is_compute e.action)
          (same_name e.name IpPayloadLength || same_name e.name UdpLength) t in
          let wide : bits_of e.name ≡ 16 =
          elim (cases_Bool (same_name e.name IpPayloadLength)) [
            | inl p ↦ length_width e.name (same_name-true e.name IpPayloadLength p)
            | inr q ↦ udp_width e.name
                (same_name-true e.name UdpLength
                (sym (ap (λ b. b || same_name e.name UdpLength) q) ∙ parts.1))
          ]
          in
          rw t (length-number_bits 16 size ∙ sym wide)
      | inr f ↦ rw f l
    ]

-- a value that has the width of its field, where that has one, has as many bits
pub width-known : (o : Option ℕ) (value : List Bool) → is_some o ≡ true
    → IfSome o (λ width. length value ≡ width) → length value ≡ unwrap_or o 0
width-known None value s h = absurd (false≢true s)
width-known (Some width) value s h = h

-- each field of a stack without CoAP has a width
pub names-wide : (of : Stack) (name : FieldName) → IsWithoutCoap of
    → Contains (fields_of_stack of) name → is_some (width_of name) ≡ true
names-wide stack.Ip name h among = passes-each (λ n. is_some (width_of n)) ip_fields refl name among
names-wide stack.IpUdp name h among =
    passes-each (λ n. is_some (width_of n)) (ip_fields ++ udp_fields) refl name among
names-wide stack.IpUdpCoap name h among = absurd h

-- without CoAP, each of the restored fields has its width, with computed lengths filled in
pub headers-wide : (rule : RuleData) (direction : Direction) (fields : List FieldValue) (size : ℕ)
    → Covers rule direction → AreRestored rule direction fields
    → AreWide (stack_of rule) (header_values rule direction fields size)
headers-wide rule direction fields size covers restored =
    all-from (λ n. length (header_values rule direction fields size n) ≡ bits_of n)
    (fields_of_stack (stack_of rule))
    (λ n among.
    let e = covers.each_name n among in
    let name : e.0.name ≡ n = ap (λ (at : FieldAt). at.name) e.2 in
    let own : length (value_of fields (field_of e.0)) ≡ bits_of e.0.name =
    width-known (width_of e.0.name) (value_of fields (field_of e.0))
    (names-wide (stack_of rule) e.0.name covers.without (covers.each_entry e.0 e.1).0)
    (restored.widths e.0 e.1)
    in
    let value : header_values rule direction fields size n ≡ filled_value
    (size_after (stack_of rule) size) e.0 (value_of fields (field_of e.0)) =
    ap (value_of (filled_headers rule direction fields size)) (sym e.2)
    ∙ headers-value rule direction fields size e.0 covers e.1
    in
    ap (λ (bits : List Bool). length bits) value
    ∙ filled-wide e.0 (size_after (stack_of rule) size) (value_of fields (field_of e.0)) own
    ∙ ap bits_of name)

-- a stack without CoAP that has the UDP checksum is the one with UDP
pub udp-stack : (of : Stack) → IsWithoutCoap of → Contains (fields_of_stack of) UdpChecksum
    → of ≡ stack.IpUdp
udp-stack stack.Ip h among =
    absurd (false≢true
    (passes-each (λ n. not (same_name n UdpChecksum)) ip_fields refl UdpChecksum among))
udp-stack stack.IpUdp h among = refl
udp-stack stack.IpUdpCoap h among = absurd h

-- a checksum is computed in the stack with UDP alone
pub computes-stack : (rule : RuleData) (direction : Direction) → Covers rule direction
    → computes_checksum rule direction ≡ true → stack_of rule ≡ stack.IpUdp
computes-stack rule direction covers h =
    let some =
    passes-some (λ e. same_name e.name UdpChecksum && is_compute e.action)
    (covered rule direction) h in
    let parts = and_parts (same_name some.0.name UdpChecksum) (is_compute some.0.action) some.2 in
    udp-stack (stack_of rule) covers.without
    (subst (Contains (fields_of_stack (stack_of rule)))
    (same_name-true some.0.name UdpChecksum parts.0) (covers.each_entry some.0 some.1).0)
