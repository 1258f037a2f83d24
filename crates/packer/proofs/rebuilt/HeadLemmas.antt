-- The headers that stand at fixed places, made of restored fields: those of IPv6 and UDP, with CoAP
-- too.
use Rattle.std.specs.Prelude.{ℕ, ◌≡◌, Bool, true, false, ◌&&◌, if◌then◌else◌, List, ◌++◌, length}
use Rattle.std.specs.Prelude.{Some, None, Contains}
use Rattle.std.proofs.Common.{ap, refl, sym, ◌∙◌, subst}
use Rattle.std.proofs.lemmas.Bool.{and_parts}
use Rattle.std.proofs.lemmas.List.Elements.{Contains-append_left}
use Rattle.schc_ids.specs.declared.ends.Direction.{Direction}
use Rattle.schc_ids.specs.declared.names.FieldAt.{FieldAt}
use Rattle.schc_ids.specs.declared.names.FieldName.{FieldName}
use Rattle.schc_ids.specs.declared.names.FieldName.TheVariants.{UdpChecksum}
use Rattle.schc_ids.specs.declared.names.Layer.TheVariants as layer
use Rattle.schc_ids.specs.declared.names.Stack.{Stack}
use Rattle.schc_ids.specs.declared.names.Stack.TheVariants as stack
use Rattle.schc_ids.specs.Ends.{covers}
use Rattle.schc_ids.specs.Names.{layer_of, same_layer, same_name, width_of, is_option, ip_fields}
use Rattle.schc_ids.specs.Names.{udp_fields, coap_fields, fields_of_stack}
use Rattle.schc_ids.proofs.NamesLemmas.{same_name-true, same_name-itself}
use Rattle.rule_model.specs.declared.value.FieldValue.{FieldValue}
use Rattle.rule_model.specs.Data.{EntryData, RuleData}
use Rattle.rule_model.specs.Cover.{covered, field_of, has_layer, has_field, stack_of, is_compute}
use Rattle.rule_model.specs.Cover.{computes_checksum}
use Rattle.rule_model.specs.Findings.{IsAdmitted}
use Rattle.rule_model.specs.First.{first_held}
use Rattle.rule_model.specs.Residue.{value_of}
use Rattle.rule_model.proofs.EntryRowsLemmas.{AreApart, AreApart-from_IsAdmitted}
use Rattle.rule_model.proofs.EntryRowsLemmas.{EntryHolds-from_IsAdmitted}
use Rattle.decompress.proofs.LawLemmas.{all-from, unfilter}
use Rattle.ip_udp_fields.specs.Layout.{bits_of}
use Rattle.ip_udp_fields.specs.Fields.{at_name, IsUdp, IsPacketOf}
use Rattle.ip_udp_fields.specs.Join.{value_in, value_refusals}
use Rattle.packer.specs.Unpacking.{filled_value, filled_field, with_lengths, size_after}
use Rattle.packer.specs.Unpacking.{filled_headers, headers_and_payload, fixed_headers, reads}
use Rattle.packer.specs.Rebuilding.{AreRestored, header_tests}
use Rattle.packer.proofs.rebuilt.FilledLemmas.{value_refusals-none}
use Rattle.packer.proofs.rebuilt.PlainLemmas.{fixed-without, value_refusals-fixed}
use Rattle.packer.proofs.CoverLemmas.{Contains-map, passes-each, passes-some, some-passes}
use Rattle.packer.proofs.CoverLemmas.{mapped-value, value_in-there, no-option, first-position}
use Rattle.packer.proofs.rebuilt.JoinedLemmas.{AreFound, AreWide, joined-packet}
use Rattle.packer.proofs.rebuilt.RestoredHeadersLemmas.{header_values, filled-wide, width-known}
use Rattle.packer.proofs.rebuilt.RestoredHeadersLemmas.{names-wide}

-- each field of the headers that stand at fixed places has its entry
pub record Heads (rule : RuleData) (direction : Direction) : Type 0 where
  pub apart : AreApart rule.entries
  pub each_name : (name : FieldName)
      → Contains (fields_of_stack (fixed_headers (stack_of rule))) name → (e : EntryData)
      × Contains (covered rule direction) e × (field_of e ≡ at_name name)

-- a packet of the stack has all these fields
pub fixed-among : (of : Stack) (name : FieldName)
    → Contains (fields_of_stack (fixed_headers of)) name → Contains (fields_of_stack of) name
fixed-among stack.Ip name h = h
fixed-among stack.IpUdp name h = h
fixed-among stack.IpUdpCoap name h =
    Contains-append_left (ip_fields ++ udp_fields) coap_fields name h

head_entered : (rule : RuleData) (direction : Direction) (name : FieldName) → IsAdmitted rule
    → reads rule direction ≡ true → Contains (fields_of_stack (fixed_headers (stack_of rule))) name
    → (e : EntryData) × Contains (covered rule direction) e × (field_of e ≡ at_name name)
head_entered rule direction name admitted s among =
    let some =
    passes-some (λ e. same_name e.name name) (covered rule direction)
    (passes-each (has_field rule direction) (fields_of_stack (stack_of rule)) s name
    (fixed-among (stack_of rule) name among)) in
    let is : some.0.name ≡ name = same_name-true some.0.name name some.2 in
    let holds =
    EntryHolds-from_IsAdmitted rule admitted some.0
    (unfilter (λ d. covers d.direction direction) rule.entries some.0 some.1).0 in
    let option =
    no-option name (fixed_headers (stack_of rule)) (fixed-without (stack_of rule))
    (some-passes (same_name name) (fields_of_stack (fixed_headers (stack_of rule))) name among
    (same_name-itself name)) in
    (some.0, some.1, first-position some.0 holds.shape (ap is_option is ∙ option) ∙ ap at_name is)

-- an admitted rule that serves the direction has an entry for each field of its headers at fixed
-- places
pub Heads-from_reads : (rule : RuleData) (direction : Direction) → IsAdmitted rule
    → reads rule direction ≡ true → Heads rule direction
Heads-from_reads rule direction admitted h =
    record {
      apart = AreApart-from_IsAdmitted rule admitted;
      each_name =
          λ name among. head_entered rule direction name admitted h among;
    }

-- the filled-in field of an entry has its restored value, or where it is a computed length the true
-- one
pub heads-value : (rule : RuleData) (direction : Direction) (fields : List FieldValue) (size : ℕ)
    (e : EntryData) → Heads rule direction → Contains (covered rule direction) e
    → value_of (filled_headers rule direction fields size) (field_of e) ≡ filled_value
    (size_after (stack_of rule) size) e (value_of fields (field_of e))
unfolding with_lengths
heads-value rule direction fields size e heads among =
    mapped-value rule direction
    (λ d. filled_value (size_after (stack_of rule) size) d (value_of fields (field_of d))) e
    heads.apart among

-- each field of the headers at fixed places is found by its name among the filled-in fields
pub heads-found : (rule : RuleData) (direction : Direction) (fields : List FieldValue) (size : ℕ)
    → Heads rule direction
    → AreFound (fixed_headers (stack_of rule)) (header_values rule direction fields size)
    (filled_headers rule direction fields size)
unfolding with_lengths
heads-found rule direction fields size heads =
    all-from
    (λ n. value_in (filled_headers rule direction fields size) n ≡ Some
    (header_values rule direction fields size n))
    (fields_of_stack (fixed_headers (stack_of rule)))
    (λ n among.
    let e = heads.each_name n among in
    value_in-there (filled_headers rule direction fields size) n
    (filled_field (size_after (stack_of rule) size) fields e.0)
    (Contains-map (filled_field (size_after (stack_of rule) size) fields)
    (covered rule direction) e.0 e.1) e.2)

-- each of the restored fields at fixed places has its width, with computed lengths filled in
pub heads-wide : (rule : RuleData) (direction : Direction) (fields : List FieldValue) (size : ℕ)
    → Heads rule direction → AreRestored rule direction fields
    → AreWide (fixed_headers (stack_of rule)) (header_values rule direction fields size)
heads-wide rule direction fields size heads restored =
    all-from (λ n. length (header_values rule direction fields size n) ≡ bits_of n)
    (fields_of_stack (fixed_headers (stack_of rule)))
    (λ n among.
    let e = heads.each_name n among in
    let name : e.0.name ≡ n = ap (λ (at : FieldAt). at.name) e.2 in
    let own : length (value_of fields (field_of e.0)) ≡ bits_of e.0.name =
    width-known (width_of e.0.name) (value_of fields (field_of e.0))
    (names-wide (fixed_headers (stack_of rule)) e.0.name (fixed-without (stack_of rule))
    (subst (Contains (fields_of_stack (fixed_headers (stack_of rule)))) (sym name) among))
    (restored.widths e.0 e.1)
    in
    let value : header_values rule direction fields size n ≡ filled_value
    (size_after (stack_of rule) size) e.0 (value_of fields (field_of e.0)) =
    ap (value_of (filled_headers rule direction fields size)) (sym e.2)
    ∙ heads-value rule direction fields size e.0 heads e.1
    in
    ap (λ (bits : List Bool). length bits) value
    ∙ filled-wide e.0 (size_after (stack_of rule) size) (value_of fields (field_of e.0)) own
    ∙ ap bits_of name)

fixed_udp : (coap udp : Bool) → udp ≡ true
    → fixed_headers
    (if coap then stack.IpUdpCoap else (if udp then stack.IpUdp else stack.Ip)) ≡ stack.IpUdp
fixed_udp true udp h = refl
fixed_udp false udp h = rw h refl

-- a checksum is computed where there is a UDP header
pub computes-fixed : (rule : RuleData) (direction : Direction)
    → computes_checksum rule direction ≡ true → fixed_headers (stack_of rule) ≡ stack.IpUdp
computes-fixed rule direction h =
    let some =
    passes-some (λ e. same_name e.name UdpChecksum && is_compute e.action)
    (covered rule direction) h in
    let parts = and_parts (same_name some.0.name UdpChecksum) (is_compute some.0.action) some.2 in
    let own : Contains rule.entries some.0 =
    (unfilter (λ d. covers d.direction direction) rule.entries some.0 some.1).0 in
    let name : some.0.name ≡ UdpChecksum = same_name-true some.0.name UdpChecksum parts.0 in
    fixed_udp (has_layer rule layer.Coap) (has_layer rule layer.Udp)
    (some-passes (λ e. same_layer (layer_of e.name) layer.Udp) rule.entries some.0 own
    (ap (λ n. same_layer (layer_of n) layer.Udp) name))

-- the joined headers are those of a UDP datagram, where a checksum is computed
pub IsUdp-heads : (rule : RuleData) (direction : Direction) (fields headers : List FieldValue)
    (body : List ℕ) → Heads rule direction → AreRestored rule direction fields
    → headers ≡ filled_headers rule direction fields (length body)
    → first_held (header_tests (stack_of rule) headers (length body)) ≡ None
    → computes_checksum rule direction ≡ true
    → IsUdp (headers_and_payload (fixed_headers (stack_of rule)) direction headers body)
IsUdp-heads rule direction fields headers body heads restored same none h =
    let fixed : Stack = fixed_headers (stack_of rule) in
    let all : List FieldValue = filled_headers rule direction fields (length body) in
    let right : first_held (value_refusals fixed all (length body)) ≡ None =
    ap first_held (value_refusals-fixed (stack_of rule) all (length body))
    ∙ value_refusals-none (stack_of rule) all (length body)
    (subst (λ (all : List FieldValue). first_held
    (header_tests (stack_of rule) all (length body)) ≡ None) same none)
    in
    let packet : IsPacketOf fixed (headers_and_payload fixed direction all body) =
    (joined-packet fixed direction (header_values rule direction fields (length body)) all body
    (fixed-without (stack_of rule)) (heads-found rule direction fields (length body) heads)
    (heads-wide rule direction fields (length body) heads restored) right).is_packet
    in
    subst (λ (of : Stack). IsPacketOf of (headers_and_payload fixed direction headers body))
    (computes-fixed rule direction h)
    (subst (λ (all : List FieldValue). IsPacketOf fixed
    (headers_and_payload fixed direction all body)) (sym same) packet)
