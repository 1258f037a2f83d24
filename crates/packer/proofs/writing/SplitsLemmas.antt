-- A packet that was split, or couldn't be.
use Rattle.std.specs.Prelude.{ℕ, ◌≡◌, ◌≤◌, ◌⊎◌, Bool, true, false, ◌+◌, ◌-◌, List, [], ◌∷◌, ◌++◌}
use Rattle.std.specs.Prelude.{length, take, drop, if◌then◌else◌, is_none, Option, Some, None}
use Rattle.std.specs.Prelude.{Result, Ok, Err, Contains}
use Rattle.std.specs.List.{AllByRecursion}
use Rattle.std.proofs.Common.{arith, ap, refl, sym, ◌∙◌, subst, inl, inr}
use Rattle.std.proofs.lemmas.Bool.{cases_Bool, false≢true}
use Rattle.schc_ids.specs.declared.ends.Direction.{Direction}
use Rattle.schc_ids.specs.declared.names.FieldAt.{FieldAt}
use Rattle.schc_ids.specs.declared.names.FieldName.{FieldName}
use Rattle.schc_ids.specs.declared.names.FieldName.TheVariants.{IpNextHeader, UdpAppPort}
use Rattle.schc_ids.specs.declared.names.Stack.{Stack}
use Rattle.schc_ids.specs.declared.names.Stack.TheVariants as stack
use Rattle.schc_ids.specs.Names.{fields_of_stack}
use Rattle.rule_model.specs.declared.parts.SplitFault.{SplitFault}
use Rattle.rule_model.specs.declared.parts.SplitFault.TheVariants.{Memory}
use Rattle.rule_model.specs.declared.value.FieldValue.{FieldValue}
use Rattle.rule_model.specs.SplitData.{SplitData}
use Rattle.rule_model.specs.Residue.{same_field, value_of}
use Rattle.rule_model.proofs.FirstLemmas.{first_held-append_some}
use Rattle.rule_model.proofs.SizedLemmas.{Contains-first, Contains-rest, same_field-itself}
use Rattle.decompress.proofs.LawLemmas.{all-at, value_of-own}
use Rattle.ip_udp_fields.specs.Layout.{IsWithoutCoap, header_size, bits_of}
use Rattle.ip_udp_fields.specs.Fields.{at_name, field_in, fields_in, FieldsOf, IsIpv6}
use Rattle.ip_udp_fields.specs.Refusals.{ip_refusals, udp_refusals, refusal}
use Rattle.ip_udp_fields.proofs.PlaceLemmas.{fields-within}
use Rattle.ip_udp_fields.proofs.RefusalLemmas.{header_size-is_packet}
use Rattle.ip_udp_fields.proofs.SplitLemmas.{field_bits, lengths, without-coap}
use Rattle.coap_fields.specs.Message.{Message}
use Rattle.coap_fields.specs.Fields.{fields_of_message}
use Rattle.coap_fields.specs.Reading.{behind, message_in, read_message}
use Rattle.coap_fields.specs.Reading.{split_of as message_split}
use Rattle.packer.specs.Packets.{PacketOf, with_message, split_message, split_of}
use Rattle.packer.specs.Splits.{is_memory}
use Rattle.packer.specs.Searching.{where_split, cut_to}
use Rattle.packer.proofs.CoverLemmas.{Contains-parts}
use Rattle.packer.proofs.HeadersLemmas.{fields-packet, refused-split_of}
use Rattle.packer.proofs.PacketFieldsLemmas.{field-named, once-fields}
use Rattle.packer.proofs.SplitLemmas.{split_headers-fields, packet-split_of}

-- a packet of a stack whose headers stand at fixed places
pub fields-split : (of : Stack) (direction : Direction) (packet : List ℕ) (s : SplitData)
    → IsWithoutCoap of → FieldsOf of direction packet s.fields s.payload_from
    → split_of of direction packet ≡ Some s
fields-split of direction packet s h p =
    packet-split_of of direction packet s.fields s.payload_from
    (fields-packet of direction packet s.fields s.payload_from h p)

-- a packet that is split as one of a stack without CoAP is one, with these fields and this payload
pub split-fields : (of : Stack) (direction : Direction) (packet : List ℕ) (s : SplitData)
    → IsWithoutCoap of → split_of of direction packet ≡ Some s
    → FieldsOf of direction packet s.fields s.payload_from
unfolding split_of
split-fields stack.Ip direction packet s h e = split_headers-fields stack.Ip direction packet s tt e
split-fields stack.IpUdp direction packet s h e =
    split_headers-fields stack.IpUdp direction packet s tt e
split-fields stack.IpUdpCoap direction packet s h e = absurd h

-- a packet that is refused
pub refused-none : (of : Stack) (direction : Direction) (packet : List ℕ) (fault : SplitFault)
    → IsWithoutCoap of → (fault ≡ Memory) ⊎ (refusal of packet ≡ Some fault)
    → is_memory fault ≡ false → split_of of direction packet ≡ None
refused-none of direction packet fault h (inl e) other =
    absurd (false≢true (sym other ∙ ap is_memory e))
refused-none of direction packet fault h (inr e) other =
    refused-split_of of direction packet fault h e

abbrev as_split : List FieldValue → ℕ → SplitData
as_split fields from = record { fields = fields; payload_from = from }

split-is : (s : SplitData) (fields : List FieldValue) (from : ℕ) → fields ≡ s.fields
    → from ≡ s.payload_from → as_split fields from ≡ s
split-is s fields from f p = ap (λ (fs : List FieldValue). as_split fs from) f
    ∙ ap (as_split s.fields) p

-- put behind the fields of IPv6
pub udp-split : (direction : Direction) (packet : List ℕ) (fields : List FieldValue)
    → FieldsOf stack.IpUdp direction packet fields 48
    → Some (as_split fields 48) ≡ split_of stack.IpUdp direction packet
udp-split direction packet fields p =
    sym (fields-split stack.IpUdp direction packet (as_split fields 48) tt p)

-- the fields of IPv6 stand in front of those of UDP
front-fields : (direction : Direction) (packet : List ℕ) (more : List FieldValue)
    → take 10 (fields_in stack.IpUdp direction packet ++ more) ≡ fields_in stack.Ip direction packet
unfolding fields_in
front-fields direction packet more = refl

udp-front : (direction : Direction) (packet : List ℕ) (more : List FieldValue)
    → take 14 (fields_in stack.IpUdp direction packet ++ more) ≡ fields_in stack.IpUdp direction
    packet
unfolding fields_in
udp-front direction packet more = refl

udp-ip : (direction : Direction) (packet : List ℕ)
    → take 10 (fields_in stack.IpUdp direction packet) ≡ fields_in stack.Ip direction packet
unfolding fields_in
udp-ip direction packet = refl

udp-all : (direction : Direction) (packet : List ℕ)
    → take 14 (fields_in stack.IpUdp direction packet) ≡ fields_in stack.IpUdp direction packet
unfolding fields_in
udp-all direction packet = refl

ip-all : (direction : Direction) (packet : List ℕ)
    → take 10 (fields_in stack.Ip direction packet) ≡ fields_in stack.Ip direction packet
unfolding fields_in
ip-all direction packet = refl

-- a packet's split as one of IPv6, cut to IPv6, stays what it was
pub ip-cut : (direction : Direction) (packet : List ℕ) (s own : SplitData)
    → split_of stack.Ip direction packet ≡ Some s → split_of stack.Ip direction packet ≡ Some own
    → cut_to stack.Ip s ≡ own
ip-cut direction packet s own e f =
    let p = split-fields stack.Ip direction packet s tt e in
    let q = split-fields stack.Ip direction packet own tt f in
    split-is own (take 10 s.fields) 40
    (ap (λ (fs : List FieldValue). take 10 fs) p.its_fields ∙ ip-all direction packet
    ∙ sym q.its_fields) (sym q.its_payload)

-- a packet's split as one of UDP, cut to a stack without CoAP, is its split as one of that stack
pub udp-cut : (of : Stack) (direction : Direction) (packet : List ℕ) (s own : SplitData)
    → IsWithoutCoap of → split_of stack.IpUdp direction packet ≡ Some s
    → split_of of direction packet ≡ Some own → cut_to of s ≡ own
udp-cut stack.Ip direction packet s own h e f =
    let p = split-fields stack.IpUdp direction packet s tt e in
    let q = split-fields stack.Ip direction packet own tt f in
    split-is own (take 10 s.fields) 40
    (ap (λ (fs : List FieldValue). take 10 fs) p.its_fields ∙ udp-ip direction packet
    ∙ sym q.its_fields) (sym q.its_payload)
udp-cut stack.IpUdp direction packet s own h e f =
    let p = split-fields stack.IpUdp direction packet s tt e in
    let q = split-fields stack.IpUdp direction packet own tt f in
    split-is own (take 14 s.fields) 48
    (ap (λ (fs : List FieldValue). take 14 fs) p.its_fields ∙ udp-all direction packet
    ∙ sym q.its_fields) (sym q.its_payload)
udp-cut stack.IpUdpCoap direction packet s own h e f = absurd h

-- a split with a message
pub coap-parts : (headers split : SplitData) (read : Result SplitData ℕ)
    → with_message headers read ≡ Some split → (message : SplitData)
    × (split.fields ≡ headers.fields ++ message.fields)
coap-parts headers split (Err place) e = absurd (cc)
coap-parts headers split (Ok message) e =
    let same : as_split (headers.fields ++ message.fields)
    (headers.payload_from + message.payload_from) ≡ split = cc in
    (message, ap (λ (s : SplitData). s.fields) (sym same))

-- a packet's split with the CoAP message, cut to any stack, is its split as one of that stack
pub coap-cut : (of : Stack) (direction : Direction) (packet : List ℕ) (headers s own : SplitData)
    → split_of stack.IpUdp direction packet ≡ Some headers
    → with_message headers (message_in (drop 48 packet)) ≡ Some s
    → split_of stack.IpUdpCoap direction packet ≡ Some s → split_of of direction packet ≡ Some own
    → cut_to of s ≡ own
coap-cut stack.Ip direction packet headers s own e w c f =
    let p = split-fields stack.IpUdp direction packet headers tt e in
    let q = split-fields stack.Ip direction packet own tt f in
    let m = coap-parts headers s (message_in (drop 48 packet)) w in
    let all : s.fields ≡ fields_in stack.IpUdp direction packet ++ m.0.fields = m.1
    ∙ ap (λ (fs : List FieldValue). fs ++ m.0.fields) p.its_fields in
    split-is own (take 10 s.fields) 40
    (ap (λ (fs : List FieldValue). take 10 fs) all ∙ front-fields direction packet m.0.fields
    ∙ sym q.its_fields) (sym q.its_payload)
coap-cut stack.IpUdp direction packet headers s own e w c f =
    let p = split-fields stack.IpUdp direction packet headers tt e in
    let q = split-fields stack.IpUdp direction packet own tt f in
    let m = coap-parts headers s (message_in (drop 48 packet)) w in
    let all : s.fields ≡ fields_in stack.IpUdp direction packet ++ m.0.fields = m.1
    ∙ ap (λ (fs : List FieldValue). fs ++ m.0.fields) p.its_fields in
    split-is own (take 14 s.fields) 48
    (ap (λ (fs : List FieldValue). take 14 fs) all ∙ udp-front direction packet m.0.fields
    ∙ sym q.its_fields) (sym q.its_payload)
coap-cut stack.IpUdpCoap direction packet headers s own e w c f = let both : Some s ≡ Some own =
    sym c ∙ f in cc

-- no UDP, and so no CoAP
pub no-coap : (direction : Direction) (packet : List ℕ)
    → split_of stack.IpUdp direction packet ≡ None
    → split_of stack.IpUdpCoap direction packet ≡ None
unfolding split_of
no-coap direction packet e = ap (split_message packet) e

-- the value of a field in front
value-front : (fields more : List FieldValue) (f : FieldValue) → Contains fields f
    → value_of (fields ++ more) f.at ≡ value_of fields f.at
value-front [] more f h = absurd (omega (arith, h.1))
value-front (x ∷ fields) more f h =
    elim (cases_Bool (same_field x.at f.at)) [
      | inl t ↦ rw t refl
      | inr n ↦
          elim (Contains-parts x fields f h) [
            | inl e ↦ absurd
                (false≢true
                (sym n ∙ subst (λ (y : FieldValue). same_field x.at y.at ≡ true) e
                (same_field-itself x.at)))
            | inr rest ↦ rw n (value-front fields more f rest)
          ]
    ]

-- the width of a field
pub value-width : (of : Stack) (direction : Direction) (packet : List ℕ) (fields : List FieldValue)
    (from : ℕ) (name : FieldName) → FieldsOf of direction packet fields from
    → Contains (fields_of_stack of) name → length (value_of fields (at_name name)) ≡ bits_of name
value-width of direction packet fields from name p among =
    let h : IsWithoutCoap of = without-coap of packet p.is_packet in
    ap (λ (bits : List Bool). length bits)
    (value_of-own fields (field_in direction packet name)
    (once-fields of direction packet fields from p)
    (field-named of direction packet fields from name p among))
    ∙ all-at (λ n. length (field_bits direction packet n) ≡ bits_of n) (fields_of_stack of)
    (lengths of direction packet (fields_of_stack of) (header_size-is_packet of packet p.is_packet)
    (fields-within of direction h)) name among

-- the application's port, with a message and without
pub port-same : (direction : Direction) (packet : List ℕ) (headers : SplitData)
    (more : List FieldValue) → split_of stack.IpUdp direction packet ≡ Some headers
    → value_of (headers.fields ++ more) (at_name UdpAppPort) ≡ value_of headers.fields
    (at_name UdpAppPort)
port-same direction packet headers more e =
    let p = split-fields stack.IpUdp direction packet headers tt e in
    value-front headers.fields more (field_in direction packet UdpAppPort)
    (field-named stack.IpUdp direction packet headers.fields headers.payload_from UdpAppPort p
    (11, omega arith, refl))

-- the widths of the key fields
pub next-header-width : (direction : Direction) (packet : List ℕ) (s : SplitData)
    → split_of stack.Ip direction packet ≡ Some s
    → length (value_of s.fields (at_name IpNextHeader)) ≤ 16
next-header-width direction packet s e =
    let w : length (value_of s.fields (at_name IpNextHeader)) ≡ 8 =
    value-width stack.Ip direction packet s.fields s.payload_from IpNextHeader
    (split-fields stack.Ip direction packet s tt e) (4, omega arith, refl) in
    omega (arith, w)

-- the application's port of a packet with UDP has at most 16 bits
pub port-width : (direction : Direction) (packet : List ℕ) (s : SplitData)
    → split_of stack.IpUdp direction packet ≡ Some s
    → length (value_of s.fields (at_name UdpAppPort)) ≤ 16
port-width direction packet s e =
    let w : length (value_of s.fields (at_name UdpAppPort)) ≡ 16 =
    value-width stack.IpUdp direction packet s.fields s.payload_from UdpAppPort
    (split-fields stack.IpUdp direction packet s tt e) (11, omega arith, refl) in
    omega (arith, w)

-- added, or not
pub where-none : (is : Bool) (s : SplitData) (o : Option SplitData) → is ≡ false
    → where_split is s ≡ o → o ≡ None
where-none true s o e w = absurd (cc)
where-none false s o e w = sym w

-- where the fields were added, what they were added to is the packet's split
pub where-some : (is : Bool) (s : SplitData) (o : Option SplitData) → is ≡ true
    → where_split is s ≡ o → o ≡ Some s
where-some true s o e w = sym w
where-some false s o e w = absurd (cc)

-- where it isn't a packet of IPv6, it isn't one of UDP
some_fault : {X : Type 0} (o : Option SplitFault) (x : X)
    → (if is_none o then Some x else None) ≡ None → (fault : SplitFault) × (o ≡ Some fault)
some_fault None x e = absurd (cc)
some_fault (Some fault) x e = (fault, refl)

-- a packet that isn't split as one of IPv6 isn't split as one of UDP
pub no-udp : (direction : Direction) (packet : List ℕ) → split_of stack.Ip direction packet ≡ None
    → split_of stack.IpUdp direction packet ≡ None
unfolding split_of refusal
no-udp direction packet e =
    let fault =
    some_fault (refusal stack.Ip packet)
    (as_split (fields_in stack.Ip direction packet) (header_size stack.Ip)) e in
    refused-split_of stack.IpUdp direction packet fault.0 tt
    (first_held-append_some (ip_refusals packet) (udp_refusals packet) fault.0 fault.1)

within : (size : ℕ) (front : List FieldValue) (read : Result Message ℕ) (split : SplitData)
    → behind front (message_split size read) ≡ Ok split → split.payload_from ≤ size
within size front (Err stop) split e = absurd (cc)
within size front (Ok m) split e =
    let its : SplitData =
    record { fields = front ++ fields_of_message m; payload_from = size - length m.payload } in
    let same : its ≡ split = cc in
    omega (arith, ap (λ (s : SplitData). s.payload_from) same)

-- the payload of a message begins within it
pub behind-within : (front : List FieldValue) (bytes : List ℕ) (split : SplitData)
    → behind front (message_in bytes) ≡ Ok split → split.payload_from ≤ length bytes
unfolding message_in
behind-within front bytes split e = within (length bytes) front (read_message bytes) split e
