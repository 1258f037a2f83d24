-- The fields of a packet are what it is split into.
use Rattle.std.specs.Prelude.{ℕ, ◌≡◌, ◌+◌, if◌then◌else◌, List, ◌++◌, drop, Option, Some, None}
use Rattle.std.specs.Prelude.{is_none, Result, Ok, Err}
use Rattle.std.proofs.Common.{ap, refl, sym, ◌∙◌, subst}
use Rattle.schc_bits.specs.Bits.{AreBytes}
use Rattle.schc_ids.specs.declared.ends.Direction.{Direction}
use Rattle.schc_ids.specs.declared.names.Stack.{Stack}
use Rattle.schc_ids.specs.declared.names.Stack.TheVariants as stack
use Rattle.rule_model.specs.declared.value.FieldValue.{FieldValue}
use Rattle.rule_model.specs.SplitData.{SplitData}
use Rattle.rule_model.specs.declared.parts.SplitFault.{SplitFault}
use Rattle.ip_udp_fields.specs.Layout.{IsWithoutCoap, header_size}
use Rattle.ip_udp_fields.specs.Fields.{FieldsOf, fields_in}
use Rattle.ip_udp_fields.specs.Refusals.{refusal}
use Rattle.ip_udp_fields.proofs.SplitLemmas.{refuses-exactly}
use Rattle.coap_fields.specs.Reading.{message_in}
use Rattle.coap_fields.proofs.OptionLemmas.{drop-bytes}
use Rattle.coap_fields.proofs.SplitLemmas.{message_in-takes, message_in-again}
use Rattle.packer.specs.Packets.{IsCoapPacket, PacketOf, split_headers, with_message, split_message}
use Rattle.packer.specs.Packets.{split_of}

-- a packet that isn't refused, and its split
headers_some : (of : Stack) (direction : Direction) (packet : List ℕ) (s : SplitData)
    (o : Option SplitFault) → IsWithoutCoap of → refusal of packet ≡ o
    → (if is_none o then Some
    (record { fields = fields_in of direction packet; payload_from = header_size of })
    else None) ≡ Some s → FieldsOf of direction packet s.fields s.payload_from
headers_some of direction packet s (Some fault) h r e = absurd (cc)
headers_some of direction packet s None h r e =
    let same : record {
      fields = fields_in of direction packet;
      payload_from =
          header_size of;
    } ≡ s = cc in
    subst (λ s. FieldsOf of direction packet s.fields s.payload_from) same
    (record {
      is_packet = (refuses-exactly of packet h).0 r;
      its_fields = refl;
      its_payload =
          refl;
    })

-- a packet of a stack whose headers stand at fixed places
pub split_headers-fields : (of : Stack) (direction : Direction) (packet : List ℕ) (s : SplitData)
    → IsWithoutCoap of → split_headers of direction packet ≡ Some s
    → FieldsOf of direction packet s.fields s.payload_from
split_headers-fields of direction packet s h e =
    headers_some of direction packet s (refusal of packet) h refl e

-- a packet of a stack without CoAP is split into its fields, with the place of its payload
pub fields-split_headers : (of : Stack) (direction : Direction) (packet : List ℕ)
    (fields : List FieldValue) (from : ℕ) → IsWithoutCoap of
    → FieldsOf of direction packet fields from
    → split_headers of direction packet ≡ Some (record { fields = fields; payload_from = from })
fields-split_headers of direction packet fields from h p =
    let none : refusal of packet ≡ None = (refuses-exactly of packet h).1 p.is_packet in
    rw (none, p.its_fields, p.its_payload) refl

-- a UDP packet and its message
coap_some : (direction : Direction) (packet : List ℕ) (s : SplitData) (headers : SplitData)
    (read : Result SplitData ℕ) → AreBytes packet
    → FieldsOf stack.IpUdp direction packet headers.fields headers.payload_from
    → message_in (drop 48 packet) ≡ read → with_message headers read ≡ Some s
    → IsCoapPacket direction packet s.fields s.payload_from
coap_some direction packet s headers (Err place) bytes p r e = absurd (cc)
coap_some direction packet s headers (Ok message) bytes p r e =
    let same : record {
      fields = headers.fields ++ message.fields;
      payload_from =
          headers.payload_from + message.payload_from;
    } ≡ s = cc in
    subst (λ (s : SplitData). IsCoapPacket direction packet s.fields s.payload_from) same
    (record {
      message_fields = message.fields;
      message_from = message.payload_from;
      is_udp = p.is_packet;
      its_message = message_in-takes (drop 48 packet) message (drop-bytes 48 packet bytes) r;
      its_fields = ap (λ (fields : List FieldValue). fields ++ message.fields) p.its_fields;
      its_payload = ap (λ from. from + message.payload_from) p.its_payload;
    })

coap_split : (direction : Direction) (packet : List ℕ) (s : SplitData) (o : Option SplitData)
    → AreBytes packet → split_headers stack.IpUdp direction packet ≡ o
    → split_message packet o ≡ Some s → IsCoapPacket direction packet s.fields s.payload_from
coap_split direction packet s None bytes h e = absurd (cc)
coap_split direction packet s (Some headers) bytes h e =
    coap_some direction packet s headers (message_in (drop 48 packet)) bytes
    (split_headers-fields stack.IpUdp direction packet headers tt h) refl e

coap_packet : (direction : Direction) (packet : List ℕ) (fields : List FieldValue) (from : ℕ)
    → IsCoapPacket direction packet fields from
    → split_message packet (split_headers stack.IpUdp direction packet) ≡ Some
    (record { fields = fields; payload_from = from })
coap_packet direction packet fields from p =
    let headers : split_headers stack.IpUdp direction packet ≡ Some
    (record { fields = fields_in stack.IpUdp direction packet; payload_from = 48 }) =
    fields-split_headers stack.IpUdp direction packet (fields_in stack.IpUdp direction packet) 48 tt
    (record { is_packet = p.is_udp; its_fields = refl; its_payload = refl })
    in
    let message : message_in (drop 48 packet) ≡ Ok
    (record { fields = p.message_fields; payload_from = p.message_from }) =
    message_in-again (drop 48 packet)
    (record { fields = p.message_fields; payload_from = p.message_from }) p.its_message
    in
    ap (split_message packet) headers
    ∙ ap (with_message
    (record { fields = fields_in stack.IpUdp direction packet; payload_from = 48 })) message
    ∙ ap (λ (all : List FieldValue). Some
    (record { fields = all; payload_from = 48 + p.message_from })) (sym p.its_fields)
    ∙ ap (λ (n : ℕ). Some (record { fields = fields; payload_from = n })) (sym p.its_payload)

-- what a packet is split into are its fields and the place of its payload
pub split_of-packet : (of : Stack) (direction : Direction) (packet : List ℕ) (s : SplitData)
    → AreBytes packet → split_of of direction packet ≡ Some s
    → PacketOf of direction packet s.fields s.payload_from
unfolding split_of
split_of-packet stack.Ip direction packet s bytes e =
    split_headers-fields stack.Ip direction packet s tt e
split_of-packet stack.IpUdp direction packet s bytes e =
    split_headers-fields stack.IpUdp direction packet s tt e
split_of-packet stack.IpUdpCoap direction packet s bytes e =
    coap_split direction packet s (split_headers stack.IpUdp direction packet) bytes refl e

-- and a packet of the stack is split into them
pub packet-split_of : (of : Stack) (direction : Direction) (packet : List ℕ)
    (fields : List FieldValue) (from : ℕ) → PacketOf of direction packet fields from
    → split_of of direction packet ≡ Some (record { fields = fields; payload_from = from })
unfolding split_of
packet-split_of stack.Ip direction packet fields from p =
    fields-split_headers stack.Ip direction packet fields from tt p
packet-split_of stack.IpUdp direction packet fields from p =
    fields-split_headers stack.IpUdp direction packet fields from tt p
packet-split_of stack.IpUdpCoap direction packet fields from p =
    coap_packet direction packet fields from p

-- so a packet has one split
pub packet-one : (of : Stack) (direction : Direction) (packet : List ℕ) (fields : List FieldValue)
    (from : ℕ) (s : SplitData) → PacketOf of direction packet fields from
    → split_of of direction packet ≡ Some s → (fields ≡ s.fields) × (from ≡ s.payload_from)
packet-one of direction packet fields from s p e =
    let same : Some (record { fields = fields; payload_from = from }) ≡ Some s =
    sym (packet-split_of of direction packet fields from p) ∙ e in
    let parts : record { fields = fields; payload_from = from } ≡ s = cc in
    (ap (λ (s : SplitData). s.fields) parts, ap (λ (s : SplitData). s.payload_from) parts)

-- a packet has one list of fields in a stack, and one place where its payload begins
pub packet-both : (of : Stack) (direction : Direction) (packet : List ℕ) (these : List FieldValue)
    (here : ℕ) (those : List FieldValue) (there : ℕ) → PacketOf of direction packet these here
    → PacketOf of direction packet those there → (these ≡ those) × (here ≡ there)
packet-both of direction packet these here those there p q =
    packet-one of direction packet these here (record { fields = those; payload_from = there }) p
    (packet-split_of of direction packet those there q)
