-- A UDP packet whose datagram holds a CoAP message, or none.
use Rattle.std.specs.Prelude.{ℕ, ◌≡◌, ◌⊎◌, false, List, drop, Option, Some, None, Result, Ok}
use Rattle.std.specs.Option.{option_map}
use Rattle.std.proofs.Common.{ap, refl, sym, ◌∙◌, inl, inr}
use Rattle.schc_ids.specs.declared.ends.Direction.{Direction}
use Rattle.schc_ids.specs.declared.names.Stack.TheVariants as stack
use Rattle.rule_model.specs.declared.parts.SplitFault.{SplitFault}
use Rattle.rule_model.specs.declared.parts.SplitFault.TheVariants.{NotCoap, Memory}
use Rattle.rule_model.specs.declared.value.Computed.{Computed}
use Rattle.rule_model.specs.SplitData.{SplitData}
use Rattle.ip_udp_fields.specs.Fields.{FieldsOf}
use Rattle.ip_udp_fields.specs.Refusals.{refusal}
use Rattle.coap_fields.specs.Reading.{message_in, IsRefusal}
use Rattle.packer.specs.Packets.{split_headers, with_message, split_message, split_of}
use Rattle.packer.specs.Packets.{computed_over}
use Rattle.packer.specs.Splits.{is_memory}
use Rattle.packer.proofs.SplitLemmas.{fields-split_headers}

-- a message that is read
pub message-some : (headers message split : SplitData) (read : Result SplitData ℕ)
    → read ≡ Ok message → with_message headers (Ok message) ≡ Some split
    → Some split ≡ with_message headers read
message-some headers message split read r e = sym e ∙ ap (with_message headers) (sym r)

-- and none
pub message-none : (headers : SplitData) (fault : SplitFault) (read : Result SplitData ℕ)
    → IsRefusal fault read → is_memory fault ≡ false → None ≡ with_message headers read
message-none headers Memory read r other = absurd (cc)
message-none headers (NotCoap place) read r other = ap (with_message headers) (sym r)
message-none headers _ read r other = absurd r

-- a packet with these fields of UDP is split with CoAP as its datagram is read: into them and the
-- fields of the message, or not at all where that is none
pub headers-there : (direction : Direction) (packet : List ℕ) (headers : SplitData)
    → FieldsOf stack.IpUdp direction packet headers.fields headers.payload_from
    → split_of stack.IpUdpCoap direction packet ≡ with_message headers (message_in (drop 48 packet))
unfolding split_of
headers-there direction packet headers p =
    ap (split_message packet)
    (fields-split_headers stack.IpUdp direction packet headers.fields headers.payload_from tt p)
