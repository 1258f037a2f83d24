-- Stacks without CoAP: nothing but the payload follows the headers.
use Rattle.std.specs.Prelude.{ℕ, ◌≡◌, ◌⊎◌, List, [], ◌++◌, length, map}
use Rattle.std.proofs.Common.{ap, refl, sym, ◌∙◌, subst, inl, inr}
use Rattle.schc_ids.specs.declared.ends.Direction.{Direction}
use Rattle.schc_ids.specs.declared.names.Stack.{Stack}
use Rattle.schc_ids.specs.declared.names.Stack.TheVariants as stack
use Rattle.rule_model.specs.declared.value.FieldValue.{FieldValue}
use Rattle.rule_model.specs.Data.{RuleData}
use Rattle.rule_model.specs.Cover.{covered, stack_of}
use Rattle.ip_udp_fields.specs.Layout.{IsWithoutCoap}
use Rattle.ip_udp_fields.specs.Join.{value_refusals}
use Rattle.packer.specs.Unpacking.{body_of, fixed_headers, filled_headers, operator_fault}
use Rattle.packer.specs.Unpacking.{checksummed, headers_and_payload, packet_around, packet_of}
use Rattle.packer.specs.Rebuilding.{message_tests, header_tests}

-- a stack that is IPv6 alone, or with UDP, is without CoAP
pub without-of : (it of : Stack) → it ≡ of → (it ≡ stack.Ip) ⊎ (it ≡ stack.IpUdp) → IsWithoutCoap of
without-of it of e (inl h) = subst IsWithoutCoap (sym h ∙ e) tt
without-of it of e (inr h) = subst IsWithoutCoap (sym h ∙ e) tt

-- without CoAP, the payload alone follows the headers at fixed places
pub body-plain : (of : Stack) (fields : List FieldValue) (payload : List ℕ) → IsWithoutCoap of
    → body_of of fields payload ≡ payload
body-plain stack.Ip fields payload h = refl
body-plain stack.IpUdp fields payload h = refl
body-plain stack.IpUdpCoap fields payload h = absurd h

-- without CoAP, there is no message to be tested
pub faults-plain : (of : Stack) (fields : List FieldValue) → IsWithoutCoap of
    → message_tests of fields ≡ []
faults-plain stack.Ip fields h = refl
faults-plain stack.IpUdp fields h = refl
faults-plain stack.IpUdpCoap fields h = absurd h

pub fixed-plain : (of : Stack) → IsWithoutCoap of → fixed_headers of ≡ of
fixed-plain stack.Ip h = refl
fixed-plain stack.IpUdp h = refl
fixed-plain stack.IpUdpCoap h = absurd h

-- the headers that stand at fixed places are those of a stack without CoAP
pub fixed-without : (of : Stack) → IsWithoutCoap (fixed_headers of)
fixed-without stack.Ip = tt
fixed-without stack.IpUdp = tt
fixed-without stack.IpUdpCoap = tt

-- the values of headers in front of a CoAP message have to be what they have to be with UDP alone
pub value_refusals-fixed : (of : Stack) (fields : List FieldValue) (size : ℕ)
    → value_refusals (fixed_headers of) fields size ≡ value_refusals of fields size
value_refusals-fixed stack.Ip fields size = refl
value_refusals-fixed stack.IpUdp fields size = refl
value_refusals-fixed stack.IpUdpCoap fields size = refl

-- without CoAP, the packet is the filled-in headers with the payload, and its checksum made anew
-- where the rule computes it
pub packet_of-plain : (rule : RuleData) (direction : Direction) (fields : List FieldValue)
    (payload : List ℕ) → IsWithoutCoap (stack_of rule)
    → packet_of rule direction fields payload ≡ checksummed rule direction
    (headers_and_payload (stack_of rule) direction
    (filled_headers rule direction fields (length payload)) payload)
unfolding packet_around
packet_of-plain rule direction fields payload h =
    ap (packet_around rule direction fields) (body-plain (stack_of rule) fields payload h)
    ∙ ap (λ of. checksummed rule direction
    (headers_and_payload of direction (filled_headers rule direction fields (length payload))
    payload)) (fixed-plain (stack_of rule) h)
