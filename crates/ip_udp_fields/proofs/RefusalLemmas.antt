-- The refusals of IPv6 come first.
use Rattle.std.specs.Prelude.{ℕ, ◌≡◌, ◌≤◌, ◌+◌, ◌-◌, ◌==◌, not, false, List, ◌++◌, length, Some}
use Rattle.std.specs.Prelude.{None}
use Rattle.std.proofs.Common.{arith, sym, ◌∙◌}
use Rattle.std.proofs.lemmas.Bool.{eqb-true, ltb-false, not-false}
use Rattle.ip_udp_fields.specs.Layout.{IsWithoutCoap, header_size, number_in}
use Rattle.ip_udp_fields.specs.Fields.{IsIpv6, IsUdp, IsPacketOf}
use Rattle.schc_ids.specs.declared.names.Stack.{Stack}
use Rattle.schc_ids.specs.declared.names.Stack.TheVariants as stack
use Rattle.rule_model.specs.declared.parts.SplitFault.{SplitFault}
use Rattle.rule_model.specs.First.{first_held}
use Rattle.ip_udp_fields.specs.Refusals.{ip_refusals, udp_refusals, refusal}
use Rattle.rule_model.proofs.FirstLemmas.{first_held-append_some, first_held-append_none}
use Rattle.rule_model.proofs.FirstLemmas.{first_held-front, first_held-none}

-- the first condition of IPv6 that holds refuses the packet, whatever the stack
pub refusal-ip : (of : Stack) (packet : List ℕ) (fault : SplitFault)
    → first_held (ip_refusals packet) ≡ Some fault → refusal of packet ≡ Some fault
unfolding refusal
refusal-ip stack.Ip packet fault e = e
refusal-ip stack.IpUdp packet fault e =
    first_held-append_some (ip_refusals packet) (udp_refusals packet) fault e
refusal-ip stack.IpUdpCoap packet fault e =
    first_held-append_some (ip_refusals packet) (udp_refusals packet) fault e

-- where no condition of IPv6 holds, the packet isn't refused as one of IPv6
pub refusal-none_ip : (packet : List ℕ) → first_held (ip_refusals packet) ≡ None
    → refusal stack.Ip packet ≡ None
unfolding refusal
refusal-none_ip packet e = e

-- where no condition of IPv6 holds, those of UDP say whether and why a packet with UDP is refused
pub refusal-udp : (packet : List ℕ) → first_held (ip_refusals packet) ≡ None
    → refusal stack.IpUdp packet ≡ first_held (udp_refusals packet)
unfolding refusal
refusal-udp packet e = first_held-append_none (ip_refusals packet) (udp_refusals packet) e

-- where no condition of IPv6 holds, those of UDP say whether and why a packet with CoAP is refused
pub refusal-coap : (packet : List ℕ) → first_held (ip_refusals packet) ≡ None
    → refusal stack.IpUdpCoap packet ≡ first_held (udp_refusals packet)
unfolding refusal
refusal-coap packet e = first_held-append_none (ip_refusals packet) (udp_refusals packet) e

is_same : (a b : ℕ) → not (a == b) ≡ false → a ≡ b
is_same a b e = eqb-true a b (not-false (a == b) e)

-- the rest of a packet, where its front is there
is_rest : (number front all : ℕ) → front ≤ all → number ≡ all - front → number + front ≡ all
is_rest number front all h e = omega arith

-- where no condition of IPv6 holds, the packet is one
first_held-is_ipv6 : (packet : List ℕ) → first_held (ip_refusals packet) ≡ None → IsIpv6 packet
first_held-is_ipv6 packet e =
    let none = first_held-none (ip_refusals packet) e in
    let long : 40 ≤ length packet = ltb-false (length packet) 40 none.0 in
    record {
      header = long;
      version = is_same (number_in 0 4 packet) 6 none.1.0;
      payload_length =
          is_rest (number_in 32 16 packet) 40 (length packet) long
          (is_same (number_in 32 16 packet) (length packet - 40) none.1.1.0);
    }

first_held-is_udp : (packet : List ℕ)
    → first_held (ip_refusals packet ++ udp_refusals packet) ≡ None → IsUdp packet
first_held-is_udp packet e =
    let front : first_held (ip_refusals packet) ≡ None =
    first_held-front (ip_refusals packet) (udp_refusals packet) e in
    let back : first_held (udp_refusals packet) ≡ None =
    sym (first_held-append_none (ip_refusals packet) (udp_refusals packet) front) ∙ e in
    let none = first_held-none (udp_refusals packet) back in
    let long : 48 ≤ length packet = ltb-false (length packet) 48 none.1.0 in
    record {
      ipv6 = first_held-is_ipv6 packet front;
      next_header = is_same (number_in 48 8 packet) 17 none.0;
      header = long;
      udp_length =
          is_rest (number_in 352 16 packet) 40 (length packet) (omega arith)
          (is_same (number_in 352 16 packet) (length packet - 40) none.1.1.0);
    }

-- where nothing refuses it, the packet is one of the stack
pub refusal-is_packet : (of : Stack) (packet : List ℕ) → IsWithoutCoap of → refusal of packet ≡ None
    → IsPacketOf of packet
unfolding refusal
refusal-is_packet stack.Ip packet h e = first_held-is_ipv6 packet e
refusal-is_packet stack.IpUdp packet h e = first_held-is_udp packet e
refusal-is_packet stack.IpUdpCoap packet h e = absurd h

-- a packet of the stack has all bytes of its headers
pub header_size-is_packet : (of : Stack) (packet : List ℕ) → IsPacketOf of packet
    → header_size of ≤ length packet
header_size-is_packet stack.Ip packet p = p.header
header_size-is_packet stack.IpUdp packet p = p.header
header_size-is_packet stack.IpUdpCoap packet p = absurd p
