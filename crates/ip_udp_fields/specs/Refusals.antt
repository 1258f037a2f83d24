-- Why a packet isn't one of a stack.
use Rattle.std.specs.Prelude.{ℕ, ◌-◌, ◌==◌, Bool, not, List, [], ◌∷◌, ◌++◌, length, nat_lt, Option}
use Rattle.schc_ids.specs.declared.names.Stack.{Stack}
use Rattle.schc_ids.specs.declared.names.Stack.TheVariants as stack
use Rattle.rule_model.specs.declared.parts.SplitFault.{SplitFault}
use Rattle.rule_model.specs.declared.parts.SplitFault.TheVariants.{Short, NotIpv6, LengthWrong}
use Rattle.rule_model.specs.declared.parts.SplitFault.TheVariants.{NotUdp}
use Rattle.ip_udp_fields.specs.Layout.{number_in}
use Rattle.rule_model.specs.First.{first_held}

-- in their order, the conditions under which a packet isn't one of IPv6 (RFC 8200, section 3)
abbrev pub ip_refusals : List ℕ → List (Bool × SplitFault)
ip_refusals packet =
    (nat_lt (length packet) 40, Short)
    ∷ (not (number_in 0 4 packet == 6), NotIpv6)
    ∷ (not (number_in 32 16 packet == length packet - 40), LengthWrong)
    ∷ []

-- and then those under which an IPv6 packet isn't one of UDP (RFC 768)
abbrev pub udp_refusals : List ℕ → List (Bool × SplitFault)
udp_refusals packet =
    (not (number_in 48 8 packet == 17), NotUdp)
    ∷ (nat_lt (length packet) 48, Short)
    ∷ (not (number_in 352 16 packet == length packet - 40), LengthWrong)
    ∷ []

abbrev pub refusals : Stack → List ℕ → List (Bool × SplitFault)
refusals stack.Ip packet = ip_refusals packet
refusals _ packet = ip_refusals packet ++ udp_refusals packet

-- the first condition that holds; none where the packet is one of the stack
unfoldable pub refusal : Stack → List ℕ → Option SplitFault
refusal stack packet = first_held (refusals stack packet)
