-- What one end of the link keeps, as contracts see it.
use Rattle.std.specs.Prelude.{ℕ, ◌≡◌, ◌+◌, ◌/◌, ◌<◌, ◌≤◌, Bool, List, ◌++◌, length, drop, nat_le}
use Rattle.std.specs.List.{AllByRecursion}
use Rattle.schc_bits.specs.Bits.{number_bits}
use Rattle.schc_ids.specs.Params.{IsParams}
use Rattle.schc_ids.specs.declared.ends.EndParams.{EndParams}
use Rattle.schc_ids.specs.declared.ends.Role.{Role}
use Rattle.editions.specs.Data.{EditionData}
use Rattle.packer.specs.declared.packing.Packed.{Packed}
use Rattle.sessions.specs.Data.{SessionsData}

-- an end has its role and its parameters, the edition of rules that it knows and reads with, the
-- edition that it writes with, the packets that wait, each as it was written when it was handed
-- down, the first of which is sent next, and what it sends and receives in fragments
pub record EndData : Type 0 where
  pub role : Role
  pub params : EndParams
  pub known : EditionData
  pub writes : EditionData
  pub queue : List Packed
  pub sessions : SessionsData

-- the bits of an SCHC packet after its RuleID, which has 8 bits (RFC 9011, section 5.1)
abbrev pub after_id : List Bool → List Bool
after_id bits = drop 8 bits

-- the bytes of a frame that carries the SCHC packet whole: the RuleID goes by the port (RFC 9011,
-- section 5.1), and the other bits in whole bytes (RFC 8724, section 9)
abbrev pub frame_size : List Bool → ℕ
frame_size bits = (length (after_id bits) + 7) / 8

-- a packet that goes in one frame; what doesn't goes as a session
abbrev pub fits : ℕ → Packed → Bool
fits mtu form = nat_le (frame_size form.bits) mtu

-- the bits that an SCHC packet stays below
abbrev pub form_room : ℕ
form_room = 12160

-- a packet that can wait: its RuleID is a port, its bits begin with the RuleID, and they aren't too
-- many for a session
pub record IsForm (form : Packed) : Type 0 where
  pub is_port : form.rule_id < 256
  pub has_id : 8 ≤ length form.bits
  pub begins : form.bits ≡ number_bits 8 form.rule_id ++ after_id form.bits
  pub is_short : length form.bits < form_room

-- what each end keeps: the sessions are those of its role and with its parameters
pub record IsEnd (role : Role) (params : EndParams) (queue : List Packed)
    (sessions : SessionsData) : Type 0 where
  pub in_range : IsParams params
  pub forms : AllByRecursion IsForm queue
  pub of_role : sessions.role ≡ role
  pub with_params : sessions.params ≡ params
