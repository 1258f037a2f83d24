-- What a receiver keeps of the fragments of a packet, and the check over it.
use Rattle.std.specs.Prelude.{ℕ, ◌+◌, ◌*◌, ◌==◌, Bool, List, ◌++◌, length, nat_le}
use Rattle.schc_ids.specs.Limits.{reassembly_bytes}
use Rattle.rcs.specs.Division.{rcs_of}

-- the most bits that are kept
abbrev pub reassembly_bits : ℕ
reassembly_bits = 8 * reassembly_bytes

-- beside the bits that are kept there is room for this part
unfoldable pub has_room : List Bool → List Bool → Bool
has_room kept part = nat_le (length kept + length part) reassembly_bits

-- RFC 8724, section 8.2.3: the reassembly check sequence of what is kept and of the last part is
-- the one that was sent
unfoldable pub passes : List Bool → List Bool → ℕ → Bool
passes kept part rcs = rcs_of (kept ++ part) == rcs
