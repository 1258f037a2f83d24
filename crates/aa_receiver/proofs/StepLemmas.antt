-- Where the payload of a message stands, and what a receiver gives.
use Rattle.std.specs.Prelude.{ℕ, ◌≡◌, ◌+◌, ◌*◌, ◌<◌, ◌≤◌, Bool, true, List, ◌++◌, length, drop}
use Rattle.std.proofs.Common.{arith}
use Rattle.std.proofs.lemmas.List.{length-append, length-drop}
use Rattle.std.proofs.lemmas.Bool.{leb-true}
use Rattle.schc_bits.specs.Bits.{octets}
use Rattle.reassembly.specs.Joining.{reassembly_bits, has_room}
use Rattle.schc_bits.proofs.Octets.{length-octets}

-- a part that begins before the end of the bytes has bits
pub part-some : (bytes : List ℕ) (from : ℕ) → from < 8 * length bytes
    → 1 ≤ length (drop from (octets bytes))
part-some bytes from h = omega (arith, length-drop from (octets bytes), length-octets bytes, h)

-- one tile more, and its bits
pub count_more : (kept : List Bool) (bytes : List ℕ) (count from : ℕ) → count ≤ length kept
    → from < 8 * length bytes → count + 1 ≤ length (kept ++ drop from (octets bytes))
count_more kept bytes count from h k =
    let some = part-some bytes from k in
    omega (arith, length-append kept (drop from (octets bytes)), some, h)

-- there was room for it
pub room_more : (kept : List Bool) (bytes : List ℕ) (from : ℕ)
    → has_room kept (drop from (octets bytes)) ≡ true
    → length (kept ++ drop from (octets bytes)) ≤ reassembly_bits
unfolding has_room
room_more kept bytes from e =
    let fits = leb-true (length kept + length (drop from (octets bytes))) reassembly_bits e in
    omega (arith, length-append kept (drop from (octets bytes)), fits)
