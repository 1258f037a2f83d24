-- The tiles of a packet, one after the other.
use Rattle.std.specs.Prelude.{ℕ, ◌≡◌, ◌+◌, ◌-◌, ◌%◌, ◌<◌, ◌≤◌, ◌^◌, zero, suc, Bool, false, List}
use Rattle.std.specs.Prelude.{[], ◌∷◌, ◌++◌, length, take, get_or}
use Rattle.std.proofs.Common.{arith, refl, sym, ap, subst, ◌∙◌}
use Rattle.std.proofs.lemmas.List.{append_assoc, append-nil, length-append, length-replicate}
use Rattle.schc_bits.specs.Bits.{padded, bytes_of}
use Rattle.schc_bits.proofs.Octets.{AreBytes-bytes_of}
use Rattle.schc_ids.specs.Fragments.{params_of, IsFragParams}
use Rattle.schc_ids.specs.Limits.{IsMtu, max_session_bits}
use Rattle.schc_ids.specs.declared.fragments.FragMode.{FragMode}
use Rattle.schc_ids.specs.declared.fragments.FragMode.TheVariants as mode
use Rattle.schc_ids.specs.declared.fragments.FragParams.{FragParams}
use Rattle.rcs.specs.Division.{rcs_of}
use Rattle.rcs.proofs.Steps.{check_of-bytes}
use Rattle.reassembly.specs.Joining.{reassembly_bits}
use Rattle.tiles_bitmap.specs.Laws.{joined}
use Rattle.tiles_bitmap.specs.Padding.{padded_packet, fill, all1_head, last_of}
use Rattle.tiles_bitmap.specs.Tiles.{tiles}
use Rattle.tiles_bitmap.proofs.TilesLemmas.{tiles-join}

-- an RCS has at most 32 bits
pub rcs-below : (bits : List Bool) → rcs_of bits < 2 ^ 32
unfolding rcs_of
rcs-below bits = let e =
    check_of-bytes (bytes_of (padded bits)) (AreBytes-bytes_of (padded bits)) in omega arith

-- parameters that some mode has are those of the mode that they name
pub params-are : (m : FragMode) (params : FragParams) → params ≡ params_of m → IsFragParams params
params-are mode.NoAck params row = subst IsFragParams (sym row) refl
params-are mode.AckAlways params row = subst IsFragParams (sym row) refl
params-are mode.AckOnError params row = subst IsFragParams (sym row) refl

-- one more tile
pub joined-next : (parts : List (List Bool)) (i : ℕ)
    → joined (take (suc i) parts) ≡ joined (take i parts) ++ get_or parts i []
joined-next [] zero = refl
joined-next [] (suc i) = refl
joined-next (part ∷ parts) zero = append-nil part
joined-next (part ∷ parts) (suc i) =
    ap (λ (list : List Bool). part ++ list) (joined-next parts i)
    ∙ sym (append_assoc part (joined (take i parts)) (get_or parts i []))

-- a front is no longer than the whole
pub joined-front : (parts : List (List Bool)) (i : ℕ)
    → length (joined (take i parts)) ≤ length (joined parts)
joined-front [] zero = omega arith
joined-front [] (suc i) = omega arith
joined-front (part ∷ parts) zero = omega arith
joined-front (part ∷ parts) (suc i) =
    let rest = joined-front parts i in
    let a = length-append part (joined (take i parts)) in
    let b = length-append part (joined parts) in
    omega (arith, rest, a, b)

-- so there is room for it
pub packet-bound : (params : FragParams) (mtu : ℕ) (bits : List Bool) (i : ℕ) → IsMtu mtu
    → length bits ≤ max_session_bits
    → length (joined (take (suc i) (tiles params mtu bits))) ≤ reassembly_bits
packet-bound params mtu bits i range most =
    let front = joined-front (tiles params mtu bits) (suc i) in
    let whole = ap length (tiles-join params mtu bits range) in
    omega (arith, front, whole, most)

-- and for the whole packet with its padding
fill-few : (count : ℕ) → length (fill count) ≤ 7
unfolding fill
fill-few count = omega (arith, length-replicate ((8 - count % 8) % 8) false)

-- a receiver has room for a packet that is not too long for a session, with its padding
pub padded-bound : (params : FragParams) (mtu : ℕ) (bits : List Bool)
    → length bits ≤ max_session_bits → length (padded_packet params mtu bits) ≤ reassembly_bits
unfolding padded_packet
padded-bound params mtu bits most =
    let count : ℕ = all1_head params + length (last_of (tiles params mtu bits)) in
    omega (arith, length-append bits (fill count), fill-few count, most)
