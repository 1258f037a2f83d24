-- Bits of a packet, and the bytes that they stand in.
use Rattle.std.specs.Prelude.{ℕ, ◌≡◌, ◌+◌, ◌-◌, ◌*◌, ◌/◌, ◌<◌, ◌≤◌, suc, List, [], ◌∷◌, ◌++◌}
use Rattle.std.specs.Prelude.{length, get_or, take, drop}
use Rattle.std.proofs.Common.{arith}
use Rattle.std.proofs.lemmas.List.{append-nil, drop-take, take-append-le, take-take}
use Rattle.std.proofs.Math.Seq.{drop-cons}
use Rattle.schc_bits.specs.Bits.{number_bits, bits_value, octets}
use Rattle.schc_bits.proofs.NumberBits.{length-number_bits, bits_value-number_bits}
use Rattle.schc_bits.proofs.NumberBits.{bits_value-append, take-number_bits}
use Rattle.schc_bits.proofs.Octets.{take-octets, drop-octets}
use Rattle.ip_udp_fields.specs.Layout.{piece, number_in}

-- a piece of whole bytes
pub piece-bytes : (place count : ℕ) (packet : List ℕ)
    → piece (8 * place) (8 * count) packet ≡ octets (take count (drop place packet))
unfolding piece
piece-bytes place count packet =
    rw (drop-octets place packet, take-octets count (drop place packet))

one_number : (byte : ℕ) → byte < 256 → bits_value (octets (byte ∷ [])) ≡ byte
one_number byte h = rw (append-nil (number_bits 8 byte)) (bits_value-number_bits 8 byte h)

two_number : (high low : ℕ) → high < 256 → low < 256
    → bits_value (octets (high ∷ low ∷ [])) ≡ high * 256 + low
two_number high low h l =
    rw (
      append-nil (number_bits 8 low),
      bits_value-append (number_bits 8 high) (number_bits 8 low),
      length-number_bits 8 low,
      bits_value-number_bits 8 high h,
      bits_value-number_bits 8 low l,
    )

take_one : (place : ℕ) (packet : List ℕ) → place < length packet
    → take 1 (drop place packet) ≡ get_or packet place 0 ∷ []
take_one place packet h = rw (drop-cons packet place 0 h)

take_two : (place : ℕ) (packet : List ℕ) → place + 2 ≤ length packet
    → take 2 (drop place packet) ≡ get_or packet place 0 ∷ get_or packet (place + 1) 0 ∷ []
take_two place packet h =
    let e : suc place ≡ place + 1 = omega arith in
    rw (drop-cons packet place 0 (omega arith), drop-cons packet (suc place) 0 (omega arith), e)

-- the number in a byte
pub number_in-byte : (place : ℕ) (packet : List ℕ) → place < length packet
    → get_or packet place 0 < 256 → number_in (8 * place) 8 packet ≡ get_or packet place 0
unfolding number_in
number_in-byte place packet h b =
    let e : piece (8 * place) (8 * 1) packet ≡ octets (take 1 (drop place packet)) =
    piece-bytes place 1 packet in
    rw (e, take_one place packet h) (one_number (get_or packet place 0) b)

-- the number in two bytes
pub number_in-two_bytes : (place : ℕ) (packet : List ℕ) → place + 2 ≤ length packet
    → get_or packet place 0 < 256 → get_or packet (place + 1) 0 < 256
    → number_in (8 * place) 16 packet ≡ get_or packet place 0 * 256 + get_or packet (place + 1) 0
unfolding number_in
number_in-two_bytes place packet h b c =
    let e : piece (8 * place) (8 * 2) packet ≡ octets (take 2 (drop place packet)) =
    piece-bytes place 2 packet in
    rw (e, take_two place packet h)
    (two_number (get_or packet place 0) (get_or packet (place + 1) 0) b c)

-- the number in the high half of the first byte
pub number_in-first_half : (packet : List ℕ) → 0 < length packet → get_or packet 0 0 < 256
    → number_in 0 4 packet ≡ get_or packet 0 0 / 16
unfolding number_in piece
number_in-first_half (byte ∷ packet) h b =
    let front : take 4 (number_bits 8 byte ++ octets packet) ≡ take 4 (number_bits 8 byte) =
    take-append-le 4 (number_bits 8 byte) (octets packet) (omega (arith, length-number_bits 8 byte))
    in
    let high : take 4 (number_bits 8 byte) ≡ number_bits 4 (byte / 16) =
    take-number_bits 4 4 byte in
    rw (front, high) (bits_value-number_bits 4 (byte / 16) (omega arith))
number_in-first_half [] h b = absurd (omega arith)

-- a piece of the header is that piece of the packet
pub piece-of_header : (place width size : ℕ) (packet : List ℕ) → place + width ≤ 8 * size
    → take width (drop place (octets (take size packet))) ≡ piece place width packet
unfolding piece
piece-of_header place width size packet h =
    let rest : ℕ = 8 * size - place - width in
    let parts : 8 * size ≡ place + (width + rest) = omega arith in
    rw (← take-octets size packet, parts, drop-take place (width + rest) (octets packet))
    (take-take width (width + rest) (drop place (octets packet)) (omega arith))
