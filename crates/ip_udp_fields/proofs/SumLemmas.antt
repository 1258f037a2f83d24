-- Sums of 16-bit words.
use Rattle.std.specs.Prelude.{ℕ, ◌≡◌, ◌+◌, ◌-◌, ◌*◌, ◌%◌, ◌^◌, ◌<◌, ◌≤◌, List, [], ◌∷◌, ◌++◌}
use Rattle.std.specs.Prelude.{length, take, drop, sum}
use Rattle.std.proofs.Common.{arith, ap, refl, sym, ◌∙◌}
use Rattle.std.proofs.lemmas.List.{length-append, length-take, length-take-le, length-drop}
use Rattle.std.proofs.lemmas.List.Sums.{sum_by-append}
use Rattle.std.proofs.Math.Nat.{pow-le-pow_right}
use Rattle.schc_bits.specs.Bits.{octets}
use Rattle.schc_bits.proofs.NumberBits.{bits_value-below}
use Rattle.ip_udp_fields.specs.Layout.{piece, number_in}
use Rattle.ip_udp_fields.specs.Fields.{IsUdp}
use Rattle.ip_udp_fields.specs.Checksum.{words, four_bytes, pseudo_header, datagram, ones_sum}
use Rattle.ip_udp_fields.specs.Checksum.{sent_checksum, checksum_of}

-- an even number of bytes, then others
pub words-append : (front back : List ℕ) → length front % 2 ≡ 0
    → words (front ++ back) ≡ words front ++ words back
words-append [] back h = refl
words-append (byte ∷ []) back h = absurd (omega arith)
words-append (high ∷ low ∷ front) back h =
    ap (λ (ws : List ℕ). (high * 256 + low) ∷ ws) (words-append front back (omega arith))

sum-append : (front back : List ℕ) → sum (front ++ back) ≡ sum front + sum back
sum-append front back = sum_by-append (λ (n : ℕ). n) front back

pub sum_words-append : (front back : List ℕ) → length front % 2 ≡ 0
    → sum (words (front ++ back)) ≡ sum (words front) + sum (words back)
sum_words-append front back h = ap sum (words-append front back h)
    ∙ sum-append (words front) (words back)

-- a length below 2^16 adds itself
sum_words-four_bytes : (number : ℕ) → number < 2 ^ 16 → sum (words (four_bytes number)) ≡ number
sum_words-four_bytes number h = omega arith

-- the number of a piece fits its width
pub number_in-below : (place width : ℕ) (packet : List ℕ) → number_in place width packet < 2 ^ width
unfolding number_in piece
number_in-below place width packet =
    let most : length (take width (drop place (octets packet))) ≤ width =
    omega (arith, length-take width (drop place (octets packet))) in
    let top : 2 ^ length (take width (drop place (octets packet))) ≤ 2 ^ width =
    pow-le-pow_right (omega arith) most in
    omega (arith, bits_value-below (take width (drop place (octets packet))))

-- a packet with UDP has fewer than 2^16 bytes after its IPv6 header
pub length-below : (packet : List ℕ) → IsUdp packet → length packet < 2 ^ 16 + 40
length-below packet p = omega (arith, number_in-below 352 16 packet, p.udp_length)

-- the sum over all words, part by part
pub sum_words-packet : (packet : List ℕ) → IsUdp packet
    → sum (words (pseudo_header packet ++ datagram packet)) ≡ sum
    (words (take 32 (drop 8 packet))) + (length packet - 40) + 17 + sum
    (words (take 6 (drop 40 packet))) + sum (words (drop 48 packet))
sum_words-packet packet p =
    let long : 48 ≤ length packet = p.header in
    let addresses : length (take 32 (drop 8 packet)) ≡ 32 =
    length-take-le 32 (drop 8 packet) (omega (arith, length-drop 8 packet)) in
    let header : length (take 6 (drop 40 packet)) ≡ 6 =
    length-take-le 6 (drop 40 packet) (omega (arith, length-drop 40 packet)) in
    let pseudo_even : length (pseudo_header packet) % 2 ≡ 0 =
    rw (
      length-append (take 32 (drop 8 packet))
          (four_bytes (length packet - 40) ++ (0 ∷ 0 ∷ 0 ∷ 17 ∷ [])),
      addresses,
    )
    in
    let addresses_even : length (take 32 (drop 8 packet)) % 2 ≡ 0 = rw addresses in
    let header_even : length (take 6 (drop 40 packet)) % 2 ≡ 0 = rw header in
    let below : length packet < 2 ^ 16 + 40 = length-below packet p in
    let number : sum (words (four_bytes (length packet - 40))) ≡ length packet - 40 =
    sum_words-four_bytes (length packet - 40) (omega arith) in
    rw (
      sum_words-append (pseudo_header packet) (datagram packet) pseudo_even,
      sum_words-append (take 32 (drop 8 packet))
          (four_bytes (length packet - 40) ++ (0 ∷ 0 ∷ 0 ∷ 17 ∷ [])) addresses_even,
      sum_words-append (four_bytes (length packet - 40)) (0 ∷ 0 ∷ 0 ∷ 17 ∷ []) refl,
      sum_words-append (take 6 (drop 40 packet)) (0 ∷ 0 ∷ drop 48 packet) header_even,
      number,
    )
    (omega arith)

-- the checksum of the sums of its parts
pub checksum-from_sums : (packet rest : List ℕ) (addresses header body : ℕ) → IsUdp packet
    → addresses ≡ sum (words (take 32 (drop 8 packet)))
    → header ≡ sum (words (take 6 (drop 40 packet))) → body ≡ sum (words rest)
    → rest ≡ drop 48 packet
    → sent_checksum
    (2 ^ 16 - 1 - ones_sum (addresses + (length packet - 40) + 17 + header + body)) ≡ checksum_of
    packet
unfolding checksum_of
checksum-from_sums packet rest addresses header body p a h d r =
    let total : addresses + (length packet - 40) + 17 + header + body ≡ sum
    (words (pseudo_header packet ++ datagram packet)) =
    rw (a, h, d, r) (sym (sum_words-packet packet p))
    in
    ap (λ (n : ℕ). sent_checksum (2 ^ 16 - 1 - ones_sum n)) total
