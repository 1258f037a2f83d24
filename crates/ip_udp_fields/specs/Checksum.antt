-- The UDP checksum: RFC 768, over the pseudo-header of RFC 8200, section 8.1.
use Rattle.std.specs.Prelude.{ℕ, ◌+◌, ◌-◌, ◌*◌, ◌/◌, ◌%◌, ◌^◌, ◌==◌, if◌then◌else◌, List, [], ◌∷◌}
use Rattle.std.specs.Prelude.{◌++◌, length, take, drop, sum}

-- bytes as 16-bit words, the more significant byte first; an odd last byte is padded with a zero
-- byte
abbrev pub words : List ℕ → List ℕ
words [] = []
words (last ∷ []) = last * 256 ∷ []
words (high ∷ low ∷ bytes) = (high * 256 + low) ∷ words bytes

-- the ones' complement sum of 16-bit words whose sum is `total`: that modulo 2^16 - 1, where only a
-- sum of nothing but zeros is written as 0, and another multiple of 2^16 - 1 as 2^16 - 1
abbrev pub ones_sum : ℕ → ℕ
ones_sum total = if total == 0 then 0 else (total - 1) % (2 ^ 16 - 1) + 1

-- a number in 32 bits, as four bytes, the most significant first
abbrev pub four_bytes : ℕ → List ℕ
four_bytes number =
    number / 2 ^ 24 % 256 ∷ number / 2 ^ 16 % 256 ∷ number / 2 ^ 8 % 256 ∷ number % 256 ∷ []

-- the source address, the destination address, the length of the UDP header and data in 32 bits, 24
-- zero bits, and the next header, 17 (RFC 8200, section 8.1)
abbrev pub pseudo_header : List ℕ → List ℕ
pseudo_header packet =
    take 32 (drop 8 packet) ++ (four_bytes (length packet - 40) ++ (0 ∷ 0 ∷ 0 ∷ 17 ∷ []))

-- the UDP header with a checksum of zero, and the data
abbrev pub datagram : List ℕ → List ℕ
datagram packet = take 6 (drop 40 packet) ++ (0 ∷ 0 ∷ drop 48 packet)

-- a checksum of zero is sent as all ones (RFC 768, and RFC 8200, section 8.1)
abbrev pub sent_checksum : ℕ → ℕ
sent_checksum computed = if computed == 0 then 2 ^ 16 - 1 else computed

-- the ones' complement of the ones' complement sum of the pseudo-header, the UDP header and the
-- data
unfoldable pub checksum_of : List ℕ → ℕ
checksum_of packet =
    sent_checksum (2 ^ 16 - 1 - ones_sum (sum (words (pseudo_header packet ++ datagram packet))))
