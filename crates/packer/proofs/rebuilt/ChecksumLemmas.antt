-- The checksum made anew.
use Rattle.std.specs.Prelude.{ℕ, ◌≡◌, ◌+◌, ◌/◌, ◌%◌, ◌<◌, ◌≤◌, zero, suc, Bool, if◌then◌else◌, List}
use Rattle.std.specs.Prelude.{[], ◌∷◌, ◌++◌, length, take, drop, slice_set}
use Rattle.std.proofs.Common.{arith, ap, refl, sym, ◌∙◌}
use Rattle.std.proofs.lemmas.List.{append_assoc, append-nil, length-append, length-take-le}
use Rattle.std.proofs.lemmas.List.{length-drop, take_at, drop_at}
use Rattle.std.proofs.lemmas.List.{drop-take, take-take, set_split, take_more_set, drop-set-lt}
use Rattle.std.proofs.lemmas.List.{length-set}
use Rattle.schc_bits.specs.Bits.{number_bits, octets, padded, bytes_of, AreBytes}
use Rattle.schc_bits.proofs.NumberBits.{length-number_bits, number_bits-mod, number_bits-two_bytes}
use Rattle.schc_bits.proofs.Octets.{octets-append, take-octets, octets-bytes_of-padded}
use Rattle.schc_bits.proofs.Octets.{padded-whole, octets-injective}
use Rattle.schc_ids.specs.declared.ends.Direction.{Direction}
use Rattle.schc_ids.specs.declared.ends.Direction.TheVariants.{Up, Down}
use Rattle.schc_ids.specs.declared.names.FieldName.{FieldName}
use Rattle.schc_ids.specs.declared.names.FieldName.TheVariants.{UdpDevPort, UdpAppPort, UdpLength}
use Rattle.schc_ids.specs.declared.names.FieldName.TheVariants.{UdpChecksum}
use Rattle.schc_ids.specs.declared.names.Stack.TheVariants as stack
use Rattle.schc_ids.specs.Names.{same_name, ip_fields, fields_of_stack}
use Rattle.rule_model.specs.declared.value.FieldValue.{FieldValue}
use Rattle.ip_udp_fields.specs.Layout.{mirrored, bits_of}
use Rattle.ip_udp_fields.specs.Checksum.{checksum_of}
use Rattle.ip_udp_fields.specs.Join.{value_of, values_in, header_bits}
use Rattle.ip_udp_fields.proofs.SpanLemmas.{span-headers, HaveWidths, length-values_in, mirror}
use Rattle.packer.specs.Unpacking.{two_bytes, with_checksum, headers_and_payload}
use Rattle.packer.proofs.rebuilt.JoinedLemmas.{listed, AreWide, AreBytes-joined}

-- the same values, but for the checksum
abbrev pub summed : ℕ → (FieldName → List Bool) → FieldName → List Bool
summed checksum values name =
    if same_name name UdpChecksum then number_bits 16 checksum else values name

-- the fields before the checksum
abbrev pub front_names : List FieldName
front_names = ip_fields ++ UdpDevPort ∷ UdpAppPort ∷ UdpLength ∷ []

values_in-append : (direction : Direction) (fields : List FieldValue) (front back : List FieldName)
    → values_in direction fields (front ++ back) ≡ values_in direction fields front ++ values_in
    direction fields back
values_in-append direction fields [] back = refl
values_in-append direction fields (name ∷ front) back =
    ap (λ (bits : List Bool). value_of fields (mirrored direction name) ++ bits)
    (values_in-append direction fields front back)
    ∙ sym (append_assoc (value_of fields (mirrored direction name))
    (values_in direction fields front) (values_in direction fields back))

-- the checksum stands last
last_value : (direction : Direction) (values : FieldName → List Bool)
    → values_in direction (listed stack.IpUdp direction values) (UdpChecksum ∷ []) ≡ values
    UdpChecksum
last_value Up values = append-nil (values UdpChecksum)
last_value Down values = append-nil (values UdpChecksum)

pub values-split : (direction : Direction) (values : FieldName → List Bool)
    → values_in direction (listed stack.IpUdp direction values)
    (fields_of_stack stack.IpUdp) ≡ values_in direction (listed stack.IpUdp direction values)
    front_names ++ values UdpChecksum
values-split direction values =
    values_in-append direction (listed stack.IpUdp direction values) front_names (UdpChecksum ∷ [])
    ∙ ap (λ (bits : List Bool). values_in direction (listed stack.IpUdp direction values)
    front_names ++ bits) (last_value direction values)

-- another checksum leaves the bits of the fields in front of it as they are
pub front-same : (direction : Direction) (checksum : ℕ) (values : FieldName → List Bool)
    → values_in direction (listed stack.IpUdp direction (summed checksum values))
    front_names ≡ values_in direction (listed stack.IpUdp direction values) front_names
front-same Up checksum values = refl
front-same Down checksum values = refl

listed_widths : (direction : Direction) (values : FieldName → List Bool)
    → AreWide stack.IpUdp values
    → HaveWidths direction (listed stack.IpUdp direction values) (fields_of_stack stack.IpUdp)
listed_widths Up values w =
    mirror (λ n. length (value_of (listed stack.IpUdp Up values) n) ≡ bits_of n) stack.IpUdp Up tt w
listed_widths Down values w =
    mirror (λ n. length (value_of (listed stack.IpUdp Down values) n) ≡ bits_of n) stack.IpUdp Down
    tt w

checksum_width : (values : FieldName → List Bool) → AreWide stack.IpUdp values
    → length (values UdpChecksum) ≡ 16
checksum_width values w = w.1.1.1.1.1.1.1.1.1.1.1.1.1.0

headers_length : (direction : Direction) (values : FieldName → List Bool)
    → AreWide stack.IpUdp values
    → length
    (values_in direction (listed stack.IpUdp direction values) (fields_of_stack stack.IpUdp)) ≡ 384
headers_length direction values w =
    omega (
      arith,
      length-values_in direction (listed stack.IpUdp direction values)
          (fields_of_stack stack.IpUdp) 0 384 (span-headers stack.IpUdp direction tt)
          (listed_widths direction values w),
    )

front_length : (direction : Direction) (values : FieldName → List Bool) → AreWide stack.IpUdp values
    → length (values_in direction (listed stack.IpUdp direction values) front_names) ≡ 368
front_length direction values w =
    let whole : length
    (values_in direction (listed stack.IpUdp direction values) front_names ++ values
    UdpChecksum) ≡ 384 =
    ap (λ (bits : List Bool). length bits) (sym (values-split direction values))
    ∙ headers_length direction values w
    in
    omega (
      arith,
      length-append
          (values_in direction (listed stack.IpUdp direction values) front_names)
          (values UdpChecksum),
      whole,
      checksum_width values w,
    )

-- the bits of the packet
joined_bits : (direction : Direction) (values : FieldName → List Bool) (payload : List ℕ)
    → AreWide stack.IpUdp values
    → octets
    (headers_and_payload stack.IpUdp direction (listed stack.IpUdp direction values)
    payload) ≡ values_in direction (listed stack.IpUdp direction values)
    front_names ++ (values UdpChecksum ++ octets payload)
unfolding headers_and_payload header_bits
joined_bits direction values payload w =
    let bits : List Bool =
    values_in direction (listed stack.IpUdp direction values) (fields_of_stack stack.IpUdp) in
    let whole : length bits % 8 ≡ 0 = omega (arith, headers_length direction values w) in
    octets-append (bytes_of (padded bits)) payload
    ∙ ap (λ (x : List Bool). x ++ octets payload)
    (octets-bytes_of-padded bits ∙ padded-whole bits whole ∙ values-split direction values)
    ∙ append_assoc (values_in direction (listed stack.IpUdp direction values) front_names)
    (values UdpChecksum) (octets payload)

-- the bytes before the checksum
pub front-listed : (direction : Direction) (values : FieldName → List Bool) (payload : List ℕ)
    → AreWide stack.IpUdp values
    → octets
    (take 46
    (headers_and_payload stack.IpUdp direction (listed stack.IpUdp direction values)
    payload)) ≡ values_in direction (listed stack.IpUdp direction values) front_names
front-listed direction values payload w =
    sym (take-octets 46
    (headers_and_payload stack.IpUdp direction (listed stack.IpUdp direction values) payload))
    ∙ ap (λ (bits : List Bool). take 368 bits) (joined_bits direction values payload w)
    ∙ take_at (values_in direction (listed stack.IpUdp direction values) front_names)
    (values UdpChecksum ++ octets payload) 368 (front_length direction values w)

two_bytes_bits : (number : ℕ) → octets (two_bytes number) ≡ number_bits 16 number
two_bytes_bits number =
    ap (λ (bits : List Bool). bits ++ (number_bits 8 (number % 256) ++ []))
    (number_bits-mod 8 (number / 256))
    ∙ sym (number_bits-two_bytes number)

pub AreBytes-append : (front back : List ℕ) → AreBytes front → AreBytes back
    → AreBytes (front ++ back)
AreBytes-append [] back a b = b
AreBytes-append (byte ∷ front) back a b = (a.0, AreBytes-append front back a.1 b)

-- the first so many of bytes are bytes
pub AreBytes-take : (count : ℕ) (bytes : List ℕ) → AreBytes bytes → AreBytes (take count bytes)
AreBytes-take zero bytes a = tt
AreBytes-take (suc count) [] a = tt
AreBytes-take (suc count) (byte ∷ bytes) a = (a.0, AreBytes-take count bytes a.1)

-- and so are those that follow them
pub AreBytes-drop : (count : ℕ) (bytes : List ℕ) → AreBytes bytes → AreBytes (drop count bytes)
AreBytes-drop zero bytes a = a
AreBytes-drop (suc count) [] a = tt
AreBytes-drop (suc count) (byte ∷ bytes) a = AreBytes-drop count bytes a.1

pub AreBytes-with_checksum : (packet : List ℕ) → AreBytes packet → AreBytes (with_checksum packet)
unfolding with_checksum
AreBytes-with_checksum packet a =
    AreBytes-append (take 46 packet) (two_bytes (checksum_of packet) ++ drop 48 packet)
    (AreBytes-take 46 packet a)
    (omega arith, (omega arith, AreBytes-drop 48 packet a))

-- values that have the widths of the fields of UDP have them with another checksum too
pub summed-wide : (checksum : ℕ) (values : FieldName → List Bool) → AreWide stack.IpUdp values
    → AreWide stack.IpUdp (summed checksum values)
summed-wide checksum values
    (a, (b, (c, (d, (e, (f, (g, (h, (i, (j, (k, (l, (m, (n, u)))))))))))))) = (
      a,
      (
        b,
        (
          c,
          (d, (e, (f, (g, (h, (i, (j, (k, (l, (m, (length-number_bits 16 checksum, tt))))))))))),
        ),
      ),
    )

-- put into the bytes, the checksum is put into the fields
pub with_checksum-listed : (direction : Direction) (values : FieldName → List Bool)
    (payload : List ℕ) → AreWide stack.IpUdp values → AreBytes payload
    → drop 48
    (headers_and_payload stack.IpUdp direction (listed stack.IpUdp direction values)
    payload) ≡ payload
    → with_checksum
    (headers_and_payload stack.IpUdp direction (listed stack.IpUdp direction values)
    payload) ≡ headers_and_payload stack.IpUdp direction
    (listed stack.IpUdp direction
    (summed (checksum_of
    (headers_and_payload stack.IpUdp direction (listed stack.IpUdp direction values) payload))
    values)) payload
unfolding with_checksum
with_checksum-listed direction values payload w b rest =
    let packet : List ℕ =
    headers_and_payload stack.IpUdp direction (listed stack.IpUdp direction values) payload in
    let checksum : ℕ = checksum_of packet in
    let front : List Bool = values_in direction (listed stack.IpUdp direction values) front_names in
    let new : FieldName → List Bool = summed checksum values in
    let new_wide : AreWide stack.IpUdp new = summed-wide checksum values w in
    let taken : octets (take 46 packet) ≡ front = front-listed direction values payload w in
    let written : octets
    (take 46 packet ++ (two_bytes checksum ++ drop 48 packet)) ≡ front ++ (number_bits 16
    checksum ++ octets payload) =
    octets-append (take 46 packet) (two_bytes checksum ++ drop 48 packet)
    ∙ ap (λ (bits : List Bool). bits ++ octets (two_bytes checksum ++ drop 48 packet)) taken
    ∙ ap (λ (bits : List Bool). front ++ bits)
    (octets-append (two_bytes checksum) (drop 48 packet)
    ∙ ap (λ (bits : List Bool). bits ++ octets (drop 48 packet)) (two_bytes_bits checksum)
    ∙ ap (λ (bytes : List ℕ). number_bits 16 checksum ++ octets bytes) rest)
    in
    let made : octets
    (headers_and_payload stack.IpUdp direction (listed stack.IpUdp direction new)
    payload) ≡ front ++ (number_bits 16 checksum ++ octets payload) =
    joined_bits direction new payload new_wide
    ∙ ap (λ (bits : List Bool). bits ++ (number_bits 16 checksum ++ octets payload))
    (front-same direction checksum values)
    in
    octets-injective (take 46 packet ++ (two_bytes checksum ++ drop 48 packet))
    (headers_and_payload stack.IpUdp direction (listed stack.IpUdp direction new) payload)
    (AreBytes-with_checksum packet
    (AreBytes-joined stack.IpUdp direction (listed stack.IpUdp direction values) payload b))
    (AreBytes-joined stack.IpUdp direction (listed stack.IpUdp direction new) payload b)
    (written ∙ sym made)

-- a part of the front
front_part : (place count more : ℕ) (bytes : List ℕ)
    → take count (drop place bytes) ≡ take count (drop place (take (place + (count + more)) bytes))
front_part place count more bytes =
    sym (ap (λ (rest : List ℕ). take count rest) (drop-take place (count + more) bytes)
    ∙ take-take count (count + more) (drop place bytes) (omega arith))

-- the checksum doesn't see itself
pub checksum-same : (this that : List ℕ) → take 46 this ≡ take 46 that → drop 48 this ≡ drop 48 that
    → length this ≡ length that → checksum_of this ≡ checksum_of that
unfolding checksum_of
checksum-same this that front back size =
    let addresses : take 32 (drop 8 this) ≡ take 32 (drop 8 that) =
    front_part 8 32 6 this ∙ ap (λ (bytes : List ℕ). take 32 (drop 8 bytes)) front
    ∙ sym (front_part 8 32 6 that)
    in
    let ports : take 6 (drop 40 this) ≡ take 6 (drop 40 that) =
    front_part 40 6 0 this ∙ ap (λ (bytes : List ℕ). take 6 (drop 40 bytes)) front
    ∙ sym (front_part 40 6 0 that)
    in
    rw (addresses, ports, back, size) refl

-- the front and the back of a packet with its checksum made anew
pub front-with_checksum : (packet : List ℕ) → 48 ≤ length packet
    → take 46 (with_checksum packet) ≡ take 46 packet
unfolding with_checksum
front-with_checksum packet l =
    take_at (take 46 packet) (two_bytes (checksum_of packet) ++ drop 48 packet) 46
    (length-take-le 46 packet (omega (arith, l)))

pub back-with_checksum : (packet : List ℕ) → 48 ≤ length packet
    → drop 48 (with_checksum packet) ≡ drop 48 packet
unfolding with_checksum
back-with_checksum packet l =
    let long : length (take 46 packet ++ two_bytes (checksum_of packet)) ≡ 48 =
    length-append (take 46 packet) (two_bytes (checksum_of packet))
    ∙ ap (λ n. n + 2) (length-take-le 46 packet (omega (arith, l))) in
    ap (λ (bytes : List ℕ). drop 48 bytes)
    (sym (append_assoc (take 46 packet) (two_bytes (checksum_of packet)) (drop 48 packet)))
    ∙ drop_at (take 46 packet ++ two_bytes (checksum_of packet)) (drop 48 packet) 48 long

pub length-with_checksum : (packet : List ℕ) → 48 ≤ length packet
    → length (with_checksum packet) ≡ length packet
unfolding with_checksum
length-with_checksum packet l =
    length-append (take 46 packet) (two_bytes (checksum_of packet) ++ drop 48 packet)
    ∙ omega (arith, length-take-le 46 packet (omega (arith, l)), length-drop 48 packet)

-- the checksum of a packet of 48 bytes or more is the same when it is made anew in its place
pub checksum-with_checksum : (packet : List ℕ) → 48 ≤ length packet
    → checksum_of (with_checksum packet) ≡ checksum_of packet
checksum-with_checksum packet l =
    checksum-same (with_checksum packet) packet (front-with_checksum packet l)
    (back-with_checksum packet l) (length-with_checksum packet l)

-- two bytes put in the place of two
set_two : (packet : List ℕ) (a b : ℕ) → 48 ≤ length packet
    → slice_set (slice_set packet 46 a) 47 b ≡ take 46 packet ++ (a ∷ b ∷ drop 48 packet)
set_two packet a b h =
    let one : List ℕ = slice_set packet 46 a in
    set_split one 47 b (omega (arith, h, length-set packet 46 a))
    ∙ ap (λ (front : List ℕ). front ++ b ∷ drop 48 one)
    (take_more_set packet 46 a (omega (arith, h)))
    ∙ ap (λ (rest : List ℕ). (take 46 packet ++ a ∷ []) ++ b ∷ rest)
    (drop-set-lt 48 packet 46 a (omega arith))
    ∙ append_assoc (take 46 packet) (a ∷ []) (b ∷ drop 48 packet)

-- so the checksum is made anew in its place
pub put-checksum : (packet one two : List ℕ) (number : ℕ) → one ≡ slice_set packet 46 (number / 256)
    → two ≡ slice_set one 47 (number % 256) → number ≡ checksum_of packet → number < 65536
    → 48 ≤ length packet → two ≡ with_checksum packet
unfolding with_checksum
put-checksum packet one two number e f n small h =
    f ∙ ap (λ (bytes : List ℕ). slice_set bytes 47 (number % 256)) e
    ∙ set_two packet (number / 256) (number % 256) h
    ∙ ap (λ high. take 46 packet ++ (high ∷ number % 256 ∷ drop 48 packet))
    (let low : number / 256 ≡ number / 256 % 256 = omega (arith, small) in low)
    ∙ ap (λ n. take 46 packet ++ (two_bytes n ++ drop 48 packet)) n
