-- The values of the fields stand one after another in the headers.
use Rattle.std.specs.Prelude.{ℕ, ◌≡◌, ◌+◌, ◌-◌, ◌*◌, ◌≤◌, ◌==◌, Bool, true, ◌&&◌, List, [], ◌∷◌}
use Rattle.std.specs.Prelude.{◌++◌, length, take, drop}
use Rattle.std.specs.List.{AllByRecursion}
use Rattle.std.proofs.Common.{arith, ap, refl, sym, subst, ◌∙◌}
use Rattle.std.proofs.lemmas.Bool.{eqb-true, and_parts}
use Rattle.std.proofs.lemmas.List.{append_assoc, length-append, drop-drop, take_at, drop_at}
use Rattle.std.proofs.Math.Seq.{take-add}
use Rattle.schc_bits.specs.Bits.{octets}
use Rattle.schc_ids.specs.declared.ends.Direction.{Direction}
use Rattle.schc_ids.specs.declared.ends.Direction.TheVariants.{Up, Down}
use Rattle.schc_ids.specs.declared.names.Stack.{Stack}
use Rattle.schc_ids.specs.declared.names.Stack.TheVariants as stack
use Rattle.schc_ids.specs.declared.names.FieldName.{FieldName}
use Rattle.schc_ids.specs.Names.{fields_of_stack}
use Rattle.rule_model.specs.declared.value.FieldValue.{FieldValue}
use Rattle.ip_udp_fields.specs.Layout.{IsWithoutCoap, header_size, mirrored, fields_in_packet_order}
use Rattle.ip_udp_fields.specs.Layout.{place_of, bits_of, piece}
use Rattle.ip_udp_fields.specs.Join.{value_of, values_in}

-- from one bit to another, the fields of these names stand one after another
abbrev pub span : Direction → ℕ → ℕ → List FieldName → Bool
span direction from to [] = from == to
span direction from to (name ∷ names) =
    (place_of direction (mirrored direction name) == from) && span direction
    (from + bits_of (mirrored direction name)) to names

-- without CoAP the fields in packet order stand one after another, and fill the headers
pub span-headers : (of : Stack) (direction : Direction) → IsWithoutCoap of
    → span direction 0 (8 * header_size of) (fields_of_stack of) ≡ true
span-headers stack.Ip Up h = refl
span-headers stack.Ip Down h = refl
span-headers stack.IpUdp Up h = refl
span-headers stack.IpUdp Down h = refl
span-headers stack.IpUdpCoap direction h = absurd h

-- the value of each field has its width
abbrev pub HaveWidths : Direction → List FieldValue → List FieldName → Type 0
HaveWidths direction fields names =
    AllByRecursion
    (λ name. length (value_of fields (mirrored direction name)) ≡ bits_of (mirrored direction name))
    names

-- values with the widths of fields that stand one after another reach from the first bit to the end
pub length-values_in : (direction : Direction) (fields : List FieldValue) (names : List FieldName)
    (from to : ℕ) → span direction from to names ≡ true → HaveWidths direction fields names
    → from + length (values_in direction fields names) ≡ to
length-values_in direction fields [] from to s w = omega (arith, eqb-true from to s)
length-values_in direction fields (name ∷ names) from to s w =
    let parts =
    and_parts (place_of direction (mirrored direction name) == from)
    (span direction (from + bits_of (mirrored direction name)) to names) s in
    let rest : (from + bits_of (mirrored direction name)) + length
    (values_in direction fields names) ≡ to =
    length-values_in direction fields names (from + bits_of (mirrored direction name)) to parts.1
    w.1
    in
    rw (
      length-append (value_of fields (mirrored direction name))
          (values_in direction fields names),
      w.0,
    ) (omega (arith, rest))

-- each value is the piece at its place
pub pieces-values_in : (direction : Direction) (fields : List FieldValue) (names : List FieldName)
    (from to : ℕ) (front rest : List Bool) → span direction from to names ≡ true
    → HaveWidths direction fields names → length front ≡ from
    → AllByRecursion
    (λ name. take (bits_of (mirrored direction name))
    (drop (place_of direction (mirrored direction name))
    (front ++ (values_in direction fields names ++ rest))) ≡ value_of fields
    (mirrored direction name)) names
pieces-values_in direction fields [] from to front rest s w l = tt
pieces-values_in direction fields (name ∷ names) from to front rest s w l =
    let value : List Bool = value_of fields (mirrored direction name) in
    let later : List Bool = values_in direction fields names in
    let parts =
    and_parts (place_of direction (mirrored direction name) == from)
    (span direction (from + bits_of (mirrored direction name)) to names) s in
    let place : place_of direction (mirrored direction name) ≡ from =
    eqb-true (place_of direction (mirrored direction name)) from parts.0 in
    let long : length (front ++ value) ≡ from + bits_of (mirrored direction name) =
    rw (length-append front value, l, w.0) in
    let same : (front ++ value) ++ (later ++ rest) ≡ front ++ ((value ++ later) ++ rest) =
    append_assoc front value (later ++ rest)
    ∙ ap (λ (bits : List Bool). front ++ bits) (sym (append_assoc value later rest))
    in
    let first : take (bits_of (mirrored direction name))
    (drop (place_of direction (mirrored direction name))
    (front ++ ((value ++ later) ++ rest))) ≡ value =
    rw (place, drop_at front ((value ++ later) ++ rest) from l, append_assoc value later rest)
    (take_at value (later ++ rest) (bits_of (mirrored direction name)) w.0)
    in
    let others =
    pieces-values_in direction fields names (from + bits_of (mirrored direction name)) to
    (front ++ value) rest parts.1 w.1 long
    in (
      first,
      subst
          (λ (bits : List Bool). AllByRecursion
          (λ other. take (bits_of (mirrored direction other))
          (drop (place_of direction (mirrored direction other)) bits) ≡ value_of fields
          (mirrored direction other)) names) same others,
    )

span-order : (direction : Direction) (names : List FieldName) (from to : ℕ)
    → span direction from to names ≡ true → from ≤ to
span-order direction [] from to s = omega (arith, eqb-true from to s)
span-order direction (name ∷ names) from to s =
    let parts =
    and_parts (place_of direction (mirrored direction name) == from)
    (span direction (from + bits_of (mirrored direction name)) to names) s in
    omega (arith, span-order direction names (from + bits_of (mirrored direction name)) to parts.1)

-- a piece, and the piece after it
piece-append : (from width to : ℕ) (packet : List ℕ) → from + width ≤ to
    → piece from width packet ++ piece (from + width) (to - (from + width)) packet ≡ piece from
    (to - from) packet
unfolding piece
piece-append from width to packet h =
    let both : to - from ≡ width + (to - (from + width)) = omega arith in
    rw (
      both,
      take-add width (to - (from + width)) (drop from (octets packet)),
      drop-drop width from
          (octets packet),
    )

none-piece : (from to : ℕ) (packet : List ℕ) → from ≡ to → [] ≡ piece from (to - from) packet
unfolding piece
none-piece from to packet e =
    let none : to - from ≡ 0 = omega arith in
    rw none

-- the pieces of a packet, one after another, are one piece
pub values_in-pieces : (direction : Direction) (fields : List FieldValue) (names : List FieldName)
    (from to : ℕ) (packet : List ℕ) → span direction from to names ≡ true
    → AllByRecursion
    (λ name. value_of fields (mirrored direction name) ≡ piece
    (place_of direction (mirrored direction name)) (bits_of (mirrored direction name)) packet) names
    → values_in direction fields names ≡ piece from (to - from) packet
values_in-pieces direction fields [] from to packet s all =
    none-piece from to packet (eqb-true from to s)
values_in-pieces direction fields (name ∷ names) from to packet s all =
    let width : ℕ = bits_of (mirrored direction name) in
    let parts =
    and_parts (place_of direction (mirrored direction name) == from)
    (span direction (from + width) to names) s in
    let place : place_of direction (mirrored direction name) ≡ from =
    eqb-true (place_of direction (mirrored direction name)) from parts.0 in
    let first : value_of fields (mirrored direction name) ≡ piece from width packet = all.0
    ∙ ap (λ (n : ℕ). piece n width packet) place in
    let rest : values_in direction fields names ≡ piece (from + width) (to - (from + width))
    packet = values_in-pieces direction fields names (from + width) to packet parts.1 all.1 in
    ap (λ (bits : List Bool). bits ++ values_in direction fields names) first
    ∙ ap (λ (bits : List Bool). piece from width packet ++ bits) rest
    ∙ piece-append from width to packet (span-order direction names (from + width) to parts.1)

-- what holds of each field's mirror holds of each field
pub unmirror : (P : FieldName → Type 0) (of : Stack) (direction : Direction) → IsWithoutCoap of
    → AllByRecursion (λ name. P (mirrored direction name)) (fields_of_stack of)
    → AllByRecursion P (fields_of_stack of)
unmirror P stack.Ip Up h a = a
unmirror P stack.IpUdp Up h a = a
unmirror P stack.Ip Down h (a, (b, (c, (d, (e, (f, (ap, (ai, (dp, (di, u)))))))))) =
    (a, (b, (c, (d, (e, (f, (dp, (di, (ap, (ai, u))))))))))
unmirror P stack.IpUdp Down h
    (a, (b, (c, (d, (e, (f, (ap, (ai, (dp, (di, (ua, (ud, (l, (s, u)))))))))))))) =
    (a, (b, (c, (d, (e, (f, (dp, (di, (ap, (ai, (ud, (ua, (l, (s, u))))))))))))))
unmirror P stack.IpUdpCoap direction h a = absurd h

-- what holds of each field holds of each field's mirror
pub mirror : (P : FieldName → Type 0) (of : Stack) (direction : Direction) → IsWithoutCoap of
    → AllByRecursion P (fields_of_stack of)
    → AllByRecursion (λ name. P (mirrored direction name)) (fields_of_stack of)
mirror P stack.Ip Up h a = a
mirror P stack.IpUdp Up h a = a
mirror P stack.Ip Down h (a, (b, (c, (d, (e, (f, (ap, (ai, (dp, (di, u)))))))))) =
    (a, (b, (c, (d, (e, (f, (dp, (di, (ap, (ai, u))))))))))
mirror P stack.IpUdp Down h
    (a, (b, (c, (d, (e, (f, (ap, (ai, (dp, (di, (ua, (ud, (l, (s, u)))))))))))))) =
    (a, (b, (c, (d, (e, (f, (dp, (di, (ap, (ai, (ud, (ua, (l, (s, u))))))))))))))
mirror P stack.IpUdpCoap direction h a = absurd h

-- what holds of each field of the table holds of each field in packet order
pub to-packet-order : (P : FieldName → Type 0) (of : Stack) (direction : Direction)
    → IsWithoutCoap of → AllByRecursion P (fields_of_stack of)
    → AllByRecursion P (fields_in_packet_order of direction)
to-packet-order P stack.Ip direction h a = mirror P stack.Ip direction h a
to-packet-order P stack.IpUdp direction h a = mirror P stack.IpUdp direction h a
to-packet-order P stack.IpUdpCoap direction h a = absurd h

-- and the other way round
pub from-packet-order : (P : FieldName → Type 0) (of : Stack) (direction : Direction)
    → IsWithoutCoap of → AllByRecursion P (fields_in_packet_order of direction)
    → AllByRecursion P (fields_of_stack of)
from-packet-order P stack.Ip direction h a = unmirror P stack.Ip direction h a
from-packet-order P stack.IpUdp direction h a = unmirror P stack.IpUdp direction h a
from-packet-order P stack.IpUdpCoap direction h a = absurd h
