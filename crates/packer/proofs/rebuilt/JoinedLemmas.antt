-- Values joined to a packet, and its checksum made anew.
use Rattle.std.specs.Prelude.{ℕ, ◌≡◌, Bool, List, [], ◌∷◌, ◌++◌, length, drop, map, Some, None}
use Rattle.std.specs.Prelude.{unwrap_or}
use Rattle.std.specs.List.{AllByRecursion}
use Rattle.std.proofs.Common.{ap, refl, sym, ◌∙◌, subst}
use Rattle.schc_bits.specs.Bits.{padded, bytes_of, AreBytes}
use Rattle.schc_ids.specs.declared.ends.Direction.{Direction}
use Rattle.schc_ids.specs.declared.ends.Direction.TheVariants.{Up, Down}
use Rattle.schc_ids.specs.declared.names.FieldName.{FieldName}
use Rattle.schc_ids.specs.declared.names.Stack.{Stack}
use Rattle.schc_ids.specs.declared.names.Stack.TheVariants as stack
use Rattle.schc_ids.specs.Names.{fields_of_stack}
use Rattle.rule_model.specs.declared.value.FieldValue.{FieldValue}
use Rattle.rule_model.specs.First.{first_held}
use Rattle.rule_model.proofs.FirstLemmas.{first_held-append_none}
use Rattle.ip_udp_fields.specs.Layout.{IsWithoutCoap, header_size, mirrored, fields_in_packet_order}
use Rattle.ip_udp_fields.specs.Layout.{bits_of}
use Rattle.ip_udp_fields.specs.Fields.{FieldsOf}
use Rattle.ip_udp_fields.specs.Join.{value_in, value_of, presence, order, value_refusals}
use Rattle.ip_udp_fields.specs.Join.{join_refusal, values_in, header_bits}
use Rattle.ip_udp_fields.proofs.OrderLemmas.{with_value}
use Rattle.ip_udp_fields.proofs.SpanLemmas.{mirror, to-packet-order}
use Rattle.ip_udp_fields.proofs.JoinLemmas.{joined-fields, joined-payload, joined-bytes}
use Rattle.ip_udp_fields.proofs.SplitLemmas.{present}
use Rattle.packer.specs.Unpacking.{headers_and_payload}

-- the fields of a stack, with these values
abbrev pub listed : Stack → Direction → (FieldName → List Bool) → List FieldValue
listed of direction values = map (with_value values) (fields_in_packet_order of direction)

-- each name is found with its value
abbrev pub AreFound : Stack → (FieldName → List Bool) → List FieldValue → Type 0
AreFound of values fields =
    AllByRecursion (λ n. value_in fields n ≡ Some (values n)) (fields_of_stack of)

-- for each name of the stack a value of as many bits as its field has
abbrev pub AreWide : Stack → (FieldName → List Bool) → Type 0
AreWide of values = AllByRecursion (λ n. length (values n) ≡ bits_of n) (fields_of_stack of)

-- among fields listed with these values each name of a stack without CoAP is found with its own
pub found-listed : (of : Stack) (direction : Direction) (values : FieldName → List Bool)
    → IsWithoutCoap of → AreFound of values (listed of direction values)
found-listed stack.Ip Up values h =
    (refl, (refl, (refl, (refl, (refl, (refl, (refl, (refl, (refl, (refl, tt))))))))))
found-listed stack.Ip Down values h =
    (refl, (refl, (refl, (refl, (refl, (refl, (refl, (refl, (refl, (refl, tt))))))))))
found-listed stack.IpUdp Up values h = (
  refl,
  (
    refl,
    (
      refl,
      (
        refl,
        (refl, (refl, (refl, (refl, (refl, (refl, (refl, (refl, (refl, (refl, tt)))))))))),
      ),
    ),
  ),
)
found-listed stack.IpUdp Down values h = (
  refl,
  (
    refl,
    (
      refl,
      (
        refl,
        (refl, (refl, (refl, (refl, (refl, (refl, (refl, (refl, (refl, (refl, tt)))))))))),
      ),
    ),
  ),
)
found-listed stack.IpUdpCoap direction values h = absurd h

ordered-listed : (of : Stack) (direction : Direction) (values : FieldName → List Bool)
    → IsWithoutCoap of
    → first_held (order (fields_in_packet_order of direction) (listed of direction values)) ≡ None
ordered-listed stack.Ip Up values h = refl
ordered-listed stack.Ip Down values h = refl
ordered-listed stack.IpUdp Up values h = refl
ordered-listed stack.IpUdp Down values h = refl
ordered-listed stack.IpUdpCoap direction values h = absurd h

same_values : (v : FieldName → List Bool) (a b : List FieldValue) (names : List FieldName)
    → AllByRecursion (λ n. value_in a n ≡ Some (v n)) names
    → AllByRecursion (λ n. value_in b n ≡ Some (v n)) names
    → AllByRecursion (λ n. value_of a n ≡ value_of b n) names
same_values v a b [] f g = tt
same_values v a b (name ∷ names) f g =
    (ap (λ o. unwrap_or o []) (f.0 ∙ sym g.0), same_values v a b names f.1 g.1)

values_in-same : (direction : Direction) (a b : List FieldValue) (names : List FieldName)
    → AllByRecursion (λ n. value_of a (mirrored direction n) ≡ value_of b (mirrored direction n))
    names → values_in direction a names ≡ values_in direction b names
values_in-same direction a b [] h = refl
values_in-same direction a b (name ∷ names) h =
    ap (λ (bits : List Bool). bits ++ values_in direction a names) h.0
    ∙ ap (λ (bits : List Bool). value_of b (mirrored direction name) ++ bits)
    (values_in-same direction a b names h.1)

header_bits-same : (of : Stack) (direction : Direction) (v : FieldName → List Bool)
    (a b : List FieldValue) → IsWithoutCoap of → AreFound of v a → AreFound of v b
    → header_bits of direction a ≡ header_bits of direction b
unfolding header_bits
header_bits-same of direction v a b h f g =
    values_in-same direction a b (fields_of_stack of)
    (mirror (λ n. value_of a n ≡ value_of b n) of direction h
    (same_values v a b (fields_of_stack of) f g))

-- fields with the same values by name, of a stack without CoAP, meet the same conditions on values
pub value_refusals-same : (of : Stack) (v : FieldName → List Bool) (a b : List FieldValue)
    (size : ℕ) → IsWithoutCoap of → AreFound of v a → AreFound of v b
    → value_refusals of a size ≡ value_refusals of b size
value_refusals-same stack.Ip v a b size h f g = rw (f.0, g.0, f.1.1.1.0, g.1.1.1.0) refl
value_refusals-same stack.IpUdp v a b size h f g =
    rw (
      f.0,
      g.0,
      f.1.1.1.0,
      g.1.1.1.0,
      f.1.1.1.1.0,
      g.1.1.1.1.0,
      f.1.1.1.1.1.1.1.1.1.1.1.1.0,
      g.1.1.1.1.1.1.1.1.1.1.1.1.0,
    ) refl
value_refusals-same stack.IpUdpCoap v a b size h f g = absurd h

listed-none : (of : Stack) (direction : Direction) (v : FieldName → List Bool) (size : ℕ)
    → IsWithoutCoap of → AreWide of v
    → first_held (value_refusals of (listed of direction v) size) ≡ None
    → join_refusal of direction (listed of direction v) size ≡ None
unfolding join_refusal
listed-none of direction v size h wide right =
    let names : List FieldName = fields_in_packet_order of direction in
    let all : List FieldValue = listed of direction v in
    first_held-append_none (presence all names) (order names all ++ value_refusals of all size)
    (present all v names
    (to-packet-order (λ n. value_in all n ≡ Some (v n)) of direction h
    (found-listed of direction v h))
    (to-packet-order (λ n. length (v n) ≡ bits_of n) of direction h wide))
    ∙ first_held-append_none (order names all) (value_refusals of all size)
    (ordered-listed of direction v h) ∙ right

-- fields found by their names are joined to a packet
pub joined-listed : (of : Stack) (direction : Direction) (v : FieldName → List Bool)
    (fields : List FieldValue) (payload : List ℕ) → IsWithoutCoap of → AreFound of v fields
    → headers_and_payload of direction fields payload ≡ headers_and_payload of direction
    (listed of direction v) payload
unfolding headers_and_payload
joined-listed of direction v fields payload h f =
    ap (λ (bits : List Bool). bytes_of (padded bits) ++ payload)
    (header_bits-same of direction v fields (listed of direction v) h f
    (found-listed of direction v h))

-- values of the right widths, of which none is wrong, are joined with the payload to a packet of a
-- stack without CoAP, and are its fields
pub joined-packet : (of : Stack) (direction : Direction) (v : FieldName → List Bool)
    (fields : List FieldValue) (payload : List ℕ) → IsWithoutCoap of → AreFound of v fields
    → AreWide of v → first_held (value_refusals of fields (length payload)) ≡ None
    → FieldsOf of direction (headers_and_payload of direction fields payload)
    (listed of direction v) (header_size of)
unfolding headers_and_payload
joined-packet of direction v fields payload h f wide right =
    let none : join_refusal of direction (listed of direction v) (length payload) ≡ None =
    listed-none of direction v (length payload) h wide
    (ap first_held
    (value_refusals-same of v (listed of direction v) fields (length payload) h
    (found-listed of direction v h) f) ∙ right)
    in
    subst (λ (packet : List ℕ). FieldsOf of direction packet (listed of direction v)
    (header_size of)) (sym (joined-listed of direction v fields payload h f))
    (joined-fields of direction (listed of direction v) payload h none)

-- and behind its headers stands the payload
pub joined-rest : (of : Stack) (direction : Direction) (v : FieldName → List Bool)
    (fields : List FieldValue) (payload : List ℕ) → IsWithoutCoap of → AreFound of v fields
    → AreWide of v → first_held (value_refusals of fields (length payload)) ≡ None
    → drop (header_size of) (headers_and_payload of direction fields payload) ≡ payload
unfolding headers_and_payload
joined-rest of direction v fields payload h f wide right =
    let none : join_refusal of direction (listed of direction v) (length payload) ≡ None =
    listed-none of direction v (length payload) h wide
    (ap first_held
    (value_refusals-same of v (listed of direction v) fields (length payload) h
    (found-listed of direction v h) f) ∙ right)
    in
    ap (λ (packet : List ℕ). drop (header_size of) packet)
    (joined-listed of direction v fields payload h f)
    ∙ joined-payload of direction (listed of direction v) payload h none

-- headers joined with a payload of bytes are bytes
pub AreBytes-joined : (of : Stack) (direction : Direction) (fields : List FieldValue)
    (payload : List ℕ) → AreBytes payload
    → AreBytes (headers_and_payload of direction fields payload)
unfolding headers_and_payload
AreBytes-joined of direction fields payload b =
    joined-bytes (padded (header_bits of direction fields)) payload b
