-- The places of the fields of a header.
use Rattle.std.specs.Prelude.{ℕ, ◌≡◌, ◌+◌, ◌*◌, ◌≤◌, ◌<◌, Bool, true, nat_le, List, length, get_or}
use Rattle.std.specs.List.{list_all}
use Rattle.std.proofs.Common.{ap, refl, sym, ◌∙◌, inl, inr}
use Rattle.std.proofs.lemmas.Bool.{leb-true, false≢true, cases_Bool}
use Rattle.std.proofs.lemmas.List.Folds.{list_all_at}
use Rattle.schc_ids.specs.declared.ends.Direction.{Direction}
use Rattle.schc_ids.specs.declared.ends.Direction.TheVariants.{Up, Down}
use Rattle.schc_ids.specs.declared.names.Stack.{Stack}
use Rattle.schc_ids.specs.declared.names.Stack.TheVariants as stack
use Rattle.schc_ids.specs.declared.names.FieldName.{FieldName}
use Rattle.schc_ids.specs.Names.{fields_of_stack}
use Rattle.ip_udp_fields.specs.Layout.{IsWithoutCoap, header_size, place_of, bits_of}
use Rattle.ip_udp_fields.specs.Layout.{fields_in_packet_order}

-- the field ends within the headers
abbrev pub is_within : Stack → Direction → FieldName → Bool
is_within stack direction name =
    nat_le (place_of direction name + bits_of name) (8 * header_size stack)

-- each field of a stack without CoAP ends within the headers, in both directions
pub fields-within : (stack : Stack) (direction : Direction) → IsWithoutCoap stack
    → list_all (is_within stack direction) (fields_of_stack stack) ≡ true
fields-within stack.Ip Up h = refl
fields-within stack.Ip Down h = refl
fields-within stack.IpUdp Up h = refl
fields-within stack.IpUdp Down h = refl
fields-within stack.IpUdpCoap direction h = absurd h

-- each field in packet order ends within the headers too, where the stack has no CoAP
pub fields_in_packet_order-within : (stack : Stack) (direction : Direction) → IsWithoutCoap stack
    → list_all (is_within stack direction) (fields_in_packet_order stack direction) ≡ true
fields_in_packet_order-within stack.Ip Up h = refl
fields_in_packet_order-within stack.Ip Down h = refl
fields_in_packet_order-within stack.IpUdp Up h = refl
fields_in_packet_order-within stack.IpUdp Down h = refl
fields_in_packet_order-within stack.IpUdpCoap direction h = absurd h

-- a field of these names ends within the headers
pub place-within : (stack : Stack) (direction : Direction) (names : List FieldName) (i : ℕ)
    (d : FieldName) → IsWithoutCoap stack → names ≡ fields_in_packet_order stack direction
    → i < length names
    → place_of direction (get_or names i d) + bits_of (get_or names i d) ≤ 8 * header_size stack
place-within stack direction names i d h e l =
    let name : FieldName = get_or names i d in
    let all : list_all (is_within stack direction) names ≡ true =
    ap (list_all (is_within stack direction)) e
    ∙ fields_in_packet_order-within stack direction h in
    elim (cases_Bool (is_within stack direction name)) [
      | inl within ↦ leb-true (place_of direction name + bits_of name) (8 * header_size stack)
          within
      | inr beyond ↦ absurd
          (false≢true (sym (list_all_at (is_within stack direction) names i d l beyond) ∙ all))
    ]
