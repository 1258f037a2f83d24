-- The fields of a packet by their names, and the direction of a rule that matches them.
use Rattle.std.specs.Prelude.{ℕ, ◌≡◌, ◌≢◌, ◌<◌, zero, suc, true, not, List, [], ◌∷◌, length, get_or}
use Rattle.std.specs.Prelude.{map, AllPairs, Contains}
use Rattle.std.specs.List.{list_any}
use Rattle.std.proofs.Common.{arith, ap, refl, sym, ◌∙◌, subst, inl, inr}
use Rattle.std.proofs.lemmas.Bool.{and_parts, not-true, true≢false}
use Rattle.std.proofs.lemmas.List.Elements.{Contains-get_or}
use Rattle.schc_ids.specs.declared.ends.Direction.{Direction}
use Rattle.schc_ids.specs.declared.ends.Direction.TheVariants.{Up, Down}
use Rattle.schc_ids.specs.declared.ends.Iids.{Iids}
use Rattle.schc_ids.specs.declared.names.FieldAt.{FieldAt}
use Rattle.schc_ids.specs.declared.names.FieldName.{FieldName}
use Rattle.schc_ids.specs.declared.names.Stack.{Stack}
use Rattle.schc_ids.specs.declared.names.Stack.TheVariants as stack
use Rattle.schc_ids.specs.Names.{same_name, fields_of_stack}
use Rattle.schc_ids.proofs.NamesLemmas.{same_name-itself}
use Rattle.rule_model.specs.declared.value.FieldValue.{FieldValue}
use Rattle.rule_model.specs.declared.value.Computed.{Computed}
use Rattle.rule_model.specs.Data.{RuleData}
use Rattle.rule_model.specs.Cover.{covered, stack_of, has_field}
use Rattle.rule_model.specs.Matches.{Matches}
use Rattle.ip_udp_fields.specs.Layout.{IsWithoutCoap, fields_in_packet_order}
use Rattle.ip_udp_fields.specs.Fields.{field_in, fields_in, FieldsOf}
use Rattle.ip_udp_fields.proofs.OrderLemmas.{are_distinct}
use Rattle.ip_udp_fields.proofs.SplitLemmas.{without-coap}
use Rattle.packer.specs.Packets.{PacketOf}
use Rattle.packer.specs.Unpacking.{reads}
use Rattle.packer.proofs.PacketOrderLemmas.{to-order, from-order}
use Rattle.packer.proofs.CoverLemmas.{Contains-parts, Contains-map, each-passes, fails-each}
use Rattle.packer.proofs.CoverLemmas.{some-passes}

-- a packet of a stack without CoAP
pub PacketOf-fields : (of : Stack) (direction : Direction) (packet : List ℕ)
    (fields : List FieldValue) (from : ℕ) → IsWithoutCoap of
    → PacketOf of direction packet fields from → FieldsOf of direction packet fields from
PacketOf-fields stack.Ip direction packet fields from h p = p
PacketOf-fields stack.IpUdp direction packet fields from h p = p
PacketOf-fields stack.IpUdpCoap direction packet fields from h p = absurd h

-- and the other way round: what has the fields of a stack without CoAP is a packet of it
pub fields-PacketOf : (of : Stack) (direction : Direction) (packet : List ℕ)
    (fields : List FieldValue) (from : ℕ) → IsWithoutCoap of
    → FieldsOf of direction packet fields from → PacketOf of direction packet fields from
fields-PacketOf stack.Ip direction packet fields from h p = p
fields-PacketOf stack.IpUdp direction packet fields from h p = p
fields-PacketOf stack.IpUdpCoap direction packet fields from h p = absurd h

distinct : (of : Stack) (direction : Direction) → IsWithoutCoap of
    → are_distinct (fields_in_packet_order of direction) ≡ true
distinct stack.Ip Up h = refl
distinct stack.Ip Down h = refl
distinct stack.IpUdp Up h = refl
distinct stack.IpUdp Down h = refl
distinct stack.IpUdpCoap direction h = absurd h

-- an element of a mapped list is made of one
pub Contains-unmap : {X Y : Type 0} (f : X → Y) (xs : List X) (y : Y) → Contains (map f xs) y
    → (x : X) × Contains xs x × (f x ≡ y)
Contains-unmap f [] y h = absurd (omega (arith, h.1))
Contains-unmap f (x ∷ xs) y h =
    elim (Contains-parts (f x) (map f xs) y h) [
      | inl e ↦ (x, (0, omega arith, refl), e)
      | inr rest ↦ let later = Contains-unmap f xs y rest in
          (later.0, (suc later.1.0, omega (arith, later.1.1), later.1.2), later.2)
    ]

pairs_from : {X : Type 0} (R : X → X → Type 0) (x : X) (xs : List X)
    → ((y : X) → Contains xs y → R x y) → AllPairs R xs → (i j : ℕ) (d : X) → i < j
    → j < length (x ∷ xs) → R (get_or (x ∷ xs) i d) (get_or (x ∷ xs) j d)
pairs_from R x xs h k i zero d l m = absurd (omega arith)
pairs_from R x xs h k zero (suc j) d l m = h (get_or xs j d) (Contains-get_or xs j d (omega arith))
pairs_from R x xs h k (suc i) (suc j) d l m = k i j d (omega arith) (omega arith)

once_named : (direction : Direction) (packet : List ℕ) (names : List FieldName)
    → are_distinct names ≡ true
    → AllPairs (λ f g. f.at ≢ g.at) (map (field_in direction packet) names)
once_named direction packet [] h = λ i j d l m. absurd (omega arith)
once_named direction packet (name ∷ names) h =
    let parts = and_parts (not (list_any (same_name name) names)) (are_distinct names) h in
    pairs_from (λ f g. f.at ≢ g.at) (field_in direction packet name)
    (map (field_in direction packet) names)
    (λ g among same.
    let m = Contains-unmap (field_in direction packet) names g among in
    let equal : name ≡ m.0 =
    ap (λ (at : FieldAt). at.name) (same ∙ ap (λ (f : FieldValue). f.at) (sym m.2)) in
    true≢false
    (sym (subst (λ n. same_name name n ≡ true) equal (same_name-itself name))
    ∙ fails-each (same_name name) names (not-true (list_any (same_name name) names) parts.0) m.0
    m.1))
    (once_named direction packet names parts.1)

-- a field of a packet is of a name of its stack
pub named-field : (of : Stack) (direction : Direction) (packet : List ℕ) (fields : List FieldValue)
    (from : ℕ) (f : FieldValue) → FieldsOf of direction packet fields from → Contains fields f
    → (name : FieldName) × Contains (fields_of_stack of) name × (field_in direction packet name ≡ f)
unfolding fields_in
named-field of direction packet fields from f p among =
    let m = Contains-unmap (field_in direction packet) (fields_in_packet_order of direction) f
    (subst (λ (all : List FieldValue). Contains all f) p.its_fields among) in
    (m.0, from-order of direction m.0 (without-coap of packet p.is_packet) m.1, m.2)

-- a packet of a stack without CoAP has among its fields its own for each name of the stack
pub field-named : (of : Stack) (direction : Direction) (packet : List ℕ) (fields : List FieldValue)
    (from : ℕ) (name : FieldName) → FieldsOf of direction packet fields from
    → Contains (fields_of_stack of) name → Contains fields (field_in direction packet name)
unfolding fields_in
field-named of direction packet fields from name p among =
    subst (λ (all : List FieldValue). Contains all (field_in direction packet name))
    (sym p.its_fields)
    (Contains-map (field_in direction packet) (fields_in_packet_order of direction) name
    (to-order of direction name (without-coap of packet p.is_packet) among))

-- no name stands twice
pub once-fields : (of : Stack) (direction : Direction) (packet : List ℕ) (fields : List FieldValue)
    (from : ℕ) → FieldsOf of direction packet fields from → AllPairs (λ f g. f.at ≢ g.at) fields
unfolding fields_in
once-fields of direction packet fields from p =
    subst (AllPairs (λ f g. f.at ≢ g.at)) (sym p.its_fields)
    (once_named direction packet (fields_in_packet_order of direction)
    (distinct of direction (without-coap of packet p.is_packet)))

-- a rule that matches a packet reads packets of its direction
pub reads-matching : (rule : RuleData) (iids : Iids) (direction : Direction) (packet : List ℕ)
    (fields : List FieldValue) (from : ℕ) (computed : Computed)
    → FieldsOf (stack_of rule) direction packet fields from
    → Matches rule iids direction fields computed → reads rule direction ≡ true
reads-matching rule iids direction packet fields from computed p matches =
    each-passes (has_field rule direction) (fields_of_stack (stack_of rule))
    (λ name among.
    let e = matches.same_set.each_field (field_in direction packet name)
    (field-named (stack_of rule) direction packet fields from name p among) in
    some-passes (λ d. same_name d.name name) (covered rule direction) e.0 e.1
    (subst (λ n. same_name n name ≡ true) (sym (ap (λ (at : FieldAt). at.name) e.2))
    (same_name-itself name)))
