-- The fields of the headers: each stands there once, has its width and isn't of CoAP.
use Rattle.std.specs.Prelude.{ℕ, ◌≡◌, ◌≢◌, ◌==◌, ◌&&◌, ◌||◌, Bool, true, false, not, nat_lt, List}
use Rattle.std.specs.Prelude.{[], ◌∷◌, length, map, Option, Some, None, unwrap_or, IfSome, All}
use Rattle.std.specs.Prelude.{AllPairs, Contains}
use Rattle.std.specs.List.{AllByRecursion, list_all}
use Rattle.std.proofs.Common.{arith, ap, refl, subst}
use Rattle.std.proofs.lemmas.Bool.{and_parts, or_parts, not-false}
use Rattle.std.proofs.lemmas.List.Elements.{All-nil, All-cons, All-map, All-weaker, All-contains}
use Rattle.std.proofs.lemmas.List.Elements.{All-contains_itself, All-filter}
use Rattle.std.proofs.lemmas.List.Kept.{AllPairs-cons}
use Rattle.std.proofs.lemmas.List.Sums.{AllPass-from_list_all}
use Rattle.schc_ids.specs.declared.ends.Direction.{Direction}
use Rattle.schc_ids.specs.declared.ends.Direction.TheVariants.{Up, Down}
use Rattle.schc_ids.specs.declared.names.FieldAt.{FieldAt}
use Rattle.schc_ids.specs.declared.names.FieldName.{FieldName}
use Rattle.schc_ids.specs.declared.names.FieldName.TheVariants.{CoapVersion, CoapType, CoapTkl}
use Rattle.schc_ids.specs.declared.names.FieldName.TheVariants.{CoapCode, CoapMid, CoapToken}
use Rattle.schc_ids.specs.declared.names.FieldName.TheVariants.{CoapOption}
use Rattle.schc_ids.specs.declared.names.Stack.{Stack}
use Rattle.schc_ids.specs.declared.names.Stack.TheVariants as stack
use Rattle.schc_ids.specs.Ends.{covers}
use Rattle.schc_ids.specs.Names.{same_name, is_option, width_of, fields_of_stack}
use Rattle.schc_ids.proofs.NamesLemmas.{same_name-itself}
use Rattle.rule_model.specs.Data.{EntryData, RuleData}
use Rattle.rule_model.specs.Cover.{covered}
use Rattle.rule_model.specs.Findings.{is_length_of, IsAdmitted}
use Rattle.rule_model.specs.Residue.{WidthHolds}
use Rattle.rule_model.proofs.EntryRowsLemmas.{EntryHolds-from_IsAdmitted}
use Rattle.ip_udp_fields.specs.Layout.{IsWithoutCoap, fields_in_packet_order, bits_of}
use Rattle.ip_udp_fields.specs.Fields.{field_in}
use Rattle.ip_udp_fields.proofs.SplitLemmas.{field_bits}

-- no name stands twice
abbrev pub are_apart : List FieldName → Bool
are_apart [] = true
are_apart (name ∷ names) = list_all (λ other. not (same_name name other)) names && are_apart names

-- in packet order, no name of a stack without CoAP stands twice
pub names-apart : (of : Stack) (direction : Direction) → IsWithoutCoap of
    → are_apart (fields_in_packet_order of direction) ≡ true
names-apart stack.Ip Up h = refl
names-apart stack.Ip Down h = refl
names-apart stack.IpUdp Up h = refl
names-apart stack.IpUdp Down h = refl
names-apart stack.IpUdpCoap direction h = absurd h

-- fields of other names are others
pub other-at : (direction : Direction) (packet : List ℕ) (name other : FieldName)
    → not (same_name name other) ≡ true
    → (field_in direction packet name).at ≢ (field_in direction packet other).at
other-at direction packet name other h e =
    let same : name ≡ other = ap (λ (at : FieldAt). at.name) e in
    let itself : same_name name other ≡ true =
    subst (λ n. same_name name n ≡ true) same (same_name-itself name) in
    absurd (cc)

-- of names of which none stands twice, no two of the packet's fields have one name and position
pub once-along : (direction : Direction) (packet : List ℕ) (names : List FieldName)
    → are_apart names ≡ true → AllPairs (λ f g. f.at ≢ g.at) (map (field_in direction packet) names)
once-along direction packet [] h = λ i j d l k. absurd (omega arith)
once-along direction packet (name ∷ names) h =
    let parts : (list_all (λ other. not (same_name name other)) names ≡ true)
    × (are_apart names ≡ true) =
    and_parts (list_all (λ other. not (same_name name other)) names) (are_apart names) h in
    AllPairs-cons (λ f g. f.at ≢ g.at) (field_in direction packet name)
    (map (field_in direction packet) names)
    (All-map (λ g. (field_in direction packet name).at ≢ g.at) (field_in direction packet) names
    (All-weaker (λ other. not (same_name name other) ≡ true)
    (λ other. (field_in direction packet name).at ≢ (field_in direction packet other).at)
    (other-at direction packet name) names
    (AllPass-from_list_all (λ other. not (same_name name other)) names parts.0)))
    (once-along direction packet names parts.1)

-- a field of the width that its name has
pub width-from : (o : Option ℕ) (value : List Bool) → length value ≡ unwrap_or o 0
    → IfSome o (λ width. length value ≡ width)
width-from None value e = tt
width-from (Some width) value e = e

-- where the packet has for each name as many bits as its width, these fields have their widths
pub widths-along : (direction : Direction) (packet : List ℕ) (names : List FieldName)
    → AllByRecursion (λ n. length (field_bits direction packet n) ≡ bits_of n) names
    → All (λ f. WidthHolds f.at.name f.value) (map (field_in direction packet) names)
widths-along direction packet [] h = All-nil _
widths-along direction packet (name ∷ names) h =
    All-cons (λ f. WidthHolds f.at.name f.value) (field_in direction packet name)
    (map (field_in direction packet) names)
    (width-from (width_of name) (field_bits direction packet name) h.0)
    (widths-along direction packet names h.1)

-- a field that isn't of CoAP
abbrev pub is_below_coap : FieldName → Bool
is_below_coap CoapVersion = false
is_below_coap CoapType = false
is_below_coap CoapTkl = false
is_below_coap CoapCode = false
is_below_coap CoapMid = false
is_below_coap CoapToken = false
is_below_coap (CoapOption number) = false
is_below_coap _ = true

-- no name of a stack without CoAP is one of CoAP
pub names-below : (of : Stack) (direction : Direction) → IsWithoutCoap of
    → list_all is_below_coap (fields_in_packet_order of direction) ≡ true
names-below stack.Ip Up h = refl
names-below stack.Ip Down h = refl
names-below stack.IpUdp Up h = refl
names-below stack.IpUdp Down h = refl
names-below stack.IpUdpCoap direction h = absurd h

-- nor is any field of a packet, under the names of a stack without CoAP, one of CoAP
pub fields-below : (of : Stack) (direction : Direction) (packet : List ℕ) → IsWithoutCoap of
    → All (λ f. is_below_coap f.at.name ≡ true)
    (map (field_in direction packet) (fields_in_packet_order of direction))
fields-below of direction packet h =
    All-map (λ f. is_below_coap f.at.name ≡ true) (field_in direction packet)
    (fields_in_packet_order of direction)
    (AllPass-from_list_all is_below_coap (fields_in_packet_order of direction)
    (names-below of direction h))

-- the length is one of the field's
pub kind-of : (rule : RuleData) → IsAdmitted rule → (e : EntryData) → Contains rule.entries e
    → is_length_of e.name e.length ≡ true
kind-of rule admitted e among =
    let first : ((not (is_length_of e.name e.length) || (e.position == 0)) ≡ false)
    × ((nat_lt 1 e.position && not (is_option e.name)) ≡ false) =
    or_parts (not (is_length_of e.name e.length) || (e.position == 0))
    (nat_lt 1 e.position && not (is_option e.name))
    (EntryHolds-from_IsAdmitted rule admitted e among).shape in
    not-false (is_length_of e.name e.length)
    (or_parts (not (is_length_of e.name e.length)) (e.position == 0) first.0).0

-- an entry that is used in the direction is one of the rule's entries
pub of-rule : (rule : RuleData) (direction : Direction) (e : EntryData)
    → Contains (covered rule direction) e → Contains rule.entries e
of-rule rule direction e h =
    All-contains (Contains rule.entries) (covered rule direction) e
    (All-filter (λ e. covers e.direction direction) (Contains rule.entries) rule.entries
    (All-contains_itself rule.entries)) h
