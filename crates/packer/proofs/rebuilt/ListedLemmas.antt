-- What is tried of restored fields comes to the conditions that are listed: the others never fail.
use Rattle.std.specs.Prelude.{ℕ, ◌≡◌, ◌≢◌, ◌+◌, ◌==◌, ◌≤◌, Bool, true, false, not, ◌&&◌, ◌||◌}
use Rattle.std.specs.Prelude.{nat_lt, nat_le, List, [], ◌∷◌, ◌++◌, length, map, Option, Some, None}
use Rattle.std.specs.Prelude.{is_some, unwrap_or, AllPairs, Contains}
use Rattle.std.specs.Option.{option_map}
use Rattle.std.proofs.Common.{arith, ap, refl, sym, ◌∙◌, subst, inl, inr}
use Rattle.std.proofs.lemmas.Bool.{and_parts, and_from, or_parts, eqb-false, eq-eqb, le-leb}
use Rattle.std.proofs.lemmas.Bool.{true≢false}
use Rattle.std.proofs.lemmas.List.{map-append}
use Rattle.std.proofs.lemmas.List.Elements.{Contains-append_right}
use Rattle.schc_ids.specs.declared.ends.Direction.{Direction}
use Rattle.schc_ids.specs.declared.faults.UnpackFault.{UnpackFault}
use Rattle.schc_ids.specs.declared.names.FieldAt.{FieldAt}
use Rattle.schc_ids.specs.declared.names.FieldName.{FieldName}
use Rattle.schc_ids.specs.declared.names.FieldName.TheVariants.{IpVersion, IpPayloadLength}
use Rattle.schc_ids.specs.declared.names.FieldName.TheVariants.{IpNextHeader, UdpLength}
use Rattle.schc_ids.specs.declared.names.FieldName.TheVariants.{CoapVersion, CoapType, CoapTkl}
use Rattle.schc_ids.specs.declared.names.FieldName.TheVariants.{CoapCode, CoapMid, CoapToken}
use Rattle.schc_ids.specs.declared.names.FieldName.TheVariants.{CoapOption}
use Rattle.schc_ids.specs.declared.names.Layer.TheVariants as layer
use Rattle.schc_ids.specs.declared.names.Stack.{Stack}
use Rattle.schc_ids.specs.declared.names.Stack.TheVariants as stack
use Rattle.schc_ids.specs.Ends.{covers}
use Rattle.schc_ids.specs.Names.{layer_of, same_layer, same_name, is_option, rank_of, width_of}
use Rattle.schc_ids.specs.Names.{ip_fields, udp_fields, coap_fields, fields_of_stack}
use Rattle.schc_ids.proofs.NamesLemmas.{same_name-true}
use Rattle.rule_model.specs.declared.parts.JoinFault.{JoinFault}
use Rattle.rule_model.specs.declared.value.FieldValue.{FieldValue}
use Rattle.rule_model.specs.Data.{EntryData, RuleData}
use Rattle.rule_model.specs.Cover.{covered, field_of, has_field, stack_of, is_compute}
use Rattle.rule_model.specs.Findings.{shape_wrong, is_length_of, IsAdmitted}
use Rattle.rule_model.specs.First.{first_held}
use Rattle.rule_model.specs.Matches.{IsSameSet}
use Rattle.rule_model.specs.Presence.{presence}
use Rattle.rule_model.specs.Residue.{value_of}
use Rattle.rule_model.proofs.EntryRowsLemmas.{EntryHolds, EntryHolds-from_IsAdmitted}
use Rattle.rule_model.proofs.FirstLemmas.{first_held-append_none}
use Rattle.rule_model.proofs.SizedLemmas.{Contains-first, Contains-rest}
use Rattle.decompress.proofs.LawLemmas.{all-at, unfilter, value_of-own}
use Rattle.ip_udp_fields.specs.Layout.{IsWithoutCoap, bits_of}
use Rattle.ip_udp_fields.specs.Fields.{at_name}
use Rattle.ip_udp_fields.specs.Join.{value_in, is_number, has_number, value_refusals}
use Rattle.coap_fields.specs.Join.{is_possible, is_whole, standing, message_refusals, gaps}
use Rattle.coap_fields.specs.Join.{value_refusals as message_value_refusals}
use Rattle.packer.specs.Ordering.{message_fields}
use Rattle.packer.specs.Unpacking.{filled_value, size_after, filled_headers, wrong_field}
use Rattle.packer.specs.Unpacking.{fixed_headers, number_faults, message_faults, length_faults}
use Rattle.packer.specs.Unpacking.{value_faults}
use Rattle.packer.specs.Rebuilding.{AreRestored, HasOptions, is_option_at, front_tests}
use Rattle.packer.specs.Rebuilding.{header_tests, message_tests, made_tests}
use Rattle.packer.proofs.coap.AscendLemmas.{AscendsAfter, ascends-once}
use Rattle.packer.proofs.CoverLemmas.{fails-each, passes-each, passes-some, value_in-there}
use Rattle.packer.proofs.CoverLemmas.{first-position}
use Rattle.packer.proofs.rebuilt.FilledLemmas.{first_held-map, none-of}
use Rattle.packer.proofs.FirstPartsLemmas.{append-none}
use Rattle.packer.proofs.rebuilt.HeadLemmas.{Heads, Heads-from_reads, heads-value, heads-found}
use Rattle.packer.proofs.rebuilt.MadeLemmas.{and-false}
use Rattle.packer.proofs.rebuilt.PutLemmas.{same-restored}
use Rattle.packer.proofs.rebuilt.RestoredHeadersLemmas.{header_values, width-known}
use Rattle.packer.proofs.coap.SortLemmas.{message-member, member-message, message-ordered}
use Rattle.packer.proofs.rebuilt.WholeLemmas.{whole-stands}

-- the first of two answers
abbrev first_or : {A : Type 0} → Option A → Option A → Option A
first_or None other = other
first_or (Some found) other = Some found

first_held-or : {A : Type 0} (these those : List (Bool × A))
    → first_held (these ++ those) ≡ first_or (first_held these) (first_held those)
first_held-or [] those = refl
first_held-or ((true, x) ∷ these) those = refl
first_held-or ((false, x) ∷ these) those = first_held-or these those

again : {A : Type 0} (f d l : Option A)
    → first_or (first_or f d) (first_or f l) ≡ first_or f (first_or d l)
again None d l = refl
again (Some found) d l = refl

-- conditions that never hold may go, and so may those that are tried again
skipped : {A : Type 0} (front these those rest last : List (Bool × A)) → first_held these ≡ None
    → first_held those ≡ None
    → first_held ((front ++ (these ++ (those ++ rest))) ++ (front ++ last)) ≡ first_held
    (front ++ (rest ++ last))
skipped front these those rest last h k =
    let inner : first_held (these ++ (those ++ rest)) ≡ first_held rest =
    first_held-or these (those ++ rest) ∙ ap (λ o. first_or o (first_held (those ++ rest))) h
    ∙ first_held-or those rest ∙ ap (λ o. first_or o (first_held rest)) k
    in
    first_held-or (front ++ (these ++ (those ++ rest))) (front ++ last)
    ∙ ap (λ o. first_or o (first_held (front ++ last)))
    (first_held-or front (these ++ (those ++ rest)) ∙ ap (first_or (first_held front)) inner)
    ∙ ap (first_or (first_or (first_held front) (first_held rest))) (first_held-or front last)
    ∙ again (first_held front) (first_held rest) (first_held last)
    ∙ ap (first_or (first_held front)) (sym (first_held-or rest last))
    ∙ sym (first_held-or front (rest ++ last))

-- each name has its field, with its width
presence-none : (fields : List FieldValue) (names : List FieldName)
    → AllPairs (λ f g. f.at ≢ g.at) fields
    → ((name : FieldName) → Contains names name → (f : FieldValue) × Contains fields f
    × (f.at ≡ at_name name) × (length f.value ≡ bits_of name))
    → first_held (presence fields names) ≡ None
presence-none fields [] once h = refl
presence-none fields (name ∷ names) once h =
    let f = h name (Contains-first name names) in
    let found : value_in fields name ≡ Some f.0.value =
    value_in-there fields name f.0 f.1 f.2
    ∙ ap Some (ap (value_of fields) (sym f.2) ∙ value_of-own fields f.0 once f.1)
    in
    rw (found, eq-eqb (length f.0.value) (bits_of name) f.3)
    (presence-none fields names once
    (λ other among. h other (Contains-rest name names other among)))

standing-none : (rank position : ℕ) (fields : List FieldValue) → AscendsAfter rank position fields
    → ((f : FieldValue) → Contains fields f → is_possible f.at.name f.at.position ≡ true)
    → ((f : FieldValue) → Contains fields f → is_whole f.at.name f.value ≡ true)
    → first_held (standing rank position fields) ≡ None
standing-none rank position [] asc possible whole = refl
standing-none rank position (f ∷ fields) asc possible whole =
    rw (possible f (Contains-first f fields), asc.0, whole f (Contains-first f fields))
    (standing-none (rank_of f.at.name) f.at.position fields asc.1
    (λ g among. possible g (Contains-rest f fields g among))
    (λ g among. whole g (Contains-rest f fields g among)))

-- an entry of an admitted rule is of a field that a message can have
option_possible : (number position : ℕ) → (position == 0) ≡ false
    → is_option_at (CoapOption number) position ≡ true
    → is_possible (CoapOption number) position ≡ true
option_possible number position z at =
    let parts = and_parts (nat_le number 65535) (nat_le position 65535) at in
    and_from (nat_le number 65535 && nat_le 1 position) (nat_le position 65535)
    (and_from (nat_le number 65535) (nat_le 1 position) parts.0
    (le-leb 1 position (omega (arith, eqb-false position 0 z))))
    parts.1

possible_by : (name : FieldName) (position : ℕ) → same_layer (layer_of name) layer.Coap ≡ true
    → (position == 0) ≡ false → (is_option name ≡ false → position ≡ 1)
    → is_option_at name position ≡ true → is_possible name position ≡ true
possible_by (CoapOption number) position c z one at = option_possible number position z at
possible_by CoapVersion position c z one at = eq-eqb position 1 (one refl)
possible_by CoapType position c z one at = eq-eqb position 1 (one refl)
possible_by CoapTkl position c z one at = eq-eqb position 1 (one refl)
possible_by CoapCode position c z one at = eq-eqb position 1 (one refl)
possible_by CoapMid position c z one at = eq-eqb position 1 (one refl)
possible_by CoapToken position c z one at = eq-eqb position 1 (one refl)
possible_by _ position c z one at = absurd (true≢false (sym c))

entry_possible : (e : EntryData) → shape_wrong e ≡ false
    → same_layer (layer_of e.name) layer.Coap ≡ true → is_option_at e.name e.position ≡ true
    → is_possible e.name e.position ≡ true
entry_possible e h c at =
    let parts =
    or_parts (not (is_length_of e.name e.length) || (e.position == 0))
    (nat_lt 1 e.position && not (is_option e.name)) h in
    possible_by e.name e.position c
    (or_parts (not (is_length_of e.name e.length)) (e.position == 0) parts.0).1
    (λ o. ap (λ (place : FieldAt). place.position) (first-position e h o)) at

module _ (rule : RuleData) (direction : Direction) (fields : List FieldValue)
    (admitted : IsAdmitted rule) (restored : AreRestored rule direction fields) where
  same : IsSameSet rule direction fields
  same = same-restored rule restored.iids direction fields restored.stands.restored

  once : AllPairs (λ f g. f.at ≢ g.at) fields
  once = restored.stands.sized.each_once

  abbrev mine : List FieldValue
  mine = message_fields fields

  heads : Heads rule direction
  heads = Heads-from_reads rule direction admitted restored.reading

  holds_at : (e : EntryData) → Contains (covered rule direction) e → EntryHolds (stack_of rule) e
  holds_at e among =
      EntryHolds-from_IsAdmitted rule admitted e
      (unfilter (λ d. covers d.direction direction) rule.entries e among).0

  -- a number of the headers that isn't a length stays
  number-same : (size : ℕ) (name : FieldName) (number : ℕ)
      → Contains (fields_of_stack (fixed_headers (stack_of rule))) name
      → (same_name name IpPayloadLength || same_name name UdpLength) ≡ false
      → has_number (filled_headers rule direction fields size) name number ≡ has_number fields name
      number
  number-same size name number among other =
      let e = heads.each_name name among in
      let is : e.0.name ≡ name = ap (λ (at : FieldAt). at.name) e.2 in
      let plain : filled_value (size_after (stack_of rule) size) e.0
      (value_of fields (field_of e.0)) ≡ value_of fields (field_of e.0) =
      rw (is, other, and-false (is_compute e.0.action)) refl
      in
      let value : value_of (filled_headers rule direction fields size) (at_name name) ≡ value_of
      fields (at_name name) =
      ap (value_of (filled_headers rule direction fields size)) (sym e.2)
      ∙ heads-value rule direction fields size e.0 heads e.1 ∙ plain ∙ ap (value_of fields) e.2
      in
      let found : value_in (filled_headers rule direction fields size) name ≡ Some
      (value_of fields (at_name name)) =
      all-at (λ m. value_in (filled_headers rule direction fields size) m ≡ Some
      (header_values rule direction fields size m))
      (fields_of_stack (fixed_headers (stack_of rule)))
      (heads-found rule direction fields size heads) name among
      ∙ ap Some value
      in
      let f = same.each_entry e.0 e.1 in
      ap (is_number (bits_of name) number)
      (found ∙ sym (value_in-there fields name f.0 f.1 (sym f.2 ∙ e.2)))

  -- the conditions of the headers are those that are listed
  value_refusals-ip : (size : ℕ) → stack_of rule ≡ stack.Ip
      → value_refusals stack.Ip (filled_headers rule direction fields size) size ≡ number_faults
      stack.Ip fields ++ length_faults stack.Ip (filled_headers rule direction fields size) size
  value_refusals-ip size s =
      rw (number-same size IpVersion 6
      (subst (λ (of : Stack). Contains (fields_of_stack (fixed_headers of)) IpVersion) (sym s)
      (0, omega arith, refl)) refl) refl

  value_refusals-udp : (size : ℕ) → fixed_headers (stack_of rule) ≡ stack.IpUdp
      → value_refusals stack.IpUdp (filled_headers rule direction fields size) size ≡ number_faults
      stack.IpUdp fields ++ length_faults stack.IpUdp (filled_headers rule direction fields size)
      size
  value_refusals-udp size s =
      rw (
        number-same size IpVersion 6
            (subst (λ (of : Stack). Contains (fields_of_stack of) IpVersion) (sym s)
            (0, omega arith, refl)) refl,
        number-same size IpNextHeader 17
            (subst (λ (of : Stack). Contains (fields_of_stack of) IpNextHeader) (sym s)
            (4, omega arith, refl)) refl,
      )
      refl

  -- without CoAP
  tried-ip : (body : List ℕ) → stack_of rule ≡ stack.Ip
      → made_tests rule direction fields body ≡ map
      (λ condition. (condition.0, wrong_field condition.1))
      (value_faults rule direction fields (length body))
  tried-ip body s =
      ap (λ of. message_tests of fields ++ header_tests of
      (filled_headers rule direction fields (length body)) (length body)) s
      ∙ ap (map (λ condition. (condition.0, wrong_field condition.1)))
      (value_refusals-ip (length body) s)
      ∙ ap (λ of. map (λ condition. (condition.0, wrong_field condition.1))
      (number_faults of
      fields ++ (message_faults of fields ++ length_faults of
      (filled_headers rule direction fields (length body)) (length body)))) (sym s)

  tried-udp : (body : List ℕ) → stack_of rule ≡ stack.IpUdp
      → made_tests rule direction fields body ≡ map
      (λ condition. (condition.0, wrong_field condition.1))
      (value_faults rule direction fields (length body))
  tried-udp body s =
      ap (λ of. message_tests of fields ++ header_tests of
      (filled_headers rule direction fields (length body)) (length body)) s
      ∙ ap (map (λ condition. (condition.0, wrong_field condition.1)))
      (value_refusals-udp (length body) (ap fixed_headers s))
      ∙ ap (λ of. map (λ condition. (condition.0, wrong_field condition.1))
      (number_faults of
      fields ++ (message_faults of fields ++ length_faults of
      (filled_headers rule direction fields (length body)) (length body)))) (sym s)

  -- each field that every message has is among the restored ones
  there : stack_of rule ≡ stack.IpUdpCoap → (name : FieldName) → Contains coap_fields name
      → (f : FieldValue) × Contains mine f × (f.at ≡ at_name name) × (length f.value ≡ bits_of name)
  there s name among =
      let listed : Contains (fields_of_stack (stack_of rule)) name =
      subst (λ (of : Stack). Contains (fields_of_stack of) name) (sym s)
      (Contains-append_right (ip_fields ++ udp_fields) coap_fields name among)
      in
      let some =
      passes-some (λ e. same_name e.name name) (covered rule direction)
      (passes-each (has_field rule direction) (fields_of_stack (stack_of rule)) restored.reading
      name listed) in
      let is : some.0.name ≡ name = same_name-true some.0.name name some.2 in
      let option : is_option some.0.name ≡ false = ap is_option is
      ∙ fails-each is_option coap_fields refl name among in
      let place : field_of some.0 ≡ at_name name =
      first-position some.0 (holds_at some.0 some.1).shape option ∙ ap at_name is in
      let f = same.each_entry some.0 some.1 in
      let at : f.0.at ≡ at_name name = sym f.2 ∙ place in
      let coap : same_layer (layer_of f.0.at.name) layer.Coap ≡ true =
      ap (λ (x : FieldAt). same_layer (layer_of x.name) layer.Coap) at
      ∙ passes-each (λ n. same_layer (layer_of n) layer.Coap) coap_fields refl name among
      in
      let width : length f.0.value ≡ bits_of f.0.at.name =
      width-known (width_of f.0.at.name) f.0.value
      (ap (λ (x : FieldAt). is_some (width_of x.name)) at
      ∙ passes-each (λ n. is_some (width_of n)) coap_fields refl name among)
      (restored.stands.sized.width_holds f.0 f.1)
      in
      (f.0, member-message fields f.0 f.1 coap, at, width ∙ ap (λ (x : FieldAt). bits_of x.name) at)

  possible : HasOptions (covered rule direction) → (f : FieldValue) → Contains mine f
      → is_possible f.at.name f.at.position ≡ true
  possible options f among =
      let member = message-member fields f among in
      let e = same.each_field f member.0 in
      let coap : same_layer (layer_of e.0.name) layer.Coap ≡ true =
      ap (λ (x : FieldAt). same_layer (layer_of x.name) layer.Coap) e.2 ∙ member.1 in
      subst (λ (x : FieldAt). is_possible x.name x.position ≡ true) e.2
      (entry_possible e.0 (holds_at e.0 e.1).shape coap
      (passes-each (λ d. is_option_at d.name d.position) (covered rule direction) options e.0
      e.1))

  whole : (f : FieldValue) → Contains mine f → is_whole f.at.name f.value ≡ true
  whole f among =
      whole-stands rule restored.iids direction fields restored.bits restored.rest admitted
      restored.stands f (message-member fields f among).0

  -- so neither presence nor order of the message's fields fails
  present-none : stack_of rule ≡ stack.IpUdpCoap → first_held (presence mine coap_fields) ≡ None
  present-none s =
      presence-none mine coap_fields (ascends-once 0 0 mine (message-ordered fields once)) (there s)

  order-none : HasOptions (covered rule direction) → first_held (standing 0 0 mine) ≡ None
  order-none options = standing-none 0 0 mine (message-ordered fields once) (possible options) whole

  coap-listed : (body : List ℕ) → stack_of rule ≡ stack.IpUdpCoap
      → value_faults rule direction fields (length body) ≡ front_tests
      fields ++ ((message_value_refusals mine ++ gaps 0 0 mine) ++ length_faults stack.IpUdpCoap
      (filled_headers rule direction fields (length body)) (length body))
  coap-listed body s =
      ap (λ of. number_faults of
      fields ++ (message_faults of fields ++ length_faults of
      (filled_headers rule direction fields (length body)) (length body))) s

  coap-tried : (body : List ℕ) → stack_of rule ≡ stack.IpUdpCoap
      → made_tests rule direction fields body ≡ map
      (λ condition. (condition.0, wrong_field condition.1))
      ((front_tests fields ++ message_refusals mine) ++ (front_tests fields ++ length_faults
      stack.IpUdpCoap (filled_headers rule direction fields (length body)) (length body)))
  coap-tried body s =
      ap (λ of. message_tests of fields ++ header_tests of
      (filled_headers rule direction fields (length body)) (length body)) s
      ∙ ap (λ x. map (λ condition. (condition.0, wrong_field condition.1))
      (front_tests fields ++ message_refusals mine) ++ map
      (λ condition. (condition.0, wrong_field condition.1)) x)
      (value_refusals-udp (length body) (ap fixed_headers s))
      ∙ sym (map-append (λ condition. (condition.0, wrong_field condition.1))
      (front_tests fields ++ message_refusals mine)
      (front_tests fields ++ length_faults stack.IpUdpCoap
      (filled_headers rule direction fields (length body)) (length body)))

  tried-coap : (body : List ℕ) → stack_of rule ≡ stack.IpUdpCoap
      → HasOptions (covered rule direction)
      → first_held (made_tests rule direction fields body) ≡ first_held
      (map (λ condition. (condition.0, wrong_field condition.1))
      (value_faults rule direction fields (length body)))
  tried-coap body s options =
      let last =
      length_faults stack.IpUdpCoap (filled_headers rule direction fields (length body))
      (length body) in
      ap first_held (coap-tried body s)
      ∙ first_held-map wrong_field
      ((front_tests fields ++ message_refusals mine) ++ (front_tests fields ++ last))
      ∙ ap (option_map wrong_field)
      (skipped (front_tests fields) (presence mine coap_fields) (standing 0 0 mine)
      (message_value_refusals mine ++ gaps 0 0 mine) last (present-none s) (order-none options)
      ∙ ap first_held (sym (coap-listed body s)))
      ∙ sym (first_held-map wrong_field (value_faults rule direction fields (length body)))

  tried-by : (of : Stack) → stack_of rule ≡ of → (body : List ℕ)
      → HasOptions (covered rule direction)
      → first_held (made_tests rule direction fields body) ≡ first_held
      (map (λ condition. (condition.0, wrong_field condition.1))
      (value_faults rule direction fields (length body)))
  tried-by stack.Ip s body options = ap first_held (tried-ip body s)
  tried-by stack.IpUdp s body options = ap first_held (tried-udp body s)
  tried-by stack.IpUdpCoap s body options = tried-coap body s options

  -- what is tried comes to what is listed
  pub tried-listed : (body : List ℕ) → HasOptions (covered rule direction)
      → first_held (made_tests rule direction fields body) ≡ first_held
      (map (λ condition. (condition.0, wrong_field condition.1))
      (value_faults rule direction fields (length body)))
  tried-listed body options = tried-by (stack_of rule) refl body options

  plain-by : (of : Stack) → stack_of rule ≡ of → IsWithoutCoap of → (body : List ℕ)
      → first_held (made_tests rule direction fields body) ≡ first_held
      (map (λ condition. (condition.0, wrong_field condition.1))
      (value_faults rule direction fields (length body)))
  plain-by stack.Ip s w body = ap first_held (tried-ip body s)
  plain-by stack.IpUdp s w body = ap first_held (tried-udp body s)
  plain-by stack.IpUdpCoap s w body = absurd w

  -- without CoAP, whatever the options
  pub plain-listed : (body : List ℕ) → IsWithoutCoap (stack_of rule)
      → first_held (made_tests rule direction fields body) ≡ first_held
      (map (λ condition. (condition.0, wrong_field condition.1))
      (value_faults rule direction fields (length body)))
  plain-listed body w = plain-by (stack_of rule) refl w body

  -- and where nothing is wrong with what is tried, nothing that is listed is
  pub coap-listed-none : (body : List ℕ) → stack_of rule ≡ stack.IpUdpCoap
      → first_held (message_tests stack.IpUdpCoap fields) ≡ None
      → first_held
      (value_refusals stack.IpUdpCoap (filled_headers rule direction fields (length body))
      (length body)) ≡ None
      → first_held
      (map (λ condition. (condition.0, wrong_field condition.1))
      (value_faults rule direction fields (length body))) ≡ None
  coap-listed-none body s message right =
      let last =
      length_faults stack.IpUdpCoap (filled_headers rule direction fields (length body))
      (length body) in
      let values = message_value_refusals mine ++ gaps 0 0 mine in
      let both : first_held (front_tests fields ++ message_refusals mine) ≡ None =
      none-of (first_held (front_tests fields ++ message_refusals mine))
      (sym (first_held-map wrong_field (front_tests fields ++ message_refusals mine)) ∙ message)
      in
      let front = append-none (front_tests fields) (message_refusals mine) both in
      let ordered = append-none (presence mine coap_fields) (standing 0 0 mine ++ values) front.1 in
      let own = append-none (standing 0 0 mine) values ordered.1 in
      let lengths =
      append-none (front_tests fields) last
      (ap first_held (sym (value_refusals-udp (length body) (ap fixed_headers s))) ∙ right) in
      first_held-map wrong_field (value_faults rule direction fields (length body))
      ∙ ap (option_map wrong_field)
      (ap first_held (coap-listed body s)
      ∙ first_held-append_none (front_tests fields) (values ++ last) front.0
      ∙ first_held-append_none values last own.1
      ∙ lengths.1)
