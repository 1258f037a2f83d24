-- What is restored of an entry's value, and the operators that hold of it.
use Rattle.std.specs.Prelude.{ℕ, ◌≡◌, ◌-◌, Bool, true, false, not, ◌&&◌, ◌||◌, if◌then◌else◌, List}
use Rattle.std.specs.Prelude.{[], ◌∷◌, length, map, Option, Some, None, Contains, IfSome}
use Rattle.std.proofs.Common.{arith, ap, refl, sym, ◌∙◌, subst, inl, inr}
use Rattle.std.proofs.lemmas.Bool.{cases_Bool, and_cases, true≢false, false≢true}
use Rattle.schc_bits.specs.Bits.{number_bits}
use Rattle.schc_ids.specs.declared.ends.Direction.{Direction}
use Rattle.schc_ids.specs.declared.ends.Iids.{Iids}
use Rattle.schc_ids.specs.declared.names.FieldName.{FieldName}
use Rattle.schc_ids.specs.declared.names.FieldName.TheVariants.{IpPayloadLength, UdpLength}
use Rattle.schc_ids.specs.declared.names.FieldName.TheVariants.{UdpChecksum}
use Rattle.schc_ids.specs.declared.names.Stack.{Stack}
use Rattle.schc_ids.specs.declared.names.Stack.TheVariants as stack
use Rattle.schc_ids.specs.Ends.{covers}
use Rattle.schc_ids.specs.Names.{same_name, ip_fields, fields_of_stack}
use Rattle.schc_ids.proofs.NamesLemmas.{same_name-true}
use Rattle.rule_model.specs.declared.rule.Operator.{Operator}
use Rattle.rule_model.specs.declared.rule.Operator.TheVariants.{Equal, Ignore, Msb, MatchMapping}
use Rattle.rule_model.specs.declared.rule.Action.{Action}
use Rattle.rule_model.specs.declared.rule.Action.TheVariants.{NotSent, Compute}
use Rattle.rule_model.specs.declared.value.FieldValue.{FieldValue}
use Rattle.rule_model.specs.declared.value.Computed.{Computed}
use Rattle.rule_model.specs.Data.{EntryData, RuleData}
use Rattle.rule_model.specs.Cover.{covered, field_of, is_lossy, is_compute}
use Rattle.rule_model.specs.Findings.{is_allowed_pair, is_computed_by, is_needed, IsAdmitted}
use Rattle.rule_model.specs.First.{first_held}
use Rattle.rule_model.specs.Matches.{computed_value, RestoredHolds, Agrees, Matches}
use Rattle.rule_model.specs.Residue.{value_of, first_target, restored_by, restored_value}
use Rattle.rule_model.specs.Tests.{operator_holds}
use Rattle.rule_model.proofs.TestLemmas.{operator_holds-from}
use Rattle.rule_model.proofs.SizedLemmas.{Contains-first, Contains-rest}
use Rattle.rule_model.proofs.EntryRowsLemmas.{EntryHolds-from_IsAdmitted}
use Rattle.decompress.proofs.SoundLemmas.{Passes}
use Rattle.decompress.proofs.LawLemmas.{unfilter, value_of-there}
use Rattle.decompress.proofs.MatchedLemmas.{restored_value-agrees}
use Rattle.packer.specs.Packets.{computed_over}
use Rattle.packer.specs.Schc.{is_computed_checksum}
use Rattle.packer.specs.Unpacking.{is_computed_length, filled_value}
use Rattle.packer.proofs.CoverLemmas.{Contains-parts, passes-each}

-- ignore and not-sent
pub lossy-parts : (operator : Operator) (action : Action) → is_lossy operator action ≡ true
    → (operator ≡ Ignore) × (action ≡ NotSent)
lossy-parts Ignore NotSent h = (refl, refl)
lossy-parts _ _ h = absurd (false≢true h)

-- the action that computes is Compute
pub is_compute-true : (action : Action) → is_compute action ≡ true → action ≡ Compute
is_compute-true Compute h = refl
is_compute-true _ h = absurd (false≢true h)

compute_pair : (operator : Operator) → is_allowed_pair operator Compute ≡ true → operator ≡ Ignore
compute_pair Ignore h = refl
compute_pair Equal h = absurd (false≢true h)
compute_pair (Msb bits) h = absurd (false≢true h)
compute_pair MatchMapping h = absurd (false≢true h)

-- what computes ignores the value
pub compute-ignores : (operator : Operator) (action : Action)
    → is_allowed_pair operator action ≡ true → is_compute action ≡ true → operator ≡ Ignore
compute-ignores operator action pair h =
    compute_pair operator
    (subst (λ a. is_allowed_pair operator a ≡ true) (is_compute-true action h) pair)

pub ignore-holds : (operator : Operator) (targets : List (List Bool)) (value : List Bool)
    → operator ≡ Ignore → operator_holds operator targets value ≡ true
ignore-holds operator targets value h = ap (λ o. operator_holds o targets value) h

lossy_by : (iids : Iids) (size : ℕ) (operator : Operator) (action : Action) (name : FieldName)
    (targets : List (List Bool)) (value : List Bool) → is_lossy operator action ≡ true
    → (if is_compute action && (same_name name IpPayloadLength || same_name name UdpLength)
    then number_bits 16 size else restored_by iids action name operator targets
    value) ≡ first_target targets
lossy_by iids size Ignore NotSent name targets value h = refl
lossy_by iids size _ _ name targets value h = absurd (false≢true h)

-- a dropped field stands at its target
pub filled-lossy : (iids : Iids) (size : ℕ) (e : EntryData) (value : List Bool)
    → is_lossy e.operator e.action ≡ true
    → filled_value size e (restored_value iids e value) ≡ first_target e.targets
filled-lossy iids size e value h = lossy_by iids size e.operator e.action e.name e.targets value h

none : (b : Bool) → (b && false) ≡ false
none true = refl
none false = refl

-- and isn't computed
pub lossy-checksum : (e : EntryData) → is_lossy e.operator e.action ≡ true
    → is_computed_checksum e ≡ false
lossy-checksum e h =
    ap (λ a. same_name e.name UdpChecksum && is_compute a) (lossy-parts e.operator e.action h).1
    ∙ none (same_name e.name UdpChecksum)

-- what Compute may make, but for the UDP checksum, is the payload length or the UDP length
pub computed-names : (name : FieldName) → is_computed_by Compute name ≡ true
    → same_name name UdpChecksum ≡ false
    → (same_name name IpPayloadLength || same_name name UdpLength) ≡ true
computed-names IpPayloadLength h k = refl
computed-names UdpLength h k = refl
computed-names UdpChecksum h k = absurd (true≢false k)
computed-names name h k = absurd (false≢true h)

payload_computed : (of : Stack) (packet : List ℕ)
    → computed_value (computed_over of packet) IpPayloadLength ≡ Some (length packet - 40)
payload_computed stack.Ip packet = refl
payload_computed stack.IpUdp packet = refl
payload_computed stack.IpUdpCoap packet = refl

udp_computed : (of : Stack) (packet : List ℕ) → Contains (fields_of_stack of) UdpLength
    → computed_value (computed_over of packet) UdpLength ≡ Some (length packet - 40)
udp_computed stack.Ip packet among =
    absurd (false≢true
    (passes-each (λ n. not (same_name n UdpLength)) ip_fields refl UdpLength among))
udp_computed stack.IpUdp packet among = refl
udp_computed stack.IpUdpCoap packet among = refl

-- what is computed of a length
pub length-computed : (of : Stack) (packet : List ℕ) (name : FieldName)
    → Contains (fields_of_stack of) name
    → (same_name name IpPayloadLength || same_name name UdpLength) ≡ true
    → computed_value (computed_over of packet) name ≡ Some (length packet - 40)
length-computed of packet name among h =
    elim (cases_Bool (same_name name IpPayloadLength)) [
      | inl t ↦
          let is : name ≡ IpPayloadLength = same_name-true name IpPayloadLength t in
          ap (computed_value (computed_over of packet)) is ∙ payload_computed of packet
      | inr f ↦
          let is : name ≡ UdpLength =
          same_name-true name UdpLength (sym (ap (λ b. b || same_name name UdpLength) f) ∙ h) in
          ap (computed_value (computed_over of packet)) is
          ∙ udp_computed of packet (subst (Contains (fields_of_stack of)) is among)
    ]

-- where an entry computes its field, a value that agrees with it is the computed number in 16 bits
pub compute-made : (iids : Iids) (computed : Computed) (e : EntryData) (value : List Bool)
    (number : ℕ) → is_compute e.action ≡ true → computed_value computed e.name ≡ Some number
    → RestoredHolds iids computed e.name e.action value → value ≡ number_bits 16 number
compute-made iids computed e value number c n h =
    let made : IfSome (computed_value computed e.name) (λ n. value ≡ number_bits 16 n) =
    subst (λ a. RestoredHolds iids computed e.name a value) (is_compute-true e.action c) h
    in
    subst (λ o. IfSome o (λ n. value ≡ number_bits 16 n)) n made

-- every other value is kept, but for a computed checksum
pub filled-kept : (iids : Iids) (of : Stack) (packet : List ℕ) (e : EntryData) (value : List Bool)
    → Passes of e → (is_compute e.action ≡ true → Contains (fields_of_stack of) e.name)
    → Agrees iids (computed_over of packet) e value → is_lossy e.operator e.action ≡ false
    → is_computed_checksum e ≡ false
    → filled_value (length packet - 40) e (restored_value iids e value) ≡ value
filled-kept iids of packet e value passes among agrees lossy checksum =
    elim (cases_Bool (is_compute e.action)) [
      | inl c ↦
          let other : same_name e.name UdpChecksum ≡ false =
          elim (and_cases (same_name e.name UdpChecksum) (is_compute e.action) checksum) [
            | inl o ↦ o
            | inr n ↦ absurd (true≢false (sym c ∙ n))
          ]
          in
          let names : (same_name e.name IpPayloadLength || same_name e.name UdpLength) ≡ true =
          computed-names e.name
          (subst (λ a. is_computed_by a e.name ≡ true) (is_compute-true e.action c)
          passes.computed) other
          in
          let with_lengths : is_computed_length e ≡ true = rw (c, names) refl in
          rw with_lengths
          (sym (compute-made iids (computed_over of packet) e value (length packet - 40) c
          (length-computed of packet e.name (among c) names) agrees.restored_holds))
      | inr c ↦
          let with_lengths : is_computed_length e ≡ false = rw c refl in
          rw with_lengths
          (restored_value-agrees iids (computed_over of packet) e value passes.pair lossy c
          agrees)
    ]

-- the operator holds of what is restored
pub holds-restored : (iids : Iids) (of : Stack) (computed : Computed) (e : EntryData)
    (value : List Bool) → Passes of e → Agrees iids computed e value
    → operator_holds e.operator e.targets (restored_value iids e value) ≡ true
holds-restored iids of computed e value passes agrees =
    elim (cases_Bool (is_lossy e.operator e.action)) [
      | inl l ↦ ignore-holds e.operator e.targets (restored_value iids e value)
          (lossy-parts e.operator e.action l).0
      | inr l ↦
          elim (cases_Bool (is_compute e.action)) [
            | inl c ↦ ignore-holds e.operator e.targets (restored_value iids e value)
                (compute-ignores e.operator e.action passes.pair c)
            | inr c ↦
                ap (operator_holds e.operator e.targets)
                (restored_value-agrees iids computed e value passes.pair l c agrees)
                ∙ operator_holds-from e.operator e.targets value agrees.operator_holds
          ]
    ]

-- the value of an entry's field agrees with it
pub agrees-at : (rule : RuleData) (iids : Iids) (direction : Direction) (fields : List FieldValue)
    (computed : Computed) (e : EntryData) → Matches rule iids direction fields computed
    → Contains (covered rule direction) e → Agrees iids computed e (value_of fields (field_of e))
agrees-at rule iids direction fields computed e matches among =
    let there = matches.same_set.each_entry e among in
    let g = value_of-there fields there.0 there.1 in
    let value : value_of fields (field_of e) ≡ g.0.value = ap (value_of fields) there.2 ∙ g.3 in
    subst (Agrees iids computed e) (sym value) (matches.agrees g.0 e g.1 among (there.2 ∙ sym g.2))

-- a needed field isn't dropped
pub needed-kept : (rule : RuleData) (direction : Direction) (e : EntryData) → IsAdmitted rule
    → Contains (covered rule direction) e → is_needed e.name ≡ true
    → is_lossy e.operator e.action ≡ false
needed-kept rule direction e admitted among h =
    let holds =
    EntryHolds-from_IsAdmitted rule admitted e
    (unfilter (λ d. covers d.direction direction) rule.entries e among).0 in
    elim (and_cases (is_lossy e.operator e.action) (is_needed e.name) holds.needed) [
      | inl l ↦ l
      | inr n ↦ absurd (true≢false (sym h ∙ n))
    ]

-- none of the conditions holds
pub none-held : {A : Type 0} (f : EntryData → Bool × A) (entries : List EntryData)
    → ((e : EntryData) → Contains entries e → (f e).0 ≡ false) → first_held (map f entries) ≡ None
none-held f [] h = refl
none-held f (e ∷ entries) h =
    rw (h e (Contains-first e entries))
    (none-held f entries (λ d among. h d (Contains-rest e entries d among)))

none_first : {A : Type 0} (b : Bool) (x : A) (o : Option A) → (if b then Some x else o) ≡ None
    → (b ≡ false) × (o ≡ None)
none_first true x o e = absurd (cc)
none_first false x o e = (refl, e)

-- and where none does, each fails
pub each-fails : {A : Type 0} (f : EntryData → Bool × A) (entries : List EntryData)
    → first_held (map f entries) ≡ None → (e : EntryData) → Contains entries e → (f e).0 ≡ false
each-fails f [] h e among = absurd (omega (arith, among.1))
each-fails f (d ∷ entries) h e among =
    let parts = none_first (f d).0 (f d).1 (first_held (map f entries)) h in
    elim (Contains-parts d entries e among) [
      | inl same ↦ subst (λ x. (f x).0 ≡ false) same parts.0
      | inr rest ↦ each-fails f entries parts.1 e rest
    ]
