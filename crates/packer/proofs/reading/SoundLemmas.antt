-- What is read by a rule is a packet that the rule matches, which is its own restored packet, and
-- the bits are its SCHC packet.
use Rattle.std.specs.Prelude.{ℕ, ◌≡◌, ◌-◌, ◌*◌, ◌/◌, ◌≤◌, Bool, true, false, not, ◌&&◌, ◌||◌, List}
use Rattle.std.specs.Prelude.{[], ◌∷◌, ◌++◌, length, drop, map, Option, Some, None, Result, Ok, Err}
use Rattle.std.specs.Prelude.{Contains, IfSome}
use Rattle.std.specs.List.{flat_map}
use Rattle.std.proofs.Common.{arith, ap, refl, sym, ◌∙◌, subst, inl, inr}
use Rattle.std.proofs.lemmas.Bool.{cases_Bool, not-false, false≢true}
use Rattle.std.proofs.lemmas.List.{append_assoc, length-drop}
use Rattle.schc_bits.specs.Bits.{number_bits, octets, bytes_of, AreBytes}
use Rattle.schc_bits.proofs.Octets.{bytes_of-append-drop, AreBytes-bytes_of}
use Rattle.schc_ids.specs.declared.ends.Direction.{Direction}
use Rattle.schc_ids.specs.declared.ends.Iids.{Iids}
use Rattle.schc_ids.specs.declared.faults.UnpackFault.{UnpackFault}
use Rattle.schc_ids.specs.declared.names.FieldName.{FieldName}
use Rattle.schc_ids.specs.declared.names.FieldName.TheVariants.{IpPayloadLength, UdpLength}
use Rattle.schc_ids.specs.declared.names.FieldName.TheVariants.{UdpChecksum, CoapOption}
use Rattle.schc_ids.specs.declared.names.Stack.{Stack}
use Rattle.schc_ids.specs.declared.names.Stack.TheVariants as stack
use Rattle.schc_ids.specs.Names.{same_name, ip_fields, fields_of_stack}
use Rattle.schc_ids.proofs.NamesLemmas.{same_name-true}
use Rattle.rule_model.specs.declared.rule.Length.{Length}
use Rattle.rule_model.specs.declared.rule.Operator.{Operator}
use Rattle.rule_model.specs.declared.rule.Action.{Action}
use Rattle.rule_model.specs.declared.rule.Action.TheVariants.{NotSent, ValueSent, MappingSent, Lsb}
use Rattle.rule_model.specs.declared.rule.Action.TheVariants.{Compute, DevIid, AppIid}
use Rattle.rule_model.specs.declared.value.FieldValue.{FieldValue}
use Rattle.rule_model.specs.declared.value.Computed.{Computed}
use Rattle.rule_model.specs.Data.{EntryData, RuleData}
use Rattle.rule_model.specs.Cover.{covered, field_of, stack_of, is_lossy, is_compute}
use Rattle.rule_model.specs.Findings.{is_computed_by, IsAdmitted}
use Rattle.rule_model.specs.First.{first_held}
use Rattle.rule_model.specs.Matches.{OperatorHolds, LengthHolds, RestoredHolds, computed_value}
use Rattle.rule_model.specs.Matches.{Agrees, Matches}
use Rattle.rule_model.specs.Residue.{value_of, first_target, sent_bits, entry_residue, residue_of}
use Rattle.rule_model.specs.Residue.{restored_by, restored_value, restored_field}
use Rattle.rule_model.specs.Tests.{operator_holds}
use Rattle.rule_model.proofs.EntryRowsLemmas.{AreApart-from_IsAdmitted}
use Rattle.rule_model.proofs.SizedLemmas.{Contains-first, Contains-rest}
use Rattle.rule_model.proofs.TestLemmas.{operator_holds-true}
use Rattle.decompress.specs.Reading.{restore_at}
use Rattle.decompress.specs.Stands.{Stands}
use Rattle.decompress.proofs.LawLemmas.{passes-at, Stands-from_read, value_of-own}
use Rattle.ip_udp_fields.specs.Checksum.{checksum_of}
use Rattle.ip_udp_fields.specs.Join.{value_refusals}
use Rattle.packer.specs.Packets.{computed_over}
use Rattle.packer.specs.Schc.{is_computed_checksum, kept_value, MatchesPacket, IsRestored}
use Rattle.packer.specs.Unpacking.{operator_fault, is_computed_length, filled_value, wrong_field}
use Rattle.packer.specs.Unpacking.{value_faults, packet_faults, filled_headers, body_of, packet_of}
use Rattle.packer.specs.Unpacking.{packet_or, rebuilt, rebuilt_from, reads}
use Rattle.packer.specs.Rebuilding.{AreRestored, HasOptions, header_tests, message_tests}
use Rattle.packer.proofs.rebuilt.FilledLemmas.{value_refusals-none}
use Rattle.packer.proofs.CoverLemmas.{Contains-map, passes-each, mapped-value}
use Rattle.packer.proofs.FirstPartsLemmas.{append-none}
use Rattle.packer.proofs.rebuilt.MadeLemmas.{AreRestored-from_Stands, made_value}
use Rattle.packer.proofs.rebuilt.PutLemmas.{IsPut, same-restored}
use Rattle.packer.proofs.rebuilt.PutPacketLemmas.{put-packet}
use Rattle.packer.proofs.rebuilt.ListedLemmas.{tried-listed}
use Rattle.packer.proofs.reading.KeptLemmas.{compute-ignores, is_compute-true, filled-lossy}
use Rattle.packer.proofs.reading.KeptLemmas.{lossy-checksum, length-computed, computed-names}
use Rattle.packer.proofs.reading.KeptLemmas.{each-fails}

rebuilt_from-ok : (rule : RuleData) (direction : Direction)
    (read : Result (List FieldValue × List Bool) UnpackFault) (packet : List ℕ)
    → rebuilt_from rule direction read ≡ Ok packet → (r : List FieldValue × List Bool)
    × (read ≡ Ok r) × (rebuilt rule direction r.0 (bytes_of r.1) ≡ Ok packet)
rebuilt_from-ok rule direction (Err fault) packet e = absurd (cc)
rebuilt_from-ok rule direction (Ok r) packet e = (r, refl, e)

packet_or-ok : (o : Option UnpackFault) (made packet : List ℕ) → packet_or o made ≡ Ok packet
    → (o ≡ None) × (made ≡ packet)
packet_or-ok (Some fault) made packet e = absurd (cc)
packet_or-ok None made packet e = (refl, cc)

-- no operator, no message and no header is wrong, and the packet is the one that is made
record IsRight (rule : RuleData) (direction : Direction) (fields : List FieldValue)
    (payload packet : List ℕ) : Type 0 where
  operators : first_held (map (operator_fault fields) (covered rule direction)) ≡ None
  message : first_held (message_tests (stack_of rule) fields) ≡ None
  headers : first_held
      (value_refusals (stack_of rule)
      (filled_headers rule direction fields (length (body_of (stack_of rule) fields payload)))
      (length (body_of (stack_of rule) fields payload))) ≡ None
  is : packet_of rule direction fields payload ≡ packet

rebuilt-ok : (rule : RuleData) (direction : Direction) (fields : List FieldValue)
    (payload packet : List ℕ) → IsAdmitted rule → AreRestored rule direction fields
    → HasOptions (covered rule direction) → rebuilt rule direction fields payload ≡ Ok packet
    → IsRight rule direction fields payload packet
unfolding packet_faults
rebuilt-ok rule direction fields payload packet admitted restored options e =
    let body : List ℕ = body_of (stack_of rule) fields payload in
    let operators = map (operator_fault fields) (covered rule direction) in
    let values =
    map (λ condition. (condition.0, wrong_field condition.1))
    (value_faults rule direction fields (length body)) in
    let message = message_tests (stack_of rule) fields in
    let headers =
    header_tests (stack_of rule) (filled_headers rule direction fields (length body))
    (length body) in
    let parts =
    packet_or-ok (first_held (operators ++ values)) (packet_of rule direction fields payload)
    packet e in
    let first = append-none operators values parts.0 in
    let second =
    append-none message headers
    (tried-listed rule direction fields admitted restored body options ∙ first.1) in
    record {
      operators = first.0;
      message = second.0;
      headers =
          value_refusals-none (stack_of rule) (filled_headers rule direction fields (length body))
          (length body) second.1;
      is = parts.1;
    }

computed_length : (name : FieldName) (kind : Length) (value : List Bool)
    → is_computed_by Compute name ≡ true → LengthHolds name kind value
computed_length (CoapOption number) kind value h = absurd (false≢true h)
computed_length name kind value h = tt

restored_by_action : (iids : Iids) (computed : Computed) (name : FieldName) (action : Action)
    (value : List Bool)
    → (action ≡ Compute → IfSome (computed_value computed name) (λ n. value ≡ number_bits 16 n))
    → (action ≡ DevIid → value ≡ number_bits 64 iids.dev)
    → (action ≡ AppIid → value ≡ number_bits 64 iids.app)
    → RestoredHolds iids computed name action value
restored_by_action iids computed name Compute value c d a = c refl
restored_by_action iids computed name DevIid value c d a = d refl
restored_by_action iids computed name AppIid value c d a = a refl
restored_by_action iids computed name NotSent value c d a = tt
restored_by_action iids computed name ValueSent value c d a = tt
restored_by_action iids computed name MappingSent value c d a = tt
restored_by_action iids computed name Lsb value c d a = tt

compute_sends : (action : Action) (kind : Length) (operator : Operator) (targets : List (List Bool))
    (this that : List Bool) → is_compute action ≡ true
    → sent_bits action kind operator targets this ≡ sent_bits action kind operator targets that
compute_sends Compute kind operator targets this that h = refl
compute_sends _ kind operator targets this that h = absurd (false≢true h)

-- what is computed for the UDP checksum, in a stack that has it, is the checksum of the packet
pub checksum-computed : (of : Stack) (packet : List ℕ) → Contains (fields_of_stack of) UdpChecksum
    → computed_value (computed_over of packet) UdpChecksum ≡ Some (checksum_of packet)
checksum-computed stack.Ip packet among =
    absurd (false≢true
    (passes-each (λ n. not (same_name n UdpChecksum)) ip_fields refl UdpChecksum among))
checksum-computed stack.IpUdp packet among = refl
checksum-computed stack.IpUdpCoap packet among = refl

some_number : (o : Option ℕ) (value : List Bool) (number : ℕ) → o ≡ Some number
    → value ≡ number_bits 16 number → IfSome o (λ n. value ≡ number_bits 16 n)
some_number None value number e v = absurd (cc)
some_number (Some n) value number e v = let same : n ≡ number = cc in v
    ∙ ap (number_bits 16) (sym same)

none : (b : Bool) → (b && false) ≡ false
none true = refl
none false = refl

flat-same : (f g : EntryData → List Bool) (entries : List EntryData)
    → ((e : EntryData) → Contains entries e → f e ≡ g e) → flat_map f entries ≡ flat_map g entries
flat-same f g [] h = refl
flat-same f g (e ∷ entries) h =
    ap (λ (bits : List Bool). bits ++ flat_map f entries) (h e (Contains-first e entries))
    ∙ ap (λ (bits : List Bool). g e ++ bits)
    (flat-same f g entries (λ d among. h d (Contains-rest e entries d among)))

-- what is computed isn't what was restored, and all else is
made-plain : (checksum size : ℕ) (e : EntryData) (value : List Bool) → is_compute e.action ≡ false
    → made_value checksum size e value ≡ value
made-plain checksum size e value c =
    let sum : is_computed_checksum e ≡ false = ap (λ b. same_name e.name UdpChecksum && b) c
    ∙ none (same_name e.name UdpChecksum) in
    let with_lengths : is_computed_length e ≡ false = rw c refl in
    rw (sum, with_lengths) refl

-- a computed value is the one that is computed over the packet
made-computed : (of : Stack) (packet : List ℕ) (e : EntryData) (value : List Bool)
    → Contains (fields_of_stack of) e.name → is_computed_by e.action e.name ≡ true
    → is_compute e.action ≡ true
    → IfSome (computed_value (computed_over of packet) e.name)
    (λ n. made_value (checksum_of packet) (length packet - 40) e value ≡ number_bits 16 n)
made-computed of packet e value among computed c =
    elim (cases_Bool (same_name e.name UdpChecksum)) [
      | inl t ↦
          let name : e.name ≡ UdpChecksum = same_name-true e.name UdpChecksum t in
          let sum : is_computed_checksum e ≡ true = rw (t, c) refl in
          some_number (computed_value (computed_over of packet) e.name)
          (made_value (checksum_of packet) (length packet - 40) e value) (checksum_of packet)
          (ap (computed_value (computed_over of packet)) name
          ∙ checksum-computed of packet (subst (Contains (fields_of_stack of)) name among))
          (rw sum refl)
      | inr f ↦
          let sum : is_computed_checksum e ≡ false = rw f refl in
          let names : (same_name e.name IpPayloadLength || same_name e.name UdpLength) ≡ true =
          computed-names e.name
          (subst (λ a. is_computed_by a e.name ≡ true) (is_compute-true e.action c) computed) f
          in
          let with_lengths : is_computed_length e ≡ true = rw (c, names) refl in
          some_number (computed_value (computed_over of packet) e.name)
          (made_value (checksum_of packet) (length packet - 40) e value) (length packet - 40)
          (length-computed of packet e.name among names) (rw (sum, with_lengths) refl)
    ]

-- what the bits say by a rule
pub record IsSaid (rule : RuleData) (iids : Iids) (direction : Direction) (bits : List Bool)
    (packet : List ℕ) : Type 0 where
  pub bytes : AreBytes packet
  pub matching : MatchesPacket rule iids direction packet
  pub own : IsRestored rule direction packet packet
  pub padding : List Bool
  pub short : length padding ≤ 7
  pub bits_are : bits ≡ (residue_of rule direction matching.fields ++ octets
      (drop matching.payload_from packet)) ++ padding

module _ (rule : RuleData) (iids : Iids) (direction : Direction) (fields : List FieldValue)
    (bits rest : List Bool) (packet : List ℕ) (admitted : IsAdmitted rule)
    (stands : Stands rule iids direction fields bits rest)
    (holding : first_held (map (operator_fault fields) (covered rule direction)) ≡ None)
    (made : IsPut rule direction fields (bytes_of rest) packet) where
  abbrev value : EntryData → List Bool
  value e = value_of fields (field_of e)

  abbrev new : EntryData → List Bool
  new e = made_value (checksum_of packet) (length packet - 40) e (value e)

  stays : (e : EntryData) → Contains (covered rule direction) e
      → value e ≡ restored_value iids e (value e)
  stays e among =
      ap (λ (all : List FieldValue). value_of all (field_of e)) stands.restored
      ∙ mapped-value rule direction (λ d. restored_value iids d (value d)) e
      (AreApart-from_IsAdmitted rule admitted) among

  operator : (e : EntryData) → Contains (covered rule direction) e
      → OperatorHolds e.operator e.targets (new e)
  operator e among =
      elim (cases_Bool (is_compute e.action)) [
        | inl c ↦
            subst (λ o. OperatorHolds o e.targets (new e))
            (sym (compute-ignores e.operator e.action
            (passes-at rule direction admitted e among).pair c)) tt
        | inr c ↦
            operator_holds-true e.operator e.targets (new e)
            (ap (operator_holds e.operator e.targets)
            (made-plain (checksum_of packet) (length packet - 40) e (value e) c)
            ∙ not-false (operator_holds e.operator e.targets (value e))
            (each-fails (operator_fault fields) (covered rule direction) holding e among))
      ]

  made_by : (e : EntryData) (action : Action) → Contains (covered rule direction) e
      → e.action ≡ action → is_compute action ≡ false
      → new e ≡ restored_by iids action e.name e.operator e.targets (value e)
  made_by e action among a c =
      made-plain (checksum_of packet) (length packet - 40) e (value e) (ap is_compute a ∙ c)
      ∙ stays e among
      ∙ ap (λ x. restored_by iids x e.name e.operator e.targets (value e)) a

  sendable : (e : EntryData) → Contains (covered rule direction) e
      → LengthHolds e.name e.length (value e)
  sendable e among =
      let own : Contains fields (restored_field iids fields e) =
      subst (λ (all : List FieldValue). Contains all (restored_field iids fields e))
      (sym stands.restored)
      (Contains-map (restored_field iids fields) (covered rule direction) e among)
      in
      subst (LengthHolds e.name e.length)
      (sym (value_of-own fields (restored_field iids fields e) stands.sized.each_once own))
      (stands.sized.sendable (restored_field iids fields e) e own among refl).length_holds

  lengthy : (e : EntryData) → Contains (covered rule direction) e
      → LengthHolds e.name e.length (new e)
  lengthy e among =
      elim (cases_Bool (is_compute e.action)) [
        | inl c ↦
            computed_length e.name e.length (new e)
            (subst (λ a. is_computed_by a e.name ≡ true) (is_compute-true e.action c)
            (passes-at rule direction admitted e among).computed)
        | inr c ↦ subst (LengthHolds e.name e.length)
            (sym (made-plain (checksum_of packet) (length packet - 40) e (value e) c))
            (sendable e among)
      ]

  agreeing : (e : EntryData) → Contains (covered rule direction) e
      → Agrees iids (computed_over (stack_of rule) packet) e (new e)
  agreeing e among =
      record {
        length_holds = lengthy e among;
        operator_holds = operator e among;
        restored_holds =
            restored_by_action iids (computed_over (stack_of rule) packet) e.name e.action (new e)
            (λ a. made-computed (stack_of rule) packet e (value e)
            (made.computed e among (ap is_compute a))
            (passes-at rule direction admitted e among).computed (ap is_compute a))
            (λ a. made_by e DevIid among a refl)
            (λ a. made_by e AppIid among a refl);
      }

  pub matches-made : Matches rule iids direction made.its_fields
      (computed_over (stack_of rule) packet)
  matches-made =
      record {
        same_set = made.same_set;
        agrees = λ f e among used at.
            let own : new e ≡ f.value =
            sym (made.values e used) ∙ ap (value_of made.its_fields) at
            ∙ value_of-own made.its_fields f made.once among
            in
            subst (Agrees iids (computed_over (stack_of rule) packet) e) own (agreeing e used);
      }

  keeps : (e : EntryData) → Contains (covered rule direction) e
      → new e ≡ kept_value (checksum_of packet) e (new e)
  keeps e among =
      elim (cases_Bool (is_lossy e.operator e.action)) [
        | inl l ↦
            let target : new e ≡ first_target e.targets =
            rw (lossy-checksum e l)
            (ap (filled_value (length packet - 40) e) (stays e among)
            ∙ filled-lossy iids (length packet - 40) e (value e) l)
            in
            target ∙ rw l refl
        | inr l ↦
            elim (cases_Bool (is_computed_checksum e)) [
              | inl c ↦ rw (l, c) refl
              | inr c ↦ rw (l, c) refl
            ]
      ]

  pub own-made : IsRestored rule direction packet packet
  own-made =
      record {
        fields = made.its_fields;
        restored_fields = made.its_fields;
        payload_from = made.from;
        is_packet = made.is_packet;
        is_restored = made.is_packet;
        same_fields = refl;
        same_payload = refl;
        values = λ e among.
            made.values e among ∙ keeps e among
            ∙ ap (kept_value (checksum_of packet) e) (sym (made.values e among));
      }

  sends : (e : EntryData) → Contains (covered rule direction) e
      → entry_residue e (value e) ≡ entry_residue e (value_of made.its_fields (field_of e))
  sends e among =
      elim (cases_Bool (is_compute e.action)) [
        | inl c ↦ compute_sends e.action e.length e.operator e.targets (value e)
            (value_of made.its_fields (field_of e)) c
        | inr c ↦ ap (entry_residue e)
            (sym (made.values e among
            ∙ made-plain (checksum_of packet) (length packet - 40) e (value e) c))
      ]

  pub said-made : IsSaid rule iids direction bits packet
  said-made =
      let residue : residue_of rule direction fields ≡ residue_of rule direction made.its_fields =
      flat-same (λ e. entry_residue e (value e))
      (λ e. entry_residue e (value_of made.its_fields (field_of e))) (covered rule direction)
      sends
      in
      let padding : List Bool = drop (8 * (length rest / 8)) rest in
      let payload : octets (drop made.from packet) ++ padding ≡ rest =
      ap (λ (bytes : List ℕ). octets bytes ++ padding) made.its_payload ∙ bytes_of-append-drop rest
      in
      record {
        bytes = made.bytes;
        matching = record {
          fields = made.its_fields;
          payload_from = made.from;
          is_packet = made.is_packet;
          matches = matches-made;
        };
        own = own-made;
        padding = padding;
        short = omega (arith, length-drop (8 * (length rest / 8)) rest);
        bits_are =
            stands.bits_are ∙ ap (λ (x : List Bool). x ++ rest) residue
            ∙ ap (λ (x : List Bool). residue_of rule direction made.its_fields ++ x) (sym payload)
            ∙ sym (append_assoc (residue_of rule direction made.its_fields)
            (octets (drop made.from packet)) padding);
      }

-- what is read by a rule is said by it
pub said-read : (rule : RuleData) (iids : Iids) (direction : Direction) (bits : List Bool)
    (packet : List ℕ) → IsAdmitted rule → reads rule direction ≡ true
    → HasOptions (covered rule direction)
    → rebuilt_from rule direction (restore_at rule iids direction bits) ≡ Ok packet
    → IsSaid rule iids direction bits packet
said-read rule iids direction bits packet admitted r options e =
    let read = rebuilt_from-ok rule direction (restore_at rule iids direction bits) packet e in
    let fields : List FieldValue = read.0.0 in
    let rest : List Bool = read.0.1 in
    let stands : Stands rule iids direction fields bits rest =
    Stands-from_read rule iids direction fields bits rest admitted read.1 in
    let restored : AreRestored rule direction fields =
    AreRestored-from_Stands rule iids direction fields bits rest r stands in
    let right : IsRight rule direction fields (bytes_of rest) packet =
    rebuilt-ok rule direction fields (bytes_of rest) packet admitted restored options read.2 in
    let made : IsPut rule direction fields (bytes_of rest) packet =
    subst (IsPut rule direction fields (bytes_of rest)) right.is
    (put-packet rule direction fields (bytes_of rest) admitted restored
    (same-restored rule iids direction fields stands.restored) stands.sized.each_once
    right.message right.headers (AreBytes-bytes_of rest))
    in
    said-made rule iids direction fields bits rest packet admitted stands right.operators made
