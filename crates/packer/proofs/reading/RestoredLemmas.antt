-- What was written of a packet that an admitted rule matches is read back: as the packet that the
-- other end restores.
use Rattle.std.specs.Prelude.{ℕ, ◌≡◌, ◌-◌, ◌≤◌, Bool, true, false, not, List, [], ◌∷◌, ◌++◌, length}
use Rattle.std.specs.Prelude.{drop, map, Some, None, Ok, Contains}
use Rattle.std.proofs.Common.{arith, ap, refl, sym, ◌∙◌, subst, inl, inr}
use Rattle.std.proofs.lemmas.Bool.{cases_Bool}
use Rattle.std.proofs.lemmas.List.{append-nil, length-drop}
use Rattle.schc_bits.specs.Bits.{octets, bytes_of, AreBytes}
use Rattle.schc_bits.proofs.Octets.{bytes_of-octets-append, bytes_of-short}
use Rattle.schc_ids.specs.declared.ends.Direction.{Direction}
use Rattle.schc_ids.specs.declared.ends.Iids.{Iids}
use Rattle.schc_ids.specs.declared.names.FieldAt.{FieldAt}
use Rattle.schc_ids.specs.declared.names.FieldName.{FieldName}
use Rattle.schc_ids.specs.declared.names.FieldName.TheVariants.{IpVersion, IpPayloadLength}
use Rattle.schc_ids.specs.declared.names.FieldName.TheVariants.{IpNextHeader, UdpLength}
use Rattle.schc_ids.specs.declared.names.FieldName.TheVariants.{UdpChecksum}
use Rattle.schc_ids.specs.declared.names.Stack.{Stack}
use Rattle.schc_ids.specs.declared.names.Stack.TheVariants as stack
use Rattle.schc_ids.specs.Names.{same_name, fields_of_stack}
use Rattle.rule_model.specs.declared.value.FieldValue.{FieldValue}
use Rattle.rule_model.specs.Data.{EntryData, RuleData}
use Rattle.rule_model.specs.Cover.{covered, field_of, stack_of, is_lossy, is_compute}
use Rattle.rule_model.specs.Findings.{is_needed, IsAdmitted}
use Rattle.rule_model.specs.First.{first_held}
use Rattle.rule_model.specs.Matches.{Agrees, Matches}
use Rattle.rule_model.specs.Residue.{value_of, residue_of, restored_value, restored_fields}
use Rattle.rule_model.specs.Tests.{operator_holds}
use Rattle.decompress.specs.Reading.{restore_at}
use Rattle.decompress.proofs.SoundLemmas.{Passes}
use Rattle.decompress.proofs.LawLemmas.{all-at, passes-at, Stands-from_read}
use Rattle.decompress.proofs.MatchedLemmas.{reads_back}
use Rattle.ip_udp_fields.specs.Layout.{IsWithoutCoap, header_size, fields_in_packet_order}
use Rattle.ip_udp_fields.specs.Fields.{at_name, field_in, fields_in, FieldsOf}
use Rattle.ip_udp_fields.specs.Checksum.{checksum_of}
use Rattle.ip_udp_fields.specs.Join.{value_in, value_refusals}
use Rattle.ip_udp_fields.proofs.JoinLemmas.{join_refusal-none}
use Rattle.ip_udp_fields.proofs.RefusalLemmas.{header_size-is_packet}
use Rattle.ip_udp_fields.proofs.SplitLemmas.{joins-again, without-coap}
use Rattle.packer.specs.Packets.{computed_over}
use Rattle.packer.specs.Schc.{is_computed_checksum, kept_value, IsRestored}
use Rattle.packer.specs.Unpacking.{operator_fault, filled_value, size_after, filled_headers}
use Rattle.packer.specs.Unpacking.{body_of, packet_around, packet_of, packet_or, rebuilt}
use Rattle.packer.specs.Unpacking.{rebuilt_from, reads}
use Rattle.packer.specs.Rebuilding.{AreRestored, packet_behind_headers}
use Rattle.packer.proofs.rebuilt.ListedLemmas.{plain-listed}
use Rattle.packer.proofs.rebuilt.FilledLemmas.{header_tests-none, rebuilt-made, plain-made}
use Rattle.packer.proofs.rebuilt.PlainLemmas.{body-plain}
use Rattle.packer.proofs.CoverLemmas.{mapped-value, value_in-there, Covers, Covers-from_reads}
use Rattle.packer.proofs.rebuilt.RestoredHeadersLemmas.{header_values, headers-value, headers-found}
use Rattle.packer.proofs.rebuilt.MadeLemmas.{AreRestored-from_Stands, made_value, IsMade}
use Rattle.packer.proofs.rebuilt.MadeLemmas.{size-of-payload, made-packet}
use Rattle.packer.proofs.PacketFieldsLemmas.{fields-PacketOf, reads-matching, field-named}
use Rattle.packer.proofs.writing.SizedFieldsLemmas.{sized-packet}
use Rattle.packer.proofs.reading.KeptLemmas.{filled-lossy, lossy-checksum, filled-kept}
use Rattle.packer.proofs.reading.KeptLemmas.{holds-restored, agrees-at, needed-kept, none-held}

-- the conditions on the values see few names
pub value_refusals-by : (of : Stack) (a b : List FieldValue) (size : ℕ) → IsWithoutCoap of
    → ((n : FieldName) → Contains (fields_of_stack of) n → is_needed n ≡ true
    → same_name n UdpChecksum ≡ false → value_in a n ≡ value_in b n)
    → value_refusals of a size ≡ value_refusals of b size
value_refusals-by stack.Ip a b size w h =
    rw (
      h IpVersion (0, omega arith, refl) refl refl,
      h IpPayloadLength (3, omega arith, refl) refl
          refl,
    ) refl
value_refusals-by stack.IpUdp a b size w h =
    rw (
      h IpVersion (0, omega arith, refl) refl refl,
      h IpPayloadLength (3, omega arith, refl) refl refl,
      h IpNextHeader (4, omega arith, refl) refl refl,
      h UdpLength (12, omega arith, refl) refl refl,
    )
    refl
value_refusals-by stack.IpUdpCoap a b size w h = absurd w

-- the fields of a packet under these names are of these names in their order, each at position 1
pub ats : (direction : Direction) (packet : List ℕ) (names : List FieldName)
    → map (λ (f : FieldValue). f.at) (map (field_in direction packet) names) ≡ map at_name names
ats direction packet [] = refl
ats direction packet (name ∷ names) =
    ap (λ (rest : List FieldAt). at_name name ∷ rest) (ats direction packet names)

ats-packet : (of : Stack) (direction : Direction) (packet : List ℕ) (fields : List FieldValue)
    (from : ℕ) → FieldsOf of direction packet fields from
    → map (λ (f : FieldValue). f.at) fields ≡ map at_name (fields_in_packet_order of direction)
unfolding fields_in
ats-packet of direction packet fields from p = ap (map (λ (f : FieldValue). f.at)) p.its_fields
    ∙ ats direction packet (fields_in_packet_order of direction)

-- what is made of an entry's value is what the other end has
pub made-kept : (iids : Iids) (of : Stack) (packet : List ℕ) (e : EntryData) (value : List Bool)
    (checksum : ℕ) → Passes of e
    → (is_compute e.action ≡ true → Contains (fields_of_stack of) e.name)
    → Agrees iids (computed_over of packet) e value
    → made_value checksum (length packet - 40) e (restored_value iids e value) ≡ kept_value checksum
    e value
made-kept iids of packet e value checksum passes among agrees =
    elim (cases_Bool (is_lossy e.operator e.action)) [
      | inl l ↦ rw (l, lossy-checksum e l) (filled-lossy iids (length packet - 40) e value l)
      | inr l ↦
          elim (cases_Bool (is_computed_checksum e)) [
            | inl c ↦ rw (l, c) refl
            | inr c ↦ rw (l, c) (filled-kept iids of packet e value passes among agrees l c)
          ]
    ]

-- what was read back
pub record IsReadBack (rule : RuleData) (iids : Iids) (direction : Direction) (packet : List ℕ)
    (bits : List Bool) : Type 0 where
  pub restored : List ℕ
  pub restores : IsRestored rule direction packet restored
  pub are_bytes : AreBytes restored
  pub reading : reads rule direction ≡ true
  pub is_read : rebuilt_from rule direction (restore_at rule iids direction bits) ≡ Ok restored

module _ (rule : RuleData) (iids : Iids) (direction : Direction) (packet : List ℕ)
    (fields : List FieldValue) (from : ℕ) (admitted : IsAdmitted rule)
    (p : FieldsOf (stack_of rule) direction packet fields from)
    (matches : Matches rule iids direction fields (computed_over (stack_of rule) packet)) where
  reading : reads rule direction ≡ true
  reading =
      reads-matching rule iids direction packet fields from (computed_over (stack_of rule) packet) p
      matches

  covering : Covers rule direction
  covering =
      Covers-from_reads rule direction admitted (without-coap (stack_of rule) packet p.is_packet)
      reading

  long : header_size (stack_of rule) ≤ length packet
  long = header_size-is_packet (stack_of rule) packet p.is_packet

  size : size_after (stack_of rule) (length (drop from packet)) ≡ length packet - 40
  size =
      size-of-payload (stack_of rule) (length (drop from packet)) (length packet) covering.without
      long
      (length-drop from packet ∙ ap (λ n. length packet - n) p.its_payload)

  restored : (e : EntryData) → Contains (covered rule direction) e
      → value_of (restored_fields rule iids direction fields) (field_of e) ≡ restored_value iids e
      (value_of fields (field_of e))
  restored e among =
      mapped-value rule direction (λ d. restored_value iids d (value_of fields (field_of d))) e
      covering.apart among

  no_operator : first_held
      (map (operator_fault (restored_fields rule iids direction fields))
      (covered rule direction)) ≡ None
  no_operator =
      none-held (operator_fault (restored_fields rule iids direction fields))
      (covered rule direction)
      (λ e among.
      ap not
      (ap (operator_holds e.operator e.targets) (restored e among)
      ∙ holds-restored iids (stack_of rule) (computed_over (stack_of rule) packet) e
      (value_of fields (field_of e)) (passes-at rule direction admitted e among)
      (agrees-at rule iids direction fields (computed_over (stack_of rule) packet) e matches
      among)))

  abbrev headers : List FieldValue
  headers =
      filled_headers rule direction (restored_fields rule iids direction fields)
      (length (drop from packet))

  kept_name : (n : FieldName) → Contains (fields_of_stack (stack_of rule)) n → is_needed n ≡ true
      → same_name n UdpChecksum ≡ false → value_in headers n ≡ value_in fields n
  kept_name n among needed other =
      let e = covering.each_name n among in
      let name : e.0.name ≡ n = ap (λ (at : FieldAt). at.name) e.2 in
      let lossy : is_lossy e.0.operator e.0.action ≡ false =
      needed-kept rule direction e.0 admitted e.1 (ap is_needed name ∙ needed) in
      let checksum : is_computed_checksum e.0 ≡ false = rw (name, other) refl in
      let value : header_values rule direction (restored_fields rule iids direction fields)
      (length (drop from packet)) n ≡ value_of fields (at_name n) =
      ap (value_of headers) (sym e.2)
      ∙ headers-value rule direction (restored_fields rule iids direction fields)
      (length (drop from packet)) e.0 covering e.1
      ∙ ap (λ m. filled_value m e.0
      (value_of (restored_fields rule iids direction fields) (field_of e.0))) size
      ∙ ap (filled_value (length packet - 40) e.0) (restored e.0 e.1)
      ∙ filled-kept iids (stack_of rule) packet e.0 (value_of fields (field_of e.0))
      (passes-at rule direction admitted e.0 e.1) (λ c. (covering.each_entry e.0 e.1).0)
      (agrees-at rule iids direction fields (computed_over (stack_of rule) packet) e.0 matches e.1)
      lossy checksum
      ∙ ap (value_of fields) e.2
      in
      all-at (λ m. value_in headers m ≡ Some
      (header_values rule direction (restored_fields rule iids direction fields)
      (length (drop from packet)) m)) (fields_of_stack (stack_of rule))
      (headers-found rule direction (restored_fields rule iids direction fields)
      (length (drop from packet)) covering) n among
      ∙ ap Some value
      ∙ sym (value_in-there fields n (field_in direction packet n)
      (field-named (stack_of rule) direction packet fields from n p among) refl)

  right : first_held (value_refusals (stack_of rule) headers (length (drop from packet))) ≡ None
  right =
      ap first_held
      (value_refusals-by (stack_of rule) headers fields (length (drop from packet))
      covering.without kept_name)
      ∙ (join_refusal-none (stack_of rule) direction fields (length (drop from packet))
      (joins-again (stack_of rule) direction packet fields from p)).right

  reads_fields : (rest : List Bool)
      → restore_at rule iids direction (residue_of rule direction fields ++ rest) ≡ Ok
      (restored_fields rule iids direction fields, rest)
  reads_fields rest =
      reads_back rule iids direction fields (computed_over (stack_of rule) packet) rest admitted
      matches
      (sized-packet rule iids direction (stack_of rule) packet fields from
      (computed_over (stack_of rule) packet) admitted
      (fields-PacketOf (stack_of rule) direction packet fields from covering.without p) matches)

  can_be_made : AreRestored rule direction (restored_fields rule iids direction fields)
  can_be_made =
      AreRestored-from_Stands rule iids direction (restored_fields rule iids direction fields)
      (residue_of rule direction fields ++ []) [] reading
      (Stands-from_read rule iids direction (restored_fields rule iids direction fields)
      (residue_of rule direction fields ++ []) [] admitted (reads_fields []))

  pub rebuilt-restored : rebuilt rule direction (restored_fields rule iids direction fields)
      (drop from packet) ≡ Ok
      (packet_of rule direction (restored_fields rule iids direction fields) (drop from packet))
  unfolding packet_behind_headers
  rebuilt-restored =
      let all : List FieldValue = restored_fields rule iids direction fields in
      rebuilt-made rule direction all (drop from packet) no_operator
      (plain-listed rule direction all admitted can_be_made
      (body_of (stack_of rule) all (drop from packet)) covering.without)
      ∙ plain-made rule direction all (drop from packet) covering.without
      ∙ ap (λ found. packet_or found (packet_around rule direction all (drop from packet)))
      (header_tests-none (stack_of rule) headers (length (drop from packet)) right)
      ∙ ap (λ body. Ok (packet_around rule direction all body))
      (sym (body-plain (stack_of rule) all (drop from packet) covering.without))

  pub made-restored : AreBytes (drop from packet)
      → IsMade rule direction (restored_fields rule iids direction fields) (drop from packet)
      (packet_of rule direction (restored_fields rule iids direction fields) (drop from packet))
  made-restored bytes =
      made-packet rule direction (restored_fields rule iids direction fields) (drop from packet)
      covering can_be_made right bytes

  pub IsRestored-from_made : (made : List ℕ)
      → IsMade rule direction (restored_fields rule iids direction fields) (drop from packet) made
      → IsRestored rule direction packet made
  IsRestored-from_made made m =
      let here : header_size (stack_of rule) ≡ from = sym p.its_payload in
      let own : FieldsOf (stack_of rule) direction made m.its_fields from =
      subst (λ n. FieldsOf (stack_of rule) direction made m.its_fields n) here m.is_packet in
      let same_size : length made - 40 ≡ length packet - 40 =
      sym
      (size-of-payload (stack_of rule) (length (drop from packet)) (length made) covering.without
      (header_size-is_packet (stack_of rule) made m.is_packet.is_packet)
      (ap (λ (bytes : List ℕ). length bytes) (sym m.its_payload)
      ∙ length-drop (header_size (stack_of rule)) made))
      ∙ size
      in
      record {
        fields = fields;
        restored_fields = m.its_fields;
        payload_from = from;
        is_packet = fields-PacketOf (stack_of rule) direction packet fields from covering.without p;
        is_restored =
            fields-PacketOf (stack_of rule) direction made m.its_fields from covering.without own;
        same_fields = ats-packet (stack_of rule) direction made m.its_fields from own
            ∙ sym (ats-packet (stack_of rule) direction packet fields from p);
        same_payload = ap (λ n. drop n made) (sym here) ∙ m.its_payload;
        values = λ e among.
            m.values e among
            ∙ ap (λ n. made_value (checksum_of made) n e
            (value_of (restored_fields rule iids direction fields) (field_of e))) same_size
            ∙ ap (made_value (checksum_of made) (length packet - 40) e) (restored e among)
            ∙ made-kept iids (stack_of rule) packet e (value_of fields (field_of e))
            (checksum_of made) (passes-at rule direction admitted e among)
            (λ c. (covering.each_entry e among).0)
            (agrees-at rule iids direction fields (computed_over (stack_of rule) packet) e matches
            among);
      }

  pub read-restored : (padding : List Bool) → AreBytes (drop from packet) → length padding ≤ 7
      → rebuilt_from rule direction
      (restore_at rule iids direction
      (residue_of rule direction fields ++ (octets (drop from packet) ++ padding))) ≡ Ok
      (packet_of rule direction (restored_fields rule iids direction fields) (drop from packet))
  read-restored padding bytes short =
      let whole : bytes_of (octets (drop from packet) ++ padding) ≡ drop from packet =
      bytes_of-octets-append (drop from packet) padding bytes
      ∙ ap (λ (rest : List ℕ). drop from packet ++ rest)
      (bytes_of-short padding (omega (arith, short)))
      ∙ append-nil (drop from packet)
      in
      ap (rebuilt_from rule direction) (reads_fields (octets (drop from packet) ++ padding))
      ∙ ap (rebuilt rule direction (restored_fields rule iids direction fields)) whole
      ∙ rebuilt-restored

  -- what a rule without CoAP writes of a packet that it matches is read back, whatever the padding
  pub IsReadBack-fields : (padding : List Bool) → AreBytes (drop from packet) → length padding ≤ 7
      → IsReadBack rule iids direction packet
      (residue_of rule direction fields ++ (octets (drop from packet) ++ padding))
  IsReadBack-fields padding bytes short =
      let m = made-restored bytes in
      record {
        restored =
            packet_of rule direction (restored_fields rule iids direction fields)
            (drop from packet);
        restores =
            IsRestored-from_made
            (packet_of rule direction (restored_fields rule iids direction fields)
            (drop from packet)) m;
        are_bytes = m.bytes;
        reading = reading;
        is_read = read-restored padding bytes short;
      }
