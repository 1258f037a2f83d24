-- A restored packet differs from the packet only in the fields that are dropped.
use Rattle.std.specs.Prelude.{ℕ, ◌≡◌, ◌≢◌, ◌+◌, ◌*◌, ◌≤◌, Bool, true, false, not, ◌&&◌}
use Rattle.std.specs.Prelude.{if◌then◌else◌, List, [], ◌∷◌, ◌++◌, length, take, drop, map, AllPairs}
use Rattle.std.specs.Prelude.{Contains}
use Rattle.std.specs.List.{list_any}
use Rattle.std.proofs.Common.{arith, ap, refl, sym, ◌∙◌, subst, inl, inr}
use Rattle.std.proofs.lemmas.Bool.{cases_Bool, and_parts, and_from, true≢false, false≢true}
use Rattle.std.proofs.lemmas.List.{drop-drop, length-drop}
use Rattle.std.proofs.Math.Seq.{take-add}
use Rattle.schc_bits.specs.Bits.{octets, AreBytes}
use Rattle.schc_bits.proofs.Octets.{take-octets, drop-octets, octets-injective}
use Rattle.schc_ids.specs.declared.ends.Direction.{Direction}
use Rattle.schc_ids.specs.declared.ends.Direction.TheVariants.{Up, Down}
use Rattle.schc_ids.specs.declared.ends.Iids.{Iids}
use Rattle.schc_ids.specs.declared.names.FieldAt.{FieldAt}
use Rattle.schc_ids.specs.declared.names.FieldName.{FieldName}
use Rattle.schc_ids.specs.declared.names.FieldName.TheVariants.{
  IpDevPrefix,
  IpDevIid,
  IpAppPrefix,
  IpAppIid,
  UdpDevPort,
  UdpAppPort,
  UdpLength,
  UdpChecksum,
  CoapVersion,
  CoapType,
  CoapTkl,
  CoapCode,
  CoapMid,
  CoapToken,
  CoapOption,
}
use Rattle.schc_ids.specs.declared.names.Layer.TheVariants as layer
use Rattle.schc_ids.specs.declared.names.Stack.{Stack}
use Rattle.schc_ids.specs.declared.names.Stack.TheVariants as stack
use Rattle.schc_ids.specs.Ends.{covers}
use Rattle.schc_ids.specs.Names.{layer_of, same_layer, same_name, is_option, ip_fields}
use Rattle.schc_ids.specs.Names.{fields_of_stack}
use Rattle.schc_ids.proofs.NamesLemmas.{same_name-true}
use Rattle.rule_model.specs.declared.value.FieldValue.{FieldValue}
use Rattle.rule_model.specs.Data.{EntryData, RuleData}
use Rattle.rule_model.specs.Cover.{covered, field_of, stack_of, is_lossy, is_compute}
use Rattle.rule_model.specs.Cover.{is_in_checksum, computes_checksum, lossy_fields, dropped_fields}
use Rattle.rule_model.specs.Findings.{is_needed, IsAdmitted}
use Rattle.rule_model.specs.Residue.{value_of}
use Rattle.rule_model.proofs.SizedLemmas.{Contains-first, Contains-rest}
use Rattle.rule_model.proofs.EntryRowsLemmas.{EntryHolds-from_IsAdmitted}
use Rattle.decompress.proofs.LawLemmas.{unfilter, value_of-own}
use Rattle.ip_udp_fields.specs.Layout.{header_size, piece}
use Rattle.ip_udp_fields.specs.Fields.{at_name, field_in}
use Rattle.ip_udp_fields.specs.Checksum.{checksum_of}
use Rattle.ip_udp_fields.proofs.SplitLemmas.{field_bits}
use Rattle.coap_fields.specs.Fields.{MessageOf}
use Rattle.coap_fields.proofs.AgainLemmas.{one_packet as one_message}
use Rattle.packer.specs.Packets.{IsCoapPacket, PacketOf}
use Rattle.packer.specs.Schc.{is_computed_checksum, kept_value, MatchesPacket, IsRestored}
use Rattle.packer.specs.Laws.{DiffersOnlyWhereDropped}
use Rattle.packer.proofs.rebuilt.ChecksumLemmas.{AreBytes-take, AreBytes-drop}
use Rattle.packer.proofs.CoverLemmas.{Contains-parts, Contains-map, passes-each, fails-each}
use Rattle.packer.proofs.CoverLemmas.{some-passes, first-position}
use Rattle.packer.proofs.PacketFieldsLemmas.{PacketOf-fields, Contains-unmap, named-field}
use Rattle.packer.proofs.PacketFieldsLemmas.{field-named, once-fields}
use Rattle.packer.proofs.rebuilt.PutPacketLemmas.{stack-cases}
use Rattle.packer.proofs.coap.SizedCoapLemmas.{once-coap}
use Rattle.packer.proofs.SplitLemmas.{packet-both}
use Rattle.packer.proofs.reading.KeptLemmas.{needed-kept}
use Rattle.packer.proofs.coap.CoapRestoredLemmas.{head-field, message-field, message-coap}
use Rattle.packer.proofs.coap.CoapOneLemmas.{fields-one, message-ats}
use Rattle.packer.proofs.reading.UndroppedLemmas.{lossy-listed, own-checksum}

-- with one more at the end, or without
before : {X : Type 0} (xs ys : List X) (y : X) → Contains xs y → Contains (xs ++ ys) y
before [] ys y h = absurd (omega (arith, h.1))
before (x ∷ xs) ys y h =
    elim (Contains-parts x xs y h) [
      | inl e ↦ subst (Contains (x ∷ (xs ++ ys))) e (Contains-first x (xs ++ ys))
      | inr rest ↦ Contains-rest x (xs ++ ys) y (before xs ys y rest)
    ]

among-more : {X : Type 0} (more : Bool) (xs : List X) (x y : X) → Contains xs y
    → Contains (if more then xs ++ x ∷ [] else xs) y
among-more true xs x y h = before xs (x ∷ []) y h
among-more false xs x y h = h

last-of : {X : Type 0} (xs : List X) (x : X) → Contains (xs ++ x ∷ []) x
last-of [] x = Contains-first x []
last-of (y ∷ xs) x = Contains-rest y (xs ++ x ∷ []) x (last-of xs x)

last-more : {X : Type 0} (more : Bool) (xs : List X) (x : X) → more ≡ true
    → Contains (if more then xs ++ x ∷ [] else xs) x
last-more true xs x h = last-of xs x
last-more false xs x h = absurd (false≢true h)

-- two parts of a packet, one after the other
piece-more : (place first more : ℕ) (x y : List ℕ) → piece place first x ≡ piece place first y
    → piece (place + first) more x ≡ piece (place + first) more y
    → piece place (first + more) x ≡ piece place (first + more) y
unfolding piece
piece-more place first more x y e f =
    take-add first more (drop place (octets x))
    ∙ ap (λ (bits : List Bool). bits ++ take more (drop first (drop place (octets x)))) e
    ∙ ap (λ (bits : List Bool). take first (drop place (octets y)) ++ bits)
    (ap (λ (bits : List Bool). take more bits) (drop-drop first place (octets x)) ∙ f
    ∙ sym (ap (λ (bits : List Bool). take more bits) (drop-drop first place (octets y))))
    ∙ sym (take-add first more (drop place (octets y)))

piece-octets : (place count : ℕ) (x : List ℕ)
    → piece (8 * place) (8 * count) x ≡ octets (take count (drop place x))
unfolding piece
piece-octets place count x = ap (λ (bits : List Bool). take (8 * count) bits) (drop-octets place x)
    ∙ take-octets count (drop place x)

bytes-same : (place count : ℕ) (x y : List ℕ) → AreBytes x → AreBytes y
    → piece (8 * place) (8 * count) x ≡ piece (8 * place) (8 * count) y
    → take count (drop place x) ≡ take count (drop place y)
bytes-same place count x y a b e =
    octets-injective (take count (drop place x)) (take count (drop place y))
    (AreBytes-take count (drop place x) (AreBytes-drop place x a))
    (AreBytes-take count (drop place y) (AreBytes-drop place y b))
    (sym (piece-octets place count x) ∙ e ∙ piece-octets place count y)

-- the field has the same bits in both packets
abbrev Same : Direction → List ℕ → List ℕ → FieldName → Type 0
Same direction x y n = field_bits direction x n ≡ field_bits direction y n

addresses-same : (direction : Direction) (x y : List ℕ) → AreBytes x → AreBytes y
    → Same direction x y IpDevPrefix → Same direction x y IpDevIid → Same direction x y IpAppPrefix
    → Same direction x y IpAppIid → take 32 (drop 8 x) ≡ take 32 (drop 8 y)
addresses-same Up x y a b d e f g =
    bytes-same 8 32 x y a b
    (piece-more 64 192 64 x y (piece-more 64 128 64 x y (piece-more 64 64 64 x y d e) f) g)
addresses-same Down x y a b d e f g =
    bytes-same 8 32 x y a b
    (piece-more 64 192 64 x y (piece-more 64 128 64 x y (piece-more 64 64 64 x y f g) d) e)

ports-same : (direction : Direction) (x y : List ℕ) → AreBytes x → AreBytes y
    → Same direction x y UdpDevPort → Same direction x y UdpAppPort → Same direction x y UdpLength
    → take 6 (drop 40 x) ≡ take 6 (drop 40 y)
ports-same Up x y a b d e f =
    bytes-same 40 6 x y a b (piece-more 320 32 16 x y (piece-more 320 16 16 x y d e) f)
ports-same Down x y a b d e f =
    bytes-same 40 6 x y a b (piece-more 320 32 16 x y (piece-more 320 16 16 x y e d) f)

-- the checksum sees the addresses, the ports, the length and the data
sums-same : (x y : List ℕ) → take 32 (drop 8 x) ≡ take 32 (drop 8 y)
    → take 6 (drop 40 x) ≡ take 6 (drop 40 y) → drop 48 x ≡ drop 48 y → length x ≡ length y
    → checksum_of x ≡ checksum_of y
unfolding checksum_of
sums-same x y addresses ports back size = rw (addresses, ports, back, size) refl

-- a stack with UDP
abbrev HasUdp : Stack → Type 0
HasUdp stack.Ip = ⊥
HasUdp stack.IpUdp = Unit {0}
HasUdp stack.IpUdpCoap = Unit {0}

udp-size : (of : Stack) → HasUdp of → header_size of ≡ 48
udp-size stack.Ip u = absurd u
udp-size stack.IpUdp u = refl
udp-size stack.IpUdpCoap u = refl

udp-at : (of : Stack) (direction : Direction) (x : List ℕ) (fields : List FieldValue) (from : ℕ)
    (f : FieldValue) → PacketOf of direction x fields from → Contains fields f
    → f.at.name ≡ UdpChecksum → HasUdp of
udp-at stack.Ip direction x fields from f p among e =
    let named = named-field stack.Ip direction x fields from f p among in
    let name : named.0 ≡ UdpChecksum = ap (λ (g : FieldValue). g.at.name) named.2 ∙ e in
    absurd (false≢true
    (passes-each (λ n. not (same_name n UdpChecksum)) ip_fields refl UdpChecksum
    (subst (Contains ip_fields) name named.1)))
udp-at stack.IpUdp direction x fields from f p among e = tt
udp-at stack.IpUdpCoap direction x fields from f p among e = tt

udp-long : (of : Stack) (direction : Direction) (x : List ℕ) (fields : List FieldValue) (from : ℕ)
    → HasUdp of → PacketOf of direction x fields from → 48 ≤ length x
udp-long stack.Ip direction x fields from u p = absurd u
udp-long stack.IpUdp direction x fields from u p = p.is_packet.header
udp-long stack.IpUdpCoap direction x fields from u p = p.is_udp.header

once-packet : (of : Stack) (direction : Direction) (x : List ℕ) (fields : List FieldValue)
    (from : ℕ) → PacketOf of direction x fields from → AllPairs (λ f g. f.at ≢ g.at) fields
once-packet stack.Ip direction x fields from p = once-fields stack.Ip direction x fields from p
once-packet stack.IpUdp direction x fields from p =
    once-fields stack.IpUdp direction x fields from p
once-packet stack.IpUdpCoap direction x fields from p = once-coap direction x fields from p

head-packet : (of : Stack) (direction : Direction) (x : List ℕ) (fields : List FieldValue)
    (from : ℕ) → HasUdp of → PacketOf of direction x fields from → (n : FieldName)
    → Contains (fields_of_stack stack.IpUdp) n → Contains fields (field_in direction x n)
head-packet stack.Ip direction x fields from u p n among = absurd u
head-packet stack.IpUdp direction x fields from u p n among =
    field-named stack.IpUdp direction x fields from n p among
head-packet stack.IpUdpCoap direction x fields from u p n among =
    head-field direction x fields from n p among

-- the checksum isn't computed over itself, and it is over CoAP
in-uncomputed : (name : FieldName) → is_in_checksum name ≡ true → same_name name UdpChecksum ≡ false
in-uncomputed name h =
    elim (cases_Bool (same_name name UdpChecksum)) [
      | inl t ↦ absurd (true≢false (sym h ∙ ap is_in_checksum (same_name-true name UdpChecksum t)))
      | inr f ↦ f
    ]

coap-in : (name : FieldName) → same_layer (layer_of name) layer.Coap ≡ true
    → is_in_checksum name ≡ true
coap-in CoapVersion h = refl
coap-in CoapType h = refl
coap-in CoapTkl h = refl
coap-in CoapCode h = refl
coap-in CoapMid h = refl
coap-in CoapToken h = refl
coap-in (CoapOption number) h = refl
coap-in _ h = absurd (false≢true h)

-- the other end has the value as it was
abbrev Stays : EntryData → Type 0
Stays e = (is_lossy e.operator e.action ≡ false) × (is_computed_checksum e ≡ false)

module _ (rule : RuleData) (iids : Iids) (direction : Direction) (packet restored : List ℕ)
    (admitted : IsAdmitted rule) (a : AreBytes packet) (b : AreBytes restored)
    (m : MatchesPacket rule iids direction packet) (r : IsRestored rule direction packet restored)
  where
    same_fields : r.fields ≡ m.fields
    same_fields =
        (packet-both (stack_of rule) direction packet r.fields r.payload_from m.fields
        m.payload_from
        r.is_packet m.is_packet).0

    -- the entry of a field
    entry : (f : FieldValue) → Contains r.restored_fields f → (e : EntryData)
        × Contains (covered rule direction) e × (field_of e ≡ f.at)
    entry f among =
        let g = Contains-unmap (λ (f : FieldValue). f.at) r.fields f.at
        (subst (λ (all : List FieldAt). Contains all f.at) r.same_fields
        (Contains-map (λ (f : FieldValue). f.at) r.restored_fields f among)) in
        let e = m.matches.same_set.each_field g.0
        (subst (λ (all : List FieldValue). Contains all g.0) same_fields g.1) in
        (e.0, e.1, e.2 ∙ g.2)

    new-value : (f : FieldValue) (e : EntryData) → Contains r.restored_fields f
        → Contains (covered rule direction) e → field_of e ≡ f.at
        → f.value ≡ kept_value (checksum_of restored) e (value_of r.fields (field_of e))
    new-value f e among used at =
        sym (value_of-own r.restored_fields f
        (once-packet (stack_of rule) direction restored r.restored_fields r.payload_from
        r.is_restored) among)
        ∙ ap (value_of r.restored_fields) (sym at) ∙ r.values e used

    old-value : (g : FieldValue) (e : EntryData) → Contains r.fields g → field_of e ≡ g.at
        → value_of r.fields (field_of e) ≡ g.value
    old-value g e among at =
        ap (value_of r.fields) at
        ∙ value_of-own r.fields g
        (once-packet (stack_of rule) direction packet r.fields r.payload_from r.is_packet) among

    stays : (f g : FieldValue) → Contains r.restored_fields f → Contains r.fields g → f.at ≡ g.at
        → ((e : EntryData) → Contains (covered rule direction) e → field_of e ≡ f.at → Stays e)
        → f.value ≡ g.value
    stays f g x y at h =
        let e = entry f x in
        let none : Stays e.0 = h e.0 e.1 e.2 in
        let plain : kept_value (checksum_of restored) e.0
        (value_of r.fields (field_of e.0)) ≡ value_of r.fields (field_of e.0) =
        rw (none.0, none.1) refl in
        new-value f e.0 x e.1 e.2 ∙ plain ∙ old-value g e.0 y (e.2 ∙ at)

    module _ (u : HasUdp (stack_of rule))
        (clear : list_any (λ f. is_in_checksum f.name) (lossy_fields rule direction) ≡ false) where
      -- what the checksum is computed over isn't dropped
      in-stays : (e : EntryData) → Contains (covered rule direction) e
          → is_in_checksum e.name ≡ true
          → Stays e
      in-stays e among h = (
        elim (cases_Bool (is_lossy e.operator e.action)) [
          | inl l ↦
              absurd (true≢false
              (sym h ∙ fails-each (λ (f : FieldAt). is_in_checksum f.name)
              (lossy_fields rule direction) clear (field_of e)
              (lossy-listed rule direction e among l)))
          | inr f ↦ f
        ],
        rw (in-uncomputed e.name h) refl,
      )

      length-stays : (e : EntryData) → Contains (covered rule direction) e → e.name ≡ UdpLength
          → Stays e
      length-stays e among h =
          (needed-kept rule direction e admitted among (ap is_needed h), rw h refl)

      head : (n : FieldName) → Contains (fields_of_stack stack.IpUdp) n
          → ((e : EntryData) → Contains (covered rule direction) e → e.name ≡ n → Stays e)
          → Same direction restored packet n
      head n among h =
          stays (field_in direction restored n) (field_in direction packet n)
          (head-packet (stack_of rule) direction restored r.restored_fields r.payload_from u
          r.is_restored n among)
          (head-packet (stack_of rule) direction packet r.fields r.payload_from u r.is_packet n
          among)
          refl
          (λ e used at. h e used (ap (λ (at : FieldAt). at.name) at))

      head-in : (n : FieldName) → Contains (fields_of_stack stack.IpUdp) n → is_in_checksum n ≡ true
          → Same direction restored packet n
      head-in n among h = head n among (λ e used name. in-stays e used (ap is_in_checksum name ∙ h))

      bodies-coap : stack_of rule ≡ stack.IpUdpCoap → drop 48 restored ≡ drop 48 packet
      bodies-coap s =
          let here : IsCoapPacket direction restored r.restored_fields r.payload_from =
          subst (λ (of : Stack). PacketOf of direction restored r.restored_fields r.payload_from)
          s r.is_restored in
          let there : IsCoapPacket direction packet r.fields r.payload_from =
          subst (λ (of : Stack). PacketOf of direction packet r.fields r.payload_from) s
          r.is_packet in
          let messages : here.message_fields ≡ there.message_fields =
          fields-one here.message_fields there.message_fields
          (message-ats direction restored packet here.message_fields there.message_fields
          (ap (map (λ (f : FieldValue). f.at)) (sym here.its_fields) ∙ r.same_fields
          ∙ ap (map (λ (f : FieldValue). f.at)) there.its_fields))
          (λ f g x y at.
          stays f g (message-field direction restored r.restored_fields r.payload_from f here x)
          (message-field direction packet r.fields r.payload_from g there y) at
          (λ e used own.
          in-stays e used
          (coap-in e.name
          (ap (λ (at : FieldAt). same_layer (layer_of at.name) layer.Coap) own
          ∙ message-coap direction restored r.restored_fields r.payload_from f here x))))
          in
          let payload : drop here.message_from (drop 48 restored) ≡ drop there.message_from
          (drop 48 packet) =
          drop-drop here.message_from 48 restored ∙ ap (λ n. drop n restored) (sym here.its_payload)
          ∙ r.same_payload
          ∙ ap (λ n. drop n packet) there.its_payload ∙ sym (drop-drop there.message_from 48 packet)
          in
          one_message (drop 48 restored) (drop 48 packet) there.message_fields here.message_from
          there.message_from
          (subst (λ (fs : List FieldValue). MessageOf (drop 48 restored) fs here.message_from)
          messages here.its_message) there.its_message payload

      bodies : drop 48 restored ≡ drop 48 packet
      bodies =
          elim (stack-cases (stack_of rule)) [
            | inl without ↦
                let place : r.payload_from ≡ 48 =
                (PacketOf-fields (stack_of rule) direction packet r.fields r.payload_from without
                r.is_packet).its_payload ∙ udp-size (stack_of rule) u in
                subst (λ n. drop n restored ≡ drop n packet) place r.same_payload
            | inr s ↦ bodies-coap s
          ]

      same_checksum : checksum_of restored ≡ checksum_of packet
      same_checksum =
          sums-same restored packet
          (addresses-same direction restored packet b a
          (head-in IpDevPrefix (6, omega arith, refl) refl)
          (head-in IpDevIid (7, omega arith, refl) refl)
          (head-in IpAppPrefix (8, omega arith, refl) refl)
          (head-in IpAppIid (9, omega arith, refl) refl))
          (ports-same direction restored packet b a
          (head-in UdpDevPort (10, omega arith, refl) refl)
          (head-in UdpAppPort (11, omega arith, refl) refl)
          (head UdpLength (12, omega arith, refl) length-stays))
          bodies
          (omega (
            arith,
            udp-long (stack_of rule) direction restored r.restored_fields r.payload_from
                u r.is_restored,
            udp-long (stack_of rule) direction packet r.fields r.payload_from u
                r.is_packet,
            length-drop 48 restored,
            length-drop 48 packet,
            ap
                (λ (bytes : List ℕ). length bytes) bodies,
          ))

    -- a checksum that is computed
    checksum-dropped : (e : EntryData) → Contains (covered rule direction) e
        → is_lossy e.operator e.action ≡ false → is_computed_checksum e ≡ true
        → kept_value (checksum_of restored) e (value_of r.fields (field_of e)) ≢ value_of r.fields
        (field_of e) → Contains (dropped_fields rule direction) (field_of e)
    checksum-dropped e among l c differs =
        let name : e.name ≡ UdpChecksum =
        same_name-true e.name UdpChecksum
        (and_parts (same_name e.name UdpChecksum) (is_compute e.action) c).0 in
        let there = m.matches.same_set.each_entry e among in
        let u : HasUdp (stack_of rule) =
        udp-at (stack_of rule) direction packet m.fields m.payload_from there.0 m.is_packet
        there.1 (ap (λ (at : FieldAt). at.name) (sym there.2) ∙ name) in
        let holds =
        EntryHolds-from_IsAdmitted rule admitted e
        (unfilter (λ d. covers d.direction direction) rule.entries e among).0 in
        let at : field_of e ≡ at_name UdpChecksum = first-position e holds.shape (ap is_option name)
        ∙ ap at_name name in
        let computes : computes_checksum rule direction ≡ true =
        some-passes is_computed_checksum (covered rule direction) e among c in
        elim (cases_Bool (list_any (λ f. is_in_checksum f.name) (lossy_fields rule direction))) [
          | inl t ↦
              subst (Contains (dropped_fields rule direction)) (sym at)
              (last-more
              (computes_checksum rule direction && list_any (λ f. is_in_checksum f.name)
              (lossy_fields rule direction)) (lossy_fields rule direction) (at_name UdpChecksum)
              (and_from (computes_checksum rule direction)
              (list_any (λ f. is_in_checksum f.name) (lossy_fields rule direction)) computes t))
          | inr clear ↦
              let own : value_of r.fields (field_of e) ≡ kept_value (checksum_of packet) e
              (value_of r.fields (field_of e)) =
              subst (λ (all : List FieldValue). value_of all (field_of e) ≡ kept_value
              (checksum_of packet) e (value_of all (field_of e))) (sym same_fields)
              (own-checksum rule iids direction packet m e among l)
              in
              absurd (differs
              (ap (λ n. kept_value n e (value_of r.fields (field_of e))) (same_checksum u clear)
              ∙ sym own))
        ]

    dropped-entry : (e : EntryData) → Contains (covered rule direction) e
        → kept_value (checksum_of restored) e (value_of r.fields (field_of e)) ≢ value_of r.fields
        (field_of e) → Contains (dropped_fields rule direction) (field_of e)
    dropped-entry e among differs =
        elim (cases_Bool (is_lossy e.operator e.action)) [
          | inl l ↦
              among-more
              (computes_checksum rule direction && list_any (λ f. is_in_checksum f.name)
              (lossy_fields rule direction)) (lossy_fields rule direction) (at_name UdpChecksum)
              (field_of e)
              (lossy-listed rule direction e among l)
          | inr l ↦
              elim (cases_Bool (is_computed_checksum e)) [
                | inl c ↦ checksum-dropped e among l c differs
                | inr c ↦ absurd (differs (rw (l, c) refl))
              ]
        ]

    pub differs-dropped : (f : FieldValue) → Contains r.restored_fields f
        → f.value ≢ value_of r.fields f.at → Contains (dropped_fields rule direction) f.at
    differs-dropped f among differs =
        let e = entry f among in
        subst (Contains (dropped_fields rule direction)) e.2
        (dropped-entry e.0 e.1
        (λ same. differs (new-value f e.0 among e.1 e.2 ∙ same ∙ ap (value_of r.fields) e.2)))

-- where an admitted rule matches, a field of the restored packet has another value than the
-- packet's only if the rule drops it in the direction
pub differs_only_where_dropped : DiffersOnlyWhereDropped
differs_only_where_dropped rule iids direction packet restored admitted a b m r f among differs =
    differs-dropped rule iids direction packet restored admitted a b m r f among differs
