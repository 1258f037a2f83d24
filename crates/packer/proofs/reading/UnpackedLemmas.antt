-- What is read is what the bits say, and what was written is read.
use Rattle.std.specs.Prelude.{ℕ, ◌≡◌, ◌≢◌, ◌*◌, ◌/◌, ◌==◌, ◌<◌, ◌≤◌, suc, Bool, true, false, ◌||◌}
use Rattle.std.specs.Prelude.{nat_lt, if◌then◌else◌, List, [], ◌∷◌, ◌++◌, length, take, drop}
use Rattle.std.specs.Prelude.{Option, Some, None, Result, Ok, Err, Contains}
use Rattle.std.proofs.Common.{arith, ap, refl, sym, ◌∙◌, subst, inl, inr}
use Rattle.std.proofs.lemmas.Bool.{cases_Bool, or_parts, true≢false, false_from_ne_true, eqb-true}
use Rattle.std.proofs.lemmas.Bool.{eq-eqb, le-ltb, ltb-false}
use Rattle.std.proofs.lemmas.List.{append_assoc, append-nil, length-append, length-take-le}
use Rattle.std.proofs.lemmas.List.{length-drop, take_at, drop_at, take-append-drop}
use Rattle.std.proofs.lemmas.List.Elements.{All-contains}
use Rattle.schc_bits.specs.Bits.{number_bits, bits_value, octets, bytes_of, AreBytes}
use Rattle.schc_bits.proofs.NumberBits.{length-number_bits, bits_value-number_bits}
use Rattle.schc_bits.proofs.NumberBits.{number_bits-bits_value}
use Rattle.schc_bits.proofs.Octets.{bytes_of-octets-append, bytes_of-short, bytes_of-append-drop}
use Rattle.schc_bits.proofs.Octets.{AreBytes-bytes_of}
use Rattle.schc_ids.specs.declared.ends.Direction.{Direction}
use Rattle.schc_ids.specs.declared.ends.Iids.{Iids}
use Rattle.schc_ids.specs.declared.faults.UnpackFault.{UnpackFault}
use Rattle.rule_model.specs.declared.finding.FindingKind.{FindingKind}
use Rattle.rule_model.specs.declared.finding.FindingKind.TheVariants as kind
use Rattle.rule_model.specs.declared.value.FieldValue.{FieldValue}
use Rattle.rule_model.specs.Data.{RuleData}
use Rattle.schc_ids.specs.Ends.{covers}
use Rattle.rule_model.specs.Cover.{covered, stack_of}
use Rattle.rule_model.specs.Findings.{is_of_rule, IsAdmitted}
use Rattle.rule_model.specs.Residue.{residue_of}
use Rattle.rule_model.proofs.SizedLemmas.{Contains-first, Contains-rest}
use Rattle.decompress.proofs.LawLemmas.{unfilter}
use Rattle.decompress.specs.Reading.{restore_at}
use Rattle.editions.specs.declared.listed.Listed.{Listed}
use Rattle.editions.specs.Data.{EditionData, IsAscending, lookup}
use Rattle.packer.specs.UnpackedData.{UnpackedData}
use Rattle.ip_udp_fields.specs.Fields.{has_ipv6_header}
use Rattle.schc_ids.specs.Limits.{uncompressed_port}
use Rattle.packer.specs.Schc.{uncompressed_packet, MatchesPacket, IsSchcPacket, IsRestored}
use Rattle.packer.specs.Schc.{DecodesBy, DecodesWhole, Decodes}
use Rattle.packer.specs.Schc.Decodes.{whole, by_rule}
use Rattle.packer.specs.Unpacking.{reads, rebuilt_from, read_by, read_whole, read_under, under}
use Rattle.packer.specs.Unpacking.{unpacked}
use Rattle.packer.specs.Rebuilding.{is_option_at, HasOptions, HasOptionsUnder, EditionHasOptions}
use Rattle.packer.specs.Laws.{IsSound, UnpacksExactly}
use Rattle.packer.proofs.CoverLemmas.{Contains-parts, each-passes, passes-each}
use Rattle.packer.proofs.rebuilt.ChecksumLemmas.{AreBytes-drop}
use Rattle.packer.proofs.SplitLemmas.{packet-both}
use Rattle.packer.proofs.reading.RestoredLemmas.{IsReadBack}
use Rattle.packer.proofs.reading.ReadBackLemmas.{read-back, restored-one}
use Rattle.packer.proofs.reading.SoundLemmas.{IsSaid, said-read}

-- the RuleID stands in front
unpacked-id : (edition : EditionData) (iids : Iids) (direction : Direction) (id : ℕ)
    (rest : List Bool) → id < 256
    → unpacked edition iids direction (number_bits 8 id ++ rest) ≡ under id
    (read_under edition iids direction id rest)
unfolding unpacked
unpacked-id edition iids direction id rest h =
    let long : nat_lt (length (number_bits 8 id ++ rest)) 8 ≡ false =
    le-ltb (length (number_bits 8 id ++ rest)) 8
    (omega (arith, length-append (number_bits 8 id) rest, length-number_bits 8 id))
    in
    let front : take 8 (number_bits 8 id ++ rest) ≡ number_bits 8 id =
    take_at (number_bits 8 id) rest 8 (length-number_bits 8 id) in
    let back : drop 8 (number_bits 8 id ++ rest) ≡ rest =
    drop_at (number_bits 8 id) rest 8 (length-number_bits 8 id) in
    rw (long, front, back, bits_value-number_bits 8 id h) refl

under-ok : (id : ℕ) (read : Result (List ℕ) UnpackFault) (got : UnpackedData)
    → under id read ≡ Ok got → (read ≡ Ok got.packet) × (id ≡ got.rule_id)
under-ok id (Err fault) got e = absurd (cc)
under-ok id (Ok packet) got e =
    let same : record { rule_id = id; packet = packet } ≡ got = cc in
    (ap (λ (u : UnpackedData). Ok u.packet) same, ap (λ (u : UnpackedData). u.rule_id) same)

-- what was read, and under which RuleID
record IsRead (edition : EditionData) (iids : Iids) (direction : Direction) (bits : List Bool)
    (read : UnpackedData) : Type 0 where
  front : bits ≡ number_bits 8 read.rule_id ++ drop 8 bits
  is_read : read_under edition iids direction read.rule_id (drop 8 bits) ≡ Ok read.packet

IsRead-from_unpacked : (edition : EditionData) (iids : Iids) (direction : Direction)
    (bits : List Bool) (read : UnpackedData) → unpacked edition iids direction bits ≡ Ok read
    → IsRead edition iids direction bits read
unfolding unpacked
IsRead-from_unpacked edition iids direction bits read e =
    elim (cases_Bool (nat_lt (length bits) 8)) [
      | inl t ↦ let short = rw t at e in absurd (cc)
      | inr f ↦
          let id : ℕ = bits_value (take 8 bits) in
          let long : 8 ≤ length bits = ltb-false (length bits) 8 f in
          let parts =
          under-ok id (read_under edition iids direction id (drop 8 bits)) read (rw f at e) in
          let eight : number_bits 8 id ≡ take 8 bits =
          subst (λ n. number_bits n id ≡ take 8 bits) (length-take-le 8 bits long)
          (number_bits-bits_value (take 8 bits))
          in
          record {
            front =
                sym (take-append-drop 8 bits)
                ∙ ap (λ (x : List Bool). x ++ drop 8 bits) (sym eight ∙ ap (number_bits 8) parts.1);
            is_read =
                subst (λ n. read_under edition iids direction n (drop 8 bits) ≡ Ok read.packet)
                parts.1 parts.0;
          }
    ]

read_whole-ok : (bytes packet : List ℕ) → read_whole bytes ≡ Ok packet
    → (has_ipv6_header packet ≡ true) × (bytes ≡ packet)
read_whole-ok bytes packet e =
    elim (cases_Bool (has_ipv6_header bytes)) [
      | inl t ↦
          let same : bytes ≡ packet = (let ok = rw t at e in cc) in
          (ap has_ipv6_header (sym same) ∙ t, same)
      | inr f ↦ let wrong = rw f at e in absurd (cc)
    ]

read_by-ok : (id : ℕ) (iids : Iids) (direction : Direction) (o : Option Listed) (bits : List Bool)
    (packet : List ℕ) → read_by id iids direction o bits ≡ Ok packet → (listed : Listed)
    × (o ≡ Some listed) × (reads listed.rule direction ≡ true)
    × (rebuilt_from listed.rule direction (restore_at listed.rule iids direction bits) ≡ Ok packet)
read_by-ok id iids direction None bits packet e = absurd (cc)
read_by-ok id iids direction (Some listed) bits packet e =
    elim (cases_Bool (reads listed.rule direction)) [
      | inl t ↦ (listed, refl, t, rw t at e)
      | inr f ↦ let wrong = rw f at e in absurd (cc)
    ]

-- what is found under a RuleID is listed, with it
pub found-listed : (rules : List Listed) (id : ℕ) (listed : Listed) → lookup rules id ≡ Some listed
    → Contains rules listed × (listed.rule.id ≡ id)
found-listed [] id listed e = absurd (cc)
found-listed (x ∷ rules) id listed e =
    elim (cases_Bool (x.rule.id == id)) [
      | inl t ↦
          let same : x ≡ listed = (let some = rw t at e in cc) in (
            subst (Contains (x ∷ rules)) same (Contains-first x rules),
            ap
                (λ (l : Listed). l.rule.id) (sym same) ∙ eqb-true x.rule.id id t,
          )
      | inr f ↦
          let later = found-listed rules id listed (rw f at e) in
          (Contains-rest x rules listed later.0, later.1)
    ]

-- and in ascending order what is listed is found
pub listed-found : (rules : List Listed) (listed : Listed) → IsAscending rules
    → Contains rules listed → lookup rules listed.rule.id ≡ Some listed
listed-found [] listed order among = absurd (omega (arith, among.1))
listed-found (x ∷ rules) listed order among =
    elim (Contains-parts x rules listed among) [
      | inl same ↦ subst (λ (l : Listed). lookup (x ∷ rules) l.rule.id ≡ Some l) same
          (rw (eq-eqb x.rule.id x.rule.id refl) refl)
      | inr rest ↦
          let less : x.rule.id < listed.rule.id =
          subst (λ (l : Listed). x.rule.id < l.rule.id) rest.2
          (order 0 (suc rest.0) listed (omega arith) (omega (arith, rest.1)))
          in
          let other : (x.rule.id == listed.rule.id) ≡ false =
          false_from_ne_true (x.rule.id == listed.rule.id)
          (λ t. omega (arith, less, eqb-true x.rule.id listed.rule.id t))
          in
          rw other
          (listed-found rules listed
          (λ i j d l m. order (suc i) (suc j) d (omega arith) (omega arith)) rest)
    ]

not_first : {A : Type 0} (b : Bool) (x : A) (o : Option A) → (if b then Some x else o) ≡ None
    → b ≡ false
not_first true x o e = absurd (cc)
not_first false x o e = refl

no_row : (rule : RuleData) (k : FindingKind) → IsAdmitted rule → is_of_rule k rule ≡ false
no_row rule r admitted = not_first (is_of_rule r rule) 0 _ (admitted r)

-- the RuleID of an admitted rule
id-small : (rule : RuleData) → IsAdmitted rule → rule.id < 256
id-small rule admitted =
    let parts =
    or_parts (rule.id == 0) (nat_lt 223 rule.id) (no_row rule kind.IdOutOfRange admitted) in
    omega (arith, ltb-false 223 rule.id parts.1)

-- the RuleID of an admitted rule isn't that of packets that no rule compresses
pub id-compressed : (rule : RuleData) → IsAdmitted rule → (rule.id == uncompressed_port) ≡ false
id-compressed rule admitted =
    let a = or_parts ((rule.id == 20) || (rule.id == 21) || (rule.id == 22) || (rule.id == 222))
    (rule.id == 223) (no_row rule kind.IdReserved admitted) in
    let b = or_parts ((rule.id == 20) || (rule.id == 21) || (rule.id == 22)) (rule.id == 222) a.0 in
    (or_parts ((rule.id == 20) || (rule.id == 21)) (rule.id == 22) b.0).1

-- what is read under the RuleID of packets that no rule compresses
said_whole : (edition : EditionData) (iids : Iids) (direction : Direction) (bits rest : List Bool)
    (packet : List ℕ) (id : ℕ) → id ≡ uncompressed_port → bits ≡ number_bits 8 id ++ rest
    → read_whole (bytes_of rest) ≡ Ok packet → Decodes edition iids direction bits packet id
said_whole edition iids direction bits rest packet id u front e =
    let parts = read_whole-ok (bytes_of rest) packet e in
    let padding : List Bool = drop (8 * (length rest / 8)) rest in
    let back : rest ≡ octets packet ++ padding = sym (bytes_of-append-drop rest)
    ∙ ap (λ (bytes : List ℕ). octets bytes ++ padding) parts.1 in
    let own : DecodesWhole bits packet =
    record {
      ipv6 = parts.0;
      padding = padding;
      short = omega (arith, length-drop (8 * (length rest / 8)) rest);
      bits_are =
          front ∙ ap (λ (x : List Bool). number_bits 8 id ++ x) back
          ∙ ap (λ n. number_bits 8 n ++ (octets packet ++ padding)) u
          ∙ sym (append_assoc (number_bits 8 uncompressed_port) (octets packet) padding);
    }
    in
    subst (Decodes edition iids direction bits packet) (sym u)
    (whole (subst AreBytes parts.1 (AreBytes-bytes_of rest)) own)

-- what is read by a rule
said_by : (edition : EditionData) (iids : Iids) (direction : Direction) (bits rest : List Bool)
    (packet : List ℕ) (id : ℕ) (listed : Listed) → IsSound edition → id ≢ uncompressed_port
    → bits ≡ number_bits 8 id ++ rest → lookup edition.rules id ≡ Some listed
    → reads listed.rule direction ≡ true → HasOptions (covered listed.rule direction)
    → rebuilt_from listed.rule direction (restore_at listed.rule iids direction rest) ≡ Ok packet
    → Decodes edition iids direction bits packet id
said_by edition iids direction bits rest packet id listed s other front found r options e =
    let is = found-listed edition.rules id listed found in
    let admitted : IsAdmitted listed.rule =
    All-contains (λ l. IsAdmitted l.rule) edition.rules listed s.admitted is.0 in
    let said : IsSaid listed.rule iids direction rest packet =
    said-read listed.rule iids direction rest packet admitted r options e in
    let residue : List Bool =
    residue_of listed.rule direction said.matching.fields ++ octets
    (drop said.matching.payload_from packet) in
    by_rule id listed said.bytes other found
    (record {
      serving = r;
      matching = said.matching;
      own = said.own;
      schc_packet = number_bits 8 listed.rule.id ++ residue;
      its_schc_packet =
          record {
            fields = said.matching.fields;
            payload_from =
                said.matching.payload_from;
            is_packet = said.matching.is_packet;
            bits_are = refl;
          };
      padding = said.padding;
      short = said.short;
      bits_are =
          front ∙ ap (λ (x : List Bool). number_bits 8 id ++ x) said.bits_are
          ∙ ap (λ n. number_bits 8 n ++ (residue ++ said.padding)) (sym is.1)
          ∙ sym (append_assoc (number_bits 8 listed.rule.id) residue said.padding);
    })

-- what is read is what the bits say
pub sound : (edition : EditionData) (iids : Iids) (direction : Direction) (bits : List Bool)
    (read : UnpackedData) → IsSound edition → HasOptionsUnder edition direction read.rule_id
    → unpacked edition iids direction bits ≡ Ok read
    → Decodes edition iids direction bits read.packet read.rule_id
sound edition iids direction bits read s options e =
    let r = IsRead-from_unpacked edition iids direction bits read e in
    elim (cases_Bool (read.rule_id == uncompressed_port)) [
      | inl t ↦ said_whole edition iids direction bits (drop 8 bits) read.packet read.rule_id
          (eqb-true read.rule_id uncompressed_port t) r.front (rw t at r.is_read)
      | inr f ↦
          let by =
          read_by-ok read.rule_id iids direction (lookup edition.rules read.rule_id)
          (drop 8 bits) read.packet (rw f at r.is_read) in
          said_by edition iids direction bits (drop 8 bits) read.packet read.rule_id by.0 s
          (λ same. true≢false (sym (eq-eqb read.rule_id uncompressed_port same) ∙ f)) r.front by.1
          by.2 (options by.0 by.1) by.3
    ]

-- what is read of the SCHC packet of a packet
pub record IsReadUnder (edition : EditionData) (iids : Iids) (direction : Direction)
    (rule : RuleData) (packet : List ℕ) (bits : List Bool) : Type 0 where
  pub restored : List ℕ
  pub restores : IsRestored rule direction packet restored
  pub are_bytes : AreBytes restored
  pub reads : unpacked edition iids direction bits ≡ Ok
      (record { rule_id = rule.id; packet = restored })

-- the SCHC packet under a rule is read, where the rule is listed
pub read-written : (edition : EditionData) (iids : Iids) (direction : Direction) (rule : RuleData)
    (listed : Listed) (packet : List ℕ) (schc_packet padding : List Bool)
    → lookup edition.rules rule.id ≡ Some listed → listed.rule ≡ rule → IsAdmitted rule
    → AreBytes packet → MatchesPacket rule iids direction packet
    → IsSchcPacket rule direction packet schc_packet → length padding ≤ 7
    → IsReadUnder edition iids direction rule packet (schc_packet ++ padding)
read-written edition iids direction rule listed packet schc_packet padding found same admitted bytes
    m f short =
    let one =
    packet-both (stack_of rule) direction packet f.fields f.payload_from m.fields m.payload_from
    f.is_packet m.is_packet in
    let rest : List Bool =
    residue_of rule direction m.fields ++ (octets (drop m.payload_from packet) ++ padding) in
    let back : IsReadBack rule iids direction packet rest =
    read-back rule iids direction packet m.fields m.payload_from m.is_packet m.matches padding
    admitted (AreBytes-drop m.payload_from packet bytes) short
    in
    let bits : schc_packet ++ padding ≡ number_bits 8 rule.id ++ rest =
    ap (λ (x : List Bool). x ++ padding)
    (f.bits_are
    ∙ ap (λ (fields : List FieldValue). number_bits 8
    rule.id ++ (residue_of rule direction fields ++ octets (drop f.payload_from packet))) one.0
    ∙ ap (λ n. number_bits 8
    rule.id ++ (residue_of rule direction m.fields ++ octets (drop n packet))) one.1)
    ∙ append_assoc (number_bits 8 rule.id)
    (residue_of rule direction m.fields ++ octets (drop m.payload_from packet)) padding
    ∙ ap (λ (x : List Bool). number_bits 8 rule.id ++ x)
    (append_assoc (residue_of rule direction m.fields) (octets (drop m.payload_from packet))
    padding)
    in
    let by : read_by rule.id iids direction (lookup edition.rules rule.id) rest ≡ Ok back.restored =
    ap (λ o. read_by rule.id iids direction o rest) found
    ∙ subst (λ (r : RuleData).
    (if reads r direction then rebuilt_from r direction (restore_at r iids direction rest)
    else read_by rule.id iids direction None rest) ≡ Ok back.restored) (sym same)
    (rw back.reading back.is_read)
    in
    let below : read_under edition iids direction rule.id rest ≡ Ok back.restored =
    rw (id-compressed rule admitted) by in
    record {
      restored = back.restored;
      restores = back.restores;
      are_bytes = back.are_bytes;
      reads = ap (unpacked edition iids direction) bits
          ∙ unpacked-id edition iids direction rule.id rest (id-small rule admitted)
          ∙ ap (under rule.id) below;
    }

-- a packet that no rule compresses is read as it is
pub read-whole : (edition : EditionData) (iids : Iids) (direction : Direction) (packet : List ℕ)
    (padding : List Bool) → AreBytes packet → has_ipv6_header packet ≡ true → length padding ≤ 7
    → unpacked edition iids direction (uncompressed_packet packet ++ padding) ≡ Ok
    (record { rule_id = uncompressed_port; packet = packet })
read-whole edition iids direction packet padding bytes ipv6 short =
    let bits : uncompressed_packet packet ++ padding ≡ number_bits 8
    uncompressed_port ++ (octets packet ++ padding) =
    append_assoc (number_bits 8 uncompressed_port) (octets packet) padding in
    let whole_bytes : bytes_of (octets packet ++ padding) ≡ packet =
    bytes_of-octets-append packet padding bytes
    ∙ ap (λ (rest : List ℕ). packet ++ rest) (bytes_of-short padding (omega (arith, short)))
    ∙ append-nil packet
    in
    let below : read_under edition iids direction uncompressed_port (octets packet ++ padding) ≡ Ok
    packet =
    ap read_whole whole_bytes ∙ rw ipv6 refl
    in
    ap (unpacked edition iids direction) bits
    ∙ unpacked-id edition iids direction uncompressed_port (octets packet ++ padding)
    (omega arith) ∙ ap (under uncompressed_port) below

-- what the bits say is read
complete-by : (edition : EditionData) (iids : Iids) (direction : Direction) (bits : List Bool)
    (packet : List ℕ) (id : ℕ) (listed : Listed) → IsSound edition → AreBytes packet
    → lookup edition.rules id ≡ Some listed → DecodesBy listed.rule iids direction bits packet
    → unpacked edition iids direction bits ≡ Ok (record { rule_id = id; packet = packet })
complete-by edition iids direction bits packet id listed s bytes found d =
    let is = found-listed edition.rules id listed found in
    let rule : RuleData = listed.rule in
    let admitted : IsAdmitted rule =
    All-contains (λ l. IsAdmitted l.rule) edition.rules listed s.admitted is.0 in
    let r : IsReadUnder edition iids direction rule packet (d.schc_packet ++ d.padding) =
    read-written edition iids direction rule listed packet d.schc_packet d.padding
    (ap (lookup edition.rules) is.1 ∙ found) refl admitted bytes d.matching d.its_schc_packet
    d.short
    in
    let same : r.restored ≡ packet =
    restored-one rule iids direction packet d.matching.fields d.matching.payload_from
    d.matching.is_packet d.matching.matches r.restored packet admitted r.restores d.own
    r.are_bytes bytes in
    ap (unpacked edition iids direction) d.bits_are ∙ r.reads
    ∙ ap (λ (n : ℕ). Ok (let u : UnpackedData = record { rule_id = n; packet = r.restored } in u))
    is.1
    ∙ ap (λ (x : List ℕ). Ok (let u : UnpackedData = record { rule_id = id; packet = x } in u)) same

-- the packet that the bits say, with a sound edition, is read, and under the RuleID that they say
pub complete : (edition : EditionData) (iids : Iids) (direction : Direction) (bits : List Bool)
    (packet : List ℕ) (id : ℕ) → IsSound edition → Decodes edition iids direction bits packet id
    → unpacked edition iids direction bits ≡ Ok (record { rule_id = id; packet = packet })
complete edition iids direction bits packet id s (whole bytes d) =
    ap (unpacked edition iids direction) d.bits_are
    ∙ read-whole edition iids direction packet d.padding bytes d.ipv6 d.short
complete edition iids direction bits packet id s (by_rule other listed bytes different found d) =
    complete-by edition iids direction bits packet id listed s bytes found d

-- the options of a rule that is listed are those of the edition
options_under : (edition : EditionData) (direction : Direction) (id : ℕ) → EditionHasOptions edition
    → HasOptionsUnder edition direction id
options_under edition direction id options listed found =
    each-passes (λ e. is_option_at e.name e.position) (covered listed.rule direction)
    (λ e among.
    passes-each (λ d. is_option_at d.name d.position) listed.rule.entries
    (options listed (found-listed edition.rules id listed found).0) e
    (unfilter (λ d. covers d.direction direction) listed.rule.entries e among).0)

-- and none is listed under the RuleID of packets that no rule compresses
pub options-whole : (edition : EditionData) (direction : Direction) (id : ℕ) → IsSound edition
    → id ≡ uncompressed_port → HasOptionsUnder edition direction id
options-whole edition direction id s same listed found =
    let is = found-listed edition.rules id listed found in
    let admitted : IsAdmitted listed.rule =
    All-contains (λ l. IsAdmitted l.rule) edition.rules listed s.admitted is.0 in
    absurd (true≢false
    (sym (eq-eqb listed.rule.id uncompressed_port (is.1 ∙ same))
    ∙ id-compressed listed.rule admitted))

-- what is read is what the bits say, and all that they say is read: with a sound edition whose
-- options have numbers and positions of 16 bits
pub unpacks_exactly : UnpacksExactly
unpacks_exactly edition iids direction bits read s options = (
  sound edition iids direction bits read s
      (options_under edition direction read.rule_id options),
  complete edition iids direction bits
      read.packet read.rule_id s,
)
