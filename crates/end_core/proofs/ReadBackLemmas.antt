-- What a frame gives back of a packet that an edition wrote.
use Rattle.std.proofs.Common.{◌≡◌, ℕ, ◌==◌, ◌<◌, Bool, true, false, not, ◌&&◌, ◌||◌, cond, ◌≤◌}
use Rattle.std.proofs.Common.{List, ◌++◌, length, take, drop, Option, Some, None, Ok, nat_lt, refl}
use Rattle.std.proofs.Common.{sym, ap, subst, ◌∙◌, arith}
use Rattle.std.proofs.lemmas.List.Elements.{All-contains}
use Rattle.std.proofs.lemmas.List.{append_assoc}
use Rattle.std.proofs.lemmas.Bool.{lt-ltb, ltb-true, ltb-false}
use Rattle.schc_bits.specs.Bits.{number_bits, bits_value, AreBytes}
use Rattle.schc_bits.proofs.NumberBits.{bits_value-number_bits}
use Rattle.schc_ids.specs.declared.ends.Direction.{Direction}
use Rattle.schc_ids.specs.declared.ends.Role.{Role}
use Rattle.schc_ids.specs.declared.ends.Iids.{Iids}
use Rattle.rule_model.specs.declared.finding.FindingKind.TheVariants as kind
use Rattle.rule_model.specs.Data.{RuleData}
use Rattle.rule_model.specs.Findings.{IsAdmitted, id_out_of_range, id_reserved}
use Rattle.editions.specs.Data.{EditionData}
use Rattle.packer.specs.UnpackedData.{UnpackedData}
use Rattle.ip_udp_fields.specs.Fields.{has_ipv6_header}
use Rattle.packer.specs.Schc.{IsChosen}
use Rattle.packer.specs.Packing.{packed}
use Rattle.packer.specs.Unpacking.{unpacked}
use Rattle.packer.specs.Laws.{IsSound, AgreeOn, IsReadAs}
use Rattle.lorawan_profile.specs.Ports.{meaning_of, is_whole}
use Rattle.lorawan_profile.specs.declared.ports.PortMeaning.TheVariants.{Whole}
use Rattle.lorawan_profile.proofs.PortsLemmas.{meaning_of-whole}
use Rattle.end_core.specs.End.{frame_of, carried}
use Rattle.end_core.proofs.FrameLemmas.{frame_padding, length-frame_padding, carried-frame_of}
use Rattle.packer.proofs.PackedLemmas.{packed-begins}
use Rattle.packer.proofs.ChosenLemmas.{packed-chosen}
use Rattle.packer.proofs.WrittenLemmas.{reads_what_was_written}
use Rattle.packer.proofs.AgreeLemmas.{IsKnown, chosen-known, read-known}

-- the first 8 bits behind a RuleID in front
id-bits : (id : ℕ) (rest : List Bool) → take 8 (number_bits 8 id ++ rest) ≡ number_bits 8 id
unfolding number_bits
id-bits id rest = refl

-- a test of which one part or the other holds
or-false : (a b : Bool) → (a || b) ≡ false → (a ≡ false) × (b ≡ false)
or-false true b e = absurd cc
or-false false b e = (refl, e)

none-false : (b : Bool) (o : Option ℕ) → cond b (Some 0) o ≡ None → b ≡ false
none-false true o e = absurd cc
none-false false o e = refl

below-cases : (id : ℕ) → nat_lt 223 id ≡ false → nat_lt id 224 ≡ true
below-cases id e = lt-ltb id 224 (omega (arith, ltb-false 223 id e))

whole-parts : (a b c d e f : Bool) → a ≡ false → b ≡ false → c ≡ false → d ≡ false → e ≡ false
    → f ≡ true → ((not a && f) && not b && not c && not d && not e) ≡ true
whole-parts a b c d e f ea eb ec ed ee ef = rw (ea, eb, ec, ed, ee, ef) refl

-- an admitted rule's RuleID is a port by which whole SCHC packets come
admitted-whole : (rule : RuleData) → IsAdmitted rule → is_whole rule.id ≡ true
unfolding is_whole
admitted-whole rule admitted =
    let range : id_out_of_range rule ≡ false =
    none-false (id_out_of_range rule) _ (admitted kind.IdOutOfRange) in
    let reserved : id_reserved rule ≡ false =
    none-false (id_reserved rule) _ (admitted kind.IdReserved) in
    let r = or-false (rule.id == 0) (nat_lt 223 rule.id) range in
    let a = or-false _ (rule.id == 223) reserved in
    let b = or-false _ (rule.id == 222) a.0 in
    let c = or-false _ (rule.id == 22) b.0 in
    let d = or-false (rule.id == 20) (rule.id == 21) c.0 in
    whole-parts (rule.id == 0) (rule.id == 20) (rule.id == 21) (rule.id == 222) (rule.id == 223)
    (nat_lt rule.id 224) r.0 d.0 d.1 b.1 a.1 (below-cases rule.id r.1)

-- the RuleID that is chosen is such a port
chosen-whole : (edition : EditionData) (iids : Iids) (way : Direction) (packet : List ℕ) (id : ℕ)
    (bits : List Bool) → IsSound edition → IsChosen edition iids way packet id bits
    → is_whole id ≡ true
unfolding is_whole
chosen-whole edition iids way packet id bits sound (IsChosen.by_rule listed form candidate least) =
    admitted-whole listed.rule
    (All-contains (λ other. IsAdmitted other.rule) edition.rules listed sound.admitted
    candidate.listing)
chosen-whole edition iids way packet id bits sound (IsChosen.by_none none) = refl

packed-is_whole : (edition : EditionData) (iids : Iids) (way : Direction) (packet : List ℕ)
    → IsSound edition → AreBytes packet → is_whole (packed edition iids way packet).rule_id ≡ true
packed-is_whole edition iids way packet sound bytes =
    chosen-whole edition iids way packet (packed edition iids way packet).rule_id
    (packed edition iids way packet).bits sound
    (packed-chosen edition iids way packet sound bytes)

whole-below : (id : ℕ) (a b c d e f : Bool) → f ≡ nat_lt id 224
    → ((a && f) && b && c && d && e) ≡ true → id < 256
whole-below id true b c d e true f h = omega (arith, ltb-true id 224 (sym f))
whole-below id true b c d e false f h = absurd cc
whole-below id false b c d e g f h = absurd cc

-- the RuleID with which a sound edition writes a packet fits in 8 bits
pub packed-below : (edition : EditionData) (iids : Iids) (way : Direction) (packet : List ℕ)
    → IsSound edition → AreBytes packet → (packed edition iids way packet).rule_id < 256
unfolding is_whole
packed-below edition iids way packet sound bytes =
    whole-below (packed edition iids way packet).rule_id _ _ _ _ _
    (nat_lt (packed edition iids way packet).rule_id 224) refl
    (packed-is_whole edition iids way packet sound bytes)

-- by the port that is a written packet's RuleID comes a whole packet, at either end
pub packed-whole : (role : Role) (edition : EditionData) (iids : Iids) (way : Direction)
    (packet : List ℕ) → IsSound edition → AreBytes packet
    → meaning_of role (packed edition iids way packet).rule_id ≡ Whole
packed-whole role edition iids way packet sound bytes =
    (meaning_of-whole role (packed edition iids way packet).rule_id).1
    (packed-is_whole edition iids way packet sound bytes)

-- the edition that wrote it knows its RuleID
pub packed-known : (edition : EditionData) (iids : Iids) (way : Direction) (packet : List ℕ)
    → IsSound edition → AreBytes packet → IsKnown edition (packed edition iids way packet).rule_id
packed-known edition iids way packet sound bytes =
    chosen-known edition iids way packet (packed edition iids way packet).rule_id
    (packed edition iids way packet).bits sound.ascending
    (packed-chosen edition iids way packet sound bytes)

-- What was written, with zero bits behind it: a frame that carries it whole has up to 7 of them,
-- and so has what a session joins.

-- a reader that agrees on the RuleID reads the bits as the packet that the other end restores
pub reads-bits : (writer reader : EditionData) (iids : Iids) (way : Direction) (packet : List ℕ)
    (bits padding : List Bool)
    → bits ≡ (packed writer iids way packet).bits ++ padding → length padding ≤ 7 → IsSound writer
    → IsSound reader → AreBytes packet → has_ipv6_header packet ≡ true
    → AgreeOn writer reader (packed writer iids way packet).rule_id
    → IsReadAs writer reader iids way packet (packed writer iids way packet).rule_id bits
reads-bits writer reader iids way packet bits padding are few written read bytes ipv6 agree =
    subst (λ b. IsReadAs writer reader iids way packet (packed writer iids way packet).rule_id b)
    (sym are)
    (reads_what_was_written writer reader iids way packet padding written read bytes ipv6 few agree)

-- they begin with the RuleID
written-id : (writer : EditionData) (iids : Iids) (way : Direction) (packet : List ℕ)
    (padding : List Bool) → IsSound writer → AreBytes packet
    → bits_value
    (take 8 ((packed writer iids way packet).bits ++ padding)) ≡ (packed writer iids way
    packet).rule_id
written-id writer iids way packet padding sound bytes =
    let p = packed writer iids way packet in
    ap (λ b. bits_value (take 8 (b ++ padding))) (packed-begins writer iids way packet)
    ∙ ap (λ b. bits_value (take 8 b))
    (append_assoc (number_bits 8 p.rule_id) (drop 8 p.bits) padding)
    ∙ ap bits_value (id-bits p.rule_id (drop 8 p.bits ++ padding))
    ∙ bits_value-number_bits 8 p.rule_id (packed-below writer iids way packet sound bytes)

-- so a reader that reads them knows it
pub knows-bits : (writer reader : EditionData) (iids : Iids) (way : Direction) (packet : List ℕ)
    (bits padding : List Bool) (read : UnpackedData)
    → bits ≡ (packed writer iids way packet).bits ++ padding → IsSound writer → AreBytes packet
    → unpacked reader iids way bits ≡ Ok read
    → IsKnown reader (packed writer iids way packet).rule_id
knows-bits writer reader iids way packet bits padding read are sound bytes given =
    subst (IsKnown reader)
    (ap (λ b. bits_value (take 8 b)) are
    ∙ written-id writer iids way packet padding sound bytes)
    (read-known reader iids way bits read given)

-- the same of a frame
frame-bits : (writer : EditionData) (iids : Iids) (way : Direction) (packet : List ℕ)
    → carried
    (frame_of (packed writer iids way packet)) ≡ (packed writer iids way
    packet).bits ++ frame_padding (packed writer iids way packet)
frame-bits writer iids way packet =
    carried-frame_of (packed writer iids way packet) (packed-begins writer iids way packet)

pub reads-frame : (writer reader : EditionData) (iids : Iids) (way : Direction) (packet : List ℕ)
    → IsSound writer → IsSound reader → AreBytes packet → has_ipv6_header packet ≡ true
    → AgreeOn writer reader (packed writer iids way packet).rule_id
    → IsReadAs writer reader iids way packet (packed writer iids way packet).rule_id
    (carried (frame_of (packed writer iids way packet)))
reads-frame writer reader iids way packet written read bytes ipv6 agree =
    let p = packed writer iids way packet in
    reads-bits writer reader iids way packet (carried (frame_of p)) (frame_padding p)
    (frame-bits writer iids way packet) (length-frame_padding p)
    written read bytes ipv6 agree

pub reader-knows : (writer reader : EditionData) (iids : Iids) (way : Direction) (packet : List ℕ)
    (read : UnpackedData) → IsSound writer → AreBytes packet
    → unpacked reader iids way (carried (frame_of (packed writer iids way packet))) ≡ Ok read
    → IsKnown reader (packed writer iids way packet).rule_id
reader-knows writer reader iids way packet read sound bytes given =
    let p = packed writer iids way packet in
    knows-bits writer reader iids way packet (carried (frame_of p)) (frame_padding p) read
    (frame-bits writer iids way packet) sound bytes given
