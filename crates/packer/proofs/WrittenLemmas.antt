-- What is written is read, with another edition too.
use Rattle.std.specs.Prelude.{ℕ, ◌≡◌, ◌≤◌, Bool, true, List, ◌++◌, length, Some}
use Rattle.std.proofs.Common.{ap, refl, sym, ◌∙◌, inl, inr}
use Rattle.std.proofs.lemmas.Bool.{true≢false, eq-eqb}
use Rattle.std.proofs.lemmas.List.Elements.{All-contains}
use Rattle.schc_bits.specs.Bits.{AreBytes}
use Rattle.schc_ids.specs.declared.ends.Direction.{Direction}
use Rattle.schc_ids.specs.declared.ends.Iids.{Iids}
use Rattle.rule_model.specs.Findings.{IsAdmitted}
use Rattle.editions.specs.declared.listed.Listed.{Listed}
use Rattle.editions.specs.Data.{EditionData, lookup}
use Rattle.ip_udp_fields.specs.Fields.{has_ipv6_header}
use Rattle.schc_ids.specs.Limits.{uncompressed_port}
use Rattle.packer.specs.Schc.{IsCandidate, IsChosen}
use Rattle.packer.specs.Schc.IsChosen.{by_rule, by_none}
use Rattle.packer.specs.Packing.{packed}
use Rattle.packer.specs.Laws.{IsSound, AgreeOn, IsReadAs, ReadsWhatWasWritten}
use Rattle.packer.proofs.ChosenLemmas.{packed-chosen}
use Rattle.packer.proofs.reading.UnpackedLemmas.{listed-found, id-compressed, IsReadUnder}
use Rattle.packer.proofs.reading.UnpackedLemmas.{read-written, read-whole}

same_listed : (these listed : Listed) → Some these ≡ Some listed → these ≡ listed
same_listed these listed e = cc

candidate-read : (writer reader : EditionData) (iids : Iids) (direction : Direction)
    (packet : List ℕ) (padding bits : List Bool) (listed : Listed) → IsSound writer
    → AreBytes packet → length padding ≤ 7 → IsCandidate writer iids direction packet listed bits
    → AgreeOn writer reader listed.rule.id
    → IsReadAs writer reader iids direction packet listed.rule.id (bits ++ padding)
candidate-read writer reader iids direction packet padding bits listed sound bytes short c agree =
    let admitted : IsAdmitted listed.rule =
    All-contains (λ l. IsAdmitted l.rule) writer.rules listed sound.admitted c.listing in
    let found : lookup writer.rules listed.rule.id ≡ Some listed =
    listed-found writer.rules listed sound.ascending c.listing in
    elim agree [
      | inl none ↦ absurd
          (true≢false
          (sym (eq-eqb listed.rule.id uncompressed_port none) ∙ id-compressed listed.rule admitted))
      | inr both ↦
          let one : both.0 ≡ listed = same_listed both.0 listed (sym both.2 ∙ found) in
          let r : IsReadUnder reader iids direction listed.rule packet (bits ++ padding) =
          read-written reader iids direction listed.rule both.1 packet bits padding both.3
          (both.4 ∙ ap (λ (l : Listed). l.rule) one) admitted bytes c.matching c.its_schc_packet
          short
          in
          record {
            restored = r.restored;
            restores = inr (listed, found, r.restores);
            are_bytes = r.are_bytes;
            reads = r.reads;
          }
    ]

chosen-read : (writer reader : EditionData) (iids : Iids) (direction : Direction) (packet : List ℕ)
    (padding : List Bool) (id : ℕ) (bits : List Bool) → IsSound writer → AreBytes packet
    → has_ipv6_header packet ≡ true → length padding ≤ 7
    → IsChosen writer iids direction packet id bits → AgreeOn writer reader id
    → IsReadAs writer reader iids direction packet id (bits ++ padding)
chosen-read writer reader iids direction packet padding id bits sound bytes ipv6 short
    (by_rule listed schc_packet c least) agree =
    candidate-read writer reader iids direction packet padding schc_packet listed sound bytes short
    c agree
chosen-read writer reader iids direction packet padding id bits sound bytes ipv6 short
    (by_none none) agree =
    record {
      restored = packet;
      restores = inl (refl, refl);
      are_bytes = bytes;
      reads = read-whole reader iids direction packet padding bytes ipv6 short;
    }

-- what one edition writes is read with another that has the same rule under the RuleID, with up to
-- 7 bits behind it: as the packet that the other end restores
pub reads_what_was_written : ReadsWhatWasWritten
reads_what_was_written writer reader iids direction packet padding sound other bytes ipv6 short
    agree =
    chosen-read writer reader iids direction packet padding
    (packed writer iids direction packet).rule_id (packed writer iids direction packet).bits
    sound bytes ipv6 short (packed-chosen writer iids direction packet sound bytes) agree
