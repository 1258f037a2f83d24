-- What waits, as it was written: that it can wait, and that what doesn't fit a frame is long enough
-- for a session.
use Rattle.std.proofs.Common.{◌≡◌, ℕ, ◌≤◌, Bool, false, List, length, drop, arith, refl, ap}
use Rattle.std.proofs.lemmas.Bool.{leb-false}
use Rattle.std.proofs.lemmas.List.{length-append, length-drop}
use Rattle.schc_bits.specs.Bits.{AreBytes, number_bits}
use Rattle.schc_bits.proofs.NumberBits.{length-number_bits}
use Rattle.schc_ids.specs.Limits.{IsMtu, max_packet, min_session_bits, max_session_bits}
use Rattle.schc_ids.specs.declared.ends.Direction.{Direction}
use Rattle.schc_ids.specs.declared.ends.Iids.{Iids}
use Rattle.editions.specs.Data.{EditionData}
use Rattle.packer.specs.Laws.{IsSound}
use Rattle.packer.specs.Packing.{packed, shortest}
use Rattle.packer.specs.declared.packing.Packed.{Packed}
use Rattle.packer.proofs.PackedLemmas.{packed-begins}
use Rattle.packer.proofs.writing.SuspectLemmas.{schc_packet-short}
use Rattle.end_core.specs.Data.{IsForm, fits, frame_size}
use Rattle.end_core.proofs.ReadBackLemmas.{packed-below}

-- it has the bits of its RuleID
written-long : (edition : EditionData) (iids : Iids) (way : Direction) (packet : List ℕ)
    → 8 ≤ length (packed edition iids way packet).bits
written-long edition iids way packet =
    let p = packed edition iids way packet in
    omega (
      arith,
      ap (λ (b : List Bool). length b) (packed-begins edition iids way packet),
      length-append (number_bits 8 p.rule_id) (drop 8 p.bits),
      length-number_bits 8 p.rule_id,
    )

-- a packet that an end takes can wait
pub packed-form : (edition : EditionData) (iids : Iids) (way : Direction) (packet : List ℕ)
    → IsSound edition → AreBytes packet → length packet ≤ max_packet
    → IsForm (packed edition iids way packet)
unfolding packed
packed-form edition iids way packet sound bytes few =
    record {
      is_port = packed-below edition iids way packet sound bytes;
      has_id = written-long edition iids way packet;
      begins = packed-begins edition iids way packet;
      is_short =
          omega (
            arith,
            schc_packet-short edition iids way packet
                (shortest iids way packet edition.rules) sound bytes few refl,
          );
    }

-- what doesn't fit a frame has at least 128 bits
pub unfit-long : (mtu : ℕ) (form : Packed) → IsMtu mtu → fits mtu form ≡ false
    → min_session_bits ≤ length form.bits
unfit-long mtu form range unfit =
    omega (arith, range.0, leb-false (frame_size form.bits) mtu unfit, length-drop 8 form.bits)

-- and what waits has at most 20,160, so that it can go as a session
pub form-sendable : (form : Packed) → IsForm form → length form.bits ≤ max_session_bits
form-sendable form waits = omega (arith, waits.is_short)
