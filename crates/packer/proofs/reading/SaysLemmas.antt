-- What is read is what the bits say, where nothing is read they say nothing, and how long a packet
-- that is read is.
use Rattle.std.specs.Prelude.{ℕ, ◌≡◌, ◌+◌, ◌-◌, ◌*◌, ◌<◌, ◌≤◌, ◌⊎◌, Bool, true, List, ◌++◌, length}
use Rattle.std.specs.Prelude.{drop, Result, Ok, Err, IfOk}
use Rattle.std.proofs.Common.{arith, ap, refl, sym, ◌∙◌, inl, inr}
use Rattle.std.proofs.lemmas.Bool.{lt-ltb}
use Rattle.std.proofs.lemmas.List.{length-append}
use Rattle.schc_bits.specs.Bits.{number_bits, octets}
use Rattle.schc_bits.proofs.NumberBits.{length-number_bits}
use Rattle.schc_bits.proofs.Octets.{length-octets}
use Rattle.schc_ids.specs.declared.ends.Direction.{Direction}
use Rattle.schc_ids.specs.declared.ends.Iids.{Iids}
use Rattle.schc_ids.specs.declared.faults.ResidueFault.TheVariants.{Short}
use Rattle.schc_ids.specs.declared.faults.UnpackFault.{UnpackFault}
use Rattle.schc_ids.specs.declared.faults.UnpackFault.TheVariants.{BadResidue, Memory}
use Rattle.rule_model.specs.Cover.{stack_of}
use Rattle.rule_model.specs.Residue.{residue_of}
use Rattle.editions.specs.Data.{EditionData, IsSound}
use Rattle.packer.specs.UnpackedData.{UnpackedData}
use Rattle.schc_ids.specs.Limits.{uncompressed_port}
use Rattle.packer.specs.Schc.{uncompressed_packet, DecodesWhole, Decodes, NothingDecodes}
use Rattle.packer.specs.Schc.Decodes.{whole, by_rule}
use Rattle.packer.specs.Unpacking.{unpacked}
use Rattle.packer.specs.Rebuilding.{HasOptionsUnder}
use Rattle.packer.proofs.HeadersLemmas.{size_after-below}
use Rattle.packer.proofs.TriedLemmas.{ipv6-of}
use Rattle.packer.proofs.reading.UnpackedLemmas.{sound, complete}

-- too few bits
short_read : (edition : EditionData) (iids : Iids) (direction : Direction) (bits : List Bool)
    → length bits < 8 → unpacked edition iids direction bits ≡ Err (BadResidue 0 Short)
unfolding unpacked
short_read edition iids direction bits few = rw (lt-ltb (length bits) 8 few) refl

whole_length : (bits : List Bool) (packet : List ℕ) → DecodesWhole bits packet
    → 8 + 8 * length packet ≤ length bits
whole_length bits packet d =
    omega (
      arith,
      ap (λ (b : List Bool). length b) d.bits_are,
      length-append (uncompressed_packet packet) d.padding,
      length-append (number_bits 8 uncompressed_port) (octets packet),
      length-number_bits 8 uncompressed_port,
      length-octets packet,
    )

short_none : (edition : EditionData) (iids : Iids) (direction : Direction) (bits : List Bool)
    (packet : List ℕ) (id : ℕ) → length bits < 8 → Decodes edition iids direction bits packet id → ⊥
short_none edition iids direction bits packet id few (whole bytes d) =
    absurd (omega (arith, few, whole_length bits packet d))
short_none edition iids direction bits packet id few (by_rule it listed bytes other found d) =
    absurd (omega (
      arith,
      few,
      ap (λ (b : List Bool). length b) d.bits_are,
      length-append d.schc_packet d.padding,
      ap (λ (b : List Bool). length b) d.its_schc_packet.bits_are,
      length-append (number_bits 8 listed.rule.id)
          (residue_of listed.rule direction d.its_schc_packet.fields ++ octets
          (drop d.its_schc_packet.payload_from packet)),
      length-number_bits 8 listed.rule.id,
    ))

pub says-read : (edition : EditionData) (iids : Iids) (direction : Direction) (bits : List Bool)
    (read : UnpackedData) → (length bits < 8) ⊎ IsSound edition
    → HasOptionsUnder edition direction read.rule_id
    → unpacked edition iids direction bits ≡ Ok read
    → Decodes edition iids direction bits read.packet read.rule_id
says-read edition iids direction bits read (inl few) options e =
    let both : ◌≡◌ {A = Result UnpackedData UnpackFault} (Err (BadResidue 0 Short)) (Ok read) =
    sym (short_read edition iids direction bits few) ∙ e in absurd (cc)
says-read edition iids direction bits read (inr is) options e =
    sound edition iids direction bits read is options e

nothing : (edition : EditionData) (iids : Iids) (direction : Direction) (bits : List Bool)
    (fault : UnpackFault) → (length bits < 8) ⊎ IsSound edition
    → unpacked edition iids direction bits ≡ Err fault → NothingDecodes edition iids direction bits
nothing edition iids direction bits fault (inl few) e packet id d =
    short_none edition iids direction bits packet id few d
nothing edition iids direction bits fault (inr is) e packet id d =
    let read : UnpackedData = record { rule_id = id; packet = packet } in
    let both : ◌≡◌ {A = Result UnpackedData UnpackFault} (Ok read) (Err fault) =
    sym (complete edition iids direction bits packet id is d) ∙ e in
    absurd (cc)

-- where reading fails, memory is wanting or the bits aren't read as any packet: with a sound
-- edition, or where they are fewer than 8
pub none-read : (edition : EditionData) (iids : Iids) (direction : Direction) (bits : List Bool)
    (fault : UnpackFault) → (length bits < 8) ⊎ IsSound edition → (fault ≡ Memory)
    ⊎ (unpacked edition iids direction bits ≡ Err fault) → (fault ≡ Memory)
    ⊎ NothingDecodes edition iids direction bits
none-read edition iids direction bits fault sound (inl memory) = inl memory
none-read edition iids direction bits fault sound (inr e) =
    inr (nothing edition iids direction bits fault sound e)

decoded-length : (edition : EditionData) (iids : Iids) (direction : Direction) (bits : List Bool)
    (packet : List ℕ) (id : ℕ) → Decodes edition iids direction bits packet id
    → (length packet ≤ 65575) ⊎ (8 * length packet ≤ length bits)
decoded-length edition iids direction bits packet id (whole bytes d) =
    inr (omega (arith, whole_length bits packet d))
decoded-length edition iids direction bits packet id (by_rule it listed bytes other found d) =
    inl (omega (
      arith,
      size_after-below packet
          (ipv6-of (stack_of listed.rule) direction packet d.matching.fields d.matching.payload_from
          d.matching.is_packet),
    ))

pub bound-read : (edition : EditionData) (iids : Iids) (direction : Direction) (bits : List Bool)
    (read : UnpackedData) → (length bits < 8) ⊎ IsSound edition
    → HasOptionsUnder edition direction read.rule_id
    → unpacked edition iids direction bits ≡ Ok read → (length read.packet ≤ 65575)
    ⊎ (8 * length read.packet ≤ length bits)
bound-read edition iids direction bits read is options e =
    decoded-length edition iids direction bits read.packet read.rule_id
    (says-read edition iids direction bits read is options e)

-- what holds at all holds of whatever was read
pub IfOk-all : {X Y : Type 0} (r : Result X Y) (P : Type 0) → P → IfOk r (λ _. P)
IfOk-all (Ok x) P p = p
IfOk-all (Err y) P p = tt

-- the same of what was read
pub says-result : (edition : EditionData) (iids : Iids) (direction : Direction) (bits : List Bool)
    (r : Result UnpackedData UnpackFault) → (length bits < 8) ⊎ IsSound edition
    → IfOk r (λ read. HasOptionsUnder edition direction read.rule_id)
    → IfOk r (λ read. unpacked edition iids direction bits ≡ Ok read)
    → IfOk r (λ read. Decodes edition iids direction bits read.packet read.rule_id)
says-result edition iids direction bits (Ok read) is options e =
    says-read edition iids direction bits read is options e
says-result edition iids direction bits (Err fault) is options e = tt

-- a packet that is read has at most 65,575 bytes, or no more than there are whole bytes in the bits
pub bound-result : (edition : EditionData) (iids : Iids) (direction : Direction) (bits : List Bool)
    (r : Result UnpackedData UnpackFault) → (length bits < 8) ⊎ IsSound edition
    → IfOk r (λ read. HasOptionsUnder edition direction read.rule_id)
    → IfOk r (λ read. unpacked edition iids direction bits ≡ Ok read)
    → IfOk r (λ read. (length read.packet ≤ 65575) ⊎ (8 * length read.packet ≤ length bits))
bound-result edition iids direction bits (Ok read) is options e =
    bound-read edition iids direction bits read is options e
bound-result edition iids direction bits (Err fault) is options e = tt
