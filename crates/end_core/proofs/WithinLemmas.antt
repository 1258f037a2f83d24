-- How long a packet is that a frame carries.
use Rattle.std.proofs.Common.{◌≡◌, ℕ, ◌≤◌, Bool, List, length, Option, Some, None, Result, Ok, Err}
use Rattle.std.proofs.Common.{IfOk, IfSome, arith, ap, subst, inl, inr}
use Rattle.std.proofs.lemmas.List.{length-append}
use Rattle.schc_bits.specs.Bits.{number_bits, octets}
use Rattle.schc_bits.proofs.NumberBits.{length-number_bits}
use Rattle.schc_bits.proofs.Octets.{length-octets}
use Rattle.schc_ids.specs.Limits.{uncompressed_port}
use Rattle.schc_ids.specs.declared.faults.UnpackFault.{UnpackFault}
use Rattle.schc_ids.specs.declared.notes.Note.{Note}
use Rattle.schc_ids.specs.declared.notes.Report.{Report}
use Rattle.schc_ids.specs.declared.ends.Direction.{Direction}
use Rattle.schc_ids.specs.declared.ends.Iids.{Iids}
use Rattle.rule_model.specs.Cover.{stack_of}
use Rattle.editions.specs.Data.{EditionData}
use Rattle.packer.specs.UnpackedData.{UnpackedData}
use Rattle.packer.specs.Schc.{uncompressed_packet, DecodesWhole, Decodes}
use Rattle.packer.proofs.HeadersLemmas.{size_after-below}
use Rattle.packer.proofs.TriedLemmas.{ipv6-of}
use Rattle.event_data.specs.Records.{FrameData}
use Rattle.event_data.specs.declared.outcomes.Taken.{Taken}
use Rattle.event_data.specs.Outcomes.{IsNote}
use Rattle.end_core.specs.Events.{IsAnswer, IsWithin, max_ipv6_packet}
use Rattle.end_core.specs.End.{carried, up_of, taken_part}

-- a packet that no rule compresses has no more bytes than the frame
whole-within : (frame : FrameData) (packet : List ℕ) → DecodesWhole (carried frame) packet
    → length packet ≤ length frame.bytes
whole-within frame packet d =
    omega (
      arith,
      ap (λ (b : List Bool). length b) d.bits_are,
      length-append (uncompressed_packet packet) d.padding,
      length-append (number_bits 8 uncompressed_port) (octets packet),
      length-number_bits 8 uncompressed_port,
      length-octets packet,
      length-append (number_bits 8 frame.port) (octets frame.bytes),
      length-number_bits 8 frame.port,
      length-octets frame.bytes,
    )

decodes_within : (edition : EditionData) (iids : Iids) (way : Direction) (frame : FrameData)
    (packet : List ℕ) (id : ℕ) → Decodes edition iids way (carried frame) packet id
    → IsWithin frame packet
decodes_within edition iids way frame packet id (Decodes.whole bytes d) =
    inr (whole-within frame packet d)
decodes_within edition iids way frame packet id (Decodes.by_rule it listed bytes other found d) =
    inl (omega (
      arith,
      size_after-below packet
          (ipv6-of (stack_of listed.rule) way packet d.matching.fields d.matching.payload_from
          d.matching.is_packet),
    ))

-- what the bits of a frame are read as is within its bounds
pub bits_within : {edition : EditionData} {iids : Iids} {way : Direction} {bits : List Bool}
    {packet : List ℕ} {id : ℕ} (frame : FrameData) → bits ≡ carried frame
    → Decodes edition iids way bits packet id → IsWithin frame packet
bits_within {edition} {iids} {way} {bits} {packet} {id} frame e d =
    decodes_within edition iids way frame packet id
    (subst (λ b. Decodes edition iids way b packet id) e d)

-- a packet read from the bits of a frame has at most 65,575 bytes, or no more than the frame
pub read-within : (edition : EditionData) (iids : Iids) (way : Direction) {bits : List Bool}
    {read : Result UnpackedData UnpackFault} {unpacked : UnpackedData} (frame : FrameData)
    → bits ≡ carried frame → IfOk read (λ u. Decodes edition iids way bits u.packet u.rule_id)
    → read ≡ Ok unpacked → IsWithin frame unpacked.packet
read-within edition iids way {bits} {read} {unpacked} frame e says is =
    bits_within frame e
    (subst (λ r. IfOk r (λ u. Decodes edition iids way bits u.packet u.rule_id)) is says)

-- and so is what is handed up
pub up-within : (frame : FrameData) (number : ℕ) (read : UnpackedData) (report : Option Report)
    (note : Note) (taken : Taken)
    → taken ≡ record { up = Some (up_of number read); report = report; note = note }
    → IsWithin frame read.packet
    → IfSome taken.up (λ up. IsWithin frame up.packet)
up-within frame number read report note taken e h = rw e h

-- what a frame makes whole has at most 65,575 bytes
pub part-within : (frame : FrameData) (number : ℕ) (said : Note × Option Report)
    (joined : Option (Result UnpackedData UnpackFault))
    → IfSome joined (λ read. IfOk read (λ unpacked. length unpacked.packet ≤ max_ipv6_packet))
    → IfSome (taken_part number said joined).up (λ up. IsWithin frame up.packet)
unfolding taken_part
part-within frame number said None h = tt
part-within frame number said (Some (Ok unpacked)) h = inl h
part-within frame number said (Some (Err fault)) h = tt

-- and the answer is never for want of memory
pub part-note : (number : ℕ) (said : Note × Option Report)
    (joined : Option (Result UnpackedData UnpackFault)) → IsNote said.0
    → IfSome joined IsAnswer → IsNote (taken_part number said joined).note
unfolding taken_part
part-note number said None h k = h
part-note number said (Some (Ok unpacked)) h k = h
part-note number said (Some (Err fault)) h k = k
