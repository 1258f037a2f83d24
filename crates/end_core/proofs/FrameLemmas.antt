-- The frame that carries an SCHC packet whole.
use Rattle.std.proofs.Common.{◌≡◌, ◌+◌, ◌-◌, ◌/◌, ◌%◌, ◌≤◌, List, Bool, false, ◌++◌, length}
use Rattle.std.proofs.Common.{replicate, arith, ap, sym, ◌∙◌}
use Rattle.std.proofs.lemmas.List.{append_assoc, length-replicate}
use Rattle.schc_bits.specs.Bits.{number_bits, padded, bytes_of}
use Rattle.schc_bits.proofs.Octets.{length-bytes_of, length-padded, octets-bytes_of-padded}
use Rattle.schc_bits.proofs.Octets.{padded-is}
use Rattle.packer.specs.declared.packing.Packed.{Packed}
use Rattle.packer.proofs.PackedLemmas.{BeginsWithId}
use Rattle.end_core.specs.Data.{after_id, frame_size}
use Rattle.end_core.specs.End.{frame_of, carried}

-- the bytes of the padded bits
pub length-padded_bytes : (bits : List Bool)
    → length (bytes_of (padded bits)) ≡ (length bits + 7) / 8
length-padded_bytes bits =
    let bytes = length-bytes_of (padded bits) in
    let whole = length-padded bits in
    omega (arith, bytes, whole)

-- its size
pub length-frame_of : (form : Packed) → length (frame_of form).bytes ≡ frame_size form.bits
length-frame_of form = length-padded_bytes (after_id form.bits)

pub ruleset frame_sizes = length-padded_bytes

-- the zero bits that a frame has behind the SCHC packet
abbrev pub frame_padding : Packed → List Bool
frame_padding form = replicate ((8 - length (after_id form.bits) % 8) % 8) false

-- at most 7 zero bits stand behind the SCHC packet in its frame
pub length-frame_padding : (form : Packed) → length (frame_padding form) ≤ 7
length-frame_padding form =
    rw (length-replicate ((8 - length (after_id form.bits) % 8) % 8) false) (omega arith)

-- a frame carries the SCHC packet, with up to 7 zero bits behind it
pub carried-frame_of : (form : Packed) → BeginsWithId form
    → carried (frame_of form) ≡ form.bits ++ frame_padding form
carried-frame_of form begins =
    ap (λ bits. number_bits 8 form.rule_id ++ bits)
    (octets-bytes_of-padded (after_id form.bits) ∙ padded-is (after_id form.bits))
    ∙ sym (append_assoc (number_bits 8 form.rule_id) (after_id form.bits) (frame_padding form))
    ∙ ap (λ bits. bits ++ frame_padding form) (sym begins)
