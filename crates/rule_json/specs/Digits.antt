-- Targets, identifiers and packets as hex digits.
use Rattle.std.specs.Prelude.{ℕ, ◌+◌, ◌-◌, ◌/◌, ◌%◌, ◌^◌, ◌==◌, zero, suc, nat_le, nat_lt, Bool}
use Rattle.std.specs.Prelude.{false, if◌then◌else◌, List, [], ◌∷◌, ◌++◌, length, take, drop}
use Rattle.std.specs.Prelude.{replicate, slice_index, Option, Some, None, Result, Ok, Err}
use Rattle.std.specs.Option.{option_map}
use Rattle.std.specs.Int.{from_be_bytes}
use mir.Syntax.{w64}
use Rattle.hex.specs.Hex.{hex_digit_value, lower_digits, decode_of, decode_sized}
use Rattle.schc_bits.specs.Bits.{number_bits, bits_value}
use Rattle.rule_model.specs.declared.rule.Length.{Length}
use Rattle.rule_model.specs.declared.rule.Length.TheVariants.{Fixed, Variable, TokenLength}
use Rattle.rule_json.specs.Values.{◌>>=◌}

-- four bits for each hex digit, in either case; none where a character is no digit
unfoldable pub digit_bits : List ℕ → Option (List Bool)
digit_bits [] = Some []
digit_bits (c ∷ cs) =
    hex_digit_value c >>= λ digit. digit_bits cs >>= λ bits. Some (number_bits 4 digit ++ bits)

-- the number in `width` bits, where it is below 2 ^ width
abbrev pub fitting : ℕ → ℕ → Option (List Bool)
fitting width number = if nat_lt number (2 ^ width) then Some (number_bits width number) else None

-- the target of a field of `width` bits: a number below 2 ^ width, in no more digits than `width`
-- bits have
unfoldable pub fixed_target : ℕ → List ℕ → Option (List Bool)
fixed_target width text =
    if nat_le (length text) ((width + 3) / 4)
    then (digit_bits text >>= λ bits. fitting width (bits_value bits)) else None

-- a target of whole bytes, with two digits for each
unfoldable pub bytes_target : List ℕ → Option (List Bool)
bytes_target text = if length text % 2 == 0 then digit_bits text else None

-- the target of a field of this length
abbrev pub target_of : Length → List ℕ → Option (List Bool)
target_of (Fixed width) text = fixed_target width text
target_of Variable text = bytes_target text
target_of TokenLength text = bytes_target text

-- the first `count` digits of the bits, four bits for each, in lower case
unfoldable pub first_digits : ℕ → List Bool → List ℕ
first_digits zero bits = []
first_digits (suc count) bits =
    slice_index lower_digits (bits_value (take 4 bits)) ∷ first_digits count (drop 4 bits)

-- the fewest zero bits that make whole digits of this many bits
abbrev pub filling : ℕ → List Bool
filling count = replicate ((4 - count % 4) % 4) false

-- the bits as a number in all its digits, leading zeros too
unfoldable pub target_text : List Bool → List ℕ
target_text bits = first_digits ((length bits + 3) / 4) (filling (length bits) ++ bits)

-- what was decoded, where it could be
abbrev pub decoded : {A E : Type 0} → Result A E → Option A
decoded (Ok bytes) = Some bytes
decoded (Err _) = None

-- the interface identifier that 16 hex digits write, the highest first
unfoldable pub iid_of : List ℕ → Option ℕ
iid_of text = option_map (from_be_bytes w64) (decoded (decode_sized text 8))

-- the bytes of a packet, with two hex digits for each
unfoldable pub packet_of : List ℕ → Option (List ℕ)
packet_of text = decoded (decode_of text)
