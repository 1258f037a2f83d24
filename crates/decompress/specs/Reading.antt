-- What is read at a place in the bits, entry by entry: RFC 8724, section 7.4, and RFC 8824, section
-- 4.5 (the token).
use Rattle.std.specs.Prelude.{ℕ, ◌+◌, ◌-◌, ◌*◌, ◌==◌, Bool, false, nat_lt, if◌then◌else◌, List, []}
use Rattle.std.specs.Prelude.{◌∷◌, ◌++◌, length, take, replicate, unwrap_or, slice_get, Option}
use Rattle.std.specs.Prelude.{Some, None, Result, Ok, Err, ok_or}
use Rattle.schc_bits.specs.Bits.{bits_at, number_at, number_bits}
use Rattle.schc_ids.specs.declared.ends.Direction.{Direction}
use Rattle.schc_ids.specs.declared.ends.Iids.{Iids}
use Rattle.schc_ids.specs.declared.faults.ResidueFault.{ResidueFault}
use Rattle.schc_ids.specs.declared.faults.ResidueFault.TheVariants.{Short, IndexTooLarge}
use Rattle.schc_ids.specs.declared.faults.ResidueFault.TheVariants.{NonMinimalSize}
use Rattle.schc_ids.specs.declared.faults.UnpackFault.{UnpackFault}
use Rattle.schc_ids.specs.declared.faults.UnpackFault.TheVariants.{BadResidue}
use Rattle.schc_ids.specs.Ends.{covers}
use Rattle.schc_ids.specs.Names.{width_of}
use Rattle.rule_model.specs.declared.rule.Length.{Length}
use Rattle.rule_model.specs.declared.rule.Length.TheVariants.{Fixed, Variable, TokenLength}
use Rattle.rule_model.specs.declared.rule.Action.{Action}
use Rattle.rule_model.specs.declared.rule.Action.TheVariants.{NotSent, ValueSent, MappingSent, Lsb}
use Rattle.rule_model.specs.declared.rule.Action.TheVariants.{Compute, DevIid, AppIid}
use Rattle.rule_model.specs.declared.value.FieldValue.{FieldValue}
use Rattle.rule_model.specs.Data.{EntryData, RuleData}
use Rattle.rule_model.specs.Cover.{field_of}
use Rattle.rule_model.specs.Residue.{index_width, msb_bits, token_bits, first_target}

-- goes on with what was read and the bits after it
abbrev pub then_read : {A B : Type 0} → Result (A × List Bool) ResidueFault
    → (A → List Bool → Result (B × List Bool) ResidueFault) → Result (B × List Bool) ResidueFault
then_read (Err fault) next = Err fault
then_read (Ok read) next = next read.0 read.1

-- the next `count` bits
abbrev pub taken_at : ℕ → List Bool → Result (List Bool × List Bool) ResidueFault
taken_at count bits = ok_or (bits_at count bits) Short

-- the number in the next `count` bits
abbrev pub counted_at : ℕ → List Bool → Result (ℕ × List Bool) ResidueFault
counted_at count bits = ok_or (number_at count bits) Short

-- a size that needs the form in which it is: it doesn't fit a shorter one
abbrev pub minimal : ℕ → ℕ → List Bool → Result (ℕ × List Bool) ResidueFault
minimal least size rest = if nat_lt size least then Err NonMinimalSize else Ok (size, rest)

-- RFC 8724, section 7.4.2: a size from 255 on in 16 bits, after twelve ones
abbrev pub long_size_at : List Bool → Result (ℕ × List Bool) ResidueFault
long_size_at bits = then_read (counted_at 16 bits) (minimal 255)

-- a size from 15 on in 8 bits, after four ones
abbrev pub byte_size_from : ℕ → List Bool → Result (ℕ × List Bool) ResidueFault
byte_size_from size rest = if size == 255 then long_size_at rest else minimal 15 size rest

-- a size below 15 in 4 bits, or a longer form
abbrev pub size_from : ℕ → List Bool → Result (ℕ × List Bool) ResidueFault
size_from size rest =
    if size == 15 then then_read (counted_at 8 rest) byte_size_from else Ok (size, rest)

-- a size in its shortest form
unfoldable pub size_at : List Bool → Result (ℕ × List Bool) ResidueFault
size_at bits = then_read (counted_at 4 bits) size_from

-- the bits of a value after its first `skip`, where `before` are the fields that are restored so
-- far
abbrev pub value_at : List FieldValue → Length → ℕ → List Bool
    → Result (List Bool × List Bool) ResidueFault
value_at before (Fixed width) skip bits = taken_at (width - skip) bits
value_at before TokenLength skip bits = taken_at (token_bits before) bits
value_at before Variable skip bits =
    then_read (size_at bits) (λ size rest. taken_at (8 * size) rest)

-- the target that has the index, if one has
abbrev pub target_or : Option (List Bool) → List Bool → Result (List Bool × List Bool) ResidueFault
target_or None rest = Err IndexTooLarge
target_or (Some target) rest = Ok (target, rest)

-- a target by its index
abbrev pub target_at : List (List Bool) → List Bool → Result (List Bool × List Bool) ResidueFault
target_at targets bits =
    then_read (counted_at (index_width (length targets)) bits)
    (λ index rest. target_or (slice_get targets index) rest)

-- bits with those of the target before them
abbrev pub after_target : ℕ → List (List Bool) → List Bool → List Bool
    → Result (List Bool × List Bool) ResidueFault
after_target count targets value rest = Ok (take count (first_target targets) ++ value, rest)

-- a value whose first bits are those of the target
abbrev pub lsb_at : List FieldValue → EntryData → List Bool
    → Result (List Bool × List Bool) ResidueFault
lsb_at before e bits =
    then_read (value_at before e.length (msb_bits e.operator) bits)
    (after_target (msb_bits e.operator) e.targets)

-- the value that the action restores from the bits
abbrev pub value_by : Iids → List FieldValue → Action → EntryData → List Bool
    → Result (List Bool × List Bool) ResidueFault
value_by iids before ValueSent e bits = value_at before e.length 0 bits
value_by iids before MappingSent e bits = target_at e.targets bits
value_by iids before Lsb e bits = lsb_at before e bits
value_by iids before NotSent e bits = Ok (first_target e.targets, bits)
value_by iids before Compute e bits = Ok (replicate (unwrap_or (width_of e.name) 0) false, bits)
value_by iids before DevIid e bits = Ok (number_bits 64 iids.dev, bits)
value_by iids before AppIid e bits = Ok (number_bits 64 iids.app, bits)

-- the value of an entry's field, where `before` are the fields that are restored so far
abbrev pub entry_at : Iids → List FieldValue → EntryData → List Bool
    → Result (List Bool × List Bool) ResidueFault
entry_at iids before e bits = value_by iids before e.action e bits

-- one more field
abbrev pub with_field : List FieldValue → EntryData → List Bool → List FieldValue
with_field before e value = before ++ record { at = field_of e; value = value } ∷ []

-- goes on after the entry of this number, or stops at it
abbrev pub then_entry : ℕ → Result (List Bool × List Bool) ResidueFault
    → (List Bool → List Bool → Result (List FieldValue × List Bool) UnpackFault)
    → Result (List FieldValue × List Bool) UnpackFault
then_entry number (Err fault) next = Err (BadResidue number fault)
then_entry number (Ok read) next = next read.0 read.1

-- the entries that are used in the direction are read in the rule's order, where `before` are the
-- fields that are restored so far. Entries are numbered in the rule's list, used or not
abbrev pub restore_from : Iids → Direction → ℕ → List FieldValue → List EntryData → List Bool
    → Result (List FieldValue × List Bool) UnpackFault
restore_from iids direction number before [] bits = Ok (before, bits)
restore_from iids direction number before (e ∷ later) bits =
    if covers e.direction direction then
    then_entry number (entry_at iids before e bits)
    (λ value rest. restore_from iids direction (number + 1) (with_field before e value) later rest)
    else restore_from iids direction (number + 1) before later bits

-- the fields whose residue stands in front, and the bits after it; or the first entry that can't be
-- read, and why
abbrev pub restore_at : RuleData → Iids → Direction → List Bool
    → Result (List FieldValue × List Bool) UnpackFault
restore_at rule iids direction bits = restore_from iids direction 1 [] rule.entries bits
