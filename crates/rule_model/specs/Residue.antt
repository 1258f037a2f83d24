-- What is sent of a packet's fields, and what the other end makes of it: RFC 8724, section 7.4, and
-- RFC 8824, section 4.5 (the token).
use Rattle.std.specs.Prelude.{ℕ, ◌≡◌, ◌≢◌, ◌*◌, ◌/◌, ◌%◌, ◌^◌, ◌==◌, ◌≤◌, Bool, true, false, ◌&&◌}
use Rattle.std.specs.Prelude.{nat_lt, nat_le, if◌then◌else◌, List, [], ◌∷◌, ◌++◌, length, take}
use Rattle.std.specs.Prelude.{drop, map, replicate, position, slice_get, unwrap_or, AllPairs}
use Rattle.std.specs.Prelude.{Contains, IfSome}
use Rattle.std.specs.List.{flat_map, position_or_len, range_with_len}
use Rattle.schc_bits.specs.Bits.{number_bits, bits_value}
use Rattle.schc_ids.specs.declared.ends.Direction.{Direction}
use Rattle.schc_ids.specs.declared.ends.Iids.{Iids}
use Rattle.schc_ids.specs.declared.names.FieldAt.{FieldAt}
use Rattle.schc_ids.specs.declared.names.FieldName.{FieldName}
use Rattle.schc_ids.specs.declared.names.FieldName.TheVariants.{CoapTkl, CoapToken}
use Rattle.schc_ids.specs.Names.{same_name, width_of}
use Rattle.rule_model.specs.declared.rule.Length.{Length}
use Rattle.rule_model.specs.declared.rule.Length.TheVariants.{Variable}
use Rattle.rule_model.specs.declared.rule.Operator.{Operator}
use Rattle.rule_model.specs.declared.rule.Operator.TheVariants.{Msb}
use Rattle.rule_model.specs.declared.rule.Action.{Action}
use Rattle.rule_model.specs.declared.rule.Action.TheVariants.{NotSent, ValueSent, MappingSent, Lsb}
use Rattle.rule_model.specs.declared.rule.Action.TheVariants.{Compute, DevIid, AppIid}
use Rattle.rule_model.specs.declared.value.FieldValue.{FieldValue}
use Rattle.rule_model.specs.Data.{EntryData, RuleData}
use Rattle.rule_model.specs.Cover.{covered, field_of}
use Rattle.rule_model.specs.Findings.{same_bits}
use Rattle.rule_model.specs.Matches.{LengthHolds}

-- whether two fields are one: the same name and position
abbrev pub same_field : FieldAt → FieldAt → Bool
same_field a b = same_name a.name b.name && (a.position == b.position)

-- the value of a field; no bits where it isn't among the fields
abbrev pub value_of : List FieldValue → FieldAt → List Bool
value_of [] at = []
value_of (f ∷ fields) at = if same_field f.at at then f.value else value_of fields at

-- RFC 8724, section 7.4.2: the size in bytes before a value of variable length. 0 to 14 in 4 bits,
-- 15 to 254 as four ones and 8 bits, 255 to 65,535 as twelve ones and 16 bits
unfoldable pub size_code : ℕ → List Bool
size_code size =
    if nat_lt size 15 then number_bits 4 size
    else (if nat_lt size 255 then replicate 4 true ++ number_bits 8 size else replicate 12
    true ++ number_bits 16 size)

-- RFC 8724, section 7.4.5: the fewest bits that code all indices below `count`, which is the first
-- width that has so many numbers
unfoldable pub index_width : ℕ → ℕ
index_width count = position_or_len (λ width. nat_le count (2 ^ width)) (range_with_len 0 count)

-- the index, from 0, of the first target that is the value; 0 where none is
abbrev pub index_of : List (List Bool) → List Bool → ℕ
index_of targets value = unwrap_or (position (λ target. same_bits target value) targets) 0

-- how many first bits MSB compares
abbrev pub msb_bits : Operator → ℕ
msb_bits (Msb bits) = bits
msb_bits _ = 0

-- bits of variable length are sent with their size in bytes before them, others as they are
abbrev pub with_size : Length → List Bool → List Bool
with_size Variable bits = size_code (length bits / 8) ++ bits
with_size _ bits = bits

-- what the action sends of a value: RFC 8724, sections 7.4.3 to 7.4.8
abbrev pub sent_bits : Action → Length → Operator → List (List Bool) → List Bool → List Bool
sent_bits NotSent kind operator targets value = []
sent_bits ValueSent kind operator targets value = with_size kind value
sent_bits MappingSent kind operator targets value =
    number_bits (index_width (length targets)) (index_of targets value)
sent_bits Lsb kind operator targets value = with_size kind (drop (msb_bits operator) value)
sent_bits Compute kind operator targets value = []
sent_bits DevIid kind operator targets value = []
sent_bits AppIid kind operator targets value = []

-- what is sent of an entry's field
abbrev pub entry_residue : EntryData → List Bool → List Bool
entry_residue e value = sent_bits e.action e.length e.operator e.targets value

-- RFC 8724, section 7.2: the compression residue, which is what is sent of each entry that is used
-- in the direction, joined in the rule's order
abbrev pub residue_of : RuleData → Direction → List FieldValue → List Bool
residue_of rule direction fields =
    flat_map (λ e. entry_residue e (value_of fields (field_of e))) (covered rule direction)

-- the bits of a token: 8 times the value of the token length field (RFC 8824, section 4.5)
abbrev pub token_bits : List FieldValue → ℕ
token_bits fields = 8 * bits_value (value_of fields (record { name = CoapTkl; position = 1 }))

-- a field that has a width has so many bits
abbrev pub WidthHolds : FieldName → List Bool → Type 0
WidthHolds name value = IfSome (width_of name) (λ width. length value ≡ width)

-- a token that is sent has the bits that the token length field says
abbrev pub TokenHolds : List FieldValue → FieldName → Action → List Bool → Type 0
TokenHolds fields CoapToken ValueSent value = length value ≡ token_bits fields
TokenHolds fields _ _ value = Unit {0}

-- a whole number of bytes, at most 65,535
abbrev pub HasSize : List Bool → Type 0
HasSize bits = (length bits % 8 ≡ 0) × (length bits / 8 ≤ 65535)

-- what is sent with its size before it has one
abbrev pub SizeHolds : Length → Action → Operator → List Bool → Type 0
SizeHolds Variable ValueSent operator value = HasSize value
SizeHolds Variable Lsb operator value = HasSize (drop (msb_bits operator) value)
SizeHolds _ _ operator value = Unit {0}

-- the value can be sent by the entry: an option has the length that the entry fixes, a token that
-- is sent has the bits that the token length field says, and what is sent with its size has one
pub record IsSendable (fields : List FieldValue) (e : EntryData) (value : List Bool) : Type 0 where
  pub length_holds : LengthHolds e.name e.length value
  pub token_holds : TokenHolds fields e.name e.action value
  pub size_holds : SizeHolds e.length e.action e.operator value

-- fields are sized for a rule and a direction: no name and position stands twice, each field that
-- has a width has so many bits, and each value can be sent by the entry of its field
pub record IsSized (rule : RuleData) (direction : Direction) (fields : List FieldValue) : Type 0
  where
    pub each_once : AllPairs (λ f g. f.at ≢ g.at) fields
    pub width_holds : (f : FieldValue) → Contains fields f → WidthHolds f.at.name f.value
    pub sendable :
        (f : FieldValue) → (e : EntryData) → Contains fields f → Contains (covered rule direction) e
        → field_of e ≡ f.at →
        IsSendable fields e f.value

-- the target of an entry with one target
abbrev pub first_target : List (List Bool) → List Bool
first_target [] = []
first_target (target ∷ targets) = target

-- what the action restores of a value at the other end: a target, an interface identifier, or what
-- was sent, with MSB's first bits from the target. A computed field stands as zeros until it is
-- computed
abbrev pub restored_by : Iids → Action → FieldName → Operator → List (List Bool) → List Bool
    → List Bool
restored_by iids NotSent name operator targets value = first_target targets
restored_by iids ValueSent name operator targets value = value
restored_by iids MappingSent name operator targets value =
    unwrap_or (slice_get targets (index_of targets value)) []
restored_by iids Lsb name operator targets value =
    take (msb_bits operator) (first_target targets) ++ drop (msb_bits operator) value
restored_by iids Compute name operator targets value = replicate (unwrap_or (width_of name) 0) false
restored_by iids DevIid name operator targets value = number_bits 64 iids.dev
restored_by iids AppIid name operator targets value = number_bits 64 iids.app

-- what the other end restores of a value that was sent by the entry
abbrev pub restored_value : Iids → EntryData → List Bool → List Bool
restored_value iids e value = restored_by iids e.action e.name e.operator e.targets value

-- what the other end restores of an entry's field
abbrev pub restored_field : Iids → List FieldValue → EntryData → FieldValue
restored_field iids fields e =
    record { at = field_of e; value = restored_value iids e (value_of fields (field_of e)) }

-- what the other end restores of the fields, in the order of the rule's entries that are used in
-- the direction
abbrev pub restored_fields : RuleData → Iids → Direction → List FieldValue → List FieldValue
restored_fields rule iids direction fields =
    map (restored_field iids fields) (covered rule direction)
