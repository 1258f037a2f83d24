-- What keeps a rule from being admitted. Each kind of finding is a test of its own.
use Rattle.std.specs.Prelude.{ℕ, ◌≡◌, ◌+◌, ◌*◌, ◌%◌, ◌==◌, Bool, true, false, ◌&&◌, ◌||◌, not}
use Rattle.std.specs.Prelude.{nat_lt, nat_le, if◌then◌else◌, List, [], ◌∷◌, length, take, drop}
use Rattle.std.specs.Prelude.{Option, Some, None, position}
use Rattle.std.specs.List.{list_any, list_all, enumerate_from}
use Rattle.std.specs.Option.{option_map}
use Rattle.schc_bits.specs.Bits.{bits_value}
use Rattle.schc_ids.specs.declared.ends.Direction.TheVariants.{Up, Down}
use Rattle.schc_ids.specs.declared.names.FieldName.{FieldName}
use Rattle.schc_ids.specs.declared.names.FieldName.TheVariants.{IpVersion, IpPayloadLength}
use Rattle.schc_ids.specs.declared.names.FieldName.TheVariants.{IpNextHeader, IpDevIid, IpAppIid}
use Rattle.schc_ids.specs.declared.names.FieldName.TheVariants.{UdpLength, UdpChecksum, CoapVersion}
use Rattle.schc_ids.specs.declared.names.FieldName.TheVariants.{CoapTkl, CoapToken, CoapOption}
use Rattle.schc_ids.specs.declared.names.Layer.TheVariants as layer
use Rattle.schc_ids.specs.declared.names.Stack.{Stack}
use Rattle.schc_ids.specs.declared.names.Stack.TheVariants as stack
use Rattle.schc_ids.specs.Ends.{share_direction}
use Rattle.schc_ids.specs.Limits.{ack_on_error_port, ack_always_port, uncompressed_port}
use Rattle.schc_ids.specs.Limits.{no_ack_up_port, no_ack_down_port}
use Rattle.schc_ids.specs.Names.{is_option, same_name, width_of}
use Rattle.rule_model.specs.declared.rule.Length.{Length}
use Rattle.rule_model.specs.declared.rule.Length.TheVariants.{Fixed, Variable, TokenLength}
use Rattle.rule_model.specs.declared.rule.Operator.{Operator}
use Rattle.rule_model.specs.declared.rule.Operator.TheVariants.{Equal, Ignore, Msb, MatchMapping}
use Rattle.rule_model.specs.declared.rule.Action.{Action}
use Rattle.rule_model.specs.declared.rule.Action.TheVariants.{NotSent, ValueSent, MappingSent, Lsb}
use Rattle.rule_model.specs.declared.rule.Action.TheVariants.{Compute, DevIid, AppIid}
use Rattle.rule_model.specs.declared.finding.FindingKind.{FindingKind}
use Rattle.rule_model.specs.declared.finding.FindingKind.TheVariants as kind
use Rattle.rule_model.specs.declared.finding.Finding.{Finding}
use Rattle.rule_model.specs.Data.{EntryData, RuleData}
use Rattle.rule_model.specs.Cover.{has_layer, stack_of, serves, is_lossy}

-- id-out-of-range: the RuleID is 0 or above 223
abbrev pub id_out_of_range : RuleData → Bool
id_out_of_range rule = (rule.id == 0) || nat_lt 223 rule.id

-- id-reserved: the RuleID is one of RFC 9011, or of the fragments without answers
abbrev pub id_reserved : RuleData → Bool
id_reserved rule =
    (rule.id == ack_on_error_port) || (rule.id == ack_always_port) || (rule.id == uncompressed_port)
    || (rule.id == no_ack_up_port) || (rule.id == no_ack_down_port)

-- mixed-stack: a CoAP field and no UDP field, or a UDP field and no IPv6 field
abbrev pub mixed_stack : RuleData → Bool
mixed_stack rule =
    (has_layer rule layer.Coap && not (has_layer rule layer.Udp))
    || (has_layer rule layer.Udp && not (has_layer rule layer.Ip))

-- an entry has the name and position of another one, and both are used in one direction
abbrev pub repeats : EntryData → EntryData → Bool
repeats e other =
    same_name e.name other.name && (e.position == other.position) && share_direction e.direction
    other.direction

-- field-twice: the entry repeats an earlier one
abbrev pub field_twice : List EntryData → EntryData → Bool
field_twice earlier e = list_any (repeats e) earlier

-- serves-no-direction: in neither direction do the used entries hold every always-present field of
-- the stack
abbrev pub serves_no_direction : RuleData → Bool
serves_no_direction rule = not (serves rule Up) && not (serves rule Down)

-- an option's length is variable, or a fixed number of whole bytes up to 255
abbrev pub is_option_length : Length → Bool
is_option_length Variable = true
is_option_length (Fixed bits) = (bits % 8 == 0) && nat_le bits (8 * 255)
is_option_length TokenLength = false

-- the token's length is that of the token length field
abbrev pub is_token_length : Length → Bool
is_token_length TokenLength = true
is_token_length _ = false

-- the length is fixed at the field's width
abbrev pub is_fixed_at : Option ℕ → Length → Bool
is_fixed_at (Some width) (Fixed bits) = bits == width
is_fixed_at _ _ = false

-- the length is one that an entry of the field may have
abbrev pub is_length_of : FieldName → Length → Bool
is_length_of (CoapOption number) length = is_option_length length
is_length_of CoapToken length = is_token_length length
is_length_of name length = is_fixed_at (width_of name) length

-- shape-wrong: the length isn't one of the field's, or the position is 0, or above 1 for a field
-- that isn't an option
abbrev pub shape_wrong : EntryData → Bool
shape_wrong e =
    not (is_length_of e.name e.length) || (e.position == 0) || (nat_lt 1 e.position && not
    (is_option e.name))

-- the operators with the actions that go with them
abbrev pub is_allowed_pair : Operator → Action → Bool
is_allowed_pair Equal NotSent = true
is_allowed_pair Equal ValueSent = true
is_allowed_pair Ignore ValueSent = true
is_allowed_pair Ignore NotSent = true
is_allowed_pair Ignore Compute = true
is_allowed_pair Ignore DevIid = true
is_allowed_pair Ignore AppIid = true
is_allowed_pair (Msb bits) Lsb = true
is_allowed_pair (Msb bits) ValueSent = true
is_allowed_pair MatchMapping MappingSent = true
is_allowed_pair MatchMapping ValueSent = true
is_allowed_pair _ _ = false

-- pair-not-allowed: operator and action don't go together
abbrev pub pair_not_allowed : EntryData → Bool
pair_not_allowed e = not (is_allowed_pair e.operator e.action)

-- the two strings of bits are equal
abbrev pub same_bits : List Bool → List Bool → Bool
same_bits [] [] = true
same_bits (x ∷ xs) (y ∷ ys) = (if x then y else not y) && same_bits xs ys
same_bits _ _ = false

-- no target stands twice
abbrev pub all_different : List (List Bool) → Bool
all_different [] = true
all_different (target ∷ targets) =
    not (list_any (same_bits target) targets) && all_different targets

-- the number of targets: one for equal, MSB, and ignore with not-sent; 1 to 256, all different, for
-- match-mapping;
-- any number for ignore with another action, which doesn't use them
abbrev pub is_count_right : Operator → Action → List (List Bool) → Bool
is_count_right Equal action targets = length targets == 1
is_count_right (Msb bits) action targets = length targets == 1
is_count_right Ignore NotSent targets = length targets == 1
is_count_right Ignore _ targets = true
is_count_right MatchMapping action targets =
    nat_le 1 (length targets) && nat_le (length targets) 256 && all_different targets

-- a whole number of bytes, from `least` to `most`
abbrev pub is_bytes : ℕ → ℕ → List Bool → Bool
is_bytes least most target =
    (length target % 8 == 0) && nat_le (8 * least) (length target) && nat_le (length target)
    (8 * most)

-- a target has the fixed width, or whole bytes up to 1,500, or is a token of 1 to 8 bytes
abbrev pub has_length : Length → List Bool → Bool
has_length (Fixed bits) target = length target == bits
has_length Variable target = is_bytes 0 1500 target
has_length TokenLength target = is_bytes 1 8 target

-- a target of the IPv6 version is 6, of the CoAP version 1, of the token length at most 8, of the
-- next header in a stack with UDP 17
abbrev pub has_value : Stack → FieldName → List Bool → Bool
has_value stack IpVersion target = bits_value target == 6
has_value stack.Ip IpNextHeader target = true
has_value stack.IpUdp IpNextHeader target = bits_value target == 17
has_value stack.IpUdpCoap IpNextHeader target = bits_value target == 17
has_value stack CoapVersion target = bits_value target == 1
has_value stack CoapTkl target = nat_le (bits_value target) 8
has_value stack _ target = true

-- target-wrong: the number of targets isn't right, or some target, used or not, isn't
abbrev pub target_wrong : Stack → EntryData → Bool
target_wrong stack e =
    not (is_count_right e.operator e.action e.targets)
    || not (list_all (λ target. has_length e.length target && has_value stack e.name target)
    e.targets)

-- MSB(x) with x = 0, x above the target's length, x not a multiple of 8 on an option, or on the
-- token
abbrev pub is_msb_wrong : Operator → FieldName → List (List Bool) → Bool
is_msb_wrong (Msb bits) name targets =
    (bits == 0) || list_any (λ target. nat_lt (length target) bits)
    targets || (is_option name && not (bits % 8 == 0))
    || same_name name CoapToken
is_msb_wrong _ name targets = false

-- msb-wrong
abbrev pub msb_wrong : EntryData → Bool
msb_wrong e = is_msb_wrong e.operator e.name e.targets

-- a field without whose value no packet can be made again, or that says where others stand
abbrev pub is_needed : FieldName → Bool
is_needed IpVersion = true
is_needed IpPayloadLength = true
is_needed IpNextHeader = true
is_needed UdpLength = true
is_needed UdpChecksum = true
is_needed CoapVersion = true
is_needed CoapTkl = true
is_needed CoapToken = true
is_needed (CoapOption number) = true
is_needed _ = false

-- not-droppable: ignore and not-sent on a field that is needed
abbrev pub not_droppable : EntryData → Bool
not_droppable e = is_lossy e.operator e.action && is_needed e.name

-- the field's value can be computed by the action: RFC 8724, sections 7.4.7 and 7.4.8
abbrev pub is_computed_by : Action → FieldName → Bool
is_computed_by Compute IpPayloadLength = true
is_computed_by Compute UdpLength = true
is_computed_by Compute UdpChecksum = true
is_computed_by Compute _ = false
is_computed_by DevIid IpDevIid = true
is_computed_by DevIid _ = false
is_computed_by AppIid IpAppIid = true
is_computed_by AppIid _ = false
is_computed_by _ _ = true

-- compute-wrong: compute on another field than the lengths and the UDP checksum, DevIID on another
-- than the device's interface identifier, AppIID on another than the application's
abbrev pub compute_wrong : EntryData → Bool
compute_wrong e = not (is_computed_by e.action e.name)

-- order-wrong: the token's entry stands before a token length entry that is used in one of its
-- directions
abbrev pub order_wrong : EntryData → List EntryData → Bool
order_wrong e later =
    same_name e.name CoapToken
    && list_any (λ f. same_name f.name CoapTkl && share_direction e.direction f.direction) later

-- the kinds that are of the rule as a whole
abbrev pub is_of_rule : FindingKind → RuleData → Bool
is_of_rule kind.IdOutOfRange rule = id_out_of_range rule
is_of_rule kind.IdReserved rule = id_reserved rule
is_of_rule kind.MixedStack rule = mixed_stack rule
is_of_rule kind.ServesNoDirection rule = serves_no_direction rule
is_of_rule _ rule = false

-- the kinds that are of an entry, which has `before` entries before it
abbrev pub is_of_entry : FindingKind → RuleData → ℕ → EntryData → Bool
is_of_entry kind.FieldTwice rule before e = field_twice (take before rule.entries) e
is_of_entry kind.ShapeWrong rule before e = shape_wrong e
is_of_entry kind.PairNotAllowed rule before e = pair_not_allowed e
is_of_entry kind.TargetWrong rule before e = target_wrong (stack_of rule) e
is_of_entry kind.MsbWrong rule before e = msb_wrong e
is_of_entry kind.NotDroppable rule before e = not_droppable e
is_of_entry kind.ComputeWrong rule before e = compute_wrong e
is_of_entry kind.OrderWrong rule before e = order_wrong e (drop before rule.entries)
is_of_entry _ rule before e = false

-- the first entry, from 1, at which there is a finding of this kind; 0 where it is of the rule as a
-- whole
abbrev pub place_of : FindingKind → RuleData → Option ℕ
place_of k rule =
    if is_of_rule k rule then Some 0
    else option_map (λ before. before + 1)
    (position (λ p. is_of_entry k rule p.0 p.1) (enumerate_from 0 rule.entries))

-- the number of a finding of this kind
abbrev pub number_of : FindingKind → ℕ
number_of kind.IdOutOfRange = 1
number_of kind.IdReserved = 2
number_of kind.IdTwice = 3
number_of kind.MixedStack = 4
number_of kind.FieldTwice = 5
number_of kind.ServesNoDirection = 6
number_of kind.ShapeWrong = 7
number_of kind.PairNotAllowed = 8
number_of kind.TargetWrong = 9
number_of kind.MsbWrong = 10
number_of kind.NotDroppable = 11
number_of kind.ComputeWrong = 12
number_of kind.OrderWrong = 13
number_of kind.NumberNotNext = 14
number_of kind.IdGone = 15
number_of kind.MeaningChanged = 16
number_of kind.Revived = 17
number_of kind.TooLarge = 18

-- the kinds of findings, in the order of their numbers
abbrev pub all_kinds : List FindingKind
all_kinds =
    kind.IdOutOfRange ∷ kind.IdReserved ∷ kind.IdTwice ∷ kind.MixedStack ∷ kind.FieldTwice
    ∷ kind.ServesNoDirection
    ∷ kind.ShapeWrong ∷ kind.PairNotAllowed ∷ kind.TargetWrong ∷ kind.MsbWrong ∷ kind.NotDroppable
    ∷ kind.ComputeWrong
    ∷ kind.OrderWrong ∷ kind.NumberNotNext ∷ kind.IdGone ∷ kind.MeaningChanged ∷ kind.Revived
    ∷ kind.TooLarge ∷ []

-- those that are about one rule
abbrev pub rule_kinds : List FindingKind
rule_kinds =
    kind.IdOutOfRange ∷ kind.IdReserved ∷ kind.MixedStack ∷ kind.FieldTwice ∷ kind.ServesNoDirection
    ∷ kind.ShapeWrong
    ∷ kind.PairNotAllowed ∷ kind.TargetWrong ∷ kind.MsbWrong ∷ kind.NotDroppable ∷ kind.ComputeWrong
    ∷ kind.OrderWrong ∷ []

-- there is no finding of any kind; those of an edition are about no single rule
abbrev pub IsAdmitted : RuleData → Type 0
IsAdmitted rule = (k : FindingKind) → place_of k rule ≡ None

-- the first of the kinds of which there is a finding, with the place where it is
abbrev pub found_at : RuleData → FindingKind → Option ℕ → Option Finding → Option Finding
found_at rule k None rest = rest
found_at rule k (Some entry) rest =
    Some (record { number = number_of k; id = rule.id; entry = entry })

abbrev pub first_among : RuleData → List FindingKind → Option Finding
first_among rule [] = None
first_among rule (k ∷ kinds) = found_at rule k (place_of k rule) (first_among rule kinds)

-- the finding of a rule: the first, in the order of the numbers, at its first entry
abbrev pub finding_of : RuleData → Option Finding
finding_of rule = first_among rule rule_kinds
