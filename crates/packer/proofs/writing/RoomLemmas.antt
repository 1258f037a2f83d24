-- How many bits are sent of a value: no more than the value has, but for the size of an option.
use Rattle.std.specs.Prelude.{ℕ, ◌≡◌, ◌+◌, ◌-◌, ◌*◌, ◌/◌, ◌%◌, ◌^◌, ◌==◌, ◌<◌, ◌≤◌, ◌&&◌, Bool}
use Rattle.std.specs.Prelude.{true, false, not, nat_le, nat_lt, if◌then◌else◌, List, [], ◌∷◌, ◌++◌}
use Rattle.std.specs.Prelude.{length, drop, map, replicate, Contains}
use Rattle.std.specs.List.{AllByRecursion, IsDistinct, list_any, list_all}
use Rattle.std.proofs.Common.{arith, ap, refl, sym, ◌∙◌, subst, inl, inr}
use Rattle.std.proofs.lemmas.Bool.{cases_Bool, cases_lt, and_parts, or_parts, le-ltb, lt-ltb}
use Rattle.std.proofs.lemmas.Bool.{leb-true, eqb-true, not-false, not-true, true≢false}
use Rattle.std.proofs.lemmas.Bool.{false_from_ne_true}
use Rattle.std.proofs.lemmas.List.{length-append, length-drop}
use Rattle.std.proofs.lemmas.Map.Steps.{length-le_from_distinct_below}
use Rattle.schc_bits.specs.Bits.{number_bits, bits_value}
use Rattle.schc_bits.proofs.NumberBits.{length-number_bits, number_bits-bits_value}
use Rattle.schc_bits.proofs.NumberBits.{bits_value-below}
use Rattle.schc_ids.specs.declared.names.FieldName.{FieldName}
use Rattle.schc_ids.specs.declared.names.FieldName.TheVariants.{CoapToken, CoapOption}
use Rattle.schc_ids.specs.declared.names.Stack.{Stack}
use Rattle.rule_model.specs.declared.rule.Length.{Length}
use Rattle.rule_model.specs.declared.rule.Length.TheVariants.{Fixed, Variable, TokenLength}
use Rattle.rule_model.specs.declared.rule.Operator.{Operator}
use Rattle.rule_model.specs.declared.rule.Operator.TheVariants.{Equal, Ignore, Msb, MatchMapping}
use Rattle.rule_model.specs.declared.rule.Action.{Action}
use Rattle.rule_model.specs.declared.rule.Action.TheVariants.{NotSent, ValueSent, MappingSent, Lsb}
use Rattle.rule_model.specs.declared.rule.Action.TheVariants.{Compute, DevIid, AppIid}
use Rattle.rule_model.specs.Data.{EntryData}
use Rattle.rule_model.specs.Findings.{same_bits, all_different, is_bytes, has_length, has_value}
use Rattle.rule_model.specs.Findings.{is_length_of, is_allowed_pair, is_count_right}
use Rattle.rule_model.specs.Matches.{OperatorHolds}
use Rattle.rule_model.specs.Residue.{size_code, index_width, index_of, msb_bits, with_size}
use Rattle.rule_model.specs.Residue.{sent_bits, entry_residue}
use Rattle.rule_model.proofs.ResidueLemmas.{index_width-fewest, same_bits-itself}
use Rattle.decompress.proofs.LawLemmas.{all-at}

-- the bits that the size of an option takes at most, where it is sent, or the index of its target
abbrev pub slack : ℕ → ℕ
slack size = if nat_lt size 15 then 8 else (if nat_lt size 255 then 12 else 28)

-- the bits of a field's value, and of an option's also those that its size or the index of its
-- target takes at most
abbrev pub room : FieldName → List Bool → ℕ
room (CoapOption number) value = slack (length value / 8) + length value
room _ value = length value

pub room-value : (name : FieldName) (value : List Bool) → length value ≤ room name value
room-value (CoapOption number) value = omega arith
room-value _ value = omega arith

-- the slack of an option of fewer than 15 bytes is 8 bits
pub slack-small : (size : ℕ) → size < 15 → slack size ≡ 8
slack-small size l = rw (lt-ltb size 15 l) refl

-- that of one of 15 to 254 bytes is 12 bits
pub slack-middle : (size : ℕ) → 15 ≤ size → size < 255 → slack size ≡ 12
slack-middle size h l = rw (le-ltb size 15 h, lt-ltb size 255 l) refl

-- that of one of 255 bytes or more is 28 bits
pub slack-large : (size : ℕ) → 255 ≤ size → slack size ≡ 28
slack-large size h = rw (le-ltb size 15 (omega (arith, h)), le-ltb size 255 h) refl

code-small : (size : ℕ) → size < 15 → length (size_code size) ≡ 4
unfolding size_code
code-small size l = rw (lt-ltb size 15 l) (length-number_bits 4 size)

code-middle : (size : ℕ) → 15 ≤ size → size < 255 → length (size_code size) ≡ 12
unfolding size_code
code-middle size h l =
    rw (le-ltb size 15 h, lt-ltb size 255 l)
    (length-append (replicate 4 true) (number_bits 8 size)
    ∙ ap (λ n. 4 + n) (length-number_bits 8 size))

code-large : (size : ℕ) → 255 ≤ size → length (size_code size) ≡ 28
unfolding size_code
code-large size h =
    rw (le-ltb size 15 (omega (arith, h)), le-ltb size 255 h)
    (length-append (replicate 12 true) (number_bits 16 size)
    ∙ ap (λ n. 12 + n) (length-number_bits 16 size))

-- the size of a value that isn't longer
code-slack : (size most : ℕ) → size ≤ most → length (size_code size) ≤ slack most
code-slack size most h =
    elim (cases_lt size 15) [
      | inl l ↦
          elim (cases_lt most 15) [
            | inl m ↦ omega (arith, code-small size l, slack-small most m)
            | inr m ↦
                elim (cases_lt most 255) [
                  | inl k ↦ omega (arith, code-small size l, slack-middle most m k)
                  | inr k ↦ omega (arith, code-small size l, slack-large most k)
                ]
          ]
      | inr l ↦
          elim (cases_lt size 255) [
            | inl m ↦
                elim (cases_lt most 255) [
                  | inl k ↦ omega
                      (arith, code-middle size l m, slack-middle most (omega (arith, l, h)) k)
                  | inr k ↦ omega (arith, code-middle size l m, slack-large most k)
                ]
            | inr m ↦ omega (arith, code-large size m, slack-large most (omega (arith, m, h)))
          ]
    ]

sized-option : (number : ℕ) (bits value : List Bool) → length bits ≤ length value
    → length (size_code (length bits / 8) ++ bits) ≤ room (CoapOption number) value
sized-option number bits value h =
    omega (
      arith,
      length-append (size_code (length bits / 8)) bits,
      code-slack (length bits / 8)
          (length value / 8) (omega (arith, h)),
      h,
    )

-- bits of the value, sent with their size where it is variable
with_bound : (name : FieldName) (kind : Length) (bits value : List Bool)
    → is_length_of name kind ≡ true → length bits ≤ length value
    → length (with_size kind bits) ≤ room name value
with_bound name (Fixed width) bits value k h = omega (arith, h, room-value name value)
with_bound name TokenLength bits value k h = omega (arith, h, room-value name value)
with_bound CoapToken Variable bits value k h = absurd (cc)
with_bound (CoapOption number) Variable bits value k h = sized-option number bits value h
with_bound _ Variable bits value k h = absurd (cc)

-- no two targets of one length write one number
not_same : (a b : List Bool) (width : ℕ) → length a ≡ width → length b ≡ width
    → same_bits a b ≡ false → (bits_value a == bits_value b) ≡ false
not_same a b width l m other =
    false_from_ne_true (bits_value a == bits_value b)
    (λ t.
    let number : bits_value a ≡ bits_value b = eqb-true (bits_value a) (bits_value b) t in
    let one : a ≡ b =
    sym (number_bits-bits_value a) ∙ ap (λ n. number_bits n (bits_value a)) (l ∙ sym m)
    ∙ ap (number_bits (length b)) number ∙ number_bits-bits_value b
    in
    true≢false
    (sym (subst (λ (x : List Bool). same_bits a x ≡ true) one (same_bits-itself a)) ∙ other))

apart_from : (a : List Bool) (targets : List (List Bool)) (width : ℕ) → length a ≡ width
    → AllByRecursion (λ (t : List Bool). length t ≡ width) targets
    → list_any (same_bits a) targets ≡ false
    → AllByRecursion (λ n. (bits_value a == n) ≡ false) (map bits_value targets)
apart_from a [] width l all none = tt
apart_from a (target ∷ targets) width l all none =
    let parts = or_parts (same_bits a target) (list_any (same_bits a) targets) none in
    (not_same a target width l all.0 parts.0, apart_from a targets width l all.1 parts.1)

distinct : (targets : List (List Bool)) (width : ℕ)
    → AllByRecursion (λ (t : List Bool). length t ≡ width) targets → all_different targets ≡ true
    → IsDistinct (λ a b. a == b) (map bits_value targets)
unfolding IsDistinct
distinct [] width all d = tt
distinct (target ∷ targets) width all d =
    let parts = and_parts (not (list_any (same_bits target) targets)) (all_different targets) d in (
      apart_from target targets width all.0 all.1
          (not-true (list_any (same_bits target) targets) parts.0),
      distinct targets width all.1
          parts.1,
    )

below : (targets : List (List Bool)) (width : ℕ)
    → AllByRecursion (λ (t : List Bool). length t ≡ width) targets → (q : ℕ)
    → list_any (λ n. q == n) (map bits_value targets) ≡ true → q < 2 ^ width
below [] width all q h = absurd (cc)
below (target ∷ targets) width all q h =
    elim (cases_Bool (q == bits_value target)) [
      | inl t ↦
          let small : bits_value target < 2 ^ width =
          subst (λ n. bits_value target < 2 ^ n) all.0 (bits_value-below target) in
          subst (λ n. n < 2 ^ width) (sym (eqb-true q (bits_value target) t)) small
      | inr f ↦ below targets width all.1 q (rw f at h)
    ]

as_many : (targets : List (List Bool)) → length (map bits_value targets) ≡ length targets
as_many [] = refl
as_many (target ∷ targets) = omega (arith, as_many targets)

-- so there are at most so many of them
few : (targets : List (List Bool)) (width : ℕ)
    → AllByRecursion (λ (t : List Bool). length t ≡ width) targets → all_different targets ≡ true
    → length targets ≤ 2 ^ width
few targets width all d =
    omega (
      arith,
      as_many targets,
      length-le_from_distinct_below (map bits_value targets)
          (2 ^ width) (distinct targets width all d) (below targets width all),
    )

widths : (stack : Stack) (name : FieldName) (width : ℕ) (targets : List (List Bool))
    → list_all (λ target. has_length (Fixed width) target && has_value stack name target)
    targets ≡ true → AllByRecursion (λ (t : List Bool). length t ≡ width) targets
widths stack name width [] h = tt
widths stack name width (target ∷ targets) h =
    let parts =
    and_parts (has_length (Fixed width) target && has_value stack name target)
    (list_all (λ target. has_length (Fixed width) target && has_value stack name target)
    targets) h in
    let own = and_parts (has_length (Fixed width) target) (has_value stack name target) parts.0 in
    (eqb-true (length target) width own.0, widths stack name width targets parts.1)

tokens : (stack : Stack) (name : FieldName) (targets : List (List Bool))
    → list_all (λ target. has_length TokenLength target && has_value stack name target)
    targets ≡ true → AllByRecursion (λ (t : List Bool). 8 ≤ length t) targets
tokens stack name [] h = tt
tokens stack name (target ∷ targets) h =
    let parts =
    and_parts (has_length TokenLength target && has_value stack name target)
    (list_all (λ target. has_length TokenLength target && has_value stack name target) targets)
    h in
    let own = and_parts (has_length TokenLength target) (has_value stack name target) parts.0 in
    let bytes =
    and_parts (length target % 8 == 0 && nat_le (8 * 1) (length target))
    (nat_le (length target) (8 * 8)) own.0 in
    let least = and_parts (length target % 8 == 0) (nat_le (8 * 1) (length target)) bytes.0 in
    (leb-true (8 * 1) (length target) least.1, tokens stack name targets parts.1)

-- the targets that one is chosen of
record AreChoices (targets : List (List Bool)) : Type 0 where
  count : length targets ≤ 256
  different : all_different targets ≡ true

choices : (targets : List (List Bool)) (action : Action)
    → is_count_right MatchMapping action targets ≡ true → AreChoices targets
choices targets action h =
    let first =
    and_parts (nat_le 1 (length targets) && nat_le (length targets) 256) (all_different targets)
    h in
    let second = and_parts (nat_le 1 (length targets)) (nat_le (length targets) 256) first.0 in
    record { count = leb-true (length targets) 256 second.1; different = first.1 }

pow_eight : 2 ^ 8 ≡ 256
pow_eight = refl

byte : (count : ℕ) → count ≤ 256 → index_width count ≤ 8
byte count h = index_width-fewest count 8 (omega (arith, h, pow_eight))

slack-byte : (size : ℕ) → 8 ≤ slack size
slack-byte size =
    elim (cases_lt size 15) [
      | inl l ↦ omega (arith, slack-small size l)
      | inr l ↦
          elim (cases_lt size 255) [
            | inl m ↦ omega (arith, slack-middle size l m)
            | inr m ↦ omega (arith, slack-large size m)
          ]
    ]

-- the index of a target
index_bound : (stack : Stack) (name : FieldName) (kind : Length) (targets : List (List Bool))
    (value : List Bool) → is_length_of name kind ≡ true → AreChoices targets
    → list_all (λ target. has_length kind target && has_value stack name target) targets ≡ true
    → Contains targets value → index_width (length targets) ≤ room name value
index_bound stack name (Fixed width) targets value k c h among =
    let all = widths stack name width targets h in
    let own : length value ≡ width =
    all-at (λ (t : List Bool). length t ≡ width) targets all value among in
    omega (
      arith,
      index_width-fewest (length targets) width (few targets width all c.different),
      own,
      room-value name value,
    )
index_bound stack name TokenLength targets value k c h among =
    let own : 8 ≤ length value =
    all-at (λ (t : List Bool). 8 ≤ length t) targets (tokens stack name targets h) value among
    in
    omega (arith, byte (length targets) c.count, own, room-value name value)
index_bound stack CoapToken Variable targets value k c h among = absurd (cc)
index_bound stack (CoapOption number) Variable targets value k c h among =
    omega (arith, byte (length targets) c.count, slack-byte (length value / 8))
index_bound stack _ Variable targets value k c h among = absurd (cc)

-- a value of which an index is sent is one of the targets
mapping_bound : (stack : Stack) (name : FieldName) (kind : Length) (operator : Operator)
    (targets : List (List Bool)) (value : List Bool) → is_length_of name kind ≡ true
    → is_allowed_pair operator MappingSent ≡ true
    → is_count_right operator MappingSent targets ≡ true
    → list_all (λ target. has_length kind target && has_value stack name target) targets ≡ true
    → OperatorHolds operator targets value
    → length (number_bits (index_width (length targets)) (index_of targets value)) ≤ room name value
mapping_bound stack name kind Equal targets value k p c h o = absurd (cc)
mapping_bound stack name kind Ignore targets value k p c h o = absurd (cc)
mapping_bound stack name kind (Msb bits) targets value k p c h o = absurd (cc)
mapping_bound stack name kind MatchMapping targets value k p c h o =
    omega (
      arith,
      length-number_bits (index_width (length targets)) (index_of targets value),
      index_bound stack name kind targets value k (choices targets MappingSent c) h o,
    )

action_bound : (stack : Stack) (name : FieldName) (action : Action) (kind : Length)
    (operator : Operator) (targets : List (List Bool)) (value : List Bool)
    → is_length_of name kind ≡ true → is_allowed_pair operator action ≡ true
    → is_count_right operator action targets ≡ true
    → list_all (λ target. has_length kind target && has_value stack name target) targets ≡ true
    → OperatorHolds operator targets value
    → length (sent_bits action kind operator targets value) ≤ room name value
action_bound stack name NotSent kind operator targets value k p c h o = omega arith
action_bound stack name ValueSent kind operator targets value k p c h o =
    with_bound name kind value value k (omega arith)
action_bound stack name MappingSent kind operator targets value k p c h o =
    mapping_bound stack name kind operator targets value k p c h o
action_bound stack name Lsb kind operator targets value k p c h o =
    with_bound name kind (drop (msb_bits operator) value) value k
    (omega (arith, length-drop (msb_bits operator) value))
action_bound stack name Compute kind operator targets value k p c h o = omega arith
action_bound stack name DevIid kind operator targets value k p c h o = omega arith
action_bound stack name AppIid kind operator targets value k p c h o = omega arith

-- what is sent of an entry's value
pub entry-bound : (stack : Stack) (e : EntryData) (value : List Bool)
    → is_length_of e.name e.length ≡ true → is_allowed_pair e.operator e.action ≡ true
    → is_count_right e.operator e.action e.targets ≡ true
    → list_all (λ target. has_length e.length target && has_value stack e.name target)
    e.targets ≡ true → OperatorHolds e.operator e.targets value
    → length (entry_residue e value) ≤ room e.name value
entry-bound stack e value k p c h o =
    action_bound stack e.name e.action e.length e.operator e.targets value k p c h o
