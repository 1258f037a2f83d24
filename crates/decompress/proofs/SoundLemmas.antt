-- What holds of the entries of an admitted rule, as far as reading and writing need it.
use Rattle.std.specs.Prelude.{ℕ, ◌≡◌, ◌%◌, ◌==◌, ◌<◌, ◌≤◌, zero, suc, Bool, true, false, ◌&&◌, ◌||◌}
use Rattle.std.specs.Prelude.{not, nat_lt, nat_le, List, [], ◌∷◌, length, take, drop, get_or}
use Rattle.std.specs.Prelude.{unwrap_or, Some}
use Rattle.std.specs.List.{list_any, list_all, AllByRecursion}
use Rattle.std.proofs.Common.{arith, ap, refl, sym, ◌∙◌, subst}
use Rattle.std.proofs.lemmas.Bool.{and_parts, or_parts, not-false, true≢false, false≢true, eqb-true}
use Rattle.std.proofs.lemmas.Bool.{ltb-false, leb-true}
use Rattle.std.proofs.lemmas.List.{length-append, length-take-le, length-drop, length-replicate}
use Rattle.schc_bits.proofs.NumberBits.{length-number_bits}
use Rattle.schc_ids.specs.declared.ends.Iids.{Iids}
use Rattle.schc_ids.specs.declared.names.FieldName.{FieldName}
use Rattle.schc_ids.specs.declared.names.FieldName.TheVariants.{IpPayloadLength, IpDevIid, IpAppIid}
use Rattle.schc_ids.specs.declared.names.FieldName.TheVariants.{UdpLength, UdpChecksum, CoapToken}
use Rattle.schc_ids.specs.declared.names.FieldName.TheVariants.{CoapOption}
use Rattle.schc_ids.specs.declared.names.Stack.{Stack}
use Rattle.schc_ids.specs.Names.{same_name, width_of, is_option}
use Rattle.rule_model.specs.declared.rule.Length.{Length}
use Rattle.rule_model.specs.declared.rule.Length.TheVariants.{Fixed, Variable, TokenLength}
use Rattle.rule_model.specs.declared.rule.Operator.{Operator}
use Rattle.rule_model.specs.declared.rule.Operator.TheVariants.{Equal, Ignore, Msb, MatchMapping}
use Rattle.rule_model.specs.declared.rule.Action.{Action}
use Rattle.rule_model.specs.declared.rule.Action.TheVariants.{NotSent, ValueSent, MappingSent, Lsb}
use Rattle.rule_model.specs.declared.rule.Action.TheVariants.{Compute, DevIid, AppIid}
use Rattle.rule_model.specs.declared.value.FieldValue.{FieldValue}
use Rattle.rule_model.specs.Data.{EntryData}
use Rattle.rule_model.specs.Findings.{is_length_of, is_allowed_pair, is_count_right, all_different}
use Rattle.rule_model.specs.Findings.{has_length, has_value, is_msb_wrong, is_computed_by}
use Rattle.rule_model.specs.Matches.{LengthHolds}
use Rattle.rule_model.specs.Residue.{index_of, WidthHolds, TokenHolds, SizeHolds, IsSendable}
use Rattle.rule_model.specs.Residue.{first_target, restored_by, restored_value}
use Rattle.rule_model.proofs.EntryRowsLemmas.{EntryHolds}
use Rattle.decompress.proofs.EntryLemmas.{FitsKind, SentBy, SentFits, RegularBy, some-at}
use Rattle.decompress.proofs.EntryLemmas.{index-within}
use Rattle.decompress.proofs.AlongLemmas.{IsSound}

-- the tests that an admitted entry passes
pub record Passes (stack : Stack) (e : EntryData) : Type 0 where
  pub kind : is_length_of e.name e.length ≡ true
  pub pair : is_allowed_pair e.operator e.action ≡ true
  pub count : is_count_right e.operator e.action e.targets ≡ true
  pub lengths : list_all (λ target. has_length e.length target && has_value stack e.name target)
      e.targets ≡ true
  pub msb : is_msb_wrong e.operator e.name e.targets ≡ false
  pub computed : is_computed_by e.action e.name ≡ true

-- an entry to which no finding applies passes the tests on length, pair, targets, MSB and computing
pub Passes-from_EntryHolds : (stack : Stack) (e : EntryData) → EntryHolds stack e → Passes stack e
Passes-from_EntryHolds stack e h =
    let fits : List Bool → Bool =
    λ target. has_length e.length target && has_value stack e.name target in
    let target =
    or_parts (not (is_count_right e.operator e.action e.targets))
    (not (list_all fits e.targets)) h.target in
    let shape =
    or_parts (not (is_length_of e.name e.length)) (e.position == 0)
    (or_parts (not (is_length_of e.name e.length) || (e.position == 0))
    (nat_lt 1 e.position && not (is_option e.name)) h.shape).0 in
    record {
      kind = not-false (is_length_of e.name e.length) shape.0;
      pair = not-false (is_allowed_pair e.operator e.action) h.pair;
      count = not-false (is_count_right e.operator e.action e.targets) target.0;
      lengths = not-false (list_all fits e.targets) target.1;
      msb = h.msb;
      computed = not-false (is_computed_by e.action e.name) h.computed;
    }

-- one target
single : (targets : List (List Bool)) → length targets ≡ 1 → targets ≡ first_target targets ∷ []
single [] h = absurd (omega arith)
single (t ∷ []) h = refl
single (t ∷ u ∷ targets) h = absurd (omega arith)

-- MSB has one target, which is long enough, and isn't on the token
msb_facts : (bits : ℕ) (name : FieldName) (targets : List (List Bool))
    → (length targets == 1) ≡ true → is_msb_wrong (Msb bits) name targets ≡ false
    → (bits ≤ length (first_target targets)) × (same_name name CoapToken ≡ false)
msb_facts bits name [] h k = absurd (omega (arith, eqb-true 0 1 h))
msb_facts bits name (t ∷ targets) h k =
    let short : Bool = list_any (λ target. nat_lt (length target) bits) (t ∷ targets) in
    let parts =
    or_parts ((bits == 0) || short || (is_option name && not (bits % 8 == 0)))
    (same_name name CoapToken) k in
    let more = or_parts ((bits == 0) || short) (is_option name && not (bits % 8 == 0)) parts.0 in
    let most = or_parts (bits == 0) short more.0 in
    let first =
    or_parts (nat_lt (length t) bits) (list_any (λ target. nat_lt (length target) bits) targets)
    most.1 in
    (ltb-false (length t) bits first.0, parts.1)

regular_by : (action : Action) (operator : Operator) (name : FieldName) (targets : List (List Bool))
    → is_allowed_pair operator action ≡ true → is_count_right operator action targets ≡ true
    → is_msb_wrong operator name targets ≡ false → RegularBy action operator targets
regular_by MappingSent Equal name targets h k l = absurd (false≢true h)
regular_by MappingSent Ignore name targets h k l = absurd (false≢true h)
regular_by MappingSent (Msb bits) name targets h k l = absurd (false≢true h)
regular_by MappingSent MatchMapping name targets h k l =
    let parts =
    and_parts (nat_le 1 (length targets) && nat_le (length targets) 256) (all_different targets)
    k in (
      leb-true 1 (length targets)
          (and_parts (nat_le 1 (length targets)) (nat_le (length targets) 256) parts.0).0,
      parts.1,
    )
regular_by Lsb Equal name targets h k l = absurd (false≢true h)
regular_by Lsb Ignore name targets h k l = absurd (false≢true h)
regular_by Lsb (Msb bits) name targets h k l = (msb_facts bits name targets k l).0
regular_by Lsb MatchMapping name targets h k l = absurd (false≢true h)
regular_by NotSent operator name targets h k l = tt
regular_by ValueSent operator name targets h k l = tt
regular_by Compute operator name targets h k l = tt
regular_by DevIid operator name targets h k l = tt
regular_by AppIid operator name targets h k l = tt

-- only a token has the token's length
token_named : (name : FieldName) → is_length_of name TokenLength ≡ true → name ≡ CoapToken
token_named CoapToken h = refl
token_named (CoapOption number) h = absurd (false≢true h)
token_named name h = absurd (false≢true h)

-- an entry that passes the tests has the targets that reading needs, and only a token a token's
-- length
pub IsSound-from_Passes : (stack : Stack) (e : EntryData) → Passes stack e → IsSound e
IsSound-from_Passes stack e p =
    record {
      regular = regular_by e.action e.operator e.name e.targets p.pair p.count p.msb;
      token = λ kind. token_named e.name (subst (λ k. is_length_of e.name k ≡ true) kind p.kind);
    }

-- each target of an entry with a fixed length has it
lengths_along : (stack : Stack) (name : FieldName) (width : ℕ) (targets : List (List Bool))
    → list_all (λ target. has_length (Fixed width) target && has_value stack name target)
    targets ≡ true → AllByRecursion (λ target. length target ≡ width) targets
lengths_along stack name width [] h = tt
lengths_along stack name width (t ∷ targets) h =
    let parts =
    and_parts (has_length (Fixed width) t && has_value stack name t)
    (list_all (λ target. has_length (Fixed width) target && has_value stack name target)
    targets) h in (
      eqb-true (length t) width
          (and_parts (has_length (Fixed width) t) (has_value stack name t) parts.0).0,
      lengths_along
          stack name width targets parts.1,
    )

length_at : (width : ℕ) (targets : List (List Bool)) (i : ℕ)
    → AllByRecursion (λ target. length target ≡ width) targets → i < length targets
    → length (get_or targets i []) ≡ width
length_at width [] i h l = absurd (omega arith)
length_at width (t ∷ targets) zero h l = h.0
length_at width (t ∷ targets) (suc i) h l = length_at width targets i h.1 (omega arith)

length_first : (width : ℕ) (targets : List (List Bool))
    → AllByRecursion (λ target. length target ≡ width) targets → length targets ≡ 1
    → length (first_target targets) ≡ width
length_first width [] h l = absurd (omega arith)
length_first width (t ∷ targets) h l = h.0

-- a fixed length is the field's width, where it has one
fixed_is : (name : FieldName) (width bits : ℕ) → width_of name ≡ Some width
    → is_length_of name (Fixed bits) ≡ true → bits ≡ width
fixed_is CoapToken width bits h k = absurd (cc)
fixed_is (CoapOption number) width bits h k = absurd (cc)
fixed_is name width bits h k = eqb-true bits _ k ∙ (let same : Some _ ≡ Some width = h in cc)

computed_width : (name : FieldName) → is_computed_by Compute name ≡ true → width_of name ≡ Some 16
computed_width IpPayloadLength h = refl
computed_width UdpLength h = refl
computed_width UdpChecksum h = refl
computed_width name h = absurd (false≢true h)

dev_width : (name : FieldName) → is_computed_by DevIid name ≡ true → width_of name ≡ Some 64
dev_width IpDevIid h = refl
dev_width name h = absurd (false≢true h)

app_width : (name : FieldName) → is_computed_by AppIid name ≡ true → width_of name ≡ Some 64
app_width IpAppIid h = refl
app_width name h = absurd (false≢true h)

-- the length of what is restored of a value, where the entry fixes it
fixed_by : (iids : Iids) (fields : List FieldValue) (action : Action) (operator : Operator)
    (name : FieldName) (width : ℕ) (targets : List (List Bool)) (value : List Bool)
    → is_allowed_pair operator action ≡ true → is_count_right operator action targets ≡ true
    → is_computed_by action name ≡ true → is_length_of name (Fixed width) ≡ true
    → AllByRecursion (λ target. length target ≡ width) targets → RegularBy action operator targets
    → SentBy fields action (Fixed width) operator targets value
    → restored_by iids action name operator targets value ≡ value → length value ≡ width
fixed_by iids fields NotSent Equal name width targets value pair count computed kind lengths regular
    sent restored = ap length (sym restored)
    ∙ length_first width targets lengths (eqb-true (length targets) 1 count)
fixed_by iids fields NotSent Ignore name width targets value pair count computed kind lengths
    regular sent restored = ap length (sym restored)
    ∙ length_first width targets lengths (eqb-true (length targets) 1 count)
fixed_by iids fields NotSent (Msb bits) name width targets value pair count computed kind lengths
    regular sent restored = absurd (false≢true pair)
fixed_by iids fields NotSent MatchMapping name width targets value pair count computed kind lengths
    regular sent restored = absurd (false≢true pair)
fixed_by iids fields ValueSent operator name width targets value pair count computed kind lengths
    regular sent restored = omega (arith, sent)
fixed_by iids fields MappingSent operator name width targets value pair count computed kind lengths
    regular sent restored =
    let within : index_of targets value < length targets = index-within targets value sent in
    ap length (sym restored)
    ∙ ap (λ found. length (unwrap_or found []))
    (some-at targets (index_of targets value) within)
    ∙ length_at width targets (index_of targets value) lengths within
fixed_by iids fields Lsb Equal name width targets value pair count computed kind lengths regular
    sent restored = absurd (false≢true pair)
fixed_by iids fields Lsb Ignore name width targets value pair count computed kind lengths regular
    sent restored = absurd (false≢true pair)
fixed_by iids fields Lsb (Msb bits) name width targets value pair count computed kind lengths
    regular sent restored =
    let first : length (first_target targets) ≡ width =
    length_first width targets lengths (eqb-true (length targets) 1 count) in
    ap length (sym restored) ∙ length-append (take bits (first_target targets)) (drop bits value)
    ∙ omega (arith, length-take-le bits (first_target targets) regular, sent, first, regular)
fixed_by iids fields Lsb MatchMapping name width targets value pair count computed kind lengths
    regular sent restored = absurd (false≢true pair)
fixed_by iids fields Compute operator name width targets value pair count computed kind lengths
    regular sent restored =
    ap length (sym restored) ∙ length-replicate (unwrap_or (width_of name) 0) false
    ∙ ap (λ w. unwrap_or w 0) (computed_width name computed)
    ∙ sym (fixed_is name 16 width (computed_width name computed) kind)
fixed_by iids fields DevIid operator name width targets value pair count computed kind lengths
    regular sent restored =
    ap length (sym restored) ∙ length-number_bits 64 iids.dev
    ∙ sym (fixed_is name 64 width (dev_width name computed) kind)
fixed_by iids fields AppIid operator name width targets value pair count computed kind lengths
    regular sent restored =
    ap length (sym restored) ∙ length-number_bits 64 iids.app
    ∙ sym (fixed_is name 64 width (app_width name computed) kind)

pub fixed-length : (iids : Iids) (fields : List FieldValue) (stack : Stack) (e : EntryData)
    (value : List Bool) → Passes stack e → SentFits fields e value
    → restored_value iids e value ≡ value → (width : ℕ) → e.length ≡ Fixed width
    → length value ≡ width
fixed-length iids fields stack e value p sent restored width kind =
    fixed_by iids fields e.action e.operator e.name width e.targets value p.pair p.count p.computed
    (subst (λ k. is_length_of e.name k ≡ true) kind p.kind)
    (lengths_along stack e.name width e.targets
    (subst (λ k. list_all (λ target. has_length k target && has_value stack e.name target)
    e.targets ≡ true) kind p.lengths))
    (regular_by e.action e.operator e.name e.targets p.pair p.count p.msb)
    (subst (λ k. SentBy fields e.action k e.operator e.targets value) kind sent) restored

-- so it has its width
width_holds : (name : FieldName) (kind : Length) (value : List Bool) → is_length_of name kind ≡ true
    → ((width : ℕ) → kind ≡ Fixed width → length value ≡ width) → WidthHolds name value
width_holds CoapToken kind value h k = tt
width_holds (CoapOption number) kind value h k = tt
width_holds name (Fixed width) value h k = k width refl ∙ eqb-true width _ h
width_holds name Variable value h k = absurd (false≢true h)
width_holds name TokenLength value h k = absurd (false≢true h)

-- and an option the length that the entry fixes
length_holds : (name : FieldName) (kind : Length) (value : List Bool)
    → ((width : ℕ) → kind ≡ Fixed width → length value ≡ width) → LengthHolds name kind value
length_holds (CoapOption number) (Fixed width) value h = h width refl
length_holds _ _ value h = tt

token_kind : (kind : Length) → is_length_of CoapToken kind ≡ true → kind ≡ TokenLength
token_kind TokenLength h = refl
token_kind (Fixed width) h = absurd (false≢true h)
token_kind Variable h = absurd (false≢true h)

token_holds : (fields : List FieldValue) (name : FieldName) (action : Action) (kind : Length)
    (operator : Operator) (targets : List (List Bool)) (value : List Bool)
    → is_length_of name kind ≡ true → SentBy fields action kind operator targets value
    → TokenHolds fields name action value
token_holds fields CoapToken ValueSent kind operator targets value h k =
    subst (λ k. FitsKind fields k 0 value) (token_kind kind h) k
token_holds fields _ _ kind operator targets value h k = tt

size_holds : (fields : List FieldValue) (kind : Length) (action : Action) (operator : Operator)
    (targets : List (List Bool)) (value : List Bool)
    → SentBy fields action kind operator targets value → SizeHolds kind action operator value
size_holds fields Variable ValueSent operator targets value h = h
size_holds fields Variable Lsb operator targets value h = h
size_holds fields _ _ operator targets value h = tt

-- what is read of an entry is a value that can be sent
pub IsSendable-from_sent : (iids : Iids) (fields : List FieldValue) (stack : Stack) (e : EntryData)
    (value : List Bool) → Passes stack e → SentFits fields e value
    → restored_value iids e value ≡ value → IsSendable fields e value
IsSendable-from_sent iids fields stack e value p sent restored =
    record {
      length_holds =
          length_holds e.name e.length value
          (fixed-length iids fields stack e value p sent restored);
      token_holds =
          token_holds fields e.name e.action e.length e.operator e.targets value p.kind sent;
      size_holds = size_holds fields e.length e.action e.operator e.targets value sent;
    }

-- a value that fits an admitted entry and is restored as it is has its field's width, if any
pub WidthHolds-from_sent : (iids : Iids) (fields : List FieldValue) (stack : Stack) (e : EntryData)
    (value : List Bool) → Passes stack e → SentFits fields e value
    → restored_value iids e value ≡ value → WidthHolds e.name value
WidthHolds-from_sent iids fields stack e value p sent restored =
    width_holds e.name e.length value p.kind
    (fixed-length iids fields stack e value p sent restored)

-- a value that can be sent has the length that the other end reads
fixed_width : (name : FieldName) (width : ℕ) (value : List Bool)
    → is_length_of name (Fixed width) ≡ true → WidthHolds name value
    → LengthHolds name (Fixed width) value → length value ≡ width
fixed_width CoapToken width value h k l = absurd (false≢true h)
fixed_width (CoapOption number) width value h k l = l
fixed_width name width value h k l = k ∙ sym (eqb-true width _ h)

sent_whole : (fields : List FieldValue) (name : FieldName) (kind : Length) (operator : Operator)
    (value : List Bool) → is_length_of name kind ≡ true → WidthHolds name value
    → LengthHolds name kind value → TokenHolds fields name ValueSent value
    → SizeHolds kind ValueSent operator value → FitsKind fields kind 0 value
sent_whole fields name (Fixed width) operator value h k l m n =
    omega (arith, fixed_width name width value h k l)
sent_whole fields name TokenLength operator value h k l m n =
    subst (λ name. TokenHolds fields name ValueSent value) (token_named name h) m
sent_whole fields name Variable operator value h k l m n = n

sent_last : (fields : List FieldValue) (name : FieldName) (kind : Length) (bits : ℕ)
    (value : List Bool) → is_length_of name kind ≡ true → same_name name CoapToken ≡ false
    → WidthHolds name value → LengthHolds name kind value → SizeHolds kind Lsb (Msb bits) value
    → FitsKind fields kind bits (drop bits value)
sent_last fields name (Fixed width) bits value h other k l n =
    omega (arith, length-drop bits value, fixed_width name width value h k l)
sent_last fields name TokenLength bits value h other k l n =
    absurd (true≢false
    (sym (subst (λ name. same_name name CoapToken ≡ true) (sym (token_named name h)) refl) ∙ other))
sent_last fields name Variable bits value h other k l n = n

sent_by : (fields : List FieldValue) (action : Action) (operator : Operator) (name : FieldName)
    (kind : Length) (targets : List (List Bool)) (value : List Bool)
    → is_allowed_pair operator action ≡ true → is_count_right operator action targets ≡ true
    → is_msb_wrong operator name targets ≡ false → is_length_of name kind ≡ true
    → WidthHolds name value → LengthHolds name kind value → TokenHolds fields name action value
    → SizeHolds kind action operator value → SentBy fields action kind operator targets value
sent_by fields NotSent operator name kind targets value pair count msb h k l m n = tt
sent_by fields ValueSent operator name kind targets value pair count msb h k l m n =
    sent_whole fields name kind operator value h k l m n
sent_by fields MappingSent operator name kind targets value pair count msb h k l m n =
    (regular_by MappingSent operator name targets pair count msb).0
sent_by fields Lsb Equal name kind targets value pair count msb h k l m n = absurd (false≢true pair)
sent_by fields Lsb Ignore name kind targets value pair count msb h k l m n =
    absurd (false≢true pair)
sent_by fields Lsb (Msb bits) name kind targets value pair count msb h k l m n =
    sent_last fields name kind bits value h (msb_facts bits name targets count msb).1 k l n
sent_by fields Lsb MatchMapping name kind targets value pair count msb h k l m n =
    absurd (false≢true pair)
sent_by fields Compute operator name kind targets value pair count msb h k l m n = tt
sent_by fields DevIid operator name kind targets value pair count msb h k l m n = tt
sent_by fields AppIid operator name kind targets value pair count msb h k l m n = tt

-- of a value that can be sent, with its field's width, what is sent has the length that is read
pub SentFits-from_sendable : (fields : List FieldValue) (stack : Stack) (e : EntryData)
    (value : List Bool) → Passes stack e → WidthHolds e.name value → IsSendable fields e value
    → SentFits fields e value
SentFits-from_sendable fields stack e value p width sendable =
    sent_by fields e.action e.operator e.name e.length e.targets value p.pair p.count p.msb p.kind
    width sendable.length_holds sendable.token_holds sendable.size_holds
