-- What is written, read again.
use Rattle.std.specs.Prelude.{ℕ, ◌≡◌, ◌+◌, ◌-◌, ◌*◌, ◌/◌, ◌%◌, ◌^◌, ◌<◌, ◌≤◌, nat_le, suc, Bool}
use Rattle.std.specs.Prelude.{true, false, List, [], ◌∷◌, ◌++◌, length, take, map, replicate}
use Rattle.std.specs.Prelude.{Option, Some, None, IsSome, IfSome, Result, Ok, Err, IfOk, unwrap_or}
use Rattle.std.specs.Prelude.{codes}
use Rattle.std.specs.List.{AllByRecursion}
use Rattle.std.specs.Option.{option_and_then}
use Rattle.std.proofs.Common.{arith, refl, sym, ◌∙◌, subst, ap}
use Rattle.std.proofs.lemmas.Bool.{false≢true, lt-ltb, le-leb, eq-eqb}
use Rattle.std.proofs.lemmas.List.{take_all, length-append, length-replicate}
use Rattle.std.proofs.Math.Nat.{max-le}
use Rattle.serde_json.specs.Data.{Data, number, unsigned, string, Members, member, no_members}
use Rattle.serde_json.specs.Data.{depth, items_depth, members_depth}
use Rattle.serde_json.specs.Find.{get}
use Rattle.serde_json.specs.View.{items_of}
use Rattle.serde_json.specs.Written.{has_float, items_have_float, members_have_float, compact_text}
use Rattle.serde_json.specs.Read.{read, max_depth}
use Rattle.std.specs.Str.{IsUtf8}
use Rattle.rule_json.specs.Texts.{json_of, edition_of}
use Rattle.rule_json.proofs.TextsLemmas.{json_of-utf8}
use Rattle.schc_ids.specs.declared.names.FieldName.{FieldName}
use Rattle.schc_ids.specs.declared.ends.DirInd.{DirInd}
use Rattle.schc_ids.specs.declared.ends.DirInd.TheVariants as indicator
use Rattle.schc_ids.specs.Texts.{text_of, name_of_text}
use Rattle.rule_model.specs.Data.{EntryData}
use Rattle.rule_model.specs.RawData.{RawEditionData}
use Rattle.rule_model.specs.declared.raw.RawRule.{RawRule}
use Rattle.rule_model.specs.declared.rule.Length.{Length}
use Rattle.rule_model.specs.declared.rule.Length.TheVariants.{Fixed, Variable, TokenLength}
use Rattle.rule_model.specs.declared.rule.Operator.{Operator}
use Rattle.rule_model.specs.declared.rule.Operator.TheVariants.{Equal, Ignore, Msb, MatchMapping}
use Rattle.rule_model.specs.declared.rule.Action.{Action}
use Rattle.rule_model.specs.declared.rule.Action.TheVariants as action
use Rattle.rule_json.specs.Values.{number_below, member_in, each_of, list_of}
use Rattle.rule_json.specs.Words.{indicator_of, plain_operator, action_of, indicator_text}
use Rattle.rule_json.specs.Words.{operator_text, action_text}
use Rattle.rule_json.specs.Digits.{digit_bits, fixed_target, bytes_target, target_of, filling}
use Rattle.rule_json.specs.Digits.{target_text}
use Rattle.rule_json.specs.Layout.{text_in, length_in, operator_with, operator_in, targets_in}
use Rattle.rule_json.specs.Layout.{entry_in, live_in, rule_in, edition_in}
use Rattle.rule_json.specs.Written.{list_data, length_data, msb_bits, with_value, target_data}
use Rattle.rule_json.specs.Written.{entry_object, entry_data, rule_data, edition_data, edition_text}
use Rattle.rule_json.specs.Written.{TargetCanBeSpelt, EntryCanBeSpelt}
use Rattle.rule_json.proofs.DigitsLemmas.{fitting-own, bits_value-zeros, length-first_digits}
use Rattle.rule_json.proofs.DigitsLemmas.{digit_bits-first_digits}
use Rattle.schc_ids.proofs.TextsLemmas.{name_of_text-text_of}

-- ---- lists and members

-- the list of what is read again is read again
pub each-again : {A : Type 0} (read : Data → Option A) (write : A → Data) (xs : List A)
    → AllByRecursion (λ x. read (write x) ≡ Some x) xs
    → each_of read (items_of (map write xs)) ≡ Some xs
each-again read write [] all = refl
each-again read write (x ∷ xs) all = rw (all.0, each-again read write xs all.1)

-- a JSON list is read again, where each of its first `i` items is, and it has no more
pub list-again : {A : Type 0} (read : Data → Option A) (write : A → Data) (xs : List A) (i : ℕ)
    → length xs ≤ i
    → AllByRecursion (λ x. read (write x) ≡ Some x) (take i xs)
    → list_of read (list_data write xs) ≡ Some xs
list-again read write xs i h all =
    each-again read write xs
    (subst (λ l. AllByRecursion (λ x. read (write x) ≡ Some x) l) (take_all i xs h) all)

all-are : {A : Type 0} {P Q : A → Type 0} → ((x : A) → P x → Q x) → (xs : List A)
    → AllByRecursion P xs → AllByRecursion Q xs
all-are f [] all = tt
all-are f (x ∷ xs) all = (f x all.0, all-are f xs all.1)

found : {A : Type 0} (read : Data → Option A) (o : Option Data) (v : Data) (x : A) → o ≡ Some v
    → read v ≡ Some x → option_and_then read o ≡ Some x
found read o v x h e = rw h e

pub number_below-again : (limit n : ℕ) → n < limit
    → number_below limit (number (unsigned n)) ≡ Some n
unfolding number_below
number_below-again limit n h = rw (lt-ltb n limit h)

-- ---- targets

even_half : (n : ℕ) → n % 8 ≡ 0 → (n + 3) / 4 % 2 ≡ 0
even_half n h = omega arith

no_filling : (n : ℕ) → n % 8 ≡ 0 → (4 - n % 4) % 4 ≡ 0
no_filling n h = omega arith

filled : (n : ℕ) → (4 - n % 4) % 4 + n ≡ 4 * ((n + 3) / 4)
filled n = omega arith

filling_all : (bits : List Bool)
    → length (filling (length bits) ++ bits) ≡ 4 * ((length bits + 3) / 4)
filling_all bits =
    rw (
      length-append (filling (length bits)) bits,
      length-replicate ((4 - length bits % 4) % 4)
          false,
    ) (filled (length bits))

digits-again : (bits : List Bool)
    → digit_bits (target_text bits) ≡ Some (filling (length bits) ++ bits)
unfolding target_text
digits-again bits =
    digit_bits-first_digits ((length bits + 3) / 4) (filling (length bits) ++ bits)
    (filling_all bits)

length-target_text : (bits : List Bool) → length (target_text bits) ≡ (length bits + 3) / 4
unfolding target_text
length-target_text bits =
    length-first_digits ((length bits + 3) / 4) (filling (length bits) ++ bits)

fixed-again : (bits : List Bool) → fixed_target (length bits) (target_text bits) ≡ Some bits
unfolding fixed_target
fixed-again bits =
    let short : nat_le (length (target_text bits)) ((length bits + 3) / 4) ≡ true =
    le-leb (length (target_text bits)) ((length bits + 3) / 4)
    (omega (arith, length-target_text bits)) in
    rw (short, digits-again bits, bits_value-zeros ((4 - length bits % 4) % 4) bits)
    (fitting-own bits)

bytes-again : (bits : List Bool) → length bits % 8 ≡ 0 → bytes_target (target_text bits) ≡ Some bits
unfolding bytes_target
bytes-again bits h =
    let even : length (target_text bits) % 2 ≡ 0 = ap (λ n. n % 2) (length-target_text bits)
    ∙ even_half (length bits) h in
    let bare : filling (length bits) ≡ [] =
    ap (λ n. replicate n false) (no_filling (length bits) h) in
    rw (eq-eqb (length (target_text bits) % 2) 0 even, digits-again bits, bare)

target-again : (length : Length) (bits : List Bool) → TargetCanBeSpelt length bits
    → target_of length (target_text bits) ≡ Some bits
target-again (Fixed width) bits h =
    subst (λ w. fixed_target w (target_text bits) ≡ Some bits) h (fixed-again bits)
target-again Variable bits h = bytes-again bits h
target-again TokenLength bits h = bytes-again bits h

targets-again : (length : Length) (targets : List (List Bool))
    → AllByRecursion (TargetCanBeSpelt length) targets
    → list_of (text_in (target_of length)) (list_data target_data targets) ≡ Some targets
targets-again length targets h =
    each-again (text_in (target_of length)) target_data targets
    (all-are (λ bits e. target-again length bits e) targets h)

-- ---- entries

get-name : (e : EntryData) (o : Option ℕ)
    → get (codes "field-id") (entry_object e o) ≡ Some (string (unwrap_or (text_of e.name) []))
unfolding entry_object
get-name e o = refl

get-length : (e : EntryData) (o : Option ℕ)
    → get (codes "field-length") (entry_object e o) ≡ Some (length_data e.length)
unfolding entry_object
get-length e o = refl

get-position : (e : EntryData) (o : Option ℕ)
    → get (codes "field-position") (entry_object e o) ≡ Some (number (unsigned e.position))
unfolding entry_object
get-position e o = refl

get-direction : (e : EntryData) (o : Option ℕ)
    → get (codes "direction-indicator") (entry_object e o) ≡ Some
    (string (indicator_text e.direction))
unfolding entry_object
get-direction e o = refl

get-operator : (e : EntryData) (o : Option ℕ)
    → get (codes "matching-operator") (entry_object e o) ≡ Some (string (operator_text e.operator))
unfolding entry_object
get-operator e o = refl

get-action : (e : EntryData) (o : Option ℕ)
    → get (codes "comp-decomp-action") (entry_object e o) ≡ Some (string (action_text e.action))
unfolding entry_object
get-action e o = refl

get-targets : (e : EntryData) (o : Option ℕ)
    → get (codes "target-value") (entry_object e o) ≡ Some (list_data target_data e.targets)
unfolding entry_object
get-targets e None = refl
get-targets e (Some bits) = refl

abbrev value_data : Option ℕ → Option Data
value_data None = None
value_data (Some bits) = Some (number (unsigned bits))

get-value : (e : EntryData) (o : Option ℕ)
    → get (codes "matching-operator-value") (entry_object e o) ≡ value_data o
unfolding entry_object
get-value e None = refl
get-value e (Some bits) = refl

indicator-again : (d : DirInd) → indicator_of (indicator_text d) ≡ Some d
unfolding indicator_of
indicator-again indicator.Up = refl
indicator-again indicator.Down = refl
indicator-again indicator.Both = refl

action-again : (a : Action) → action_of (action_text a) ≡ Some a
unfolding action_of
action-again action.NotSent = refl
action-again action.ValueSent = refl
action-again action.MappingSent = refl
action-again action.Lsb = refl
action-again action.Compute = refl
action-again action.DevIid = refl
action-again action.AppIid = refl

operator-again : (o : Operator) → IfSome (msb_bits o) (λ bits. bits < 2 ^ 16)
    → operator_with (operator_text o) (value_data (msb_bits o)) ≡ Some o
unfolding operator_with plain_operator
operator-again Equal h = refl
operator-again Ignore h = refl
operator-again MatchMapping h = refl
operator-again (Msb bits) h = rw (number_below-again (2 ^ 16) bits h)

name-again : (name : FieldName) (o : Option (List ℕ)) → text_of name ≡ o → IsSome o
    → name_of_text (unwrap_or o []) ≡ Some name
name-again name None e h = absurd (false≢true h)
name-again name (Some text) e h = name_of_text-text_of name text e

-- an entry, of what its members are read as
entry_in-parts : (d : Data) (n : FieldName) (l : Length) (p : ℕ) (i : DirInd) (o : Operator)
    (a : Action) (t : List (List Bool))
    → member_in (codes "field-id") (text_in name_of_text) d ≡ Some n
    → member_in (codes "field-length") length_in d ≡ Some l
    → member_in (codes "field-position") (number_below (2 ^ 16)) d ≡ Some p
    → member_in (codes "direction-indicator") (text_in indicator_of) d ≡ Some i
    → operator_in d ≡ Some o
    → member_in (codes "comp-decomp-action") (text_in action_of) d ≡ Some a
    → targets_in l d ≡ Some t
    → entry_in d ≡ Some
    (record {
      name = n;
      length = l;
      position = p;
      direction = i;
      targets = t;
      operator = o;
      action =
          a;
    })
unfolding entry_in
entry_in-parts d n l p i o a t hn hl hp hi ho ha ht = rw (hn, hl, hp, hi, ho, ha, ht)

operator_in-again : (e : EntryData) → IfSome (msb_bits e.operator) (λ bits. bits < 2 ^ 16)
    → operator_in (entry_data e) ≡ Some e.operator
unfolding operator_in entry_data
operator_in-again e h =
    rw (get-operator e (msb_bits e.operator), get-value e (msb_bits e.operator))
    (operator-again e.operator h)

targets_in-again : (e : EntryData) → AllByRecursion (TargetCanBeSpelt e.length) e.targets
    → targets_in e.length (entry_data e) ≡ Some e.targets
unfolding targets_in entry_data
targets_in-again e h = rw (get-targets e (msb_bits e.operator)) (targets-again e.length e.targets h)

pub entry-again : (e : EntryData) → EntryCanBeSpelt e → e.position < 2 ^ 16
    → length_in (length_data e.length) ≡ Some e.length
    → IfSome (msb_bits e.operator) (λ bits. bits < 2 ^ 16) → entry_in (entry_data e) ≡ Some e
unfolding entry_data
entry-again e spelt position length bits =
    entry_in-parts (entry_data e) e.name e.length e.position e.direction e.operator e.action
    e.targets
    (found (text_in name_of_text) _ _ e.name (get-name e (msb_bits e.operator))
    (name-again e.name (text_of e.name) refl spelt.0))
    (found length_in _ _ e.length (get-length e (msb_bits e.operator)) length)
    (found (number_below (2 ^ 16)) _ _ e.position (get-position e (msb_bits e.operator))
    (number_below-again (2 ^ 16) e.position position))
    (found (text_in indicator_of) _ _ e.direction (get-direction e (msb_bits e.operator))
    (indicator-again e.direction))
    (operator_in-again e bits)
    (found (text_in action_of) _ _ e.action (get-action e (msb_bits e.operator))
    (action-again e.action))
    (targets_in-again e spelt.1)

-- ---- rules and editions

-- a rule with a RuleID below 2 ^ 16 is read again, where its entries are
pub rule-again : (raw : RawRule) → raw.rule.id < 2 ^ 16
    → list_of entry_in (list_data entry_data raw.rule.entries) ≡ Some raw.rule.entries
    → rule_in (rule_data raw) ≡ Some raw
unfolding rule_in rule_data live_in
rule-again raw id entries = rw (number_below-again (2 ^ 16) raw.rule.id id, entries)

-- an edition with a number below 2 ^ 32 is read again, where its rules are
pub edition-again : (edition : RawEditionData) → edition.number < 2 ^ 32
    → list_of rule_in (list_data rule_data edition.rules) ≡ Some edition.rules
    → edition_in (edition_data edition) ≡ Some edition
unfolding edition_in edition_data
edition-again edition small rules = rw (number_below-again (2 ^ 32) edition.number small, rules)

-- ---- depth, and no float

depth-each : {A : Type 0} (write : A → Data) (n : ℕ) → ((x : A) → depth (write x) ≤ n)
    → (xs : List A) → items_depth (items_of (map write xs)) ≤ n
depth-each write n h [] = omega arith
depth-each write n h (x ∷ xs) = max-le (h x) (depth-each write n h xs)

float-each : {A : Type 0} (write : A → Data) → ((x : A) → has_float (write x) ≡ false)
    → (xs : List A) → items_have_float (items_of (map write xs)) ≡ false
float-each write h [] = refl
float-each write h (x ∷ xs) = rw (h x, float-each write h xs)

depth-length : (l : Length) → depth (length_data l) ≡ 0
depth-length (Fixed bits) = refl
depth-length Variable = refl
depth-length TokenLength = refl

float-length : (l : Length) → has_float (length_data l) ≡ false
float-length (Fixed bits) = refl
float-length Variable = refl
float-length TokenLength = refl

deeper : {m : ℕ} (n : ℕ) → m ≤ n → suc m ≤ suc n
deeper n h = omega arith

list-depth : {A : Type 0} (write : A → Data) (n : ℕ) → ((x : A) → depth (write x) ≤ n)
    → (xs : List A) → depth (list_data write xs) ≤ suc n
list-depth write n h xs = let e = depth-each write n h xs in omega arith

none : (n : ℕ) → 0 ≤ n
none n = omega arith

with_value-depth : (o : Option ℕ) (ms : Members) (n : ℕ) → members_depth ms ≤ n
    → members_depth (with_value o ms) ≤ n
with_value-depth None ms n h = h
with_value-depth (Some bits) ms n h = max-le (none n) h

with_value-float : (o : Option ℕ) (ms : Members)
    → members_have_float (with_value o ms) ≡ members_have_float ms
with_value-float None ms = refl
with_value-float (Some bits) ms = refl

targets-depth : (e : EntryData) (o : Option ℕ)
    → members_depth
    (with_value o (member (codes "target-value") (list_data target_data e.targets) no_members)) ≤ 1
targets-depth e o =
    with_value-depth o (member (codes "target-value") (list_data target_data e.targets) no_members)
    1
    (max-le (list-depth target_data 0 (λ x. none 0) e.targets) (none 1))

entry-depth : (e : EntryData) → depth (entry_data e) ≤ 2
unfolding entry_data entry_object
entry-depth e =
    deeper 1
    (max-le (none 1)
    (max-le (none 1)
    (max-le (none 1) (max-le (subst (λ n. n ≤ 1) (sym (depth-length e.length)) (none 1))
    (max-le (none 1) (max-le (none 1) (targets-depth e (msb_bits e.operator))))))))

rule-depth : (raw : RawRule) → depth (rule_data raw) ≤ 4
unfolding rule_data
rule-depth raw =
    deeper 3
    (max-le (list-depth entry_data 2 entry-depth raw.rule.entries)
    (max-le (none 3) (max-le (none 3) (none 3))))

pub edition-depth : (edition : RawEditionData) → depth (edition_data edition) ≤ 127
unfolding edition_data
edition-depth edition =
    let deep : depth (edition_data edition) ≤ 6 =
    deeper 5
    (max-le (none 5) (max-le (list-depth rule_data 4 rule-depth edition.rules) (none 5))) in
    omega arith

entry-float : (e : EntryData) → has_float (entry_data e) ≡ false
unfolding entry_data entry_object
entry-float e =
    rw (
      float-length e.length,
      with_value-float (msb_bits e.operator)
          (member (codes "target-value") (list_data target_data e.targets) no_members),
      float-each
          target_data (λ x. refl) e.targets,
    )

rule-float : (raw : RawRule) → has_float (rule_data raw) ≡ false
unfolding rule_data
rule-float raw = rw (float-each entry_data entry-float raw.rule.entries)

pub edition-float : (edition : RawEditionData) → has_float (edition_data edition) ≡ false
unfolding edition_data
edition-float edition = rw (float-each rule_data rule-float edition.rules)

-- ---- under a result

-- where an entry was written that can be spelt, with its numbers in range, it is read again
pub entry-if : {T F : Type 0} (result : Result T F) (e : EntryData) (o : Option ℕ)
    → EntryCanBeSpelt e → e.position < 2 ^ 16 → o ≡ msb_bits e.operator
    → IfSome o (λ bits. bits < 2 ^ 16)
    → IfOk result (λ _. length_in (length_data e.length) ≡ Some e.length)
    → IfOk result (λ _. entry_in (entry_data e) ≡ Some e)
entry-if (Err fault) e o spelt position same small length = tt
entry-if (Ok value) e o spelt position same small length =
    entry-again e spelt position length (subst (λ b. IfSome b (λ bits. bits < 2 ^ 16)) same small)

-- ---- the text

-- bytes that are the compact text of an edition's JSON value, without floats, are its text
pub text-written : (edition : RawEditionData) (d : Data) (bytes : List ℕ) → d ≡ edition_data edition
    → (has_float d ≡ false → bytes ≡ compact_text d) → bytes ≡ edition_text edition
unfolding edition_text
text-written edition d bytes same text =
    text (ap has_float same ∙ edition-float edition) ∙ ap compact_text same

-- UTF-8 that is read as an edition's JSON value means that edition, where its value is read again
pub text-again : (edition : RawEditionData) (d : Data) (bytes : List ℕ) → d ≡ edition_data edition
    → IsUtf8 bytes
    → (depth d ≤ max_depth → read bytes ≡ Some d) → edition_in (edition_data edition) ≡ Some edition
    → edition_of bytes ≡ Some edition
unfolding edition_of
text-again edition d bytes same utf8 reads back =
    let shallow : depth d ≤ 127 = subst (λ x. depth x ≤ 127) (sym same) (edition-depth edition) in
    let json : json_of bytes ≡ Some (edition_data edition) = json_of-utf8 bytes utf8
    ∙ (reads shallow ∙ ap Some same) in
    found edition_in (json_of bytes) (edition_data edition) edition json back
