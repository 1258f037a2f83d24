-- What is read can be spelt.
use Rattle.std.specs.Prelude.{ℕ, ◌≡◌, ◌+◌, ◌*◌, ◌/◌, ◌%◌, ◌^◌, nat_le, nat_lt, Bool, true, false}
use Rattle.std.specs.Prelude.{if◌then◌else◌, List, [], ◌∷◌, ◌++◌, length, Option, Some, None, codes}
use Rattle.std.specs.Prelude.{IsSome, IfOk, Result, Ok, Err}
use Rattle.std.specs.List.{AllByRecursion}
use Rattle.std.specs.Option.{option_and_then}
use Rattle.std.proofs.Common.{arith, refl, sym, subst}
use Rattle.std.proofs.lemmas.Bool.{eqb-true}
use Rattle.std.proofs.lemmas.List.{length-append}
use Rattle.std.proofs.lemmas.Option.{none-some, same_Some, option_and_then_some, cond_some}
use Rattle.serde_json.specs.Data.{Data, Items, no_items, item}
use Rattle.serde_json.specs.Find.{get, as_object, as_str}
use Rattle.schc_ids.specs.declared.names.FieldName.{FieldName}
use Rattle.schc_ids.specs.declared.ends.DirInd.{DirInd}
use Rattle.schc_ids.specs.Texts.{text_of, name_of_text}
use Rattle.schc_bits.specs.Bits.{number_bits, bits_value}
use Rattle.schc_bits.proofs.NumberBits.{length-number_bits}
use Rattle.rule_model.specs.Data.{EntryData}
use Rattle.rule_model.specs.RawData.{RawEditionData}
use Rattle.rule_model.specs.declared.raw.RawRule.{RawRule}
use Rattle.rule_model.specs.declared.rule.Length.{Length}
use Rattle.rule_model.specs.declared.rule.Length.TheVariants.{Fixed, Variable, TokenLength}
use Rattle.rule_model.specs.declared.rule.Operator.{Operator}
use Rattle.rule_model.specs.declared.rule.Action.{Action}
use Rattle.rule_model.specs.declared.raw.DeviceLine.{DeviceLine}
use Rattle.schc_ids.specs.declared.ends.Direction.{Direction}
use Rattle.rule_json.specs.Data.{ContextData, WorkData}
use Rattle.rule_json.specs.Files.{devices_in, editions_in, context_in, work_in}
use Rattle.rule_json.specs.declared.fault.JsonFault.{JsonFault}
use Rattle.rule_json.specs.Answers.{Gives}
use Rattle.rule_json.specs.Values.{◌>>=◌, number_below, member_in, default_or, each_of, list_of}
use Rattle.rule_json.specs.Words.{direction_of, indicator_of, action_of}
use Rattle.rule_json.specs.Digits.{iid_of, packet_of, digit_bits, fitting, fixed_target}
use Rattle.rule_json.specs.Digits.{bytes_target, target_of}
use Rattle.rule_json.specs.Layout.{text_in, length_in, operator_in, targets_in, live_in, entry_in}
use Rattle.rule_json.specs.Layout.{rule_in, edition_in}
use Rattle.rule_json.specs.Written.{TargetCanBeSpelt, EntryCanBeSpelt, RuleCanBeSpelt, CanBeSpelt}
use Rattle.schc_ids.proofs.TextsLemmas.{text_of-name_of_text}

-- ---- lists

-- what holds of each value that is read holds of all
pub all-each : {A : Type 0} (read : Data → Option A) (P : A → Type 0)
    → ((d : Data) (x : A) → read d ≡ Some x → P x)
    → (ds : Items) (xs : List A) → each_of read ds ≡ Some xs → AllByRecursion P xs
all-each read P each no_items xs h = subst (λ l. AllByRecursion P l) (same_Some [] xs h) tt
all-each read P each (item d ds) xs h =
    option_and_then_some _ _ xs h (λ x e h2.
    option_and_then_some _ _ xs h2 (λ ys es h3.
    subst (λ l. AllByRecursion P l) (same_Some (x ∷ ys) xs h3)
    (each d x e, all-each read P each ds ys es)))

pub all-list : {A : Type 0} (read : Data → Option A) (P : A → Type 0)
    → ((d : Data) (x : A) → read d ≡ Some x → P x)
    → (d : Data) (xs : List A) → list_of read d ≡ Some xs → AllByRecursion P xs
all-list read P each d xs h = option_and_then_some _ _ xs h (λ ds _ e. all-each read P each ds xs e)

all-optional : {A : Type 0} (read : Data → Option A) (P : A → Type 0)
    → ((d : Data) (x : A) → read d ≡ Some x → P x)
    → (o : Option Data) (xs : List A) → default_or [] (list_of read) o ≡ Some xs
    → AllByRecursion P xs
all-optional read P each None xs h = subst (λ l. AllByRecursion P l) (same_Some [] xs h) tt
all-optional read P each (Some d) xs h = all-list read P each d xs h

-- ---- targets

if_some : {A : Type 0} (b : Bool) (o : Option A) (x : A) → (if b then o else None) ≡ Some x
    → (b ≡ true) × (o ≡ Some x)
if_some true o x h = (refl, h)
if_some false o x h = absurd (none-some x h)

-- four bits a digit
pub length-digit_bits : (text : List ℕ) (bits : List Bool) → digit_bits text ≡ Some bits
    → length bits ≡ 4 * length text
unfolding digit_bits
length-digit_bits [] bits h = subst (λ l. length l ≡ 0) (same_Some [] bits h) refl
length-digit_bits (c ∷ cs) bits h =
    option_and_then_some _ _ bits h (λ digit _ h2.
    option_and_then_some _ _ bits h2 (λ rest e h3.
    let long : length (number_bits 4 digit ++ rest) ≡ 4 * length (c ∷ cs) =
    rw (
      length-append (number_bits 4 digit) rest,
      length-number_bits 4 digit,
      length-digit_bits cs
          rest e,
    ) (omega arith) in
    subst (λ l. length l ≡ 4 * length (c ∷ cs)) (same_Some _ bits h3) long))

fixed-spelt : (width : ℕ) (text : List ℕ) (bits : List Bool) → fixed_target width text ≡ Some bits
    → length bits ≡ width
unfolding fixed_target
fixed-spelt width text bits h =
    let short =
    if_some (nat_le (length text) ((width + 3) / 4))
    (option_and_then (λ digits. fitting width (bits_value digits)) (digit_bits text)) bits h in
    option_and_then_some (λ digits. fitting width (bits_value digits)) (digit_bits text) bits
    short.1 (λ digits _ h2.
    let same : number_bits width (bits_value digits) ≡ bits =
    (cond_some (nat_lt (bits_value digits) (2 ^ width)) _ bits h2).1 in
    subst (λ l. length l ≡ width) same (length-number_bits width (bits_value digits)))

bytes-spelt : (text : List ℕ) (bits : List Bool) → bytes_target text ≡ Some bits
    → length bits % 8 ≡ 0
unfolding bytes_target
bytes-spelt text bits h =
    let parts = if_some _ _ bits h in
    let even : length text % 2 ≡ 0 = eqb-true (length text % 2) 0 parts.0 in
    let long : length bits ≡ 4 * length text = length-digit_bits text bits parts.1 in
    omega arith

pub target-spelt : (length : Length) (text : List ℕ) (bits : List Bool)
    → target_of length text ≡ Some bits → TargetCanBeSpelt length bits
target-spelt (Fixed width) text bits h = fixed-spelt width text bits h
target-spelt Variable text bits h = bytes-spelt text bits h
target-spelt TokenLength text bits h = bytes-spelt text bits h

targets-spelt : (length : Length) (d : Data) (targets : List (List Bool))
    → targets_in length d ≡ Some targets
    → AllByRecursion (TargetCanBeSpelt length) targets
unfolding targets_in
targets-spelt length d targets h =
    all-optional (text_in (target_of length)) (TargetCanBeSpelt length)
    (λ v bits e. option_and_then_some _ _ bits e (λ text _ e2. target-spelt length text bits e2)) _
    targets h

-- ---- entries, rules and editions

abbrev entry_with : Option FieldName → Option Length → Option ℕ → Option DirInd → Option Operator
    → Option Action
    → (Length → Option (List (List Bool))) → Option EntryData
entry_with name length position direction operator action targets = do
  n ← name
  l ← length
  p ← position
  d ← direction
  o ← operator
  a ← action
  t ← targets l
  Some (record
      { name = n; length = l; position = p; direction = d; targets = t; operator = o; action = a })

whole-spelt : (n : FieldName) (l : Length) (p : ℕ) (d : DirInd) (o : Operator) (a : Action)
    (targets : Option (List (List Bool)))
    → IsSome (text_of n)
    → ((t : List (List Bool)) → targets ≡ Some t → AllByRecursion (TargetCanBeSpelt l) t)
    → (entry : EntryData)
    → entry_with (Some n) (Some l) (Some p) (Some d) (Some o) (Some a) (λ _. targets) ≡ Some entry
    → EntryCanBeSpelt entry
whole-spelt n l p d o a None named spelt entry h = absurd (none-some entry h)
whole-spelt n l p d o a (Some t) named spelt entry h =
    subst EntryCanBeSpelt (same_Some _ entry h) (named, spelt t refl)

with-spelt : (name : Option FieldName) (length : Option Length) (position : Option ℕ)
    (direction : Option DirInd) (operator : Option Operator)
    (action : Option Action) (targets : Length → Option (List (List Bool)))
    → ((n : FieldName) → name ≡ Some n → IsSome (text_of n))
    → ((l : Length) (t : List (List Bool)) → targets l ≡ Some t
    → AllByRecursion (TargetCanBeSpelt l) t)
    → (entry : EntryData)
    → entry_with name length position direction operator action targets ≡ Some entry
    → EntryCanBeSpelt entry
with-spelt None _ _ _ _ _ targets named spelt entry h = absurd (none-some entry h)
with-spelt (Some n) None _ _ _ _ targets named spelt entry h = absurd (none-some entry h)
with-spelt (Some n) (Some l) None _ _ _ targets named spelt entry h = absurd (none-some entry h)
with-spelt (Some n) (Some l) (Some p) None _ _ targets named spelt entry h =
    absurd (none-some entry h)
with-spelt (Some n) (Some l) (Some p) (Some d) None _ targets named spelt entry h =
    absurd (none-some entry h)
with-spelt (Some n) (Some l) (Some p) (Some d) (Some o) None targets named spelt entry h =
    absurd (none-some entry h)
with-spelt (Some n) (Some l) (Some p) (Some d) (Some o) (Some a) targets named spelt entry h =
    whole-spelt n l p d o a (targets l) (named n refl) (spelt l) entry h

name-spelt : (o : Option Data) (name : FieldName)
    → option_and_then (text_in name_of_text) o ≡ Some name → IsSome (text_of name)
name-spelt o name h =
    option_and_then_some (text_in name_of_text) o name h (λ v _ e.
    option_and_then_some name_of_text (as_str v) name e
    (λ text _ e2. subst IsSome (sym (text_of-name_of_text text name e2)) refl))

entry-spelt : (d : Data) (entry : EntryData) → entry_in d ≡ Some entry → EntryCanBeSpelt entry
unfolding entry_in
entry-spelt d entry h =
    with-spelt (member_in (codes "field-id") (text_in name_of_text) d)
    (member_in (codes "field-length") length_in d)
    (member_in (codes "field-position") (number_below (2 ^ 16)) d)
    (member_in (codes "direction-indicator") (text_in indicator_of) d) (operator_in d)
    (member_in (codes "comp-decomp-action") (text_in action_of) d) (λ l. targets_in l d)
    (name-spelt (get (codes "field-id") d)) (λ l t e. targets-spelt l d t e) entry h

abbrev rule_with : Option ℕ → Option Bool → Option (List EntryData) → Option RawRule
rule_with id live entries = do
  i ← id
  l ← live
  e ← entries
  Some (record { rule = record { id = i; entries = e }; live = l })

rule-with-spelt : (id : Option ℕ) (live : Option Bool) (entries : Option (List EntryData))
    → ((e : List EntryData) → entries ≡ Some e → AllByRecursion EntryCanBeSpelt e)
    → (raw : RawRule) → rule_with id live entries ≡ Some raw → RuleCanBeSpelt raw
rule-with-spelt None _ _ all raw h = absurd (none-some raw h)
rule-with-spelt (Some i) None _ all raw h = absurd (none-some raw h)
rule-with-spelt (Some i) (Some l) None all raw h = absurd (none-some raw h)
rule-with-spelt (Some i) (Some l) (Some e) all raw h =
    subst RuleCanBeSpelt (same_Some _ raw h) (all e refl)

all-member : {A : Type 0} (read : Data → Option A) (P : A → Type 0)
    → ((d : Data) (x : A) → read d ≡ Some x → P x)
    → (o : Option Data) (xs : List A) → option_and_then (list_of read) o ≡ Some xs
    → AllByRecursion P xs
all-member read P each o xs h =
    option_and_then_some (list_of read) o xs h (λ v _ e. all-list read P each v xs e)

rule-spelt : (d : Data) (raw : RawRule) → rule_in d ≡ Some raw → RuleCanBeSpelt raw
unfolding rule_in
rule-spelt d raw h =
    rule-with-spelt (member_in (codes "rule-id-value") (number_below (2 ^ 16)) d) (live_in d)
    (member_in (codes "entry") (list_of entry_in) d)
    (all-member entry_in EntryCanBeSpelt entry-spelt (get (codes "entry") d)) raw h

abbrev edition_with : Option ℕ → Option (List RawRule) → Option RawEditionData
edition_with number rules = do
  n ← number
  r ← rules
  Some (record { number = n; rules = r })

edition-with-spelt : (number : Option ℕ) (rules : Option (List RawRule))
    → ((r : List RawRule) → rules ≡ Some r → AllByRecursion RuleCanBeSpelt r)
    → (edition : RawEditionData) → edition_with number rules ≡ Some edition → CanBeSpelt edition
edition-with-spelt None _ all edition h = absurd (none-some edition h)
edition-with-spelt (Some n) None all edition h = absurd (none-some edition h)
edition-with-spelt (Some n) (Some r) all edition h =
    subst CanBeSpelt (same_Some _ edition h) (all r refl)

-- an edition that is read can be spelt: its fields have texts, and its targets their lengths
pub edition-spelt : (d : Data) (edition : RawEditionData) → edition_in d ≡ Some edition
    → CanBeSpelt edition
unfolding edition_in
edition-spelt d edition h =
    edition-with-spelt (member_in (codes "number") (number_below (2 ^ 32)) d)
    (member_in (codes "rules") (list_of rule_in) d)
    (all-member rule_in RuleCanBeSpelt rule-spelt (get (codes "rules") d)) edition h

-- ---- files

abbrev context_with : {A : Type 0} → Option A → Option (List DeviceLine)
    → Option (List RawEditionData) → Option ContextData
context_with members devices editions = do
  m ← members
  d ← devices
  e ← editions
  Some (record { devices = d; editions = e })

context-with-spelt : {A : Type 0} (members : Option A) (devices : Option (List DeviceLine))
    (editions : Option (List RawEditionData))
    → ((e : List RawEditionData) → editions ≡ Some e → AllByRecursion CanBeSpelt e)
    → (context : ContextData) → context_with members devices editions ≡ Some context
    → AllByRecursion CanBeSpelt context.editions
context-with-spelt None _ _ all context h = absurd (none-some context h)
context-with-spelt (Some m) None _ all context h = absurd (none-some context h)
context-with-spelt (Some m) (Some d) None all context h = absurd (none-some context h)
context-with-spelt (Some m) (Some d) (Some e) all context h =
    subst (λ c. AllByRecursion CanBeSpelt c.editions) (same_Some _ context h) (all e refl)

-- each edition of a context that is read can be spelt
pub context-spelt : (d : Data) (context : ContextData) → context_in d ≡ Some context
    → AllByRecursion CanBeSpelt context.editions
unfolding context_in editions_in
context-spelt d context h =
    context-with-spelt (as_object d) (devices_in d) (editions_in d)
    (λ e read. all-optional edition_in CanBeSpelt edition-spelt (get (codes "editions") d) e read)
    context h

abbrev work_with : Option (List RawEditionData) → Option ℕ → Option ℕ → Option Direction
    → Option (List (List ℕ)) → Option WorkData
work_with editions dev app direction packets = do
  e ← editions
  v ← dev
  a ← app
  w ← direction
  p ← packets
  Some (record { editions = e; iids = record { dev = v; app = a }; direction = w; packets = p })

work-with-spelt : (editions : Option (List RawEditionData)) (dev app : Option ℕ)
    (direction : Option Direction) (packets : Option (List (List ℕ)))
    → ((e : List RawEditionData) → editions ≡ Some e → AllByRecursion CanBeSpelt e)
    → (work : WorkData) → work_with editions dev app direction packets ≡ Some work
    → AllByRecursion CanBeSpelt work.editions
work-with-spelt None _ _ _ _ all work h = absurd (none-some work h)
work-with-spelt (Some e) None _ _ _ all work h = absurd (none-some work h)
work-with-spelt (Some e) (Some v) None _ _ all work h = absurd (none-some work h)
work-with-spelt (Some e) (Some v) (Some a) None _ all work h = absurd (none-some work h)
work-with-spelt (Some e) (Some v) (Some a) (Some w) None all work h = absurd (none-some work h)
work-with-spelt (Some e) (Some v) (Some a) (Some w) (Some p) all work h =
    subst (λ c. AllByRecursion CanBeSpelt c.editions) (same_Some _ work h) (all e refl)

-- each edition of work that is read can be spelt
pub work-spelt : (d : Data) (work : WorkData) → work_in d ≡ Some work
    → AllByRecursion CanBeSpelt work.editions
unfolding work_in
work-spelt d work h =
    work-with-spelt (member_in (codes "editions") (list_of edition_in) d)
    (member_in (codes "dev-iid") (text_in iid_of) d)
    (member_in (codes "app-iid") (text_in iid_of) d)
    (member_in (codes "direction") (text_in direction_of) d)
    (member_in (codes "packets") (list_of (text_in packet_of)) d)
    (all-member edition_in CanBeSpelt edition-spelt (get (codes "editions") d)) work h

-- what a reader gives has what all has that the layout gives
pub given : {A : Type 0} (P : A → Type 0) (layout : Option A) → ((x : A) → layout ≡ Some x → P x)
    → (result : Result A JsonFault) → Gives (λ x. x) result layout → IfOk result (λ x. P x)
given P layout each (Ok x) h = each x h
given P layout each (Err fault) h = tt
