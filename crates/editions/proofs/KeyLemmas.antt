-- The key entry of an admitted rule, and the suspects as they are found from what is kept of the
-- rules.
use Rattle.std.proofs.Common.{◌≡◌, ℕ, zero, suc, ◌==◌, ◌≤◌, Bool, true, false, cond, ◌&&◌, ◌||◌}
use Rattle.std.proofs.Common.{not, List, [], ◌∷◌, length, filter, map, find, Contains, Option, Some}
use Rattle.std.proofs.Common.{None, IfSome, is_some, slice_get, ◌∙◌, refl, sym, ap, subst, arith}
use Rattle.std.proofs.Common.{eqb-true}
use Rattle.std.specs.List.{list_any, list_all, cons_option}
use Rattle.std.specs.Option.{option_map, option_map_or}
use Rattle.std.proofs.lemmas.Bool.{and_parts, or_parts}
use Rattle.schc_bits.specs.Bits.{bits_value}
use Rattle.schc_ids.specs.declared.ends.Direction.{Direction}
use Rattle.schc_ids.specs.declared.ends.Direction.TheVariants as way
use Rattle.schc_ids.specs.declared.names.Stack.{Stack}
use Rattle.schc_ids.specs.declared.names.Stack.TheVariants as stack
use Rattle.schc_ids.specs.Ends.{covers}
use Rattle.schc_ids.specs.Names.{same_name}
use Rattle.schc_ids.proofs.NamesLemmas.{same_name-true}
use Rattle.rule_model.specs.declared.rule.Length.{Length}
use Rattle.rule_model.specs.declared.rule.Length.TheVariants.{Fixed, Variable, TokenLength}
use Rattle.rule_model.specs.declared.rule.Operator.{Operator}
use Rattle.rule_model.specs.declared.rule.Operator.TheVariants as operator
use Rattle.rule_model.specs.Data.{EntryData, RuleData}
use Rattle.rule_model.specs.Cover.{covered, serves, stack_of}
use Rattle.rule_model.specs.Findings.{IsAdmitted, is_length_of, is_fixed_at, is_count_right}
use Rattle.rule_model.specs.Findings.{has_length, has_value}
use Rattle.rule_model.proofs.EntryRowsLemmas.{EntryHolds, EntryHolds-from_IsAdmitted}
use Rattle.rule_model.proofs.SizedLemmas.{Contains-rest, Contains-first}
use Rattle.editions.specs.declared.listed.Listed.{Listed}
use Rattle.editions.specs.declared.keys.Wanted.{Wanted}
use Rattle.editions.specs.declared.keys.Wanted.TheVariants.{Any, Only}
use Rattle.editions.specs.declared.keys.Candidate.{Candidate}
use Rattle.editions.specs.declared.tables.StackTables.{StackTables}
use Rattle.editions.specs.Suspects.{same_stack, key_field, key_entry, takes_key, is_suspect}
use Rattle.editions.specs.Suspects.{suspects}
use Rattle.editions.specs.Keys.{wanted_of, candidate_by, candidate_of, candidates, wants}
use Rattle.editions.specs.Keys.{wants_only, wants_any, ids_wanting, ids_wanting_any}
use Rattle.editions.specs.Tables.{ids_in, table_of_stack, IsIndexOf}

not-false : (b : Bool) → not b ≡ false → b ≡ true
not-false true e = refl
not-false false e = absurd cc

found-cases : (test : EntryData → Bool) (x : EntryData) (xs : List EntryData) (b : Bool)
    (e : EntryData) → test x ≡ b → cond b (Some x) (find test xs) ≡ Some e
    → (find test xs ≡ Some e → Contains xs e × (test e ≡ true)) → Contains (x ∷ xs) e
    × (test e ≡ true)
found-cases test x xs true e t h rest =
    let same : x ≡ e = cc in
    (subst (Contains (x ∷ xs)) same (Contains-first x xs), subst (λ z. test z ≡ true) same t)
found-cases test x xs false e t h rest =
    let r = rest h in (Contains-rest x xs e r.0, r.1)

-- the entry that is found stands in the list, and passes the test
pub found-entry : (test : EntryData → Bool) (xs : List EntryData) (e : EntryData)
    → find test xs ≡ Some e → Contains xs e × (test e ≡ true)
found-entry test [] e h = absurd cc
found-entry test (x ∷ xs) e h = found-cases test x xs (test x) e refl h (found-entry test xs e)

kept-cases : (test : EntryData → Bool) (x : EntryData) (xs : List EntryData) (b : Bool)
    (e : EntryData) → Contains (cond b (x ∷ filter test xs) (filter test xs)) e
    → (Contains (filter test xs) e → Contains xs e) → Contains (x ∷ xs) e
kept-cases test x xs true e among rest = first-or among
  where
    first-or : Contains (x ∷ filter test xs) e → Contains (x ∷ xs) e
    first-or (zero, within, at) = (0, omega arith, at)
    first-or (suc k, within, at) = Contains-rest x xs e (rest (k, omega arith, at))
kept-cases test x xs false e among rest = Contains-rest x xs e (rest among)

-- an element of the part that passes stands in the list
pub among-all : (test : EntryData → Bool) (xs : List EntryData) (e : EntryData)
    → Contains (filter test xs) e → Contains xs e
among-all test [] e among = absurd (omega (arith, among.1))
among-all test (x ∷ xs) e among = kept-cases test x xs (test x) e among (among-all test xs e)

-- a length that is fixed at a width leaves targets of that width
first-fits : (width : ℕ) (kind : Length) (good : List Bool → Bool) (targets : List (List Bool))
    → width ≤ 64 → is_fixed_at (Some width) kind ≡ true
    → list_all (λ target. has_length kind target && good target) targets ≡ true
    → IfSome (slice_get targets 0) (λ target. length target ≤ 64)
first-fits width kind good [] small fixed all = tt
first-fits width (Fixed bits) good (target ∷ targets) small fixed all =
    let parts = and_parts (has_length (Fixed bits) target && good target) _ all in
    let its : (length target == bits) ≡ true =
    (and_parts (has_length (Fixed bits) target) (good target) parts.0).0 in
    let n : length target ≡ bits = eqb-true (length target) bits its in
    let w : bits ≡ width = eqb-true bits width fixed in
    omega arith
first-fits width Variable good (target ∷ targets) small fixed all = absurd cc
first-fits width TokenLength good (target ∷ targets) small fixed all = absurd cc

key-fits : (headers : Stack) (kind : Length) (good : List Bool → Bool) (targets : List (List Bool))
    → is_length_of (key_field headers) kind ≡ true
    → list_all (λ target. has_length kind target && good target) targets ≡ true
    → IfSome (slice_get targets 0) (λ target. length target ≤ 64)
key-fits stack.Ip kind good targets fixed all =
    first-fits 8 kind good targets (omega arith) fixed all
key-fits stack.IpUdp kind good targets fixed all =
    first-fits 16 kind good targets (omega arith) fixed all
key-fits stack.IpUdpCoap kind good targets fixed all =
    first-fits 16 kind good targets (omega arith) fixed all

-- the entry of the key field has the name, is used in the direction, and none of the findings
-- applies to it
pub key-entry-holds : (rule : RuleData) (headers : Stack) (direction : Direction) (e : EntryData)
    → IsAdmitted rule → key_entry headers rule direction ≡ Some e → (e.name ≡ key_field headers)
    × Contains (covered rule direction) e × EntryHolds (stack_of rule) e
key-entry-holds rule headers direction e admitted found =
    let at =
    found-entry (λ d. same_name d.name (key_field headers)) (covered rule direction) e found in (
      same_name-true e.name (key_field headers) at.1,
      at.0,
      EntryHolds-from_IsAdmitted rule admitted
          e (among-all (λ d. covers d.direction direction) rule.entries e at.0),
    )

-- its target is a number of at most 64 bits
pub key-target-fits : (rule : RuleData) (headers : Stack) (direction : Direction) (e : EntryData)
    → IsAdmitted rule → key_entry headers rule direction ≡ Some e
    → IfSome (slice_get e.targets 0) (λ target. length target ≤ 64)
key-target-fits rule headers direction e admitted found =
    let holds = key-entry-holds rule headers direction e admitted found in
    let shape =
    or_parts (not (is_length_of e.name e.length)) (e.position == 0)
    (or_parts (not (is_length_of e.name e.length) || (e.position == 0)) _ holds.2.shape).0 in
    let fixed : is_length_of (key_field headers) e.length ≡ true =
    subst (λ n. is_length_of n e.length ≡ true) holds.0
    (not-false (is_length_of e.name e.length) shape.0) in
    let all =
    or_parts (not (is_count_right e.operator e.action e.targets))
    (not (list_all
    (λ target. has_length e.length target && has_value (stack_of rule) e.name target)
    e.targets)) holds.2.target in
    key-fits headers e.length (has_value (stack_of rule) e.name) e.targets fixed
    (not-false
    (list_all (λ target. has_length e.length target && has_value (stack_of rule) e.name target)
    e.targets) all.1)

-- the keys that are kept of an entry are those that it takes
first-kept : (key : ℕ) (o : Option (List Bool))
    → option_map_or (wants key) (option_map (λ target. Only (bits_value target)) o)
    false ≡ option_map_or (λ target. bits_value target == key) o false
first-kept key None = refl
first-kept key (Some target) = refl

kept-keys : (key : ℕ) (op : Operator) (targets : List (List Bool))
    → option_map_or (wants key) (wanted_of op targets) false ≡ takes_key key op targets
kept-keys key operator.Equal targets = first-kept key (slice_get targets 0)
kept-keys key operator.Ignore targets = refl
kept-keys key (operator.Msb bits) targets = refl
kept-keys key operator.MatchMapping targets = refl

-- a candidate takes the key
abbrev takes : ℕ → Option Candidate → Bool
takes key o = option_map_or (λ c. wants key c.wanted) o false

-- a candidate has the RuleID
abbrev HasId : ℕ → Option Candidate → Type 0
HasId id o = IfSome o (λ c. c.id ≡ id)

with-keys : (key id : ℕ) (o : Option Wanted)
    → takes key (option_map (λ wanted. record { id = id; wanted = wanted }) o) ≡ option_map_or
    (wants key) o false
with-keys key id None = refl
with-keys key id (Some wanted) = refl

with-id : (id : ℕ) (o : Option Wanted)
    → HasId id (option_map (λ wanted. record { id = id; wanted = wanted }) o)
with-id id None = tt
with-id id (Some wanted) = refl

by-entry : (key id : ℕ) (o : Option EntryData)
    → takes key (candidate_by id o) ≡ option_map_or (λ e. takes_key key e.operator e.targets) o
    false
by-entry key id None = refl
by-entry key id (Some e) = with-keys key id (wanted_of e.operator e.targets)
    ∙ kept-keys key e.operator e.targets

by-entry-id : (id : ℕ) (o : Option EntryData) → HasId id (candidate_by id o)
by-entry-id id None = tt
by-entry-id id (Some e) = with-id id (wanted_of e.operator e.targets)

where-true : (b : Bool) (key : ℕ) (o : Option Candidate) (t : Bool) → takes key o ≡ t
    → takes key (cond b o None) ≡ (b && t)
where-true true key o t e = e
where-true false key o t e = refl

where-id : (b : Bool) (id : ℕ) (o : Option Candidate) → HasId id o → HasId id (cond b o None)
where-id true id o h = h
where-id false id o h = tt

-- the rule is a suspect where its candidate takes the key
candidate-takes : (direction : Direction) (headers : Stack) (key : ℕ) (listed : Listed)
    → takes key (candidate_of direction headers listed) ≡ is_suspect direction headers key listed
unfolding candidate_of is_suspect
candidate-takes direction headers key listed =
    where-true
    (listed.live && same_stack (stack_of listed.rule) headers && serves listed.rule direction)
    key
    (candidate_by listed.rule.id (key_entry headers listed.rule direction)) _
    (by-entry key listed.rule.id (key_entry headers listed.rule direction))

candidate-id : (direction : Direction) (headers : Stack) (listed : Listed)
    → HasId listed.rule.id (candidate_of direction headers listed)
unfolding candidate_of
candidate-id direction headers listed =
    where-id
    (listed.live && same_stack (stack_of listed.rule) headers && serves listed.rule direction)
    listed.rule.id
    (candidate_by listed.rule.id (key_entry headers listed.rule direction))
    (by-entry-id listed.rule.id (key_entry headers listed.rule direction))

-- the RuleIDs of the rules that pass
abbrev ids_of : (Listed → Bool) → List Listed → List ℕ
ids_of test rules = map (λ listed. listed.rule.id) (filter test rules)

one-more : (key id : ℕ) (c : Candidate) (cs : List Candidate) (b : Bool) → wants key c.wanted ≡ b
    → c.id ≡ id → ids_wanting key (c ∷ cs) ≡ cond b (id ∷ ids_wanting key cs) (ids_wanting key cs)
one-more key id c cs true e same = rw e (ap (λ n. n ∷ ids_wanting key cs) same)
one-more key id c cs false e same = rw e refl

ids-split : (test : Listed → Bool) (x : Listed) (xs : List Listed) (b : Bool) → test x ≡ b
    → ids_of test (x ∷ xs) ≡ cond b (x.rule.id ∷ ids_of test xs) (ids_of test xs)
ids-split test x xs true e = rw e refl
ids-split test x xs false e = rw e refl

next-rule : (test : Listed → Bool) (key : ℕ) (x : Listed) (xs : List Listed) (cs : List Candidate)
    (o : Option Candidate) → takes key o ≡ test x → HasId x.rule.id o
    → ids_wanting key cs ≡ ids_of test xs
    → ids_wanting key (cons_option o cs) ≡ ids_of test (x ∷ xs)
next-rule test key x xs cs None e id rest = rest ∙ sym (ids-split test x xs false (sym e))
next-rule test key x xs cs (Some c) e id rest =
    one-more key x.rule.id c cs (test x) e id
    ∙ (ap (λ ids. cond (test x) (x.rule.id ∷ ids) ids) rest
    ∙ sym (ids-split test x xs (test x) refl))

-- the suspects are the candidates that take the key
pub suspects-kept : (direction : Direction) (headers : Stack) (key : ℕ) (rules : List Listed)
    → ids_wanting key (candidates direction headers rules) ≡ suspects rules direction headers key
unfolding suspects
suspects-kept direction headers key [] = refl
suspects-kept direction headers key (x ∷ xs) =
    next-rule (is_suspect direction headers key) key x xs (candidates direction headers xs)
    (candidate_of direction headers x) (candidate-takes direction headers key x)
    (candidate-id direction headers x) (suspects-kept direction headers key xs)

any-same : (key : ℕ) (wanted : Wanted) → wants_only key wanted ≡ false
    → wants key wanted ≡ wants_any wanted
any-same key Any e = refl
any-same key (Only only) e = e

any-step : (key : ℕ) (c : Candidate) (cs : List Candidate) (b : Bool) → wants key c.wanted ≡ b
    → wants_any c.wanted ≡ b → ids_wanting_any cs ≡ ids_wanting key cs
    → ids_wanting_any (c ∷ cs) ≡ ids_wanting key (c ∷ cs)
any-step key c cs true e f rest = rw e (rw f (ap (λ ids. c.id ∷ ids) rest))
any-step key c cs false e f rest = rw e (rw f rest)

-- where none asks for the key, those that take it are those that take every key
pub ids_wanting-any : (key : ℕ) (cs : List Candidate)
    → list_any (λ c. wants_only key c.wanted) cs ≡ false → ids_wanting_any cs ≡ ids_wanting key cs
ids_wanting-any key [] e = refl
ids_wanting-any key (c ∷ cs) e =
    let parts = or_parts (wants_only key c.wanted) (list_any (λ c. wants_only key c.wanted) cs) e in
    any-step key c cs (wants_any c.wanted) (any-same key c.wanted parts.0) refl
    (ids_wanting-any key cs parts.1)

-- what a table has for a key, where its rows have what they should
pub table-ids : {V : Type 0} (items : V → List ℕ) (o : Option V) (others : List ℕ) (key : ℕ)
    (cs : List Candidate) → IfSome o (λ ids. items ids ≡ ids_wanting key cs)
    → is_some o ≡ list_any (λ c. wants_only key c.wanted) cs → others ≡ ids_wanting_any cs
    → option_map_or items o others ≡ ids_wanting key cs
table-ids items None others key cs ids asked rest = rest ∙ ids_wanting-any key cs (sym asked)
table-ids items (Some row) others key cs ids asked rest = ids

-- the tables of both directions, of no rules and of these
pub index-empty : (up down : StackTables)
    → ((headers : Stack) (key : ℕ) → ids_in (table_of_stack up headers) key ≡ [])
    → ((headers : Stack) (key : ℕ) → ids_in (table_of_stack down headers) key ≡ [])
    → IsIndexOf [] (record { up = up; down = down })
unfolding suspects
index-empty up down u d way.Up headers key = u headers key
index-empty up down u d way.Down headers key = d headers key

-- tables that have, for each key, the candidates that take it have the suspects of these rules
pub index-of : (rules : List Listed) (up down : StackTables)
    → ((headers : Stack) (key : ℕ)
    → ids_in (table_of_stack up headers) key ≡ ids_wanting key (candidates way.Up headers rules))
    → ((headers : Stack) (key : ℕ)
    → ids_in (table_of_stack down headers) key ≡ ids_wanting key
    (candidates way.Down headers rules)) → IsIndexOf rules (record { up = up; down = down })
index-of rules up down u d way.Up headers key = u headers key
    ∙ suspects-kept way.Up headers key rules
index-of rules up down u d way.Down headers key = d headers key
    ∙ suspects-kept way.Down headers key rules
