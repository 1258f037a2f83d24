-- What is kept of a rule, to find it by the value of its key field.
use Rattle.std.specs.Prelude.{ℕ, ◌==◌, Bool, true, false, ◌&&◌, if◌then◌else◌, List, Option, Some}
use Rattle.std.specs.Prelude.{None, filter, map, slice_get}
use Rattle.std.specs.List.{filter_map}
use Rattle.std.specs.Option.{option_map}
use Rattle.schc_bits.specs.Bits.{bits_value}
use Rattle.schc_ids.specs.declared.ends.Direction.{Direction}
use Rattle.schc_ids.specs.declared.names.Stack.{Stack}
use Rattle.rule_model.specs.declared.rule.Operator.{Operator}
use Rattle.rule_model.specs.declared.rule.Operator.TheVariants as operator
use Rattle.rule_model.specs.Data.{EntryData}
use Rattle.rule_model.specs.Cover.{serves, stack_of}
use Rattle.editions.specs.declared.listed.Listed.{Listed}
use Rattle.editions.specs.declared.keys.Wanted.{Wanted}
use Rattle.editions.specs.declared.keys.Wanted.TheVariants.{Any, Only}
use Rattle.editions.specs.declared.keys.Candidate.{Candidate}
use Rattle.editions.specs.Suspects.{same_stack, key_entry}

-- the keys that an entry takes
abbrev pub wanted_of : Operator → List (List Bool) → Option Wanted
wanted_of operator.Equal targets =
    option_map (λ target. Only (bits_value target)) (slice_get targets 0)
wanted_of _ targets = Some Any

abbrev pub candidate_by : ℕ → Option EntryData → Option Candidate
candidate_by id None = None
candidate_by id (Some e) =
    option_map (λ wanted. record { id = id; wanted = wanted }) (wanted_of e.operator e.targets)

-- a rule of the stack that is written with in the direction, and the keys that it takes
unfoldable pub candidate_of : Direction → Stack → Listed → Option Candidate
candidate_of direction headers listed =
    if listed.live && same_stack (stack_of listed.rule) headers && serves listed.rule direction
    then candidate_by listed.rule.id (key_entry headers listed.rule direction) else None

abbrev pub candidates : Direction → Stack → List Listed → List Candidate
candidates direction headers rules = filter_map (candidate_of direction headers) rules

-- the key is among those that are taken
abbrev pub wants : ℕ → Wanted → Bool
wants key Any = true
wants key (Only only) = only == key

-- the key is the only one that is taken
abbrev pub wants_only : ℕ → Wanted → Bool
wants_only key Any = false
wants_only key (Only only) = only == key

-- every key is taken
abbrev pub wants_any : Wanted → Bool
wants_any Any = true
wants_any (Only only) = false

-- the RuleIDs of the rules that take the key, and of those that take every key
abbrev pub ids_wanting : ℕ → List Candidate → List ℕ
ids_wanting key these = map (λ c. c.id) (filter (λ c. wants key c.wanted) these)

abbrev pub ids_wanting_any : List Candidate → List ℕ
ids_wanting_any these = map (λ c. c.id) (filter (λ c. wants_any c.wanted) these)
