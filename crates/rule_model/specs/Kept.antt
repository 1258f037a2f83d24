-- What an admitted rule keeps beside the rule.
use Rattle.std.specs.Prelude.{◌≡◌, Bool, List}
use Rattle.schc_ids.specs.declared.ends.Direction.TheVariants.{Up, Down}
use Rattle.schc_ids.specs.declared.names.FieldAt.{FieldAt}
use Rattle.schc_ids.specs.declared.names.Stack.{Stack}
use Rattle.rule_model.specs.Data.{RuleData}
use Rattle.rule_model.specs.Cover.{dropped_fields, serves, stack_of}
use Rattle.rule_model.specs.Findings.{IsAdmitted}

-- the rule is admitted, and the rest is what follows from it
pub record KeepsWhatFollows (rule : RuleData) (stack : Stack) (serves_up serves_down : Bool)
    (up down : List FieldAt) : Type 0 where
  pub admitted : IsAdmitted rule
  pub its_stack : stack ≡ stack_of rule
  pub its_up : serves_up ≡ serves rule Up
  pub its_down : serves_down ≡ serves rule Down
  pub dropped_up : up ≡ dropped_fields rule Up
  pub dropped_down : down ≡ dropped_fields rule Down
