use Rattle.std.specs.List.{AllByRecursion}
use Rattle.rule_json.specs.Written.{CanBeSpelt}
use Rattle.rule_json.proofs.SpeltLemmas.{context-spelt, given}
use Rattle.rule_json.proofs.reading.read_context.Goals as goal

pub returns-clause-spelt : goal.returns-clause-spelt
returns-clause-spelt c =
    given (λ context. AllByRecursion CanBeSpelt context.editions) _ (context-spelt _)
    c.from_json.result c.from_json.ensures
