use Rattle.std.specs.List.{AllByRecursion}
use Rattle.rule_json.specs.Written.{CanBeSpelt}
use Rattle.rule_json.proofs.SpeltLemmas.{work-spelt, given}
use Rattle.rule_json.proofs.reading.read_work.Goals as goal

pub returns-clause-spelt : goal.returns-clause-spelt
returns-clause-spelt c =
    given (λ work. AllByRecursion CanBeSpelt work.editions) _ (work-spelt _) c.from_json.result
    c.from_json.ensures
