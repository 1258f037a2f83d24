use Rattle.rule_json.specs.Written.{CanBeSpelt}
use Rattle.rule_json.proofs.SpeltLemmas.{edition-spelt, given}
use Rattle.rule_json.proofs.reading.read_edition.Goals as goal

pub returns-clause-spelt : goal.returns-clause-spelt
returns-clause-spelt c = given CanBeSpelt _ (edition-spelt _) c.from_json.result c.from_json.ensures
