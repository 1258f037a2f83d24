use Rattle.std.proofs.Common.{◌∙◌}
use Rattle.std.proofs.lemmas.Bool.{false≢true}
use Rattle.rule_json.proofs.TextsLemmas.{json_of-utf8, json_of-none}
use Rattle.rule_json.proofs.reading.parse.Goals as goal

pub returns-in-Ok-clause-found : goal.returns-in-Ok-clause-found
returns-in-Ok-clause-found c = json_of-utf8 c.args.text.now c.in-Ok.ensures.ok.0
    ∙ c.in-Ok.ensures.ok.1

pub returns-else-is_memory-clause-err : goal.returns-else-is_memory-clause-err
returns-else-is_memory-clause-err c =
    json_of-none c.args.text.now
    (λ u. c.in-Err.ensures.err (λ m. false≢true (c.if-is_memory.ensures.1 m)) u)
