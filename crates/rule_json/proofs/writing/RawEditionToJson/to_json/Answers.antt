use Rattle.std.proofs.Common.{rules, ◌≡◌, ◌<◌, ◌^◌, Some, subst}
use Rattle.rule_json.specs.Values.{list_of}
use Rattle.rule_json.specs.Layout.{rule_in}
use Rattle.rule_json.specs.Written.{list_data, rule_data}
use Rattle.rule_json.proofs.WrittenLemmas.{edition-again}
use Rattle.rule_json.proofs.writing.RawEditionToJson.to_json.Goals as goal

pub returns-in-Ok-json-4-clause-back : goal.returns-in-Ok-json-4-clause-back
returns-in-Ok-json-4-clause-back c =
    let small : c.args.self.now.number < 2 ^ 32 = search rules in
    let all : c.as_slice.result.now ≡ c.args.self.now.rules = search rules in
    edition-again c.args.self.now small
    (subst (λ l. list_of rule_in (list_data rule_data l) ≡ Some l) all
    c.in_ok-rules.ensures.back)
