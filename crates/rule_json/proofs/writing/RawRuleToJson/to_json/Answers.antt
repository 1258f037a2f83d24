use Rattle.std.proofs.Common.{rules, ◌≡◌, ◌<◌, ◌^◌, Some, subst}
use Rattle.rule_json.specs.Values.{list_of}
use Rattle.rule_json.specs.Layout.{entry_in}
use Rattle.rule_json.specs.Written.{list_data, entry_data}
use Rattle.rule_json.proofs.WrittenLemmas.{rule-again}
use Rattle.rule_json.proofs.writing.RawRuleToJson.to_json.Goals as goal

pub returns-in-Ok-json-6-clause-back : goal.returns-in-Ok-json-6-clause-back
returns-in-Ok-json-6-clause-back c =
    let small : c.args.self.now.rule.id < 2 ^ 16 = search rules in
    let all : c.as_slice.result.now ≡ c.args.self.now.rule.entries = search rules in
    rule-again c.args.self.now small
    (subst (λ l. list_of entry_in (list_data entry_data l) ≡ Some l) all
    c.in_ok-entries.ensures.back)
