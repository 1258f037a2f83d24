use Rattle.std.proofs.Common.{rules, ◌≡◌, Some}
use Rattle.editions.specs.Suspects.{key_entry}
use Rattle.editions.proofs.KeyLemmas.{key-target-fits}
use Rattle.editions.proofs.keys.candidate_of.Goals as goal

pub wanted_of-requires : goal.wanted_of-requires
wanted_of-requires c =
    let found : key_entry c.args.stack c.args.listed.now.rule c.args.direction ≡ Some
    c.in_ok-entry.entry.now = search rules in
    key-target-fits c.args.listed.now.rule c.args.stack c.args.direction c.in_ok-entry.entry.now
    c.rule-rule.ensures.admitted found
