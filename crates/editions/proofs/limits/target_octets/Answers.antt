use Rattle.std.proofs.Common.{rules, ◌≡◌, ◌+◌, ◌-◌, ◌^◌, min, take, sum_by}
use Rattle.std.proofs.lemmas.List.Elements.{All-more}
use Rattle.std.proofs.lemmas.List.Sums.{sum_by_more}
use Rattle.rule_model.specs.Findings.{IsAdmitted}
use Rattle.editions.specs.Follows.{entry_octets, target_octets}
use Rattle.editions.proofs.limits.target_octets.Goals as goal

pub loop-listed-preserved : goal.loop-listed-preserved
loop-listed-preserved c =
    let more =
    sum_by_more (λ listed. sum_by entry_octets listed.rule.entries) c.args.rules.now
    c.loop-listed.listed-index c.listed-item.result c.loop-listed-test.true in
    let octets : c.saturating_add-octets.result ≡ min
    (target_octets (take (c.loop-listed.listed-index + 1) c.args.rules.now)) (2 ^ 64 - 1) =
    search (rules, more) in (
      octets,
      All-more (λ listed. IsAdmitted listed.rule) c.args.rules.now c.loop-listed.listed-index
          c.listed-item.result c.loop-listed-test.true c.loop-listed.invariant.1 (search rules),
    )
