use Rattle.std.proofs.Common.{rules, ◌≡◌, ◌<◌, length, get_or, false, ◌∙◌, ap}
use mir.Val.{bool_byte}
use Rattle.rule_admission.proofs.TargetLemmas.{small_value-more}
use Rattle.rule_admission.proofs.targets.small_value.Goals as goal

pub loop-i-preserved : goal.loop-i-preserved
loop-i-preserved c =
    let within : c.loop-i.i < length c.args.target.now = search rules in
    let digit : c.from.result ≡ bool_byte (get_or c.args.target.now c.loop-i.i false) =
    c.from.ensures ∙ ap bool_byte (c.bit.ensures false) in
    rw c.min-value.ensures
    (small_value-more c.args.target.now c.loop-i.i c.loop-i.value c.from.result within
    c.loop-i.invariant digit)
