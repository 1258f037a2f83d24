use Rattle.std.proofs.Common.{◌<◌, ◌≤◌, length, subst, ◌∙◌}
use Rattle.rule_json.proofs.DigitsLemmas.{first_digits-next, first_digits-done}
use Rattle.rule_json.proofs.digits.digits.Goals as goal

pub loop-rest-preserved : goal.loop-rest-preserved
loop-rest-preserved c =
    let long : 4 ≤ length c.loop-rest.rest =
    subst (λ n. 4 ≤ n) c.len.ensures c.loop-rest-test.true in
    rw c.in_ok-push_digit.ensures
    (first_digits-next _ c.loop-rest.rest _ _ _ long c.front.ensures
    c.after-rest-in-loop-rest.ensures c.number.ensures.value ∙ c.loop-rest.invariant)

pub returns : goal.returns
returns c =
    let short : length c.loop-rest.rest < 4 =
    subst (λ n. n < 4) c.len.ensures c.loop-rest-test.false in
    first_digits-done _ c.loop-rest.rest c.args.bits.now short c.loop-rest.invariant
