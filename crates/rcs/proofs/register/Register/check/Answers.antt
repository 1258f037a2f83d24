use Rattle.std.proofs.Common.{◌≡◌, ◌+◌, ◌-◌, ◌*◌, ◌^◌, ◌<◌, arith, ap, subst, ◌∙◌}
use Rattle.std.proofs.lemmas.Nat.{shl_below}
use Rattle.rcs.specs.Words.{byte_step, check_of_sum}
use Rattle.rcs.proofs.SumLemmas.{check-whole, check-begun, shl-small}
use Rattle.rcs.proofs.register.Register.check.Goals as goal

pub returns-then-self-eq0 : goal.returns-then-self-eq0
returns-then-self-eq0 c =
    check-whole c.self.inside.word c.self.inside.count c.self.inside.part c.if-self-eq0.true
    ∙ ap check_of_sum c.self.view_is

pub returns : goal.returns
returns c =
    let small =
    shl-small c.self.inside.part (8 - c.self.inside.count) c.self.inside.count
    c.self.invariant.1 (omega (arith, c.self.invariant.0)) in
    ap (λ n. 4294967295 - n)
    (c.next_word.ensures ∙ ap (λ byte. byte_step c.self.inside.word byte) small)
    ∙ check-begun c.self.inside.word c.self.inside.count c.self.inside.part
    (omega (arith, c.if-self-eq0.false)) c.self.invariant.0 c.self.invariant.1
    ∙ ap check_of_sum c.self.view_is

pub overflow_cast-self-inside : goal.overflow_cast-self-inside
overflow_cast-self-inside c =
    let small =
    shl-small c.self.inside.part (8 - c.self.inside.count) c.self.inside.count
    c.self.invariant.1 (omega (arith, c.self.invariant.0)) in
    let sum : c.self.inside.count + (8 - c.self.inside.count) ≡ 8 =
    omega (arith, c.self.invariant.0) in
    let below : c.self.inside.part * 2 ^ (8 - c.self.inside.count) < 2 ^ 8 =
    subst (λ n. c.self.inside.part * 2 ^ (8 - c.self.inside.count) < 2 ^ n) sum
    (shl_below c.self.inside.part c.self.inside.count (8 - c.self.inside.count)
    c.self.invariant.1)
    in
    omega (arith, below, small)
