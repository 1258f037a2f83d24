use Rattle.std.proofs.Common.{ℕ, ◌≡◌, ◌+◌, ◌-◌, ◌*◌, ◌/◌, ◌%◌, ◌^◌, ◌<◌, arith, ap, subst, ◌∙◌}
use Rattle.std.proofs.lemmas.Nat.{shr_below}
use Rattle.schc_bits.specs.Bits.{number_bits}
use Rattle.rcs.specs.Words.{added, byte_step}
use Rattle.schc_bits.proofs.NumberBits.{one-shl}
use Rattle.rcs.proofs.SumLemmas.{put-short, put-long}
use Rattle.rcs.proofs.register.Register.put.Goals as goal

pub returns-then-total-lt8 : goal.returns-then-total-lt8
returns-then-total-lt8 c =
    put-short c.self.inside.word c.self.inside.count c.self.inside.part c.args.width c.args.value
    c.joined-window.result c.requires.fits c.joined-window.ensures.sum c.if-total-lt8.true
    ∙ ap (λ sum. added sum (number_bits c.args.width c.args.value)) c.self.view_is

pub returns : goal.returns
returns c =
    let over = c.self.inside.count + c.args.width - 8 in
    let window = c.joined-window.result in
    let all : c.self.inside.count + c.args.width ≡ 8 + over = omega (arith, c.if-total-lt8.false) in
    let few : over < 8 = omega (arith, c.self.invariant.0, c.requires.width) in
    let byte : window / 2 ^ over < 2 ^ 8 =
    shr_below window 8 over (subst (λ n. window < 2 ^ n) all c.joined-window.ensures.below) in
    let one = one-shl over (omega (arith, few)) in
    ap (λ (word : ℕ).
    record { word = word; begun = number_bits over (window % (1 * 2 ^ over % 4294967296)) })
    c.next_word-self-inside.ensures
    ∙ ap (λ (n : ℕ).
    record {
      word = byte_step c.self.inside.word (window / 2 ^ over);
      begun =
          number_bits over (window % n);
    }) one
    ∙ put-long c.self.inside.word c.self.inside.count c.self.inside.part c.args.width c.args.value
    window over c.requires.fits c.joined-window.ensures.sum all few (omega (arith, byte))
    ∙ ap (λ sum. added sum (number_bits c.args.width c.args.value)) c.self.view_is

pub overflow_cast-window : goal.overflow_cast-window
overflow_cast-window c =
    let over = c.self.inside.count + c.args.width - 8 in
    let window = c.joined-window.result in
    let all : c.self.inside.count + c.args.width ≡ 8 + over = omega (arith, c.if-total-lt8.false) in
    let byte : window / 2 ^ over < 2 ^ 8 =
    shr_below window 8 over (subst (λ n. window < 2 ^ n) all c.joined-window.ensures.below) in
    omega (arith, byte)
