use Rattle.std.proofs.Common.{rules, ◌≡◌, ◌-◌, ◌<◌, ◌≤◌, true, length, take, drop, ap, subst, ◌∙◌}
use Rattle.rule_json.proofs.DigitsLemmas.{fitting-wide, fitting-cut, fitting-none}
use Rattle.rule_json.proofs.digits.fitting.Goals as goal

pub returns-then-len-width : goal.returns-then-len-width
returns-then-len-width c =
    let small : length c.args.bits.now ≤ c.args.width = search rules in
    search (rules, fitting-wide c.args.width c.args.bits.now small)

pub returns-then-not-is_zero : goal.returns-then-not-is_zero
returns-then-not-is_zero c =
    let wide : c.args.width < length c.args.bits.now =
    subst (λ n. c.args.width < n) c.len.ensures c.if-len-width.false in
    let cut : c.front.result ≡ take (length c.args.bits.now - c.args.width) c.args.bits.now =
    c.front.ensures ∙ ap (λ n. take (n - c.args.width) c.args.bits.now) c.len-2.ensures in
    fitting-none c.args.width c.args.bits.now wide c.front.result cut
    (λ none. let yes : c.is_zero.result ≡ true = c.is_zero.ensures.1 none in let other =
    c.if-not-is_zero.true in absurd cc)

pub returns : goal.returns
returns c =
    let wide : c.args.width < length c.args.bits.now =
    subst (λ n. c.args.width < n) c.len.ensures c.if-len-width.false in
    let cut : c.front.result ≡ take (length c.args.bits.now - c.args.width) c.args.bits.now =
    c.front.ensures ∙ ap (λ n. take (n - c.args.width) c.args.bits.now) c.len-2.ensures in
    let rest : c.in_ok-to_bits.field-0 ≡ drop (length c.args.bits.now - c.args.width)
    c.args.bits.now = c.in_ok-to_bits.ensures
    ∙ (c.after.ensures ∙ ap (λ n. drop (n - c.args.width) c.args.bits.now) c.len-2.ensures) in
    rw rest (fitting-cut c.args.width c.args.bits.now wide c.front.result cut
    (c.is_zero.ensures.0 c.if-not-is_zero.false))
