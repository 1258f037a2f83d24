use Rattle.std.proofs.Common.{◌≡◌, ◌≤◌, ◌*◌, arith, ap, ◌∙◌, take, drop, length}
use Rattle.std.proofs.lemmas.Result.{IfOk-weaker}
use Rattle.std.proofs.lemmas.List.{length-take}
use Rattle.aoe_sender.proofs.CutLemmas.{part-is}
use Rattle.aoe_sender.proofs.sender.tiles_from.Goals as goal

pub returns-clause-part : goal.returns-clause-part
returns-clause-part c =
    let e : c.front.result ≡ take (80 * c.args.count) (drop (80 * c.args.first) c.args.bits.now) =
    c.front.ensures
    ∙ rw (
      c.min-2.ensures,
      c.len-2.ensures,
      c.after-rest.ensures,
      c.min.ensures,
      c.len.ensures,
      c.as_part.ensures,
    ) (part-is c.args.bits.now (80 * c.args.first) (80 * c.args.count))
    in
    IfOk-weaker c.to_bits.result _ _ (λ list is. is ∙ e) c.to_bits.ensures

pub returns-clause-short : goal.returns-clause-short
returns-clause-short c =
    let few : length
    (take (80 * c.args.count) (drop (80 * c.args.first) c.args.bits.now)) ≤ 80 * c.args.count =
    omega (arith, length-take (80 * c.args.count) (drop (80 * c.args.first) c.args.bits.now)) in
    IfOk-weaker c.to_bits.result _ _ (λ part is. omega (arith, ap length is))
    (returns-clause-part c)
