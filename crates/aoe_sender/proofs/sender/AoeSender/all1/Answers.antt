use Rattle.std.proofs.Common.{◌+◌, ◌/◌, ap, sym, ◌∙◌}
use Rattle.std.proofs.lemmas.Result.{IfOk-weaker}
use Rattle.frag_wire.specs.Layouts.{written}
use Rattle.aoe_sender.specs.Tiles.{in_regulars, last_window}
use Rattle.aoe_sender.specs.Steps.{all1}
use Rattle.aoe_sender.proofs.CutLemmas.{regular_count-is}
use Rattle.aoe_sender.proofs.KeepsLemmas.{has-tiles}
use Rattle.aoe_sender.proofs.MessageLemmas.{all1-written}
use Rattle.aoe_sender.proofs.sender.AoeSender.all1.Goals as goal

pub returns-clause-exact : goal.returns-clause-exact
returns-clause-exact c =
    let window = c.last_window.ensures.value ∙ ap last_window (sym c.self.view_is) in
    let count =
    c.tiles_in_regulars-count.ensures.value
    ∙ ap (λ n. in_regulars c.self.inside.last ((n + 79) / 80)) c.len.ensures
    ∙ sym (regular_count-is _ (has-tiles _ c.self.invariant))
    in
    let e =
    all1-written _ c.last_window.result c.rcs.result c.tiles_in_regulars-count.result
    c.in_ok-payload.payload c.self.invariant window c.rcs.ensures count
    c.in_ok-payload.ensures.part
    ∙ ap (λ s. written s.params (all1 s).0 (all1 s).1) c.self.view_is
    in
    IfOk-weaker c.write.result _ _ (λ bytes is. is ∙ e) c.write.ensures.exact
