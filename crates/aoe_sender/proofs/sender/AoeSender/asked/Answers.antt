use Rattle.std.proofs.Common.{◌≡◌, ◌+◌, ◌/◌, ◌<◌, arith, ap, sym, subst, ◌∙◌}
use Rattle.schc_bits.specs.Bits.{number_bits}
use Rattle.aoe_sender.specs.State.{Sending}
use Rattle.aoe_sender.specs.Tiles.{in_regulars, regular_count, last_window}
use Rattle.aoe_sender.specs.Steps.{IsStateOf, missing_of}
use Rattle.aoe_sender.proofs.CutLemmas.{regular_count-is}
use Rattle.aoe_sender.proofs.KeepsLemmas.{has-tiles, missing-state}
use Rattle.aoe_sender.proofs.MessageLemmas.{missing-is, asked-at-last, asked-below}
use Rattle.aoe_sender.proofs.sender.AoeSender.asked.Goals as goal
use Rattle.aoe_sender.proofs.sender.AoeSender.asked.Goals.{After-missing-numbers}

-- the numbers are those of the tiles that the window lacks
lacks-numbers : (c : After-missing-numbers)
    → c.missing-numbers.result ≡ missing_of c.args.self.now c.args.w (number_bits 63 c.args.bitmap)
lacks-numbers c =
    let count =
    c.tiles_in_regulars.ensures.value
    ∙ ap (λ n. in_regulars c.self.inside.last ((n + 79) / 80)) c.len.ensures
    ∙ sym (regular_count-is _ (has-tiles _ c.self.invariant))
    ∙ ap regular_count c.self.view_is
    in
    missing-is c.args.self.now c.args.w c.args.bitmap c.tiles_in_regulars.result
    c.missing-numbers.result count c.missing-numbers.ensures

-- the tiles with these numbers may be sent next
may-send : (c : After-missing-numbers)
    → IsStateOf (regular_count c.args.self.now) (Sending c.missing-numbers.result 0)
may-send c =
    subst (λ ns. IsStateOf (regular_count c.args.self.now) (Sending ns 0)) (sym (lacks-numbers c))
    (missing-state c.args.self.now c.args.w (number_bits 63 c.args.bitmap))

pub asked_last-requires : goal.asked_last-requires
asked_last-requires c = may-send (goal.at.asked_last-requires c).After-missing-numbers

pub send_again-requires : goal.send_again-requires
send_again-requires c = may-send (goal.at.send_again-requires c).After-missing-numbers

pub returns-then-w-last-2-clause-step : goal.returns-then-w-last-2-clause-step
returns-then-w-last-2-clause-step c =
    asked-at-last c.args.self.now c.args.w (number_bits 63 c.args.bitmap) c.missing-numbers.result
    (c.if-w-last-2.true ∙ c.last_window-last.ensures.value)
    (lacks-numbers (goal.at.returns-then-w-last-2-clause-step c).After-missing-numbers)
    ∙ c.asked_last.ensures.step

pub returns-else-w-last-2-clause-step : goal.returns-else-w-last-2-clause-step
returns-else-w-last-2-clause-step c =
    let low : c.args.w < last_window c.args.self.now =
    omega (arith, c.if-w-last.false, c.if-w-last-2.false, c.last_window-last.ensures.value) in
    asked-below c.args.self.now c.args.w (number_bits 63 c.args.bitmap) c.missing-numbers.result low
    (lacks-numbers (goal.at.returns-else-w-last-2-clause-step c).After-missing-numbers)
    ∙ c.send_again.ensures.step
