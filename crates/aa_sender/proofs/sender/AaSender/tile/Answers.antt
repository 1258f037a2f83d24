use Rattle.std.proofs.Common.{◌∙◌, ap}
use Rattle.std.proofs.lemmas.Result.{IfOk-weaker}
use Rattle.aa_sender.specs.State.{AaSenderData, tile_at}
use Rattle.aa_sender.proofs.SenderLemmas.{is_tile}
use Rattle.aa_sender.proofs.sender.AaSender.tile.Goals as goal

pub start_of-requires : goal.start_of-requires
start_of-requires c =
    (is_tile _ _ c.args.tile c.self.invariant.0 c.self.invariant.1
    (rw c.self.view_is c.requires.inside)).inside

pub end_of-requires : goal.end_of-requires
end_of-requires c =
    (is_tile _ _ c.args.tile c.self.invariant.0 c.self.invariant.1
    (rw c.self.view_is c.requires.inside)).inside

pub slice-requires-clause-order : goal.slice-requires-clause-order
slice-requires-clause-order c =
    rw (c.start_of.ensures, c.end_of.ensures)
    (is_tile _ _ c.args.tile c.self.invariant.0 c.self.invariant.1
    (rw c.self.view_is c.requires.inside)).order

pub slice-requires-clause-within : goal.slice-requires-clause-within
slice-requires-clause-within c =
    rw c.end_of.ensures
    (is_tile _ _ c.args.tile c.self.invariant.0 c.self.invariant.1
    (rw c.self.view_is c.requires.inside)).within

pub returns : goal.returns
returns c =
    IfOk-weaker c.slice.result _ _
    (λ bits e. e ∙ rw (c.start_of.ensures, c.end_of.ensures)
    (is_tile _ _ c.args.tile c.self.invariant.0 c.self.invariant.1
    (rw c.self.view_is c.requires.inside)).piece
    ∙ ap (λ (s : AaSenderData). tile_at s c.args.tile) c.self.view_is)
    c.slice.ensures
