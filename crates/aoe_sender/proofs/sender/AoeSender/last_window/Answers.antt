use Rattle.std.proofs.Common.{ap, sym, ◌∙◌}
use Rattle.aoe_sender.specs.Tiles.{last_window}
use Rattle.aoe_sender.proofs.CutLemmas.{last_window-is}
use Rattle.aoe_sender.proofs.KeepsLemmas.{has-tiles}
use Rattle.aoe_sender.proofs.sender.AoeSender.last_window.Goals as goal

pub returns-clause-value : goal.returns-clause-value
returns-clause-value c =
    rw (c.tiles.ensures, c.len.ensures)
    (sym (last_window-is _ (has-tiles _ c.self.invariant)) ∙ ap last_window c.self.view_is)
