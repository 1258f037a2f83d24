use Rattle.std.proofs.Common.{arith, ap, sym, ◌∙◌, length}
use Rattle.reassembly.proofs.KeptLemmas.{length-kept}
use Rattle.reassembly.proofs.buffer.Reassembly.len.Goals as goal

pub returns-clause-count : goal.returns-clause-count
returns-clause-count c =
    sym (ap length (sym c.self.view_is)
    ∙ length-kept c.self.inside.count c.self.inside.buffer.items
    (omega (arith, c.self.invariant.0, c.self.invariant.1)))
