use Rattle.std.proofs.Common.{rules}
use Rattle.outside.proofs.FrontLemmas.{Consumes-next}
use Rattle.outside.proofs.loops.read_all.Goals as goal

-- what was held, and the piece for which there was no memory
pub returns-then-is_err-clause-reads : goal.returns-then-is_err-clause-reads
returns-then-is_err-clause-reads g c =
    Consumes-next _ (g.S.Source.state c.loop-room.source).left _ _ c.in-Got.n
    c.loop-room.bytes.items c.read.new.room
    c.loop-room.invariant.2 c.in-Got.ensures.bytes.2 (search rules)
