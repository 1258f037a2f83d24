use Rattle.std.proofs.Common.{rules, subst, take, List, ℕ}
use Rattle.std.specs.Io.KnownBytes.{Appends}
use Rattle.outside.proofs.FrontLemmas.{Appends-next}
use Rattle.outside.proofs.loops.write_all.Goals as goal

-- what the write appended follows the front that stood before
pub loop-at-preserved : goal.loop-at-preserved
loop-at-preserved g c =
    let before = (g.K.Sink.state c.loop-at.sink).written in
    let after = (g.K.Sink.state c.write.new.self).written in
    let P : List ℕ → Type 0 = λ rest. Appends before after (take c.in-Took.n rest) in
    let taken : P _ = subst P c.split_at.ensures.back c.in-Took.ensures.bytes.1 in (
      search rules,
      Appends-next _ before after c.loop-at.at c.in-Took.n c.args.text.now
          c.loop-at.invariant.1 taken,
      search rules,
    )
