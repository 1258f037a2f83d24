-- what was read says how long it is
use Rattle.std.proofs.Common.{None}
use Rattle.schc_ids.specs.declared.notes.Note.TheVariants as note
use Rattle.end_core.proofs.WithinLemmas.{read-within, up-within}
use Rattle.end_core.proofs.end.End.take_whole.Goals as goal

pub returns-in-Ok-clause-bound : goal.returns-in-Ok-clause-bound
returns-in-Ok-clause-bound c =
    up-within c.args.frame.now c.number.result c.in-Ok.unpacked None note.Small c.handed_up.result
    c.handed_up.ensures
    (read-within _ _ _ c.args.frame.now c.in_ok-bits.ensures c.in_ok-unpacked.ensures.says
    c.in-Ok.is)
