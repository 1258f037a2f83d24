-- the sessions take the frame, and what it makes whole is handed up
use Rattle.std.proofs.Common.{sym, ap, ◌∙◌}
use Rattle.end_core.specs.End.{joined}
use Rattle.end_core.proofs.WithinLemmas.{part-within, part-note}
use Rattle.end_core.proofs.PartLemmas.{part-taken}
use Rattle.end_core.proofs.end.End.take_part.Goals as goal

pub returns-clause-done : goal.returns-clause-done
returns-clause-done c =
    rw (sym c.self.view_is)
    (part-taken _ c.args.frame.now c.number.result c.take-note.new.self c.take-note.result
    c.in_ok-joined.joined
    (ap (λ this. joined this c.args.frame.now) c.self.view_is ∙ sym c.in_ok-joined.ensures.done)
    (rw (sym c.frame.view_is, sym c.as_slice-bytes.ensures) c.take-note.ensures.step)
    (c.number.ensures.number ∙ ap (λ edition. edition.number) c.deref.ensures) c.taken_part.ensures)

pub returns-clause-outcome : goal.returns-clause-outcome
returns-clause-outcome c =
    rw c.taken_part.ensures
    (part-note c.number.result c.take-note.result c.in_ok-joined.joined c.take-note.ensures.note
    c.in_ok-joined.ensures.note)

pub returns-clause-bound : goal.returns-clause-bound
returns-clause-bound c =
    rw c.taken_part.ensures
    (part-within c.args.frame.now c.number.result c.take-note.result c.in_ok-joined.joined
    c.in_ok-joined.ensures.bound)
