use Rattle.std.proofs.Common.{sym, refl}
use Rattle.std.proofs.Math.Seq.{take-length, drop-length}
use Rattle.script_lang.proofs.TextLemmas.{lines_of-first, lines_of-last}
use Rattle.script_lang.proofs.text.first_line.Goals as goal

pub returns-in-Some-clause-line : goal.returns-in-Some-clause-line
returns-in-Some-clause-line c =
    rw (
      lines_of-first c.args.text.now c.in-Some.end (sym c.in-Some.ensures.place),
      c.split_at.ensures.front,
      c.split_at-in-Some.ensures.back,
    ) refl

pub returns-in-None-clause-line : goal.returns-in-None-clause-line
returns-in-None-clause-line c =
    rw (
      lines_of-last c.args.text.now c.requires (sym c.in-None.ensures.place),
      c.split_at-in-None.ensures.front,
      c.split_at-in-None.ensures.back,
      take-length,
      drop-length,
    )
    refl
