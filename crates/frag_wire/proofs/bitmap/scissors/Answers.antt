use Rattle.std.proofs.Common.{◌∙◌}
use Rattle.frag_wire.proofs.BitmapLemmas.{kept_length-is}
use Rattle.frag_wire.proofs.bitmap.scissors.Goals as goal

pub returns-clause-kept : goal.returns-clause-kept
returns-clause-kept c =
    c.boundary.ensures.next
    ∙ kept_length-is c.args.header c.args.window c.args.bitmap _ c.last_zero-place.ensures.place
