use Rattle.std.proofs.Common.{ap, ◌∙◌}
use Rattle.rcs.specs.Words.{added}
use Rattle.rcs.proofs.SumLemmas.{rcs-from}
use Rattle.rcs.proofs.register.rcs.Goals as goal

pub returns : goal.returns
returns c =
    rcs-from c.check.result c.empty-register.result c.put_bytes.new.self c.put_rest.new.self
    c.args.bits.now c.put_bytes.new.reader c.empty-register.ensures
    (c.put_bytes.ensures.same
    ∙ ap (λ bits. added c.empty-register.result bits) c.new-reader.ensures) c.put_rest.ensures
    c.check.ensures
