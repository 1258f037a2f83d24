use Rattle.std.proofs.Common.{ap, ◌∙◌}
use Rattle.schc_bits.specs.Bits.{octets}
use Rattle.rcs.specs.Words.{added}
use Rattle.rcs.proofs.register.Register.put_all.Goals as goal

pub returns : goal.returns
returns c = c.after_bytes-word.ensures.added
    ∙ ap (λ sum. added sum (octets c.args.bytes.now)) c.self.view_is
