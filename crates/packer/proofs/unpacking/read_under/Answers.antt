use Rattle.std.proofs.Common.{arith}
use Rattle.packer.proofs.reading.UnpackedLemmas.{options-whole}
use Rattle.packer.proofs.reading.SaysLemmas.{IfOk-all}
use Rattle.packer.proofs.unpacking.read_under.Goals as goal

pub returns-then-id-from-clause-options : goal.returns-then-id-from-clause-options
returns-then-id-from-clause-options c =
    IfOk-all c.read_whole.result _
    (options-whole c.args.edition.now c.args.direction c.args.id c.reader-rule.ensures.sound
    (omega (arith, c.if-id-from.true, c.from.ensures)))
