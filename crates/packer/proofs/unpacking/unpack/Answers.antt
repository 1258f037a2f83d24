use Rattle.std.proofs.lemmas.Result.{IfErr-weaker}
use Rattle.packer.proofs.reading.SaysLemmas.{says-result, none-read, bound-result}
use Rattle.packer.proofs.unpacking.unpack.Goals as goal

pub returns-clause-says : goal.returns-clause-says
returns-clause-says c =
    says-result c.args.edition.now c.args.iids c.args.direction c.args.bits.now c.read.result
    c.read.ensures.sound c.read.ensures.options c.read.ensures.ok

-- where no packet is given, memory is wanting, or the bits aren't read as any packet
pub returns-clause-none : goal.returns-clause-none
returns-clause-none c =
    IfErr-weaker c.read.result _ _
    (λ fault is. none-read c.args.edition.now c.args.iids c.args.direction c.args.bits.now fault
    c.read.ensures.sound is) c.read.ensures.err

pub returns-clause-bound : goal.returns-clause-bound
returns-clause-bound c =
    bound-result c.args.edition.now c.args.iids c.args.direction c.args.bits.now c.read.result
    c.read.ensures.sound c.read.ensures.options c.read.ensures.ok
