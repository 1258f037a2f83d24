use Rattle.std.proofs.Common.{sym, subst, drop}
use Rattle.decompress.specs.Data.{RestoredData}
use Rattle.packer.specs.Rebuilding.{AreRestored}
use Rattle.packer.proofs.rebuilt.MadeLemmas.{AreRestored-from_Stands}
use Rattle.packer.proofs.unpacking.read_by.Goals as goal

pub read_payload-requires : goal.read_payload-requires
read_payload-requires c =
    subst (λ (r : RestoredData). AreRestored c.args.rule.now c.args.direction r.fields)
    (sym c.restored.view_is)
    (AreRestored-from_Stands c.args.rule.now c.args.iids c.args.direction c.in-Ok.restored.fields
    (drop 8 c.args.bits.now) (drop c.in-Ok.restored.next c.args.bits.now) c.requires.reads
    c.in-Ok.ensures.stands)
