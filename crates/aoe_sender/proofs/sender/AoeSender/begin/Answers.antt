use Rattle.std.proofs.Common.{sym, subst}
use Rattle.aoe_sender.specs.Steps.{IsAoeSender}
use Rattle.aoe_sender.proofs.KeepsLemmas.{begun-keeps}
use Rattle.aoe_sender.proofs.MessageLemmas.{begun-is}
use Rattle.aoe_sender.proofs.sender.AoeSender.begin.Goals as goal

pub returns-clause-begun : goal.returns-clause-begun
returns-clause-begun c =
    begun-is c.args.params c.args.mtu c.args.last c.args.bits c.all-numbers.result
    c.tiles_in_regulars.result c.len.result c.requires.row c.requires.mtu c.requires.least
    c.len.ensures c.tiles_in_regulars.ensures.value c.all-numbers.ensures

pub returns-clause-sound : goal.returns-clause-sound
returns-clause-sound c =
    subst IsAoeSender (sym (returns-clause-begun c))
    (begun-keeps c.args.params c.args.mtu c.args.last c.args.bits c.requires.row c.requires.mtu
    c.requires.least c.requires.most)

pub invariant_of-result : goal.invariant_of-result
invariant_of-result c = returns-clause-sound c
