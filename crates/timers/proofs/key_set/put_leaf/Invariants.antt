use Rattle.timers.proofs.KeySetLemmas.{IsPut}
use Rattle.timers.proofs.key_set.put_leaf.Given as goal

-- each node but this one is right, and of the leaves one is put
abbrev pub invariant-loop-node : goal.invariant-loop-node
invariant-loop-node l = IsPut l.fn.nodes l.nodes l.node l.leaf l.value

abbrev pub decreases-loop-node : goal.decreases-loop-node
decreases-loop-node l = l.node
