use Rattle.std.proofs.Common.{◌≡◌, ◌++◌, ◌-◌, length}
use Rattle.load_maker.specs.Load.{draws}
use Rattle.load_maker.proofs.draws.draws.Given as goal

-- the draws that are left, behind those that are taken, are all
abbrev pub invariant-loop : goal.invariant-loop
invariant-loop l =
    (l.list.items ++ draws (l.fn.count - l.counter) l.state ≡ draws l.fn.count l.fn.start)
    × (length l.list.items ≡ l.counter)
