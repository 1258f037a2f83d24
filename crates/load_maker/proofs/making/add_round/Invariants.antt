use Rattle.std.proofs.Common.{◌≡◌, ◌+◌, ◌*◌, ◌≤◌, ◌++◌, flat_map, length}
use Rattle.load_maker.specs.Load.{below, turn_at}
use Rattle.load_maker.proofs.making.add_round.Given as goal

abbrev pub invariant-loop-device : goal.invariant-loop-device
invariant-loop-device l =
    (l.script.events ≡ l.initial.script.events ++ flat_map
    (turn_at l.fn.draws l.fn.devices l.fn.round) (below l.device))
    × (l.script.devices ≡ l.initial.script.devices)
    × (length l.script.events ≤ 15360 * l.fn.round + 15 * l.device)
