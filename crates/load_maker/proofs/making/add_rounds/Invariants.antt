use Rattle.std.proofs.Common.{◌≡◌, ◌*◌, ◌≤◌, flat_map, length}
use Rattle.load_maker.specs.Load.{below, round_of}
use Rattle.load_maker.proofs.making.add_rounds.Given as goal

abbrev pub invariant-loop-round : goal.invariant-loop-round
invariant-loop-round l =
    (l.script.events ≡ flat_map (round_of l.fn.draws l.fn.devices) (below l.round))
    × (l.script.devices ≡ l.initial.script.devices)
    × (length l.script.events ≤ 15360 * l.round)
