use Rattle.std.proofs.Common.{◌≡◌, map}
use Rattle.load_maker.specs.Load.{below, load_device}
use Rattle.load_maker.proofs.making.declare_devices.Given as goal

abbrev pub invariant-loop-number : goal.invariant-loop-number
invariant-loop-number l =
    (l.script.devices ≡ map load_device (below l.number))
    × (l.script.events ≡ l.initial.script.events)
