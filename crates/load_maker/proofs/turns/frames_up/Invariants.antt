use Rattle.std.proofs.Common.{◌≡◌, ◌+◌, ◌-◌, ◌*◌, ◌++◌, length}
use Rattle.load_maker.specs.Load.{frames_up}
use Rattle.load_maker.proofs.turns.frames_up.Given as goal

-- the frames that are left, behind what has happened, make all that happens
abbrev pub invariant-loop-sent : goal.invariant-loop-sent
invariant-loop-sent l =
    (l.script.events ++ frames_up l.fn.device (l.fn.number + l.sent) (l.fn.count - l.sent)
    ≡ l.initial.script.events ++ frames_up l.fn.device l.fn.number l.fn.count)
    × (l.script.devices ≡ l.initial.script.devices)
    × (length l.script.events ≡ length l.initial.script.events + 2 * l.sent)
