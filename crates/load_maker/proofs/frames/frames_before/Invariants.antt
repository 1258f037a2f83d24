use Rattle.std.proofs.Common.{◌≡◌, ◌*◌, ◌≤◌}
use Rattle.load_maker.specs.Load.{frames_before}
use Rattle.load_maker.proofs.frames.frames_before.Given as goal

abbrev pub invariant-loop-earlier : goal.invariant-loop-earlier
invariant-loop-earlier l =
    (l.frames ≡ frames_before l.fn.draws l.fn.devices l.fn.device l.earlier)
    × (l.frames.up ≤ 5 * l.earlier)
    × (l.frames.down ≤ l.earlier)
