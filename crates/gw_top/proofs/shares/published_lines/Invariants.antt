use Rattle.std.proofs.Common.{◌≡◌, ◌++◌, drop}
use Rattle.gw_top.specs.Shares.{published_lines}
use Rattle.gw_top.proofs.shares.published_lines.Given as goal

-- the outcomes so far, and those of the publications that are left, are those of all
abbrev pub invariant-loop-event : goal.invariant-loop-event
invariant-loop-event l =
    l.queue ++ published_lines l.world.chain (drop l.event-index l.events)
    ≡ published_lines l.initial.world.chain l.events
