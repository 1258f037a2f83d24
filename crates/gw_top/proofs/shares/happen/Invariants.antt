use Rattle.std.proofs.Common.{◌≡◌, drop}
use Rattle.gw_top.specs.Dealing.{seen, world_after}
use Rattle.gw_top.proofs.shares.happen.Given as goal

-- where the events that are left have happened, all have
abbrev pub invariant-loop-event : goal.invariant-loop-event
invariant-loop-event l =
    world_after l.world (seen (drop l.event-index l.events))
    ≡ world_after l.initial.world (seen l.events)
