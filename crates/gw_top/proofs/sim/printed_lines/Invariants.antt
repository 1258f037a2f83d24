use Rattle.std.proofs.Common.{◌≡◌, ◌+◌, ◌++◌, drop, string_bytes}
use Rattle.gw_top.specs.Run.{lines_from}
use Rattle.gw_top.specs.Shares.{AreLinesOf}
use Rattle.gw_top.proofs.sim.printed_lines.Given as goal

-- the text so far, and the lines of the events that are left, are the lines of all events
abbrev pub invariant-loop-index : goal.invariant-loop-index
invariant-loop-index l =
    let events = drop l.index l.events in
    (string_bytes l.text ++ lines_from (l.index + 1) events l.left ≡ lines_from 1 l.events l.lines)
    × AreLinesOf events l.left
