use Rattle.std.proofs.Common.{◌≡◌, ◌++◌, drop}
use Rattle.gw_top.specs.Dealing.{seen, lines_of_turns}
use Rattle.gw_top.proofs.shares.own_lines.Given as goal

-- the outcomes so far, and those of the turns that are left, are those of all turns
abbrev pub invariant-loop-turn : goal.invariant-loop-turn
invariant-loop-turn l =
    l.queue ++ lines_of_turns l.world (seen l.publications) l.done (drop l.turn-index l.turns)
    ≡ l.initial.queue ++ lines_of_turns l.initial.world (seen l.publications) 0 l.turns
