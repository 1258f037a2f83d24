use Rattle.std.proofs.Common.{◌≡◌, ◌+◌, ◌++◌, drop, string_bytes}
use Rattle.rule_commands.specs.Packets.{outcome_of, packet_lines}
use Rattle.rule_commands.proofs.working.lines.Given as goal

-- the text so far, and the lines of the packets that are left, are the lines of all packets
abbrev pub invariant-loop-index : goal.invariant-loop-index
invariant-loop-index l =
    string_bytes l.text ++ packet_lines (outcome_of l.task l.work l.edition) (l.index + 1)
    (drop l.index l.work.packets)
    ≡ packet_lines (outcome_of l.task l.work l.edition) 1 l.work.packets
