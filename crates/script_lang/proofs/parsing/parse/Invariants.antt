use Rattle.std.proofs.Common.{◌≡◌, ◌+◌, ◌≤◌, length}
use Rattle.script_lang.specs.Text.{lines_of}
use Rattle.script_lang.specs.Ranges.{HandBytes}
use Rattle.script_lang.specs.Parsing.{with_lines, script_of}
use Rattle.script_lang.proofs.parsing.parse.Given as goal

-- the lines that are left, added to the script so far, make the script of the text; each line has a
-- byte at least
abbrev pub invariant-loop-rest : goal.invariant-loop-rest
invariant-loop-rest l =
    (l.number + length l.rest ≤ length l.fn.text)
    × HandBytes l.script.events
    × (with_lines (l.number + 1) (lines_of l.rest) l.script ≡ script_of l.fn.text)

abbrev pub decreases-loop-rest : goal.decreases-loop-rest
decreases-loop-rest l = length l.rest
