use Rattle.std.proofs.Common.{◌≡◌, ◌++◌, drop, map}
use Rattle.script_lang.specs.Ranges.{HandBytes, HaveSpellings}
use Rattle.script_lang.specs.Writing.{event_line, text_of_lines}
use Rattle.script_lang.specs.Reading.{AreEveryones, AllRead}
use Rattle.script_lang.proofs.writing.push_events.Given as goal

-- the lines of the events that are left, behind what is written, make the whole text
abbrev pub invariant-loop-event : goal.invariant-loop-event
invariant-loop-event l =
    let left = drop l.event-index l.events in
    (l.text.items ++ text_of_lines (map event_line left) ≡ l.initial.text.items ++ text_of_lines
    (map event_line l.events))
    × HandBytes left
    × HaveSpellings left
    × AreEveryones left
    × (AllRead left → AllRead l.events)
