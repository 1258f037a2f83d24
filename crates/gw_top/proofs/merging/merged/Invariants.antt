use Rattle.std.proofs.Common.{◌≡◌, ◌++◌, List, [], drop, nat_eq}
use Rattle.std.specs.List.{AllByRecursion}
use Rattle.indexmap.specs.IndexMap.{get}
use Rattle.script_lang.specs.ScriptData.{ScriptEventData}
use Rattle.transcripts.specs.Lines.{IsSaid}
use Rattle.gw_top.proofs.MergeLemmas.{IsMergedTo}
use Rattle.gw_top.proofs.merging.merged.Given as goal

-- the outcomes so far, and those of the events that are left, are those of all events
abbrev pub invariant-loop-event : goal.invariant-loop-event
invariant-loop-event l =
    AllByRecursion IsSaid l.lines.items
    × IsMergedTo l.declared l.events (drop l.event-index l.events) l.lines.items l.published
    (get nat_eq l.devices)
