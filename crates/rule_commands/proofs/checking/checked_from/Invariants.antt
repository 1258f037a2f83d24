use Rattle.std.proofs.Common.{◌≡◌, drop, string_bytes}
use Rattle.editions.specs.Data.{first_edition}
use Rattle.rule_commands.specs.OutputData.{after_text}
use Rattle.rule_commands.specs.Checking.{checked_from}
use Rattle.rule_commands.proofs.checking.checked_from.Given as goal

-- the text so far, and what the editions that are left print, is the output
abbrev pub invariant-loop-raw : goal.invariant-loop-raw
invariant-loop-raw l =
    after_text (string_bytes l.text)
    (checked_from l.last (drop l.raw-index l.editions)) ≡ checked_from first_edition l.editions
