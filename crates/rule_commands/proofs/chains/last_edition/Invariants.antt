use Rattle.std.proofs.Common.{◌≡◌, drop}
use Rattle.editions.specs.Data.{first_edition}
use Rattle.rule_commands.specs.Packets.{last_from}
use Rattle.rule_commands.proofs.chains.last_edition.Given as goal

-- the editions that are left go on from the last one
abbrev pub invariant-loop-raw : goal.invariant-loop-raw
invariant-loop-raw l =
    last_from l.last (drop l.raw-index l.editions) ≡ last_from first_edition l.editions
