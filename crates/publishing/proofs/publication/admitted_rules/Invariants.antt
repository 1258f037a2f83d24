use Rattle.std.proofs.Common.{◌≡◌, take, drop}
use Rattle.publishing.specs.Published.{first_refusal, listed_rules}
use Rattle.publishing.proofs.publication.admitted_rules.Given as goal

-- the rules passed are listed, and none of them has a finding
abbrev pub invariant-loop-raw : goal.invariant-loop-raw
invariant-loop-raw l =
    (l.rules.items ≡ listed_rules (take l.raw-index l.raws))
    × (first_refusal (drop l.raw-index l.raws) ≡ first_refusal l.raws)
