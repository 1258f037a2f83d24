-- Why rules don't make the next edition.
use Rattle.std.specs.Prelude.{ℕ, ◌≡◌, List, Result, Err}
use Rattle.rule_model.specs.declared.finding.Finding.{Finding}
use Rattle.std.specs.List.Sorted.{IsPermutation}
use Rattle.editions.specs.declared.listed.Listed.{Listed}
use Rattle.editions.specs.declared.edition.FollowFault.{FollowFault}
use Rattle.editions.specs.declared.edition.FollowFault.TheVariants.{Found, Memory}
use Rattle.editions.specs.Data.{EditionData}
use Rattle.editions.specs.Follows.{Follows, IsFirstFinding}

-- the edition has this number and these rules, in any order
abbrev pub IsMadeOf : ℕ → List Listed → EditionData → Type 0
IsMadeOf number rules edition = (edition.number ≡ number) × IsPermutation rules edition.rules

-- a finding is the first one that holds, and want of memory may come at any rules
abbrev pub IsFaultOf : EditionData → ℕ → List Listed → FollowFault → Type 0
IsFaultOf old number rules (Found finding) = IsFirstFinding old number rules finding
IsFaultOf old number rules Memory = Unit {0}

-- where there is a finding, no edition that is made of the rules follows
abbrev pub IsRightRefusal : EditionData → ℕ → List Listed → FollowFault → Type 0
IsRightRefusal old number rules (Found finding) = (new : EditionData) → IsMadeOf number rules new
    → ¬ Follows old new
IsRightRefusal old number rules Memory = Unit {0}

-- a finding is the answer's, and want of memory may come at any answer
abbrev pub IsFindingOf : Result EditionData Finding → FollowFault → Type 0
IsFindingOf answer (Found finding) = answer ≡ Err finding
IsFindingOf answer Memory = Unit {0}
