-- When an edition follows another, and what keeps it from that.
use Rattle.std.specs.Prelude.{ℕ, ◌≡◌, ◌≢◌, ◌+◌, ◌/◌, ◌≤◌, List, length, take, sum_by, count_by}
use Rattle.std.specs.Prelude.{◌==◌, All, IfSome, IsSomeAnd, slice_get}
use Rattle.rule_model.specs.declared.finding.Finding.{Finding}
use Rattle.rule_model.specs.declared.finding.FindingKind.{FindingKind}
use Rattle.rule_model.specs.declared.finding.FindingKind.TheVariants as kind
use Rattle.rule_model.specs.Findings.{number_of}
use Rattle.rule_model.specs.Data.{EntryData}
use Rattle.editions.specs.declared.listed.Listed.{Listed}
use Rattle.editions.specs.declared.losses.Loss.{Loss}
use Rattle.editions.specs.Data.{EditionData, lookup, NoIdTwice}
use Rattle.editions.specs.Losses.{HasSameRule, StaysRetired, IsLowestLoss, kind_of_loss}

-- the bytes of an entry's targets, each counted in whole bytes, rounded up
abbrev pub entry_octets : EntryData → ℕ
entry_octets entry = sum_by (λ target. (length target + 7) / 8) entry.targets

-- the bytes of all targets of all rules, live or retired
abbrev pub target_octets : List Listed → ℕ
target_octets rules = sum_by (λ listed. sum_by entry_octets listed.rule.entries) rules

-- up to 256 editions after the empty one, 200 rules, 64 entries a rule, and 262,144 bytes of
-- targets together
abbrev pub IsWithinLimits : ℕ → List Listed → Type 0
IsWithinLimits number rules =
    (number ≤ 256) × (length rules ≤ 200) × All (λ listed. length listed.rule.entries ≤ 64) rules
    × (target_octets rules ≤ 262144)

-- each RuleID of the old stands in the new, with the same rule
abbrev pub KeepsMeanings : List Listed → List Listed → Type 0
KeepsMeanings old new = (id : ℕ) → IfSome (lookup old id) (λ was. HasSameRule was (lookup new id))

-- what is retired in the old is retired in the new
abbrev pub KeepsRetired : List Listed → List Listed → Type 0
KeepsRetired old new = (id : ℕ) → IfSome (lookup old id) (λ was. StaysRetired was (lookup new id))

-- the new edition follows the old one
pub record Follows (old new : EditionData) : Type 0 where
  pub next_number : new.number ≡ old.number + 1
  pub within_limits : IsWithinLimits new.number new.rules
  pub no_id_twice : NoIdTwice new.rules
  pub keeps_meanings : KeepsMeanings old.rules new.rules
  pub keeps_retired : KeepsRetired old.rules new.rules

-- the first RuleID, in the list's order, that repeats an earlier one
pub record IsFirstRepeat (rules : List Listed) (id : ℕ) : Type 0 where
  pub place : ℕ
  pub stands : IsSomeAnd (slice_get rules place) (λ listed. listed.rule.id ≡ id)
  pub stood : 1 ≤ count_by (λ listed. listed.rule.id == id) (take place rules)
  pub first : NoIdTwice (take place rules)

-- a finding that is about no single entry
abbrev pub finding : FindingKind → ℕ → Finding
finding k id = record { number = number_of k; id = id; entry = 0 }

-- the finding that keeps the rules with this number from following the old edition: the first that
-- holds, in this order
pub data IsFirstFinding (old : EditionData) (number : ℕ) (rules : List Listed) : Finding
    → Type 0 where
  number_not_next : number ≢ old.number + 1
      → IsFirstFinding old number rules (finding kind.NumberNotNext 0)
  too_large : number ≡ old.number + 1 → ¬ IsWithinLimits number rules
      → IsFirstFinding old number rules (finding kind.TooLarge 0)
  id_twice : (id : ℕ) → number ≡ old.number + 1 → IsWithinLimits number rules
      → IsFirstRepeat rules id → IsFirstFinding old number rules (finding kind.IdTwice id)
  lost : (id : ℕ) (loss : Loss) → number ≡ old.number + 1 → IsWithinLimits number rules
      → NoIdTwice rules → IsLowestLoss old.rules rules id loss
      → IsFirstFinding old number rules (finding (kind_of_loss loss) id)
