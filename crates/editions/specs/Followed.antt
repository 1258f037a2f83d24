-- The edition that comes next, as a function of the old one and of what is handed in.
use Rattle.std.specs.Prelude.{ℕ, ◌≡◌, ◌↔◌, ◌+◌, ◌==◌, Bool, ◌&&◌, not, nat_le, if◌then◌else◌, List}
use Rattle.std.specs.Prelude.{[], ◌∷◌, ◌++◌, length, Option, Some, None, is_some, Result, Ok, Err}
use Rattle.std.specs.List.{list_all}
use Rattle.std.specs.Option.{option_map}
use Rattle.std.specs.List.Sorted.{IsPermutation}
use Rattle.rule_model.specs.declared.finding.Finding.{Finding}
use Rattle.rule_model.specs.declared.finding.FindingKind.TheVariants as kind
use Rattle.editions.specs.declared.listed.Listed.{Listed}
use Rattle.editions.specs.declared.losses.Loss.{Loss}
use Rattle.editions.specs.declared.losses.Loss.TheVariants.{IdGone, MeaningChanged, Revived}
use Rattle.editions.specs.declared.losses.LostId.{LostId}
use Rattle.editions.specs.Data.{EditionData, lookup, IsAscending, NoIdTwice}
use Rattle.editions.specs.Losses.{kind_of_loss}
use Rattle.editions.specs.Follows.{target_octets, finding}
use Rattle.editions.specs.SameRules.{same_rule}

-- the number, the rules, their entries and their targets are within the limits
unfoldable pub is_within_limits : ℕ → List Listed → Bool
is_within_limits number rules =
    nat_le number 256 && nat_le (length rules) 200 && list_all
    (λ listed. nat_le (length listed.rule.entries) 64) rules
    && nat_le (target_octets rules) 262144

-- the first RuleID of the later rules that repeats one before it
abbrev pub repeat_after : List Listed → List Listed → Option ℕ
repeat_after earlier [] = None
repeat_after earlier (listed ∷ later) =
    if is_some (lookup earlier listed.rule.id) then Some listed.rule.id
    else repeat_after (earlier ++ listed ∷ []) later

-- the first RuleID, in the list's order, that repeats an earlier one
abbrev pub first_repeat : List Listed → Option ℕ
first_repeat rules = repeat_after [] rules

-- what is lost of a RuleID, from what was listed under it and what is: id-gone, meaning-changed,
-- revived
abbrev pub loss_of : Listed → Option Listed → Option Loss
loss_of was None = Some IdGone
loss_of was (Some now) =
    if not (same_rule now.rule was.rule) then Some MeaningChanged
    else if now.live && not was.live then Some Revived
    else None

-- the loss of this RuleID, or else that of a later one
abbrev pub lost_first : ℕ → Option Loss → Option LostId → Option LostId
lost_first id (Some loss) later = Some (record { id = id; loss = loss })
lost_first id None later = later

-- the first RuleID of the old rules, which stand in ascending order, of which there is a loss, with
-- its loss
abbrev pub lowest_loss : List Listed → List Listed → Option LostId
lowest_loss [] new = None
lowest_loss (was ∷ old) new =
    lost_first was.rule.id (loss_of was (lookup new was.rule.id)) (lowest_loss old new)

-- the lowest RuleID of which there is a loss
unfoldable pub diverged : List Listed → List Listed → Option ℕ
diverged these those = option_map (λ lost. lost.id) (lowest_loss these those)

-- a RuleID that repeats comes before a loss
abbrev pub repeat_or_loss : Option ℕ → Option LostId → Option Finding
repeat_or_loss (Some id) lost = Some (finding kind.IdTwice id)
repeat_or_loss None (Some lost) = Some (finding (kind_of_loss lost.loss) lost.id)
repeat_or_loss None None = None

-- the first finding that holds: number-not-next, too-large, id-twice, and then the lowest loss
unfoldable pub first_finding : EditionData → ℕ → List Listed → Option Finding
first_finding old number rules =
    if not (number == old.number + 1) then Some (finding kind.NumberNotNext 0)
    else if not (is_within_limits number rules) then Some (finding kind.TooLarge 0)
    else repeat_or_loss (first_repeat rules) (lowest_loss old.rules rules)

-- the rule at its place among rules in ascending order of RuleID
abbrev pub insert_by_id : Listed → List Listed → List Listed
insert_by_id listed [] = listed ∷ []
insert_by_id listed (first ∷ rules) =
    if nat_le listed.rule.id first.rule.id then listed ∷ first ∷ rules else first ∷ insert_by_id
    listed rules

-- the rules in ascending order of RuleID
abbrev pub by_id : List Listed → List Listed
by_id [] = []
by_id (listed ∷ rules) = insert_by_id listed (by_id rules)

-- the second list has the rules of the first, in strict ascending order of RuleID
abbrev pub IsInOrder : List Listed → List Listed → Type 0
IsInOrder rules sorted = IsPermutation rules sorted × IsAscending sorted

-- where no RuleID stands twice, that is the one list of the rules in strict ascending order
abbrev pub OneOrder : Type 0
OneOrder = (rules sorted : List Listed) → NoIdTwice rules
    → IsInOrder rules sorted ↔ (sorted ≡ by_id rules)

-- the edition, where there is no finding
abbrev pub unless_found : Option Finding → EditionData → Result EditionData Finding
unless_found None edition = Ok edition
unless_found (Some finding) edition = Err finding

-- the edition with this number and these rules, or the first finding that keeps it from following
-- the old one
unfoldable pub followed : EditionData → ℕ → List Listed → Result EditionData Finding
followed old number rules =
    unless_found (first_finding old number rules) (record { number = number; rules = by_id rules })
