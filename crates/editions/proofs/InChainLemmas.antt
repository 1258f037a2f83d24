-- What two editions of one chain have in common.
use Rattle.std.proofs.Common.{◌≡◌, ℕ, ◌≤◌, List, Option, Some, None, IfSome, slice_get, refl, subst}
use Rattle.editions.specs.declared.listed.Listed.{Listed}
use Rattle.editions.specs.Data.{EditionData, lookup, IsAscending}
use Rattle.editions.specs.Losses.{HasSameRule, StaysRetired}
use Rattle.editions.specs.Follows.{KeepsMeanings}
use Rattle.editions.specs.Chains.{IsChain}
use Rattle.editions.specs.Followed.{diverged}
use Rattle.editions.proofs.ChainLemmas.{one-meaning}
use Rattle.editions.proofs.LossLemmas.{diverged-none}

-- what one edition lists, the other lists with the same rule
kept-cases : (earlier later : List Listed) (id : ℕ) (these : Listed) (o : Option Listed)
    → lookup earlier id ≡ Some these → lookup later id ≡ o → HasSameRule these o → (those : Listed)
    × (lookup later id ≡ Some those) × (those.rule ≡ these.rule)
kept-cases earlier later id these None e f same = absurd same
kept-cases earlier later id these (Some those) e f same = (those, f, same)

-- where meanings are kept, the later rules list each RuleID of the earlier with the same rule
pub kept : (earlier later : List Listed) (id : ℕ) (these : Listed) → KeepsMeanings earlier later
    → lookup earlier id ≡ Some these → (those : Listed) × (lookup later id ≡ Some those)
    × (those.rule ≡ these.rule)
kept earlier later id these keeps e =
    kept-cases earlier later id these (lookup later id) e refl
    (subst (λ o. IfSome o (λ was. HasSameRule was (lookup later id))) e (keeps id))

both : (was now : Option Listed) → IfSome was (λ w. HasSameRule w now)
    → IfSome was (λ w. StaysRetired w now)
    → IfSome was (λ w. HasSameRule w now × StaysRetired w now)
both None now h k = tt
both (Some w) now h k = (h, k)

-- no later edition of a chain diverges from an earlier one
pub diverged-later : (chain : List EditionData) → IsChain chain
    → (i j : ℕ) (earlier later : EditionData) → i ≤ j → slice_get chain i ≡ Some earlier
    → slice_get chain j ≡ Some later → IsAscending earlier.rules
    → diverged earlier.rules later.rules ≡ None
diverged-later chain is i j earlier later order at there ascending =
    let keeps = one-meaning chain is i j earlier later order at there in
    diverged-none earlier.rules later.rules ascending
    (λ id. both (lookup earlier.rules id) (lookup later.rules id) (keeps.0 id) (keeps.1 id))
