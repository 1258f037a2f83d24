-- Chains of editions.
use Rattle.std.specs.Prelude.{ℕ, ◌≡◌, ◌≤◌, List, [], ◌∷◌, ◌++◌, Some, slice_get}
use Rattle.editions.specs.Data.{EditionData, first_edition, IsAscending}
use Rattle.editions.specs.Follows.{Follows, KeepsMeanings, KeepsRetired}

-- each edition of the list follows the one before, and the first one this edition
abbrev pub EachFollows : EditionData → List EditionData → Type 0
EachFollows before [] = Unit {0}
EachFollows before (edition ∷ later) = Follows before edition × EachFollows edition later

-- a chain begins with the empty edition 0, and each edition follows the one before
abbrev pub IsChain : List EditionData → Type 0
IsChain [] = ⊥
IsChain (edition ∷ later) = (edition ≡ first_edition) × EachFollows edition later

-- the edition is the last one of some chain
abbrev pub EndsChain : EditionData → Type 0
EndsChain edition = (earlier : List EditionData) × IsChain (earlier ++ edition ∷ [])

-- what each edition of the program keeps
pub record IsEdition (edition : EditionData) : Type 0 where
  pub ascending : IsAscending edition.rules
  pub ends_chain : EndsChain edition

-- In one chain, of any two editions the later one has each RuleID of the earlier one with the same
-- rule, and has it retired where the earlier one has.
abbrev pub OneMeaning : Type 0
OneMeaning =
    (chain : List EditionData) → IsChain chain → (i j : ℕ) (earlier later : EditionData) → i ≤ j
    → slice_get chain i ≡ Some earlier → slice_get chain j ≡ Some later
    → KeepsMeanings earlier.rules later.rules × KeepsRetired earlier.rules later.rules
