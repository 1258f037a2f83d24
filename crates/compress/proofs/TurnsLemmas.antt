-- The residue entry by entry is the residue.
use Rattle.std.specs.Prelude.{ℕ, ◌^◌, ◌<◌, length, ◌≡◌, Bool, true, false, if◌then◌else◌, List, []}
use Rattle.std.specs.Prelude.{◌∷◌, ◌++◌, filter, Contains}
use Rattle.std.specs.List.{flat_map}
use Rattle.std.proofs.Common.{ap, refl}
use Rattle.schc_ids.specs.declared.ends.Direction.{Direction}
use Rattle.schc_ids.specs.Ends.{covers}
use Rattle.rule_model.specs.declared.value.FieldValue.{FieldValue}
use Rattle.rule_model.specs.Data.{EntryData, RuleData}
use Rattle.rule_model.specs.Cover.{field_of}
use Rattle.rule_model.specs.Residue.{entry_residue, value_of, residue_of, index_of, index_width}
use Rattle.rule_model.specs.Residue.{SizeHolds, IsSized}
use Rattle.rule_model.proofs.ResidueLemmas.{index_of-fits}
use Rattle.rule_model.proofs.SizedLemmas.{Contains-first, Contains-rest, Contains-filter}
use Rattle.rule_model.proofs.SizedLemmas.{SizeHolds-from_IsSized}
use Rattle.compress.specs.Turns.{joined, TurnsHold}

-- an index fits its width
pub index-fits : (targets : List (List Bool)) (value : List Bool) (index width : ℕ)
    → index ≡ index_of targets value → width ≡ index_width (length targets) → index < 2 ^ width
index-fits targets value index width e f = rw (e, f) (index_of-fits targets value)

-- what is sent of each entry that is used
along : (direction : Direction) (fields : List FieldValue) (entries : List EntryData)
    → joined direction fields entries ≡ flat_map
    (λ e. entry_residue e (value_of fields (field_of e)))
    (filter (λ e. covers e.direction direction) entries)
along direction fields [] = refl
along direction fields (e ∷ entries) =
    let sent : List Bool = entry_residue e (value_of fields (field_of e)) in
    let kept : List EntryData = filter (λ d. covers d.direction direction) entries in
    elim (covers e.direction direction) as
    (λ b. (if b then sent else []) ++ joined direction fields entries ≡ flat_map
    (λ d. entry_residue d (value_of fields (field_of d))) (if b then e ∷ kept else kept)) [
      | true ↦ ap (λ rest. sent ++ rest) (along direction fields entries)
      | false ↦ along direction fields entries
    ]

-- joined entry by entry, without those not used in the direction, what is sent is the residue
pub joined-is : (rule : RuleData) (direction : Direction) (fields : List FieldValue)
    → joined direction fields rule.entries ≡ residue_of rule direction fields
joined-is rule direction fields = along direction fields rule.entries

-- each entry that is used has the sizes that it sends
holds_along : (direction : Direction) (fields : List FieldValue) (entries : List EntryData)
    → ((e : EntryData) → Contains entries e → covers e.direction direction ≡ true
    → SizeHolds e.length e.action e.operator (value_of fields (field_of e)))
    → TurnsHold direction fields entries
holds_along direction fields [] h = tt
holds_along direction fields (e ∷ entries) h = (
  h e (Contains-first e entries),
  holds_along direction fields entries
      (λ d among. h d (Contains-rest e entries d among)),
)

-- of fields sized for the rule, what each entry used in the direction sends with its size has one
pub TurnsHold-from_IsSized : (rule : RuleData) (direction : Direction) (fields : List FieldValue)
    → IsSized rule direction fields → TurnsHold direction fields rule.entries
TurnsHold-from_IsSized rule direction fields sized =
    holds_along direction fields rule.entries
    (λ e among used. SizeHolds-from_IsSized rule direction fields sized e
    (Contains-filter (λ d. covers d.direction direction) rule.entries e among used))
