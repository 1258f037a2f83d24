-- Walking the conditions that each field of a list of names is there.
use Rattle.std.specs.Prelude.{ℕ, ◌≡◌, ◌+◌, ◌<◌, List, ◌∷◌, ◌++◌, length, get_or, drop, Some, None}
use Rattle.std.proofs.Common.{ap, sym, ◌∙◌, add-one}
use Rattle.std.proofs.Math.Seq.{drop-cons}
use Rattle.schc_ids.specs.declared.names.FieldName.{FieldName}
use Rattle.rule_model.specs.declared.value.FieldValue.{FieldValue}
use Rattle.rule_model.specs.declared.parts.JoinFault.{JoinFault}
use Rattle.rule_model.specs.First.{first_held}
use Rattle.rule_model.specs.Presence.{presence_of, presence}
use Rattle.rule_model.proofs.FirstLemmas.{first_held-append_some, first_held-append_none}

at_index : (fields : List FieldValue) (names : List FieldName) (i : ℕ) (d : FieldName)
    → i < length names
    → first_held (presence fields (drop i names)) ≡ first_held
    (presence_of fields (get_or names i d) ++ presence fields (drop (i + 1) names))
at_index fields names i d h =
    let first : drop i names ≡ get_or names i d ∷ drop (i + 1) names =
    rw (add-one i) (drop-cons names i d h) in
    ap (λ ns. first_held (presence fields ns)) first

-- the field at this index isn't as it should be
pub presence-found : (fields : List FieldValue) (names : List FieldName) (i : ℕ) (d : FieldName)
    (fault : JoinFault) → i < length names
    → first_held (presence_of fields (get_or names i d)) ≡ Some fault
    → first_held (presence fields (drop i names)) ≡ Some fault
presence-found fields names i d fault h e =
    at_index fields names i d h
    ∙ first_held-append_some (presence_of fields (get_or names i d))
    (presence fields (drop (i + 1) names)) fault e

-- the field at this index is as it should be
pub presence-passed : (fields : List FieldValue) (names : List FieldName) (i : ℕ) (d : FieldName)
    → i < length names → first_held (presence_of fields (get_or names i d)) ≡ None
    → first_held (presence fields (drop (i + 1) names)) ≡ first_held
    (presence fields (drop i names))
presence-passed fields names i d h e =
    sym (at_index fields names i d h
    ∙ first_held-append_none (presence_of fields (get_or names i d))
    (presence fields (drop (i + 1) names)) e)
