-- The conditions under which fields make no message, group after group.
use Rattle.std.specs.Prelude.{◌≡◌, List, ◌++◌, Some, None}
use Rattle.std.proofs.Common.{◌∙◌}
use Rattle.schc_ids.specs.Names.{coap_fields}
use Rattle.rule_model.specs.declared.value.FieldValue.{FieldValue}
use Rattle.rule_model.specs.declared.parts.JoinFault.{JoinFault}
use Rattle.rule_model.specs.First.{first_held}
use Rattle.rule_model.proofs.FirstLemmas.{first_held-append_some, first_held-append_none}
use Rattle.coap_fields.specs.Join.{presence, order, value_refusals, gaps, join_refusal}

-- where a condition of presence holds, the first one is why joining is refused
pub refused-presence : (fields : List FieldValue) (fault : JoinFault)
    → first_held (presence fields coap_fields) ≡ Some fault → join_refusal fields ≡ Some fault
unfolding join_refusal
refused-presence fields fault e =
    first_held-append_some (presence fields coap_fields)
    (order 0 0 fields ++ (value_refusals fields ++ gaps 0 0 fields)) fault e

-- where presence is right, the first field that can't follow is why joining is refused
pub refused-order : (fields : List FieldValue) (fault : JoinFault)
    → first_held (presence fields coap_fields) ≡ None → first_held (order 0 0 fields) ≡ Some fault
    → join_refusal fields ≡ Some fault
unfolding join_refusal
refused-order fields fault p e =
    first_held-append_none (presence fields coap_fields)
    (order 0 0 fields ++ (value_refusals fields ++ gaps 0 0 fields)) p
    ∙ first_held-append_some (order 0 0 fields) (value_refusals fields ++ gaps 0 0 fields) fault e

-- where presence and order are right, the first fault of the values is why joining is refused
pub refused-values : (fields : List FieldValue) (fault : JoinFault)
    → first_held (presence fields coap_fields) ≡ None → first_held (order 0 0 fields) ≡ None
    → first_held (value_refusals fields) ≡ Some fault → join_refusal fields ≡ Some fault
unfolding join_refusal
refused-values fields fault p o e =
    first_held-append_none (presence fields coap_fields)
    (order 0 0 fields ++ (value_refusals fields ++ gaps 0 0 fields)) p
    ∙ first_held-append_none (order 0 0 fields) (value_refusals fields ++ gaps 0 0 fields) o
    ∙ first_held-append_some (value_refusals fields) (gaps 0 0 fields) fault e

-- where presence, order and values are right, the first gap in the positions of an option is why
-- joining is refused, and it isn't where there is none
pub refused-gaps : (fields : List FieldValue) → first_held (presence fields coap_fields) ≡ None
    → first_held (order 0 0 fields) ≡ None → first_held (value_refusals fields) ≡ None
    → join_refusal fields ≡ first_held (gaps 0 0 fields)
unfolding join_refusal
refused-gaps fields p o c =
    first_held-append_none (presence fields coap_fields)
    (order 0 0 fields ++ (value_refusals fields ++ gaps 0 0 fields)) p
    ∙ first_held-append_none (order 0 0 fields) (value_refusals fields ++ gaps 0 0 fields) o
    ∙ first_held-append_none (value_refusals fields) (gaps 0 0 fields) c
