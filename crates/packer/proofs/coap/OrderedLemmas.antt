-- The fields of a message stand in packet order.
use Rattle.std.specs.Prelude.{◌≡◌, ◌≢◌, List, ◌++◌, None, AllPairs}
use Rattle.schc_ids.specs.Names.{coap_fields}
use Rattle.rule_model.specs.declared.value.FieldValue.{FieldValue}
use Rattle.rule_model.specs.First.{first_held}
use Rattle.coap_fields.specs.Message.{Message, IsMessage}
use Rattle.coap_fields.specs.Fields.{fields_of_message}
use Rattle.coap_fields.specs.Join.{presence, order, value_refusals, gaps, join_refusal}
use Rattle.coap_fields.proofs.AgainLemmas.{message-joins}
use Rattle.packer.proofs.coap.AscendLemmas.{AscendsAfter, ascends-order, ascends-once}
use Rattle.packer.proofs.FirstPartsLemmas.{append-none}

-- the fields aren't refused
pub refusal-order : (fields : List FieldValue) → join_refusal fields ≡ None
    → first_held (order 0 0 fields) ≡ None
unfolding join_refusal
refusal-order fields h =
    (append-none (order 0 0 fields) (value_refusals fields ++ gaps 0 0 fields)
    (append-none (presence fields coap_fields)
    (order 0 0 fields ++ (value_refusals fields ++ gaps 0 0 fields)) h).1).0

-- the fields of a message stand in packet order
pub message-ascends : (m : Message) → IsMessage m → AscendsAfter 0 0 (fields_of_message m)
message-ascends m h =
    ascends-order 0 0 (fields_of_message m)
    (refusal-order (fields_of_message m) (message-joins m h))

-- no two fields of a message have the same name and position
pub message-once : (m : Message) → IsMessage m → AllPairs (λ f g. f.at ≢ g.at) (fields_of_message m)
message-once m h = ascends-once 0 0 (fields_of_message m) (message-ascends m h)
