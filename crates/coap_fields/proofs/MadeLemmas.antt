-- What is made of fields is a message with these fields.
use Rattle.std.specs.Prelude.{ℕ, ◌≡◌, ◌-◌, List, length, drop, None}
use Rattle.std.proofs.Common.{refl}
use Rattle.schc_bits.specs.Bits.{AreBytes}
use Rattle.rule_model.specs.declared.value.FieldValue.{FieldValue}
use Rattle.coap_fields.specs.Fields.{MessageOf}
use Rattle.coap_fields.specs.Join.{join_refusal, message_of, message_from}
use Rattle.coap_fields.proofs.JoinLemmas.{IsMade, made}
use Rattle.coap_fields.proofs.BytesLemmas.{spelled-bytes, spelled-payload}

-- fields that aren't refused and a payload of bytes make bytes that spell a message: it has these
-- fields, and its payload is at the end
pub made-fields : (fields : List FieldValue) (payload : List ℕ) → AreBytes payload
    → join_refusal fields ≡ None
    → MessageOf (message_from fields payload) fields
    (length (message_from fields payload) - length payload)
unfolding message_from
made-fields fields payload a e =
    let m : IsMade fields payload = made fields payload e in
    record {
      message = message_of fields payload;
      is_message = m.is_message a;
      its_spelling = refl;
      its_fields = m.fields_are;
      its_payload = refl;
    }

-- the bytes that fields and a payload make end with the payload
pub made-payload : (fields : List FieldValue) (payload : List ℕ)
    → drop (length (message_from fields payload) - length payload)
    (message_from fields payload) ≡ payload
unfolding message_from
made-payload fields payload = spelled-payload (message_of fields payload)

-- what fields that aren't refused and a payload of bytes make is bytes
pub made-bytes : (fields : List FieldValue) (payload : List ℕ) → AreBytes payload
    → join_refusal fields ≡ None → AreBytes (message_from fields payload)
unfolding message_from
made-bytes fields payload a e =
    spelled-bytes (message_of fields payload) ((made fields payload e).is_message a)
