-- How splitting and joining belong together.
use Rattle.std.specs.Prelude.{ℕ, ◌≡◌, ◌↔◌, ◌≤◌, List, length, drop, Ok, Err, None}
use Rattle.schc_bits.specs.Bits.{AreBytes}
use Rattle.rule_model.specs.declared.value.FieldValue.{FieldValue}
use Rattle.rule_model.specs.SplitData.{SplitData}
use Rattle.coap_fields.specs.Message.{Message, IsMessage, spelled}
use Rattle.coap_fields.specs.Fields.{MessageOf}
use Rattle.coap_fields.specs.Facts.{AreCoapFields}
use Rattle.coap_fields.specs.Reading.{message_in}
use Rattle.coap_fields.specs.Stops.{StopsAt}
use Rattle.coap_fields.specs.Join.{join_refusal, message_from}

-- messages with one spelling are one
abbrev pub IsSpelledOnce : Type 0
IsSpelledOnce = (this that : Message) → IsMessage this → IsMessage that
    → spelled this ≡ spelled that → this ≡ that

-- a message is read from bytes exactly where they spell it
abbrev pub ReadsExactly : Type 0
ReadsExactly =
    (bytes : List ℕ) (split : SplitData) → AreBytes bytes →
    (message_in bytes ≡ Ok split) ↔ MessageOf bytes split.fields split.payload_from

-- bytes have one list of fields, and one place of their payload
abbrev pub HasOneSplit : Type 0
HasOneSplit =
    (bytes : List ℕ) (these those : List FieldValue) (here there : ℕ) → MessageOf bytes these here →
    MessageOf bytes those there → (these ≡ those) × (here ≡ there)

-- what a message was split into isn't refused
abbrev pub JoinsAgain : Type 0
JoinsAgain =
    (bytes : List ℕ) (fields : List FieldValue) (from : ℕ) → MessageOf bytes fields from
    → join_refusal fields ≡ None

-- and makes the same bytes
abbrev pub MakesAgain : Type 0
MakesAgain =
    (bytes : List ℕ) (fields : List FieldValue) (from : ℕ) → MessageOf bytes fields from →
    message_from fields (drop from bytes) ≡ bytes

-- messages with the same fields and the same payload are one
abbrev pub HaveOnePacket : Type 0
HaveOnePacket =
    (this that : List ℕ) (fields : List FieldValue) (here there : ℕ) → MessageOf this fields here →
    MessageOf that fields there → drop here this ≡ drop there that → this ≡ that

-- what holds of the fields of each message
abbrev pub HasCoapFields : Type 0
HasCoapFields = (bytes : List ℕ) (fields : List FieldValue) (from : ℕ) → MessageOf bytes fields from
    → AreCoapFields fields

-- no message is read, for this place, exactly where the bytes stop to be one there
abbrev pub StopsExactly : Type 0
StopsExactly = (bytes : List ℕ) (stop : ℕ) → AreBytes bytes
    → (message_in bytes ≡ Err stop) ↔ StopsAt bytes stop

-- the place is at most the number of the bytes
abbrev pub StopsWithin : Type 0
StopsWithin = (bytes : List ℕ) (stop : ℕ) → StopsAt bytes stop → stop ≤ length bytes
