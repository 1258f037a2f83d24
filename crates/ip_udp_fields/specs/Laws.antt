-- How splitting and joining belong together.
use Rattle.std.specs.Prelude.{ℕ, ◌≡◌, ◌↔◌, List, length, drop, None}
use Rattle.schc_bits.specs.Bits.{AreBytes}
use Rattle.schc_ids.specs.declared.ends.Direction.{Direction}
use Rattle.schc_ids.specs.declared.names.Stack.{Stack}
use Rattle.rule_model.specs.declared.value.FieldValue.{FieldValue}
use Rattle.ip_udp_fields.specs.Layout.{IsWithoutCoap}
use Rattle.ip_udp_fields.specs.Fields.{IsPacketOf, FieldsOf}
use Rattle.ip_udp_fields.specs.Refusals.{refusal}
use Rattle.ip_udp_fields.specs.Join.{join_refusal}

-- no condition refuses a packet exactly where it is one of the stack
abbrev pub RefusesExactly : Type 0
RefusesExactly = (of : Stack) (packet : List ℕ) → IsWithoutCoap of
    → (refusal of packet ≡ None) ↔ IsPacketOf of packet

-- a packet has one list of fields, and one place of its payload
abbrev pub HasOneSplit : Type 0
HasOneSplit =
    (of : Stack) (direction : Direction) (packet : List ℕ) (these those : List FieldValue)
    (here there : ℕ) → FieldsOf of direction packet these here →
    FieldsOf of direction packet those there → (these ≡ those) × (here ≡ there)

-- what a packet was split into isn't refused
abbrev pub JoinsAgain : Type 0
JoinsAgain =
    (of : Stack) (direction : Direction) (packet : List ℕ) (fields : List FieldValue) (from : ℕ)
    → FieldsOf of direction packet fields from →
    join_refusal of direction fields (length (drop from packet)) ≡ None

-- packets with the same fields and the same payload are one
abbrev pub HaveOnePacket : Type 0
HaveOnePacket =
    (of : Stack) (direction : Direction) (this that : List ℕ) (fields : List FieldValue)
    (here there : ℕ) → AreBytes this → AreBytes that →
    FieldsOf of direction this fields here → FieldsOf of direction that fields there
    → drop here this ≡ drop there that → this ≡ that
