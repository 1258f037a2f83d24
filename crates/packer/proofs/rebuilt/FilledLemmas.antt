-- Lengths filled in, the first thing that is wrong with restored fields, and the packet where
-- nothing is.
use Rattle.std.specs.Prelude.{ℕ, ◌≡◌, ◌%◌, Bool, true, false, List, [], ◌∷◌, ◌++◌, length, map}
use Rattle.std.specs.Prelude.{Option, Some, None, Err}
use Rattle.std.specs.Option.{option_map}
use Rattle.std.proofs.Common.{refl, sym, ap, ◌∙◌}
use Rattle.schc_bits.specs.Bits.{number_bits}
use Rattle.schc_bits.proofs.NumberBits.{number_bits-mod}
use Rattle.schc_ids.specs.declared.ends.Direction.{Direction}
use Rattle.schc_ids.specs.declared.faults.UnpackFault.{UnpackFault}
use Rattle.schc_ids.specs.declared.names.Stack.{Stack}
use Rattle.schc_ids.specs.declared.names.Stack.TheVariants as stack
use Rattle.rule_model.specs.declared.parts.JoinFault.{JoinFault}
use Rattle.rule_model.specs.declared.value.FieldValue.{FieldValue}
use Rattle.rule_model.specs.Data.{RuleData}
use Rattle.rule_model.specs.Cover.{covered, stack_of}
use Rattle.rule_model.specs.First.{first_held}
use Rattle.rule_model.proofs.FirstLemmas.{first_held-append_some, first_held-append_none}
use Rattle.ip_udp_fields.specs.Layout.{IsWithoutCoap}
use Rattle.ip_udp_fields.specs.Join.{value_refusals}
use Rattle.coap_fields.specs.Join.{message_refusals}
use Rattle.packer.specs.Ordering.{message_fields}
use Rattle.packer.proofs.rebuilt.PlainLemmas.{body-plain, faults-plain}
use Rattle.packer.specs.Unpacking.{operator_fault, wrong_field, value_faults, packet_faults}
use Rattle.packer.specs.Unpacking.{filled_headers, body_of, packet_of, packet_or, rebuilt}
use Rattle.packer.specs.Rebuilding.{packet_behind_headers, packet_of_values, header_tests}
use Rattle.packer.specs.Rebuilding.{front_tests, message_tests, made_tests}

-- only the last 16 bits of a number are written
pub number_bits_low : (number : ℕ) → number_bits 16 (number % 65536) ≡ number_bits 16 number
number_bits_low number = number_bits-mod 16 number

-- the first condition that holds, whatever stands beside each
pub first_held-map : {A B : Type 0} (f : A → B) (conditions : List (Bool × A))
    → first_held (map (λ c. (c.0, f c.1)) conditions) ≡ option_map f (first_held conditions)
first_held-map f [] = refl
first_held-map f ((true, x) ∷ conditions) = refl
first_held-map f ((false, x) ∷ conditions) = first_held-map f conditions

-- the first value of the headers that is wrong is what their tests find, as a fault of the packet
pub header_tests-some : (of : Stack) (fields : List FieldValue) (size : ℕ) (fault : JoinFault)
    (why : UnpackFault) → Some fault ≡ first_held (value_refusals of fields size)
    → why ≡ wrong_field fault → Some why ≡ first_held (header_tests of fields size)
header_tests-some of fields size fault why e w =
    ap Some w ∙ ap (option_map wrong_field) e
    ∙ sym (first_held-map wrong_field (value_refusals of fields size))

-- where there is no fault of the packet, there was none of joining
pub none-of : (o : Option JoinFault) → option_map wrong_field o ≡ None → o ≡ None
none-of None e = refl
none-of (Some fault) e = absurd (cc)

-- where nothing is wrong with the headers, their values are right
pub value_refusals-none : (of : Stack) (fields : List FieldValue) (size : ℕ)
    → first_held (header_tests of fields size) ≡ None
    → first_held (value_refusals of fields size) ≡ None
value_refusals-none of fields size e =
    none-of (first_held (value_refusals of fields size))
    (sym (first_held-map wrong_field (value_refusals of fields size)) ∙ e)

-- where the values of the headers are right, their tests find nothing wrong
pub header_tests-none : (of : Stack) (fields : List FieldValue) (size : ℕ)
    → first_held (value_refusals of fields size) ≡ None
    → first_held (header_tests of fields size) ≡ None
header_tests-none of fields size e = first_held-map wrong_field (value_refusals of fields size)
    ∙ ap (option_map wrong_field) e

-- the fault of the first operator that fails
pub rebuilt-operator : (rule : RuleData) (direction : Direction) (fields : List FieldValue)
    (payload : List ℕ) (fault : UnpackFault)
    → first_held (map (operator_fault fields) (covered rule direction)) ≡ Some fault
    → rebuilt rule direction fields payload ≡ Err fault
unfolding packet_faults
rebuilt-operator rule direction fields payload fault e =
    ap (λ found. packet_or found (packet_of rule direction fields payload))
    (first_held-append_some (map (operator_fault fields) (covered rule direction))
    (map (λ condition. (condition.0, wrong_field condition.1))
    (value_faults rule direction fields (length (body_of (stack_of rule) fields payload))))
    fault e)

-- where none fails, what is tried of the message and the headers decides, if it comes to what is
-- listed
pub rebuilt-made : (rule : RuleData) (direction : Direction) (fields : List FieldValue)
    (payload : List ℕ) → first_held (map (operator_fault fields) (covered rule direction)) ≡ None
    → first_held
    (made_tests rule direction fields (body_of (stack_of rule) fields payload)) ≡ first_held
    (map (λ condition. (condition.0, wrong_field condition.1))
    (value_faults rule direction fields (length (body_of (stack_of rule) fields payload))))
    → rebuilt rule direction fields payload ≡ packet_of_values rule direction fields payload
unfolding packet_faults packet_of_values
rebuilt-made rule direction fields payload e same =
    ap (λ found. packet_or found (packet_of rule direction fields payload))
    (first_held-append_none (map (operator_fault fields) (covered rule direction))
    (map (λ condition. (condition.0, wrong_field condition.1))
    (value_faults rule direction fields (length (body_of (stack_of rule) fields payload)))) e
    ∙ sym same)

-- a fault of the message
pub made-message : (rule : RuleData) (direction : Direction) (fields : List FieldValue)
    (payload : List ℕ) (fault : UnpackFault)
    → first_held (message_tests (stack_of rule) fields) ≡ Some fault
    → packet_of_values rule direction fields payload ≡ Err fault
unfolding packet_of_values
made-message rule direction fields payload fault e =
    let body : List ℕ = body_of (stack_of rule) fields payload in
    ap (λ found. packet_or found (packet_of rule direction fields payload))
    (first_held-append_some (message_tests (stack_of rule) fields)
    (header_tests (stack_of rule) (filled_headers rule direction fields (length body))
    (length body)) fault e)

-- where there is none, the headers decide
pub made-headed : (rule : RuleData) (direction : Direction) (fields : List FieldValue)
    (payload : List ℕ) → first_held (message_tests (stack_of rule) fields) ≡ None
    → packet_of_values rule direction fields payload ≡ packet_behind_headers rule direction fields
    (body_of (stack_of rule) fields payload)
unfolding packet_of_values packet_behind_headers
made-headed rule direction fields payload e =
    let body : List ℕ = body_of (stack_of rule) fields payload in
    ap (λ found. packet_or found (packet_of rule direction fields payload))
    (first_held-append_none (message_tests (stack_of rule) fields)
    (header_tests (stack_of rule) (filled_headers rule direction fields (length body))
    (length body)) e)

-- with CoAP
pub message_tests-behind : (fields : List FieldValue) → first_held (front_tests fields) ≡ None
    → first_held (message_tests stack.IpUdpCoap fields) ≡ option_map wrong_field
    (first_held (message_refusals (message_fields fields)))
message_tests-behind fields f =
    first_held-map wrong_field (front_tests fields ++ message_refusals (message_fields fields))
    ∙ ap (option_map wrong_field)
    (first_held-append_none (front_tests fields) (message_refusals (message_fields fields)) f)

pub message_tests-front : (fields : List FieldValue) (fault : JoinFault) (why : UnpackFault)
    → first_held (front_tests fields) ≡ Some fault → why ≡ wrong_field fault
    → first_held (message_tests stack.IpUdpCoap fields) ≡ Some why
message_tests-front fields fault why f w =
    first_held-map wrong_field (front_tests fields ++ message_refusals (message_fields fields))
    ∙ ap (option_map wrong_field)
    (first_held-append_some (front_tests fields) (message_refusals (message_fields fields)) fault f)
    ∙ ap Some (sym w)

-- where the headers in front of a CoAP message are right, and the message but for the sizes of its
-- options, their tests find nothing wrong
pub message_tests-none : (fields : List FieldValue) → first_held (front_tests fields) ≡ None
    → first_held (message_refusals (message_fields fields)) ≡ None
    → first_held (message_tests stack.IpUdpCoap fields) ≡ None
message_tests-none fields f m = message_tests-behind fields f ∙ ap (option_map wrong_field) m

-- with CoAP, where nothing is wrong with the message, the packet is made of the headers and the
-- message behind them, or has their first fault
pub coap-made : (rule : RuleData) (direction : Direction) (fields : List FieldValue)
    (payload message : List ℕ) → stack_of rule ≡ stack.IpUdpCoap
    → first_held (message_tests stack.IpUdpCoap fields) ≡ None
    → message ≡ body_of stack.IpUdpCoap fields payload
    → packet_of_values rule direction fields payload ≡ packet_behind_headers rule direction fields
    message
coap-made rule direction fields payload message s none m =
    made-headed rule direction fields payload
    (ap (λ of. first_held (message_tests of fields)) s ∙ none)
    ∙ ap (packet_behind_headers rule direction fields)
    (ap (λ of. body_of of fields payload) s ∙ sym m)

-- and without
pub plain-made : (rule : RuleData) (direction : Direction) (fields : List FieldValue)
    (payload : List ℕ) → IsWithoutCoap (stack_of rule)
    → packet_of_values rule direction fields payload ≡ packet_behind_headers rule direction fields
    payload
plain-made rule direction fields payload h =
    made-headed rule direction fields payload
    (ap first_held (faults-plain (stack_of rule) fields h))
    ∙ ap (packet_behind_headers rule direction fields) (body-plain (stack_of rule) fields payload h)
