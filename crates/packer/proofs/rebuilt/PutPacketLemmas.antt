-- The packet of restored fields of which nothing is wrong, in each stack.
use Rattle.std.specs.Prelude.{ℕ, ◌≡◌, ◌≢◌, ◌⊎◌, ◌+◌, nat_lt, List, [], ◌∷◌, ◌++◌, length, None}
use Rattle.std.specs.Prelude.{AllPairs}
use Rattle.std.proofs.Common.{arith, refl, sym, ◌∙◌, subst, inl, inr}
use Rattle.std.proofs.lemmas.Bool.{ltb-false}
use Rattle.schc_bits.specs.Bits.{AreBytes}
use Rattle.schc_ids.specs.declared.names.FieldName.TheVariants.{IpVersion, IpPayloadLength}
use Rattle.schc_ids.specs.declared.names.FieldName.TheVariants.{IpNextHeader, UdpLength}
use Rattle.schc_ids.specs.declared.ends.Direction.{Direction}
use Rattle.schc_ids.specs.declared.names.Stack.{Stack}
use Rattle.schc_ids.specs.declared.names.Stack.TheVariants as stack
use Rattle.rule_model.specs.declared.value.FieldValue.{FieldValue}
use Rattle.rule_model.specs.Data.{RuleData}
use Rattle.rule_model.specs.Cover.{stack_of}
use Rattle.rule_model.specs.Findings.{IsAdmitted}
use Rattle.rule_model.specs.First.{first_held}
use Rattle.rule_model.specs.Matches.{IsSameSet}
use Rattle.ip_udp_fields.specs.Layout.{IsWithoutCoap}
use Rattle.ip_udp_fields.specs.Join.{value_refusals, other_number, too_many}
use Rattle.coap_fields.proofs.RankLemmas.{held-first}
use Rattle.coap_fields.proofs.SizeLemmas.{size-refusal}
use Rattle.coap_fields.specs.Join.{message_refusals, join_refusal, message_from}
use Rattle.packer.specs.Ordering.{message_fields}
use Rattle.packer.specs.Unpacking.{filled_headers, body_of, wrong_field, packet_of}
use Rattle.packer.specs.Rebuilding.{AreRestored, front_tests, message_tests}
use Rattle.packer.proofs.FirstPartsLemmas.{append-none}
use Rattle.packer.proofs.rebuilt.FilledLemmas.{first_held-map, none-of}
use Rattle.packer.proofs.rebuilt.PlainLemmas.{body-plain}
use Rattle.packer.proofs.CoverLemmas.{Covers, Covers-from_reads}
use Rattle.packer.proofs.rebuilt.MadeLemmas.{made-packet}
use Rattle.packer.proofs.rebuilt.PutLemmas.{IsPut, plain-put}
use Rattle.packer.proofs.coap.CoapPutLemmas.{coap-put}

-- a stack is one without CoAP, or the one with it
pub stack-cases : (of : Stack) → IsWithoutCoap of ⊎ (of ≡ stack.IpUdpCoap)
stack-cases stack.Ip = inl tt
stack-cases stack.IpUdp = inl tt
stack-cases stack.IpUdpCoap = inr refl

-- the message isn't refused, where the packet isn't too long
pub message-right : (fields headers : List FieldValue) (payload : List ℕ)
    → first_held (message_tests stack.IpUdpCoap fields) ≡ None
    → first_held
    (value_refusals stack.IpUdpCoap headers
    (length (body_of stack.IpUdpCoap fields payload))) ≡ None
    → join_refusal (message_fields fields) ≡ None
message-right fields headers payload h right =
    let mine : List FieldValue = message_fields fields in
    let both : first_held (front_tests fields ++ message_refusals mine) ≡ None =
    none-of (first_held (front_tests fields ++ message_refusals mine))
    (sym (first_held-map wrong_field (front_tests fields ++ message_refusals mine)) ∙ h)
    in
    let n : ℕ = length (message_from mine payload) in
    let few =
    append-none
    (other_number headers IpVersion 6 ∷ other_number headers IpNextHeader 17 ∷ too_many
    (8 + n) ∷ [])
    (other_number headers IpPayloadLength (8 + n) ∷ other_number headers UdpLength (8 + n) ∷ [])
    right in
    let last =
    append-none (other_number headers IpVersion 6 ∷ other_number headers IpNextHeader 17 ∷ [])
    (too_many (8 + n) ∷ []) few.0 in
    let size = held-first (nat_lt 65535 (8 + n)) _ [] last.1 in
    elim (size-refusal mine payload
    (append-none (front_tests fields) (message_refusals mine) both).1) [
      | inl joins ↦ joins
      | inr long ↦ absurd (omega (arith, long, ltb-false 65535 (8 + n) size.0))
    ]

-- restored fields of an admitted rule, one for each entry, of which no test finds one wrong, make a
-- packet of its stack with the payload, and with the value that each entry makes
pub put-packet : (rule : RuleData) (direction : Direction) (fields : List FieldValue)
    (payload : List ℕ) → IsAdmitted rule → AreRestored rule direction fields
    → IsSameSet rule direction fields → AllPairs (λ f g. f.at ≢ g.at) fields
    → first_held (message_tests (stack_of rule) fields) ≡ None
    → first_held
    (value_refusals (stack_of rule)
    (filled_headers rule direction fields (length (body_of (stack_of rule) fields payload)))
    (length (body_of (stack_of rule) fields payload))) ≡ None → AreBytes payload
    → IsPut rule direction fields payload (packet_of rule direction fields payload)
put-packet rule direction fields payload admitted restored same once message right bytes =
    elim (stack-cases (stack_of rule)) [
      | inl without ↦
          let covers : Covers rule direction =
          Covers-from_reads rule direction admitted without restored.reading in
          plain-put rule direction fields payload (packet_of rule direction fields payload) covers
          (made-packet rule direction fields payload covers restored
          (subst (λ (body : List ℕ). first_held
          (value_refusals (stack_of rule) (filled_headers rule direction fields (length body))
          (length body)) ≡ None) (body-plain (stack_of rule) fields payload without) right)
          bytes)
      | inr s ↦
          (coap-put rule direction fields payload s admitted restored same once
          (message-right fields
          (filled_headers rule direction fields
          (length (body_of stack.IpUdpCoap fields payload))) payload
          (subst (λ of. first_held (message_tests of fields) ≡ None) s message)
          (subst (λ of. first_held
          (value_refusals of
          (filled_headers rule direction fields (length (body_of of fields payload)))
          (length (body_of of fields payload))) ≡ None) s right)) bytes
          (subst (λ of. first_held
          (value_refusals (stack_of rule)
          (filled_headers rule direction fields (length (body_of of fields payload)))
          (length (body_of of fields payload))) ≡ None) s right)).put
    ]
