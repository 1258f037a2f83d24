-- What is written is read back, and the other end restores one packet: in each stack.
use Rattle.std.specs.Prelude.{ℕ, ◌≡◌, ◌≤◌, Bool, true, List, ◌++◌, length, drop}
use Rattle.std.proofs.Common.{subst, inl, inr}
use Rattle.schc_bits.specs.Bits.{octets, AreBytes}
use Rattle.schc_ids.specs.declared.ends.Direction.{Direction}
use Rattle.schc_ids.specs.declared.ends.Iids.{Iids}
use Rattle.schc_ids.specs.declared.names.Stack.{Stack}
use Rattle.rule_model.specs.declared.value.FieldValue.{FieldValue}
use Rattle.rule_model.specs.Data.{RuleData}
use Rattle.rule_model.specs.Cover.{stack_of}
use Rattle.rule_model.specs.Findings.{IsAdmitted}
use Rattle.rule_model.specs.Matches.{Matches}
use Rattle.rule_model.specs.Residue.{residue_of}
use Rattle.packer.specs.Packets.{PacketOf, computed_over}
use Rattle.packer.specs.Schc.{IsRestored}
use Rattle.packer.specs.Unpacking.{reads}
use Rattle.packer.proofs.CoverLemmas.{Covers-from_reads}
use Rattle.packer.proofs.PacketFieldsLemmas.{PacketOf-fields, reads-matching}
use Rattle.packer.proofs.rebuilt.PutPacketLemmas.{stack-cases}
use Rattle.packer.proofs.reading.RestoredLemmas.{IsReadBack, IsReadBack-fields}
use Rattle.packer.proofs.coap.CoapRestoredLemmas.{reads-coap, IsReadBack-coap}
use Rattle.packer.proofs.reading.OneRestoredLemmas.{one-restored}
use Rattle.packer.proofs.coap.CoapOneLemmas.{one-coap}

module _ (rule : RuleData) (iids : Iids) (direction : Direction) (packet : List ℕ)
    (fields : List FieldValue) (from : ℕ)
    (p : PacketOf (stack_of rule) direction packet fields from)
    (matches : Matches rule iids direction fields (computed_over (stack_of rule) packet)) where
  -- a rule that matches a packet reads packets of its direction
  pub reads-packet : reads rule direction ≡ true
  reads-packet =
      elim (stack-cases (stack_of rule)) [
        | inl without ↦ reads-matching rule iids direction packet fields from
            (computed_over (stack_of rule) packet)
            (PacketOf-fields (stack_of rule) direction packet fields from without p) matches
        | inr s ↦
            reads-coap rule iids direction packet fields from (computed_over (stack_of rule) packet)
            s (subst (λ (of : Stack). PacketOf of direction packet fields from) s p) matches
      ]

  -- what a rule writes of a packet that it matches is read back, whatever the padding
  pub read-back : (padding : List Bool) → IsAdmitted rule → AreBytes (drop from packet)
      → length padding ≤ 7
      → IsReadBack rule iids direction packet
      (residue_of rule direction fields ++ (octets (drop from packet) ++ padding))
  read-back padding admitted bytes short =
      elim (stack-cases (stack_of rule)) [
        | inl without ↦ IsReadBack-fields rule iids direction packet fields from admitted
            (PacketOf-fields (stack_of rule) direction packet fields from without p) matches padding
            bytes short
        | inr s ↦
            IsReadBack-coap rule iids direction packet fields from s admitted
            (subst (λ (of : Stack). PacketOf of direction packet fields from) s p) matches
            padding bytes short
      ]

  -- two packets that the rule restores from this one are the same
  pub restored-one : (this that : List ℕ) → IsAdmitted rule → IsRestored rule direction packet this
      → IsRestored rule direction packet that → AreBytes this → AreBytes that → this ≡ that
  restored-one this that admitted r t a b =
      elim (stack-cases (stack_of rule)) [
        | inl without ↦
            one-restored rule direction packet this that fields from
            (Covers-from_reads rule direction admitted without reads-packet)
            (PacketOf-fields (stack_of rule) direction packet fields from without p) r t a b
        | inr s ↦
            one-coap rule iids direction packet this that fields from
            (computed_over (stack_of rule) packet) s
            (subst (λ (of : Stack). PacketOf of direction packet fields from) s p) matches r t a
            b
      ]
