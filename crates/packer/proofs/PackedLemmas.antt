-- What is written begins with its RuleID, and has the number of its edition.
use Rattle.std.proofs.Common.{ℕ, ◌≡◌, Bool, true, false, cond, List, [], ◌∷◌, ◌++◌, length, drop}
use Rattle.std.proofs.Common.{Option, Some, None, IfSome, refl, sym, ap}
use Rattle.std.proofs.lemmas.List.{drop_at}
use Rattle.schc_bits.specs.Bits.{number_bits, octets}
use Rattle.schc_bits.proofs.NumberBits.{length-number_bits}
use Rattle.schc_ids.specs.declared.ends.Direction.{Direction}
use Rattle.schc_ids.specs.declared.ends.Iids.{Iids}
use Rattle.rule_model.specs.SplitData.{SplitData}
use Rattle.rule_model.specs.Data.{RuleData}
use Rattle.rule_model.specs.Cover.{stack_of}
use Rattle.rule_model.specs.Tests.{does_match}
use Rattle.editions.specs.declared.listed.Listed.{Listed}
use Rattle.editions.specs.Data.{EditionData}
use Rattle.packer.specs.Packets.{split_of, computed_over}
use Rattle.packer.specs.Packing.{SchcPacketData, schc_packet_under, matching_schc_packet}
use Rattle.packer.specs.Packing.{schc_packet_by, candidate_of, is_preferred, shorter, shortest}
use Rattle.packer.specs.Packing.{schc_packet_or_whole, packed}
use Rattle.schc_ids.specs.Limits.{uncompressed_port}
use Rattle.packer.specs.declared.packing.Packed.{Packed}

-- an SCHC packet begins with its RuleID in 8 bits
abbrev pub BeginsWithId : Packed → Type 0
BeginsWithId schc_packet =
    schc_packet.bits ≡ number_bits 8 schc_packet.rule_id ++ drop 8 schc_packet.bits

-- and so do the bits that are written under one rule
abbrev Begins : SchcPacketData → Type 0
Begins schc_packet = schc_packet.bits ≡ number_bits 8 schc_packet.rule_id ++ drop 8 schc_packet.bits

begins-from : (id : ℕ) (rest : List Bool)
    → number_bits 8 id ++ rest ≡ number_bits 8 id ++ drop 8 (number_bits 8 id ++ rest)
begins-from id rest =
    ap (λ bits. number_bits 8 id ++ bits)
    (sym (drop_at (number_bits 8 id) rest 8 (length-number_bits 8 id)))

if-begins : (b : Bool) (schc_packet : SchcPacketData) → Begins schc_packet
    → IfSome (cond b (Some schc_packet) None) Begins
if-begins true schc_packet h = h
if-begins false schc_packet h = tt

matched-begins : (rule : RuleData) (iids : Iids) (way : Direction) (packet : List ℕ)
    (split : Option SplitData) → IfSome (matching_schc_packet rule iids way packet split) Begins
matched-begins rule iids way packet None = tt
matched-begins rule iids way packet (Some split) =
    if-begins (does_match rule iids way split.fields (computed_over (stack_of rule) packet))
    (schc_packet_under rule way packet split) (begins-from rule.id _)

live-begins : (b : Bool) (o : Option SchcPacketData) → IfSome o Begins
    → IfSome (cond b o None) Begins
live-begins true o h = h
live-begins false o h = tt

schc_packet_by-begins : (iids : Iids) (way : Direction) (packet : List ℕ) (listed : Listed)
    → IfSome (schc_packet_by iids way packet listed) Begins
unfolding schc_packet_by
schc_packet_by-begins iids way packet listed =
    live-begins listed.live
    (matching_schc_packet listed.rule iids way packet
    (split_of (stack_of listed.rule) way packet))
    (matched-begins listed.rule iids way packet (split_of (stack_of listed.rule) way packet))

either-begins : (b : Bool) (schc_packet later : SchcPacketData) → Begins schc_packet → Begins later
    → IfSome (cond b (Some schc_packet) (Some later)) Begins
either-begins true schc_packet later h k = h
either-begins false schc_packet later h k = k

shorter-begins : (these those : Option SchcPacketData) → IfSome these Begins → IfSome those Begins
    → IfSome (shorter these those) Begins
shorter-begins None those h k = k
shorter-begins (Some schc_packet) None h k = h
shorter-begins (Some schc_packet) (Some later) h k =
    either-begins (is_preferred (candidate_of schc_packet) (candidate_of later)) schc_packet later h
    k

shortest-begins : (iids : Iids) (way : Direction) (packet : List ℕ) (rules : List Listed)
    → IfSome (shortest iids way packet rules) Begins
shortest-begins iids way packet [] = tt
shortest-begins iids way packet (listed ∷ later) =
    shorter-begins (schc_packet_by iids way packet listed) (shortest iids way packet later)
    (schc_packet_by-begins iids way packet listed) (shortest-begins iids way packet later)

whole-begins : (packet : List ℕ) (o : Option SchcPacketData) → IfSome o Begins
    → Begins (schc_packet_or_whole packet o)
whole-begins packet None h = begins-from uncompressed_port (octets packet)
whole-begins packet (Some schc_packet) h = h

-- what is written begins with its RuleID
pub packed-begins : (edition : EditionData) (iids : Iids) (way : Direction) (packet : List ℕ)
    → BeginsWithId (packed edition iids way packet)
unfolding packed
packed-begins edition iids way packet =
    whole-begins packet (shortest iids way packet edition.rules)
    (shortest-begins iids way packet edition.rules)

-- and it has the edition's number
pub packed-edition : (edition : EditionData) (iids : Iids) (way : Direction) (packet : List ℕ)
    → (packed edition iids way packet).edition ≡ edition.number
unfolding packed
packed-edition edition iids way packet = refl
