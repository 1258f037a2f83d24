-- What an end hands up is exactly what the bits say that it reads.
use Rattle.std.proofs.Common.{◌≡◌, ℕ, Bool, List, Some, Ok, sym, ap, subst, ◌∙◌}
use Rattle.schc_ids.specs.Ends.{taken_direction}
use Rattle.editions.specs.Data.{IsSound}
use Rattle.packer.specs.Rebuilding.{EditionHasOptions}
use Rattle.packer.specs.Schc.{Decodes}
use Rattle.packer.specs.UnpackedData.{UnpackedData}
use Rattle.packer.proofs.reading.UnpackedLemmas.{unpacks_exactly}
use Rattle.event_data.specs.Records.{FrameData, HandUpData}
use Rattle.end_core.specs.Data.{EndData}
use Rattle.end_core.specs.End.{read_bits, up_of, carried, take_step}
use Rattle.end_core.specs.Laws.{HandsUpExactly, IsReadOf, Says}
use Rattle.end_core.proofs.TakenLemmas.{HandsUp, taken-up, taken-reads, taken-joins}

-- what was read of bits, they say
reads-says : (end : EndData) (bits : List Bool) (r : UnpackedData) (up : HandUpData)
    → IsSound end.known → EditionHasOptions end.known → read_bits end bits ≡ Ok r
    → up_of end.known.number r ≡ up → Says end bits up
reads-says end bits r up sound options reads is_up =
    let decodes : Decodes end.known end.params.iids (taken_direction end.role) bits r.packet
    r.rule_id =
    (unpacks_exactly end.known end.params.iids (taken_direction end.role) bits r sound options).0
    reads
    in
    record {
      edition = sym (ap (λ (u : HandUpData). u.edition) is_up);
      packet = subst
          (λ (u : HandUpData). Decodes end.known end.params.iids (taken_direction end.role) bits
          u.packet u.rule_id) is_up decodes;
    }

-- bits that say a packet are read as it
says-reads : (end : EndData) (bits : List Bool) (up : HandUpData) → IsSound end.known
    → EditionHasOptions end.known → Says end bits up
    → read_bits end bits ≡ Ok (record { rule_id = up.rule_id; packet = up.packet })
says-reads end bits up sound options says =
    (unpacks_exactly end.known end.params.iids (taken_direction end.role) bits
    (record { rule_id = up.rule_id; packet = up.packet }) sound options).1 says.packet

-- it is handed up with the number of the edition that read it
up-of-said : (number : ℕ) (up : HandUpData) → up.edition ≡ number
    → up_of number (record { rule_id = up.rule_id; packet = up.packet }) ≡ up
up-of-said number up e =
    ap
    (λ (n : ℕ). let u : HandUpData = record { edition = n; rule_id = up.rule_id; packet = up.packet } in
    u) (sym e)

-- what a frame hands up, the bits say that are read of it
up-said : (end : EndData) (frame : FrameData) (up : HandUpData) → IsSound end.known
    → EditionHasOptions end.known → HandsUp end frame up
    → (bits : List Bool) × IsReadOf end frame bits × Says end bits up
up-said end frame up sound options (HandsUp.whole by r reads is_up) = (
  carried frame,
  IsReadOf.whole by,
  reads-says end (carried frame) r up sound options reads is_up,
)
up-said end frame up sound options (HandsUp.part by bits joins is) = (
  bits,
  IsReadOf.assembly bits by joins,
  reads-says end bits is.unpacked up sound options is.reads is.is_up,
)

-- what the bits say that are read of a frame, is handed up
said-up : (end : EndData) (frame : FrameData) (up : HandUpData) (bits : List Bool)
    → IsSound end.known → EditionHasOptions end.known → IsReadOf end frame bits
    → Says end bits up → (take_step end frame).1.up ≡ Some up
said-up end frame up bits sound options (IsReadOf.whole by) says =
    taken-reads end frame (record { rule_id = up.rule_id; packet = up.packet }) by
    (says-reads end (carried frame) up sound options says)
    ∙ ap (λ (u : HandUpData). Some u) (up-of-said end.known.number up says.edition)
said-up end frame up bits sound options (IsReadOf.assembly other by joins) says =
    taken-joins end frame bits (record { rule_id = up.rule_id; packet = up.packet }) by joins
    (says-reads end bits up sound options says)
    ∙ ap (λ (u : HandUpData). Some u) (up-of-said end.known.number up says.edition)

-- an end hands a packet up exactly where the bits that it reads of the frame say it
pub hands-up-exactly : HandsUpExactly
hands-up-exactly end frame up sound options = (
  λ e. up-said end frame up sound options (taken-up end frame up e),
  λ is. said-up end frame up is.0 sound options is.1 is.2,
)
