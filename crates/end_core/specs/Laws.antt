-- What an end hands up.
use Rattle.std.specs.Prelude.{◌≡◌, ◌↔◌, Bool, List, Some}
use Rattle.schc_ids.specs.Ends.{taken_direction}
use Rattle.lorawan_profile.specs.Ports.{meaning_of}
use Rattle.lorawan_profile.specs.declared.ports.PortMeaning.TheVariants.{Whole}
use Rattle.editions.specs.Data.{IsSound}
use Rattle.packer.specs.Rebuilding.{EditionHasOptions}
use Rattle.packer.specs.Schc.{Decodes}
use Rattle.event_data.specs.Records.{FrameData, HandUpData}
use Rattle.sessions.specs.Holds.{IsSessionMeaning}
use Rattle.end_core.specs.Data.{EndData}
use Rattle.end_core.specs.End.{carried, assembly_of, take_step}

-- the bits that an end reads of a frame: those of the SCHC packet that it carries whole, or those
-- of the assembly with which the check of a receiver passes
pub data IsReadOf (end : EndData) (frame : FrameData) : List Bool → Type 0 where
  whole : meaning_of end.role frame.port ≡ Whole → IsReadOf end frame (carried frame)
  assembly :
      (bits : List Bool) → IsSessionMeaning (meaning_of end.role frame.port)
      → assembly_of end frame ≡ Some bits → IsReadOf end frame bits

-- the bits say this packet, under its RuleID, by the edition that the end knows
pub record Says (end : EndData) (bits : List Bool) (up : HandUpData) : Type 0 where
  pub edition : up.edition ≡ end.known.number
  pub packet : Decodes end.known end.params.iids (taken_direction end.role) bits up.packet
      up.rule_id

-- where the known edition is sound, and its options have numbers and positions of 16 bits, the end
-- hands a packet up exactly where what it reads of the frame says so
abbrev pub HandsUpExactly : Type 0
HandsUpExactly =
    (end : EndData) (frame : FrameData) (up : HandUpData) → IsSound end.known
    → EditionHasOptions end.known →
    ((take_step end frame).1.up ≡ Some up) ↔ ((bits : List Bool) × IsReadOf end frame bits
    × Says end bits up)
