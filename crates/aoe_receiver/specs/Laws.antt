-- What holds of every receiver of ACK-on-Error.
use Rattle.std.specs.Prelude.{◌≡◌, ◌↔◌, ◌*◌, ◌≤◌, Bool, List, length, Some}
use Rattle.schc_ids.specs.declared.notes.Note.TheVariants as note
use Rattle.schc_ids.specs.Limits.{reassembly_bytes}
use Rattle.frag_wire.specs.declared.message.Message.{Message}
use Rattle.rcs.specs.Division.{rcs_of}
use Rattle.aoe_receiver.specs.State.{AoeReceiverData, IsAoeReceiver}
use Rattle.aoe_receiver.specs.Steps.{CheckData, assembly, taken, check_made, checked, previewed}

-- a preview is there exactly where the message joins, and it is the assembly over which the check
-- is made
abbrev pub PreviewJoins : Type 0
PreviewJoins =
    (message : Message) (payload : List Bool) (receiver : AoeReceiverData) →
    (((assembly : List Bool) × (previewed message payload receiver ≡ Some assembly)) ↔
    ((taken message payload receiver).1 ≡ note.Joined)) ×
    ((assembly : List Bool) → previewed message payload receiver ≡ Some assembly
    → checked message payload receiver ≡ Some assembly)

-- what is previewed has the check of the All-1 with which it is made: that which comes, or that
-- which is kept
pub record IsPreview (message : Message) (payload : List Bool) (receiver : AoeReceiverData)
    (bits : List Bool) : Type 0 where
  pub check : CheckData
  pub made : check_made message payload receiver ≡ Some check
  pub joins : bits ≡ assembly check.tiles check.last
  pub passes : rcs_of bits ≡ check.last.rcs

abbrev pub PreviewPasses : Type 0
PreviewPasses =
    (message : Message) (payload bits : List Bool) (receiver : AoeReceiverData)
    → previewed message payload receiver ≡ Some bits →
    IsPreview message payload receiver bits

-- and there is room for it, where the message has at most a tile of ten bytes, as each All-1 has
abbrev pub PreviewFits : Type 0
PreviewFits =
    (message : Message) (payload bits : List Bool) (receiver : AoeReceiverData)
    → IsAoeReceiver receiver → length payload ≤ 80 →
    previewed message payload receiver ≡ Some bits → length bits ≤ 8 * reassembly_bytes
