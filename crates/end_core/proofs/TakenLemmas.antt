-- What an end hands up is what it has read.
use Rattle.std.proofs.Common.{◌≡◌, ℕ, Bool, List, Option, Some, None, option_map, Result, Ok, Err}
use Rattle.std.proofs.Common.{refl, sym, ap, subst, ◌∙◌}
use Rattle.schc_ids.specs.declared.faults.UnpackFault.{UnpackFault}
use Rattle.schc_ids.specs.declared.notes.Note.{Note}
use Rattle.schc_ids.specs.declared.notes.Report.{Report}
use Rattle.lorawan_profile.specs.Ports.{meaning_of}
use Rattle.lorawan_profile.specs.declared.ports.PortMeaning.{PortMeaning}
use Rattle.lorawan_profile.specs.declared.ports.PortMeaning.TheVariants.{Fragments, Answers, Whole}
use Rattle.lorawan_profile.specs.declared.ports.PortMeaning.TheVariants.{Unknown}
use Rattle.packer.specs.UnpackedData.{UnpackedData}
use Rattle.event_data.specs.Records.{FrameData, HandUpData}
use Rattle.sessions.specs.Holds.{IsSessionMeaning}
use Rattle.end_core.specs.Data.{EndData}
use Rattle.end_core.specs.End.{read, read_bits, assembly_of, joined, up_of, taken_whole, taken_part}
use Rattle.end_core.specs.End.{part_step, take_from, take_step}

-- the end hands up what it read from these bits
pub record IsUp (this : EndData) (bits : List Bool) (u : HandUpData) : Type 0 where
  pub unpacked : UnpackedData
  pub reads : read_bits this bits ≡ Ok unpacked
  pub is_up : up_of this.known.number unpacked ≡ u

-- what a frame hands up: the packet that it carries whole, or the one that it makes whole
pub data HandsUp (this : EndData) (frame : FrameData) (u : HandUpData) : Type 0 where
  whole : meaning_of this.role frame.port ≡ Whole → (unpacked : UnpackedData)
      → read this frame ≡ Ok unpacked → up_of this.known.number unpacked ≡ u → HandsUp this frame u
  part :
      IsSessionMeaning (meaning_of this.role frame.port) → (assembly : List Bool)
      → assembly_of this frame ≡ Some assembly →
      IsUp this assembly u → HandsUp this frame u

pub whole-up : (number : ℕ) (answer : Result UnpackedData UnpackFault) (u : HandUpData)
    → (taken_whole number answer).up ≡ Some u → (r : UnpackedData) × (answer ≡ Ok r)
    × (up_of number r ≡ u)
unfolding taken_whole
whole-up number (Ok r) u e = (r, refl, cc)
whole-up number (Err fault) u e = absurd cc

-- of a part, the packet that was read
pub part-up : (number : ℕ) (said : Note × Option Report)
    (o : Option (Result UnpackedData UnpackFault)) (u : HandUpData)
    → (taken_part number said o).up ≡ Some u → (r : UnpackedData) × (o ≡ Some (Ok r))
    × (up_of number r ≡ u)
unfolding taken_part
part-up number said None u e = absurd cc
part-up number said (Some (Ok r)) u e = (r, refl, cc)
part-up number said (Some (Err fault)) u e = absurd cc

-- it was read from an assembly
read-assembly : {A B : Type 0} (f : A → B) (o : Option A) (b : B) → option_map f o ≡ Some b
    → (a : A) × (o ≡ Some a) × (f a ≡ b)
read-assembly f None b e = absurd cc
read-assembly f (Some a) b e = (a, refl, cc)

session-up : (this : EndData) (frame : FrameData) (u : HandUpData)
    → IsSessionMeaning (meaning_of this.role frame.port) → (part_step this frame).1.up ≡ Some u
    → HandsUp this frame u
session-up this frame u by e =
    let r = part-up this.known.number _ (joined this frame) u e in
    let a = read-assembly (read_bits this) (assembly_of this frame) (Ok r.0) r.1 in
    HandsUp.part by a.0 a.1 (record { unpacked = r.0; reads = a.2; is_up = r.2 })

taken-cases : (this : EndData) (frame : FrameData) (meaning : PortMeaning) (u : HandUpData)
    → meaning_of this.role frame.port ≡ meaning → (take_from this frame meaning).1.up ≡ Some u
    → HandsUp this frame u
unfolding take_from
taken-cases this frame Whole u by e =
    let r = whole-up this.known.number (read this frame) u e in HandsUp.whole by r.0 r.1 r.2
taken-cases this frame (Fragments params) u by e =
    session-up this frame u (subst IsSessionMeaning (sym by) tt) e
taken-cases this frame (Answers params) u by e =
    session-up this frame u (subst IsSessionMeaning (sym by) tt) e
taken-cases this frame Unknown u by e = absurd cc

-- where an end hands a packet up, it has read it
pub taken-up : (this : EndData) (frame : FrameData) (u : HandUpData)
    → (take_step this frame).1.up ≡ Some u → HandsUp this frame u
unfolding take_step
taken-up this frame u e = taken-cases this frame (meaning_of this.role frame.port) u refl e

-- where an end reads the packet that a frame carries whole, it hands it up
pub taken-reads : (this : EndData) (frame : FrameData) (r : UnpackedData)
    → meaning_of this.role frame.port ≡ Whole → read this frame ≡ Ok r
    → (take_step this frame).1.up ≡ Some (up_of this.known.number r)
unfolding take_step take_from taken_whole
taken-reads this frame r by e = rw by (rw e refl)

-- and so where it reads the assembly that a frame makes whole
part-reads : (number : ℕ) (said : Note × Option Report)
    (o : Option (Result UnpackedData UnpackFault)) (r : UnpackedData) → o ≡ Some (Ok r)
    → (taken_part number said o).up ≡ Some (up_of number r)
unfolding taken_part
part-reads number said None r e = absurd cc
part-reads number said (Some (Ok q)) r e = cc
part-reads number said (Some (Err fault)) r e = absurd cc

session-reads : (this : EndData) (frame : FrameData) (meaning : PortMeaning) (r : UnpackedData)
    → IsSessionMeaning meaning → joined this frame ≡ Some (Ok r)
    → (take_from this frame meaning).1.up ≡ Some (up_of this.known.number r)
unfolding take_from
session-reads this frame (Fragments params) r by e =
    part-reads this.known.number _ (joined this frame) r e
session-reads this frame (Answers params) r by e =
    part-reads this.known.number _ (joined this frame) r e
session-reads this frame Whole r by e = absurd by
session-reads this frame Unknown r by e = absurd by

-- where an end reads the assembly that a frame of a session makes whole, it hands the packet up
pub taken-joins : (this : EndData) (frame : FrameData) (assembly : List Bool) (r : UnpackedData)
    → IsSessionMeaning (meaning_of this.role frame.port) → assembly_of this frame ≡ Some assembly
    → read_bits this assembly ≡ Ok r
    → (take_step this frame).1.up ≡ Some (up_of this.known.number r)
unfolding take_step
taken-joins this frame assembly r by e reads =
    session-reads this frame (meaning_of this.role frame.port) r by
    (ap (option_map (read_bits this)) e ∙ ap (λ a. Some a) reads)
