-- What can happen to one end, and what it answers.
use Rattle.std.specs.Prelude.{ℕ, ◌≤◌, ◌⊎◌, Bool, List, length, Option, Result, Ok, Err}
use Rattle.schc_ids.specs.declared.faults.UnpackFault.{UnpackFault}
use Rattle.schc_ids.specs.declared.notes.Cause.TheVariants.{Unpack}
use Rattle.schc_ids.specs.declared.notes.Note.TheVariants as note
use Rattle.schc_ids.specs.declared.notes.Report.{Report}
use Rattle.editions.specs.Data.{EditionData}
use Rattle.event_data.specs.Records.{FrameData}
use Rattle.event_data.specs.Outcomes.{IsNote, IsRefusal}
use Rattle.event_data.specs.declared.outcomes.Accepted.{Accepted}
use Rattle.event_data.specs.declared.outcomes.DownFault.{DownFault}
use Rattle.event_data.specs.declared.outcomes.Emitted.{Emitted}
use Rattle.event_data.specs.declared.outcomes.Offered.{Offered}
use Rattle.event_data.specs.declared.outcomes.Taken.{Taken}

-- a packet is handed down, the end may send one frame, a frame arrives, a tick passes, the end
-- gives up the session that it sends, is offered an edition of rules, or is allowed to write with
-- the edition with this number
pub data EndEvent : Type 0 where
  Down : List ℕ → EndEvent
  Slot : EndEvent
  Take : FrameData → EndEvent
  Tick : EndEvent
  Abort : EndEvent
  Offer : EditionData → EndEvent
  Allow : ℕ → EndEvent

-- how a packet goes or why it is refused, the frame that is sent, what a frame meant, how a session
-- ended by a tick or by being given up, what is said of an edition that was offered, and whether
-- the end writes with the one that it was allowed
pub data Outcome : Type 0 where
  Handed : Result Accepted DownFault → Outcome
  Sent : Option Emitted → Outcome
  Took : Taken → Outcome
  Ticked : Option Report → Outcome
  Aborted : Option Report → Outcome
  Answered : Offered → Outcome
  Allowed : Bool → Outcome

-- the most bytes of an IPv6 packet: its header has 40, and 16 bits say how many follow (RFC 8200,
-- section 3)
abbrev pub max_ipv6_packet : ℕ
max_ipv6_packet = 65575

-- a packet that a frame hands up has at most so many bytes, or as many as the frame where that is
-- more
abbrev pub IsWithin : FrameData → List ℕ → Type 0
IsWithin frame packet = (length packet ≤ max_ipv6_packet) ⊎ (length packet ≤ length frame.bytes)

-- how a packet goes, or a cause to refuse it
abbrev pub IsHandAnswer : Result Accepted DownFault → Type 0
IsHandAnswer (Ok accepted) = Unit {0}
IsHandAnswer (Err fault) = IsRefusal fault

-- what is read from bits: a packet, or a fault, and want of memory is none
abbrev pub IsAnswer : {A : Type 0} → Result A UnpackFault → Type 0
IsAnswer (Ok unpacked) = Unit {0}
IsAnswer (Err fault) = IsNote (note.Refused (Unpack fault))

-- the outcomes that an event can have: want of memory is none
abbrev pub IsOutcomeOf : EndEvent → Outcome → Type 0
IsOutcomeOf (Down packet) (Handed answer) = IsHandAnswer answer
IsOutcomeOf Slot (Sent emitted) = Unit {0}
IsOutcomeOf (Take frame) (Took taken) = IsNote taken.note
IsOutcomeOf Tick (Ticked report) = Unit {0}
IsOutcomeOf Abort (Aborted report) = Unit {0}
IsOutcomeOf (Offer edition) (Answered offered) = Unit {0}
IsOutcomeOf (Allow number) (Allowed allowed) = Unit {0}
IsOutcomeOf _ _ = ⊥
