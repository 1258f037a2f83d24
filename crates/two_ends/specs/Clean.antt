-- A run in which nothing is lost: a packet that is handed down arrives, once, whole or as a
-- session.
use Rattle.std.specs.Prelude.{◌≡◌, ℕ, zero, suc, ◌+◌, ◌≤◌, Bool, true, false, if◌then◌else◌, List}
use Rattle.std.specs.Prelude.{[], ◌∷◌, ◌++◌, length, Some, None, Result, Ok, slice_get}
use Rattle.schc_bits.specs.Bits.{AreBytes}
use Rattle.schc_ids.specs.Ends.{sent_direction, other_role}
use Rattle.schc_ids.specs.Fragments.{params_of}
use Rattle.schc_ids.specs.declared.ends.EndParams.{EndParams}
use Rattle.schc_ids.specs.declared.ends.Role.{Role}
use Rattle.schc_ids.specs.declared.ends.Direction.{Direction}
use Rattle.schc_ids.specs.declared.fragments.FragMode.{FragMode}
use Rattle.schc_ids.specs.declared.fragments.FragMode.TheVariants as mode
use Rattle.schc_ids.specs.declared.notes.ReportKind.{ReportKind}
use Rattle.schc_ids.specs.declared.notes.ReportKind.TheVariants.{Sent, Delivered}
use Rattle.schc_ids.specs.declared.phases.ReceiverPhase.TheVariants as phase
use Rattle.editions.specs.Data.{EditionData}
use Rattle.tiles_bitmap.specs.Tiles.{tiles}
use Rattle.packer.specs.Laws.{RestoresUnder}
use Rattle.packer.specs.Schc.{IsChosen}
use Rattle.packer.specs.declared.packing.Packed.{Packed}
use Rattle.event_data.specs.Events.{Event, Down, Slot, Deliver}
use Rattle.event_data.specs.declared.outcomes.Accepted.{Accepted}
use Rattle.event_data.specs.declared.outcomes.Line.{Line}
use Rattle.event_data.specs.declared.outcomes.Line.TheVariants as line
use Rattle.event_data.specs.declared.outcomes.StepFault.{StepFault}
use Rattle.sessions.specs.Receivers.{receiver_phase}
use Rattle.lanes.specs.Lane.{LaneReport}
use Rattle.end_core.specs.Data.{fits}
use Rattle.end_core.specs.End.{form_of}
use Rattle.two_ends.specs.World.{WorldData, end_of, step}
use Rattle.two_ends.specs.Fits.{Fits, FitsEvent}
use Rattle.two_ends.specs.Happening.{own_key}
use Rattle.two_ends.specs.History.{History, reception_at, start, next, run}
use Rattle.two_ends.specs.Keys.{Key, Keyed, sent_key, mode_of}
use Rattle.two_ends.specs.Logs.{HandedDown, HandedUp, Began, Logs, handed_down}
use Rattle.two_ends.specs.Safe.{labelled_down}

-- an outcome of an event
abbrev pub outcome : WorldData → Event → Result Line StepFault
outcome w event = (step w event).1

-- neither end has a frame due: a slot would give none
abbrev pub HasNothingDue : WorldData → Type 0
HasNothingDue w = (role : Role) → outcome w (Slot role) ≡ Ok (line.Slot None)

-- the key by which an end sends
abbrev pub key_of_end : WorldData → Role → Key
key_of_end w role = sent_key role (own_key (end_of w role))

-- A clean start for this end: neither end has a frame due, and nothing waits at this end. No
-- session of it is open or quiet, and the receiver of its key is empty
pub record IsClean (w : WorldData) (role : Role) : Type 0 where
  pub nothing_due : HasNothingDue w
  pub nothing_waits : (end_of w role).queue ≡ []
  pub no_session : (end_of w role).sessions.senders ≡ []
  pub receiver_empty : receiver_phase (reception_at w (key_of_end w role)).receiver ≡ phase.Empty

-- the frame that a slot gave in this direction is delivered; where it gave none, nothing happens
unfoldable pub delivered : History → Direction → Result Line StepFault → History
delivered h direction (Ok (line.Slot (Some emission))) = next h (Deliver direction emission.number)
delivered h direction slot = h

-- a slot of the end, and its frame delivered
unfoldable pub slot_delivered : History → Role → History
slot_delivered h role =
    delivered (next h (Slot role)) (sent_direction role) (outcome h.world (Slot role))

-- a plain round of the end: a slot of it, its frame delivered, a slot of the other end, its frame
-- delivered
unfoldable pub plain_round : History → Role → History
plain_round h role = slot_delivered (slot_delivered h role) (other_role role)

-- so many plain rounds, one after the other
unfoldable pub plain_rounds : ℕ → History → Role → History
plain_rounds zero h role = h
plain_rounds (suc count) h role = plain_rounds count (plain_round h role) role

-- the other end knows the edition with which the packet was written, or a later one
abbrev pub ReaderKnows : WorldData → Role → Accepted → Type 0
ReaderKnows w role accepted = accepted.edition ≤ (end_of w (other_role role)).known.number

-- the SCHC packet, as the end writes the packet now
abbrev pub written_at : WorldData → Role → List ℕ → Packed
written_at w role packet = form_of (end_of w role) packet

-- it goes whole, in one frame: its bits after the RuleID fit in whole bytes. Else it goes as a
-- session
abbrev pub goes_whole : WorldData → Role → List ℕ → Bool
goes_whole w role packet = fits (end_of w role).params.mtu (written_at w role packet)

-- RFC 8724, section 8.2.2.1: into so many tiles it is cut for a session of the end's mode
abbrev pub tile_count : WorldData → Role → List ℕ → ℕ
tile_count w role packet =
    length (tiles (params_of (mode_of (key_of_end w role))) (end_of w role).params.mtu
    (written_at w role packet).bits)

-- the plain rounds that are enough: one for a packet that goes whole, else one more than it has
-- tiles
abbrev pub needed_rounds : WorldData → Role → List ℕ → ℕ
needed_rounds w role packet = if goes_whole w role packet then 1 else tile_count w role packet + 1

-- exactly one more packet was handed up, from the direction of this one that was handed down, and
-- under its RuleID: it is what the other end restores of it under the rule, it is bytes, and its
-- label leads to it
pub record BringsUp (before after : Logs) (chain : List EditionData) (down : HandedDown) : Type 0
  where
    pub entry : HandedUp
    pub one_more : after.ups ≡ before.ups ++ entry ∷ []
    pub from_there : entry.direction ≡ down.direction
    pub under_rule : entry.rule_id ≡ down.accepted.rule_id
    pub writer : EditionData
    pub written_with : slice_get chain down.accepted.edition ≡ Some writer
    pub same_packet : RestoresUnder writer down.direction down.accepted.rule_id down.packet
        entry.packet
    pub are_bytes : AreBytes entry.packet
    pub leads_here : labelled_down after entry.label ≡ Some down

-- how a session of this mode is reported when all goes well: without answers it was sent, else it
-- was delivered
abbrev pub good_end : FragMode → ReportKind
good_end mode.NoAck = Sent
good_end mode.AckAlways = Delivered
good_end mode.AckOnError = Delivered

-- exactly one more session began: by this key, with these bits, and for the packet that was handed
-- down with this index. Exactly one more report was made: that this session went well
pub record IsReported (before after : Logs) (key : Key) (bits : List Bool) (index : ℕ) : Type 0
  where
    pub began : Began
    pub one_more : after.begins ≡ before.begins ++ began ∷ []
    pub by_key : began.key ≡ key
    pub with_bits : began.it.bits ≡ bits
    pub at_place : began.it.place ≡ length before.begins
    pub carries : began.down ≡ index
    pub report : Keyed LaneReport
    pub one_report : after.reports ≡ before.reports ++ report ∷ []
    pub of_key : report.key ≡ key
    pub of_session : report.it.session ≡ Some began.it.place
    pub well : report.it.kind ≡ good_end (mode_of key)

-- the packet went whole, and no session began and none was reported; or it went as a session, which
-- ended well
abbrev pub WentAs : Bool → Logs → Logs → Key → List Bool → ℕ → Type 0
WentAs true before after key bits index = (after.begins ≡ before.begins)
    × (after.reports ≡ before.reports)
WentAs false before after key bits index = IsReported before after key bits index

-- a packet that was handed down at an end was carried, from the history before to the one after: it
-- was written under the rule that is chosen, and handed up once, where it went as a session this
-- was reported, and then neither end has a frame due
pub record IsCarried (before after : History) (role : Role) (packet : List ℕ)
    (accepted : Accepted) : Type 0 where
  pub chosen :
      IsChosen (end_of before.world role).writes (end_of before.world role).params.iids
      (sent_direction role) packet accepted.rule_id (written_at before.world role packet).bits
  pub arrives :
      BringsUp before.logs after.logs before.world.chain
      (handed_down before.place (sent_direction role) packet accepted)
  pub went :
      WentAs (goes_whole before.world role packet) before.logs after.logs
      (key_of_end before.world role)
      (written_at before.world role packet).bits (length before.logs.downs)
  pub at_rest : HasNothingDue after.world

-- a packet that is handed down at a clean start, and taken, is carried by so many plain rounds or
-- more, where the other end knows the edition with which it was written, or a later one
abbrev pub Arrives : History → Role → List ℕ → Type 0
Arrives h role packet =
    (accepted : Accepted) → IsClean h.world role →
    outcome h.world (Down role packet) ≡ Ok (line.Hand accepted)
    → ReaderKnows h.world role accepted →
    (rounds : ℕ) → needed_rounds h.world role packet ≤ rounds →
    IsCarried h (plain_rounds rounds (next h (Down role packet)) role) role packet accepted

-- so it is in every world that events lead to
abbrev pub Clean : Type 0
Clean =
    (params : EndParams) (events : List Event) → Fits params events →
    (role : Role) (packet : List ℕ) → FitsEvent (Down role packet)
    → Arrives (run events (start params)) role packet
