-- One end of the link: what it answers to each event, and the end that it is then.
use Rattle.std.specs.Prelude.{ℕ, Bool, true, false, not, ◌==◌, nat_lt, nat_le, if◌then◌else◌, List}
use Rattle.std.specs.Prelude.{[], ◌∷◌, ◌++◌, length, drop, Option, Some, None, Result, Ok, Err}
use Rattle.std.specs.Prelude.{option_map, slice_get}
use Rattle.schc_bits.specs.Bits.{number_bits, octets, padded, bytes_of}
use Rattle.schc_ids.specs.Ends.{sent_direction, taken_direction}
use Rattle.schc_ids.specs.Limits.{max_packet, queue_room}
use Rattle.schc_ids.specs.declared.ends.EndParams.{EndParams}
use Rattle.schc_ids.specs.declared.ends.Role.{Role}
use Rattle.schc_ids.specs.declared.faults.UnpackFault.{UnpackFault}
use Rattle.schc_ids.specs.declared.faults.WireFault.{WireFault}
use Rattle.schc_ids.specs.declared.fragments.Side.TheVariants as side
use Rattle.schc_ids.specs.declared.notes.Cause.{Cause}
use Rattle.schc_ids.specs.declared.notes.Cause.TheVariants.{UnknownPort, Unpack}
use Rattle.schc_ids.specs.declared.notes.Note.{Note}
use Rattle.schc_ids.specs.declared.notes.Note.TheVariants as note
use Rattle.schc_ids.specs.declared.notes.Report.{Report}
use Rattle.editions.specs.Data.{EditionData, first_edition}
use Rattle.editions.specs.Followed.{diverged}
use Rattle.ip_udp_fields.specs.Fields.{has_ipv6_header}
use Rattle.frag_wire.specs.Spells.{reading_in}
use Rattle.frag_wire.specs.declared.message.Message.{Message}
use Rattle.frag_wire.specs.declared.message.Message.TheVariants as form
use Rattle.packer.specs.Packing.{packed}
use Rattle.packer.specs.UnpackedData.{UnpackedData}
use Rattle.packer.specs.Unpacking.{unpacked}
use Rattle.packer.specs.declared.packing.Packed.{Packed}
use Rattle.lorawan_profile.specs.Ports.{meaning_of}
use Rattle.lorawan_profile.specs.declared.ports.PortMeaning.{PortMeaning}
use Rattle.lorawan_profile.specs.declared.ports.PortMeaning.TheVariants.{Fragments, Answers, Whole}
use Rattle.lorawan_profile.specs.declared.ports.PortMeaning.TheVariants.{Unknown}
use Rattle.event_data.specs.Records.{FrameData, HandUpData}
use Rattle.event_data.specs.declared.outcomes.Accepted.{Accepted}
use Rattle.event_data.specs.declared.outcomes.DownFault.{DownFault}
use Rattle.event_data.specs.declared.outcomes.DownFault.TheVariants.{NotIpv6, TooLong, Full}
use Rattle.event_data.specs.declared.outcomes.EmitKind.TheVariants as kind
use Rattle.event_data.specs.declared.outcomes.Emitted.{Emitted}
use Rattle.event_data.specs.declared.outcomes.Offered.{Offered}
use Rattle.event_data.specs.declared.outcomes.Offered.TheVariants.{Adopted, Older, Diverged}
use Rattle.event_data.specs.declared.outcomes.Taken.{Taken}
use Rattle.sessions.specs.Data.{SessionsData, new_sessions}
use Rattle.sessions.specs.Steps.{Choice, Idle, GivesAnswer, GivesMessage}
use Rattle.sessions.specs.Steps as session
use Rattle.sessions.specs.declared.out.SessionOut.{SessionOut}
use Rattle.end_core.specs.Data.{EndData, after_id, fits}

-- a new end: it knows the empty edition 0 and writes with it, nothing waits, and no session has
-- begun
abbrev pub new_end : Role → EndParams → EndData
new_end role params = record {
  role = role;
  params = params;
  known = first_edition;
  writes = first_edition;
  queue = [];
  sessions = new_sessions role params;
}

-- the end with these sessions
abbrev pub with_sessions : EndData → SessionsData → EndData
with_sessions end sessions = record end { sessions = sessions }

-- A packet is handed down.

-- the packet as the end writes it now
abbrev pub form_of : EndData → List ℕ → Packed
form_of end packet = packed end.writes end.params.iids (sent_direction end.role) packet

-- why the end refuses a packet, if it does
unfoldable pub refusal : EndData → List ℕ → Option DownFault
refusal end packet =
    if not (has_ipv6_header packet) then Some NotIpv6
    else if nat_lt max_packet (length packet) then Some TooLong
    else if nat_le queue_room (length end.queue) then Some Full
    else None

-- what the end answers that takes the packet
abbrev pub accepted : Packed → Accepted
accepted form = record { edition = form.edition; rule_id = form.rule_id; bits = length form.bits }

-- the end after it took the packet, which waits behind the others
abbrev pub with_form : EndData → Packed → EndData
with_form end form = record end { queue = end.queue ++ form ∷ [] }

unfoldable pub down_from : EndData → Packed → Option DownFault → EndData × Result Accepted DownFault
down_from end form (Some fault) = (end, Err fault)
down_from end form None = (with_form end form, Ok (accepted form))

-- a packet is handed down: it waits as it is written now, unless there is a cause to refuse it
unfoldable pub down_step : EndData → List ℕ → EndData × Result Accepted DownFault
down_step end packet = down_from end (form_of end packet) (refusal end packet)

-- The end may send one frame.

-- the frame that carries the SCHC packet whole: its RuleID is the port, and what follows the RuleID
-- is the payload, with the fewest zero bits after it that make whole bytes (RFC 9011, section 5.1;
-- RFC 8724, section 9)
abbrev pub frame_of : Packed → FrameData
frame_of form = record { port = form.rule_id; bytes = bytes_of (padded (after_id form.bits)) }

-- what the end says of the frame
abbrev pub emitted : Packed → Emitted
emitted form = record { frame = frame_of form; kind = kind.Whole; report = None }

-- and of a frame that is given of the sessions
abbrev pub emitted_out : SessionOut → Emitted
emitted_out out = record { frame = out.frame; kind = out.kind; report = out.report }

-- the end after its first packet went
abbrev pub without_first : EndData → EndData
without_first end = record end { queue = drop 1 end.queue }

-- what the end does with its turn: it gives what is next of the sessions, sends the packet whole,
-- begins a session with it, or does nothing
pub data Turn : Type 0 where
  Serves : Choice → Turn
  Sends : Packed → Turn
  Begins : Packed → Turn
  Rests : Turn

-- what the first packet that waits makes it do: it goes whole where it fits, else as a session
-- where one may begin
unfoldable pub queue_turn : ℕ → Bool → Option Packed → Turn
queue_turn mtu may_begin None = Rests
queue_turn mtu may_begin (Some form) =
    if fits mtu form then Sends form else if may_begin then Begins form else Rests

abbrev pub first_turn : EndData → Turn
first_turn end = queue_turn end.params.mtu (session.may_begin end.sessions) (slice_get end.queue 0)

-- first comes a due answer, then a Sender-Abort, then the next message of a session. What waits
-- comes after them, and where no session is sending, waiting or closing
unfoldable pub turn_from : EndData → Choice → Turn
turn_from end Idle = if session.busy_in end.sessions.senders then Rests else first_turn end
turn_from end (GivesAnswer key reception bytes) = Serves (GivesAnswer key reception bytes)
turn_from end (GivesMessage key sending bytes) = Serves (GivesMessage key sending bytes)

unfoldable pub turn : EndData → Turn
turn end = turn_from end (session.choice end.sessions)

-- the end after a step of its sessions that may have given a frame
abbrev pub gives : EndData → SessionsData × Option SessionOut → EndData × Option Emitted
gives end step = (with_sessions end step.0, option_map emitted_out step.1)

unfoldable pub slot_from : EndData → Turn → EndData × Option Emitted
slot_from end (Serves choice) = gives end (session.next_from end.sessions choice)
slot_from end (Sends form) = (without_first end, Some (emitted form))
slot_from end (Begins form) = gives (without_first end) (session.begin_step form.bits end.sessions)
slot_from end Rests = (end, None)

-- the end may send one frame
unfoldable pub slot_step : EndData → EndData × Option Emitted
slot_step end = slot_from end (turn end)

-- A frame arrives.

-- the bits that a frame carries of an SCHC packet: the port is the RuleID
abbrev pub carried : FrameData → List Bool
carried frame = number_bits 8 frame.port ++ octets frame.bytes

-- what the end reads from the bits of an SCHC packet, with the edition that it knows
abbrev pub read_bits : EndData → List Bool → Result UnpackedData UnpackFault
read_bits end bits = unpacked end.known end.params.iids (taken_direction end.role) bits

-- what it reads from a frame that carries one whole
abbrev pub read : EndData → FrameData → Result UnpackedData UnpackFault
read end frame = read_bits end (carried frame)

-- the assembly that the frame makes whole, which is an SCHC packet with its RuleID: there is one
-- where the check passes
abbrev pub assembly_of : EndData → FrameData → Option (List Bool)
assembly_of end frame = session.preview_of frame.port frame.bytes end.sessions

-- what the end reads from it
abbrev pub joined : EndData → FrameData → Option (Result UnpackedData UnpackFault)
joined end frame = option_map (read_bits end) (assembly_of end frame)

-- the frame is refused
abbrev pub refused : Cause → Taken
refused cause = record { up = None; report = None; note = note.Refused cause }

-- a packet that was read with the edition of this number, as it is handed up
abbrev pub up_of : ℕ → UnpackedData → HandUpData
up_of number unpacked =
    record { edition = number; rule_id = unpacked.rule_id; packet = unpacked.packet }

-- what the end answers to a frame that carries a whole packet, which it reads with the edition of
-- this number
unfoldable pub taken_whole : ℕ → Result UnpackedData UnpackFault → Taken
taken_whole number (Ok unpacked) =
    record { up = Some (up_of number unpacked); report = None; note = note.Small }
taken_whole number (Err fault) = refused (Unpack fault)

-- what the end answers to a fragment or an answer that meant this to its sessions: the packet that
-- it makes whole is handed up, and where that can't be read, the frame is refused
unfoldable pub taken_part : ℕ → Note × Option Report → Option (Result UnpackedData UnpackFault)
    → Taken
taken_part number said None = record { up = None; report = said.1; note = said.0 }
taken_part number said (Some (Ok unpacked)) =
    record { up = Some (up_of number unpacked); report = said.1; note = said.0 }
taken_part number said (Some (Err fault)) =
    record { up = None; report = said.1; note = note.Refused (Unpack fault) }

-- the end after the sessions took the frame. They take it whether or not the assembly can be read
abbrev pub takes : EndData → Option (Result UnpackedData UnpackFault) → SessionsData
    × (Note × Option Report) → EndData × Taken
takes end joined step = (with_sessions end step.0, taken_part end.known.number step.1 joined)

abbrev pub part_step : EndData → FrameData → EndData × Taken
part_step end frame =
    takes end (joined end frame) (session.take_step frame.port frame.bytes end.sessions)

-- by whose port this comes
unfoldable pub take_from : EndData → FrameData → PortMeaning → EndData × Taken
take_from end frame Whole = (end, taken_whole end.known.number (read end frame))
take_from end frame (Fragments params) = part_step end frame
take_from end frame (Answers params) = part_step end frame
take_from end frame Unknown = (end, refused UnknownPort)

-- the messages at which a receiver makes the check: an All-1 and an ACK REQ
abbrev pub IsCheckedAt : Result Message WireFault → Type 0
IsCheckedAt (Ok (form.Regular w fcn from)) = ⊥
IsCheckedAt (Ok (form.All1 w rcs from)) = Unit {0}
IsCheckedAt (Ok (form.Ack w c bitmap)) = ⊥
IsCheckedAt (Ok (form.AckReq w)) = Unit {0}
IsCheckedAt (Ok form.SenderAbort) = ⊥
IsCheckedAt (Ok form.ReceiverAbort) = ⊥
IsCheckedAt (Err fault) = ⊥

-- the frames that memory may want for: a whole packet, and a fragment at which the check is made
abbrev pub MayWant : FrameData → PortMeaning → Type 0
MayWant frame Whole = Unit {0}
MayWant frame (Fragments params) = IsCheckedAt (reading_in params.mode side.Fragments frame.bytes)
MayWant frame (Answers params) = ⊥
MayWant frame Unknown = ⊥

-- a frame arrives
unfoldable pub take_step : EndData → FrameData → EndData × Taken
take_step end frame = take_from end frame (meaning_of end.role frame.port)

-- Time passes, and sessions are given up.

-- the end after a step of its sessions that may have ended one
abbrev pub ends : EndData → SessionsData × Option Report → EndData × Option Report
ends end step = (with_sessions end step.0, step.1)

-- a tick passes
unfoldable pub tick_step : EndData → EndData × Option Report
tick_step end = ends end (session.tick_step end.sessions)

-- the end gives up the session that it sends
unfoldable pub abort_step : EndData → EndData × Option Report
abort_step end = ends end (session.abort_step end.sessions)

-- a timer of the end runs
unfoldable pub is_armed : EndData → Bool
is_armed end = session.armed end.sessions

-- An edition of rules is offered, or allowed.

-- the end after it adopted the edition: it reads with it, and goes on to write with the edition
-- that it wrote with
abbrev pub with_known : EndData → EditionData → EndData
with_known end edition = record end { known = edition }

-- the number isn't above the known one, and the lowest RuleID at which the edition diverges from
-- the known one
unfoldable pub offer_from : EndData → EditionData → Bool → Option ℕ → EndData × Offered
offer_from end edition true id = (end, Older)
offer_from end edition false (Some id) = (end, Diverged id)
offer_from end edition false None = (with_known end edition, Adopted)

-- an edition is offered: it is the known one from now on, unless it is older or diverges
unfoldable pub offer_step : EndData → EditionData → EndData × Offered
offer_step end edition =
    offer_from end edition (nat_le edition.number end.known.number)
    (diverged end.known.rules edition.rules)

-- the end after it was allowed to write with the known edition
abbrev pub with_writes : EndData → EndData
with_writes end = record end { writes = end.known }

unfoldable pub allow_from : EndData → Bool → EndData × Bool
allow_from end true = (with_writes end, true)
allow_from end false = (end, false)

-- the edition with this number is allowed: where it is the known one, the end writes with it from
-- now on
unfoldable pub allow_step : EndData → ℕ → EndData × Bool
allow_step end number = allow_from end (number == end.known.number)
