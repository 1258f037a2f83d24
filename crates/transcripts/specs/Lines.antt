-- The text that is printed for an event and its outcome.
use Rattle.std.specs.Prelude.{ℕ, Bool, true, false, List, [], ◌∷◌, ◌++◌, Option, Some, None, codes}
use Rattle.std.specs.Fmt.{decimal}
use Rattle.schc_ids.specs.declared.ends.Role.{Role}
use Rattle.schc_ids.specs.declared.ends.Role.TheVariants.{Device, Gateway}
use Rattle.schc_ids.specs.declared.ends.Direction.{Direction}
use Rattle.schc_ids.specs.declared.ends.Direction.TheVariants as way
use Rattle.schc_ids.specs.declared.faults.WireFault.{WireFault}
use Rattle.schc_ids.specs.declared.faults.WireFault.TheVariants as wire
use Rattle.schc_ids.specs.declared.notes.Cause.{Cause}
use Rattle.schc_ids.specs.declared.notes.Cause.TheVariants as cause
use Rattle.schc_ids.specs.declared.notes.Note.{Note}
use Rattle.schc_ids.specs.declared.notes.Note.TheVariants as note
use Rattle.schc_ids.specs.declared.notes.FailCause.{FailCause}
use Rattle.schc_ids.specs.declared.notes.FailCause.TheVariants as fail
use Rattle.schc_ids.specs.declared.notes.ReportKind.{ReportKind}
use Rattle.schc_ids.specs.declared.notes.ReportKind.TheVariants as ended
use Rattle.schc_ids.specs.declared.notes.Report.{Report}
use Rattle.event_data.specs.Records.{FrameData, HandUpData}
use Rattle.event_data.specs.Events.{Event, Down, Slot, Deliver, Tick, Abort, Publish, Offer, Allow}
use Rattle.event_data.specs.Outcomes.{IsRefusal, IsNote}
use Rattle.event_data.specs.declared.events.Target.{Target}
use Rattle.event_data.specs.declared.events.Target.TheVariants as target
use Rattle.event_data.specs.declared.outcomes.DownFault.{DownFault}
use Rattle.event_data.specs.declared.outcomes.DownFault.TheVariants as fault
use Rattle.event_data.specs.declared.outcomes.Accepted.{Accepted}
use Rattle.event_data.specs.declared.outcomes.EmitKind.{EmitKind}
use Rattle.event_data.specs.declared.outcomes.EmitKind.TheVariants as kind
use Rattle.event_data.specs.declared.outcomes.Emission.{Emission}
use Rattle.event_data.specs.declared.outcomes.Taken.{Taken}
use Rattle.event_data.specs.declared.outcomes.Offered.{Offered}
use Rattle.event_data.specs.declared.outcomes.Offered.TheVariants as offered
use Rattle.event_data.specs.declared.outcomes.Line.{Line}
use Rattle.event_data.specs.declared.outcomes.Line.TheVariants as line
use Rattle.printed_words.specs.Words.{bytes_text, unread_text, finding_text}

-- the word for an end
abbrev pub role_text : Role → List ℕ
role_text Device = codes "dev"
role_text Gateway = codes "gw"

-- the word for a direction
abbrev pub direction_text : Direction → List ℕ
direction_text way.Up = codes "up"
direction_text way.Down = codes "down"

-- the word for the ends at which a tick passes
abbrev pub target_text : Target → List ℕ
target_text target.Device = codes "dev"
target_text target.Gateway = codes "gw"
target_text target.Both = codes "both"

-- the words of an event, without the packet of a hand-down and without the edition that is
-- published
unfoldable pub event_text : ℕ → Event → List ℕ
event_text device (Down role packet) =
    codes "hand " ++ (decimal device ++ (codes " " ++ role_text role))
event_text device (Slot role) = codes "slot " ++ (decimal device ++ (codes " " ++ role_text role))
event_text device (Deliver direction place) =
    codes "deliver " ++ (decimal
    device ++ (codes " " ++ (direction_text direction ++ (codes " " ++ decimal place))))
event_text device (Tick target) =
    codes "tick " ++ (decimal device ++ (codes " " ++ target_text target))
event_text device (Abort role) = codes "abort " ++ (decimal device ++ (codes " " ++ role_text role))
event_text device (Publish raw) = codes "publish"
event_text device (Offer role number) =
    codes "offer " ++ (decimal
    device ++ (codes " " ++ (role_text role ++ (codes " " ++ decimal number))))
event_text device (Allow role number) =
    codes "allow " ++ (decimal
    device ++ (codes " " ++ (role_text role ++ (codes " " ++ decimal number))))

-- how a packet that was handed down will go
unfoldable pub accepted_text : Accepted → List ℕ
accepted_text a =
    codes "ok edition " ++ (decimal
    a.edition ++ (codes " rule " ++ (decimal a.rule_id ++ (codes " bits " ++ decimal a.bits))))

-- why a packet that was handed down is refused; want of memory is no reason
abbrev pub refusal_text : DownFault → List ℕ
refusal_text fault.NotIpv6 = codes "refused not-ipv6"
refusal_text fault.TooLong = codes "refused too-long"
refusal_text fault.Full = codes "refused full"
refusal_text fault.Memory = []

-- what a frame carries
unfoldable pub kind_text : EmitKind → List ℕ
kind_text kind.Whole = codes "whole"
kind_text (kind.Begins session) = codes "begins " ++ decimal session
kind_text (kind.Goes session) = codes "goes " ++ decimal session
kind_text kind.Answers = codes "answers"

-- how a session ended
abbrev pub fail_text : FailCause → List ℕ
fail_text fail.AttemptsSpent = codes "attempts-spent"
fail_text fail.PeerAborted = codes "peer-aborted"
fail_text fail.CheckNeverPasses = codes "check-never-passes"
fail_text fail.Aborted = codes "aborted"

abbrev pub ended_text : ReportKind → List ℕ
ended_text ended.Delivered = codes "delivered"
ended_text ended.Sent = codes "sent"
ended_text (ended.Failed cause) = fail_text cause

-- the end of a session: its number, and how it ended
unfoldable pub session_text : Report → List ℕ
session_text report = decimal report.session ++ (codes " " ++ ended_text report.kind)

-- the end of a session after what else a line says, if one ended
unfoldable pub report_text : Option Report → List ℕ
report_text None = []
report_text (Some report) = codes " report " ++ session_text report

-- the same at one end, which is named
unfoldable pub report_at : Role → Option Report → List ℕ
report_at role None = []
report_at role (Some report) =
    codes " report " ++ (role_text role ++ (codes " " ++ session_text report))

-- a frame with its number
unfoldable pub frame_text : ℕ → FrameData → List ℕ
frame_text number frame =
    codes "frame " ++ (decimal
    number ++ (codes " port " ++ (decimal frame.port ++ (codes " " ++ bytes_text frame.bytes))))

-- the same, what the frame carries, and the session that ended with it
unfoldable pub emission_text : Emission → List ℕ
emission_text e =
    frame_text e.number
    e.emitted.frame ++ (codes " " ++ (kind_text e.emitted.kind ++ report_text e.emitted.report))

-- what a slot gave: a frame, or nothing
unfoldable pub slot_text : Option Emission → List ℕ
slot_text None = codes "none"
slot_text (Some e) = emission_text e

-- why a message can't be read
abbrev pub wire_text : WireFault → List ℕ
wire_text wire.Empty = codes "empty"
wire_text wire.TooShort = codes "short"
wire_text wire.WrongForm = codes "form"

-- why a frame is refused
unfoldable pub cause_text : Cause → List ℕ
cause_text cause.UnknownPort = codes "port"
cause_text (cause.Wire fault) = codes "wire " ++ wire_text fault
cause_text (cause.Unpack fault) = unread_text fault

-- what a frame meant
unfoldable pub note_text : Note → List ℕ
note_text note.Small = codes "small"
note_text note.Stored = codes "stored"
note_text note.Repeat = codes "repeat"
note_text note.Asked = codes "asked"
note_text note.Joined = codes "joined"
note_text note.CheckFailed = codes "check-failed"
note_text note.Remnant = codes "remnant"
note_text note.Acked = codes "acked"
note_text note.PeerAborted = codes "peer-aborted"
note_text note.Overflow = codes "overflow"
note_text (note.Refused why) = codes "refused " ++ cause_text why

-- what was handed up, if anything was
unfoldable pub up_text : Option HandUpData → List ℕ
up_text None = []
up_text (Some up) = codes " up " ++ (decimal up.rule_id ++ (codes " " ++ bytes_text up.packet))

-- what a frame that was delivered meant, what it handed up, and the session that it ended
unfoldable pub taken_text : Taken → List ℕ
taken_text taken = note_text taken.note ++ (up_text taken.up ++ report_text taken.report)

-- what an end made of an edition that was offered
unfoldable pub offered_text : Offered → List ℕ
offered_text offered.Adopted = codes "adopted"
offered_text offered.Older = codes "older"
offered_text (offered.Diverged id) = codes "diverged " ++ decimal id

-- whether an end writes with the edition from now on
abbrev pub allowed_text : Bool → List ℕ
allowed_text true = codes "yes"
allowed_text false = codes "no"

-- the sessions that ended at a tick, the device's first
unfoldable pub tick_text : Option Report → Option Report → List ℕ
tick_text device gateway = codes "ok" ++ (report_at Device device ++ report_at Gateway gateway)

-- the session that was given up, if one was under way
unfoldable pub abort_text : Option Report → List ℕ
abort_text None = codes "none"
abort_text (Some report) = codes "report " ++ session_text report

-- the outcome of an event
unfoldable pub said_text : Line → List ℕ
said_text (line.Hand accepted) = accepted_text accepted
said_text (line.HandRefused fault) = refusal_text fault
said_text (line.Slot emission) = slot_text emission
said_text (line.Deliver taken) = taken_text taken
said_text (line.Tick device gateway) = tick_text device gateway
said_text (line.Abort report) = abort_text report
said_text (line.Published number) = codes "ok " ++ decimal number
said_text (line.Refused finding) = finding_text finding
said_text (line.Offer answer) = offered_text answer
said_text (line.Allow answer) = allowed_text answer
said_text line.NoFrame = codes "refused no-frame"
said_text line.NoEdition = codes "refused no-edition"

-- an outcome that is printed: its reasons aren't want of memory
abbrev pub IsSaid : Line → Type 0
IsSaid (line.HandRefused fault) = IsRefusal fault
IsSaid (line.Deliver taken) = IsNote taken.note
IsSaid _ = Unit {0}

-- the line of an event of this device: the event's place from 1, its words and its outcome
unfoldable pub line_text : ℕ → Event → Line → ℕ → List ℕ
line_text device event line place =
    decimal place ++ (codes
    " " ++ (event_text device event ++ (codes " " ++ (said_text line ++ codes "\n"))))
