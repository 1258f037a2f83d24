-- Runs in which a session doesn't meet what is left of an earlier one.
use Rattle.std.specs.Prelude.{ℕ, ◌≡◌, List, Result, Ok, Err}
use Rattle.schc_ids.specs.declared.faults.WireFault.{WireFault}
use Rattle.schc_ids.specs.declared.fragments.Side.TheVariants as side
use Rattle.schc_ids.specs.declared.phases.ReceiverPhase.TheVariants as phase
use Rattle.frag_wire.specs.Spells.{reading_in}
use Rattle.frag_wire.specs.declared.message.Message.{Message}
use Rattle.frag_wire.specs.declared.message.Message.TheVariants as form
use Rattle.sessions.specs.Receivers.{receiver_phase}
use Rattle.lanes.specs.Events.{LaneEvent, Begin, Send, Answer, Fragment, Ack, SenderTick}
use Rattle.lanes.specs.Events.{ReceiverTick, Abort}
use Rattle.lanes.specs.Lane.{Lane, LaneParams, Msg, session_place, new_lane}
use Rattle.lanes.specs.Runs.{AlongRun}

-- the message belongs to the session that began last
abbrev pub IsOfLast : Lane → Msg → Type 0
IsOfLast l m = m.label ≡ session_place l.begins

-- an ACK does; a Receiver-Abort may come late
abbrev pub IsFreshAnswer : Lane → Msg → Result Message WireFault → Type 0
IsFreshAnswer l m (Ok (form.Ack w c bitmap)) = IsOfLast l m
IsFreshAnswer l m (Ok (form.Regular w fcn from)) = Unit {0}
IsFreshAnswer l m (Ok (form.All1 w rcs from)) = Unit {0}
IsFreshAnswer l m (Ok (form.AckReq w)) = Unit {0}
IsFreshAnswer l m (Ok form.SenderAbort) = Unit {0}
IsFreshAnswer l m (Ok form.ReceiverAbort) = Unit {0}
IsFreshAnswer l m (Err fault) = Unit {0}

-- a message of the sender, or an ACK, is delivered only while no later session than its own has
-- begun; and where a session begins the receiver is empty, so that no answer is due. An abort may
-- be due
abbrev pub IsFresh : ℕ → Lane → LaneEvent → Type 0
IsFresh time l (Begin place number bits) = receiver_phase l.reception.receiver ≡ phase.Empty
IsFresh time l Send = Unit {0}
IsFresh time l Answer = Unit {0}
IsFresh time l (Fragment m) = IsOfLast l m
IsFresh time l (Ack m) = IsFreshAnswer l m (reading_in l.params.frag.mode side.Answers m.bytes)
IsFresh time l SenderTick = Unit {0}
IsFresh time l ReceiverTick = Unit {0}
IsFresh time l Abort = Unit {0}

-- each of the events is fresh where it comes, on a lane on which no session has begun
abbrev pub AreFresh : LaneParams → List (ℕ × LaneEvent) → Type 0
AreFresh params events = AlongRun IsFresh (new_lane params) events
