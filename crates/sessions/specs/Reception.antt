-- What an end receives by one key: the receiver and its timer. What the steps of the receiver do to
-- the timer.
use Rattle.std.specs.Prelude.{ℕ, Bool, true, false, ◌&&◌, if◌then◌else◌, List, Option, Some, None}
use Rattle.schc_ids.specs.declared.ends.TimerTicks.{TimerTicks}
use Rattle.schc_ids.specs.declared.notes.Note.{Note}
use Rattle.schc_ids.specs.declared.notes.Note.TheVariants as note
use Rattle.schc_ids.specs.declared.phases.ReceiverPhase.{ReceiverPhase}
use Rattle.schc_ids.specs.declared.phases.ReceiverPhase.TheVariants.{Empty, Gathering, Finished}
use Rattle.frag_wire.specs.declared.message.Message.{Message}
use Rattle.timers.specs.Timers.{ticked, is_due}
use Rattle.sessions.specs.Receivers.{receiver_phase, receiver_taken, receiver_idled}
use Rattle.sessions.specs.Receivers.{receiver_lapsed, receiver_answered}
use Rattle.sessions.specs.declared.receivers.Receiver.{Receiver}

pub record Reception : Type 0 where
  pub receiver : Receiver
  pub left : Option ℕ

-- which timer runs where the receiver stands
abbrev pub receiver_ticks : TimerTicks → ReceiverPhase → Option ℕ
receiver_ticks ticks Empty = None
receiver_ticks ticks Gathering = Some ticks.inactivity
receiver_ticks ticks Finished = Some ticks.linger

abbrev pub same_receiver_phase : ReceiverPhase → ReceiverPhase → Bool
same_receiver_phase Empty Empty = true
same_receiver_phase Gathering Gathering = true
same_receiver_phase Finished Finished = true
same_receiver_phase before after = false

abbrev pub is_remnant : Note → Bool
is_remnant note.Remnant = true
is_remnant meaning = false

-- a message that is no remnant begins the timer anew, and so does a receiver that comes to stand
-- elsewhere
unfoldable pub receiver_left : TimerTicks → ReceiverPhase → ReceiverPhase → Note → Option ℕ
    → Option ℕ
receiver_left ticks before after meaning left =
    if is_remnant meaning && same_receiver_phase before after then left else receiver_ticks ticks
    after

abbrev pub reception_after : TimerTicks → Reception → Receiver × Note → Reception × Note
reception_after ticks reception step = (
  record {
    receiver = step.0;
    left = receiver_left ticks (receiver_phase reception.receiver) (receiver_phase step.0) step.1
        reception.left;
  },
  step.1,
)

-- a message with its payload is taken
unfoldable pub reception_taken : TimerTicks → Message → List Bool → Reception → Reception × Note
reception_taken ticks message payload reception =
    reception_after ticks reception (receiver_taken message payload reception.receiver)

-- the answer that is due is given
unfoldable pub reception_answered : Reception → Reception
reception_answered reception =
    record { receiver = receiver_answered reception.receiver; left = reception.left }

-- the timer is due, and isn't armed any more
unfoldable pub receiver_fired : ReceiverPhase → Receiver → Receiver
receiver_fired Empty receiver = receiver
receiver_fired Gathering receiver = receiver_idled receiver
receiver_fired Finished receiver = receiver_lapsed receiver

unfoldable pub reception_fired : Reception → Reception
reception_fired reception =
    record {
      receiver =
          receiver_fired (receiver_phase reception.receiver) reception.receiver;
      left = None;
    }

-- one tick passes
unfoldable pub reception_ticked : Reception → Reception
reception_ticked reception =
    if is_due (ticked reception.left) then reception_fired reception
    else record { receiver = reception.receiver; left = ticked reception.left }
