-- The session that a key's sender sends has the number of the key's session that began last.
use Rattle.std.proofs.Common.{◌≡◌, ℕ, Bool, true, false, List, [], ◌∷◌, ◌++◌, Option, Some, None}
use Rattle.std.proofs.Common.{Result, Ok, Err, refl, sym, subst}
use Rattle.std.specs.Prelude.{if◌then◌else◌}
use Rattle.schc_ids.specs.declared.ends.EndParams.{EndParams}
use Rattle.schc_ids.specs.declared.ends.TimerTicks.{TimerTicks}
use Rattle.schc_ids.specs.declared.faults.WireFault.{WireFault}
use Rattle.schc_ids.specs.declared.fragments.Side.TheVariants as side
use Rattle.schc_ids.specs.declared.notes.Heard.TheVariants as heard
use Rattle.schc_ids.specs.declared.phases.SenderPhase.{SenderPhase}
use Rattle.schc_ids.specs.declared.phases.SenderPhase.TheVariants as phase
use Rattle.event_data.specs.Events.{Event, HandsBytes}
use Rattle.frag_wire.specs.Spells.{reading_in}
use Rattle.frag_wire.specs.declared.message.Message.{Message}
use Rattle.sessions.specs.Receivers.{receiver_due}
use Rattle.sessions.specs.Senders.{sender_due, sender_phase}
use Rattle.sessions.specs.Session.{Session, session_moved, session_sent, session_heard}
use Rattle.sessions.specs.Session.{session_aborted, fired_in, session_fired, session_ticked}
use Rattle.lanes.specs.Events.{LaneEvent, Begin, Send, Answer, Fragment, Ack, SenderTick}
use Rattle.lanes.specs.Events.{ReceiverTick, Abort}
use Rattle.lanes.specs.Lane.{Begun, Lane, Msg, last_item, new_lane}
use Rattle.lanes.specs.Runs.{lane_steps}
use Rattle.lanes.specs.Step.{lane_session, lane_sent, lane_sends, lane_begun, lane_begins, heard_by}
use Rattle.lanes.specs.Step.{aborted_by, ticked_by, lane_told, lane_taken, lane_took, lane_answered}
use Rattle.lanes.specs.Step.{lane_step}
use Rattle.lanes.proofs.ListLemmas.{last-push}
use Rattle.two_ends.specs.Fits.{Fits}
use Rattle.two_ends.specs.History.{History, start, next, run}
use Rattle.two_ends.specs.Keys.{Key}
use Rattle.two_ends.specs.Lanes.{lane_of, lane_events}
use Rattle.two_ends.proofs.KeepsLemmas.{run-keeps, world-step, run-start-keeps}
use Rattle.two_ends.proofs.KeepsLemmas.{bytes-of-fits}
use Rattle.two_ends.proofs.LaneSteps.{WorldKeeps, steps-of-a-world, lane-start}

-- the session has the number of the one that began last
pub record HasNumber (begins : List Begun) (session : Session) : Type 0 where
  pub begun : Begun
  pub is_last : last_item begins ≡ Some begun
  pub its_number : begun.number ≡ session.number

-- where a session is under way, it has that number
abbrev pub NumberIs : List Begun → Option Session → Type 0
NumberIs begins None = Unit {0}
NumberIs begins (Some session) = HasNumber begins session

-- the sender of a lane has it
abbrev pub NumberKeeps : Lane → Type 0
NumberKeeps l = NumberIs l.begins l.sender

-- A step of the session leaves its number.

sent-number : (begins : List Begun) (ticks : TimerTicks) (session : Session)
    → HasNumber begins session → HasNumber begins (session_sent ticks session)
unfolding session_sent session_moved
sent-number begins ticks session k =
    record { begun = k.begun; is_last = k.is_last; its_number = k.its_number }

heard-number : (begins : List Begun) (ticks : TimerTicks) (o : Option Session)
    (reading : Result Message WireFault) → NumberIs begins o
    → NumberIs begins (heard_by ticks o reading).0
unfolding heard_by session_heard session_moved
heard-number begins ticks None reading k = tt
heard-number begins ticks (Some session) (Err fault) k = k
heard-number begins ticks (Some session) (Ok message) k =
    record { begun = k.begun; is_last = k.is_last; its_number = k.its_number }

aborted-number : (begins : List Begun) (ticks : TimerTicks) (o : Option Session) → NumberIs begins o
    → NumberIs begins (aborted_by ticks o).0
unfolding aborted_by session_aborted session_moved
aborted-number begins ticks None k = tt
aborted-number begins ticks (Some session) k =
    record { begun = k.begun; is_last = k.is_last; its_number = k.its_number }

fired-number : (begins : List Begun) (ticks : TimerTicks) (session : Session) (at : SenderPhase)
    → HasNumber begins session → NumberIs begins (fired_in ticks session at).0
unfolding fired_in session_moved
fired-number begins ticks session phase.Waiting k =
    record { begun = k.begun; is_last = k.is_last; its_number = k.its_number }
fired-number begins ticks session phase.Quiet k = tt
fired-number begins ticks session phase.Sending k = k
fired-number begins ticks session phase.Closing k = k

ticked_if-number : (begins : List Begun) (ticks : TimerTicks) (session : Session) (left : Option ℕ)
    (b : Bool) → HasNumber begins session
    → NumberIs begins
    (if b then session_fired ticks session
    else (Some (record session { left = left }), heard.Nothing)).0
unfolding session_fired
ticked_if-number begins ticks session left true k =
    fired-number begins ticks (record session { left = None }) (sender_phase session.sender)
    (record { begun = k.begun; is_last = k.is_last; its_number = k.its_number })
ticked_if-number begins ticks session left false k =
    record { begun = k.begun; is_last = k.is_last; its_number = k.its_number }

ticked-number : (begins : List Begun) (ticks : TimerTicks) (o : Option Session) → NumberIs begins o
    → NumberIs begins (ticked_by ticks o).0
unfolding ticked_by session_ticked
ticked-number begins ticks None k = tt
ticked-number begins ticks (Some session) k =
    ticked_if-number begins ticks session _ _ k

-- The steps of a lane.

sent_due-number : (time : ℕ) (l : Lane) (session : Session) (bytes : Option (List ℕ))
    → HasNumber l.begins session → NumberKeeps l → NumberKeeps (lane_sent time l session bytes)
unfolding lane_sent
sent_due-number time l session None is k = k
sent_due-number time l session (Some bytes) is k =
    sent-number l.begins l.params.ends.ticks session is

sends-number : (time : ℕ) (l : Lane) (o : Option Session) → NumberIs l.begins o → NumberKeeps l
    → NumberKeeps (lane_sends time l o)
unfolding lane_sends
sends-number time l None is k = k
sends-number time l (Some session) is k =
    sent_due-number time l session (sender_due session.sender) is k

begun-number : (time : ℕ) (l : Lane) (begun : Begun) (session : Session) (bytes : Option (List ℕ))
    → begun.number ≡ session.number → NumberKeeps l
    → NumberKeeps (lane_begun time l begun session bytes)
unfolding lane_begun
begun-number time l begun session None e k = k
begun-number time l begun session (Some bytes) e k =
    sent-number (l.begins ++ begun ∷ []) l.params.ends.ticks session
    (record { begun = begun; is_last = last-push l.begins begun; its_number = e })

took-number : (time : ℕ) (l : Lane) (m : Msg) (reading : Result Message WireFault) → NumberKeeps l
    → NumberKeeps (lane_took time l m reading)
unfolding lane_took lane_taken
took-number time l m (Err fault) k = k
took-number time l m (Ok message) k = k

answered-number : (l : Lane) (due : Option (List ℕ)) → NumberKeeps l
    → NumberKeeps (lane_answered l due)
unfolding lane_answered
answered-number l None k = k
answered-number l (Some bytes) k = k

number-step : (time : ℕ) (l : Lane) (event : LaneEvent) → NumberKeeps l
    → NumberKeeps (lane_step time l event)
unfolding lane_step lane_begins lane_session lane_told
number-step time l (Begin place number bits) k =
    begun-number time l
    (record { time = time; place = place; number = number; bits = bits })
    (lane_session l.params number bits) _ refl k
number-step time l Send k = sends-number time l l.sender k k
number-step time l Answer k = answered-number l (receiver_due l.reception.receiver) k
number-step time l (Fragment m) k =
    took-number time l m (reading_in l.params.frag.mode side.Fragments m.bytes) k
number-step time l (Ack m) k =
    heard-number l.begins l.params.ends.ticks l.sender
    (reading_in l.params.frag.mode side.Answers m.bytes) k
number-step time l SenderTick k = ticked-number l.begins l.params.ends.ticks l.sender k
number-step time l ReceiverTick k = k
number-step time l Abort k = aborted-number l.begins l.params.ends.ticks l.sender k

number-steps : (time : ℕ) (l : Lane) (events : List LaneEvent) → NumberKeeps l
    → NumberKeeps (lane_steps time l events)
number-steps time l [] k = k
number-steps time l (event ∷ events) k =
    number-steps time (lane_step time l event) events (number-step time l event k)

-- A run of the world.

-- so it is for each key
abbrev pub NumbersKeep : EndParams → History → Type 0
NumbersKeep params h = (key : Key) → NumberKeeps (lane_of params key h)

-- what every event keeps of a world, with the numbers of its sessions
pub record Numbered (params : EndParams) (h : History) : Type 0 where
  pub world : WorldKeeps params h
  pub numbers : NumbersKeep params h

numbered-step : (params : EndParams) (h : History) (event : Event) → HandsBytes event
    → Numbered params h → Numbered params (next h event)
numbered-step params h event bytes k =
    record {
      world = world-step params h event bytes k.world;
      numbers =
          λ key. subst NumberKeeps (sym (steps-of-a-world params key h event k.world).same)
          (number-steps h.place (lane_of params key h) (lane_events key h event) (k.numbers key));
    }

-- it holds after every list of events that fit
pub run-numbered : (params : EndParams) (events : List Event) → Fits params events
    → Numbered params (run events (start params))
unfolding new_lane
run-numbered params events fits =
    run-keeps (Numbered params) HandsBytes (numbered-step params) events (start params)
    (bytes-of-fits params events fits)
    (record {
      world = (run-start-keeps params [] fits.within.0 tt).world;
      numbers = λ key. subst NumberKeeps (sym (lane-start params key)) tt;
    })
