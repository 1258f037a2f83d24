-- One round of a session of which nothing is lost.
use Rattle.std.specs.Prelude.{ℕ, ◌≡◌, ◌≤◌, Bool, true, false, List, length, Option, Some, None}
use Rattle.std.specs.Prelude.{Result, Ok}
use Rattle.std.proofs.Common.{refl, sym, ap, subst, ◌∙◌}
use Rattle.schc_bits.specs.Bits.{octets}
use Rattle.schc_ids.specs.Fragments.{IsFragParams}
use Rattle.schc_ids.specs.declared.ends.TimerTicks.{TimerTicks}
use Rattle.schc_ids.specs.declared.faults.WireFault.{WireFault}
use Rattle.schc_ids.specs.declared.fragments.FragMode.{FragMode}
use Rattle.schc_ids.specs.declared.fragments.FragParams.{FragParams}
use Rattle.schc_ids.specs.declared.fragments.Side.{Side}
use Rattle.schc_ids.specs.declared.fragments.Side.TheVariants as side
use Rattle.schc_ids.specs.declared.notes.Heard.{Heard}
use Rattle.schc_ids.specs.declared.notes.ReportKind.{ReportKind}
use Rattle.schc_ids.specs.declared.phases.SenderPhase.TheVariants as phase
use Rattle.frag_wire.specs.Layouts.{placed, payload_in, with_padding, written}
use Rattle.frag_wire.specs.Spells.{CanSpell, reading_in}
use Rattle.frag_wire.specs.declared.message.Message.{Message}
use Rattle.frag_wire.proofs.ReadingLemmas.{reading-spelled}
use Rattle.frag_wire.proofs.WrittenLemmas.{IsWritten-written}
use Rattle.tiles_bitmap.specs.Tiles.{tiles}
use Rattle.sessions.specs.Receivers.{new_receiver, receiver_mode, receiver_phase, receiver_taken}
use Rattle.sessions.specs.Receivers.{receiver_previewed, receiver_due, receiver_answered}
use Rattle.sessions.specs.Reception.{Reception, reception_taken, reception_answered}
use Rattle.sessions.specs.Senders.{sender_due, sender_phase, sender_sent, sender_heard}
use Rattle.sessions.specs.Session.{Session, session_moved, session_sent, session_heard, heard_kind}
use Rattle.sessions.specs.declared.receivers.Receiver.{Receiver}
use Rattle.sessions.specs.declared.receivers.Receiver.TheVariants as receivers
use Rattle.no_ack.specs.ReceiverState as no_ack
use Rattle.aa_receiver.specs.State as aa
use Rattle.aa_receiver.specs.Steps as aa_step
use Rattle.aoe_receiver.specs.State as aoe
use Rattle.aoe_receiver.specs.Steps as aoe_step
use Rattle.schc_ids.specs.declared.phases.ReceiverPhase.TheVariants as receiver_phases
use Rattle.sessions.specs.declared.senders.Sender.{Sender}
use Rattle.lanes.specs.Events.{CanBegin}
use Rattle.lanes.specs.Lane.{LaneParams, AreLaneParams, padded_of}
use Rattle.lanes.specs.Rounds.{Talk, took_reading, joined_reading, heard_reading, talk_sent}
use Rattle.lanes.specs.Rounds.{talk_answered, talk_round, IsRound, Ends, new_talk, EndsWell}
use Rattle.lanes.specs.Step.{kind_sent}

-- in this mode a session of which nothing is lost ends well
abbrev pub CleanIn : FragMode → Type 0
CleanIn m =
    (params : LaneParams) (number : ℕ) (bits : List Bool) (left : Option ℕ) → AreLaneParams params →
    params.frag.mode ≡ m → CanBegin bits → EndsWell params number bits left

-- where so many rounds and one more, no more than there are tiles, end a session of this mode, it
-- ends well
pub ends-well : (m : FragMode) (params : LaneParams) (number : ℕ) (bits : List Bool)
    (left : Option ℕ) (more : ℕ) → params.frag.mode ≡ m
    → more ≤ length (tiles params.frag params.ends.mtu bits)
    → Ends m params.ends.ticks (padded_of params bits) more (new_talk params number bits left)
    → EndsWell params number bits left
ends-well m params number bits left more e few ends =
    record {
      more = more;
      few = few;
      ends =
          subst (λ (m : FragMode). Ends m params.ends.ticks (padded_of params bits) more
          (new_talk params number bits left)) (sym e) ends;
    }

-- a round that leads to this sender and this receiver
pub record Leads (m : FragMode) (ticks : TimerTicks) (t : Talk) (joined : Option (List Bool))
    (sent told : Option ReportKind) (to : Sender) (receiver : Receiver) : Type 0 where
  pub after : Talk
  pub round : IsRound m ticks t joined sent told after
  pub sender_is : after.session.sender ≡ to
  pub receiver_is : after.reception.receiver ≡ receiver

-- what is written is read
pub read-written : (params : FragParams) (way : Side) (message : Message) (payload : List Bool)
    → IsFragParams params → CanSpell params way message payload
    → reading_in params.mode way (written params message payload) ≡ Ok (placed params message)
read-written params way message payload row can =
    let w = IsWritten-written params way message payload (written params message payload) row can
    refl in
    (reading-spelled params.mode way (placed params message)
    (with_padding message payload w.padding) (written params message payload) w.spells).0

-- the message that was given, as it is read
pub record IsGiven (m : FragMode) (t : Talk) (message : Message) (payload : List Bool)
    (joined : Option (List Bool)) (sent : Option ReportKind) (receiver : Receiver) : Type 0 where
  pub sending : sender_phase t.session.sender ≡ phase.Sending
  pub bytes : List ℕ
  pub due : sender_due t.session.sender ≡ Some bytes
  pub read : reading_in m side.Fragments bytes ≡ Ok message
  pub payload_is : payload_in message (octets bytes) ≡ payload
  pub joins : receiver_previewed message payload t.reception.receiver ≡ joined
  pub sends : kind_sent t.session ≡ sent
  pub takes : (receiver_taken message payload t.reception.receiver).0 ≡ receiver

took-is : (ticks : TimerTicks) (bytes : List ℕ) (reception : Reception)
    (reading : Result Message WireFault) (message : Message) → reading ≡ Ok message
    → (took_reading ticks bytes reception reading).receiver ≡ (receiver_taken message
    (payload_in message (octets bytes)) reception.receiver).0
unfolding took_reading reception_taken
took-is ticks bytes reception reading message e =
    subst (λ (r : Result Message WireFault).
    (took_reading ticks bytes reception r).receiver ≡ (receiver_taken message
    (payload_in message (octets bytes)) reception.receiver).0) (sym e) refl

joined-is : (bytes : List ℕ) (receiver : Receiver) (reading : Result Message WireFault)
    (message : Message) → reading ≡ Ok message
    → joined_reading bytes receiver reading ≡ receiver_previewed message
    (payload_in message (octets bytes)) receiver
unfolding joined_reading
joined-is bytes receiver reading message e =
    subst (λ (r : Result Message WireFault). joined_reading bytes receiver r ≡ receiver_previewed
    message (payload_in message (octets bytes)) receiver) (sym e) refl

given-joins : (m : FragMode) (t : Talk) (message : Message) (payload : List Bool)
    (joined : Option (List Bool)) (sent : Option ReportKind) (receiver : Receiver)
    (g : IsGiven m t message payload joined sent receiver)
    → joined_reading g.bytes t.reception.receiver (reading_in m side.Fragments g.bytes) ≡ joined
given-joins m t message payload joined sent receiver g =
    joined-is g.bytes t.reception.receiver (reading_in m side.Fragments g.bytes) message g.read
    ∙ ap (λ (p : List Bool). receiver_previewed message p t.reception.receiver) g.payload_is
    ∙ g.joins

given-takes : (m : FragMode) (ticks : TimerTicks) (t : Talk) (message : Message)
    (payload : List Bool) (joined : Option (List Bool)) (sent : Option ReportKind)
    (receiver : Receiver) (g : IsGiven m t message payload joined sent receiver)
    → (talk_sent m ticks t g.bytes).reception.receiver ≡ receiver
unfolding talk_sent
given-takes m ticks t message payload joined sent receiver g =
    took-is ticks g.bytes t.reception (reading_in m side.Fragments g.bytes) message g.read
    ∙ ap (λ (p : List Bool). (receiver_taken message p t.reception.receiver).0) g.payload_is
    ∙ g.takes

sent-sender : (m : FragMode) (ticks : TimerTicks) (t : Talk) (bytes : List ℕ)
    → (talk_sent m ticks t bytes).session.sender ≡ sender_sent t.session.sender
unfolding talk_sent session_sent session_moved
sent-sender m ticks t bytes = refl

silent-is : (m : FragMode) (ticks : TimerTicks) (t : Talk) (due : Option (List ℕ)) → due ≡ None
    → talk_answered m ticks t due ≡ (t, None)
unfolding talk_answered
silent-is m ticks t due e =
    subst (λ (o : Option (List ℕ)). talk_answered m ticks t o ≡ (t, None)) (sym e) refl

-- a round without an answer
pub silent-round : (m : FragMode) (ticks : TimerTicks) (t : Talk) (message : Message)
    (payload : List Bool) (joined : Option (List Bool)) (sent : Option ReportKind)
    (receiver : Receiver) → IsGiven m t message payload joined sent receiver
    → receiver_due receiver ≡ None
    → Leads m ticks t joined sent None (sender_sent t.session.sender) receiver
unfolding talk_round
silent-round m ticks t message payload joined sent receiver g quiet =
    let s : Talk = talk_sent m ticks t g.bytes in
    let takes : s.reception.receiver ≡ receiver =
    given-takes m ticks t message payload joined sent receiver g in
    record {
      after = s;
      round =
          record {
            sending = g.sending;
            bytes = g.bytes;
            due = g.due;
            joins = given-joins m t message payload joined sent receiver g;
            sends = g.sends;
            round = silent-is m ticks s (receiver_due s.reception.receiver)
                (ap receiver_due takes ∙ quiet);
            rests = ap receiver_due takes ∙ quiet;
          };
      sender_is = sent-sender m ticks t g.bytes;
      receiver_is = takes;
    }

-- the session and the receiver after an answer
abbrev heard_talk : TimerTicks → Talk → Message → Talk
heard_talk ticks t ack =
    record {
      session = (session_heard ticks ack t.session).0;
      reception =
          reception_answered t.reception;
    }

heard-is : (m : FragMode) (ticks : TimerTicks) (t : Talk) (due : Option (List ℕ)) (answer : List ℕ)
    (ack : Message) → due ≡ Some answer → reading_in m side.Answers answer ≡ Ok ack
    → talk_answered m ticks t
    due ≡ (heard_talk ticks t ack, heard_kind (session_heard ticks ack t.session).1)
unfolding talk_answered heard_reading
heard-is m ticks t due answer ack e read =
    ap (talk_answered m ticks t) e
    ∙ ap (λ (r : Result Message WireFault). (
      record {
        session = (heard_reading ticks t.session r).0;
        reception =
            reception_answered t.reception;
      },
      (heard_reading ticks t.session r).1,
    )) read

heard-sender : (ticks : TimerTicks) (session : Session) (ack : Message) (before after : Sender)
    (h : Heard) → session.sender ≡ before → sender_heard ack before ≡ (after, h)
    → ((session_heard ticks ack session).0.sender ≡ after)
    × (heard_kind (session_heard ticks ack session).1 ≡ heard_kind h)
unfolding session_heard session_moved
heard-sender ticks session ack before after h same e =
    let step : sender_heard ack session.sender ≡ (after, h) = ap (sender_heard ack) same ∙ e in
    (ap (λ (s : Sender × Heard). s.0) step, ap (λ (s : Sender × Heard). heard_kind s.1) step)

answered-receiver : (reception : Reception) (receiver : Receiver) → reception.receiver ≡ receiver
    → (reception_answered reception).receiver ≡ receiver_answered receiver
unfolding reception_answered
answered-receiver reception receiver e = ap receiver_answered e

pair-right : {A B : Type 0} (a : A) (x y : B) → x ≡ y → ◌≡◌ {A = A × B} (a, x) (a, y)
pair-right a x y e = ap (λ b. (a, b)) e

-- an answer that was given isn't due any more
pub answered-rests : (receiver : Receiver) → receiver_due (receiver_answered receiver) ≡ None
unfolding receiver_due receiver_answered aa_step.answered aa_step.due_answer aoe_step.answered
    aoe_step.due_answer aoe_step.due_bytes
answered-rests (receivers.NoAck r) = refl
answered-rests (receivers.AckAlways (aa.Empty abort)) = refl
answered-rests (receivers.AckAlways (aa.Gathering bits count answer)) = refl
answered-rests (receivers.AckAlways (aa.Finished last answer)) = refl
answered-rests (receivers.AckOnError (aoe.Empty abort)) = refl
answered-rests (receivers.AckOnError (aoe.Gathering tiles kept answer)) = refl
answered-rests (receivers.AckOnError (aoe.Finished tiles last answer)) = refl

-- a receiver that is empty and has nothing due is one that keeps nothing
pub empty-new : (m : FragMode) (receiver : Receiver) → receiver_mode receiver ≡ m
    → receiver_phase receiver ≡ receiver_phases.Empty → receiver_due receiver ≡ None
    → receiver ≡ new_receiver m
unfolding receiver_phase receiver_due new_receiver aa_step.due_answer aoe.receiver_phase
    aoe.empty_receiver aoe_step.due_answer aoe_step.due_bytes
empty-new m (receivers.NoAck no_ack.Empty) e p d = ap new_receiver e
empty-new m (receivers.NoAck (no_ack.Gathering kept)) e p d = absurd cc
empty-new m (receivers.AckAlways (aa.Empty true)) e p d = absurd cc
empty-new m (receivers.AckAlways (aa.Empty false)) e p d = ap new_receiver e
empty-new m (receivers.AckAlways (aa.Gathering bits count answer)) e p d = absurd cc
empty-new m (receivers.AckAlways (aa.Finished last answer)) e p d = absurd cc
empty-new m (receivers.AckOnError (aoe.Empty true)) e p d = absurd cc
empty-new m (receivers.AckOnError (aoe.Empty false)) e p d = ap new_receiver e
empty-new m (receivers.AckOnError (aoe.Gathering tiles kept answer)) e p d = absurd cc
empty-new m (receivers.AckOnError (aoe.Finished tiles last answer)) e p d = absurd cc

-- a round with an answer
pub answered-round : (m : FragMode) (ticks : TimerTicks) (t : Talk) (message : Message)
    (payload : List Bool) (joined : Option (List Bool)) (sent : Option ReportKind)
    (receiver : Receiver) → IsGiven m t message payload joined sent receiver →
    (answer : List ℕ) (ack : Message) (to : Sender) (h : Heard)
    → receiver_due receiver ≡ Some answer → reading_in m side.Answers answer ≡ Ok ack
    → sender_heard ack (sender_sent t.session.sender) ≡ (to, h)
    → Leads m ticks t joined sent (heard_kind h) to (receiver_answered receiver)
unfolding talk_round
answered-round m ticks t message payload joined sent receiver g answer ack to h due read hears =
    let s : Talk = talk_sent m ticks t g.bytes in
    let takes : s.reception.receiver ≡ receiver =
    given-takes m ticks t message payload joined sent receiver g in
    let sender =
    heard-sender ticks s.session ack (sender_sent t.session.sender) to h
    (sent-sender m ticks t g.bytes) hears in
    record {
      after = heard_talk ticks s ack;
      round =
          record {
            sending = g.sending;
            bytes = g.bytes;
            due = g.due;
            joins = given-joins m t message payload joined sent receiver g;
            sends = g.sends;
            round =
                heard-is m ticks s (receiver_due s.reception.receiver) answer ack
                (ap receiver_due takes ∙ due) read
                ∙ pair-right (heard_talk ticks s ack)
                (heard_kind (session_heard ticks ack s.session).1) (heard_kind h) sender.1;
            rests = ap receiver_due (answered-receiver s.reception receiver takes)
                ∙ answered-rests receiver;
          };
      sender_is = sender.0;
      receiver_is = answered-receiver s.reception receiver takes;
    }
