-- A session of which nothing is lost stays that of its packet, and the message by which its packet
-- is joined is an All-1.
use Rattle.std.proofs.Common.{◌≡◌, ℕ, Bool, List, [], ◌∷◌, Option, Some, None, option_map, Result}
use Rattle.std.proofs.Common.{Ok, Err, refl, sym, ap, subst, ◌∙◌}
use Rattle.schc_bits.specs.Bits.{octets}
use Rattle.schc_ids.specs.declared.ends.TimerTicks.{TimerTicks}
use Rattle.schc_ids.specs.declared.faults.WireFault.{WireFault}
use Rattle.schc_ids.specs.declared.fragments.FragMode.{FragMode}
use Rattle.schc_ids.specs.declared.fragments.FragMode.TheVariants as mode
use Rattle.schc_ids.specs.declared.fragments.FragParams.{FragParams}
use Rattle.schc_ids.specs.declared.fragments.Side.TheVariants as side
use Rattle.schc_ids.specs.declared.notes.ReportKind.{ReportKind}
use Rattle.frag_wire.specs.Layouts.{payload_in, written}
use Rattle.frag_wire.specs.Spells.{reading_in}
use Rattle.frag_wire.specs.declared.message.Message.{Message}
use Rattle.frag_wire.specs.declared.message.Message.TheVariants as form
use Rattle.frag_wire.proofs.ReadingLemmas.{reading-spelled}
use Rattle.no_ack.specs.ReceiverState as no_ack
use Rattle.no_ack.specs.ReceiverSteps as no_ack_step
use Rattle.aa_receiver.specs.State as aa
use Rattle.aa_receiver.specs.Steps as aa_step
use Rattle.aoe_receiver.specs.State as aoe
use Rattle.aoe_receiver.specs.Steps as aoe_step
use Rattle.aoe_sender.specs.State.{AoeSenderData, AoeSenderState, Sending, Waiting, Closing, Quiet}
use Rattle.aoe_sender.specs.Steps as aoe_sends
use Rattle.aoe_sender.proofs.LawsLemmas.{spells-due}
use Rattle.sessions.specs.Receivers.{receiver_mode, receiver_taken, receiver_previewed}
use Rattle.sessions.specs.Receivers.{receiver_due, receiver_answered}
use Rattle.sessions.specs.Reception.{Reception, reception_taken, reception_answered}
use Rattle.sessions.specs.Senders.{sender_due}
use Rattle.sessions.specs.Session.{Session, session_moved, session_sent, session_heard}
use Rattle.sessions.specs.declared.receivers.Receiver.{Receiver}
use Rattle.sessions.specs.declared.receivers.Receiver.TheVariants as receivers
use Rattle.sessions.specs.declared.senders.Sender.{Sender}
use Rattle.sessions.specs.declared.senders.Sender.TheVariants as senders
use Rattle.lanes.specs.Lane.{LaneParams}
use Rattle.lanes.specs.Rounds.{Talk, took_reading, joined_reading, heard_reading, talk_sent}
use Rattle.lanes.specs.Rounds.{talk_answered, talk_round, IsRound}
use Rattle.lanes.proofs.SenderLemmas.{IsSenderOf, sent-is, heard-is}

-- the session is that of these bits, and the receiver is one of its mode
pub record IsTalkOf (params : LaneParams) (bits : List Bool) (t : Talk) : Type 0 where
  pub sender : IsSenderOf params bits t.session.sender
  pub mode_is : receiver_mode t.reception.receiver ≡ params.frag.mode

-- A round keeps it.

taken-mode : (message : Message) (payload : List Bool) (r : Receiver) →
    receiver_mode (receiver_taken message payload r).0 ≡ receiver_mode r
unfolding receiver_taken
taken-mode message payload (receivers.NoAck r) = refl
taken-mode message payload (receivers.AckAlways r) = refl
taken-mode message payload (receivers.AckOnError r) = refl

answered-mode : (r : Receiver) → receiver_mode (receiver_answered r) ≡ receiver_mode r
unfolding receiver_answered
answered-mode (receivers.NoAck r) = refl
answered-mode (receivers.AckAlways r) = refl
answered-mode (receivers.AckOnError r) = refl

took-mode : (ticks : TimerTicks) (bytes : List ℕ) (r : Reception)
    (reading : Result Message WireFault) →
    receiver_mode (took_reading ticks bytes r reading).receiver ≡ receiver_mode r.receiver
unfolding took_reading reception_taken
took-mode ticks bytes r (Err fault) = refl
took-mode ticks bytes r (Ok message) =
    taken-mode message (payload_in message (octets bytes)) r.receiver

heard-of : (params : LaneParams) (bits : List Bool) (ticks : TimerTicks) (session : Session)
    (reading : Result Message WireFault) → IsSenderOf params bits session.sender →
    IsSenderOf params bits (heard_reading ticks session reading).0.sender
unfolding heard_reading session_heard session_moved
heard-of params bits ticks session (Err fault) k = k
heard-of params bits ticks session (Ok message) k = heard-is params bits message session.sender k

sent-of : (params : LaneParams) (bits : List Bool) (m : FragMode) (ticks : TimerTicks) (t : Talk)
    (bytes : List ℕ) → IsTalkOf params bits t → IsTalkOf params bits (talk_sent m ticks t bytes)
unfolding talk_sent session_sent session_moved
sent-of params bits m ticks t bytes k =
    record {
      sender = sent-is params bits t.session.sender k.sender;
      mode_is = took-mode ticks bytes t.reception (reading_in m side.Fragments bytes) ∙ k.mode_is;
    }

answered-of : (params : LaneParams) (bits : List Bool) (m : FragMode) (ticks : TimerTicks)
    (t : Talk) (due : Option (List ℕ)) → IsTalkOf params bits t →
    IsTalkOf params bits (talk_answered m ticks t due).0
unfolding talk_answered reception_answered
answered-of params bits m ticks t None k = k
answered-of params bits m ticks t (Some bytes) k =
    record {
      sender = heard-of params bits ticks t.session (reading_in m side.Answers bytes) k.sender;
      mode_is = answered-mode t.reception.receiver ∙ k.mode_is;
    }

-- after a round the session is still that of these bits, and the receiver still one of its mode
pub round-of : (params : LaneParams) (bits : List Bool) (m : FragMode) (ticks : TimerTicks)
    (t after : Talk) (joined : Option (List Bool)) (sent told : Option ReportKind) →
    IsRound m ticks t joined sent told after → IsTalkOf params bits t → IsTalkOf params bits after
unfolding talk_round
round-of params bits m ticks t after joined sent told r k =
    let s : Talk = talk_sent m ticks t r.bytes in
    subst (λ (x : Talk × Option ReportKind). IsTalkOf params bits x.0) r.round
    (answered-of params bits m ticks s (receiver_due s.reception.receiver)
    (sent-of params bits m ticks t r.bytes k))

-- The message that joins.

abbrev pub IsAll1 : Message → Type 0
IsAll1 (form.All1 w rcs from) = Unit {0}
IsAll1 (form.Regular w fcn from) = ⊥
IsAll1 (form.Ack w c bitmap) = ⊥
IsAll1 (form.AckReq w) = ⊥
IsAll1 form.SenderAbort = ⊥
IsAll1 form.ReceiverAbort = ⊥

abbrev IsAckReq : Message → Type 0
IsAckReq (form.AckReq w) = Unit {0}
IsAckReq (form.All1 w rcs from) = ⊥
IsAckReq (form.Regular w fcn from) = ⊥
IsAckReq (form.Ack w c bitmap) = ⊥
IsAckReq form.SenderAbort = ⊥
IsAckReq form.ReceiverAbort = ⊥

no_ack-joins : (message : Message) (payload : List Bool) (r : no_ack.NoAckReceiverData)
    (packet : List Bool) → no_ack_step.previewed message payload r ≡ Some packet → IsAll1 message
unfolding no_ack_step.previewed no_ack_step.completes
no_ack-joins (form.All1 w rcs from) payload r packet e = tt
no_ack-joins (form.Regular w fcn from) payload r packet e = absurd cc
no_ack-joins (form.Ack w c bitmap) payload r packet e = absurd cc
no_ack-joins (form.AckReq w) payload r packet e = absurd cc
no_ack-joins form.SenderAbort payload r packet e = absurd cc
no_ack-joins form.ReceiverAbort payload r packet e = absurd cc

aa-joins : (message : Message) (payload : List Bool) (r : aa.AaReceiverData) (packet : List Bool) →
    aa_step.previewed message payload r ≡ Some packet → IsAll1 message
unfolding aa_step.previewed
aa-joins (form.All1 w rcs from) payload r packet e = tt
aa-joins (form.Regular w fcn from) payload r packet e = absurd cc
aa-joins (form.Ack w c bitmap) payload r packet e = absurd cc
aa-joins (form.AckReq w) payload r packet e = absurd cc
aa-joins form.SenderAbort payload r packet e = absurd cc
aa-joins form.ReceiverAbort payload r packet e = absurd cc

-- in ACK-on-Error the check is made at an ACK REQ too
aoe-joins : (message : Message) (payload : List Bool) (r : aoe.AoeReceiverData)
    (packet : List Bool) → (IsAckReq message → ⊥) →
    aoe_step.previewed message payload r ≡ Some packet → IsAll1 message
unfolding aoe_step.previewed aoe_step.check_made aoe_step.if_passed
aoe-joins (form.All1 w rcs from) payload r packet none e = tt
aoe-joins (form.Regular w fcn from) payload r packet none e = absurd cc
aoe-joins (form.Ack w c bitmap) payload r packet none e = absurd cc
aoe-joins (form.AckReq w) payload r packet none e = absurd (none tt)
aoe-joins form.SenderAbort payload r packet none e = absurd cc
aoe-joins form.ReceiverAbort payload r packet none e = absurd cc

-- but no sender of that mode asks by one
aoe-asks : (s : AoeSenderData) (state : AoeSenderState) (due : Message × List Bool) →
    aoe_sends.due_in s state ≡ Some due → IsAckReq due.0 → ⊥
unfolding aoe_sends.due_in aoe_sends.all1 aoe_sends.regular
aoe-asks s (Sending [] attempts) due e is = let same : aoe_sends.all1 s ≡ due = cc in
    subst (λ (d : Message × List Bool). IsAckReq d.0) (sym same) is
aoe-asks s (Sending (number ∷ numbers) attempts) due e is =
    let same : aoe_sends.regular s number (aoe_sends.run_after s number numbers).0 ≡ due = cc in
    subst (λ (d : Message × List Bool). IsAckReq d.0) (sym same) is
aoe-asks s (Waiting attempts) due e is = absurd cc
aoe-asks s Closing due e is = let same : ◌≡◌ {A = Message × List Bool} (form.SenderAbort, []) due =
    cc in subst (λ (d : Message × List Bool). IsAckReq d.0) (sym same) is
aoe-asks s Quiet due e is = absurd cc

due-asks : (s : AoeSenderData) (o : Option (Message × List Bool)) (bytes : List ℕ)
    (message : Message) → aoe_sends.IsAoeSender s → aoe_sends.due_message s ≡ o →
    option_map (λ due. written s.params due.0 due.1) o ≡ Some bytes →
    reading_in mode.AckOnError side.Fragments bytes ≡ Ok message → IsAckReq message → ⊥
unfolding aoe_sends.due_message
due-asks s None bytes message i none e read is = absurd cc
due-asks s (Some due) bytes message i there e read is =
    let spelt = (reading-spelled s.params.mode side.Fragments due.0 due.1
    (written s.params due.0 due.1) (spells-due s due i there)).0 in
    let in_mode : reading_in mode.AckOnError side.Fragments (written s.params due.0 due.1) ≡
    Ok due.0 = subst
    (λ (p : FragParams). reading_in p.mode side.Fragments (written s.params due.0 due.1) ≡
    Ok due.0) i.row spelt in
    aoe-asks s s.state due there
    (subst IsAckReq (same bytes (written s.params due.0 due.1) e read in_mode) is)
  where
    same : (bytes other : List ℕ) → Some other ≡ Some bytes →
        reading_in mode.AckOnError side.Fragments bytes ≡ Ok message →
        reading_in mode.AckOnError side.Fragments other ≡ Ok due.0 → message ≡ due.0
    same bytes other e read spelt = let one : other ≡ bytes = cc in
        let both : Ok message ≡ Ok due.0 =
        sym read ∙ ap (reading_in mode.AckOnError side.Fragments) (sym one) ∙ spelt in cc

sender-asks : (params : LaneParams) (bits : List Bool) (sender : Sender) (bytes : List ℕ)
    (message : Message) → IsSenderOf params bits sender → mode.AckOnError ≡ params.frag.mode →
    sender_due sender ≡ Some bytes →
    reading_in mode.AckOnError side.Fragments bytes ≡ Ok message → IsAckReq message → ⊥
unfolding sender_due aoe_sends.due_bytes
sender-asks params bits (senders.NoAck s) bytes message k e due read is =
    let other : mode.NoAck ≡ params.frag.mode =
    ap (λ (p : FragParams). p.mode) (sym k.sound.row ∙ k.row) in absurd cc
sender-asks params bits (senders.AckAlways s) bytes message k e due read is =
    let other : mode.AckAlways ≡ params.frag.mode =
    ap (λ (p : FragParams). p.mode) (sym k.sound.row ∙ k.row) in absurd cc
sender-asks params bits (senders.AckOnError s) bytes message k e due read is =
    due-asks s (aoe_sends.due_message s) bytes message k.sound refl due read is

previewed-all1 : (params : LaneParams) (bits : List Bool) (sender : Sender) (receiver : Receiver)
    (bytes : List ℕ) (message : Message) (payload packet : List Bool) →
    IsSenderOf params bits sender → receiver_mode receiver ≡ params.frag.mode →
    sender_due sender ≡ Some bytes →
    reading_in params.frag.mode side.Fragments bytes ≡ Ok message →
    receiver_previewed message payload receiver ≡ Some packet → IsAll1 message
unfolding receiver_previewed
previewed-all1 params bits sender (receivers.NoAck r) bytes message payload packet k e due read
    joins = no_ack-joins message payload r packet joins
previewed-all1 params bits sender (receivers.AckAlways r) bytes message payload packet k e due read
    joins = aa-joins message payload r packet joins
previewed-all1 params bits sender (receivers.AckOnError r) bytes message payload packet k e due read
    joins =
    aoe-joins message payload r packet
    (sender-asks params bits sender bytes message k e due
    (ap (λ m. reading_in m side.Fragments bytes) e ∙ read)) joins

-- the message by which the packet is joined
abbrev pub ReadsAll1 : Result Message WireFault → Type 0
ReadsAll1 (Ok message) = IsAll1 message
ReadsAll1 (Err fault) = ⊥

reading-all1 : (params : LaneParams) (bits : List Bool) (t : Talk) (bytes : List ℕ)
    (packet : List Bool) (reading : Result Message WireFault) → IsTalkOf params bits t →
    sender_due t.session.sender ≡ Some bytes →
    reading_in params.frag.mode side.Fragments bytes ≡ reading →
    joined_reading bytes t.reception.receiver reading ≡ Some packet → ReadsAll1 reading
unfolding joined_reading
reading-all1 params bits t bytes packet (Err fault) k due read joins = absurd cc
reading-all1 params bits t bytes packet (Ok message) k due read joins =
    previewed-all1 params bits t.session.sender t.reception.receiver bytes message
    (payload_in message (octets bytes)) packet k.sender k.mode_is due read joins

-- where the message that the session has due joins a packet at the receiver, it is read as an All-1
pub joins-all1 : (params : LaneParams) (bits : List Bool) (t : Talk) (bytes : List ℕ)
    (packet : List Bool) → IsTalkOf params bits t → sender_due t.session.sender ≡ Some bytes →
    joined_reading bytes t.reception.receiver (reading_in params.frag.mode side.Fragments bytes) ≡
    Some packet → ReadsAll1 (reading_in params.frag.mode side.Fragments bytes)
joins-all1 params bits t bytes packet k due joins =
    reading-all1 params bits t bytes packet (reading_in params.frag.mode side.Fragments bytes) k due
    refl joins
