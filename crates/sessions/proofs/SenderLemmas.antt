-- What the steps of a sender keep: its parameters, the bytes of its frames and its bits.
use Rattle.std.specs.Prelude.{ℕ, ◌≡◌, ◌==◌, nat_le, nat_lt, Bool, true, false, List, [], ◌∷◌}
use Rattle.std.specs.Prelude.{Option, Some, None, option_map}
use Rattle.std.proofs.Common.{refl, ap}
use Rattle.schc_bits.specs.Bits.{number_bits}
use Rattle.schc_ids.specs.Limits.{max_ack_requests}
use Rattle.schc_ids.specs.declared.ends.LastTile.{LastTile}
use Rattle.schc_ids.specs.declared.ends.TimerTicks.{TimerTicks}
use Rattle.schc_ids.specs.declared.fragments.FragMode.{FragMode}
use Rattle.schc_ids.specs.declared.fragments.FragMode.TheVariants as mode
use Rattle.schc_ids.specs.declared.fragments.FragParams.{FragParams}
use Rattle.schc_ids.specs.declared.notes.Heard.{Heard}
use Rattle.schc_ids.specs.declared.phases.SenderPhase.{SenderPhase}
use Rattle.schc_ids.specs.declared.phases.SenderPhase.TheVariants as phase
use Rattle.frag_wire.specs.Layouts.{written}
use Rattle.frag_wire.specs.declared.message.Message.{Message}
use Rattle.frag_wire.specs.declared.message.Message.TheVariants as form
use Rattle.no_ack.specs.SenderState as no_ack
use Rattle.no_ack.specs.SenderSteps as no_ack_step
use Rattle.no_ack.specs.declared.states.NoAckSenderState.{NoAckSenderState}
use Rattle.no_ack.specs.declared.states.NoAckSenderState.TheVariants as na
use Rattle.aa_sender.specs.State as aa
use Rattle.aa_sender.specs.Steps as aa_step
use Rattle.aa_sender.specs.declared.states.AaSenderState.{AaSenderState}
use Rattle.aa_sender.specs.declared.states.AaSenderState.TheVariants as aas
use Rattle.aoe_sender.specs.State as aoe
use Rattle.aoe_sender.specs.Steps as aoe_step
use Rattle.aoe_sender.specs.Steps.{moves, stays, asked_last, asked, confirmed, acked, heard_in}
use Rattle.aoe_sender.specs.Steps.{heard, repeated, retried_in, retried, aborted_in, aborted, sent}
use Rattle.aoe_sender.specs.Tiles.{regular_count, window_size, last_window}
use Rattle.sessions.specs.Holds.{is_armed, sender_timed}
use Rattle.sessions.specs.Senders.{sender_begun, sender_params, sender_mtu, sender_bits}
use Rattle.sessions.specs.Senders.{sender_phase, sender_due, sender_sent, sender_heard}
use Rattle.sessions.specs.Senders.{sender_retried, sender_aborted}
use Rattle.sessions.specs.Session.{sender_left}
use Rattle.sessions.specs.declared.senders.Sender.{Sender}
use Rattle.sessions.specs.declared.senders.Sender.TheVariants.{NoAck, AckAlways, AckOnError}

-- the steps of the ACK-on-Error sender change where it stands alone
record Stands (s t : aoe.AoeSenderData) : Type 0 where
  params : t.params ≡ s.params
  mtu : t.mtu ≡ s.mtu
  bits : t.bits ≡ s.bits

stands-moves : (s : aoe.AoeSenderData) (state : aoe.AoeSenderState) (h : Heard)
    → Stands s (moves s state h).0
unfolding moves
stands-moves s state h = record { params = refl; mtu = refl; bits = refl }

stands-stays : (s : aoe.AoeSenderData) → Stands s (stays s).0
unfolding stays
stands-stays s = record { params = refl; mtu = refl; bits = refl }

stands-asked_last : (s : aoe.AoeSenderData) (numbers : List ℕ) (came : Bool)
    → Stands s (asked_last s numbers came).0
unfolding asked_last
stands-asked_last s [] true = stands-moves s _ _
stands-asked_last s [] false = stands-moves s _ _
stands-asked_last s (number ∷ numbers) came = stands-moves s _ _

stands-asked : (s : aoe.AoeSenderData) (w : ℕ) (bits : List Bool) (x y : Bool)
    → Stands s (asked s w bits x y).0
unfolding asked
stands-asked s w bits true y = stands-asked_last s _ _
stands-asked s w bits false true = stands-moves s _ _
stands-asked s w bits false false = stands-stays s

stands-confirmed : (s : aoe.AoeSenderData) (x : Bool) → Stands s (confirmed s x).0
unfolding confirmed
stands-confirmed s true = stands-moves s _ _
stands-confirmed s false = stands-stays s

stands-acked : (s : aoe.AoeSenderData) (w : ℕ) (c : Bool) (bitmap : ℕ)
    → Stands s (acked s w c bitmap).0
unfolding acked
stands-acked s w true bitmap = stands-confirmed s _
stands-acked s w false bitmap = stands-asked s w _ _ _

stands-heard_in : (message : Message) (s : aoe.AoeSenderData) (state : aoe.AoeSenderState)
    → Stands s (heard_in message s state).0
unfolding heard_in
stands-heard_in (form.Ack w c bitmap) s (aoe.Waiting attempts) = stands-acked s w c bitmap
stands-heard_in (form.Ack w c bitmap) s (aoe.Sending numbers attempts) = stands-stays s
stands-heard_in (form.Ack w c bitmap) s aoe.Closing = stands-stays s
stands-heard_in (form.Ack w c bitmap) s aoe.Quiet = stands-stays s
stands-heard_in form.ReceiverAbort s (aoe.Sending numbers attempts) = stands-moves s _ _
stands-heard_in form.ReceiverAbort s (aoe.Waiting attempts) = stands-moves s _ _
stands-heard_in form.ReceiverAbort s aoe.Closing = stands-stays s
stands-heard_in form.ReceiverAbort s aoe.Quiet = stands-stays s
stands-heard_in (form.Regular w fcn from) s state = stands-stays s
stands-heard_in (form.All1 w rcs from) s state = stands-stays s
stands-heard_in (form.AckReq w) s state = stands-stays s
stands-heard_in form.SenderAbort s state = stands-stays s

stands-repeated : (s : aoe.AoeSenderData) (attempts : ℕ) (more : Bool)
    → Stands s (repeated s attempts more).0
unfolding repeated
stands-repeated s attempts true = stands-moves s _ _
stands-repeated s attempts false = stands-moves s _ _

stands-retried_in : (s : aoe.AoeSenderData) (state : aoe.AoeSenderState)
    → Stands s (retried_in s state).0
unfolding retried_in
stands-retried_in s (aoe.Waiting attempts) = stands-repeated s attempts _
stands-retried_in s (aoe.Sending numbers attempts) = stands-stays s
stands-retried_in s aoe.Closing = stands-stays s
stands-retried_in s aoe.Quiet = stands-stays s

stands-aborted_in : (s : aoe.AoeSenderData) (state : aoe.AoeSenderState)
    → Stands s (aborted_in s state).0
unfolding aborted_in
stands-aborted_in s (aoe.Waiting attempts) = stands-moves s _ _
stands-aborted_in s (aoe.Sending numbers attempts) = stands-moves s _ _
stands-aborted_in s aoe.Closing = stands-stays s
stands-aborted_in s aoe.Quiet = stands-stays s

-- a sender of whatever mode goes on with the same session
pub record GoesOn (s t : Sender) : Type 0 where
  pub params : sender_params t ≡ sender_params s
  pub mtu : sender_mtu t ≡ sender_mtu s
  pub bits : sender_bits t ≡ sender_bits s

from-stands : (s t : aoe.AoeSenderData) → Stands s t → GoesOn (AckOnError s) (AckOnError t)
from-stands s t h = record { params = h.params; mtu = h.mtu; bits = h.bits }

-- a sender that gives its message keeps its parameters, its MTU and its bits
pub sent-goes : (s : Sender) → GoesOn s (sender_sent s)
unfolding sender_sent no_ack_step.sent aa_step.sent sent
sent-goes (NoAck s) = record { params = refl; mtu = refl; bits = refl }
sent-goes (AckAlways s) = record { params = refl; mtu = refl; bits = refl }
sent-goes (AckOnError s) = record { params = refl; mtu = refl; bits = refl }

-- a sender that hears a message keeps its parameters, its MTU and its bits
pub heard-goes : (message : Message) (s : Sender) → GoesOn s (sender_heard message s).0
unfolding sender_heard aa_step.heard heard
heard-goes message (NoAck s) = record { params = refl; mtu = refl; bits = refl }
heard-goes message (AckAlways s) = record { params = refl; mtu = refl; bits = refl }
heard-goes message (AckOnError s) = from-stands s _ (stands-heard_in message s s.state)

-- a sender whose retransmission timer is due keeps its parameters, its MTU and its bits
pub retried-goes : (s : Sender) → GoesOn s (sender_retried s).0
unfolding sender_retried aa_step.retried retried
retried-goes (NoAck s) = record { params = refl; mtu = refl; bits = refl }
retried-goes (AckAlways s) = record { params = refl; mtu = refl; bits = refl }
retried-goes (AckOnError s) = from-stands s _ (stands-retried_in s s.state)

-- a sender that is told to abort keeps its parameters, its MTU and its bits
pub aborted-goes : (s : Sender) → GoesOn s (sender_aborted s).0
unfolding sender_aborted no_ack_step.aborted aa_step.aborted aborted
aborted-goes (NoAck s) = record { params = refl; mtu = refl; bits = refl }
aborted-goes (AckAlways s) = record { params = refl; mtu = refl; bits = refl }
aborted-goes (AckOnError s) = from-stands s _ (stands-aborted_in s s.state)

-- a session that begins is sending, and a message is due
pub begun-params : (m : FragMode) (params : FragParams) (mtu : ℕ) (last : LastTile)
    (bits : List Bool) → sender_params (sender_begun m params mtu last bits) ≡ params
unfolding sender_begun aoe_step.begun
begun-params mode.NoAck params mtu last bits = refl
begun-params mode.AckAlways params mtu last bits = refl
begun-params mode.AckOnError params mtu last bits = refl

-- in each mode a sender begins with the MTU that it is given
pub begun-mtu : (m : FragMode) (params : FragParams) (mtu : ℕ) (last : LastTile) (bits : List Bool)
    → sender_mtu (sender_begun m params mtu last bits) ≡ mtu
unfolding sender_begun aoe_step.begun
begun-mtu mode.NoAck params mtu last bits = refl
begun-mtu mode.AckAlways params mtu last bits = refl
begun-mtu mode.AckOnError params mtu last bits = refl

-- in each mode a sender begins with the bits that it is given
pub begun-bits : (m : FragMode) (params : FragParams) (mtu : ℕ) (last : LastTile) (bits : List Bool)
    → sender_bits (sender_begun m params mtu last bits) ≡ bits
unfolding sender_begun aoe_step.begun
begun-bits mode.NoAck params mtu last bits = refl
begun-bits mode.AckAlways params mtu last bits = refl
begun-bits mode.AckOnError params mtu last bits = refl

-- in each mode a sender that begins is sending
pub begun-phase : (m : FragMode) (params : FragParams) (mtu : ℕ) (last : LastTile)
    (bits : List Bool) → sender_phase (sender_begun m params mtu last bits) ≡ phase.Sending
unfolding sender_begun sender_phase aoe_step.begun aoe_step.sender_phase aoe_step.phase_in
begun-phase mode.NoAck params mtu last bits = refl
begun-phase mode.AckAlways params mtu last bits = refl
begun-phase mode.AckOnError params mtu last bits = refl

due-aoe : (s : aoe.AoeSenderData) (numbers : List ℕ)
    → option_map (λ due. written s.params due.0 due.1)
    (aoe_step.due_in s (aoe.Sending numbers 0)) ≡ None → ⊥
unfolding aoe_step.due_in
due-aoe s [] e = absurd cc
due-aoe s (number ∷ numbers) e = absurd cc

-- in each mode a sender that begins has a message due
pub begun-due : (m : FragMode) (params : FragParams) (mtu : ℕ) (last : LastTile) (bits : List Bool)
    → sender_due (sender_begun m params mtu last bits) ≡ None → ⊥
unfolding sender_begun sender_due aoe_step.begun aoe_step.due_bytes aoe_step.due_message
    no_ack_step.due_message no_ack_step.due_in aa_step.due_message aa_step.due_in
begun-due mode.NoAck params mtu last bits e = absurd cc
begun-due mode.AckAlways params mtu last bits e = absurd cc
begun-due mode.AckOnError params mtu last bits e = due-aoe _ _ e

-- where nothing is due, nothing changes
still-no_ack : (s : no_ack.NoAckSenderData) (state : NoAckSenderState) → s.state ≡ state
    → option_map (no_ack_step.bytes_due s.params) (no_ack_step.due_in s state) ≡ None
    → no_ack_step.sent_in (no_ack.last_index s) state ≡ state
unfolding no_ack_step.due_in no_ack_step.sent_in
still-no_ack s (na.Sending i) h e = absurd cc
still-no_ack s na.Closing h e = absurd cc
still-no_ack s na.Quiet h e = refl

still-aa : (s : aa.AaSenderData) (state : AaSenderState)
    → option_map (aa_step.bytes_due s.params) (aa_step.due_in s state) ≡ None
    → aa_step.sent_in state ≡ state
unfolding aa_step.due_in aa_step.sent_in
still-aa s (aas.Sending i ack_req attempts) e = absurd cc
still-aa s (aas.Waiting i attempts) e = refl
still-aa s aas.Closing e = absurd cc
still-aa s aas.Quiet e = refl

still-aoe : (s : aoe.AoeSenderData) (state : aoe.AoeSenderState)
    → option_map (λ due. written s.params due.0 due.1) (aoe_step.due_in s state) ≡ None
    → aoe_step.sent_in s state ≡ state
unfolding aoe_step.due_in aoe_step.sent_in
still-aoe s (aoe.Sending [] attempts) e = absurd cc
still-aoe s (aoe.Sending (number ∷ numbers) attempts) e = absurd cc
still-aoe s (aoe.Waiting attempts) e = refl
still-aoe s aoe.Closing e = absurd cc
still-aoe s aoe.Quiet e = refl

-- a sender of which nothing is due is the same after giving a message
pub sent-still : (s : Sender) → sender_due s ≡ None → sender_sent s ≡ s
unfolding sender_due sender_sent no_ack_step.due_message aa_step.due_message aoe_step.due_bytes
    aoe_step.due_message no_ack_step.sent aa_step.sent sent
sent-still (NoAck s) e =
    ap (λ state. NoAck (record s { state = state })) (still-no_ack s s.state refl e)
sent-still (AckAlways s) e =
    ap (λ state. AckAlways (record s { state = state })) (still-aa s s.state e)
sent-still (AckOnError s) e =
    ap (λ state. AckOnError (record s { state = state })) (still-aoe s s.state e)

-- a sender that isn't answered leaves Waiting
abbrev Leaves : SenderPhase → Type 0
Leaves after = (ticks : TimerTicks)
    → is_armed (sender_left ticks phase.Waiting after None) ≡ sender_timed after

leaves-sending : Leaves phase.Sending
unfolding sender_left
leaves-sending ticks = refl

leaves-closing : Leaves phase.Closing
unfolding sender_left
leaves-closing ticks = refl

leaves-waiting-aa : (last i attempts : ℕ) (spent : Bool)
    → Leaves (aa.phase_in (aa_step.retried_waiting last i attempts spent).0)
unfolding aa_step.retried_waiting
leaves-waiting-aa last i attempts true = leaves-closing
leaves-waiting-aa last i attempts false = leaves-sending

leaves-waiting-aoe : (s : aoe.AoeSenderData) (attempts : ℕ) (more : Bool)
    → Leaves (aoe_step.phase_in (repeated s attempts more).0.state)
unfolding repeated moves aoe_step.phase_in
leaves-waiting-aoe s attempts true = leaves-sending
leaves-waiting-aoe s attempts false = leaves-closing

leaves-aa : (s : aa.AaSenderData) (last : ℕ) (state : AaSenderState)
    → aa.phase_in state ≡ phase.Waiting → Leaves (aa.phase_in (aa_step.retried_in last state).0)
unfolding aa_step.retried_in
leaves-aa s last (aas.Sending i ack_req attempts) w = absurd cc
leaves-aa s last (aas.Waiting i attempts) w =
    leaves-waiting-aa last i attempts (nat_le max_ack_requests attempts)
leaves-aa s last aas.Closing w = absurd cc
leaves-aa s last aas.Quiet w = absurd cc

leaves-aoe : (s : aoe.AoeSenderData) (state : aoe.AoeSenderState)
    → aoe_step.phase_in state ≡ phase.Waiting
    → Leaves (aoe_step.phase_in (retried_in s state).0.state)
unfolding retried_in stays aoe_step.phase_in
leaves-aoe s (aoe.Sending numbers attempts) w = absurd cc
leaves-aoe s (aoe.Waiting attempts) w =
    leaves-waiting-aoe s attempts (nat_lt attempts max_ack_requests)
leaves-aoe s aoe.Closing w = absurd cc
leaves-aoe s aoe.Quiet w = absurd cc

leaves-no_ack : (state : NoAckSenderState) → no_ack.phase_in state ≡ phase.Waiting
    → Leaves (no_ack.phase_in state)
leaves-no_ack (na.Sending i) w = absurd cc
leaves-no_ack na.Closing w = absurd cc
leaves-no_ack na.Quiet w = absurd cc

-- where a sender that waited retries, its timer, taken out before, is armed just where it should be
pub retried-leaves : (s : Sender) → sender_phase s ≡ phase.Waiting
    → Leaves (sender_phase (sender_retried s).0)
unfolding sender_phase sender_retried aa_step.retried retried aoe_step.sender_phase
retried-leaves (NoAck s) w = leaves-no_ack s.state w
retried-leaves (AckAlways s) w = leaves-aa s (aa.last_index s) s.state w
retried-leaves (AckOnError s) w = leaves-aoe s s.state w
