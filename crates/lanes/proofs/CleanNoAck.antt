-- A session of No-ACK of which nothing is lost.
use Rattle.std.specs.Prelude.{ℕ, ◌≡◌, ◌+◌, ◌-◌, ◌<◌, ◌≤◌, ◌==◌, zero, suc, Bool, true, false}
use Rattle.std.specs.Prelude.{if◌then◌else◌, List, ◌++◌, length, take, Option, Some, None, Ok}
use Rattle.std.proofs.Common.{arith, refl, sym, ap, subst, ◌∙◌}
use Rattle.std.proofs.lemmas.Bool.{le-leb, ne_eqb, eq-eqb}
use Rattle.std.proofs.lemmas.List.{length-append}
use Rattle.schc_bits.specs.Bits.{octets}
use Rattle.schc_ids.specs.Fragments.{params_of}
use Rattle.schc_ids.specs.declared.ends.TimerTicks.{TimerTicks}
use Rattle.schc_ids.specs.declared.fragments.FragMode.{FragMode}
use Rattle.schc_ids.specs.declared.fragments.FragMode.TheVariants as mode
use Rattle.schc_ids.specs.declared.fragments.FragParams.{FragParams}
use Rattle.schc_ids.specs.declared.fragments.Side.TheVariants as side
use Rattle.schc_ids.specs.declared.notes.ReportKind.TheVariants.{Sent}
use Rattle.schc_ids.specs.declared.phases.SenderPhase.TheVariants as phase
use Rattle.frag_wire.specs.Layouts.{placed, payload_in}
use Rattle.frag_wire.specs.Spells.{CanSpell, reading_in}
use Rattle.frag_wire.specs.declared.message.Message.{Message}
use Rattle.frag_wire.specs.declared.message.Message.TheVariants as form
use Rattle.rcs.specs.Division.{rcs_of}
use Rattle.reassembly.specs.Joining.{has_room, passes, reassembly_bits}
use Rattle.tiles_bitmap.specs.Laws.{joined}
use Rattle.tiles_bitmap.specs.Padding.{padded_packet}
use Rattle.no_ack.specs.ReceiverState as receiver
use Rattle.no_ack.specs.ReceiverSteps as receiver_step
use Rattle.no_ack.specs.SenderState.{NoAckSenderData, IsNoAckSender, packet_tiles, tile_at}
use Rattle.no_ack.specs.SenderState.{last_index}
use Rattle.no_ack.specs.SenderSteps as sender_step
use Rattle.no_ack.specs.SenderSteps.{fragment_of, bytes_due}
use Rattle.no_ack.specs.declared.states.NoAckSenderState.TheVariants.{Sending, Quiet}
use Rattle.no_ack.proofs.ArrivalLemmas.{tile_arrives, last_arrives}
use Rattle.no_ack.proofs.KeptLemmas.{begins_one}
use Rattle.no_ack.proofs.SenderLemmas.{moved, regular-is, can_regular, can_all1}
use Rattle.sessions.specs.Receivers.{new_receiver, receiver_taken, receiver_previewed, receiver_due}
use Rattle.sessions.specs.Senders.{sender_begun, sender_due, sender_phase, sender_sent}
use Rattle.sessions.specs.Session.{sent_kind}
use Rattle.sessions.specs.declared.receivers.Receiver.{Receiver}
use Rattle.sessions.specs.declared.receivers.Receiver.TheVariants as receivers
use Rattle.sessions.specs.declared.senders.Sender.{Sender}
use Rattle.sessions.specs.declared.senders.Sender.TheVariants as senders
use Rattle.lanes.specs.Lane.{LaneParams}
use Rattle.lanes.specs.Rounds.{Talk, Ends, IsLastRound, new_talk}
use Rattle.lanes.specs.Step.{kind_sent, lane_session}
use Rattle.lanes.proofs.PacketLemmas.{rcs-below, joined-next, packet-bound, padded-bound}
use Rattle.lanes.proofs.PacketLemmas.{params-are}
use Rattle.lanes.proofs.RoundLemmas.{CleanIn, ends-well, Leads, read-written, IsGiven, silent-round}

-- the sender at the tile i
abbrev at_tile : NoAckSenderData → ℕ → NoAckSenderData
at_tile s i = record s { state = Sending i }

-- so far the receiver has the tiles before it
record IsAt (s : NoAckSenderData) (i : ℕ) (t : Talk) : Type 0 where
  r : receiver.NoAckReceiverData
  sender_is : t.session.sender ≡ senders.NoAck (at_tile s i)
  receiver_is : t.reception.receiver ≡ receivers.NoAck r
  kept_is : receiver.kept_by r ≡ joined (take i (packet_tiles s))

placed-regular : (params : FragParams) → params ≡ params_of mode.NoAck
    → placed params (form.Regular 0 0 1) ≡ form.Regular 0 0 1
placed-regular params row =
    subst (λ (p : FragParams). placed p (form.Regular 0 0 1) ≡ form.Regular 0 0 1) (sym row) refl

placed-all1 : (params : FragParams) (rcs : ℕ) → params ≡ params_of mode.NoAck
    → placed params (form.All1 0 rcs 33) ≡ form.All1 0 rcs 33
placed-all1 params rcs row =
    subst (λ (p : FragParams). placed p (form.All1 0 rcs 33) ≡ form.All1 0 rcs 33) (sym row) refl

-- the message of a tile
due-is : (s : NoAckSenderData) (i : ℕ) (is_last : Bool) → i == last_index s ≡ is_last
    → sender_due (senders.NoAck (at_tile s i)) ≡ Some
    (bytes_due s.params (fragment_of (at_tile s i) i is_last))
unfolding sender_due sender_step.due_message sender_step.due_in last_index
due-is s i is_last e =
    ap (λ (b : Bool). Some (bytes_due s.params (fragment_of (at_tile s i) i b))) e

sent-next : (s : NoAckSenderData) (i : ℕ) (is_last : Bool) → i == last_index s ≡ is_last
    → sender_sent (senders.NoAck (at_tile s i)) ≡ senders.NoAck
    (record s { state = if is_last then Quiet else Sending (suc i) })
unfolding sender_sent sender_step.sent sender_step.sent_in last_index
sent-next s i is_last e =
    ap (λ (b : Bool). senders.NoAck (record s { state = if b then Quiet else Sending (suc i) })) e

sending-is : (t : Talk) (s : NoAckSenderData) (i : ℕ)
    → t.session.sender ≡ senders.NoAck (at_tile s i) → sender_phase t.session.sender ≡ phase.Sending
unfolding sender_phase
sending-is t s i e = ap sender_phase e

kind-is : (t : Talk) (before after : Sender) → t.session.sender ≡ before
    → sender_sent before ≡ after
    → kind_sent t.session ≡ sent_kind (sender_phase before) (sender_phase after)
unfolding kind_sent
kind-is t before after e f =
    ap (λ (s : Sender). sent_kind (sender_phase s) (sender_phase (sender_sent s))) e
    ∙ ap (λ (s : Sender). sent_kind (sender_phase before) (sender_phase s)) f

-- A Regular.

stored-is : (r : receiver.NoAckReceiverData) (tile : List Bool)
    → has_room (receiver.kept_by r) tile ≡ true
    → (receiver_taken (form.Regular 0 0 1) tile (receivers.NoAck r)).0 ≡ receivers.NoAck
    (receiver.Gathering (receiver.kept_by r ++ tile))
unfolding receiver_taken receiver_step.taken receiver_step.tile_step receiver_step.stored
stored-is r tile room = rw room refl

none-joined : (r : receiver.NoAckReceiverData) (tile : List Bool)
    → receiver_previewed (form.Regular 0 0 1) tile (receivers.NoAck r) ≡ None
unfolding receiver_previewed receiver_step.previewed receiver_step.completes
none-joined r tile = refl

none-due : (r : receiver.NoAckReceiverData) → receiver_due (receivers.NoAck r) ≡ None
unfolding receiver_due
none-due r = refl

room-is : (kept tile : List Bool) → length kept + length tile ≤ reassembly_bits
    → has_room kept tile ≡ true
unfolding has_room
room-is kept tile h = le-leb (length kept + length tile) reassembly_bits h

mode-of : (params : FragParams) → params ≡ params_of mode.NoAck → params.mode ≡ mode.NoAck
mode-of params row = ap (λ (p : FragParams). p.mode) row

regular-read : (s : NoAckSenderData) (i : ℕ) → IsNoAckSender s
    → CanSpell s.params side.Fragments (form.Regular 0 0 1) (tile_at s i)
    → reading_in mode.NoAck side.Fragments
    (bytes_due s.params (fragment_of (at_tile s i) i false)) ≡ Ok (form.Regular 0 0 1)
unfolding fragment_of
regular-read s i is can =
    let bytes : List ℕ = bytes_due s.params (form.Regular 0 0 1, tile_at s i) in
    ap (λ (m : FragMode). reading_in m side.Fragments bytes) (sym (mode-of s.params is.row))
    ∙ read-written s.params side.Fragments (form.Regular 0 0 1) (tile_at s i)
    (params-are mode.NoAck s.params is.row) can
    ∙ ap (λ (message : Message). Ok message) (placed-regular s.params is.row)

regular-payload : (s : NoAckSenderData) (i : ℕ) → IsNoAckSender (at_tile s i) → i < last_index s
    → payload_in (form.Regular 0 0 1)
    (octets (bytes_due s.params (fragment_of (at_tile s i) i false))) ≡ tile_at s i
unfolding fragment_of last_index
regular-payload s i here h = tile_arrives (at_tile s i) i here h

no-report : (s : NoAckSenderData) (i : ℕ)
    → sent_kind (sender_phase (senders.NoAck (at_tile s i)))
    (sender_phase (senders.NoAck (at_tile s (suc i)))) ≡ None
unfolding sender_phase
no-report s i = refl

more-round : (s : NoAckSenderData) (i : ℕ) (ticks : TimerTicks) (t : Talk) → IsNoAckSender s
    → i < last_index s → (k : IsAt s i t)
    → Leads mode.NoAck ticks t None None None (senders.NoAck (at_tile s (suc i)))
    (receivers.NoAck (receiver.Gathering (receiver.kept_by k.r ++ tile_at s i)))
more-round s i ticks t is h k =
    let si : NoAckSenderData = at_tile s i in
    let here : IsNoAckSender si = moved s (Sending i) is (omega (arith, h)) in
    let other : i == last_index s ≡ false =
    ne_eqb i (last_index s) (λ e. absurd (omega (arith, e, h))) in
    let bytes : List ℕ = bytes_due s.params (fragment_of si i false) in
    let tile : List Bool = tile_at s i in
    let can : CanSpell s.params side.Fragments (form.Regular 0 0 1) tile =
    can_regular s.params 0 1 tile is.row refl (regular-is s i is h).0 in
    let bound = packet-bound s.params s.mtu s.bits i is.in_range is.most in
    let next : receiver.kept_by k.r ++ tile ≡ joined (take (suc i) (packet_tiles s)) =
    ap (λ (list : List Bool). list ++ tile) k.kept_is ∙ sym (joined-next (packet_tiles s) i) in
    let room : has_room (receiver.kept_by k.r) tile ≡ true =
    room-is (receiver.kept_by k.r) tile
    (omega (arith, sym (length-append (receiver.kept_by k.r) tile) ∙ ap length next, bound)) in
    let given : IsGiven mode.NoAck t (form.Regular 0 0 1) tile None None
    (receivers.NoAck (receiver.Gathering (receiver.kept_by k.r ++ tile))) =
    record {
      sending = sending-is t s i k.sender_is;
      bytes = bytes;
      due = ap sender_due k.sender_is ∙ due-is s i false other;
      read = regular-read s i is can;
      payload_is = regular-payload s i here h;
      joins = ap (receiver_previewed (form.Regular 0 0 1) tile) k.receiver_is
          ∙ none-joined k.r tile;
      sends = kind-is t (senders.NoAck si) (senders.NoAck (at_tile s (suc i))) k.sender_is
          (sent-next s i false other) ∙ no-report s i;
      takes = ap (λ (x : Receiver). (receiver_taken (form.Regular 0 0 1) tile x).0) k.receiver_is
          ∙ stored-is k.r tile room;
    }
    in
    subst (λ (to : Sender). Leads mode.NoAck ticks t None None None to
    (receivers.NoAck (receiver.Gathering (receiver.kept_by k.r ++ tile))))
    (ap sender_sent k.sender_is ∙ sent-next s i false other)
    (silent-round mode.NoAck ticks t (form.Regular 0 0 1) tile None None
    (receivers.NoAck (receiver.Gathering (receiver.kept_by k.r ++ tile))) given
    (none-due (receiver.Gathering (receiver.kept_by k.r ++ tile))))

-- The All-1.

abbrev packet_of : NoAckSenderData → List Bool
packet_of s = padded_packet s.params s.mtu s.bits

abbrev all1_of : NoAckSenderData → Message
all1_of s = form.All1 0 (rcs_of (packet_of s)) 33

abbrev last_bytes : NoAckSenderData → List ℕ
last_bytes s = bytes_due s.params (fragment_of (at_tile s (last_index s)) (last_index s) true)

abbrev last_payload : NoAckSenderData → List Bool
last_payload s = payload_in (all1_of s) (octets (last_bytes s))

last-read : (s : NoAckSenderData) → IsNoAckSender s
    → reading_in mode.NoAck side.Fragments (last_bytes s) ≡ Ok (all1_of s)
unfolding fragment_of
last-read s is =
    let tile : List Bool = tile_at s (last_index s) in
    let can : CanSpell s.params side.Fragments (all1_of s) tile =
    can_all1 s.params 0 (rcs_of (packet_of s)) 33 tile is.row refl (rcs-below (packet_of s)) in
    ap (λ (m : FragMode). reading_in m side.Fragments (bytes_due s.params (all1_of s, tile)))
    (sym (mode-of s.params is.row))
    ∙ read-written s.params side.Fragments (all1_of s) tile (params-are mode.NoAck s.params is.row)
    can
    ∙ ap (λ (message : Message). Ok message) (placed-all1 s.params (rcs_of (packet_of s)) is.row)

last-packet : (s : NoAckSenderData) → IsNoAckSender (at_tile s (last_index s))
    → joined (take (last_index s) (packet_tiles s)) ++ last_payload s ≡ packet_of s
unfolding fragment_of last_index
last-packet s here = last_arrives (at_tile s (length (packet_tiles s) - 1)) here

passes-is : (kept tile packet : List Bool) → kept ++ tile ≡ packet
    → passes kept tile (rcs_of packet) ≡ true
unfolding passes
passes-is kept tile packet e = eq-eqb (rcs_of (kept ++ tile)) (rcs_of packet) (ap rcs_of e)

last-joins : (r : receiver.NoAckReceiverData) (tile packet : List Bool)
    → receiver.kept_by r ++ tile ≡ packet → has_room (receiver.kept_by r) tile ≡ true
    → receiver_previewed (form.All1 0 (rcs_of packet) 33) tile (receivers.NoAck r) ≡ Some packet
unfolding receiver_previewed receiver_step.previewed receiver_step.completes
    receiver_step.completes_last receiver_step.checked receiver_step.assembled
last-joins r tile packet e room =
    rw (room, passes-is (receiver.kept_by r) tile packet e) (ap (λ (list : List Bool). Some list) e)

last-takes : (r : receiver.NoAckReceiverData) (tile packet : List Bool)
    → receiver.kept_by r ++ tile ≡ packet → has_room (receiver.kept_by r) tile ≡ true
    → (receiver_taken (form.All1 0 (rcs_of packet) 33) tile (receivers.NoAck r)).0 ≡ receivers.NoAck
    receiver.Empty
unfolding receiver_taken receiver_step.taken receiver_step.last_step receiver_step.joined_last
    receiver_step.ended
last-takes r tile packet e room = rw (room, passes-is (receiver.kept_by r) tile packet e) refl

last-report : (s : NoAckSenderData)
    → sent_kind (sender_phase (senders.NoAck (at_tile s (last_index s))))
    (sender_phase (senders.NoAck (record s { state = Quiet }))) ≡ Some Sent
unfolding sender_phase
last-report s = refl

quiet-is : (s : NoAckSenderData)
    → sender_phase (senders.NoAck (record s { state = Quiet })) ≡ phase.Quiet
unfolding sender_phase
quiet-is s = refl

last-round : (s : NoAckSenderData) (ticks : TimerTicks) (t : Talk) → IsNoAckSender s
    → IsAt s (last_index s) t → IsLastRound mode.NoAck ticks (packet_of s) t
last-round s ticks t is k =
    let i : ℕ = last_index s in
    let si : NoAckSenderData = at_tile s i in
    let here : IsNoAckSender si = moved s (Sending i) is (omega arith) in
    let same : i == last_index s ≡ true = eq-eqb i (last_index s) refl in
    let tile : List Bool = last_payload s in
    let whole : receiver.kept_by k.r ++ tile ≡ packet_of s =
    ap (λ (list : List Bool). list ++ tile) k.kept_is ∙ last-packet s here in
    let room : has_room (receiver.kept_by k.r) tile ≡ true =
    room-is (receiver.kept_by k.r) tile
    (omega (
      arith,
      sym (length-append (receiver.kept_by k.r) tile)
          ∙ ap length whole,
      padded-bound s.params s.mtu s.bits is.most,
    ))
    in
    let given : IsGiven mode.NoAck t (all1_of s) tile (Some (packet_of s)) (Some Sent)
    (receivers.NoAck receiver.Empty) =
    record {
      sending = sending-is t s i k.sender_is;
      bytes = last_bytes s;
      due = ap sender_due k.sender_is ∙ due-is s i true same;
      read = last-read s is;
      payload_is = refl;
      joins = ap (receiver_previewed (all1_of s) tile) k.receiver_is
          ∙ last-joins k.r tile (packet_of s) whole room;
      sends = kind-is t (senders.NoAck si) (senders.NoAck (record s { state = Quiet })) k.sender_is
          (sent-next s i true same) ∙ last-report s;
      takes = ap (λ (x : Receiver). (receiver_taken (all1_of s) tile x).0) k.receiver_is
          ∙ last-takes k.r tile (packet_of s) whole room;
    }
    in
    let l = silent-round mode.NoAck ticks t (all1_of s) tile (Some (packet_of s)) (Some Sent)
    (receivers.NoAck receiver.Empty) given (none-due receiver.Empty) in
    record {
      after = l.after;
      round = l.round;
      ended = ap sender_phase (l.sender_is ∙ ap sender_sent k.sender_is ∙ sent-next s i true same)
          ∙ quiet-is s;
    }

-- All rounds.

ends-from : (more i : ℕ) (s : NoAckSenderData) (ticks : TimerTicks) (t : Talk) → IsNoAckSender s
    → i + more ≡ last_index s → IsAt s i t → Ends mode.NoAck ticks (packet_of s) more t
ends-from zero i s ticks t is e k =
    let same : i ≡ last_index s = omega (arith, e) in
    last-round s ticks t is (subst (λ (n : ℕ). IsAt s n t) same k)
ends-from (suc more) i s ticks t is e k =
    let h : i < last_index s = omega (arith, e) in
    let l = more-round s i ticks t is h k in
    let next : IsAt s (suc i) l.after =
    record {
      r = receiver.Gathering (receiver.kept_by k.r ++ tile_at s i);
      sender_is = l.sender_is;
      receiver_is = l.receiver_is;
      kept_is = ap (λ (list : List Bool). list ++ tile_at s i) k.kept_is
          ∙ sym (joined-next (packet_tiles s) i);
    }
    in
    (l.after, l.round, ends-from more (suc i) s ticks l.after is (omega (arith, e)) next)

begun-at : (params : LaneParams) (number : ℕ) (bits : List Bool) (left : Option ℕ)
    → params.frag.mode ≡ mode.NoAck
    → IsAt (record { params = params.frag; mtu = params.ends.mtu; bits = bits; state = Sending 0 })
    0 (new_talk params number bits left)
unfolding lane_session sender_begun new_receiver
begun-at params number bits left e =
    record {
      r = receiver.Empty;
      sender_is =
          ap (λ (m : FragMode). sender_begun m params.frag params.ends.mtu params.ends.last bits) e;
      receiver_is = ap new_receiver e;
      kept_is = refl;
    }

last-few : (s : NoAckSenderData) → last_index s ≤ length (packet_tiles s)
unfolding last_index
last-few s = omega arith

-- in No-ACK a session of which nothing is lost joins its padded packet and ends as sent,
-- after at most one round more than it has tiles
pub clean-no_ack : CleanIn mode.NoAck
clean-no_ack params number bits left are e can =
    let row : params.frag ≡ params_of mode.NoAck = are.row ∙ ap params_of e in
    let s : NoAckSenderData =
    record { params = params.frag; mtu = params.ends.mtu; bits = bits; state = Sending 0 } in
    let is : IsNoAckSender s =
    begins_one params.frag params.ends.mtu params.ends.last bits row are.in_range.mtu can.least
    can.most in
    ends-well mode.NoAck params number bits left (last_index s) e (last-few s)
    (ends-from (last_index s) 0 s params.ends.ticks (new_talk params number bits left) is
    (omega arith) (begun-at params number bits left e))
