-- A session of ACK-Always of which nothing is lost.
use Rattle.std.specs.Prelude.{ℕ, ◌≡◌, ◌+◌, ◌-◌, ◌%◌, ◌<◌, ◌≤◌, ◌==◌, zero, suc, Bool, true, false}
use Rattle.std.specs.Prelude.{List, [], ◌++◌, length, take, Option, Some, None, Ok}
use Rattle.std.proofs.Common.{arith, refl, sym, ap, subst, ◌∙◌}
use Rattle.std.proofs.lemmas.Bool.{le-leb, ne_eqb, eq-eqb}
use Rattle.std.proofs.lemmas.List.{length-append}
use Rattle.schc_bits.specs.Bits.{octets}
use Rattle.schc_ids.specs.Fragments.{params_of}
use Rattle.schc_ids.specs.declared.ends.TimerTicks.{TimerTicks}
use Rattle.schc_ids.specs.declared.fragments.FragMode.{FragMode}
use Rattle.schc_ids.specs.declared.fragments.FragMode.TheVariants as mode
use Rattle.schc_ids.specs.declared.fragments.FragParams.{FragParams}
use Rattle.schc_ids.specs.declared.fragments.Side.TheVariants as side
use Rattle.schc_ids.specs.declared.notes.Heard.TheVariants as heard
use Rattle.schc_ids.specs.declared.phases.SenderPhase.TheVariants as phase
use Rattle.frag_wire.specs.Layouts.{placed, payload_in, written}
use Rattle.frag_wire.specs.Spells.{CanSpell, reading_in}
use Rattle.frag_wire.specs.declared.message.Message.{Message}
use Rattle.frag_wire.specs.declared.message.Message.TheVariants as form
use Rattle.rcs.specs.Division.{rcs_of}
use Rattle.reassembly.specs.Joining.{has_room, passes, reassembly_bits}
use Rattle.tiles_bitmap.specs.Laws.{joined}
use Rattle.tiles_bitmap.specs.Numbers.{tile_number}
use Rattle.tiles_bitmap.specs.Padding.{padded_packet}
use Rattle.aa_receiver.specs.State as receiver
use Rattle.aa_receiver.specs.Steps as receiver_step
use Rattle.aa_receiver.specs.Steps.{open_window}
use Rattle.aa_sender.specs.State.{AaSenderData, IsAaSender, packet_tiles, tile_at, last_index}
use Rattle.aa_sender.specs.Steps as sender_step
use Rattle.aa_sender.specs.Steps.{window_of, fragment_of, bytes_due}
use Rattle.aa_sender.specs.declared.states.AaSenderState.TheVariants.{Sending, Waiting, Quiet}
use Rattle.aa_sender.proofs.ArrivalLemmas.{tile_arrives, last_arrives}
use Rattle.aa_sender.proofs.KeptLemmas.{begins_one}
use Rattle.aa_sender.proofs.SenderLemmas.{window_of_below, regular-is, can_regular, can_all1}
use Rattle.aa_sender.proofs.SenderLemmas.{stands-there}
use Rattle.sessions.specs.Receivers.{new_receiver, receiver_taken, receiver_previewed, receiver_due}
use Rattle.sessions.specs.Receivers.{receiver_answered}
use Rattle.sessions.specs.Senders.{sender_begun, sender_due, sender_phase, sender_sent}
use Rattle.sessions.specs.Senders.{sender_heard}
use Rattle.sessions.specs.Session.{sent_kind}
use Rattle.sessions.specs.declared.receivers.Receiver.{Receiver}
use Rattle.sessions.specs.declared.receivers.Receiver.TheVariants as receivers
use Rattle.sessions.specs.declared.senders.Sender.{Sender}
use Rattle.sessions.specs.declared.senders.Sender.TheVariants as senders
use Rattle.lanes.specs.Lane.{LaneParams}
use Rattle.lanes.specs.Rounds.{Talk, Ends, IsLastRound, new_talk}
use Rattle.lanes.specs.Step.{kind_sent, lane_session}
use Rattle.lanes.proofs.PacketLemmas.{rcs-below, joined-next, packet-bound, padded-bound}
use Rattle.lanes.proofs.PacketLemmas.{params-are}
use Rattle.lanes.proofs.RoundLemmas.{CleanIn, ends-well, Leads, read-written, IsGiven}
use Rattle.lanes.proofs.RoundLemmas.{answered-round}

-- the sender at the tile i, before and after it was sent
abbrev at_tile : AaSenderData → ℕ → AaSenderData
at_tile s i = record s { state = Sending i false 0 }

abbrev waiting_at : AaSenderData → ℕ → AaSenderData
waiting_at s i = record s { state = Waiting i 1 }

-- so far the receiver has the tiles before it
record IsAt (s : AaSenderData) (i : ℕ) (t : Talk) : Type 0 where
  r : receiver.AaReceiverData
  sender_is : t.session.sender ≡ senders.AckAlways (at_tile s i)
  receiver_is : t.reception.receiver ≡ receivers.AckAlways r
  kept_is : receiver_step.entered (window_of i) r ≡ receiver.Gathering
      (joined (take i (packet_tiles s))) i None

mode-of : (params : FragParams) → params ≡ params_of mode.AckAlways → params.mode ≡ mode.AckAlways
mode-of params row = ap (λ (p : FragParams). p.mode) row

placed-regular : (params : FragParams) (w : ℕ) → params ≡ params_of mode.AckAlways
    → placed params (form.Regular w 0 2) ≡ form.Regular w 0 2
placed-regular params w row =
    subst (λ (p : FragParams). placed p (form.Regular w 0 2) ≡ form.Regular w 0 2) (sym row) refl

placed-all1 : (params : FragParams) (w rcs : ℕ) → params ≡ params_of mode.AckAlways
    → placed params (form.All1 w rcs 34) ≡ form.All1 w rcs 34
placed-all1 params w rcs row =
    subst (λ (p : FragParams). placed p (form.All1 w rcs 34) ≡ form.All1 w rcs 34) (sym row) refl

window-open : (i : ℕ) → window_of i == open_window i ≡ true
unfolding window_of tile_number
window-open i = eq-eqb (i % 2) (i % 2) refl

-- what the sender gives
due-is : (s : AaSenderData) (i : ℕ) (is_last : Bool) → i == last_index s ≡ is_last
    → sender_due (senders.AckAlways (at_tile s i)) ≡ Some
    (bytes_due s.params (fragment_of (at_tile s i) i is_last))
unfolding sender_due sender_step.due_message sender_step.due_in sender_step.request_of last_index
due-is s i is_last e =
    ap (λ (b : Bool). Some (bytes_due s.params (fragment_of (at_tile s i) i b))) e

sent-next : (s : AaSenderData) (i : ℕ)
    → sender_sent (senders.AckAlways (at_tile s i)) ≡ senders.AckAlways (waiting_at s i)
unfolding sender_sent sender_step.sent sender_step.sent_in
sent-next s i = refl

sending-is : (t : Talk) (s : AaSenderData) (i : ℕ)
    → t.session.sender ≡ senders.AckAlways (at_tile s i)
    → sender_phase t.session.sender ≡ phase.Sending
unfolding sender_phase
sending-is t s i e = ap sender_phase e

no-report : (t : Talk) (s : AaSenderData) (i : ℕ)
    → t.session.sender ≡ senders.AckAlways (at_tile s i) → kind_sent t.session ≡ None
unfolding kind_sent sender_sent sender_step.sent sender_step.sent_in sender_phase
no-report t s i e = ap (λ (s : Sender). sent_kind (sender_phase s) (sender_phase (sender_sent s))) e

-- what it hears
hears-next : (s : AaSenderData) (i : ℕ) → i == last_index s ≡ false
    → sender_heard (form.Ack (window_of i) false 1)
    (senders.AckAlways (waiting_at s i)) ≡ (senders.AckAlways (at_tile s (suc i)), heard.Counted)
unfolding sender_heard sender_step.heard sender_step.heard_in sender_step.heard_waiting
    sender_step.acked_window sender_step.acked last_index
hears-next s i e = rw (eq-eqb (window_of i) (window_of i) refl, e) refl

hears-last : (s : AaSenderData) (i : ℕ) → i == last_index s ≡ true
    → sender_heard (form.Ack (window_of i) true 0)
    (senders.AckAlways (waiting_at s i)) ≡ (
      senders.AckAlways (record s { state = Quiet }),
      heard.Delivered,
    )
unfolding sender_heard sender_step.heard sender_step.heard_in sender_step.heard_waiting
    sender_step.acked_window sender_step.acked last_index
hears-last s i e = rw (eq-eqb (window_of i) (window_of i) refl, e) refl

-- A Regular.

regular-read : (s : AaSenderData) (i : ℕ) → IsAaSender s
    → CanSpell s.params side.Fragments (form.Regular (window_of i) 0 2) (tile_at s i)
    → reading_in mode.AckAlways side.Fragments
    (bytes_due s.params (fragment_of (at_tile s i) i false)) ≡ Ok (form.Regular (window_of i) 0 2)
unfolding fragment_of
regular-read s i is can =
    let bytes : List ℕ = bytes_due s.params (form.Regular (window_of i) 0 2, tile_at s i) in
    ap (λ (m : FragMode). reading_in m side.Fragments bytes) (sym (mode-of s.params is.row))
    ∙ read-written s.params side.Fragments (form.Regular (window_of i) 0 2) (tile_at s i)
    (params-are mode.AckAlways s.params is.row) can
    ∙ ap (λ (message : Message). Ok message) (placed-regular s.params (window_of i) is.row)

regular-payload : (s : AaSenderData) (i : ℕ) → IsAaSender (at_tile s i) → i < last_index s
    → payload_in (form.Regular (window_of i) 0 2)
    (octets (bytes_due s.params (fragment_of (at_tile s i) i false))) ≡ tile_at s i
unfolding fragment_of last_index
regular-payload s i here h = tile_arrives (at_tile s i) i here h

room-is : (kept tile : List Bool) → length kept + length tile ≤ reassembly_bits
    → has_room kept tile ≡ true
unfolding has_room
room-is kept tile h = le-leb (length kept + length tile) reassembly_bits h

regular-takes : (i : ℕ) (r : receiver.AaReceiverData) (kept tile : List Bool)
    → receiver_step.entered (window_of i) r ≡ receiver.Gathering kept i None
    → has_room kept tile ≡ true →
    (receiver_taken (form.Regular (window_of i) 0 2) tile
    (receivers.AckAlways r)).0 ≡ receivers.AckAlways
    (receiver.Gathering (kept ++ tile) (suc i) (receiver_step.tile_answer (window_of i) true))
unfolding receiver_taken receiver_step.taken receiver_step.regular_step receiver_step.next_tile
regular-takes i r kept tile e room = rw e (rw (window-open i, room) refl)

regular-joins : (w : ℕ) (r : receiver.AaReceiverData) (tile : List Bool)
    → receiver_previewed (form.Regular w 0 2) tile (receivers.AckAlways r) ≡ None
unfolding receiver_previewed receiver_step.previewed
regular-joins w r tile = refl

-- the answer that a tile came
abbrev came_bytes : ℕ → List ℕ
came_bytes i = written (params_of mode.AckAlways) (form.Ack (window_of i) false 1) []

came-due : (i count : ℕ) (kept : List Bool)
    → receiver_due
    (receivers.AckAlways
    (receiver.Gathering kept count (receiver_step.tile_answer (window_of i) true))) ≡ Some
    (came_bytes i)
unfolding receiver_due receiver_step.due_answer
came-due i count kept = refl

came-read : (i : ℕ)
    → reading_in mode.AckAlways side.Answers (came_bytes i) ≡ Ok (form.Ack (window_of i) false 1)
came-read i =
    read-written (params_of mode.AckAlways) side.Answers (form.Ack (window_of i) false 1) [] refl
    (omega (arith, window_of_below i), omega arith, refl)

answered-is : (count : ℕ) (kept : List Bool) (w : ℕ)
    → receiver_answered
    (receivers.AckAlways
    (receiver.Gathering kept count (receiver_step.tile_answer w true))) ≡ receivers.AckAlways
    (receiver.Gathering kept count None)
unfolding receiver_answered receiver_step.answered
answered-is count kept w = refl

more-round : (s : AaSenderData) (i : ℕ) (ticks : TimerTicks) (t : Talk) → IsAaSender s
    → i < last_index s → IsAt s i t
    → Leads mode.AckAlways ticks t None None None (senders.AckAlways (at_tile s (suc i)))
    (receivers.AckAlways (receiver.Gathering (joined (take (suc i) (packet_tiles s))) (suc i) None))
more-round s i ticks t is h k =
    let si : AaSenderData = at_tile s i in
    let w : ℕ = window_of i in
    let here : IsAaSender si =
    stands-there s (Sending i false 0) is (omega (arith, h), omega arith, λ e. absurd cc) in
    let other : i == last_index s ≡ false =
    ne_eqb i (last_index s) (λ e. absurd (omega (arith, e, h))) in
    let tile : List Bool = tile_at s i in
    let kept : List Bool = joined (take i (packet_tiles s)) in
    let can : CanSpell s.params side.Fragments (form.Regular w 0 2) tile =
    can_regular s.params w 2 tile is.row (window_of_below i) (regular-is s i is h).least in
    let bound = packet-bound s.params s.mtu s.bits i is.in_range is.most in
    let next : joined (take (suc i) (packet_tiles s)) ≡ kept ++ tile =
    joined-next (packet_tiles s) i in
    let room : has_room kept tile ≡ true =
    room-is kept tile
    (omega (arith, sym (length-append kept tile) ∙ ap length (sym next), bound)) in
    let to : Receiver =
    receivers.AckAlways
    (receiver.Gathering (kept ++ tile) (suc i) (receiver_step.tile_answer w true)) in
    let given : IsGiven mode.AckAlways t (form.Regular w 0 2) tile None None to =
    record {
      sending = sending-is t s i k.sender_is;
      bytes = bytes_due s.params (fragment_of si i false);
      due = ap sender_due k.sender_is ∙ due-is s i false other;
      read = regular-read s i is can;
      payload_is = regular-payload s i here h;
      joins = ap (receiver_previewed (form.Regular w 0 2) tile) k.receiver_is
          ∙ regular-joins w k.r tile;
      sends = no-report t s i k.sender_is;
      takes = ap (λ (x : Receiver). (receiver_taken (form.Regular w 0 2) tile x).0) k.receiver_is
          ∙ regular-takes i k.r kept tile k.kept_is room;
    }
    in
    let hears : sender_heard (form.Ack w false 1)
    (sender_sent t.session.sender) ≡ (senders.AckAlways (at_tile s (suc i)), heard.Counted) =
    ap (λ (x : Sender). sender_heard (form.Ack w false 1) (sender_sent x)) k.sender_is
    ∙ ap (sender_heard (form.Ack w false 1)) (sent-next s i) ∙ hears-next s i other
    in
    subst (λ (x : Receiver). Leads mode.AckAlways ticks t None None None
    (senders.AckAlways (at_tile s (suc i))) x)
    (answered-is (suc i) (kept ++ tile) w
    ∙ ap (λ (list : List Bool). receivers.AckAlways (receiver.Gathering list (suc i) None))
    (sym next))
    (answered-round mode.AckAlways ticks t (form.Regular w 0 2) tile None None to given
    (came_bytes i) (form.Ack w false 1) (senders.AckAlways (at_tile s (suc i))) heard.Counted
    (came-due i (suc i) (kept ++ tile)) (came-read i) hears)

-- The All-1.

abbrev packet_of : AaSenderData → List Bool
packet_of s = padded_packet s.params s.mtu s.bits

abbrev last_w : AaSenderData → ℕ
last_w s = window_of (last_index s)

abbrev all1_of : AaSenderData → Message
all1_of s = form.All1 (last_w s) (rcs_of (packet_of s)) 34

abbrev last_bytes : AaSenderData → List ℕ
last_bytes s = bytes_due s.params (fragment_of (at_tile s (last_index s)) (last_index s) true)

abbrev last_payload : AaSenderData → List Bool
last_payload s = payload_in (all1_of s) (octets (last_bytes s))

last-read : (s : AaSenderData) → IsAaSender s
    → reading_in mode.AckAlways side.Fragments (last_bytes s) ≡ Ok (all1_of s)
unfolding fragment_of
last-read s is =
    let tile : List Bool = tile_at s (last_index s) in
    let can : CanSpell s.params side.Fragments (all1_of s) tile =
    can_all1 s.params (last_w s) (rcs_of (packet_of s)) 34 tile is.row
    (window_of_below (last_index s)) (rcs-below (packet_of s)) in
    ap (λ (m : FragMode). reading_in m side.Fragments (bytes_due s.params (all1_of s, tile)))
    (sym (mode-of s.params is.row))
    ∙ read-written s.params side.Fragments (all1_of s) tile
    (params-are mode.AckAlways s.params is.row) can
    ∙ ap (λ (message : Message). Ok message)
    (placed-all1 s.params (last_w s) (rcs_of (packet_of s)) is.row)

last-packet : (s : AaSenderData) → IsAaSender (at_tile s (last_index s))
    → joined (take (last_index s) (packet_tiles s)) ++ last_payload s ≡ packet_of s
unfolding fragment_of last_index
last-packet s here = last_arrives (at_tile s (length (packet_tiles s) - 1)) here

rcs-same : (all packet : List Bool) → all ≡ packet → rcs_of all == rcs_of packet ≡ true
rcs-same all packet e = eq-eqb (rcs_of all) (rcs_of packet) (ap rcs_of e)

last-joins : (i : ℕ) (r : receiver.AaReceiverData) (kept tile packet : List Bool)
    → receiver_step.entered (window_of i) r ≡ receiver.Gathering kept i None → kept ++ tile ≡ packet
    → has_room kept tile ≡ true
    → receiver_previewed (form.All1 (window_of i) (rcs_of packet) 34) tile
    (receivers.AckAlways r) ≡ Some packet
unfolding receiver_previewed receiver_step.previewed receiver_step.passed receiver_step.all1_check
    receiver_step.checked_part
last-joins i r kept tile packet e whole room =
    rw e (rw (window-open i, room)
    (rw (rcs-same (kept ++ tile) packet whole) (ap (λ (list : List Bool). Some list) whole)))

last-takes : (i : ℕ) (r : receiver.AaReceiverData) (kept tile packet : List Bool)
    → receiver_step.entered (window_of i) r ≡ receiver.Gathering kept i None → kept ++ tile ≡ packet
    → has_room kept tile ≡ true
    → (receiver_taken (form.All1 (window_of i) (rcs_of packet) 34) tile
    (receivers.AckAlways r)).0 ≡ receivers.AckAlways (receiver.Finished (window_of i) true)
unfolding receiver_taken receiver_step.taken receiver_step.all1_step receiver_step.last_tile passes
last-takes i r kept tile packet e whole room =
    rw e (rw (window-open i, room, rcs-same (kept ++ tile) packet whole) refl)

abbrev done_bytes : ℕ → List ℕ
done_bytes i = written (params_of mode.AckAlways) (form.Ack (window_of i) true 0) []

done-due : (i : ℕ)
    → receiver_due (receivers.AckAlways (receiver.Finished (window_of i) true)) ≡ Some
    (done_bytes i)
unfolding receiver_due receiver_step.due_answer
done-due i = refl

done-read : (i : ℕ)
    → reading_in mode.AckAlways side.Answers (done_bytes i) ≡ Ok (form.Ack (window_of i) true 0)
done-read i =
    read-written (params_of mode.AckAlways) side.Answers (form.Ack (window_of i) true 0) [] refl
    (omega (arith, window_of_below i), refl, refl)

quiet-is : (s : AaSenderData)
    → sender_phase (senders.AckAlways (record s { state = Quiet })) ≡ phase.Quiet
unfolding sender_phase
quiet-is s = refl

last-round : (s : AaSenderData) (ticks : TimerTicks) (t : Talk) → IsAaSender s
    → IsAt s (last_index s) t → IsLastRound mode.AckAlways ticks (packet_of s) t
last-round s ticks t is k =
    let i : ℕ = last_index s in
    let here : IsAaSender (at_tile s i) =
    stands-there s (Sending i false 0) is (omega arith, omega arith, λ e. absurd cc) in
    let same : i == last_index s ≡ true = eq-eqb i (last_index s) refl in
    let tile : List Bool = last_payload s in
    let kept : List Bool = joined (take i (packet_tiles s)) in
    let whole : kept ++ tile ≡ packet_of s = last-packet s here in
    let room : has_room kept tile ≡ true =
    room-is kept tile
    (omega (
      arith,
      sym (length-append kept tile)
          ∙ ap length whole,
      padded-bound s.params s.mtu s.bits is.most,
    ))
    in
    let to : Receiver = receivers.AckAlways (receiver.Finished (window_of i) true) in
    let given : IsGiven mode.AckAlways t (all1_of s) tile (Some (packet_of s)) None to =
    record {
      sending = sending-is t s i k.sender_is;
      bytes = last_bytes s;
      due = ap sender_due k.sender_is ∙ due-is s i true same;
      read = last-read s is;
      payload_is = refl;
      joins = ap (receiver_previewed (all1_of s) tile) k.receiver_is
          ∙ last-joins i k.r kept tile (packet_of s) k.kept_is whole room;
      sends = no-report t s i k.sender_is;
      takes = ap (λ (x : Receiver). (receiver_taken (all1_of s) tile x).0) k.receiver_is
          ∙ last-takes i k.r kept tile (packet_of s) k.kept_is whole room;
    }
    in
    let ack : Message = form.Ack (window_of i) true 0 in
    let ended : Sender = senders.AckAlways (record s { state = Quiet }) in
    let hears : sender_heard ack (sender_sent t.session.sender) ≡ (ended, heard.Delivered) =
    ap (λ (x : Sender). sender_heard ack (sender_sent x)) k.sender_is
    ∙ ap (sender_heard ack) (sent-next s i) ∙ hears-last s i same
    in
    let l = answered-round mode.AckAlways ticks t (all1_of s) tile (Some (packet_of s)) None to
    given (done_bytes i) ack ended heard.Delivered (done-due i) (done-read i) hears in
    record { after = l.after; round = l.round; ended = ap sender_phase l.sender_is ∙ quiet-is s }

-- All rounds.

ends-from : (more i : ℕ) (s : AaSenderData) (ticks : TimerTicks) (t : Talk) → IsAaSender s
    → i + more ≡ last_index s → IsAt s i t → Ends mode.AckAlways ticks (packet_of s) more t
unfolding receiver_step.entered
ends-from zero i s ticks t is e k =
    let same : i ≡ last_index s = omega (arith, e) in
    last-round s ticks t is (subst (λ (n : ℕ). IsAt s n t) same k)
ends-from (suc more) i s ticks t is e k =
    let l = more-round s i ticks t is (omega (arith, e)) k in
    let next : IsAt s (suc i) l.after =
    record {
      r = receiver.Gathering (joined (take (suc i) (packet_tiles s))) (suc i) None;
      sender_is = l.sender_is;
      receiver_is = l.receiver_is;
      kept_is = refl;
    }
    in
    (l.after, l.round, ends-from more (suc i) s ticks l.after is (omega (arith, e)) next)

begun-at : (params : LaneParams) (number : ℕ) (bits : List Bool) (left : Option ℕ)
    → params.frag.mode ≡ mode.AckAlways
    → IsAt (record
    { params = params.frag; mtu = params.ends.mtu; bits = bits; state = Sending 0 false 0 }) 0
    (new_talk params number bits left)
unfolding lane_session sender_begun new_receiver receiver_step.entered window_of tile_number
begun-at params number bits left e =
    record {
      r = receiver.Empty false;
      sender_is =
          ap (λ (m : FragMode). sender_begun m params.frag params.ends.mtu params.ends.last bits) e;
      receiver_is = ap new_receiver e;
      kept_is = refl;
    }

last-few : (s : AaSenderData) → last_index s ≤ length (packet_tiles s)
unfolding last_index
last-few s = omega arith

-- in ACK-Always a session of which nothing is lost joins its padded packet and ends as delivered,
-- after at most one round more than it has tiles
pub clean-ack_always : CleanIn mode.AckAlways
clean-ack_always params number bits left are e can =
    let row : params.frag ≡ params_of mode.AckAlways = are.row ∙ ap params_of e in
    let s : AaSenderData =
    record {
      params = params.frag;
      mtu = params.ends.mtu;
      bits = bits;
      state =
          Sending 0 false 0;
    } in
    let is : IsAaSender s =
    begins_one params.frag params.ends.mtu params.ends.last bits row are.in_range.mtu can.least
    can.most in
    ends-well mode.AckAlways params number bits left (last_index s) e (last-few s)
    (ends-from (last_index s) 0 s params.ends.ticks (new_talk params number bits left) is
    (omega arith) (begun-at params number bits left e))
