-- A session of ACK-on-Error of which nothing is lost.
use Rattle.std.specs.Prelude.{ℕ, ◌≡◌, ◌+◌, ◌-◌, ◌*◌, ◌/◌, ◌<◌, ◌≤◌, ◌==◌, ◌&&◌, zero, suc, Bool}
use Rattle.std.specs.Prelude.{true, false, if◌then◌else◌, List, [], ◌∷◌, ◌++◌, map, length, take}
use Rattle.std.specs.Prelude.{drop, replicate, Option, Some, None, option_map, Ok}
use Rattle.std.proofs.Common.{arith, refl, sym, ap, subst, ◌∙◌}
use Rattle.std.proofs.lemmas.Bool.{eq-eqb}
use Rattle.std.proofs.lemmas.List.{length-take-le, length-drop, take_all}
use Rattle.std.proofs.Math.Seq.{take-add}
use Rattle.schc_bits.specs.Bits.{octets}
use Rattle.schc_ids.specs.Fragments.{params_of}
use Rattle.schc_ids.specs.declared.ends.LastTile.{LastTile}
use Rattle.schc_ids.specs.declared.ends.LastTile.TheVariants.{InAll1, InRegular}
use Rattle.schc_ids.specs.declared.ends.TimerTicks.{TimerTicks}
use Rattle.schc_ids.specs.declared.fragments.FragMode.{FragMode}
use Rattle.schc_ids.specs.declared.fragments.FragMode.TheVariants as mode
use Rattle.schc_ids.specs.declared.fragments.FragParams.{FragParams}
use Rattle.schc_ids.specs.declared.fragments.Side.TheVariants as side
use Rattle.schc_ids.specs.declared.notes.Heard.TheVariants as heard
use Rattle.schc_ids.specs.declared.phases.SenderPhase.TheVariants as phase
use Rattle.frag_wire.specs.Layouts.{payload_in, written}
use Rattle.frag_wire.specs.Spells.{reading_in}
use Rattle.frag_wire.specs.declared.message.Message.{Message}
use Rattle.frag_wire.specs.declared.message.Message.TheVariants as form
use Rattle.frag_wire.proofs.ReadingLemmas.{reading-spelled}
use Rattle.rcs.specs.Division.{rcs_of}
use Rattle.tiles_bitmap.specs.Laws.{joined}
use Rattle.tiles_bitmap.specs.Numbers.{tile_number, tile_index}
use Rattle.tiles_bitmap.specs.Padding as padding
use Rattle.tiles_bitmap.specs.Places.{numbers_from, goes_on, one_more, run, or_kept, keep}
use Rattle.tiles_bitmap.specs.Places.{held_bits, all_true, no_gap, bitmap}
use Rattle.tiles_bitmap.specs.Tiles.{tiles}
use Rattle.tiles_bitmap.proofs.PieceLemmas.{length-tiles}
use Rattle.tiles_bitmap.proofs.PlacesLemmas.{bits-whole, all_true-front, no_gap-part, joined-whole}
use Rattle.tiles_bitmap.proofs.TilesLemmas.{counts-tiles}
use Rattle.aoe_receiver.specs.State as receiver
use Rattle.aoe_receiver.specs.Steps as receiver_step
use Rattle.aoe_sender.specs.State.{AoeSenderData, Sending, Quiet}
use Rattle.aoe_sender.specs.Steps as sender_step
use Rattle.aoe_sender.specs.Steps.{IsAoeSender, regular, all1, due_message, run_after}
use Rattle.aoe_sender.specs.Tiles.{padded_packet, all_tiles, in_regulars, regular_count}
use Rattle.aoe_sender.specs.Tiles.{regular_tiles, all1_tile, last_window, most_tiles}
use Rattle.aoe_sender.proofs.CutLemmas.{count-tiles}
use Rattle.aoe_sender.proofs.KeepsLemmas.{has-tiles, begun-keeps, sent-keeps}
use Rattle.aoe_sender.proofs.LawsLemmas.{spells-due}
use Rattle.aoe_sender.proofs.MessageLemmas.{count-bound}
use Rattle.aoe_sender.proofs.SessionLemmas.{packet-arrives, packet-padding}
use Rattle.sessions.specs.Receivers.{new_receiver, receiver_taken, receiver_previewed, receiver_due}
use Rattle.sessions.specs.Senders.{sender_begun, sender_due, sender_phase, sender_sent}
use Rattle.sessions.specs.Senders.{sender_heard}
use Rattle.sessions.specs.Session.{sent_kind}
use Rattle.sessions.specs.declared.receivers.Receiver.{Receiver}
use Rattle.sessions.specs.declared.receivers.Receiver.TheVariants as receivers
use Rattle.sessions.specs.declared.senders.Sender.{Sender}
use Rattle.sessions.specs.declared.senders.Sender.TheVariants as senders
use Rattle.lanes.specs.Lane.{LaneParams}
use Rattle.lanes.specs.Rounds.{Talk, IsRound, Ends, IsLastRound, new_talk}
use Rattle.lanes.specs.Step.{kind_sent, lane_session}
use Rattle.lanes.proofs.RoundLemmas.{CleanIn, ends-well, read-written, IsGiven, silent-round}
use Rattle.lanes.proofs.RoundLemmas.{answered-round}
use Rattle.lanes.proofs.TileLemmas.{regular-whole}

-- Runs and places.

-- what a run leaves of numbers that follow one another
record IsFront (k m : ℕ) (taken : ℕ × List ℕ) : Type 0 where
  next : ℕ
  left : ℕ
  next_is : next ≡ suc k + taken.0
  whole : taken.0 + left ≡ m
  rest : taken.1 ≡ numbers_from next left

front-if : (k m : ℕ) (b : Bool) (rest : ℕ × List ℕ) → IsFront (suc k) m rest
    → IsFront k (suc m) (one_more b rest (suc k ∷ numbers_from (suc (suc k)) m))
unfolding one_more numbers_from
front-if k m true rest f =
    let at_next = f.next_is in
    let all = f.whole in
    record {
      next = f.next;
      left = f.left;
      next_is = omega arith;
      whole = omega arith;
      rest =
          f.rest;
    }
front-if k m false rest f =
    record { next = suc k; left = suc m; next_is = omega arith; whole = omega arith; rest = refl }

front-is : (most k m : ℕ) → IsFront k m (run 63 most k (numbers_from (suc k) m))
unfolding run numbers_from
front-is zero k m =
    record { next = suc k; left = m; next_is = omega arith; whole = omega arith; rest = refl }
front-is (suc most) k zero =
    record { next = suc k; left = zero; next_is = omega arith; whole = omega arith; rest = refl }
front-is (suc most) k (suc m) =
    front-if k m (goes_on 63 k (suc k)) (run 63 most (suc k) (numbers_from (suc (suc k)) m))
    (front-is most (suc k) m)

-- places of which these tiles are the first
abbrev held : ℕ → List (List Bool) → List (Option (List Bool))
held free parts = map Some parts ++ replicate free None

keep-more : (new : List (List Bool)) (free left : ℕ) → free ≡ length new + left
    → keep zero new (replicate free None) ≡ held left new
unfolding keep or_kept
keep-more [] zero left e = let same : zero ≡ left = omega (arith, e) in
    ap (λ n. replicate n None) same
keep-more [] (suc free) left e = let same : suc free ≡ left = omega (arith, e) in
    ap (λ n. replicate n None) same
keep-more (tile ∷ new) zero left e = absurd (omega (arith, e))
keep-more (tile ∷ new) (suc free) left e =
    ap (λ places. Some tile ∷ places) (keep-more new free left (omega (arith, e)))

keep-behind : (old new : List (List Bool)) (free left : ℕ) → free ≡ length new + left
    → keep (length old) new (held free old) ≡ held left (old ++ new)
unfolding keep
keep-behind [] new free left e = keep-more new free left e
keep-behind (tile ∷ old) new free left e =
    ap (λ places. Some tile ∷ places) (keep-behind old new free left e)

-- The sender.

-- it has still to send so many tiles from the tile a on
abbrev at_tile : AoeSenderData → ℕ → ℕ → AoeSenderData
at_tile s a left = record s { state = Sending (numbers_from a left) 0 }

-- so far the receiver has the tiles before it
record IsAt (s : AoeSenderData) (a left : ℕ) (t : Talk) : Type 0 where
  sound : IsAoeSender (at_tile s a left)
  whole : a + left ≡ regular_count s
  r : receiver.AoeReceiverData
  free : ℕ
  room : length (take a (regular_tiles s)) + free ≡ 252
  sender_is : t.session.sender ≡ senders.AckOnError (at_tile s a left)
  receiver_is : t.reception.receiver ≡ receivers.AckOnError r
  kept_is : receiver_step.begun r ≡ receiver.Gathering (held free (take a (regular_tiles s))) None
      false

-- how many more tiles go in the next Regular
abbrev more_of : AoeSenderData → ℕ → ℕ → ℕ
more_of s a m = (run 63 (most_tiles s - 1) a (numbers_from (suc a) m)).0

due-more : (s : AoeSenderData) (a m : ℕ)
    → due_message (at_tile s a (suc m)) ≡ Some (regular (at_tile s a (suc m)) a (more_of s a m))
unfolding due_message sender_step.due_in run_after numbers_from most_tiles
due-more s a m = refl

due-all1 : (s : AoeSenderData) (a : ℕ)
    → due_message (at_tile s a zero) ≡ Some (all1 (at_tile s a zero))
unfolding due_message sender_step.due_in numbers_from
due-all1 s a = refl

bytes-of : (s : AoeSenderData) (due : Message × List Bool) → due_message s ≡ Some due
    → sender_due (senders.AckOnError s) ≡ Some (written s.params due.0 due.1)
unfolding sender_due sender_step.due_bytes
bytes-of s due e = ap (option_map (λ (due : Message × List Bool). written s.params due.0 due.1)) e

-- what is due is read as it is
record IsRead (params : FragParams) (due : Message × List Bool) : Type 0 where
  message_is : reading_in mode.AckOnError side.Fragments (written params due.0 due.1) ≡ Ok due.0
  payload_is : payload_in due.0 (octets (written params due.0 due.1)) ≡ due.1

due-read : (s : AoeSenderData) (due : Message × List Bool) → IsAoeSender s
    → due_message s ≡ Some due → IsRead s.params due
due-read s due is e =
    let bytes : List ℕ = written s.params due.0 due.1 in
    let both =
    reading-spelled s.params.mode side.Fragments due.0 due.1 bytes (spells-due s due is e) in
    record {
      message_is =
          ap (λ (m : FragMode). reading_in m side.Fragments bytes)
          (sym (ap (λ (p : FragParams). p.mode) is.row)) ∙ both.0;
      payload_is = sym both.1;
    }

sending-is : (t : Talk) (s : AoeSenderData) (a left : ℕ)
    → t.session.sender ≡ senders.AckOnError (at_tile s a left)
    → sender_phase t.session.sender ≡ phase.Sending
unfolding sender_phase sender_step.sender_phase sender_step.phase_in
sending-is t s a left e = ap sender_phase e

-- the sender after a Regular
sent-more : (s : AoeSenderData) (a m next left : ℕ)
    → (run 63 (most_tiles s - 1) a (numbers_from (suc a) m)).1 ≡ numbers_from next left
    → sender_sent (senders.AckOnError (at_tile s a (suc m))) ≡ senders.AckOnError
    (at_tile s next left)
unfolding sender_sent sender_step.sent sender_step.sent_in run_after numbers_from most_tiles
sent-more s a m next left e =
    ap (λ (numbers : List ℕ). senders.AckOnError (record s { state = Sending numbers 0 })) e

sound-more : (s : AoeSenderData) (a m next left : ℕ)
    → (run 63 (most_tiles s - 1) a (numbers_from (suc a) m)).1 ≡ numbers_from next left
    → IsAoeSender (at_tile s a (suc m)) → IsAoeSender (at_tile s next left)
unfolding sender_step.sent sender_step.sent_in run_after numbers_from most_tiles
sound-more s a m next left e is =
    subst (λ (numbers : List ℕ). IsAoeSender (record s { state = Sending numbers 0 })) e
    (sent-keeps (at_tile s a (suc m)) is)

report-more : (t : Talk) (s : AoeSenderData) (a m : ℕ)
    → t.session.sender ≡ senders.AckOnError (at_tile s a (suc m)) → kind_sent t.session ≡ None
unfolding kind_sent sender_sent sender_step.sent sender_step.sent_in sender_phase
    sender_step.sender_phase sender_step.phase_in numbers_from
report-more t s a m e =
    ap (λ (s : Sender). sent_kind (sender_phase s) (sender_phase (sender_sent s))) e

report-all1 : (t : Talk) (s : AoeSenderData) (a : ℕ)
    → t.session.sender ≡ senders.AckOnError (at_tile s a zero) → kind_sent t.session ≡ None
unfolding kind_sent sender_sent sender_step.sent sender_step.sent_in sender_phase
    sender_step.sender_phase sender_step.phase_in numbers_from
report-all1 t s a e =
    ap (λ (s : Sender). sent_kind (sender_phase s) (sender_phase (sender_sent s))) e

-- the state has no part in the tiles
tiles-same : (s : AoeSenderData) (a left : ℕ) → regular_tiles (at_tile s a left) ≡ regular_tiles s
unfolding regular_tiles regular_count all_tiles padded_packet
tiles-same s a left = refl

count-same : (s : AoeSenderData) (a left : ℕ) → regular_count (at_tile s a left) ≡ regular_count s
unfolding regular_count all_tiles padded_packet
count-same s a left = refl

few-regular : (last : LastTile) (count : ℕ) → in_regulars last count ≤ count
few-regular InAll1 count = omega arith
few-regular InRegular count = omega arith

length-regular : (s : AoeSenderData) → length (regular_tiles s) ≡ regular_count s
unfolding regular_tiles regular_count
length-regular s =
    length-take-le (in_regulars s.last (length (all_tiles s))) (all_tiles s)
    (few-regular s.last (length (all_tiles s)))

-- A Regular.

regular-takes : (s : AoeSenderData) (a more : ℕ) (r : receiver.AoeReceiverData)
    (places next : List (Option (List Bool))) (new : List (List Bool))
    → receiver_step.begun r ≡ receiver.Gathering places None false
    → tile_index (tile_number s.params.mode a) ≡ a
    → receiver.payload_tiles (regular s a more).1 ≡ new → keep a new places ≡ next →
    (receiver_taken (regular s a more).0 (regular s a more).1
    (receivers.AckOnError r)).0 ≡ receivers.AckOnError (receiver.Gathering next None false)
unfolding receiver_taken receiver_step.taken receiver_step.regular_step regular
regular-takes s a more r places next new e place cut kept =
    let index : ℕ = tile_index (tile_number s.params.mode a) in
    let parts : List (List Bool) =
    receiver.payload_tiles (joined (take (1 + more) (drop a (all_tiles s)))) in
    ap (λ (x : receiver.AoeReceiverData). receivers.AckOnError
    (receiver_step.regular_step index parts x).0) e
    ∙ ap (λ (k : ℕ). receivers.AckOnError (receiver.Gathering (keep k parts places) None false))
    place
    ∙ ap (λ (list : List (List Bool)). receivers.AckOnError
    (receiver.Gathering (keep a list places) None false)) cut
    ∙ ap (λ (list : List (Option (List Bool))). receivers.AckOnError
    (receiver.Gathering list None false)) kept

regular-joins : (s : AoeSenderData) (a more : ℕ) (r : receiver.AoeReceiverData)
    → receiver_previewed (regular s a more).0 (regular s a more).1 (receivers.AckOnError r) ≡ None
unfolding receiver_previewed receiver_step.previewed receiver_step.check_made
    receiver_step.if_passed regular
regular-joins s a more r = refl

none-due : (places : List (Option (List Bool)))
    → receiver_due (receivers.AckOnError (receiver.Gathering places None false)) ≡ None
unfolding receiver_due receiver_step.due_bytes receiver_step.due_answer
none-due places = refl

-- the places after a Regular
record IsKept (parts : List (List Bool)) (a more free : ℕ) (next : ℕ) : Type 0 where
  left : ℕ
  room : length (take next parts) + left ≡ 252
  keeps : keep a (take (1 + more) (drop a parts)) (held free (take a parts)) ≡ held left
      (take next parts)

kept-next : (parts : List (List Bool)) (a more free next : ℕ) → length parts ≤ 252
    → a + (1 + more) ≤ length parts → length (take a parts) + free ≡ 252 → next ≡ a + (1 + more)
    → IsKept parts a more free next
kept-next parts a more free next few inside room e =
    let old : List (List Bool) = take a parts in
    let new : List (List Bool) = take (1 + more) (drop a parts) in
    let a_is : length old ≡ a = length-take-le a parts (omega (arith, inside)) in
    let new_is : length new ≡ 1 + more =
    length-take-le (1 + more) (drop a parts) (omega (arith, length-drop a parts, inside)) in
    let next_is : length (take next parts) ≡ next =
    length-take-le next parts (omega (arith, inside, e)) in
    let left : ℕ = 252 - next in
    let split : free ≡ length new + left = omega (arith, room, a_is, new_is, e, few, inside) in
    let joined_is : old ++ new ≡ take next parts = sym (take-add a (1 + more) parts)
    ∙ ap (λ n. take n parts) (sym e) in
    record {
      left = left;
      room = omega (arith, next_is, few, inside, e);
      keeps =
          ap (λ n. keep n new (held free old)) (sym a_is) ∙ keep-behind old new free left split
          ∙ ap (λ list. held left list) joined_is;
    }

begun-gathering : (places : List (Option (List Bool)))
    → receiver_step.begun (receiver.Gathering places None false) ≡ receiver.Gathering places None
    false
unfolding receiver_step.begun
begun-gathering places = refl

record IsMore (s : AoeSenderData) (a m : ℕ) (ticks : TimerTicks) (t : Talk) : Type 0 where
  next : ℕ
  left : ℕ
  fewer : left ≤ m
  after : Talk
  round : IsRound mode.AckOnError ticks t None None None after
  at : IsAt s next left after

more-round : (s : AoeSenderData) (a m : ℕ) (ticks : TimerTicks) (t : Talk) → IsAt s a (suc m) t
    → IsMore s a m ticks t
more-round s a m ticks t k =
    let si : AoeSenderData = at_tile s a (suc m) in
    let f = front-is (most_tiles s - 1) a m in
    let more : ℕ = more_of s a m in
    let parts : List (List Bool) = regular_tiles s in
    let count : length parts ≡ regular_count s = length-regular s in
    let few : regular_count s ≤ 252 =
    subst (λ (n : ℕ). n ≤ 252) (count-same s a (suc m)) (count-bound si k.sound).0 in
    let inside : a + (1 + more) ≤ length parts = let all = k.whole in let run_is = f.whole in
    omega (arith, all, run_is, count) in
    let next_is : f.next ≡ a + (1 + more) = let e = f.next_is in omega (arith, e) in
    let whole =
    regular-whole si a more k.sound
    (subst (λ (n : ℕ). a + more < n) (sym (count-same s a (suc m)))
    (omega (arith, inside, count))) in
    let kept =
    kept-next parts a more k.free f.next (omega (arith, count, few)) inside k.room next_is in
    let due : Message × List Bool = regular si a more in
    let read = due-read si due k.sound (due-more s a m) in
    let places : List (Option (List Bool)) = held kept.left (take f.next parts) in
    let to : Receiver = receivers.AckOnError (receiver.Gathering places None false) in
    let given : IsGiven mode.AckOnError t due.0 due.1 None None to =
    record {
      sending = sending-is t s a (suc m) k.sender_is;
      bytes = written s.params due.0 due.1;
      due = ap sender_due k.sender_is ∙ bytes-of si due (due-more s a m);
      read = read.message_is;
      payload_is = read.payload_is;
      joins = ap (receiver_previewed due.0 due.1) k.receiver_is ∙ regular-joins si a more k.r;
      sends = report-more t s a m k.sender_is;
      takes =
          ap (λ (x : Receiver). (receiver_taken due.0 due.1 x).0) k.receiver_is
          ∙ regular-takes si a more k.r (held k.free (take a parts)) places
          (take (1 + more) (drop a parts)) k.kept_is whole.place
          (whole.parts
          ∙ ap (λ (list : List (List Bool)). take (1 + more) (drop a list))
          (tiles-same s a (suc m))) kept.keeps;
    }
    in
    let l = silent-round mode.AckOnError ticks t due.0 due.1 None None to given (none-due places) in
    let sender : sender_sent t.session.sender ≡ senders.AckOnError (at_tile s f.next f.left) =
    ap sender_sent k.sender_is ∙ sent-more s a m f.next f.left f.rest in
    record {
      next = f.next;
      left = f.left;
      fewer = let run_is = f.whole in omega (arith, run_is);
      after = l.after;
      round = l.round;
      at =
          record {
            sound = sound-more s a m f.next f.left f.rest k.sound;
            whole = let all = k.whole in let run_is = f.whole in
                omega (arith, all, run_is, next_is);
            r = receiver.Gathering places None false;
            free = kept.left;
            room = kept.room;
            sender_is = l.sender_is ∙ sender;
            receiver_is = l.receiver_is;
            kept_is = begun-gathering places;
          };
    }

-- The All-1.

whole-is : (w free : ℕ) (parts : List (List Bool)) → 63 * w ≤ length parts
    → receiver_step.is_whole w (held_bits (held free parts)) ≡ true
unfolding receiver_step.is_whole bitmap
whole-is w free parts h =
    let bits : List Bool = replicate (length parts) true ++ replicate free false in
    let turned : w * 63 ≤ length parts = omega (arith, h) in
    ap (λ (list : List Bool). all_true (take (63 * w) list) && no_gap
    (take 63 (drop (w * 63) list))) (bits-whole parts free)
    ∙ ap (λ (b : Bool). b && no_gap (take 63 (drop (w * 63) bits)))
    (all_true-front (63 * w) (length parts) free h)
    ∙ no_gap-part 63 (w * 63) (length parts) free turned

assembly-is : (w rcs free : ℕ) (parts : List (List Bool)) (tile packet : List Bool)
    → length parts ≤ 63 * (w + 1) → joined parts ++ tile ≡ packet
    → receiver_step.assembly (held free parts) (receiver_step.last_of w rcs tile) ≡ packet
unfolding receiver_step.assembly
assembly-is w rcs free parts tile packet h e =
    ap (λ (list : List Bool). list ++ tile) (joined-whole (63 * (w + 1)) free parts h) ∙ e

passes-is : (w rcs free : ℕ) (parts : List (List Bool)) (tile packet : List Bool)
    → 63 * w ≤ length parts → length parts ≤ 63 * (w + 1) → joined parts ++ tile ≡ packet
    → rcs ≡ rcs_of packet
    → receiver_step.passes (held free parts) (receiver_step.last_of w rcs tile) ≡ true
unfolding receiver_step.passes
passes-is w rcs free parts tile packet low high e same =
    ap (λ (b : Bool).
    b && (rcs_of
    (receiver_step.assembly (held free parts) (receiver_step.last_of w rcs tile)) == rcs))
    (whole-is w free parts low)
    ∙ eq-eqb (rcs_of (receiver_step.assembly (held free parts) (receiver_step.last_of w rcs tile)))
    rcs (ap rcs_of (assembly-is w rcs free parts tile packet high e) ∙ sym same)

last-takes : (w rcs from : ℕ) (tile : List Bool) (r : receiver.AoeReceiverData)
    (places : List (Option (List Bool)))
    → receiver_step.begun r ≡ receiver.Gathering places None false
    → receiver_step.passes places (receiver_step.last_of w rcs tile) ≡ true →
    (receiver_taken (form.All1 w rcs from) tile (receivers.AckOnError r)).0 ≡ receivers.AckOnError
    (receiver.Finished places (receiver_step.last_of w rcs tile) true)
unfolding receiver_taken receiver_step.taken receiver_step.all1_step receiver_step.check_step
last-takes w rcs from tile r places e passes =
    ap (λ (x : receiver.AoeReceiverData). receivers.AckOnError
    (receiver_step.all1_step (receiver_step.last_of w rcs tile) x).0) e
    ∙ ap (λ (b : Bool). receivers.AckOnError
    (receiver_step.check_step places (receiver_step.last_of w rcs tile) b).0) passes

last-joins : (w rcs from : ℕ) (tile packet : List Bool) (r : receiver.AoeReceiverData)
    (places : List (Option (List Bool)))
    → receiver_step.begun r ≡ receiver.Gathering places None false
    → receiver_step.passes places (receiver_step.last_of w rcs tile) ≡ true →
    receiver_step.assembly places (receiver_step.last_of w rcs tile) ≡ packet
    → receiver_previewed (form.All1 w rcs from) tile (receivers.AckOnError r) ≡ Some packet
unfolding receiver_previewed receiver_step.previewed receiver_step.check_made
    receiver_step.all1_check receiver_step.if_passed
last-joins w rcs from tile packet r places e passes whole =
    let last : receiver.LastData = receiver_step.last_of w rcs tile in
    ap (λ (x : receiver.AoeReceiverData). receiver_step.if_passed (receiver_step.all1_check last x))
    e
    ∙ ap (λ (b : Bool). if b then Some (receiver_step.assembly places last) else None) passes
    ∙ ap (λ (list : List Bool). Some list) whole

-- the answer that all came
abbrev done_bytes : ℕ → List ℕ
done_bytes w = written (params_of mode.AckOnError) (form.Ack w true 0) []

done-due : (places : List (Option (List Bool))) (last : receiver.LastData)
    → receiver_due (receivers.AckOnError (receiver.Finished places last true)) ≡ Some
    (done_bytes last.w)
unfolding receiver_due receiver_step.due_bytes receiver_step.due_answer
done-due places last = refl

done-read : (w : ℕ) → w < 4
    → reading_in mode.AckOnError side.Answers (done_bytes w) ≡ Ok (form.Ack w true 0)
done-read w h =
    read-written (params_of mode.AckOnError) side.Answers (form.Ack w true 0) [] refl
    (omega (arith, h), refl, refl)

hears-done : (s : AoeSenderData) (a : ℕ)
    → sender_heard (form.Ack (last_window (at_tile s a zero)) true 0)
    (sender_sent (senders.AckOnError (at_tile s a zero))) ≡ (
      senders.AckOnError
          (record s { state = Quiet }),
      heard.Delivered,
    )
unfolding sender_sent sender_step.sent sender_step.sent_in sender_heard sender_step.heard
    sender_step.heard_in sender_step.acked sender_step.confirmed sender_step.moves numbers_from
    last_window all_tiles padded_packet
hears-done s a =
    rw (eq-eqb (last_window s) (last_window s) refl) refl

quiet-is : (s : AoeSenderData)
    → sender_phase (senders.AckOnError (record s { state = Quiet })) ≡ phase.Quiet
unfolding sender_phase sender_step.sender_phase sender_step.phase_in
quiet-is s = refl

-- the window of the last tile is the last one that has tiles
record IsWindow (count w : ℕ) : Type 0 where
  low : 63 * w ≤ count
  high : count ≤ 63 * (w + 1)
  fits : w < 4

window-in : (last : LastTile) (all : ℕ) → 1 ≤ all → all ≤ 252
    → IsWindow (in_regulars last all) ((all - 1) / 63)
window-in InAll1 all some few = record { low = omega arith; high = omega arith; fits = omega arith }
window-in InRegular all some few =
    record { low = omega arith; high = omega arith; fits = omega arith }

window-is : (s : AoeSenderData) → IsAoeSender s → IsWindow (regular_count s) (last_window s)
unfolding regular_count last_window
window-is s is =
    let count = count-tiles s (has-tiles s is) in
    let least = is.least in
    let most = is.most in
    window-in s.last (length (all_tiles s)) (omega arith) (omega arith)

packet_of : AoeSenderData → List Bool
packet_of s = padding.padded_packet s.params s.mtu s.bits

last-round : (s : AoeSenderData) (a : ℕ) (ticks : TimerTicks) (t : Talk) → IsAt s a zero t
    → IsLastRound mode.AckOnError ticks (packet_of s) t
unfolding all1 packet_of
last-round s a ticks t k =
    let si : AoeSenderData = at_tile s a zero in
    let parts : List (List Bool) = take a (regular_tiles s) in
    let all : parts ≡ regular_tiles si =
    take_all a (regular_tiles s) (let e = k.whole in omega (arith, e, length-regular s))
    ∙ sym (tiles-same s a zero) in
    let count : length parts ≡ regular_count si = ap length all ∙ length-regular si in
    let window = window-is si k.sound in
    let w : ℕ = last_window si in
    let rcs : ℕ = rcs_of (padded_packet si) in
    let tile : List Bool = all1_tile si in
    let from : ℕ = s.params.w_bits + s.params.fcn_bits + 32 in
    let places : List (Option (List Bool)) = held k.free parts in
    let packet : List Bool = padding.padded_packet s.params s.mtu s.bits in
    let whole : joined parts ++ tile ≡ packet =
    ap (λ (list : List (List Bool)). joined list ++ tile) all ∙ packet-arrives si k.sound in
    let low : 63 * w ≤ length parts = let h = window.low in omega (arith, h, count) in
    let high : length parts ≤ 63 * (w + 1) = let h = window.high in omega (arith, h, count) in
    let passes =
    passes-is w rcs k.free parts tile packet low high whole
    (ap rcs_of (packet-padding si k.sound)) in
    let last : receiver.LastData = receiver_step.last_of w rcs tile in
    let to : Receiver = receivers.AckOnError (receiver.Finished places last true) in
    let read = due-read si (form.All1 w rcs from, tile) k.sound (due-all1 s a) in
    let given : IsGiven mode.AckOnError t (form.All1 w rcs from) tile (Some packet) None to =
    record {
      sending = sending-is t s a zero k.sender_is;
      bytes = written s.params (form.All1 w rcs from) tile;
      due = ap sender_due k.sender_is ∙ bytes-of si (form.All1 w rcs from, tile) (due-all1 s a);
      read = read.message_is;
      payload_is = read.payload_is;
      joins = ap (receiver_previewed (form.All1 w rcs from) tile) k.receiver_is
          ∙ last-joins w rcs from tile packet k.r places k.kept_is passes
          (assembly-is w rcs k.free parts tile packet high whole);
      sends = report-all1 t s a k.sender_is;
      takes = ap (λ (x : Receiver). (receiver_taken (form.All1 w rcs from) tile x).0) k.receiver_is
          ∙ last-takes w rcs from tile k.r places k.kept_is passes;
    }
    in
    let ack : Message = form.Ack w true 0 in
    let ended : Sender = senders.AckOnError (record s { state = Quiet }) in
    let hears : sender_heard ack (sender_sent t.session.sender) ≡ (ended, heard.Delivered) =
    ap (λ (x : Sender). sender_heard ack (sender_sent x)) k.sender_is ∙ hears-done s a
    in
    let l = answered-round mode.AckOnError ticks t (form.All1 w rcs from) tile (Some packet) None to
    given (done_bytes w) ack ended heard.Delivered (done-due places last)
    (done-read w window.fits) hears in
    record { after = l.after; round = l.round; ended = ap sender_phase l.sender_is ∙ quiet-is s }

-- All rounds.

-- so many rounds before the last one, at most
record EndsSoon (ticks : TimerTicks) (packet : List Bool) (most : ℕ) (t : Talk) : Type 0 where
  more : ℕ
  few : more ≤ most
  ends : Ends mode.AckOnError ticks packet more t

ends-from : (most a left : ℕ) (s : AoeSenderData) (ticks : TimerTicks) (t : Talk) → left ≤ most
    → IsAt s a left t → EndsSoon ticks (packet_of s) most t
ends-from most a zero s ticks t h k =
    record { more = zero; few = omega arith; ends = last-round s a ticks t k }
ends-from zero a (suc m) s ticks t h k = absurd (omega (arith, h))
ends-from (suc most) a (suc m) s ticks t h k =
    let one = more-round s a m ticks t k in
    let rest =
    ends-from most one.next one.left s ticks one.after
    (let fewer = one.fewer in omega (arith, h, fewer)) one.at in
    record {
      more = suc rest.more;
      few = let few = rest.few in omega (arith, few);
      ends =
          (one.after, one.round, rest.ends);
    }

abbrev base : LaneParams → List Bool → AoeSenderData
base params bits =
    record {
      params = params.frag;
      mtu = params.ends.mtu;
      last = params.ends.last;
      bits =
          bits;
      state = Quiet;
    }

begun-is : (params : LaneParams) (bits : List Bool)
    → sender_step.begun params.frag params.ends.mtu params.ends.last bits ≡ at_tile
    (base params bits) 0 (regular_count (base params bits))
unfolding sender_step.begun
begun-is params bits = refl

begun-sender : (params : LaneParams) (number : ℕ) (bits : List Bool)
    → params.frag.mode ≡ mode.AckOnError
    → (lane_session params number bits).sender ≡ senders.AckOnError
    (sender_step.begun params.frag params.ends.mtu params.ends.last bits)
unfolding lane_session sender_begun
begun-sender params number bits e =
    ap (λ (m : FragMode). sender_begun m params.frag params.ends.mtu params.ends.last bits) e

new-is : (m : FragMode) → m ≡ mode.AckOnError
    → new_receiver m ≡ receivers.AckOnError (receiver.Empty false)
unfolding new_receiver receiver.empty_receiver
new-is m e = ap new_receiver e

new-kept : receiver_step.begun (receiver.Empty false) ≡ receiver.Gathering (held 252 []) None false
unfolding receiver_step.begun receiver.no_tiles
new-kept = refl

begun-at : (params : LaneParams) (number : ℕ) (bits : List Bool) (left : Option ℕ)
    → params.frag.mode ≡ mode.AckOnError
    → IsAoeSender (sender_step.begun params.frag params.ends.mtu params.ends.last bits)
    → IsAt (base params bits) 0 (regular_count (base params bits))
    (new_talk params number bits left)
begun-at params number bits left e is =
    record {
      sound = subst IsAoeSender (begun-is params bits) is;
      whole = omega arith;
      r = receiver.Empty false;
      free = 252;
      room = omega arith;
      sender_is = begun-sender params number bits e
          ∙ ap (λ (s : AoeSenderData). senders.AckOnError s) (begun-is params bits);
      receiver_is = new-is params.frag.mode e;
      kept_is = new-kept;
    }

few-rounds : (params : LaneParams) (bits : List Bool)
    → IsAoeSender (sender_step.begun params.frag params.ends.mtu params.ends.last bits)
    → params.frag.mode ≡ mode.AckOnError
    → regular_count (base params bits) ≤ length (tiles params.frag params.ends.mtu bits)
unfolding regular_count all_tiles padded_packet sender_step.begun
few-rounds params bits is e =
    let s : AoeSenderData = base params bits in
    let least = is.least in
    let count : length (all_tiles s) ≡ (length bits + 79) / 80 =
    count-tiles (sender_step.begun params.frag params.ends.mtu params.ends.last bits)
    (has-tiles (sender_step.begun params.frag params.ends.mtu params.ends.last bits) is) in
    let own : length (tiles params.frag params.ends.mtu bits) ≡ (length bits + 79) / 80 =
    length-tiles params.frag params.ends.mtu bits
    ∙ counts-tiles params.frag params.ends.mtu (length bits) e (omega arith) in
    let some = few-regular params.ends.last (length (all_tiles s)) in
    omega (arith, count, own, some)

-- in ACK-on-Error a session of which nothing is lost joins its padded packet and ends as delivered,
-- after at most one round more than it has tiles
pub clean-ack_on_error : CleanIn mode.AckOnError
unfolding packet_of
clean-ack_on_error params number bits left are e can =
    let row : params.frag ≡ params_of mode.AckOnError = are.row ∙ ap params_of e in
    let s : AoeSenderData = base params bits in
    let is =
    begun-keeps params.frag params.ends.mtu params.ends.last bits row are.in_range.mtu can.least
    can.most in
    let all =
    ends-from (regular_count s) 0 (regular_count s) s params.ends.ticks
    (new_talk params number bits left) (omega arith) (begun-at params number bits left e is) in
    let few = all.few in
    ends-well mode.AckOnError params number bits left all.more e
    (omega (arith, few, few-rounds params bits is e)) all.ends
