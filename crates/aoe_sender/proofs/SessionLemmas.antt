-- The session of a sender stays the same, its padding is that of all modes, and its All-1 carries
-- its check.
use Rattle.std.specs.Prelude.{ℕ, ◌≡◌, ◌↔◌, ◌+◌, ◌-◌, ◌*◌, ◌/◌, ◌%◌, ◌<◌, ◌≤◌, ◌==◌, zero, suc}
use Rattle.std.specs.Prelude.{nat_lt, Bool, true, false, List, [], ◌∷◌, ◌++◌, length, take, drop}
use Rattle.std.specs.Prelude.{get_or, replicate, Option, Some, None, option_map}
use Rattle.std.proofs.Common.{arith, ap, inl, inr, refl, sym, subst, ◌∙◌}
use Rattle.std.proofs.lemmas.List.{append-nil, length-take, length-drop}
use Rattle.schc_bits.specs.Bits.{number_bits}
use Rattle.schc_bits.proofs.Octets.{padded-is}
use Rattle.schc_ids.specs.declared.fragments.FragMode.TheVariants as mode
use Rattle.schc_ids.specs.declared.fragments.FragParams.{FragParams}
use Rattle.schc_ids.specs.declared.fragments.Side.TheVariants as side
use Rattle.schc_ids.specs.declared.notes.Heard.{Heard}
use Rattle.schc_ids.specs.declared.notes.Heard.TheVariants.{Counted, Delivered, NeverPasses}
use Rattle.schc_ids.specs.declared.notes.Heard.TheVariants.{PeerAborted, Spent, Aborted}
use Rattle.frag_wire.specs.Layouts.{written}
use Rattle.frag_wire.specs.Spells.{Spells}
use Rattle.frag_wire.specs.declared.message.Message.{Message}
use Rattle.frag_wire.specs.declared.message.Message.TheVariants as form
use Rattle.frag_wire.proofs.DueLemmas.{IsStill, sending-moves, closing-moves, check_in}
use Rattle.frag_wire.proofs.DueLemmas.{some-bytes, some-check, none-check}
use Rattle.frag_wire.proofs.LawsLemmas.{spelled-once}
use Rattle.rcs.specs.Division.{rcs_of}
use Rattle.tiles_bitmap.specs.Laws.{joined}
use Rattle.tiles_bitmap.specs.Padding as padding
use Rattle.tiles_bitmap.specs.Tiles.{AreTiles, parts, tiles, tile_sizes}
use Rattle.tiles_bitmap.proofs.TilesLemmas.{are-tiles, counts-tiles}
use Rattle.aoe_sender.specs.Laws.{IsSameSession, KeepsSession, NoneDue, OnePadding, All1Checks}
use Rattle.aoe_sender.specs.Laws.{PacketArrives}
use Rattle.aoe_sender.specs.State.{AoeSenderData, AoeSenderState, Sending, Waiting, Closing, Quiet}
use Rattle.aoe_sender.specs.Steps.{run_after, regular, all1, due_in, due_message, due_bytes, sent}
use Rattle.aoe_sender.specs.Steps.{moves, stays, missing_of, all1_came, asked_last, asked}
use Rattle.aoe_sender.specs.Steps.{confirmed, acked, heard_in, heard, repeated, retried_in, retried}
use Rattle.aoe_sender.specs.Steps.{aborted_in, aborted, phase_in, sender_phase, IsAoeSender}
use Rattle.aoe_sender.specs.Tiles.{padded_packet, last_window}
use Rattle.aoe_sender.proofs.CutLemmas.{HasTiles, mode-is, joined-part, length-parts}
use Rattle.aoe_sender.proofs.KeepsLemmas.{has-tiles}
use Rattle.aoe_sender.proofs.LawsLemmas.{spells-due, tiles-packet}

-- What a step keeps.

stays-same : (s : AoeSenderData) → IsSameSession s (stays s).0
unfolding stays
stays-same s = record { params = refl; mtu = refl; last = refl; bits = refl }

moves-same : (s : AoeSenderData) (state : AoeSenderState) (h : Heard)
    → IsSameSession s (moves s state h).0
unfolding moves
moves-same s state h = record { params = refl; mtu = refl; last = refl; bits = refl }

sent-same : (s : AoeSenderData) → IsSameSession s (sent s)
unfolding sent
sent-same s = record { params = refl; mtu = refl; last = refl; bits = refl }

asked_last-same : (s : AoeSenderData) (numbers : List ℕ) (came : Bool)
    → IsSameSession s (asked_last s numbers came).0
unfolding asked_last
asked_last-same s [] true = moves-same s Closing NeverPasses
asked_last-same s [] false = moves-same s (Sending [] 0) Counted
asked_last-same s (number ∷ numbers) came = moves-same s (Sending (number ∷ numbers) 0) Counted

asked-same : (s : AoeSenderData) (window : ℕ) (bits : List Bool) (same below : Bool)
    → IsSameSession s (asked s window bits same below).0
unfolding asked
asked-same s window bits true below =
    asked_last-same s (missing_of s window bits) (all1_came s.last bits)
asked-same s window bits false true = moves-same s (Sending (missing_of s window bits) 0) Counted
asked-same s window bits false false = stays-same s

confirmed-same : (s : AoeSenderData) (same : Bool) → IsSameSession s (confirmed s same).0
unfolding confirmed
confirmed-same s true = moves-same s Quiet Delivered
confirmed-same s false = stays-same s

acked-same : (s : AoeSenderData) (window : ℕ) (c : Bool) (bitmap : ℕ)
    → IsSameSession s (acked s window c bitmap).0
unfolding acked
acked-same s window true bitmap = confirmed-same s (window == last_window s)
acked-same s window false bitmap =
    asked-same s window (number_bits 63 bitmap) (window == last_window s)
    (nat_lt window (last_window s))

heard-same : (message : Message) (s : AoeSenderData) (state : AoeSenderState)
    → IsSameSession s (heard_in message s state).0
unfolding heard_in
heard-same (form.Ack window c bitmap) s (Waiting attempts) = acked-same s window c bitmap
heard-same (form.Ack window c bitmap) s (Sending numbers attempts) = stays-same s
heard-same (form.Ack window c bitmap) s Closing = stays-same s
heard-same (form.Ack window c bitmap) s Quiet = stays-same s
heard-same form.ReceiverAbort s (Sending numbers attempts) = moves-same s Quiet PeerAborted
heard-same form.ReceiverAbort s (Waiting attempts) = moves-same s Quiet PeerAborted
heard-same form.ReceiverAbort s Closing = stays-same s
heard-same form.ReceiverAbort s Quiet = stays-same s
heard-same (form.Regular w fcn from) s state = stays-same s
heard-same (form.All1 w rcs from) s state = stays-same s
heard-same (form.AckReq w) s state = stays-same s
heard-same form.SenderAbort s state = stays-same s

repeated-same : (s : AoeSenderData) (attempts : ℕ) (more : Bool)
    → IsSameSession s (repeated s attempts more).0
unfolding repeated
repeated-same s attempts true = moves-same s (Sending [] attempts) Counted
repeated-same s attempts false = moves-same s Closing Spent

retried-same : (s : AoeSenderData) (state : AoeSenderState) → IsSameSession s (retried_in s state).0
unfolding retried_in
retried-same s (Waiting attempts) = repeated-same s attempts (nat_lt attempts 8)
retried-same s (Sending numbers attempts) = stays-same s
retried-same s Closing = stays-same s
retried-same s Quiet = stays-same s

aborted-same : (s : AoeSenderData) (state : AoeSenderState) → IsSameSession s (aborted_in s state).0
unfolding aborted_in
aborted-same s (Sending numbers attempts) = moves-same s Closing Aborted
aborted-same s (Waiting attempts) = moves-same s Closing Aborted
aborted-same s Closing = stays-same s
aborted-same s Quiet = stays-same s

-- no step changes the parameters, the MTU, the SCHC packet, or where its last tile goes
pub keeps-session : KeepsSession
unfolding heard retried aborted
keeps-session s =
    record {
      sends = sent-same s;
      hears = λ message. heard-same message s s.state;
      retries = retried-same s s.state;
      aborts = aborted-same s s.state;
    }

-- Where nothing is due.

none-in : (s : AoeSenderData) (state : AoeSenderState)
    → (option_map (λ due. written s.params due.0 due.1) (due_in s state) ≡ None) ↔ IsStill
    (phase_in state)
unfolding due_in phase_in
none-in s (Sending [] attempts) = (λ h. absurd (cc h), λ h. absurd (sending-moves h))
none-in s (Sending (number ∷ numbers) attempts) =
    (λ h. absurd (cc h), λ h. absurd (sending-moves h))
none-in s (Waiting attempts) = (λ h. inl refl, λ h. refl)
none-in s Closing = (λ h. absurd (cc h), λ h. absurd (closing-moves h))
none-in s Quiet = (λ h. inr refl, λ h. refl)

-- no bytes are due exactly while the sender waits and when its session has ended
pub none-due : NoneDue
unfolding due_bytes due_message sender_phase
none-due s = none-in s s.state

-- The padding.

joined-one : (k : ℕ) (xs : List (List Bool)) → k < length xs
    → joined (take 1 (drop k xs)) ≡ get_or xs k []
joined-one k [] h = absurd (omega (arith, h))
joined-one zero (x ∷ xs) h = append-nil x
joined-one (suc k) (x ∷ xs) h = joined-one k xs (omega (arith, h))

-- the last tile is what is left behind the tiles of 80 bits
last-tile : (params : FragParams) (mtu : ℕ) (bits : List Bool) → params.mode ≡ mode.AckOnError
    → Rattle.schc_ids.specs.Limits.IsMtu mtu → 1 ≤ length bits →
    length (padding.last_of (tiles params mtu bits)) ≡ length
    bits - 80 * ((length bits + 79) / 80 - 1)
last-tile params mtu bits e h some =
    let sizes = tile_sizes params mtu (length bits) in
    let all : length (parts sizes bits) ≡ (length bits + 79) / 80 = length-parts sizes bits
    ∙ counts-tiles params mtu (length bits) e some in
    let k : ℕ = length (parts sizes bits) - 1 in
    let inside : k < length (parts sizes bits) = omega (arith, all, some) in
    let part =
    joined-part k 1 mtu (length bits) sizes bits refl
    (subst (λ m. AreTiles m mtu (length bits) sizes) e (are-tiles params mtu (length bits) h))
    in
    let width = ap length (sym (joined-one k (parts sizes bits) inside) ∙ part) in
    width ∙ length-take (80 * 1) (drop (80 * k) bits)
    ∙ omega (arith, length-drop (80 * k) bits, all, some)

-- the packet gets the padding of all modes, whether its last tile goes in the All-1 or a Regular
pub one-padding : (s : AoeSenderData) → HasTiles s
    → padded_packet s ≡ padding.padded_packet s.params s.mtu s.bits
unfolding padded_packet padding.padded_packet padding.fill
one-padding s h =
    let last = last-tile s.params s.mtu s.bits (mode-is s h) h.mtu h.some in
    let head : padding.all1_head s.params ≡ 40 =
    ap (λ (p : FragParams). p.w_bits + p.fcn_bits + 32) h.row in
    let same : length
    s.bits % 8 ≡ (padding.all1_head s.params + length
    (padding.last_of (tiles s.params s.mtu s.bits))) % 8 = omega (arith, last, head, h.some) in
    padded-is s.bits ∙ ap (λ n. s.bits ++ replicate ((8 - n) % 8) false) same

-- a sender's padded packet is that of all modes, wherever its last tile goes
pub packet-padding : OnePadding
packet-padding s i = one-padding s (has-tiles s i)

-- the tiles of a sender's Regulars in their order, and then the All-1's, are the padded packet of
-- all modes
pub packet-arrives : PacketArrives
packet-arrives s i = tiles-packet s i ∙ packet-padding s i

-- The check.

some-due : (first second : Message × List Bool) → Some first ≡ Some second → first ≡ second
some-due first second e = cc

check-of : (made due : Message × List Bool) (rcs : ℕ) → Some made ≡ Some due
    → Some rcs ≡ check_in due.0 → Some rcs ≡ check_in made.0
check-of made due rcs e c = c
    ∙ sym (ap (λ (d : Message × List Bool). check_in d.0) (some-due made due e))

due-check : (s : AoeSenderData) (state : AoeSenderState) (due : Message × List Bool) (rcs : ℕ)
    → due_in s state ≡ Some due → Some rcs ≡ check_in due.0 → rcs ≡ rcs_of (padded_packet s)
unfolding due_in all1 regular
due-check s (Sending [] attempts) due rcs e c =
    some-check rcs (rcs_of (padded_packet s)) (check-of (all1 s) due rcs e c)
due-check s (Sending (number ∷ numbers) attempts) due rcs e c =
    absurd (none-check rcs (check-of (regular s number (run_after s number numbers).0) due rcs e c))
due-check s (Waiting attempts) due rcs e c = absurd (cc e)
due-check s Closing due rcs e c =
    absurd (none-check rcs (check-of (form.SenderAbort, []) due rcs e c))
due-check s Quiet due rcs e c = absurd (cc e)

bytes-check : (s : AoeSenderData) (o : Option (Message × List Bool)) (bytes : List ℕ)
    (w rcs from : ℕ) (payload : List Bool) → IsAoeSender s → due_message s ≡ o →
    option_map (λ due. written s.params due.0 due.1) o ≡ Some bytes
    → Spells s.params side.Fragments (form.All1 w rcs from) payload bytes
    → rcs ≡ rcs_of (padded_packet s)
unfolding due_message
bytes-check s None bytes w rcs from payload i q e spells = absurd (cc e)
bytes-check s (Some due) bytes w rcs from payload i q e spells =
    let spelt : Spells s.params side.Fragments due.0 due.1 bytes =
    subst (λ (b : List ℕ). Spells s.params side.Fragments due.0 due.1 b)
    (some-bytes (written s.params due.0 due.1) bytes e) (spells-due s due i q)
    in
    due-check s s.state due rcs q
    (ap check_in
    (spelled-once s.params side.Fragments bytes (form.All1 w rcs from) due.0 payload due.1
    spells spelt).0)

-- bytes that are due and spell an All-1 carry the RCS of the padded packet
pub all1-checks : All1Checks
unfolding due_bytes
all1-checks s bytes w rcs from payload i e spells =
    bytes-check s (due_message s) bytes w rcs from payload i refl e spells
    ∙ ap rcs_of (packet-padding s i)
