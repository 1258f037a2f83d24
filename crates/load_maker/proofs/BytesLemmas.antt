-- The packets of a load are bytes.
use Rattle.std.proofs.Common.{ℕ, zero, suc, ◌+◌, ◌*◌, ◌%◌, ◌==◌, Bool, true, false, if◌then◌else◌}
use Rattle.std.proofs.Common.{List, [], ◌∷◌, ◌++◌, flat_map}
use Rattle.schc_bits.proofs.ListLemmas.{all-append}
use Rattle.schc_ids.specs.declared.ends.Direction.TheVariants as way
use Rattle.event_data.specs.Events.{HandsBytes, Deliver}
use Rattle.script_lang.specs.ScriptData.{ScriptEventData}
use Rattle.script_lang.specs.Ranges.{HandBytes}
use Rattle.load_maker.specs.Load.{below, draws, at, fits_frame, load, pieces, rounds, frames_up}
use Rattle.load_maker.specs.Load.{repeated, in_one_frame, session_answered, in_pieces, turn}
use Rattle.load_maker.specs.Load.{turn_at, round_of}
use Rattle.load_maker.specs.declared.frames.Frames.{Frames}
use Rattle.load_maker.proofs.LoadLemmas.{packet_bytes}

joined-bytes : (front back : List ScriptEventData) → HandBytes front → HandBytes back
    → HandBytes (front ++ back)
joined-bytes front back first second =
    all-append (λ (e : ScriptEventData). HandsBytes e.event) front back first second

flat-bytes : (f : ℕ → List ScriptEventData) (ns : List ℕ) → ((n : ℕ) → HandBytes (f n))
    → HandBytes (flat_map f ns)
flat-bytes f [] each = tt
flat-bytes f (n ∷ ns) each = joined-bytes (f n) (flat_map f ns) (each n) (flat-bytes f ns each)

frames-bytes : (device number count : ℕ) → HandBytes (frames_up device number count)
unfolding frames_up
frames-bytes device number zero = tt
frames-bytes device number (suc count) = (tt, (tt, frames-bytes device (number + 1) count))

again-bytes : (device number : ℕ) (again : Bool)
    → HandBytes (if again then at device (Deliver way.Up number) ∷ [] else [])
again-bytes device number true = (tt, tt)
again-bytes device number false = tt

repeated-bytes : (device draw number : ℕ) → HandBytes (repeated device draw number)
repeated-bytes device draw number = again-bytes device number (draw % 4 == 0)

one-frame-bytes : (device draw : ℕ) (frames : Frames) → HandBytes (in_one_frame device draw frames)
unfolding in_one_frame
one-frame-bytes device draw frames =
    joined-bytes (frames_up device (frames.up + 1) 1) (repeated device draw (frames.up + 1))
    (frames-bytes device (frames.up + 1) 1) (repeated-bytes device draw (frames.up + 1))

answered-bytes : (device number : ℕ) → HandBytes (session_answered device number)
unfolding session_answered
answered-bytes device number = (tt, (tt, (tt, (tt, tt))))

pieces-bytes : (device draw : ℕ) (frames : Frames) → HandBytes (in_pieces device draw frames)
unfolding in_pieces
pieces-bytes device draw frames =
    joined-bytes (frames_up device (frames.up + 1) (pieces draw))
    (session_answered device (frames.down + 1))
    (frames-bytes device (frames.up + 1) (pieces draw)) (answered-bytes device (frames.down + 1))

sent-bytes : (device draw : ℕ) (frames : Frames) (one : Bool)
    → HandBytes (if one then in_one_frame device draw frames else in_pieces device draw frames)
sent-bytes device draw frames true = one-frame-bytes device draw frames
sent-bytes device draw frames false = pieces-bytes device draw frames

turn-bytes : (device draw : ℕ) (frames : Frames) → HandBytes (turn device draw frames)
unfolding turn
turn-bytes device draw frames =
    (packet_bytes device draw, sent-bytes device draw frames (fits_frame draw))

round-bytes : (all : List ℕ) (devices round : ℕ) → HandBytes (round_of all devices round)
round-bytes all devices round =
    flat-bytes (turn_at all devices round) (below devices) (λ device. turn-bytes device _ _)

-- a load hands down bytes
pub load_bytes : (devices start : ℕ) → HandBytes (load devices start).events
load_bytes devices start =
    flat-bytes (round_of (draws (rounds * devices) start) devices) (below rounds)
    (round-bytes (draws (rounds * devices) start) devices)
