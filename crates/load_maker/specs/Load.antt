-- The load of a number: a script of some devices, each of which hands down three packets, made of
-- pseudo-random draws.
use Rattle.std.specs.Prelude.{ℕ, zero, suc, ◌+◌, ◌-◌, ◌*◌, ◌/◌, ◌%◌, ◌^◌, ◌==◌, nat_le, Bool, true}
use Rattle.std.specs.Prelude.{if◌then◌else◌, List, [], ◌∷◌}
use Rattle.std.specs.Prelude.{◌++◌, map, flat_map, slice_index}
use Rattle.std.specs.Int.{to_be_bytes}
use mir.Syntax.{w16, w64}
use Rattle.schc_ids.specs.declared.ends.Role.TheVariants.{Device, Gateway}
use Rattle.schc_ids.specs.declared.ends.Direction.TheVariants as way
use Rattle.schc_ids.specs.declared.ends.LastTile.TheVariants.{InAll1}
use Rattle.rule_model.specs.declared.raw.DeviceLine.{DeviceLine}
use Rattle.event_data.specs.declared.events.Target.TheVariants.{Both}
use Rattle.event_data.specs.Events.{Event, Down, Slot, Deliver, Tick}
use Rattle.script_lang.specs.ScriptData.{ScriptEventData, ScriptData}
use Rattle.load_maker.specs.declared.frames.Frames.{Frames}

-- the numbers below n, in their order
abbrev pub below : ℕ → List ℕ
below zero = []
below (suc n) = below n ++ n ∷ []

-- ---- draws

-- a linear congruential generator with 31 bits; a draw is the highest 15 of them
abbrev pub next_state : ℕ → ℕ
next_state x = (1103515245 * x + 12345) % 2 ^ 31

abbrev pub draw_of : ℕ → ℕ
draw_of x = x / 2 ^ 16

-- the first draws from this state on
unfoldable pub draws : ℕ → ℕ → List ℕ
draws zero x = []
draws (suc count) x = draw_of (next_state x) ∷ draws count (next_state x)

-- ---- devices

-- the interface identifier of the application
abbrev pub app_iid : ℕ
app_iid = 0xffffffff00000001

-- the most bytes of a frame
abbrev pub load_mtu : ℕ
load_mtu = 51

abbrev pub load_device : ℕ → DeviceLine
load_device number =
    record {
      number = number;
      params = record {
        iids = record { dev = number + 1; app = app_iid };
        mtu = load_mtu;
        acked = true;
        last = InAll1;
        ticks = record { retransmission = 10; inactivity = 40; linger = 1; quiet = 2 };
      };
    }

-- ---- packets

-- the bytes of the packet of a draw, 40 to 200
unfoldable pub packet_size : ℕ → ℕ
packet_size draw = 40 + draw % 161

-- link-local addresses (RFC 4291, section 2.5.6)
abbrev pub link_local : List ℕ
link_local = 0xfe ∷ 0x80 ∷ 0 ∷ 0 ∷ 0 ∷ 0 ∷ 0 ∷ 0 ∷ []

-- so many bytes, which count up from the draw
unfoldable pub payload : ℕ → ℕ → List ℕ
payload draw size = map (λ i. (draw + i) % 256) (below size)

-- a packet of IPv6 without a header of a layer above: next header 59, hop limit 64 (RFC 8200,
-- sections 3 and 4.7)
unfoldable pub load_packet : ℕ → ℕ → List ℕ
load_packet device draw =
    (0x60 ∷ 0 ∷ 0 ∷ 0 ∷ []) ++ (to_be_bytes w16 (packet_size draw - 40)
    ++ ((0x3b ∷ 0x40 ∷ []) ++ (link_local ++ (to_be_bytes w64 (device + 1) ++
    (link_local ++ (to_be_bytes w64 app_iid ++ payload draw (packet_size draw - 40)))))))

-- ---- what happens to a packet

-- the frames of a session: one for each five of its tiles of 10 bytes but the last, and the All-1
unfoldable pub pieces : ℕ → ℕ
pieces draw = ((packet_size draw + 1 + 9) / 10 - 1 + 4) / 5 + 1

-- the packet fits one frame
abbrev pub fits_frame : ℕ → Bool
fits_frame draw = nat_le (packet_size draw) load_mtu

-- the frames that a device has sent up and its gateway down, with those of one more packet
abbrev pub more_frames : Frames → ℕ → Frames
more_frames frames draw =
    if fits_frame draw
    then record { up = frames.up + 1; down = frames.down }
    else record { up = frames.up + pieces draw; down = frames.down + 1 }

-- an event of a device
abbrev pub at : ℕ → Event → ScriptEventData
at device event = record { device = device; event = event }

-- so many frames go up, one after the other, the first of which has this number
unfoldable pub frames_up : ℕ → ℕ → ℕ → List ScriptEventData
frames_up device number zero = []
frames_up device number (suc count) =
    at device (Slot Device) ∷ at device (Deliver way.Up number) ∷ frames_up device (number + 1)
    count

-- where the draw is divisible by 4, the frame with this number arrives once more
abbrev pub repeated : ℕ → ℕ → ℕ → List ScriptEventData
repeated device draw number = if draw % 4 == 0 then at device (Deliver way.Up number) ∷ [] else []

-- the packet goes up in one frame
unfoldable pub in_one_frame : ℕ → ℕ → Frames → List ScriptEventData
in_one_frame device draw frames =
    frames_up device (frames.up + 1) 1 ++ repeated device draw (frames.up + 1)

-- a session is answered by the frame with this number, and two ticks pass
unfoldable pub session_answered : ℕ → ℕ → List ScriptEventData
session_answered device number =
    at device (Slot Gateway) ∷ at device (Deliver way.Down number) ∷ at device (Tick Both) ∷ at
    device (Tick Both) ∷ []

-- the packet goes up as a session
unfoldable pub in_pieces : ℕ → ℕ → Frames → List ScriptEventData
in_pieces device draw frames =
    frames_up device (frames.up + 1) (pieces draw) ++ session_answered device (frames.down + 1)

-- the events of a device and of one draw, after these frames
unfoldable pub turn : ℕ → ℕ → Frames → List ScriptEventData
turn device draw frames =
    at device
    (Down Device (load_packet device draw)) ∷ (if fits_frame draw then in_one_frame device draw
    frames else in_pieces
    device draw frames)

-- ---- rounds

-- in each round each device takes one draw
abbrev pub draw_at : List ℕ → ℕ → ℕ → ℕ → ℕ
draw_at all devices round device = slice_index all (round * devices + device)

-- the frames of a device before a round
abbrev pub frames_before : List ℕ → ℕ → ℕ → ℕ → Frames
frames_before all devices device zero = record { up = 0; down = 0 }
frames_before all devices device (suc round) = more_frames (frames_before all devices device round)
    (draw_at all devices round device)

-- the events of a device in a round
abbrev pub turn_at : List ℕ → ℕ → ℕ → ℕ → List ScriptEventData
turn_at all devices round device =
    turn device (draw_at all devices round device) (frames_before all devices device round)

-- the events of a round
abbrev pub round_of : List ℕ → ℕ → ℕ → List ScriptEventData
round_of all devices round = flat_map (turn_at all devices round) (below devices)

-- three rounds
abbrev pub rounds : ℕ
rounds = 3

-- the script of so many devices, whose draws begin with this state
abbrev pub load : ℕ → ℕ → ScriptData
load devices start =
    record {
      devices = map load_device (below devices);
      events = flat_map (round_of (draws (rounds * devices) start) devices) (below rounds);
    }
