-- A lane is what belongs to one key (RFC 8724, section 8.2.4): the sender at one end, the receiver
-- at the other, the messages between them, and what came to pass.
use Rattle.std.specs.Prelude.{ℕ, Bool, List, [], ◌∷◌, Option, Some, None}
use Rattle.schc_ids.specs.Fragments.{IsFragParams}
use Rattle.schc_ids.specs.Params.{IsParams}
use Rattle.schc_ids.specs.declared.ends.EndParams.{EndParams}
use Rattle.schc_ids.specs.declared.fragments.FragParams.{FragParams}
use Rattle.schc_ids.specs.declared.notes.ReportKind.{ReportKind}
use Rattle.tiles_bitmap.specs.Padding.{padded_packet}
use Rattle.sessions.specs.Receivers.{new_receiver}
use Rattle.sessions.specs.Reception.{Reception}
use Rattle.sessions.specs.Session.{Session}

-- the parameters of the key's mode, and those of both ends
pub record LaneParams : Type 0 where
  pub frag : FragParams
  pub ends : EndParams

pub record AreLaneParams (params : LaneParams) : Type 0 where
  pub row : IsFragParams params.frag
  pub in_range : IsParams params.ends

-- a message that was sent. The label is the session that it belongs to, which is its place in the
-- list of all sessions that began; `sent_at` is how many ticks had passed at its sender's end
pub record Msg : Type 0 where
  pub label : Option ℕ
  pub sent_at : ℕ
  pub bytes : List ℕ

-- a session that began: when, its place, the number that its end gave it, and the bits of its SCHC
-- packet
pub record Begun : Type 0 where
  pub time : ℕ
  pub place : ℕ
  pub number : ℕ
  pub bits : List Bool

-- a check that a receiver made: when, over which assembly, and the session of the All-1 whose RCS
-- was compared
pub record Check : Type 0 where
  pub time : ℕ
  pub assembly : List Bool
  pub session : Option ℕ

-- how a session ended
pub record LaneReport : Type 0 where
  pub time : ℕ
  pub session : Option ℕ
  pub kind : ReportKind

-- the label is that of the last message that the receiver took otherwise than as a remnant, and the
-- kept label that of the All-1 that it keeps; `out` has the sender's messages and `back` the
-- receiver's; of the checks that were made, `joins` has those that passed; and how many ticks have
-- passed at each end
pub record Lane : Type 0 where
  pub params : LaneParams
  pub sender : Option Session
  pub reception : Reception
  pub label : Option ℕ
  pub kept_label : Option ℕ
  pub out : List Msg
  pub back : List Msg
  pub begins : List Begun
  pub checks : List Check
  pub joins : List Check
  pub reports : List LaneReport
  pub sender_time : ℕ
  pub receiver_time : ℕ

-- no session has begun
unfoldable pub new_lane : LaneParams → Lane
new_lane params = record {
  params = params;
  sender = None;
  reception = record { receiver = new_receiver params.frag.mode; left = None };
  label = None;
  kept_label = None;
  out = [];
  back = [];
  begins = [];
  checks = [];
  joins = [];
  reports = [];
  sender_time = 0;
  receiver_time = 0;
}

-- the last item of a list
abbrev pub last_item : {A : Type 0} → List A → Option A
last_item [] = None
last_item (x ∷ []) = Some x
last_item (x ∷ y ∷ ys) = last_item (y ∷ ys)

abbrev pub place_of : Option Begun → Option ℕ
place_of None = None
place_of (Some begun) = Some begun.place

-- the session that began last, which is the sender's
abbrev pub session_place : List Begun → Option ℕ
session_place begins = place_of (last_item begins)

-- RFC 8724, section 8.2.3: the SCHC packet of a session with these bits, with the padding of the
-- fragment that carries its last tile
abbrev pub padded_of : LaneParams → List Bool → List Bool
padded_of params bits = padded_packet params.frag params.ends.mtu bits
