-- Each All-1 that was sent carries the RCS of its session.
use Rattle.std.specs.Prelude.{ℕ, ◌≡◌, List, [], ◌∷◌, ◌++◌, Option, Some}
use Rattle.std.proofs.Common.{ap}
use Rattle.sessions.specs.Senders.{sender_due}
use Rattle.sessions.specs.declared.senders.Sender.{Sender}
use Rattle.lanes.specs.Events.{LaneEvent, Possible}
use Rattle.lanes.specs.Honest.{IsRcsOf}
use Rattle.lanes.specs.Lane.{LaneParams, Begun, Lane, Msg, place_of, session_place}
use Rattle.lanes.specs.Laws.{IsRightMsg}
use Rattle.lanes.specs.Step.{msg, lane_step}
use Rattle.lanes.proofs.ListLemmas.{among-more, among-last}
use Rattle.lanes.proofs.SenderKept.{IsLast, SenderKeeps}
use Rattle.lanes.proofs.SentLemmas.{SentKeeps, sent-step}
use Rattle.lanes.proofs.WireLemmas.{due-right}

-- each All-1 that was sent carries the RCS of its session
abbrev pub OutKeeps : Lane → Type 0
OutKeeps l = SentKeeps IsRightMsg l

unfoldable pub rcs-more : (params : LaneParams) (begins more : List Begun) (label : Option ℕ)
    (value : ℕ) → IsRcsOf params begins label value → IsRcsOf params (begins ++ more) label value
rcs-more params begins more label value k =
    record {
      begun = k.begun;
      there = among-more k.begun begins more k.there;
      labelled =
          k.labelled;
      same = k.same;
    }

right-more : (params : LaneParams) (begins : List Begun) (begun : Begun) (m : Msg)
    → IsRightMsg params begins m → IsRightMsg params (begins ++ begun ∷ []) m
right-more params begins begun m right w rcs from e =
    rcs-more params begins (begun ∷ []) m.label rcs (right w rcs from e)

-- what the sender of the last session gives
due-is : (params : LaneParams) (begins : List Begun) (sender : Sender) (at : ℕ) (bytes : List ℕ)
    → IsLast params begins sender → sender_due sender ≡ Some bytes
    → IsRightMsg params begins (msg (session_place begins) at bytes)
due-is params begins sender at bytes k e w rcs from read =
    record {
      begun = k.begun;
      there = among-last begins k.begun k.is_last;
      labelled = ap place_of k.is_last;
      same = due-right params k.begun.bits sender bytes k.of_it e w rcs from read;
    }

-- after a possible event, too, each All-1 that was sent carries the RCS of its session, where the
-- sender is that of the last one
pub out-step : (time : ℕ) (l : Lane) (event : LaneEvent) → Possible time l event → SenderKeeps l
    → OutKeeps l → OutKeeps (lane_step time l event)
out-step = sent-step IsRightMsg (record { stays = right-more; given = due-is })
