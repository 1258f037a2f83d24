-- What is so of each message that a sender gives is so of each that was sent.
use Rattle.std.specs.Prelude.{ℕ, ◌≡◌, List, [], ◌∷◌, ◌++◌, Option, Some, None}
use Rattle.std.proofs.Common.{refl, ap, subst}
use Rattle.std.specs.List.{AllByRecursion}
use Rattle.schc_ids.specs.declared.fragments.Side.TheVariants as side
use Rattle.frag_wire.specs.Spells.{reading_in}
use Rattle.sessions.specs.Receivers.{receiver_due}
use Rattle.sessions.specs.Senders.{sender_due}
use Rattle.sessions.specs.Session.{Session}
use Rattle.sessions.specs.declared.senders.Sender.{Sender}
use Rattle.lanes.specs.Events.{LaneEvent, Begin, Send, Answer, Fragment, Ack, SenderTick}
use Rattle.lanes.specs.Events.{ReceiverTick, Abort, Possible}
use Rattle.lanes.specs.Lane.{LaneParams, Begun, Lane, Msg, place_of, session_place}
use Rattle.lanes.specs.Step.{msg, lane_session, lane_sent, lane_sends, lane_begun, lane_begins}
use Rattle.lanes.specs.Step.{lane_told, lane_step}
use Rattle.lanes.proofs.ListLemmas.{all-weaken, all-append, last-push}
use Rattle.lanes.proofs.SenderKept.{IsLast, SenderIs, SenderKeeps, begins-last}
use Rattle.lanes.proofs.StepLemmas.{take-keeps, answer-keeps}

-- this is so of each message that was sent
abbrev pub SentKeeps : (LaneParams → List Begun → Msg → Type 0) → Lane → Type 0
SentKeeps P l = AllByRecursion (P l.params l.begins) l.out

-- it stays so when one more session begins, and is so of what the sender of the last session gives
pub record IsOfSent (P : LaneParams → List Begun → Msg → Type 0) : Type 0 where
  pub stays : (params : LaneParams) (begins : List Begun) (begun : Begun) (m : Msg)
      → P params begins m → P params (begins ++ begun ∷ []) m
  pub given : (params : LaneParams) (begins : List Begun) (sender : Sender) (at : ℕ)
      (bytes : List ℕ) → IsLast params begins sender → sender_due sender ≡ Some bytes
      → P params begins (msg (session_place begins) at bytes)

sent-all : (P : LaneParams → List Begun → Msg → Type 0) → IsOfSent P →
    (time : ℕ) (l : Lane) (session : Session) (bytes : Option (List ℕ))
    → sender_due session.sender ≡ bytes → IsLast l.params l.begins session.sender → SentKeeps P l
    → SentKeeps P (lane_sent time l session bytes)
unfolding lane_sent
sent-all P so time l session None e is k = k
sent-all P so time l session (Some bytes) e is k =
    all-append (P l.params l.begins) l.out
    (msg (session_place l.begins) l.sender_time bytes ∷ []) k
    (so.given l.params l.begins session.sender l.sender_time bytes is e, tt)

sends-all : (P : LaneParams → List Begun → Msg → Type 0) → IsOfSent P →
    (time : ℕ) (l : Lane) (session : Option Session) → SenderIs l.params l.begins session
    → SentKeeps P l → SentKeeps P (lane_sends time l session)
unfolding lane_sends
sends-all P so time l None is k = k
sends-all P so time l (Some session) is k =
    sent-all P so time l session (sender_due session.sender) refl is k

begun-all : (P : LaneParams → List Begun → Msg → Type 0) → IsOfSent P →
    (time : ℕ) (l : Lane) (begun : Begun) (session : Session) (bytes : Option (List ℕ))
    → sender_due session.sender ≡ bytes → IsLast l.params (l.begins ++ begun ∷ []) session.sender
    → SentKeeps P l → SentKeeps P (lane_begun time l begun session bytes)
unfolding lane_begun
begun-all P so time l begun session None e is k = k
begun-all P so time l begun session (Some bytes) e is k =
    let begins : List Begun = l.begins ++ begun ∷ [] in
    all-append (P l.params begins) l.out (msg (Some begun.place) l.sender_time bytes ∷ [])
    (all-weaken (P l.params l.begins) (P l.params begins) l.out
    (so.stays l.params l.begins begun) k) (
      subst (λ (label : Option ℕ). P l.params begins (msg label l.sender_time bytes))
          (ap place_of (last-push l.begins begun))
          (so.given l.params begins session.sender l.sender_time bytes is e),
      tt,
    )

-- after a possible event, too, it is so of each message that was sent, where the sender is that of
-- the last session
pub sent-step : (P : LaneParams → List Begun → Msg → Type 0) → IsOfSent P → (time : ℕ) (l : Lane)
    (event : LaneEvent) → Possible time l event → SenderKeeps l → SentKeeps P l
    → SentKeeps P (lane_step time l event)
unfolding lane_step lane_begins lane_told
sent-step P so time l (Begin place number bits) p s k =
    let begun : Begun = record { time = time; place = place; number = number; bits = bits } in
    let session : Session = lane_session l.params number bits in
    begun-all P so time l begun session (sender_due session.sender) refl
    (begins-last l begun s.0 p.2) k
sent-step P so time l Send p s k = sends-all P so time l l.sender s.1 k
sent-step P so time l Answer p s k =
    answer-keeps (SentKeeps P) l (receiver_due l.reception.receiver) (λ reception back. k)
sent-step P so time l (Fragment m) p s k =
    take-keeps (SentKeeps P) time l m (reading_in l.params.frag.mode side.Fragments m.bytes)
    (λ reception label kept_label checks joins. k)
sent-step P so time l (Ack m) p s k = k
sent-step P so time l SenderTick p s k = k
sent-step P so time l ReceiverTick p s k = k
sent-step P so time l Abort p s k = k
