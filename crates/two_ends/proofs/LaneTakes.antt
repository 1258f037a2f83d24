-- A message that arrives is the lane's step.
use Rattle.std.proofs.Common.{◌≡◌, ℕ, ◌<◌, Bool, true, false, List, Some, unwrap_or, Result, refl}
use Rattle.std.proofs.Common.{sym, ap, subst, ◌∙◌}
use Rattle.std.specs.List.{AllByRecursion}
use Rattle.schc_ids.specs.Ends.{other_direction}
use Rattle.schc_ids.specs.PerDirection.{at_direction}
use Rattle.schc_ids.specs.declared.ends.Direction.{Direction}
use Rattle.schc_ids.specs.declared.ends.Direction.TheVariants as way
use Rattle.schc_ids.specs.declared.ends.EndParams.{EndParams}
use Rattle.schc_ids.specs.declared.faults.WireFault.{WireFault}
use Rattle.schc_ids.specs.declared.fragments.Side.TheVariants as side
use Rattle.frag_wire.specs.Spells.{reading_in}
use Rattle.frag_wire.specs.declared.message.Message.{Message}
use Rattle.tiles_bitmap.specs.Places.{Among}
use Rattle.sessions.specs.Data.{pick}
use Rattle.sessions.specs.Keys.{SessionKey, found}
use Rattle.sessions.specs.Reception.{Reception}
use Rattle.sessions.specs.Steps.{fragment_read, answer_read}
use Rattle.lanes.specs.Events as lane
use Rattle.lanes.specs.Events.{LaneEvent, Possible}
use Rattle.lanes.specs.Lane.{Lane, Msg}
use Rattle.lanes.specs.Runs.{lane_steps, Along}
use Rattle.lanes.specs.Step.{heard_by, told, lane_took, lane_told, lane_step}
use Rattle.end_core.specs.Data.{EndData}
use Rattle.end_core.specs.End.{with_sessions}
use Rattle.two_ends.specs.Happening.{Fragment, Answer}
use Rattle.two_ends.specs.History.{History, sender_at, reception_at, new_reception, came}
use Rattle.two_ends.specs.History.{reports_heard, held_after, checks_after, joins_after, ups_after}
use Rattle.two_ends.specs.History.{downs_after, queued_after, sent_after, begins_after}
use Rattle.two_ends.specs.History.{reports_after, ticks_after, after}
use Rattle.two_ends.specs.Keys.{Key, same_key, piece, mode_of}
use Rattle.two_ends.specs.Labels.{held_by}
use Rattle.two_ends.specs.Lanes.{messages, lane_of, events_of}
use Rattle.two_ends.specs.Logs.{session_of}
use Rattle.two_ends.specs.World.{WorldData, end_of, with_end, sender, taker}
use Rattle.two_ends.proofs.EndsKept.{EndsKept}
use Rattle.two_ends.proofs.KeyLemmas.{same_key-true, of_key-mine, of_key-theirs, held-hold_same}
use Rattle.two_ends.proofs.KeyLemmas.{held-hold_other, all-of_key, all-begins}
use Rattle.two_ends.proofs.MarksKept.{IsLinkKey}
use Rattle.two_ends.proofs.MoveLemmas.{received, fragment-found, fragment-other, fragment-senders}
use Rattle.two_ends.proofs.MoveLemmas.{lane_came, took-came, answer-found, answer-other}
use Rattle.two_ends.proofs.MoveLemmas.{answer-receivers}
use Rattle.two_ends.proofs.PortLemmas.{mode-params, link-received}
use Rattle.two_ends.proofs.SessionsKept.{AreSessions}

-- the history's step is the lane's steps
pub record Makes (params : EndParams) (key : Key) (h new : History) (events : List LaneEvent) : Type
    0 where
  pub same : lane_of params key new ≡ lane_steps h.place (lane_of params key h) events
  pub possible : Along Possible h.place (lane_of params key h) events

abbrev key_at : Direction → SessionKey → Key
key_at w id = record { way = w; id = id }

-- a fragment comes

-- the world after a message came as a fragment to the receiver of its key
abbrev pub fragment_world : WorldData → Key → Msg → WorldData
fragment_world w key m =
    let end : EndData = end_of w (taker key.way) in
    with_end w (taker key.way)
    (with_sessions end
    (fragment_read end.sessions key.id m.bytes
    (reading_in (mode_of key) side.Fragments m.bytes)).0)

fragment-reads : (w : Direction) (id : SessionKey) (h : History) (m : Msg) (r : Reception)
    (reading : Result Message WireFault)
    → reading_in (mode_of (key_at w id)) side.Fragments m.bytes ≡ reading →
    found id (end_of h.world (taker w)).sessions.receivers ≡ Some r
    → reception_at (fragment_world h.world (key_at w id) m) (key_at w id) ≡ received
    (end_of h.world (taker w)).sessions.params.ticks r m.bytes reading
unfolding reception_at
fragment-reads way.Up id h m r reading e there =
    rw (e, fragment-found h.world.ends.gateway.sessions id m.bytes reading r there) refl
fragment-reads way.Down id h m r reading e there =
    rw (e, fragment-found h.world.ends.device.sessions id m.bytes reading r there) refl

-- the receiver that the end has by the key, where it takes the key's fragments, is the key's
pub reception-is : (w : WorldData) (key : Key) (r : Reception)
    → found key.id (end_of w (taker key.way)).sessions.receivers ≡ Some r → reception_at w key ≡ r
unfolding reception_at
reception-is w key r e = rw e refl

sender-still : (w : Direction) (id : SessionKey) (h : History) (m : Msg)
    → sender_at (fragment_world h.world (key_at w id) m) (key_at w id) ≡ sender_at h.world
    (key_at w id)
unfolding sender_at
sender-still way.Up id h m = refl
sender-still way.Down id h m = refl

fragment-lane : (params : EndParams) (w : Direction) (id : SessionKey) (h : History) (m : Msg) →
    let key : Key = key_at w id in
    lane_of params key (after h (fragment_world h.world key m) (Fragment key m)) ≡ lane_came
    (lane_of params key h) (reception_at (fragment_world h.world key m) key) (came h key m)
unfolding lane_of after held_after checks_after joins_after ups_after downs_after queued_after
    sent_after begins_after reports_after ticks_after
fragment-lane params w id h m =
    let key : Key = key_at w id in
    rw (
      sender-still w id h m,
      held-hold_same key (came h key m).held h.labels,
      of_key-mine key
          h.logs.checks (came h key m).checks,
      of_key-mine key h.logs.joins (came h key m).joins,
    ) refl

fragment-mine : (params : EndParams) (key : Key) (h : History) (m : Msg) → EndsKept params h.world
    → IsLinkKey key →
    lane_of params key (after h (fragment_world h.world key m) (Fragment key m)) ≡ lane_step h.place
    (lane_of params key h) (lane.Fragment m)
unfolding lane_step lane_of
fragment-mine params key h m ends link =
    fragment-lane params key.way key.id h m
    ∙ ap (λ r. lane_came l r (came h key m))
    (fragment-reads key.way key.id h m r reading refl there
    ∙ ap (λ (p : EndParams). received p.ticks r m.bytes reading) k.its_params
    ∙ ap (λ q. received params.ticks q m.bytes reading) (sym is_r))
    ∙ sym (took-came h.place l m reading)
    ∙ ap (λ n. lane_took h.place l m (reading_in n side.Fragments m.bytes))
    (sym (mode-params (mode_of key)))
  where
    l : Lane
    l = lane_of params key h

    k : AreSessions (taker key.way) params (end_of h.world (taker key.way)).sessions
    k = (ends (taker key.way)).sessions

    r : Reception
    r = pick link.0 k.answering k.silent

    there : found key.id (end_of h.world (taker key.way)).sessions.receivers ≡ Some r
    there = link-received key params (end_of h.world (taker key.way)).sessions link k

    is_r : reception_at h.world key ≡ r
    is_r = reception-is h.world key r there

    reading : Result Message WireFault
    reading = reading_in (mode_of key) side.Fragments m.bytes

-- it is nothing to another key
fragment-apart : (params : EndParams) (v : Direction) (other : SessionKey) (w : Direction)
    (id : SessionKey) (h : History) (m : Msg) (r : Reception)
    → found id (end_of h.world (taker w)).sessions.receivers ≡ Some r
    → same_key (key_at v other) (key_at w id) ≡ false →
    (sender_at (fragment_world h.world (key_at w id) m) (key_at v other) ≡ sender_at h.world
    (key_at v other))
    × (reception_at (fragment_world h.world (key_at w id) m) (key_at v other) ≡ reception_at
    h.world (key_at v other))
unfolding sender_at reception_at same_key
fragment-apart params way.Up other way.Up id h m r there n = (
  refl,
  ap (λ o. unwrap_or o (new_reception (key_at way.Up other)))
      (fragment-other h.world.ends.gateway.sessions other id m.bytes _ r there n),
)
fragment-apart params way.Up other way.Down id h m r there n =
    (ap (found other) (fragment-senders h.world.ends.device.sessions id m.bytes _ r there), refl)
fragment-apart params way.Down other way.Up id h m r there n =
    (ap (found other) (fragment-senders h.world.ends.gateway.sessions id m.bytes _ r there), refl)
fragment-apart params way.Down other way.Down id h m r there n = (
  refl,
  ap (λ o. unwrap_or o (new_reception (key_at way.Down other)))
      (fragment-other h.world.ends.device.sessions other id m.bytes _ r there n),
)

fragment-theirs : (params : EndParams) (key own : Key) (h : History) (m : Msg)
    → EndsKept params h.world → IsLinkKey own → same_key key own ≡ false →
    lane_of params key (after h (fragment_world h.world own m) (Fragment own m)) ≡ lane_of params
    key h
unfolding lane_of after held_after checks_after joins_after ups_after downs_after queued_after
    sent_after begins_after reports_after ticks_after
fragment-theirs params key own h m ends link n =
    let k = (ends (taker own.way)).sessions in
    let apart =
    fragment-apart params key.way key.id own.way own.id h m _
    (link-received own params (end_of h.world (taker own.way)).sessions link k) n in
    rw (
      apart.0,
      apart.1,
      held-hold_other key own (came h own m).held h.labels n,
      of_key-theirs key
          own h.logs.checks (came h own m).checks n,
      of_key-theirs key own h.logs.joins
          (came h own m).joins n,
    ) refl

-- an answer comes

-- the world after a message came as an answer to the session of its key
abbrev pub answer_world : WorldData → Key → Msg → WorldData
answer_world w key m =
    let end : EndData = end_of w (sender key.way) in
    with_end w (sender key.way)
    (with_sessions end
    (answer_read end.sessions key.id (reading_in (mode_of key) side.Answers m.bytes)).0)

answer-parts : (w : Direction) (id : SessionKey) (h : History) (m : Msg) →
    (sender_at (answer_world h.world (key_at w id) m)
    (key_at w id) ≡ (heard_by (end_of h.world (sender w)).sessions.params.ticks
    (sender_at h.world (key_at w id))
    (reading_in (mode_of (key_at w id)) side.Answers m.bytes)).0) ×
    (reception_at (answer_world h.world (key_at w id) m) (key_at w id) ≡ reception_at h.world
    (key_at w id))
unfolding sender_at reception_at
answer-parts way.Up id h m = (answer-found h.world.ends.device.sessions id _, refl)
answer-parts way.Down id h m = (answer-found h.world.ends.gateway.sessions id _, refl)

answer-lane : (params : EndParams) (w : Direction) (id : SessionKey) (h : History) (m : Msg) →
    let key : Key = key_at w id in
    lane_of params key (after h (answer_world h.world key m) (Answer key m)) ≡
    lane_told h.place (lane_of params key h) (
      sender_at (answer_world h.world key m) key,
      (heard_by (end_of h.world (sender w)).params.ticks (sender_at h.world key)
          (reading_in (mode_of key) side.Answers m.bytes)).1,
    )
unfolding lane_of lane_told after reports_heard held_after checks_after joins_after ups_after
    downs_after queued_after sent_after begins_after reports_after ticks_after held_by
answer-lane params w id h m =
    let key : Key = key_at w id in
    rw (
      (answer-parts w id h m).1,
      of_key-mine key h.logs.reports
          (told h.place (session_of key h.logs.begins)
          (heard_by (end_of h.world (sender w)).params.ticks (sender_at h.world key)
          (reading_in (mode_of key) side.Answers m.bytes)).1),
    ) refl

answer-mine : (params : EndParams) (key : Key) (h : History) (m : Msg) → EndsKept params h.world
    → lane_of params key (after h (answer_world h.world key m) (Answer key m)) ≡ lane_step h.place
    (lane_of params key h) (lane.Ack m)
unfolding lane_step lane_of
answer-mine params key h m ends =
    let l = lane_of params key h in
    let k = ends (sender key.way) in
    let o = sender_at h.world key in
    let reading = reading_in (mode_of key) side.Answers m.bytes in
    answer-lane params key.way key.id h m
    ∙ ap (λ s. lane_told h.place l
    (s, (heard_by (end_of h.world (sender key.way)).params.ticks o reading).1))
    ((answer-parts key.way key.id h m).0
    ∙ ap (λ (p : EndParams). (heard_by p.ticks o reading).0) k.sessions.its_params)
    ∙ ap (λ (p : EndParams). lane_told h.place l
    ((heard_by params.ticks o reading).0, (heard_by p.ticks o reading).1)) k.its_params
    ∙ ap (λ n. lane_told h.place l (heard_by params.ticks o (reading_in n side.Answers m.bytes)))
    (sym (mode-params (mode_of key)))

answer-apart : (v : Direction) (other : SessionKey) (w : Direction) (id : SessionKey) (h : History)
    (m : Msg) → same_key (key_at v other) (key_at w id) ≡ false →
    (sender_at (answer_world h.world (key_at w id) m) (key_at v other) ≡ sender_at h.world
    (key_at v other))
    × (reception_at (answer_world h.world (key_at w id) m) (key_at v other) ≡ reception_at
    h.world (key_at v other))
unfolding sender_at reception_at same_key
answer-apart way.Up other way.Up id h m n =
    (answer-other h.world.ends.device.sessions other id _ n, refl)
answer-apart way.Up other way.Down id h m n = (
  refl,
  ap (λ xs. unwrap_or (found other xs) (new_reception (key_at way.Up other)))
      (answer-receivers h.world.ends.gateway.sessions id _),
)
answer-apart way.Down other way.Up id h m n = (
  refl,
  ap (λ xs. unwrap_or (found other xs) (new_reception (key_at way.Down other)))
      (answer-receivers h.world.ends.device.sessions id _),
)
answer-apart way.Down other way.Down id h m n =
    (answer-other h.world.ends.gateway.sessions other id _ n, refl)

answer-theirs : (params : EndParams) (key own : Key) (h : History) (m : Msg)
    → same_key key own ≡ false
    → lane_of params key (after h (answer_world h.world own m) (Answer own m)) ≡ lane_of params key
    h
unfolding lane_of after reports_heard held_after checks_after joins_after ups_after downs_after
    queued_after sent_after begins_after reports_after ticks_after held_by
answer-theirs params key own h m n =
    let apart = answer-apart key.way key.id own.way own.id h m n in
    rw (
      apart.0,
      apart.1,
      of_key-theirs key own h.logs.reports
          (told h.place (session_of own h.logs.begins)
          (heard_by (end_of h.world (sender own.way)).params.ticks (sender_at h.world own)
          (reading_in (mode_of own) side.Answers m.bytes)).1) n,
    ) refl

-- an event of the lane, if the key is its own
pub mine-or : (params : EndParams) (key own : Key) (h new : History) (event : LaneEvent) (b : Bool)
    → same_key key own ≡ b
    → (key ≡ own → (lane_of params key new ≡ lane_step h.place (lane_of params key h) event)
    × Possible h.place (lane_of params key h) event) →
    (same_key key own ≡ false → lane_of params key new ≡ lane_of params key h)
    → Makes params key h new (piece b event)
mine-or params key own h new event true e mine theirs = let m = mine (same_key-true key own e) in
    record { same = m.0; possible = (m.1, tt) }
mine-or params key own h new event false e mine theirs = record { same = theirs e; possible = tt }

-- a fragment that was sent, and comes, is a possible event of its key's lane, and of no other
pub fragment-makes : (params : EndParams) (key own : Key) (h : History) (m : Msg) (n : ℕ)
    → EndsKept params h.world → IsLinkKey own
    → Among m (messages own (at_direction h.labels.sent own.way))
    → AllByRecursion (λ b. b.it.time < h.place) h.logs.begins →
    Makes params key h (after h (fragment_world h.world own m) (Fragment own m))
    (events_of key n (Fragment own m))
unfolding events_of lane_of
fragment-makes params key own h m n ends link there past =
    mine-or params key own h (after h (fragment_world h.world own m) (Fragment own m))
    (lane.Fragment m) (same_key key own) refl
    (λ e. subst
    (λ k. (lane_of params k
    (after h (fragment_world h.world own m) (Fragment own m)) ≡ lane_step h.place
    (lane_of params k h) (lane.Fragment m))
    × Possible h.place (lane_of params k h) (lane.Fragment m)) (sym e) (
      fragment-mine params own h m ends link,
      (there, all-begins (λ b. b.time < h.place) own h.logs.begins past),
    ))
    (fragment-theirs params key own h m ends link)

-- an answer that was sent, and comes, is a possible event of its key's lane, and of no other
pub answer-makes : (params : EndParams) (key own : Key) (h : History) (m : Msg) (n : ℕ)
    → EndsKept params h.world
    → Among m (messages own (at_direction h.labels.sent (other_direction own.way)))
    → AllByRecursion (λ j. j.it.time < h.place) h.logs.joins →
    Makes params key h (after h (answer_world h.world own m) (Answer own m))
    (events_of key n (Answer own m))
unfolding events_of lane_of
answer-makes params key own h m n ends there past =
    mine-or params key own h (after h (answer_world h.world own m) (Answer own m)) (lane.Ack m)
    (same_key key own) refl
    (λ e. subst
    (λ k. (lane_of params k (after h (answer_world h.world own m) (Answer own m)) ≡ lane_step
    h.place (lane_of params k h) (lane.Ack m))
    × Possible h.place (lane_of params k h) (lane.Ack m)) (sym e) (
      answer-mine params own h m ends,
      (there, all-of_key (λ j. j.time < h.place) own h.logs.joins past),
    ))
    (answer-theirs params key own h m)
