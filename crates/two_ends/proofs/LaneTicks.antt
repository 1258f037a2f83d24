-- A tick, and a session that is given up, are the lane's steps; all else is nothing to a lane.
use Rattle.std.proofs.lemmas.List.{append-nil}
use Rattle.schc_ids.specs.declared.ends.TimerTicks.{TimerTicks}
use Rattle.std.proofs.Common.{◌≡◌, ℕ, Bool, true, false, List, ◌++◌, Option, Some, None, option_map}
use Rattle.std.proofs.Common.{unwrap_or, refl, sym, ap, subst, ◌∙◌}
use Rattle.schc_ids.specs.declared.ends.Direction.{Direction}
use Rattle.schc_ids.specs.declared.ends.Direction.TheVariants as way
use Rattle.schc_ids.specs.declared.ends.EndParams.{EndParams}
use Rattle.schc_ids.specs.declared.ends.Role.{Role}
use Rattle.schc_ids.specs.declared.ends.Role.TheVariants.{Device, Gateway}
use Rattle.event_data.specs.declared.events.Target.TheVariants as target
use Rattle.sessions.specs.Data.{SessionsData, out_key}
use Rattle.sessions.specs.Keys.{SessionKey, found, entry}
use Rattle.sessions.specs.Keys as at_end
use Rattle.sessions.specs.Reception.{Reception, reception_ticked}
use Rattle.sessions.specs.Session.{Session, session_ticked}
use Rattle.sessions.specs.Steps.{tick_step as sessions_tick, aborted_from}
use Rattle.sessions.proofs.KeyLemmas.{found-other}
use Rattle.lanes.specs.Events as lane
use Rattle.lanes.specs.Events.{LaneEvent, Possible}
use Rattle.lanes.specs.Lane.{Lane, LaneReport}
use Rattle.lanes.specs.Step.{told, ticked_by, aborted_by, lane_told, lane_step}
use Rattle.end_core.specs.Data.{EndData}
use Rattle.end_core.specs.End.{with_sessions}
use Rattle.two_ends.specs.Happening.{Happening, Nothing, Waits, Gives, Arrives, Fragment, Answer}
use Rattle.two_ends.specs.Happening.{Ticks, GivesUp, own_key}
use Rattle.two_ends.specs.History.{History, sender_at, reception_at, new_reception, reports_ticked}
use Rattle.two_ends.specs.History.{reports_given_up, held_after, checks_after, joins_after}
use Rattle.two_ends.specs.History.{ups_after, downs_after, queued_after, sent_after, begins_after}
use Rattle.two_ends.specs.History.{reports_after, ticks_after, after}
use Rattle.two_ends.specs.Keys.{Key, Keyed, sent_key, taken_key, same_key, of_key, keyed}
use Rattle.two_ends.specs.Labels.{held_by}
use Rattle.two_ends.specs.Lanes.{lane_of, ticks_one, tick_event, events_of}
use Rattle.two_ends.specs.Logs.{Began, session_of}
use Rattle.two_ends.specs.World.{WorldData, end_of, with_end}
use Rattle.two_ends.proofs.EndsKept.{EndsKept}
use Rattle.two_ends.proofs.KeyLemmas.{same_key-true, of_key-mine, of_key-theirs}
use Rattle.two_ends.proofs.LaneTakes.{Makes, mine-or}
use Rattle.two_ends.proofs.MoveLemmas.{aborted-found, aborted-other, aborted-receivers}
use Rattle.two_ends.proofs.MoveLemmas.{found-changed, ticked-then, found-each}
use Rattle.two_ends.proofs.SessionsKept.{AreSessions, then}

abbrev key_at : Direction → SessionKey → Key
key_at w id = record { way = w; id = id }

-- A session is given up.

-- the world after an end gave up the session that it sends by this key, if there is one
abbrev pub given_up : WorldData → Role → SessionKey → WorldData
given_up w role id =
    let end : EndData = end_of w role in
    with_end w role
    (with_sessions end (aborted_from end.sessions id (found id end.sessions.senders)).0)

abort-parts : (role : Role) (id : SessionKey) (h : History) →
    (sender_at (given_up h.world role id)
    (sent_key role id) ≡ (aborted_by (end_of h.world role).sessions.params.ticks
    (sender_at h.world (sent_key role id))).0) ×
    (reception_at (given_up h.world role id) (sent_key role id) ≡ reception_at h.world
    (sent_key role id))
unfolding sender_at reception_at
abort-parts Device id h = (aborted-found h.world.ends.device.sessions id, refl)
abort-parts Gateway id h = (aborted-found h.world.ends.gateway.sessions id, refl)

abort-lane : (params : EndParams) (role : Role) (id : SessionKey) (h : History) →
    let key : Key = sent_key role id in
    lane_of params key (after h (given_up h.world role id) (GivesUp role id)) ≡
    lane_told h.place (lane_of params key h) (
      sender_at (given_up h.world role id) key,
      (aborted_by (end_of h.world role).params.ticks (sender_at h.world key)).1,
    )
unfolding lane_of lane_told after reports_given_up held_after checks_after joins_after ups_after
    downs_after queued_after sent_after begins_after reports_after ticks_after held_by
abort-lane params role id h =
    let key : Key = sent_key role id in
    rw (
      (abort-parts role id h).1,
      of_key-mine key h.logs.reports
          (told h.place (session_of key h.logs.begins)
          (aborted_by (end_of h.world role).params.ticks (sender_at h.world key)).1),
    ) refl

abort-mine : (params : EndParams) (role : Role) (id : SessionKey) (h : History)
    → EndsKept params h.world
    → lane_of params (sent_key role id)
    (after h (given_up h.world role id) (GivesUp role id)) ≡ lane_step h.place
    (lane_of params (sent_key role id) h) lane.Abort
unfolding lane_step lane_of
abort-mine params role id h ends =
    let l = lane_of params (sent_key role id) h in
    let k = ends role in
    let o = sender_at h.world (sent_key role id) in
    abort-lane params role id h
    ∙ ap (λ s. lane_told h.place l (s, (aborted_by (end_of h.world role).params.ticks o).1))
    ((abort-parts role id h).0
    ∙ ap (λ (p : EndParams). (aborted_by p.ticks o).0) k.sessions.its_params)
    ∙ ap (λ (p : EndParams). lane_told h.place l
    ((aborted_by params.ticks o).0, (aborted_by p.ticks o).1)) k.its_params

abort-apart : (v : Direction) (other : SessionKey) (role : Role) (id : SessionKey) (h : History)
    → same_key (key_at v other) (sent_key role id) ≡ false →
    (sender_at (given_up h.world role id) (key_at v other) ≡ sender_at h.world (key_at v other))
    × (reception_at (given_up h.world role id) (key_at v other) ≡ reception_at h.world
    (key_at v other))
unfolding sender_at reception_at same_key
abort-apart way.Up other Device id h n =
    (aborted-other h.world.ends.device.sessions other id _ n, refl)
abort-apart way.Up other Gateway id h n = (
  refl,
  ap (λ xs. unwrap_or (found other xs) (new_reception (key_at way.Up other)))
      (aborted-receivers h.world.ends.gateway.sessions id _),
)
abort-apart way.Down other Device id h n = (
  refl,
  ap (λ xs. unwrap_or (found other xs) (new_reception (key_at way.Down other)))
      (aborted-receivers h.world.ends.device.sessions id _),
)
abort-apart way.Down other Gateway id h n =
    (aborted-other h.world.ends.gateway.sessions other id _ n, refl)

abort-theirs : (params : EndParams) (key : Key) (role : Role) (id : SessionKey) (h : History)
    → same_key key (sent_key role id) ≡ false
    → lane_of params key (after h (given_up h.world role id) (GivesUp role id)) ≡ lane_of params key
    h
unfolding lane_of after reports_given_up held_after checks_after joins_after ups_after downs_after
    queued_after sent_after begins_after reports_after ticks_after held_by
abort-theirs params key role id h n =
    let own : Key = sent_key role id in
    let apart = abort-apart key.way key.id role id h n in
    rw (
      apart.0,
      apart.1,
      of_key-theirs key own h.logs.reports
          (told h.place (session_of own h.logs.begins)
          (aborted_by (end_of h.world role).params.ticks (sender_at h.world own)).1) n,
    ) refl

-- where an end gives up a session by a key, so does that key's lane, and nothing
-- happens on the others
pub abort-makes : (params : EndParams) (key : Key) (h : History) (role : Role) (id : SessionKey)
    (n : ℕ) → EndsKept params h.world
    → Makes params key h (after h (given_up h.world role id) (GivesUp role id))
    (events_of key n (GivesUp role id))
unfolding events_of
abort-makes params key h role id n ends =
    mine-or params key (sent_key role id) h (after h (given_up h.world role id) (GivesUp role id))
    lane.Abort (same_key key (sent_key role id)) refl
    (λ e. subst
    (λ k. (lane_of params k (after h (given_up h.world role id) (GivesUp role id)) ≡ lane_step
    h.place (lane_of params k h) lane.Abort) × Unit {0}) (sym e)
    (abort-mine params role id h ends, tt))
    (abort-theirs params key role id h)

-- A tick.

-- the report of an end's session is that of the key, where the key is its own; another key has no
-- session there
own-report : (key own : Key) (xs : List (Keyed LaneReport)) (time : ℕ) (begins : List Began)
    (ticks : TimerTicks) (mine theirs : Option Session) (b : Bool) → same_key key own ≡ b
    → (b ≡ true → theirs ≡ mine) → (b ≡ false → mine ≡ None) →
    of_key key
    (xs ++ keyed own (told time (session_of own begins) (ticked_by ticks theirs).1)) ≡ of_key
    key xs ++ told time (session_of key begins) (ticked_by ticks mine).1
unfolding ticked_by told
own-report key own xs time begins ticks mine theirs true e same none =
    subst (λ k. of_key k
    (xs ++ keyed own (told time (session_of own begins) (ticked_by ticks theirs).1)) ≡ of_key k
    xs ++ told time (session_of k begins) (ticked_by ticks mine).1)
    (sym (same_key-true key own e))
    (of_key-mine own xs _
    ∙ ap (λ o. of_key own xs ++ told time (session_of own begins) (ticked_by ticks o).1)
    (same refl))
own-report key own xs time begins ticks mine theirs false e same none =
    of_key-theirs key own xs _ e ∙ sym (append-nil (of_key key xs))
    ∙ ap (λ o. of_key key xs ++ told time (session_of key begins) (ticked_by ticks o).1)
    (sym (none refl))

-- the end after a tick of its sessions
abbrev pub ticked_end : EndData → EndData
ticked_end end = with_sessions end (sessions_tick end.sessions).0

-- the key's session after a tick of the end that sends, and its receiver after a tick of the end
-- that takes
ticked-found : (params : EndParams) (role : Role) (id : SessionKey) (s : SessionsData)
    → AreSessions role params s
    → found id (sessions_tick s).0.senders ≡ (ticked_by params.ticks (found id s.senders)).0
unfolding sessions_tick
ticked-found params role id s k =
    found-changed (λ session. (session_ticked s.params.ticks session).0) id
    (out_key role params.acked) k.session s.senders k.senders
    ∙ ap (λ (p : EndParams). then (λ session. (session_ticked p.ticks session).0)
    (found id s.senders)) k.its_params
    ∙ ticked-then params.ticks (found id s.senders)

new-still : (key : Key) → reception_ticked (new_reception key) ≡ new_reception key
unfolding reception_ticked
new-still key = refl

ticked-cases : (key : Key) (o : Option Reception)
    → unwrap_or (option_map reception_ticked o) (new_reception key) ≡ reception_ticked
    (unwrap_or o (new_reception key))
ticked-cases key None = sym (new-still key)
ticked-cases key (Some r) = refl

ticked-received : (key : Key) (s : SessionsData)
    → unwrap_or (found key.id (sessions_tick s).0.receivers) (new_reception key) ≡ reception_ticked
    (unwrap_or (found key.id s.receivers) (new_reception key))
unfolding sessions_tick
ticked-received key s =
    ap (λ o. unwrap_or o (new_reception key)) (found-each reception_ticked key.id s.receivers)
    ∙ ticked-cases key (found key.id s.receivers)

-- of another key than the end's own there is no session
none-apart : (params : EndParams) (role : Role) (id : SessionKey) (s : SessionsData)
    → AreSessions role params s → at_end.same_key id (out_key role params.acked) ≡ false
    → found id s.senders ≡ None
none-apart params role id s k n = ap (found id) k.senders
    ∙ found-other id (out_key role params.acked) k.session n

-- the key by which an end sends is that of its role and of the world's parameters
pub own-same : (params : EndParams) (role : Role) (h : History) → EndsKept params h.world
    → own_key (end_of h.world role) ≡ out_key role params.acked
own-same params role h ends =
    ap (λ r. out_key r (end_of h.world role).params.acked) (ends role).its_role
    ∙ ap (λ (p : EndParams). out_key role p.acked) (ends role).its_params

-- the session of a key by which an end sends is the one that the end has by it
pub sender-own : (h : History) (role : Role) (i : SessionKey)
    → sender_at h.world (sent_key role i) ≡ found i (end_of h.world role).sessions.senders
unfolding sender_at
sender-own h Device i = refl
sender-own h Gateway i = refl

ids-apart : (role : Role) (i j : SessionKey) → same_key (sent_key role i) (sent_key role j) ≡ false
    → at_end.same_key i j ≡ false
unfolding same_key
ids-apart Device i j e = e
ids-apart Gateway i j e = e

-- what the log of reports gains of this end, for a key whose fragments it sends
ticked-report : (params : EndParams) (role : Role) (id : SessionKey) (h : History)
    (xs : List (Keyed LaneReport)) → EndsKept params h.world →
    of_key (sent_key role id) (xs ++ reports_ticked h role) ≡ of_key (sent_key role id) xs ++ told
    h.place (session_of (sent_key role id) h.logs.begins)
    (ticked_by params.ticks (found id (end_of h.world role).sessions.senders)).1
unfolding reports_ticked
ticked-report params role id h xs ends =
    ap (λ (p : EndParams). of_key (sent_key role id)
    (xs ++ keyed own
    (told h.place (session_of own h.logs.begins)
    (ticked_by p.ticks (sender_at h.world own)).1))) (ends role).its_params
    ∙ own-report (sent_key role id) own xs h.place h.logs.begins params.ticks (found id s.senders)
    (sender_at h.world own) (same_key (sent_key role id) own) refl
    (λ e. sender-own h role j
    ∙ ap (λ (k : Key). found k.id s.senders) (sym (same_key-true (sent_key role id) own e)))
    (λ e. none-apart params role id s (ends role).sessions
    (subst (λ i. at_end.same_key id i ≡ false) (own-same params role h ends)
    (ids-apart role id j e)))
  where
    s : SessionsData
    s = (end_of h.world role).sessions

    j : SessionKey
    j = own_key (end_of h.world role)

    own : Key
    own = sent_key role j

-- of the other end it gains nothing for the key
other-report : (params : EndParams) (role : Role) (id : SessionKey) (h : History)
    (xs : List (Keyed LaneReport))
    → of_key (taken_key role id) (xs ++ reports_ticked h role) ≡ of_key (taken_key role id) xs
unfolding reports_ticked same_key
other-report params role id h xs =
    of_key-theirs (taken_key role id) (sent_key role (own_key (end_of h.world role))) xs _
    (ways role)
  where
    ways : (role : Role)
        → same_key (taken_key role id) (sent_key role (own_key (end_of h.world role))) ≡ false
    ways Device = refl
    ways Gateway = refl

-- a tick of one end
abbrev pub one_tick : WorldData → Role → WorldData
one_tick w role = with_end w role (ticked_end (end_of w role))

device-tick : (params : EndParams) (v : Direction) (id : SessionKey) (h : History)
    → EndsKept params h.world →
    lane_of params (key_at v id)
    (after h (one_tick h.world Device) (Ticks target.Device)) ≡ lane_step h.place
    (lane_of params (key_at v id) h) (tick_event (key_at v id) Device)
unfolding lane_of lane_step lane_told sender_at reception_at after held_after checks_after
    joins_after ups_after downs_after queued_after sent_after begins_after reports_after ticks_after
    held_by
device-tick params way.Up id h ends =
    rw (
      ticked-found params Device id h.world.ends.device.sessions (ends Device).sessions,
      ticked-report params Device id h h.logs.reports ends,
    ) refl
device-tick params way.Down id h ends =
    rw (
      ticked-received (key_at way.Down id) h.world.ends.device.sessions,
      other-report params
          Device id h h.logs.reports,
    ) refl

gateway-tick : (params : EndParams) (v : Direction) (id : SessionKey) (h : History)
    → EndsKept params h.world →
    lane_of params (key_at v id)
    (after h (one_tick h.world Gateway) (Ticks target.Gateway)) ≡ lane_step h.place
    (lane_of params (key_at v id) h) (tick_event (key_at v id) Gateway)
unfolding lane_of lane_step lane_told sender_at reception_at after held_after checks_after
    joins_after ups_after downs_after queued_after sent_after begins_after reports_after ticks_after
    held_by
gateway-tick params way.Up id h ends =
    rw (
      ticked-received (key_at way.Up id) h.world.ends.gateway.sessions,
      other-report params
          Gateway id h h.logs.reports,
    ) refl
gateway-tick params way.Down id h ends =
    rw (
      ticked-found params Gateway id h.world.ends.gateway.sessions (ends Gateway).sessions,
      ticked-report params Gateway id h h.logs.reports ends,
    ) refl

-- and of both
abbrev pub both_tick : WorldData → WorldData
both_tick w =
    with_end (with_end w Device (ticked_end (end_of w Device))) Gateway
    (ticked_end (end_of w Gateway))

both-tick : (params : EndParams) (v : Direction) (id : SessionKey) (h : History)
    → EndsKept params h.world →
    lane_of params (key_at v id) (after h (both_tick h.world) (Ticks target.Both)) ≡
    lane_step h.place
    (lane_step h.place (lane_of params (key_at v id) h) (tick_event (key_at v id) Device))
    (tick_event (key_at v id) Gateway)
unfolding lane_of lane_step lane_told sender_at reception_at after held_after checks_after
    joins_after ups_after downs_after queued_after sent_after begins_after reports_after ticks_after
    held_by
both-tick params way.Up id h ends =
    rw (
      ticked-found params Device id h.world.ends.device.sessions (ends Device).sessions,
      ticked-received (key_at way.Up id) h.world.ends.gateway.sessions,
      other-report params
          Gateway id h (h.logs.reports ++ reports_ticked h Device),
      ticked-report params Device id h
          h.logs.reports ends,
    ) refl
both-tick params way.Down id h ends =
    rw (
      ticked-found params Gateway id h.world.ends.gateway.sessions (ends Gateway).sessions,
      ticked-received (key_at way.Down id) h.world.ends.device.sessions,
      ticked-report params
          Gateway id h (h.logs.reports ++ reports_ticked h Device) ends,
      other-report params Device id
          h h.logs.reports,
    ) refl

tick-possible : (time : ℕ) (l : Lane) (b : Bool) → Possible time l (ticks_one b)
tick-possible time l true = tt
tick-possible time l false = tt

-- a tick of the device is on a lane up a tick of its sender, on a lane down one of its receiver
pub device-makes : (params : EndParams) (key : Key) (h : History) (n : ℕ) → EndsKept params h.world
    → Makes params key h (after h (one_tick h.world Device) (Ticks target.Device))
    (events_of key n (Ticks target.Device))
unfolding events_of
device-makes params key h n ends =
    record {
      same = device-tick params key.way key.id h ends;
      possible =
          (tick-possible h.place (lane_of params key h) _, tt);
    }

-- a tick of the gateway is on a lane down a tick of its sender, on a lane up one of its receiver
pub gateway-makes : (params : EndParams) (key : Key) (h : History) (n : ℕ) → EndsKept params h.world
    → Makes params key h (after h (one_tick h.world Gateway) (Ticks target.Gateway))
    (events_of key n (Ticks target.Gateway))
unfolding events_of
gateway-makes params key h n ends =
    record {
      same = gateway-tick params key.way key.id h ends;
      possible =
          (tick-possible h.place (lane_of params key h) _, tt);
    }

-- a tick of both ends is on each lane two ticks, the device's before the gateway's
pub both-makes : (params : EndParams) (key : Key) (h : History) (n : ℕ) → EndsKept params h.world
    → Makes params key h (after h (both_tick h.world) (Ticks target.Both))
    (events_of key n (Ticks target.Both))
unfolding events_of
both-makes params key h n ends =
    let l = lane_of params key h in
    record {
      same = both-tick params key.way key.id h ends;
      possible = (
        tick-possible h.place l _,
        (tick-possible h.place (lane_step h.place l (tick_event key Device)) _, tt),
      );
    }

-- All else.

-- what says nothing of sessions
abbrev pub IsApart : Happening → Type 0
IsApart Nothing = Unit {0}
IsApart (Waits role packet accepted) = Unit {0}
IsApart (Arrives direction place frame) = Unit {0}
IsApart happening = ⊥

-- the ends keep their sessions
abbrev pub SameSessions : WorldData → WorldData → Type 0
SameSessions w new = (role : Role) → (end_of new role).sessions ≡ (end_of w role).sessions

parts-same : (w new : WorldData) (v : Direction) (id : SessionKey) → SameSessions w new
    → (sender_at new (key_at v id) ≡ sender_at w (key_at v id))
    × (reception_at new (key_at v id) ≡ reception_at w (key_at v id))
unfolding sender_at reception_at
parts-same w new way.Up id same = (
  ap (λ (s : SessionsData). found id s.senders) (same Device),
  ap
      (λ (s : SessionsData). unwrap_or (found id s.receivers) (new_reception (key_at way.Up id)))
      (same Gateway),
)
parts-same w new way.Down id same = (
  ap (λ (s : SessionsData). found id s.senders) (same Gateway),
  ap
      (λ (s : SessionsData). unwrap_or (found id s.receivers) (new_reception (key_at way.Down id)))
      (same Device),
)

-- what says nothing of sessions, and leaves those of both ends as they are, is nothing on a lane
pub apart-makes : (params : EndParams) (key : Key) (h : History) (new : WorldData) (x : Happening)
    (n : ℕ) → IsApart x → SameSessions h.world new
    → Makes params key h (after h new x) (events_of key n x)
unfolding events_of lane_of after held_after checks_after joins_after ups_after downs_after
    queued_after sent_after begins_after reports_after ticks_after held_by
apart-makes params key h new Nothing n apart same = let p =
    parts-same h.world new key.way key.id same in
    record { same = rw (p.0, p.1) refl; possible = tt }
apart-makes params key h new (Waits role packet accepted) n apart same = let p =
    parts-same h.world new key.way key.id same in
    record { same = rw (p.0, p.1) refl; possible = tt }
apart-makes params key h new (Arrives direction place frame) n apart same = let p =
    parts-same h.world new key.way key.id same in
    record { same = rw (p.0, p.1) refl; possible = tt }
apart-makes params key h new (Gives role given) n apart same = absurd apart
apart-makes params key h new (Fragment own m) n apart same = absurd apart
apart-makes params key h new (Answer own m) n apart same = absurd apart
apart-makes params key h new (Ticks target) n apart same = absurd apart
apart-makes params key h new (GivesUp role id) n apart same = absurd apart
