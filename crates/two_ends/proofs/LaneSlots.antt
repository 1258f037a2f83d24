-- A slot is the lane's step.
use Rattle.std.proofs.Common.{◌≡◌, ℕ, suc, ◌+◌, ◌<◌, ◌≤◌, Bool, true, false, List, [], ◌∷◌, length}
use Rattle.std.proofs.Common.{Option, Some, None, IsSomeAnd, slice_get, refl, sym, ap, subst, ◌∙◌}
use Rattle.std.proofs.Common.{arith}
use Rattle.std.specs.List.{AllByRecursion}
use Rattle.std.proofs.lemmas.List.{append-nil}
use Rattle.schc_ids.specs.Ends.{sent_direction}
use Rattle.schc_ids.specs.Fragments.{params_of}
use Rattle.schc_ids.specs.PerRole.{at_role}
use Rattle.schc_ids.specs.declared.ends.Direction.{Direction}
use Rattle.schc_ids.specs.declared.ends.Direction.TheVariants as way
use Rattle.schc_ids.specs.declared.ends.EndParams.{EndParams}
use Rattle.schc_ids.specs.declared.ends.Role.{Role}
use Rattle.schc_ids.specs.declared.ends.Role.TheVariants.{Device, Gateway}
use Rattle.schc_ids.specs.declared.fragments.FragParams.{FragParams}
use Rattle.lorawan_profile.specs.Ports.{fragments_by, sending_of}
use Rattle.packer.specs.declared.packing.Packed.{Packed}
use Rattle.sessions.specs.Data.{SessionsData, out_key}
use Rattle.sessions.specs.Keys.{SessionKey, found}
use Rattle.sessions.specs.Reception.{Reception, reception_answered}
use Rattle.sessions.specs.Receivers.{receiver_due}
use Rattle.sessions.specs.Senders.{sender_begun, sender_due}
use Rattle.sessions.specs.Session.{Session, session_sent}
use Rattle.sessions.specs.Steps.{new_session}
use Rattle.lanes.specs.Events as lane
use Rattle.lanes.specs.Events.{LaneEvent, Possible, CanBegin}
use Rattle.lanes.specs.Lane.{Lane, Begun}
use Rattle.lanes.specs.Step.{told, kind_sent, lane_session, lane_sent, lane_sends, lane_begun}
use Rattle.lanes.specs.Step.{lane_begins, lane_answered, lane_step}
use Rattle.two_ends.specs.Happening.{Given, Answers, Goes, Opens, Carries, NoFrame, Gives}
use Rattle.two_ends.specs.History.{History, sender_at, reception_at, begun_at, marks_given}
use Rattle.two_ends.specs.History.{begins_given, reports_given, held_after, checks_after}
use Rattle.two_ends.specs.History.{joins_after, ups_after, downs_after, queued_after, sent_after}
use Rattle.two_ends.specs.History.{begins_after, reports_after, ticks_after, after}
use Rattle.two_ends.specs.Keys.{Key, sent_key, taken_key, same_key, mode_of, lane_params}
use Rattle.two_ends.specs.Labels.{held_by, first_place}
use Rattle.two_ends.specs.Lanes.{lane_of, given_events}
use Rattle.two_ends.specs.Logs.{Began, session_of}
use Rattle.two_ends.specs.World.{end_of}
use Rattle.std.proofs.lemmas.Bool.{leb-false}
use Rattle.std.proofs.lemmas.List.{length-drop}
use Rattle.schc_bits.proofs.ListLemmas.{all-at_place}
use Rattle.schc_ids.specs.Limits.{IsMtu, min_cut_bits}
use Rattle.editions.specs.Data.{IsSound}
use Rattle.packer.specs.Packing.{packed, shortest}
use Rattle.packer.proofs.writing.SuspectLemmas.{schc_packet-short}
use Rattle.end_core.specs.Data.{fits, frame_size}
use Rattle.two_ends.specs.Logs.{HandedDown}
use Rattle.two_ends.proofs.ChainKept.{ChainKept}
use Rattle.two_ends.proofs.LedLemmas.{led-first_place}
use Rattle.two_ends.proofs.MarksKept.{ArePlaced, MarksKept}
use Rattle.two_ends.proofs.QueuesKept.{IsFormOf, QueuesKept}
use Rattle.two_ends.proofs.SessionsKept.{AreSessions}
use Rattle.two_ends.proofs.EndsKept.{EndsKept}
use Rattle.two_ends.proofs.GivenLemmas.{given_step, IsOpening, IsGiven}
use Rattle.two_ends.proofs.KeyLemmas.{found-put_same, found-put_other, messages-mine}
use Rattle.two_ends.proofs.KeyLemmas.{messages-theirs, messages-whole, of_key-mine, of_key-theirs}
use Rattle.two_ends.proofs.KeyLemmas.{begins-mine, begins-theirs, all-begins}
use Rattle.two_ends.proofs.LaneTakes.{Makes, reception-is, mine-or}
use Rattle.two_ends.proofs.WorldLemmas.{given_world}

abbrev key_at : Direction → SessionKey → Key
key_at w id = record { way = w; id = id }

-- the history after the end gave this at its slot
abbrev pub slotted : History → Role → Given → History
slotted h role given = after h (given_world h.world role given) (Gives role given)

-- an answer

answered-mine : (params : EndParams) (role : Role) (id : SessionKey) (h : History) (r : Reception)
    (bytes : List ℕ) → reception_at h.world (taken_key role id) ≡ r →
    lane_of params (taken_key role id) (slotted h role (Answers id r bytes)) ≡ lane_answered
    (lane_of params (taken_key role id) h) (Some bytes)
unfolding lane_of lane_answered sender_at reception_at given_world given_step after held_after
    checks_after joins_after ups_after downs_after queued_after sent_after marks_given begins_after
    begins_given reports_after reports_given ticks_after held_by
answered-mine params Device id h r bytes e =
    rw (
      e,
      found-put_same id (reception_answered r) h.world.ends.device.sessions.receivers,
      messages-mine (taken_key Device id) h.labels.sent.up _,
      append-nil h.logs.begins,
      append-nil
          h.logs.reports,
    ) refl
answered-mine params Gateway id h r bytes e =
    rw (
      e,
      found-put_same id (reception_answered r) h.world.ends.gateway.sessions.receivers,
      messages-mine (taken_key Gateway id) h.labels.sent.down _,
      append-nil h.logs.begins,
      append-nil h.logs.reports,
    ) refl

answered-theirs : (params : EndParams) (v : Direction) (other : SessionKey) (role : Role)
    (id : SessionKey) (h : History) (r : Reception) (bytes : List ℕ)
    → same_key (key_at v other) (taken_key role id) ≡ false →
    lane_of params (key_at v other) (slotted h role (Answers id r bytes)) ≡ lane_of params
    (key_at v other) h
unfolding lane_of sender_at reception_at given_world given_step after held_after checks_after
    joins_after ups_after downs_after queued_after sent_after marks_given begins_after begins_given
    reports_after reports_given ticks_after held_by same_key
answered-theirs params way.Up other Device id h r bytes n =
    rw (
      messages-theirs (key_at way.Up other) (taken_key Device id) h.labels.sent.up _ n,
      append-nil
          h.logs.begins,
      append-nil h.logs.reports,
    ) refl
answered-theirs params way.Up other Gateway id h r bytes n =
    rw (
      found-put_other other id (reception_answered r) h.world.ends.gateway.sessions.receivers n,
      messages-theirs (key_at way.Up other) (taken_key Gateway id) h.labels.sent.down _ n,
      append-nil h.logs.begins,
      append-nil h.logs.reports,
    ) refl
answered-theirs params way.Down other Device id h r bytes n =
    rw (
      found-put_other other id (reception_answered r) h.world.ends.device.sessions.receivers n,
      messages-theirs (key_at way.Down other) (taken_key Device id) h.labels.sent.up _ n,
      append-nil h.logs.begins,
      append-nil h.logs.reports,
    ) refl
answered-theirs params way.Down other Gateway id h r bytes n =
    rw (
      messages-theirs (key_at way.Down other) (taken_key Gateway id) h.labels.sent.down _ n,
      append-nil h.logs.begins,
      append-nil h.logs.reports,
    ) refl

-- a message of a session

went-mine : (params : EndParams) (role : Role) (id : SessionKey) (h : History) (session : Session)
    (bytes : List ℕ) → (end_of h.world role).sessions.params ≡ params →
    lane_of params (sent_key role id) (slotted h role (Goes id session bytes)) ≡ lane_sent h.place
    (lane_of params (sent_key role id) h) session (Some bytes)
unfolding lane_of lane_sent sender_at reception_at given_world given_step after held_after
    checks_after joins_after ups_after downs_after queued_after sent_after marks_given begins_after
    begins_given reports_after reports_given ticks_after held_by
went-mine params Device id h session bytes e =
    let key : Key = sent_key Device id in
    rw (
      found-put_same id (session_sent h.world.ends.device.sessions.params.ticks session)
          h.world.ends.device.sessions.senders,
      e,
      messages-mine key h.labels.sent.up _,
      append-nil
          h.logs.begins,
      of_key-mine key h.logs.reports
          (told h.place (session_of key h.logs.begins) (kind_sent session)),
    ) refl
went-mine params Gateway id h session bytes e =
    let key : Key = sent_key Gateway id in
    rw (
      found-put_same id (session_sent h.world.ends.gateway.sessions.params.ticks session)
          h.world.ends.gateway.sessions.senders,
      e,
      messages-mine key h.labels.sent.down _,
      append-nil
          h.logs.begins,
      of_key-mine key h.logs.reports
          (told h.place (session_of key h.logs.begins) (kind_sent session)),
    ) refl

went-theirs : (params : EndParams) (v : Direction) (other : SessionKey) (role : Role)
    (id : SessionKey) (h : History) (session : Session) (bytes : List ℕ)
    → same_key (key_at v other) (sent_key role id) ≡ false →
    lane_of params (key_at v other) (slotted h role (Goes id session bytes)) ≡ lane_of params
    (key_at v other) h
unfolding lane_of sender_at reception_at given_world given_step after held_after checks_after
    joins_after ups_after downs_after queued_after sent_after marks_given begins_after begins_given
    reports_after reports_given ticks_after held_by same_key
went-theirs params way.Up other Device id h session bytes n =
    let own : Key = sent_key Device id in
    rw (
      found-put_other other id (session_sent h.world.ends.device.sessions.params.ticks session)
          h.world.ends.device.sessions.senders n,
      messages-theirs (key_at way.Up other) own
          h.labels.sent.up _ n,
      append-nil h.logs.begins,
      of_key-theirs (key_at way.Up other) own
          h.logs.reports (told h.place (session_of own h.logs.begins) (kind_sent session)) n,
    ) refl
went-theirs params way.Up other Gateway id h session bytes n =
    let own : Key = sent_key Gateway id in
    rw (
      messages-theirs (key_at way.Up other) own h.labels.sent.down _ n,
      append-nil h.logs.begins,
      of_key-theirs (key_at way.Up other) own h.logs.reports
          (told h.place (session_of own h.logs.begins) (kind_sent session)) n,
    ) refl
went-theirs params way.Down other Device id h session bytes n =
    let own : Key = sent_key Device id in
    rw (
      messages-theirs (key_at way.Down other) own h.labels.sent.up _ n,
      append-nil h.logs.begins,
      of_key-theirs (key_at way.Down other) own h.logs.reports
          (told h.place (session_of own h.logs.begins) (kind_sent session)) n,
    ) refl
went-theirs params way.Down other Gateway id h session bytes n =
    let own : Key = sent_key Gateway id in
    rw (
      found-put_other other id (session_sent h.world.ends.gateway.sessions.params.ticks session)
          h.world.ends.gateway.sessions.senders n,
      messages-theirs (key_at way.Down other) own
          h.labels.sent.down _ n,
      append-nil h.logs.begins,
      of_key-theirs (key_at way.Down other) own
          h.logs.reports (told h.place (session_of own h.logs.begins) (kind_sent session)) n,
    ) refl

-- a session that begins

abbrev began_at : History → Role → SessionKey → Session → Packed → Began
began_at h role id session form =
    record {
      key = sent_key role id;
      it = begun_at h session form;
      down =
          first_place (at_role h.labels.queued role);
    }

opened-mine : (params : EndParams) (role : Role) (id : SessionKey) (h : History) (session : Session)
    (form : Packed) (bytes : List ℕ) → (end_of h.world role).sessions.params ≡ params →
    lane_of params (sent_key role id) (slotted h role (Opens id session form bytes)) ≡ lane_begun
    h.place (lane_of params (sent_key role id) h) (begun_at h session form) session (Some bytes)
unfolding lane_of lane_begun sender_at reception_at given_world given_step after held_after
    checks_after joins_after ups_after downs_after queued_after sent_after marks_given begins_after
    begins_given reports_after reports_given ticks_after held_by
opened-mine params Device id h session form bytes e =
    let key : Key = sent_key Device id in
    rw (
      found-put_same id (session_sent h.world.ends.device.sessions.params.ticks session)
          h.world.ends.device.sessions.senders,
      e,
      messages-mine key h.labels.sent.up _,
      begins-mine
          key h.logs.begins (began_at h Device id session form) refl,
      of_key-mine key h.logs.reports
          (told h.place (Some (length h.logs.begins)) (kind_sent session)),
    ) refl
opened-mine params Gateway id h session form bytes e =
    let key : Key = sent_key Gateway id in
    rw (
      found-put_same id (session_sent h.world.ends.gateway.sessions.params.ticks session)
          h.world.ends.gateway.sessions.senders,
      e,
      messages-mine key h.labels.sent.down _,
      begins-mine key h.logs.begins (began_at h Gateway id session form) refl,
      of_key-mine key
          h.logs.reports (told h.place (Some (length h.logs.begins)) (kind_sent session)),
    ) refl

opened-theirs : (params : EndParams) (v : Direction) (other : SessionKey) (role : Role)
    (id : SessionKey) (h : History) (session : Session) (form : Packed) (bytes : List ℕ)
    → same_key (key_at v other) (sent_key role id) ≡ false →
    lane_of params (key_at v other) (slotted h role (Opens id session form bytes)) ≡ lane_of params
    (key_at v other) h
unfolding lane_of sender_at reception_at given_world given_step after held_after checks_after
    joins_after ups_after downs_after queued_after sent_after marks_given begins_after begins_given
    reports_after reports_given ticks_after held_by same_key
opened-theirs params way.Up other Device id h session form bytes n =
    let own : Key = sent_key Device id in
    rw (
      found-put_other other id (session_sent h.world.ends.device.sessions.params.ticks session)
          h.world.ends.device.sessions.senders n,
      messages-theirs (key_at way.Up other) own
          h.labels.sent.up _ n,
      begins-theirs (key_at way.Up other) h.logs.begins
          (began_at h Device id session form) n,
      of_key-theirs (key_at way.Up other) own
          h.logs.reports (told h.place (Some (length h.logs.begins)) (kind_sent session)) n,
    ) refl
opened-theirs params way.Up other Gateway id h session form bytes n =
    let own : Key = sent_key Gateway id in
    rw (
      messages-theirs (key_at way.Up other) own h.labels.sent.down _ n,
      begins-theirs
          (key_at way.Up other) h.logs.begins (began_at h Gateway id session form) n,
      of_key-theirs
          (key_at way.Up other) own h.logs.reports
          (told h.place (Some (length h.logs.begins)) (kind_sent session)) n,
    ) refl
opened-theirs params way.Down other Device id h session form bytes n =
    let own : Key = sent_key Device id in
    rw (
      messages-theirs (key_at way.Down other) own h.labels.sent.up _ n,
      begins-theirs
          (key_at way.Down other) h.logs.begins (began_at h Device id session form) n,
      of_key-theirs
          (key_at way.Down other) own h.logs.reports
          (told h.place (Some (length h.logs.begins)) (kind_sent session)) n,
    ) refl
opened-theirs params way.Down other Gateway id h session form bytes n =
    let own : Key = sent_key Gateway id in
    rw (
      found-put_other other id (session_sent h.world.ends.gateway.sessions.params.ticks session)
          h.world.ends.gateway.sessions.senders n,
      messages-theirs (key_at way.Down other) own
          h.labels.sent.down _ n,
      begins-theirs (key_at way.Down other) h.logs.begins
          (began_at h Gateway id session form) n,
      of_key-theirs (key_at way.Down other) own
          h.logs.reports (told h.place (Some (length h.logs.begins)) (kind_sent session)) n,
    ) refl

-- a whole frame, and nothing

carried-any : (params : EndParams) (v : Direction) (other : SessionKey) (role : Role) (h : History)
    (form : Packed)
    → lane_of params (key_at v other) (slotted h role (Carries form)) ≡ lane_of params
    (key_at v other) h
unfolding lane_of sender_at reception_at given_world given_step after held_after checks_after
    joins_after ups_after downs_after queued_after sent_after marks_given begins_after begins_given
    reports_after reports_given ticks_after held_by
carried-any params way.Up other Device h form =
    rw (
      messages-whole (key_at way.Up other) h.labels.sent.up _ _,
      append-nil h.logs.begins,
      append-nil h.logs.reports,
    ) refl
carried-any params way.Up other Gateway h form =
    rw (
      messages-whole (key_at way.Up other) h.labels.sent.down _ _,
      append-nil h.logs.begins,
      append-nil h.logs.reports,
    ) refl
carried-any params way.Down other Device h form =
    rw (
      messages-whole (key_at way.Down other) h.labels.sent.up _ _,
      append-nil h.logs.begins,
      append-nil h.logs.reports,
    ) refl
carried-any params way.Down other Gateway h form =
    rw (
      messages-whole (key_at way.Down other) h.labels.sent.down _ _,
      append-nil h.logs.begins,
      append-nil h.logs.reports,
    ) refl

rested-any : (params : EndParams) (v : Direction) (other : SessionKey) (role : Role) (h : History)
    → lane_of params (key_at v other) (slotted h role NoFrame) ≡ lane_of params (key_at v other) h
unfolding lane_of sender_at reception_at given_world given_step after held_after checks_after
    joins_after ups_after downs_after queued_after sent_after marks_given begins_after begins_given
    reports_after reports_given ticks_after held_by
rested-any params way.Up other Device h =
    rw (append-nil h.labels.sent.up, append-nil h.logs.begins, append-nil h.logs.reports) refl
rested-any params way.Up other Gateway h =
    rw (append-nil h.labels.sent.down, append-nil h.logs.begins, append-nil h.logs.reports) refl
rested-any params way.Down other Device h =
    rw (append-nil h.labels.sent.up, append-nil h.logs.begins, append-nil h.logs.reports) refl
rested-any params way.Down other Gateway h =
    rw (append-nil h.labels.sent.down, append-nil h.logs.begins, append-nil h.logs.reports) refl

-- A slot makes the lane's step.

answered-own : (params : EndParams) (role : Role) (id : SessionKey) (h : History) (r : Reception)
    (bytes : List ℕ) → found id (end_of h.world role).sessions.receivers ≡ Some r
    → receiver_due r.receiver ≡ Some bytes →
    lane_of params (taken_key role id) (slotted h role (Answers id r bytes)) ≡ lane_step h.place
    (lane_of params (taken_key role id) h) lane.Answer
unfolding lane_step lane_of
answered-own params role id h r bytes there due =
    answered-mine params role id h r bytes (is-r role there)
    ∙ ap (lane_answered (lane_of params (taken_key role id) h))
    (sym (ap (λ x. receiver_due x.receiver) (is-r role there) ∙ due))
  where
    is-r : (role : Role) → found id (end_of h.world role).sessions.receivers ≡ Some r
        → reception_at h.world (taken_key role id) ≡ r
    is-r Device e = reception-is h.world (taken_key Device id) r e
    is-r Gateway e = reception-is h.world (taken_key Gateway id) r e

sender-is : (role : Role) (id : SessionKey) (h : History) (o : Option Session)
    → found id (end_of h.world role).sessions.senders ≡ o → sender_at h.world (sent_key role id) ≡ o
unfolding sender_at
sender-is Device id h o e = e
sender-is Gateway id h o e = e

went-own : (params : EndParams) (role : Role) (id : SessionKey) (h : History) (session : Session)
    (bytes : List ℕ) → EndsKept params h.world
    → found id (end_of h.world role).sessions.senders ≡ Some session
    → sender_due session.sender ≡ Some bytes →
    lane_of params (sent_key role id) (slotted h role (Goes id session bytes)) ≡ lane_step h.place
    (lane_of params (sent_key role id) h) lane.Send
unfolding lane_step lane_of lane_sends
went-own params role id h session bytes ends there due =
    let l = lane_of params (sent_key role id) h in
    went-mine params role id h session bytes (ends role).sessions.its_params
    ∙ ap (lane_sent h.place l session) (sym due)
    ∙ ap (lane_sends h.place l) (sym (sender-is role id h (Some session) there))

-- the session that begins is the lane's
row : (role : Role) (acked : Bool)
    → (sending_of role acked).1 ≡ params_of (mode_of (sent_key role (out_key role acked)))
unfolding mode_of fragments_by
row Device true = refl
row Device false = refl
row Gateway true = refl
row Gateway false = refl

-- the session that an end with this role and these parameters would begin is that of the lane of
-- the end's own key
pub new-is : (params : EndParams) (role : Role) (s : SessionsData) (bits : List Bool)
    → s.role ≡ role → s.params ≡ params
    → new_session bits s ≡ lane_session
    (lane_params params (sent_key role (out_key role params.acked))) s.next bits
unfolding new_session lane_session
new-is params role s bits e f =
    ap (λ (r : Role).
    record {
      number = s.next;
      sender =
          sender_begun (sending_of r s.params.acked).1.mode (sending_of r s.params.acked).1
          s.params.mtu s.params.last bits;
      left = None;
    }) e
    ∙ ap (λ (p : EndParams).
    record {
      number = s.next;
      sender =
          sender_begun (sending_of role p.acked).1.mode (sending_of role p.acked).1 p.mtu p.last
          bits;
      left = None;
    }) f
    ∙ ap (λ (g : FragParams).
    record {
      number = s.next;
      sender = sender_begun g.mode g params.mtu params.last bits;
      left =
          None;
    }) (row role params.acked)

opened-own : (params : EndParams) (role : Role) (id : SessionKey) (h : History) (session : Session)
    (form : Packed) (bytes : List ℕ) → EndsKept params h.world
    → IsOpening role params (end_of h.world role) id session form bytes →
    lane_of params (sent_key role id) (slotted h role (Opens id session form bytes)) ≡ lane_step
    h.place (lane_of params (sent_key role id) h)
    (lane.Begin (length h.logs.begins) session.number form.bits)
unfolding lane_step lane_of lane_begins lane_session
opened-own params role id h session form bytes ends o =
    opened-mine params role id h session form bytes k.its_params
    ∙ ap (lane_begun h.place l b session) (sym o.first)
    ∙ ap (λ (s : Session). lane_begun h.place l b s (sender_due s.sender)) is_session
  where
    l : Lane
    l = lane_of params (sent_key role id) h

    b : Begun
    b = begun_at h session form

    k : AreSessions role params (end_of h.world role).sessions
    k = (ends role).sessions

    number : session.number ≡ (end_of h.world role).sessions.next
    number =
        ap (λ (s : Session). s.number)
        (o.is_new
        ∙ new-is params role (end_of h.world role).sessions form.bits k.its_role k.its_params)

    is_session : session ≡ lane_session (lane_params params (sent_key role id)) session.number
        form.bits
    is_session =
        o.is_new
        ∙ new-is params role (end_of h.world role).sessions form.bits k.its_role k.its_params
        ∙ ap (λ i. lane_session (lane_params params (sent_key role i))
        (end_of h.world role).sessions.next form.bits) (sym o.own)
        ∙ ap (λ n. lane_session (lane_params params (sent_key role id)) n form.bits) (sym number)

-- it is possible
below : (k n : ℕ) (begins : List Began) → ArePlaced k begins → k + length begins ≤ n
    → AllByRecursion (λ b. b.it.place < n) begins
below k n [] placed e = tt
below k n (b ∷ begins) placed e =
    (let at = placed.0 in omega (arith, at, e), below (suc k) n begins placed.1 (omega (arith, e)))

-- a packet that waits and doesn't fit one frame can go as a session
pub can-begin : (params : EndParams) (h : History) (role : Role) (form : Packed)
    → ChainKept h.world.chain → EndsKept params h.world → QueuesKept params.iids h
    → IsMtu params.mtu → slice_get (end_of h.world role).queue 0 ≡ Some form
    → fits (end_of h.world role).params.mtu form ≡ false → CanBegin form.bits
unfolding packed
can-begin params h role form chain ends queues mtu first unfit =
    formed (slice_get h.logs.downs (first_place (at_role h.labels.queued role)))
    (led-first_place (IsFormOf params.iids h (sent_direction role)) (slice_get h.logs.downs)
    (end_of h.world role).queue (at_role h.labels.queued role) form first (queues role))
  where
    size : params.mtu < frame_size form.bits
    size = let e =
        leb-false (frame_size form.bits) params.mtu
        (subst (λ (p : EndParams). fits p.mtu form ≡ false) (ends role).its_params unfit) in
        omega (arith, e)

    long : min_cut_bits ≤ length form.bits
    long = let drops = length-drop 8 form.bits in let m = mtu.0 in omega (arith, size, drops, m)

    formed : (o : Option HandedDown)
        → IsSomeAnd o (IsFormOf params.iids h (sent_direction role) form) → CanBegin form.bits
    formed None c = absurd c
    formed (Some w) c =
        record {
          least = long;
          most =
              let short : length (packed c.writer params.iids w.direction w.packet).bits ≤ 12068 =
              schc_packet-short c.writer params.iids w.direction w.packet
              (shortest params.iids w.direction w.packet c.writer.rules)
              (all-at_place IsSound h.world.chain w.accepted.edition c.writer chain.sound
              c.written_with) c.are_bytes c.short refl in
              let few : length form.bits ≤ 12068 =
              subst (λ (q : Packed). length q.bits ≤ 12068) (sym c.is_form) short in
              omega (arith, few);
        }

begin-possible : (params : EndParams) (h : History) (role : Role) (id : SessionKey)
    (session : Session) (form : Packed) (bytes : List ℕ) → ChainKept h.world.chain
    → EndsKept params h.world → QueuesKept params.iids h → MarksKept params.iids h
    → IsMtu params.mtu → IsOpening role params (end_of h.world role) id session form bytes →
    Possible h.place (lane_of params (sent_key role id) h)
    (lane.Begin (length h.logs.begins) session.number form.bits)
unfolding lane_of
begin-possible params h role id session form bytes chain ends queues marks mtu o = (
  sender-is role id h None o.none,
  all-begins (λ b. b.place < length h.logs.begins)
      (sent_key role id) h.logs.begins
      (below 0 (length h.logs.begins) h.logs.begins marks.begins.placed (omega arith)),
  can-begin
      params h role form chain ends queues mtu o.is_first o.unfit,
)

-- what is due at an end, and given at its slot, is on each key's lane one event that can come to
-- pass there, or none
pub slot-makes : (params : EndParams) (key : Key) (h : History) (role : Role) (given : Given)
    → ChainKept h.world.chain → EndsKept params h.world → QueuesKept params.iids h
    → MarksKept params.iids h → IsMtu params.mtu → IsGiven role params (end_of h.world role) given →
    Makes params key h (slotted h role given) (given_events key (length h.logs.begins) role given)
unfolding given_events
slot-makes params key h role (Answers id r bytes) chain ends queues marks mtu is =
    mine-or params key (taken_key role id) h (slotted h role (Answers id r bytes)) lane.Answer
    (same_key key (taken_key role id)) refl
    (λ e. subst
    (λ k. (lane_of params k (slotted h role (Answers id r bytes)) ≡ lane_step h.place
    (lane_of params k h) lane.Answer) × Unit {0}) (sym e)
    (answered-own params role id h r bytes is.2 is.3, tt))
    (answered-theirs params key.way key.id role id h r bytes)
slot-makes params key h role (Goes id session bytes) chain ends queues marks mtu is =
    mine-or params key (sent_key role id) h (slotted h role (Goes id session bytes)) lane.Send
    (same_key key (sent_key role id)) refl
    (λ e. subst
    (λ k. (lane_of params k (slotted h role (Goes id session bytes)) ≡ lane_step h.place
    (lane_of params k h) lane.Send) × Unit {0}) (sym e)
    (went-own params role id h session bytes ends is.1 is.2, tt))
    (went-theirs params key.way key.id role id h session bytes)
slot-makes params key h role (Opens id session form bytes) chain ends queues marks mtu is =
    let event = lane.Begin (length h.logs.begins) session.number form.bits in
    mine-or params key (sent_key role id) h (slotted h role (Opens id session form bytes)) event
    (same_key key (sent_key role id)) refl
    (λ e. subst
    (λ k. (lane_of params k (slotted h role (Opens id session form bytes)) ≡ lane_step h.place
    (lane_of params k h) event) × Possible h.place (lane_of params k h) event) (sym e) (
      opened-own params role id h session form bytes ends is,
      begin-possible params h role id session
          form bytes chain ends queues marks mtu is,
    ))
    (opened-theirs params key.way key.id role id h session form bytes)
slot-makes params key h role (Carries form) chain ends queues marks mtu is =
    record { same = carried-any params key.way key.id role h form; possible = tt }
slot-makes params key h role NoFrame chain ends queues marks mtu is =
    record { same = rested-any params key.way key.id role h; possible = tt }
