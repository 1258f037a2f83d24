-- A plain round of an end that sends a session is a round of the session and of the receiver of its
-- key.
use Rattle.std.proofs.Common.{◌≡◌, ℕ, Bool, List, [], ◌∷◌, ◌++◌, Option, Some, None, option_map}
use Rattle.std.proofs.Common.{Result, Ok, Err, refl, sym, ap, subst, ◌∙◌}
use Rattle.std.proofs.lemmas.List.{append-nil}
use Rattle.schc_ids.specs.Ends.{sent_direction, other_direction}
use Rattle.schc_ids.specs.PerRole.{PerRole, at_role, put_role}
use Rattle.schc_ids.specs.declared.ends.EndParams.{EndParams}
use Rattle.schc_ids.specs.declared.ends.TimerTicks.{TimerTicks}
use Rattle.schc_ids.specs.declared.faults.WireFault.{WireFault}
use Rattle.schc_ids.specs.declared.ends.Role.{Role}
use Rattle.schc_ids.specs.declared.ends.Role.TheVariants.{Device, Gateway}
use Rattle.schc_ids.specs.Fragments.{params_of}
use Rattle.schc_ids.specs.declared.fragments.FragMode.{FragMode}
use Rattle.schc_ids.specs.declared.fragments.FragParams.{FragParams}
use Rattle.schc_ids.specs.declared.fragments.Side.TheVariants as side
use Rattle.schc_ids.specs.declared.notes.ReportKind.{ReportKind}
use Rattle.schc_ids.specs.declared.phases.SenderPhase.TheVariants as phase
use Rattle.schc_ids.proofs.PerRoleLemmas.{at_role-put_role}
use Rattle.editions.specs.Data.{EditionData}
use Rattle.frag_wire.specs.Spells.{reading_in}
use Rattle.frag_wire.specs.declared.message.Message.{Message}
use Rattle.frag_wire.specs.declared.message.Message.TheVariants as form
use Rattle.event_data.specs.Events.{Slot}
use Rattle.event_data.specs.Records.{FrameData, HandUpData}
use Rattle.packer.specs.UnpackedData.{UnpackedData}
use Rattle.packer.specs.Unpacking.{unpacked}
use Rattle.lorawan_profile.specs.Ports.{meaning_of}
use Rattle.lorawan_profile.specs.declared.ports.PortMeaning.TheVariants.{Fragments}
use Rattle.sessions.specs.Data.{out_key, in_key, pick}
use Rattle.sessions.specs.Holds.{IsSessionMeaning}
use Rattle.sessions.specs.Keys.{SessionKey, found}
use Rattle.sessions.proofs.KeyLemmas.{found_own}
use Rattle.sessions.specs.Receivers.{receiver_due}
use Rattle.sessions.specs.Reception.{Reception, reception_answered}
use Rattle.sessions.specs.declared.receivers.Receiver.{Receiver}
use Rattle.sessions.specs.Senders.{sender_due, sender_phase}
use Rattle.sessions.specs.Session.{Session, session_sent, session_heard, heard_kind}
use Rattle.sessions.specs.Steps.{with_session, with_reception, fragment_read, answer_read}
use Rattle.lanes.specs.Lane.{Msg}
use Rattle.lanes.specs.Rounds.{Talk, took_reading, joined_reading, heard_reading, talk_sent}
use Rattle.lanes.specs.Rounds.{talk_answered}
use Rattle.lanes.specs.Step.{kind_sent, told, heard_by, checked_label}
use Rattle.end_core.specs.Data.{EndData}
use Rattle.end_core.specs.End.{with_sessions, read_bits, assembly_of, up_of, take_step}
use Rattle.end_core.proofs.TakenLemmas.{HandsUp, taken-up, taken-joins}
use Rattle.two_ends.specs.Clean.{slot_delivered}
use Rattle.two_ends.specs.Happening.{Given, Answers, Goes, Fragment, Answer}
use Rattle.two_ends.specs.History.{History, sender_at, reception_at, came_as, came_read, came}
use Rattle.two_ends.specs.History.{handed, marks_given, begins_given, reports_given, reports_heard}
use Rattle.two_ends.specs.History.{ups_after, downs_after, begins_after, reports_after, after}
use Rattle.two_ends.specs.Keys.{Key, sent_key, taken_key, keyed, mode_of}
use Rattle.two_ends.specs.Labels as label
use Rattle.two_ends.specs.Labels.{Mark, MessageOf, marked_frame, Held, held_by}
use Rattle.two_ends.specs.Logs.{HandedUp, Began, session_of, handed_up, up_entries}
use Rattle.two_ends.specs.World.{WorldData, with_end, end_of, sender, taker}
use Rattle.two_ends.proofs.ComesLemmas.{come, IsDelivered, slot-comes, fragment-comes, answer-comes}
use Rattle.two_ends.proofs.GivenLemmas.{given_step}
use Rattle.two_ends.proofs.KeepsLemmas.{world-step}
use Rattle.two_ends.proofs.LaneSlots.{slotted}
use Rattle.two_ends.proofs.LaneSteps.{WorldKeeps}
use Rattle.two_ends.proofs.LaneTakes.{fragment_world, answer_world}
use Rattle.two_ends.proofs.MarksKept.{IsLinkKey, own-link, in-link}
use Rattle.two_ends.proofs.PerLemmas.{at_role-put_role-taker}
use Rattle.two_ends.proofs.PortLemmas.{fragments-port, link-received, previewed_of, preview-key}
use Rattle.two_ends.proofs.RestLemmas.{slot-still, delivered-still}
use Rattle.two_ends.proofs.SessionsKept.{AreSessions}
use Rattle.two_ends.proofs.TalkLemmas.{ReadsAll1}
use Rattle.two_ends.proofs.TalkEndLemmas.{Speaks, Listens, listens-found, gives-message}
use Rattle.two_ends.proofs.TalkEndLemmas.{speaks-sent, speaks-heard, gives-answer, gives-rest}
use Rattle.two_ends.proofs.TalkEndLemmas.{listens-put, listens-took}
use Rattle.two_ends.proofs.UpsKept.{read-is, other-taker, answer-up}
use Rattle.two_ends.proofs.WorldLemmas.{given_world}

-- the key of the end's sessions, and the end that takes them
abbrev pub own_id : EndParams → Role → SessionKey
own_id params role = out_key role params.acked

-- the key by which the end sends, with the direction of its fragments
abbrev pub own_lane : EndParams → Role → Key
own_lane params role = sent_key role (own_id params role)

-- the end that takes what this end sends
abbrev pub reader : Role → Role
reader role = taker (sent_direction role)

-- it takes by the key by which the end sends
pub in-own : (params : EndParams) (role : Role) →
    in_key (reader role) params.acked ≡ own_id params role
in-own params Device = refl
in-own params Gateway = refl

taken-own : (params : EndParams) (role : Role) →
    taken_key (reader role) (own_id params role) ≡ own_lane params role
taken-own params Device = refl
taken-own params Gateway = refl

-- the end takes answers
at_role-put-reader : {A : Type 0} (xs : PerRole A) (role : Role) (x : A) →
    at_role (put_role xs (reader role) x) role ≡ at_role xs role
at_role-put-reader xs Device x = refl
at_role-put-reader xs Gateway x = refl

-- The end has given a message of the session, of this label; these sessions have begun, and the
-- other end is as it was.
pub record IsOut (params : EndParams) (h : History) (role : Role) (session : Session)
    (bytes : List ℕ) (place : ℕ) (begins : List Began) (g : History) : Type 0 where
  pub m : Msg
  pub its_bytes : m.bytes ≡ bytes
  pub its_label : m.label ≡ Some place
  pub keeps : WorldKeeps params g
  pub comes_keeps : WorldKeeps params
      (after g (fragment_world g.world (own_lane params role) m)
      (Fragment (own_lane params role) m))
  pub comes : slot_delivered h role ≡
      after g (fragment_world g.world (own_lane params role) m) (Fragment (own_lane params role) m)
  pub speaks : Speaks (own_id params role) (session_sent params.ticks session) (end_of g.world role)
  pub reader_same : end_of g.world (reader role) ≡ end_of h.world (reader role)
  pub downs : g.logs.downs ≡ h.logs.downs
  pub ups : g.logs.ups ≡ h.logs.ups
  pub begun : g.logs.begins ≡ begins
  pub reports : g.logs.reports ≡
      h.logs.reports ++ keyed (own_lane params role) (told h.place (Some place) (kind_sent session))

-- the session of the talk is under way
pub record IsTalking (params : EndParams) (h : History) (role : Role) (known : EditionData)
    (place : ℕ) (t : Talk) : Type 0 where
  pub keeps : WorldKeeps params h
  pub speaks : Speaks (own_id params role) t.session (end_of h.world role)
  pub listens : Listens (reader role) params.acked known t.reception (end_of h.world (reader role))
  pub label : session_of (own_lane params role) h.logs.begins ≡ Some place

-- a message of it goes
pub goes-out : (params : EndParams) (h : History) (role : Role) (known : EditionData) (place : ℕ)
    (t : Talk) (bytes : List ℕ) → IsTalking params h role known place t →
    sender_phase t.session.sender ≡ phase.Sending → sender_due t.session.sender ≡ Some bytes →
    IsOut params h role t.session bytes place h.logs.begins
    (slotted h role (Goes (own_id params role) t.session bytes))
unfolding after given_world given_step marks_given begins_given reports_given ups_after downs_after
    begins_after reports_after
goes-out params h role known place t bytes k sending due =
    record {
      m = m;
      its_bytes = refl;
      its_label = k.label;
      keeps = d.sent_keeps;
      comes_keeps = subst (WorldKeeps params) to d.keeps;
      comes = d.same ∙ to;
      speaks =
          subst (Speaks id (session_sent params.ticks t.session))
          (sym (at_role-put_role h.world.ends role _))
          (subst (λ (p : EndParams). Speaks id (session_sent params.ticks t.session)
          (with_sessions end
          (with_session id (Some (session_sent p.ticks t.session)) end.sessions)))
          (sym (k.keeps.ends role).sessions.its_params)
          (speaks-sent id t.session (session_sent params.ticks t.session) end k.speaks));
      reader_same = at_role-put_role-taker h.world.ends role _;
      downs = refl;
      ups = refl;
      begun = append-nil h.logs.begins;
      reports = ap
          (λ o. h.logs.reports ++ keyed (own_lane params role)
          (told h.place o (kind_sent t.session))) k.label;
    }
  where
    id : SessionKey
    id = own_id params role

    end : EndData
    end = end_of h.world role

    given : Given
    given = Goes id t.session bytes

    m : Msg
    m = record {
      label = session_of (own_lane params role) h.logs.begins;
      sent_at =
          at_role h.ticks role;
      bytes = bytes;
    }

    d : IsDelivered params h role given (MessageOf (own_lane params role) m)
    d = slot-comes params h role given (MessageOf (own_lane params role) m) k.keeps
        (gives-message id t.session end bytes k.speaks sending due) refl

    to : come h role given (MessageOf (own_lane params role) m) ≡
        after (slotted h role given)
        (fragment_world (slotted h role given).world (own_lane params role) m)
        (Fragment (own_lane params role) m)
    to = fragment-comes params h role given id m (own-link role id params.acked refl) d.sent_keeps

-- The message is taken.

-- the history in which the session and the receiver of the talk stand, and what came of the logs
-- since
pub record IsTaken (params : EndParams) (h : History) (role : Role) (known : EditionData)
    (place : ℕ) (begins : List Began) (ups : List HandedUp) (sent : Option ReportKind) (t : Talk)
    (f : History) : Type 0 where
  pub keeps : WorldKeeps params f
  pub speaks : Speaks (own_id params role) t.session (end_of f.world role)
  pub listens : Listens (reader role) params.acked known t.reception (end_of f.world (reader role))
  pub downs : f.logs.downs ≡ h.logs.downs
  pub begun : f.logs.begins ≡ begins
  pub up : f.logs.ups ≡ h.logs.ups ++ ups
  pub reports : f.logs.reports ≡
      h.logs.reports ++ keyed (own_lane params role) (told h.place (Some place) sent)

-- what the message hands up
abbrev pub ups_of : EndParams → History → Role → Msg → List HandedUp
ups_of params g role m =
    handed g (sent_direction role) (marked_frame (MessageOf (own_lane params role) m))
    (option_map label.Session (came g (own_lane params role) m).session)

-- the message that has gone is delivered: the session has sent it, the receiver has taken it, and
-- the logs have what it hands up, and what is reported of the session
pub out-taken : (params : EndParams) (h g : History) (role : Role) (known : EditionData) (place : ℕ)
    (begins : List Began) (t : Talk) (bytes : List ℕ) →
    (o : IsOut params h role t.session bytes place begins g) →
    Listens (reader role) params.acked known t.reception (end_of h.world (reader role)) →
    IsTaken params h role known place begins (ups_of params g role o.m) (kind_sent t.session)
    (talk_sent (mode_of (own_lane params role)) params.ticks t bytes) (slot_delivered h role)
unfolding after ups_after downs_after begins_after reports_after talk_sent
out-taken params h g role known place begins t bytes o listens =
    subst (IsTaken params h role known place begins (ups_of params g role o.m) (kind_sent t.session)
    (talk_sent (mode_of (own_lane params role)) params.ticks t bytes)) (sym o.comes)
    (record {
      keeps = o.comes_keeps;
      speaks = subst (Speaks (own_id params role) (session_sent params.ticks t.session))
          (sym (at_role-put-reader g.world.ends role _)) o.speaks;
      listens =
          subst (Listens (reader role) params.acked known
          (took_reading params.ticks bytes t.reception (reading_in m side.Fragments bytes)))
          (sym (at_role-put_role g.world.ends (reader role) _))
          (subst (λ b. Listens (reader role) params.acked known
          (took_reading params.ticks b t.reception (reading_in m side.Fragments b))
          (with_sessions end
          (fragment_read end.sessions (own_id params role) o.m.bytes
          (reading_in m side.Fragments o.m.bytes)).0)) o.its_bytes
          (subst (λ i. Listens (reader role) params.acked known
          (took_reading params.ticks o.m.bytes t.reception
          (reading_in m side.Fragments o.m.bytes))
          (with_sessions end
          (fragment_read end.sessions i o.m.bytes (reading_in m side.Fragments o.m.bytes)).0))
          (in-own params role)
          (listens-took (reader role) params.acked known t.reception end o.m.bytes
          (reading_in m side.Fragments o.m.bytes) params.ticks
          (ap (λ (p : EndParams). p.ticks) (o.keeps.ends (reader role)).sessions.its_params)
          (subst (Listens (reader role) params.acked known t.reception) (sym o.reader_same)
          listens))));
      downs = o.downs;
      begun = o.begun;
      up = ap (λ us. us ++ ups_of params g role o.m) o.ups;
      reports = o.reports;
    })
  where
    m : FragMode
    m = mode_of (own_lane params role)

    end : EndData
    end = end_of g.world (reader role)

-- The other end's slot: the answer that is due, or nothing.

-- the history after it, and what came of the logs
pub record IsAnswered (params : EndParams) (f : History) (role : Role) (known : EditionData)
    (place : ℕ) (said : Option ReportKind) (t : Talk) (g : History) : Type 0 where
  pub talking : IsTalking params g role known place t
  pub downs : g.logs.downs ≡ f.logs.downs
  pub begun : g.logs.begins ≡ f.logs.begins
  pub ups : g.logs.ups ≡ f.logs.ups
  pub time : ℕ
  pub reports : g.logs.reports ≡
      f.logs.reports ++ keyed (own_lane params role) (told time (Some place) said)

-- an answer hands nothing up
none-up : (o : Option HandUpData) → ((u : HandUpData) → o ≡ Some u → ⊥) → o ≡ None
none-up None f = refl
none-up (Some u) f = absurd (f u refl)

answer-silent : (params : EndParams) (g : History) (key : Key) (m : Msg) → WorldKeeps params g →
    IsLinkKey key → handed g (other_direction key.way) (marked_frame (MessageOf key m)) None ≡ []
answer-silent params g key m k link =
    let frame = marked_frame (MessageOf key m) in
    let this = end_of g.world (taker (other_direction key.way)) in
    ap (λ o. up_entries g.place (other_direction key.way) o None)
    (none-up (take_step this frame).1.up
    (λ u e. answer-up params g key m u k.ends link
    (subst (λ r. HandsUp (end_of g.world r) frame u) (other-taker key.way)
    (taken-up this frame u e))))

sender-sent : (role : Role) → sender (sent_direction role) ≡ role
sender-sent Device = refl
sender-sent Gateway = refl

-- the answer comes to the end that sends
abbrev heard_world : WorldData → Role → Key → Msg → WorldData
heard_world w role key m =
    let end : EndData = end_of w role in
    with_end w role
    (with_sessions end
    (answer_read end.sessions key.id (reading_in (mode_of key) side.Answers m.bytes)).0)

heard-kind : (ticks : TimerTicks) (session : Session) (o : Option Session)
    (reading : Result Message WireFault) → o ≡ Some session →
    (heard_by ticks o reading).1 ≡ (heard_reading ticks session reading).1
unfolding heard_by heard_reading
heard-kind ticks session None reading e = absurd cc
heard-kind ticks session (Some other) (Err fault) e = refl
heard-kind ticks session (Some other) (Ok message) e =
    ap (λ s. heard_kind (session_heard ticks message s).1) (the-same e)
  where
    the-same : Some other ≡ Some session → other ≡ session
    the-same e = cc

-- what is reported of it
heard-reports : (params : EndParams) (g : History) (role : Role) (place : ℕ) (session : Session)
    (m : Msg) → WorldKeeps params g → Speaks (own_id params role) session (end_of g.world role) →
    session_of (own_lane params role) g.logs.begins ≡ Some place →
    reports_heard g (own_lane params role) m ≡
    keyed (own_lane params role)
    (told g.place (Some place)
    (heard_reading params.ticks session
    (reading_in (mode_of (own_lane params role)) side.Answers m.bytes)).1)
unfolding reports_heard sender_at
heard-reports params g role place session m k speaks label =
    let key = own_lane params role in
    let reading = reading_in (mode_of key) side.Answers m.bytes in
    ap (λ o. keyed key
    (told g.place o
    (heard_by (end_of g.world (sender key.way)).params.ticks
    (found key.id (end_of g.world (sender key.way)).sessions.senders) reading).1)) label
    ∙ ap (λ (r : Role). keyed key
    (told g.place (Some place)
    (heard_by (end_of g.world r).params.ticks (found key.id (end_of g.world r).sessions.senders)
    reading).1)) (sender-sent role)
    ∙ ap (λ (p : EndParams). keyed key
    (told g.place (Some place)
    (heard_by p.ticks (found key.id (end_of g.world role).sessions.senders) reading).1))
    (k.ends role).its_params
    ∙ ap (λ kind. keyed key (told g.place (Some place) kind))
    (heard-kind params.ticks session (found key.id (end_of g.world role).sessions.senders)
    reading (ap (found key.id) speaks.senders ∙ found_own key.id (Some session)))

-- no answer is due
still-answered : (params : EndParams) (f : History) (role : Role) (known : EditionData) (place : ℕ)
    (t : Talk) → IsTalking params f role known place t → receiver_due t.reception.receiver ≡ None →
    IsAnswered params f role known place None t (slot_delivered f (reader role))
unfolding told
still-answered params f role known place t k due =
    let rests = gives-rest (reader role) params.acked known t.reception
    (end_of f.world (reader role)) k.listens due in
    subst (IsAnswered params f role known place None t)
    (sym (delivered-still f (reader role) rests))
    (record {
      talking = record {
        keeps = subst (WorldKeeps params) (slot-still f (reader role) rests)
            (world-step params f (Slot (reader role)) tt k.keeps);
        speaks = k.speaks;
        listens = k.listens;
        label = k.label;
      };
      downs = refl;
      begun = refl;
      ups = refl;
      time = f.place;
      reports = sym (append-nil f.logs.reports);
    })

-- or one is due
pub due-answered : (params : EndParams) (f : History) (role : Role) (known : EditionData)
    (place : ℕ) (t : Talk) (bytes : List ℕ) → IsTalking params f role known place t →
    receiver_due t.reception.receiver ≡ Some bytes →
    let h = heard_reading params.ticks t.session
    (reading_in (mode_of (own_lane params role)) side.Answers bytes) in
    IsAnswered params f role known place h.1
    (record { session = h.0; reception = reception_answered t.reception })
    (slot_delivered f (reader role))
unfolding after given_world given_step marks_given begins_given reports_given ups_after downs_after
    begins_after reports_after
due-answered params f role known place t bytes k due =
    subst (IsAnswered params f role known place h.1
    (record { session = h.0; reception = reception_answered t.reception })) (sym comes)
    (record {
      talking = record {
        keeps = subst (WorldKeeps params) to d.keeps;
        speaks =
            subst (Speaks id h.0) (sym (at_role-put_role g.world.ends role _))
            (speaks-heard id t.session (end_of g.world role) reading params.ticks
            (ap (λ (p : EndParams). p.ticks) (d.sent_keeps.ends role).sessions.its_params)
            speaks);
        listens =
            subst (Listens (reader role) params.acked known (reception_answered t.reception))
            (sym (at_role-put_role-taker g.world.ends role _
            ∙ at_role-put_role f.world.ends (reader role) _))
            (subst (λ i. Listens (reader role) params.acked known (reception_answered t.reception)
            (with_sessions end
            (with_reception i (reception_answered t.reception) end.sessions)))
            (in-own params role)
            (listens-put (reader role) params.acked known t.reception
            (reception_answered t.reception) end k.listens));
        label = label;
      };
      downs = refl;
      begun = append-nil f.logs.begins;
      ups = ap (λ us. f.logs.ups ++ us)
          (answer-silent params g key m d.sent_keeps (own-link role id params.acked refl))
          ∙ append-nil f.logs.ups;
      time = g.place;
      reports = ap (λ rs. (f.logs.reports ++ []) ++ rs)
          (heard-reports params g role place t.session m d.sent_keeps speaks label)
          ∙ ap (λ rs. rs ++ keyed key (told g.place (Some place) h.1)) (append-nil f.logs.reports);
    })
  where
    id : SessionKey
    id = own_id params role

    key : Key
    key = own_lane params role

    end : EndData
    end = end_of f.world (reader role)

    reading : Result Message WireFault
    reading = reading_in (mode_of key) side.Answers bytes

    h : Session × Option ReportKind
    h = heard_reading params.ticks t.session reading

    given : Given
    given = Answers id t.reception bytes

    g : History
    g = slotted f (reader role) given

    m : Msg
    m = record {
      label = (held_by (taken_key (reader role) id) f.labels).last;
      sent_at =
          at_role f.ticks (reader role);
      bytes = bytes;
    }

    d : IsDelivered params f (reader role) given (MessageOf (taken_key (reader role) id) m)
    d =
        slot-comes params f (reader role) given (MessageOf (taken_key (reader role) id) m) k.keeps
        (gives-answer (reader role) params.acked known t.reception end bytes k.listens due
        ∙ ap (λ i. Answers i t.reception bytes) (in-own params role)) refl

    to : come f (reader role) given (MessageOf (taken_key (reader role) id) m) ≡
        after g (heard_world g.world role key m) (Answer key m)
    to =
        answer-comes params f (reader role) given id m
        (in-link (reader role) id params.acked (sym (in-own params role))) d.sent_keeps
        ∙ ap (λ (k : Key). after g (answer_world g.world k m) (Answer k m)) (taken-own params role)
        ∙ ap (λ (r : Role). after g (heard_world g.world r key m) (Answer key m)) (sender-sent role)

    comes : slot_delivered f (reader role) ≡ after g (heard_world g.world role key m) (Answer key m)
    comes = d.same ∙ to

    speaks : Speaks id t.session (end_of g.world role)
    speaks = subst (Speaks id t.session) (sym (at_role-put-reader f.world.ends role _)) k.speaks

    label : session_of key g.logs.begins ≡ Some place
    label = ap (session_of key) (append-nil f.logs.begins) ∙ k.label

-- after a slot of the other end, and its frame delivered, the session has heard the answer that was
-- due, if one was, and nothing was handed up
pub answered : (params : EndParams) (f : History) (role : Role) (known : EditionData) (place : ℕ)
    (t : Talk) (o : Option (List ℕ)) → receiver_due t.reception.receiver ≡ o →
    IsTalking params f role known place t →
    let a = talk_answered (mode_of (own_lane params role)) params.ticks t o in
    IsAnswered params f role known place a.1 a.0 (slot_delivered f (reader role))
unfolding talk_answered
answered params f role known place t None due k = still-answered params f role known place t k due
answered params f role known place t (Some bytes) due k =
    due-answered params f role known place t bytes k due

-- What the message hands up.

reading-previews : (bytes : List ℕ) (receiver : Receiver) (reading : Result Message WireFault) →
    previewed_of receiver bytes reading ≡ joined_reading bytes receiver reading
unfolding joined_reading
reading-previews bytes receiver (Err fault) = refl
reading-previews bytes receiver (Ok message) = refl

some-one : {A : Type 0} (x y : A) (o : Option A) → o ≡ Some x → o ≡ Some y → x ≡ y
some-one x y o e f = cc

-- the assembly that it would make whole
assembly-is : (params : EndParams) (g : History) (role : Role) (known : EditionData) (r : Reception)
    (m : Msg) → WorldKeeps params g →
    Listens (reader role) params.acked known r (end_of g.world (reader role)) →
    assembly_of (end_of g.world (reader role)) (marked_frame (MessageOf (own_lane params role) m)) ≡
    joined_reading m.bytes r.receiver
    (reading_in (mode_of (own_lane params role)) side.Fragments m.bytes)
assembly-is params g role known r m k listens =
    preview-key key params end.sessions m.bytes link are
    ∙ ap (λ (x : Reception). previewed_of x.receiver m.bytes reading) same
    ∙ reading-previews m.bytes r.receiver reading
  where
    key : Key
    key = own_lane params role

    end : EndData
    end = end_of g.world (reader role)

    link : IsLinkKey key
    link = own-link role (own_id params role) params.acked refl

    are : AreSessions (reader role) params end.sessions
    are = (k.ends (reader role)).sessions

    reading : Result Message WireFault
    reading = reading_in (mode_of key) side.Fragments m.bytes

    same : pick link.0 are.answering are.silent ≡ r
    same =
        some-one (pick link.0 are.answering are.silent) r (found key.id end.sessions.receivers)
        (link-received key params end.sessions link are)
        (subst (λ i. found i end.sessions.receivers ≡ Some r) (in-own params role)
        (listens-found (reader role) params.acked known r end listens))

-- fragments come by the key's port
by-fragments : (params : EndParams) (g : History) (role : Role) → WorldKeeps params g →
    meaning_of (end_of g.world (reader role)).role (own_id params role).port ≡
    Fragments (params_of (mode_of (own_lane params role)))
by-fragments params g role k =
    ap (λ r. meaning_of r (own_id params role).port) (k.ends (reader role)).its_role
    ∙ fragments-port (own_lane params role)
    (own-link role (own_id params role) params.acked refl)

no-part : (this : EndData) (frame : FrameData) (u : HandUpData) (p : FragParams) →
    meaning_of this.role frame.port ≡ Fragments p → assembly_of this frame ≡ None →
    HandsUp this frame u → ⊥
no-part this frame u p port none (HandsUp.whole by r reads is_up) = absurd cc
no-part this frame u p port none (HandsUp.part by assembly e is_up) = absurd cc

-- nothing, where nothing is joined
pub joins-nothing : (params : EndParams) (g : History) (role : Role) (known : EditionData)
    (r : Reception) (m : Msg) → WorldKeeps params g →
    Listens (reader role) params.acked known r (end_of g.world (reader role)) →
    joined_reading m.bytes r.receiver
    (reading_in (mode_of (own_lane params role)) side.Fragments m.bytes) ≡ None →
    ups_of params g role m ≡ []
joins-nothing params g role known r m k listens none =
    let this = end_of g.world (reader role) in
    let frame = marked_frame (MessageOf (own_lane params role) m) in
    ap (λ o. up_entries g.place (sent_direction role) o
    (option_map label.Session (came g (own_lane params role) m).session))
    (none-up (take_step this frame).1.up
    (λ u e. no-part this frame u (params_of (mode_of (own_lane params role)))
    (by-fragments params g role k) (assembly-is params g role known r m k listens ∙ none)
    (taken-up this frame u e)))

came-session : (time : ℕ) (held : Held) (receiver : Receiver) (m : Msg)
    (reading : Result Message WireFault) → ReadsAll1 reading →
    (came_read time held receiver m reading).session ≡ m.label
unfolding came_read came_as checked_label
came-session time held receiver m (Err fault) is = absurd is
came-session time held receiver m (Ok (form.All1 w rcs from)) is = refl
came-session time held receiver m (Ok (form.Regular w fcn from)) is = absurd is
came-session time held receiver m (Ok (form.Ack w c bitmap)) is = absurd is
came-session time held receiver m (Ok (form.AckReq w)) is = absurd is
came-session time held receiver m (Ok form.SenderAbort) is = absurd is
came-session time held receiver m (Ok form.ReceiverAbort) is = absurd is

-- the packet that was read, where one is joined by an All-1
pub joins-packet : (params : EndParams) (g : History) (role : Role) (known : EditionData)
    (r : Reception) (m : Msg) (place : ℕ) (packet : List Bool) (read : UnpackedData) →
    WorldKeeps params g →
    Listens (reader role) params.acked known r (end_of g.world (reader role)) →
    joined_reading m.bytes r.receiver
    (reading_in (mode_of (own_lane params role)) side.Fragments m.bytes) ≡ Some packet →
    ReadsAll1 (reading_in (mode_of (own_lane params role)) side.Fragments m.bytes) →
    m.label ≡ Some place →
    unpacked known params.iids (sent_direction role) packet ≡ Ok read →
    ups_of params g role m ≡
    handed_up g.place (sent_direction role) (up_of known.number read)
    (Some (label.Session place)) ∷ []
joins-packet params g role known r m place packet read k listens joins all1 labelled reads =
    ap (λ o. up_entries g.place (sent_direction role) o
    (option_map label.Session (came g (own_lane params role) m).session)) up
    ∙ ap (λ o. handed_up g.place (sent_direction role) (up_of known.number read)
    (option_map label.Session o) ∷ [])
    (came-session g.place (held_by (own_lane params role) g.labels)
    (reception_at g.world (own_lane params role)).receiver m _ all1 ∙ labelled)
  where
    this : EndData
    this = end_of g.world (reader role)

    frame : FrameData
    frame = marked_frame (MessageOf (own_lane params role) m)

    is_read : read_bits this packet ≡ Ok read
    is_read = read-is params g.world.chain (sent_direction role) this packet (k.ends (reader role))
        ∙ ap (λ (e : EditionData). unpacked e params.iids (sent_direction role) packet)
        listens.knows ∙ reads

    up : (take_step this frame).1.up ≡ Some (up_of known.number read)
    up =
        taken-joins this frame packet read
        (subst IsSessionMeaning (sym (by-fragments params g role k)) tt)
        (assembly-is params g role known r m k listens ∙ joins) is_read
        ∙ ap (λ (e : EditionData). Some (up_of e.number read)) listens.knows
