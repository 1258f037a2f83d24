-- Plain rounds carry a session to its end: its packet is handed up once, and how it ended is
-- reported.
use Rattle.std.proofs.Common.{◌≡◌, ℕ, zero, suc, ◌≤◌, Bool, List, [], ◌∷◌, ◌++◌, Option, Some, None}
use Rattle.std.proofs.Common.{Ok, refl, sym, ap, subst, ◌∙◌, arith}
use Rattle.std.proofs.lemmas.List.{append-nil}
use Rattle.schc_ids.specs.Ends.{sent_direction, other_role}
use Rattle.schc_ids.specs.declared.ends.EndParams.{EndParams}
use Rattle.schc_ids.specs.declared.ends.Role.{Role}
use Rattle.schc_ids.specs.declared.ends.Role.TheVariants.{Device, Gateway}
use Rattle.schc_ids.specs.declared.fragments.FragMode.{FragMode}
use Rattle.schc_ids.specs.declared.fragments.FragMode.TheVariants as mode
use Rattle.schc_ids.specs.declared.fragments.Side.TheVariants as side
use Rattle.schc_ids.specs.declared.notes.ReportKind.{ReportKind}
use Rattle.schc_ids.specs.declared.notes.ReportKind.TheVariants.{Sent, Delivered}
use Rattle.schc_ids.specs.declared.phases.SenderPhase.TheVariants as phase
use Rattle.editions.specs.Data.{EditionData}
use Rattle.frag_wire.specs.Spells.{reading_in}
use Rattle.packer.specs.UnpackedData.{UnpackedData}
use Rattle.packer.specs.Unpacking.{unpacked}
use Rattle.event_data.specs.Records.{HandUpData}
use Rattle.sessions.specs.Receivers.{receiver_due}
use Rattle.sessions.specs.Senders.{sender_due, sender_phase}
use Rattle.lanes.specs.Lane.{LaneReport}
use Rattle.lanes.specs.Rounds.{Talk, joined_reading, talk_sent, talk_answered, talk_round, IsRound}
use Rattle.lanes.specs.Rounds.{last_sent, last_told, IsLastRound, Ends}
use Rattle.lanes.specs.Step.{kind_sent, told}
use Rattle.end_core.specs.End.{up_of}
use Rattle.two_ends.specs.Clean.{slot_delivered, plain_round, plain_rounds, good_end}
use Rattle.two_ends.specs.Happening.{NoFrame}
use Rattle.two_ends.specs.History.{History}
use Rattle.two_ends.specs.Keys.{Key, Keyed, keyed, mode_of, lane_params}
use Rattle.two_ends.specs.Labels as label
use Rattle.two_ends.specs.Logs.{HandedUp, Began, handed_up, session_of}
use Rattle.two_ends.specs.World.{WorldData, end_of}
use Rattle.two_ends.proofs.PerLemmas.{taker-sent}
use Rattle.two_ends.proofs.PortLemmas.{mode-params}
use Rattle.two_ends.proofs.RestLemmas.{gives_of, IsRested, rounds-still}
use Rattle.two_ends.proofs.TalkEndLemmas.{Listens, gives-nothing, gives-rest}
use Rattle.two_ends.proofs.TalkLemmas.{IsTalkOf, round-of, ReadsAll1, joins-all1}
use Rattle.two_ends.proofs.TalkRoundLemmas.{own_id, own_lane, reader, IsOut, IsTalking, goes-out}
use Rattle.two_ends.proofs.TalkRoundLemmas.{IsTaken, ups_of, out-taken, IsAnswered, answered}
use Rattle.two_ends.proofs.TalkRoundLemmas.{joins-nothing, joins-packet}

-- The end is to give the next message of the session, or the first one: these sessions have begun
-- then.
pub record IsReady (params : EndParams) (h : History) (role : Role) (known : EditionData)
    (place : ℕ) (begins : List Began) (t : Talk) : Type 0 where
  pub listens : Listens (reader role) params.acked known t.reception (end_of h.world (reader role))
  pub label : session_of (own_lane params role) begins ≡ Some place
  pub out :
      (bytes : List ℕ) → sender_phase t.session.sender ≡ phase.Sending →
      sender_due t.session.sender ≡ Some bytes →
      (g : History) × IsOut params h role t.session bytes place begins g

talking-ready : (params : EndParams) (h : History) (role : Role) (known : EditionData) (place : ℕ)
    (t : Talk) → IsTalking params h role known place t →
    IsReady params h role known place h.logs.begins t
talking-ready params h role known place t k =
    record {
      listens = k.listens;
      label = k.label;
      out =
          λ bytes sending due. (_, goes-out params h role known place t bytes k sending due);
    }

-- A round.

-- the history after a round, and what came of the logs
record IsDone (params : EndParams) (h : History) (role : Role) (known : EditionData) (place : ℕ)
    (begins : List Began) (ups : List HandedUp) (sent said : Option ReportKind) (t : Talk)
    (now : History) : Type 0 where
  talking : IsTalking params now role known place t
  downs : now.logs.downs ≡ h.logs.downs
  begun : now.logs.begins ≡ begins
  up : now.logs.ups ≡ h.logs.ups ++ ups
  time : ℕ
  reports : now.logs.reports ≡
      (h.logs.reports ++ keyed (own_lane params role) (told h.place (Some place) sent)) ++ keyed
      (own_lane params role) (told time (Some place) said)

taken-done : (params : EndParams) (h : History) (role : Role) (known : EditionData) (place : ℕ)
    (begins : List Began) (ups : List HandedUp) (sent said : Option ReportKind) (s after : Talk)
    (f : History) → session_of (own_lane params role) begins ≡ Some place →
    IsTaken params h role known place begins ups sent s f →
    talk_answered (mode_of (own_lane params role)) params.ticks s
    (receiver_due s.reception.receiver) ≡ (after, said) →
    IsDone params h role known place begins ups sent said after (slot_delivered f (reader role))
taken-done params h role known place begins ups sent said s after f label k e =
    subst (λ (x : Talk × Option ReportKind). IsDone params h role known place begins ups sent x.1
    x.0 (slot_delivered f (reader role))) e
    (record {
      talking = a.talking;
      downs = a.downs ∙ k.downs;
      begun = a.begun ∙ k.begun;
      up = a.ups ∙ k.up;
      time = a.time;
      reports = a.reports
          ∙ ap (λ rs. rs ++ keyed (own_lane params role) (told a.time (Some place) b.1)) k.reports;
    })
  where
    b : Talk × Option ReportKind
    b = talk_answered (mode_of (own_lane params role)) params.ticks s
        (receiver_due s.reception.receiver)

    a : IsAnswered params f role known place b.1 b.0 (slot_delivered f (reader role))
    a =
        answered params f role known place s (receiver_due s.reception.receiver) refl
        (record {
          keeps = k.keeps;
          speaks = k.speaks;
          listens = k.listens;
          label =
              ap (session_of (own_lane params role)) k.begun ∙ label;
        })

round-done : (params : EndParams) (h g : History) (role : Role) (known : EditionData) (place : ℕ)
    (begins : List Began) (t after : Talk) (joined : Option (List Bool))
    (sent said : Option ReportKind) → IsReady params h role known place begins t →
    (r : IsRound (mode_of (own_lane params role)) params.ticks t joined sent said after) →
    (o : IsOut params h role t.session r.bytes place begins g) →
    IsDone params h role known place begins (ups_of params g role o.m) sent said after
    (plain_round h role)
unfolding plain_round talk_round
round-done params h g role known place begins t after joined sent said k r o =
    subst (λ kind. IsDone params h role known place begins (ups_of params g role o.m) kind said
    after (slot_delivered (slot_delivered h role) (other_role role))) r.sends
    (subst (λ other. IsDone params h role known place begins (ups_of params g role o.m)
    (kind_sent t.session) said after (slot_delivered (slot_delivered h role) other))
    (taker-sent role)
    (taken-done params h role known place begins (ups_of params g role o.m) (kind_sent t.session)
    said (talk_sent (mode_of (own_lane params role)) params.ticks t r.bytes) after
    (slot_delivered h role) k.label
    (out-taken params h g role known place begins t r.bytes o k.listens) r.round))

-- the reception that the message finds
found-reception : (params : EndParams) (h g : History) (role : Role) (known : EditionData)
    (place : ℕ) (begins : List Began) (t : Talk) (bytes : List ℕ) →
    IsReady params h role known place begins t →
    IsOut params h role t.session bytes place begins g →
    Listens (reader role) params.acked known t.reception (end_of g.world (reader role))
found-reception params h g role known place begins t bytes k o =
    subst (Listens (reader role) params.acked known t.reception) (sym o.reader_same) k.listens

-- a round that joins nothing and reports nothing
quiet-round : (params : EndParams) (h : History) (role : Role) (known : EditionData) (place : ℕ)
    (begins : List Began) (t after : Talk) → IsReady params h role known place begins t →
    IsRound (mode_of (own_lane params role)) params.ticks t None None None after →
    IsDone params h role known place begins [] None None after (plain_round h role)
quiet-round params h role known place begins t after k r =
    subst (λ ups. IsDone params h role known place begins ups None None after (plain_round h role))
    (joins-nothing params out.0 role known t.reception out.1.m out.1.keeps
    (found-reception params h out.0 role known place begins t r.bytes k out.1)
    (subst (λ b. joined_reading b t.reception.receiver
    (reading_in (mode_of (own_lane params role)) side.Fragments b) ≡ None) (sym out.1.its_bytes)
    r.joins))
    (round-done params h out.0 role known place begins t after None None None k r out.1)
  where
    out : (g : History) × IsOut params h role t.session r.bytes place begins g
    out = k.out r.bytes r.sending r.due

-- the last round
last-round : (params : EndParams) (h : History) (role : Role) (known : EditionData) (place : ℕ)
    (begins : List Began) (bits packet : List Bool) (read : UnpackedData) (t : Talk) →
    IsReady params h role known place begins t →
    IsTalkOf (lane_params params (own_lane params role)) bits t →
    unpacked known params.iids (sent_direction role) packet ≡ Ok read →
    (l : IsLastRound (mode_of (own_lane params role)) params.ticks packet t) →
    (time : ℕ) ×
    IsDone params h role known place begins
    (handed_up time (sent_direction role) (up_of known.number read)
    (Some (label.Session place)) ∷ []) (last_sent (mode_of (own_lane params role)))
    (last_told (mode_of (own_lane params role))) l.after (plain_round h role)
last-round params h role known place begins bits packet read t k of reads l = (
  out.0.place,
  subst (λ ups. IsDone params h role known place begins ups (last_sent m) (last_told m) l.after
      (plain_round h role))
      (joins-packet params out.0 role known t.reception out.1.m place packet read out.1.keeps
      (found-reception params h out.0 role known place begins t r.bytes k out.1) joins all1
      out.1.its_label reads)
      (round-done params h out.0 role known place begins t l.after (Some packet) (last_sent m)
      (last_told m) k r out.1),
)
  where
    m : FragMode
    m = mode_of (own_lane params role)

    r : IsRound m params.ticks t (Some packet) (last_sent m) (last_told m) l.after
    r = l.round

    out : (g : History) × IsOut params h role t.session r.bytes place begins g
    out = k.out r.bytes r.sending r.due

    joins : joined_reading out.1.m.bytes t.reception.receiver
        (reading_in m side.Fragments out.1.m.bytes) ≡ Some packet
    joins = subst
        (λ b. joined_reading b t.reception.receiver (reading_in m side.Fragments b) ≡ Some packet)
        (sym out.1.its_bytes) r.joins

    all1 : ReadsAll1 (reading_in m side.Fragments out.1.m.bytes)
    all1 =
        subst (λ b. ReadsAll1 (reading_in m side.Fragments b)) (sym out.1.its_bytes)
        (subst (λ n. ReadsAll1 (reading_in n side.Fragments r.bytes)) (mode-params m)
        (joins-all1 (lane_params params (own_lane params role)) bits t r.bytes packet of r.due
        (subst (λ n. joined_reading r.bytes t.reception.receiver
        (reading_in n side.Fragments r.bytes) ≡ Some packet) (sym (mode-params m)) r.joins)))

-- Rounds.

-- what is so once the session has ended
pub record IsOver (params : EndParams) (h : History) (role : Role) (place : ℕ) (begins : List Began)
    (up : HandUpData) (now : History) : Type 0 where
  pub rested : IsRested now.world.ends
  pub downs : now.logs.downs ≡ h.logs.downs
  pub begun : now.logs.begins ≡ begins
  pub time : ℕ
  pub ups : now.logs.ups ≡
      h.logs.ups ++ handed_up time (sent_direction role) up (Some (label.Session place)) ∷ []
  pub report : Keyed LaneReport
  pub reports : now.logs.reports ≡ h.logs.reports ++ report ∷ []
  pub of_key : report.key ≡ own_lane params role
  pub of_session : report.it.session ≡ Some place
  pub well : report.it.kind ≡ good_end (mode_of (own_lane params role))

abbrev report_at : Key → ℕ → ℕ → ReportKind → Keyed LaneReport
report_at key place time kind =
    record { key = key; it = record { time = time; session = Some place; kind = kind } }

-- the one report
record IsReport (m : FragMode) (key : Key) (place : ℕ) (xs all : List (Keyed LaneReport)) : Type 0
  where
    report : Keyed LaneReport
    reports : all ≡ xs ++ report ∷ []
    of_key : report.key ≡ key
    of_session : report.it.session ≡ Some place
    well : report.it.kind ≡ good_end m

last-report : (m : FragMode) (key : Key) (place time later : ℕ) (xs : List (Keyed LaneReport)) →
    IsReport m key place xs
    ((xs ++ keyed key (told time (Some place) (last_sent m))) ++ keyed key
    (told later (Some place) (last_told m)))
unfolding told
last-report mode.NoAck key place time later xs =
    record {
      report = report_at key place time Sent;
      reports = append-nil _;
      of_key = refl;
      of_session = refl;
      well = refl;
    }
last-report mode.AckAlways key place time later xs =
    record {
      report = report_at key place later Delivered;
      reports = ap (λ ys. ys ++ report_at key place later Delivered ∷ []) (append-nil xs);
      of_key = refl;
      of_session = refl;
      well = refl;
    }
last-report mode.AckOnError key place time later xs =
    record {
      report = report_at key place later Delivered;
      reports = ap (λ ys. ys ++ report_at key place later Delivered ∷ []) (append-nil xs);
      of_key = refl;
      of_session = refl;
      well = refl;
    }

-- what holds of the end that sends and of the one that takes holds of both
both-roles : (P : Role → Type 0) (role : Role) → P role → P (reader role) → (other : Role) → P other
both-roles P Device p q Device = p
both-roles P Device p q Gateway = q
both-roles P Gateway p q Device = q
both-roles P Gateway p q Gateway = p

done-rested : (params : EndParams) (h : History) (role : Role) (known : EditionData) (place : ℕ)
    (t : Talk) → IsTalking params h role known place t →
    sender_phase t.session.sender ≡ phase.Quiet → receiver_due t.reception.receiver ≡ None →
    IsRested h.world.ends
done-rested params h role known place t k quiet silent =
    both-roles (λ r. gives_of (end_of h.world r) ≡ NoFrame) role
    (gives-nothing (own_id params role) t.session (end_of h.world role) k.speaks quiet)
    (gives-rest (reader role) params.acked known t.reception (end_of h.world (reader role))
    k.listens silent)

module _ (params : EndParams) (role : Role) (known : EditionData) (place : ℕ) (begins : List Began)
    (bits packet : List Bool) (read : UnpackedData) where
  -- the last round, and any number of further ones
  last-over : (count : ℕ) (h : History) (t : Talk) → IsReady params h role known place begins t →
      IsTalkOf (lane_params params (own_lane params role)) bits t →
      unpacked known params.iids (sent_direction role) packet ≡ Ok read →
      IsLastRound (mode_of (own_lane params role)) params.ticks packet t →
      IsOver params h role place begins (up_of known.number read)
      (plain_rounds (suc count) h role)
  unfolding plain_rounds
  last-over count h t k of reads l =
      let m = mode_of (own_lane params role) in
      let last = last-round params h role known place begins bits packet read t k of reads l in
      let d = last.1 in
      let rested =
      done-rested params (plain_round h role) role known place l.after d.talking l.ended
      l.round.rests in
      let still = rounds-still count (plain_round h role) role rested in
      let report = last-report m (own_lane params role) place h.place d.time h.logs.reports in
      record {
        rested = subst (λ (w : WorldData). IsRested w.ends) (sym still.0) rested;
        downs = ap (λ logs. logs.downs) still.1 ∙ d.downs;
        begun = ap (λ logs. logs.begins) still.1 ∙ d.begun;
        time = last.0;
        ups = ap (λ logs. logs.ups) still.1 ∙ d.up;
        report = report.report;
        reports = ap (λ logs. logs.reports) still.1 ∙ d.reports ∙ report.reports;
        of_key = report.of_key;
        of_session = report.of_session;
        well = report.well;
      }

  -- one more round before
  more-over : (h : History) (after : Talk) (now : History) →
      IsDone params h role known place begins [] None None after (plain_round h role) →
      IsOver params (plain_round h role) role place begins (up_of known.number read) now →
      IsOver params h role place begins (up_of known.number read) now
  unfolding told
  more-over h after now d k =
      record {
        rested = k.rested;
        downs = k.downs ∙ d.downs;
        begun = k.begun;
        time = k.time;
        ups = k.ups ∙ ap
            (λ us. us ++ handed_up k.time (sent_direction role) (up_of known.number read)
            (Some (label.Session place)) ∷ []) (d.up ∙ append-nil h.logs.ups);
        report = k.report;
        reports = k.reports
            ∙ ap (λ rs. rs ++ k.report ∷ [])
            (d.reports ∙ append-nil (h.logs.reports ++ []) ∙ append-nil h.logs.reports);
        of_key = k.of_key;
        of_session = k.of_session;
        well = k.well;
      }

  -- where a talk ends within so many rounds, as many plain rounds see the session through:
  -- its packet is handed up once, it is reported once, and neither end has more to give
  pub ends-over : (more count : ℕ) (h : History) (t : Talk) → suc more ≤ count →
      IsReady params h role known place begins t →
      IsTalkOf (lane_params params (own_lane params role)) bits t →
      unpacked known params.iids (sent_direction role) packet ≡ Ok read →
      Ends (mode_of (own_lane params role)) params.ticks packet more t →
      IsOver params h role place begins (up_of known.number read) (plain_rounds count h role)
  unfolding plain_rounds
  ends-over more zero h t enough k of reads e = absurd (omega (arith, enough))
  ends-over zero (suc count) h t enough k of reads e = last-over count h t k of reads e
  ends-over (suc more) (suc count) h t enough k of reads e =
      let d = quiet-round params h role known place begins t e.0 k e.1 in
      let ready = subst (λ bs. IsReady params (plain_round h role) role known place bs e.0) d.begun
      (talking-ready params (plain_round h role) role known place e.0 d.talking) in
      let of_after =
      round-of (lane_params params (own_lane params role)) bits (mode_of (own_lane params role))
      params.ticks t e.0 None None None e.1 of in
      more-over h e.0 (plain_rounds count (plain_round h role) role) d
      (ends-over more count (plain_round h role) e.0 (omega (arith, enough)) ready of_after reads
      e.2)
