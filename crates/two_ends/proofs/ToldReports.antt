-- What a line tells of sessions that end is what the log of reports gains.
use Rattle.std.proofs.Common.{◌≡◌, ℕ, true, false, Bool, List, [], ◌∷◌, ◌++◌, length, Option, Some}
use Rattle.std.proofs.Common.{None, option_map, Result, Ok, Err, slice_get, refl, sym, ap, subst}
use Rattle.std.proofs.Common.{◌∙◌, inl, inr}
use Rattle.std.proofs.lemmas.List.{append-nil, append_assoc}
use Rattle.schc_ids.specs.Ends.{sent_direction, other_direction}
use Rattle.schc_ids.specs.PerDirection.{at_direction}
use Rattle.schc_ids.specs.declared.ends.Direction.{Direction}
use Rattle.schc_ids.specs.declared.ends.EndParams.{EndParams}
use Rattle.schc_ids.specs.declared.ends.Role.{Role}
use Rattle.schc_ids.specs.declared.ends.Role.TheVariants.{Device, Gateway}
use Rattle.schc_ids.specs.declared.ends.TimerTicks.{TimerTicks}
use Rattle.schc_ids.specs.declared.faults.UnpackFault.{UnpackFault}
use Rattle.schc_ids.specs.declared.faults.WireFault.{WireFault}
use Rattle.schc_ids.specs.declared.fragments.FragMode.{FragMode}
use Rattle.schc_ids.specs.declared.fragments.FragParams.{FragParams}
use Rattle.schc_ids.specs.declared.fragments.Side.TheVariants as side
use Rattle.schc_ids.specs.declared.notes.Note.{Note}
use Rattle.schc_ids.specs.declared.notes.Report.{Report}
use Rattle.schc_ids.specs.declared.notes.ReportKind.{ReportKind}
use Rattle.event_data.specs.Records.{FrameData}
use Rattle.event_data.specs.Events.{Event, Down, Slot, Deliver, Tick, Abort, Publish, Offer, Allow}
use Rattle.event_data.specs.declared.events.Target.{Target}
use Rattle.event_data.specs.declared.events.Target.TheVariants as target
use Rattle.event_data.specs.declared.outcomes.Accepted.{Accepted}
use Rattle.event_data.specs.declared.outcomes.DownFault.{DownFault}
use Rattle.frag_wire.specs.Spells.{reading_in}
use Rattle.frag_wire.specs.declared.message.Message.{Message}
use Rattle.lorawan_profile.specs.Ports.{meaning_of}
use Rattle.lorawan_profile.specs.declared.ports.PortMeaning.{PortMeaning}
use Rattle.lorawan_profile.specs.declared.ports.PortMeaning.TheVariants.{Fragments, Whole}
use Rattle.packer.specs.UnpackedData.{UnpackedData}
use Rattle.sessions.specs.Data.{SessionsData, port_key, out_key}
use Rattle.sessions.specs.Keys.{SessionKey, found, entry}
use Rattle.sessions.specs.Session.{Session, reported, sent_report}
use Rattle.sessions.specs.Steps.{answer_taken, answer_read, take_from as sessions_take_from}
use Rattle.sessions.specs.Steps.{take_step as sessions_take, ticked_report, or_else, reports_from}
use Rattle.sessions.specs.Steps.{tick_step as sessions_tick, aborted_from}
use Rattle.sessions.specs.Steps.{abort_step as sessions_abort}
use Rattle.lanes.specs.Lane.{LaneReport, Msg, place_of}
use Rattle.lanes.specs.Step.{told, kind_sent, heard_by, aborted_by, ticked_by}
use Rattle.lanes.proofs.ListLemmas.{among-last}
use Rattle.end_core.specs.Data.{EndData}
use Rattle.end_core.specs.End.{read, taken_whole, taken_part, part_step, take_from, take_step}
use Rattle.end_core.specs.End.{tick_step as end_tick, abort_step as end_abort, down_step}
use Rattle.end_core.specs.EndStep.{end_step}
use Rattle.two_ends.specs.Clean.{outcome}
use Rattle.two_ends.specs.Happening.{Given, Answers as GivesAnswer, Goes, Opens, Carries, NoFrame}
use Rattle.two_ends.specs.Happening.{Happening, Nothing, Waits, Gives, Arrives, Fragment, Answer}
use Rattle.two_ends.specs.Happening.{Ticks, GivesUp, own_key, waits_if, message_comes, comes_if}
use Rattle.two_ends.specs.Happening.{happening_in}
use Rattle.two_ends.specs.History.{History, sender_at, ended, reports_given, reports_heard}
use Rattle.two_ends.specs.History.{reports_ticked, reports_given_up, reports_after, begins_after}
use Rattle.two_ends.specs.History.{begins_given, after, next}
use Rattle.two_ends.specs.Keys.{Key, Keyed, sent_key, same_way, keyed, mode_of}
use Rattle.two_ends.specs.Labels.{Mark, WholeFrame, MessageOf, marked_frame}
use Rattle.two_ends.specs.Lanes.{lane_of}
use Rattle.two_ends.specs.Logs.{Began, begins_of, session_of}
use Rattle.two_ends.specs.Told.{Said, said_at, told_reports, AreReportsOf}
use Rattle.two_ends.specs.World.{WorldData, end_of, sender, taker, numbered}
use Rattle.two_ends.specs.World.{sent_after as frames_after}
use Rattle.two_ends.specs.World.{answered, end_event, deliver_step, tick_step, step}
use Rattle.two_ends.proofs.EndsKept.{EndsKept}
use Rattle.two_ends.proofs.GivenLemmas.{given_step, IsGiven, given-is}
use Rattle.two_ends.proofs.KeepsLemmas.{among-begins, at-own-place}
use Rattle.two_ends.proofs.LaneSlots.{slotted}
use Rattle.two_ends.proofs.LaneSteps.{look-up, same-true, same-false, other-taker}
use Rattle.two_ends.proofs.LaneSteps.{whole-port, came_world}
use Rattle.two_ends.proofs.LaneTicks.{own-same, sender-own}
use Rattle.two_ends.proofs.LedLemmas.{slice_get-last}
use Rattle.two_ends.proofs.MarksKept.{IsLinkKey, ArePlaced}
use Rattle.two_ends.proofs.NumberLemmas.{HasNumber, NumberIs, NumbersKeep, Numbered}
use Rattle.two_ends.proofs.PerLemmas.{sends-way}
use Rattle.two_ends.proofs.PortLemmas.{mode-params, fragments-port, key-port, AnswersBy}
use Rattle.two_ends.proofs.PortLemmas.{answers-port}
use Rattle.two_ends.proofs.SessionsKept.{own-is, own-key}
use Rattle.two_ends.proofs.ToldLemmas.{slot_line, slot-outcome}
use Rattle.two_ends.proofs.UpsKept.{marked-at}
use Rattle.two_ends.proofs.WorldLemmas.{slot-next, gives_at}

-- The session that is reported.

-- the session that began last by this key is this one
record IsLastBegan (begins : List Began) (key : Key) (session : Session) : Type 0 where
  began : Began
  its_key : began.key ≡ key
  its_place : session_of key begins ≡ Some began.it.place
  stands : slice_get begins began.it.place ≡ Some began
  its_number : began.it.number ≡ session.number

last-began : (begins : List Began) (key : Key) (session : Session) → ArePlaced 0 begins
    → HasNumber (begins_of key begins) session → IsLastBegan begins key session
last-began begins key session placed n =
    let s = among-begins key n.begun begins (among-last (begins_of key begins) n.begun n.is_last) in
    record {
      began = s.began;
      its_key = s.its_key;
      its_place = ap place_of n.is_last ∙ ap (λ b. Some b.place) (sym s.its);
      stands = at-own-place begins s.began placed s.there;
      its_number = ap (λ b. b.number) s.its ∙ n.its_number;
    }

-- what came of the session of a key that began last is reported of it
ended-said : (h : History) (role : Role) (key : Key) (session : Session) (kind : Option ReportKind)
    → key.way ≡ sent_direction role → ArePlaced 0 h.logs.begins
    → HasNumber (begins_of key h.logs.begins) session →
    AreReportsOf h.place h.logs.begins (ended h key kind)
    (said_at role (reported session.number kind))
unfolding told
ended-said h role key session None way placed n = tt
ended-said h role key session (Some kind) way placed n =
    let l = last-began h.logs.begins key session placed n in (
      record {
        now = refl;
        from_there = way;
        began = l.began;
        its_key = l.its_key;
        its_session = l.its_place;
        stands = l.stands;
        its_number = l.its_number;
        its_kind = refl;
      },
      tt,
    )

-- the report of a session, where there is one, and something came of it
abbrev report_by : Option Session → Option ReportKind → Option Report
report_by None kind = None
report_by (Some session) kind = reported session.number kind

by-said : (h : History) (role : Role) (key : Key) (o : Option Session) (kind : Option ReportKind)
    → (o ≡ None → kind ≡ None) → key.way ≡ sent_direction role → ArePlaced 0 h.logs.begins
    → NumberIs (begins_of key h.logs.begins) o →
    AreReportsOf h.place h.logs.begins (ended h key kind) (said_at role (report_by o kind))
unfolding told
by-said h role key None kind none way placed n = rw (none refl) tt
by-said h role key (Some session) kind none way placed n =
    ended-said h role key session kind way placed n

-- where there is no session, nothing comes of one
heard-none : (ticks : TimerTicks) (o : Option Session) (reading : Result Message WireFault)
    → o ≡ None → (heard_by ticks o reading).1 ≡ None
unfolding heard_by
heard-none ticks o reading e = rw e refl

ticked-none : (ticks : TimerTicks) (o : Option Session) → o ≡ None → (ticked_by ticks o).1 ≡ None
unfolding ticked_by
ticked-none ticks o e = rw e refl

aborted-none : (ticks : TimerTicks) (o : Option Session) → o ≡ None → (aborted_by ticks o).1 ≡ None
unfolding aborted_by
aborted-none ticks o e = rw e refl

-- What the end reports.

-- of an answer that its sessions take
answer-report : (s : SessionsData) (key : SessionKey) (reading : Result Message WireFault)
    → (answer_read s key reading).1.1 ≡ report_by (found key s.senders)
    (heard_by s.params.ticks (found key s.senders) reading).1
unfolding answer_read answer_taken heard_by
answer-report s key (Err fault) = none-read (found key s.senders)
  where
    none-read : (o : Option Session)
        → None ≡ report_by o (heard_by s.params.ticks o (Err fault)).1
    none-read None = refl
    none-read (Some session) = refl
answer-report s key (Ok message) = read-by (found key s.senders)
  where
    read-by : (o : Option Session)
        → (answer_taken s key message o).1.1 ≡ report_by o
        (heard_by s.params.ticks o (Ok message)).1
    read-by None = refl
    read-by (Some session) = refl

-- of a tick
or_else-none : (o : Option Report) → or_else o None ≡ o
or_else-none None = refl
or_else-none (Some report) = refl

reports-own : (ticks : TimerTicks) (key : SessionKey) (o : Option Session)
    → reports_from ticks (entry key o) ≡ report_by o (ticked_by ticks o).1
unfolding reports_from entry ticked_by ticked_report
reports-own ticks key None = refl
reports-own ticks key (Some session) = or_else-none _

-- of a session that it gives up
abort-report : (s : SessionsData) (key : SessionKey) (o : Option Session)
    → (aborted_from s key o).1 ≡ report_by o (aborted_by s.params.ticks o).1
unfolding aborted_from aborted_by
abort-report s key None = refl
abort-report s key (Some session) = refl

-- of a frame that its sessions take: what they say
taken-report : (number : ℕ) (meant : Note × Option Report)
    (o : Option (Result UnpackedData UnpackFault)) → (taken_part number meant o).report ≡ meant.1
unfolding taken_part
taken-report number meant None = refl
taken-report number meant (Some (Ok unpacked)) = refl
taken-report number meant (Some (Err fault)) = refl

part-report : (end : EndData) (frame : FrameData)
    → (part_step end frame).1.report ≡ (sessions_take frame.port frame.bytes end.sessions).1.1
part-report end frame = taken-report end.known.number _ _

-- of one that carries a packet whole: nothing
whole-report : (end : EndData) (frame : FrameData) → meaning_of end.role frame.port ≡ Whole
    → (take_step end frame).1.report ≡ None
unfolding take_step take_from taken_whole
whole-report end frame e =
    ap (λ n. (take_from end frame n).1.report) e ∙ read-whole (read end frame)
  where
    read-whole : (r : Result UnpackedData UnpackFault)
        → (taken_whole end.known.number r).report ≡ None
    read-whole (Ok unpacked) = refl
    read-whole (Err fault) = refl

-- of a fragment: nothing
fragment-report : (end : EndData) (frame : FrameData) (params : FragParams)
    → meaning_of end.role frame.port ≡ Fragments params
    → meaning_of end.sessions.role frame.port ≡ Fragments params
    → (take_step end frame).1.report ≡ None
unfolding take_step take_from sessions_take sessions_take_from
fragment-report end frame params e f =
    ap (λ n. (take_from end frame n).1.report) e ∙ part-report end frame
    ∙ ap (λ n. (sessions_take_from end.sessions (port_key frame.port) frame.bytes n).1.1) f

-- and of an answer: what its session says
answers-report : (end : EndData) (frame : FrameData) (m : FragMode) (meaning : PortMeaning)
    → meaning_of end.role frame.port ≡ meaning → meaning_of end.sessions.role frame.port ≡ meaning
    → AnswersBy m meaning →
    (take_step end frame).1.report ≡
    (answer_read end.sessions (port_key frame.port) (reading_in m side.Answers frame.bytes)).1.1
unfolding take_step take_from sessions_take sessions_take_from answer_read
answers-report end frame m meaning e f (inl by) =
    ap (λ n. (take_from end frame n).1.report) (e ∙ by) ∙ part-report end frame
    ∙ ap (λ n. (sessions_take_from end.sessions (port_key frame.port) frame.bytes n).1.1) (f ∙ by)
    ∙ ap (λ n. (answer_read end.sessions (port_key frame.port)
    (reading_in n side.Answers frame.bytes)).1.1) (mode-params m)
answers-report end frame m meaning e f (inr by) = rw (e ∙ by.0, by.1) refl

-- What the log gains, and the line tells.

pub record ReportsTold (h new : History) (said : List Said) : Type 0 where
  pub added : List (Keyed LaneReport)
  pub are : new.logs.reports ≡ h.logs.reports ++ added
  pub their_lines : AreReportsOf h.place new.logs.begins added said

abbrev ReportsNothing : Happening → Type 0
ReportsNothing (Gives role given) = ⊥
ReportsNothing (Answer key m) = ⊥
ReportsNothing (Ticks target) = ⊥
ReportsNothing (GivesUp role id) = ⊥
ReportsNothing happening = Unit {0}

reports-same : (h : History) (world : WorldData) (x : Happening) → ReportsNothing x
    → ReportsTold h (after h world x) []
unfolding after reports_after
reports-same h world Nothing n =
    record { added = []; are = sym (append-nil h.logs.reports); their_lines = tt }
reports-same h world (Waits role packet accepted) n =
    record { added = []; are = sym (append-nil h.logs.reports); their_lines = tt }
reports-same h world (Gives role given) n = absurd n
reports-same h world (Arrives direction place frame) n =
    record { added = []; are = sym (append-nil h.logs.reports); their_lines = tt }
reports-same h world (Fragment key m) n =
    record { added = []; are = sym (append-nil h.logs.reports); their_lines = tt }
reports-same h world (Answer key m) n = absurd n
reports-same h world (Ticks target) n = absurd n
reports-same h world (GivesUp role id) n = absurd n

waits-reports : (role : Role) (packet : List ℕ) (r : Result Accepted DownFault)
    → ReportsNothing (waits_if role packet r)
unfolding waits_if
waits-reports role packet (Ok accepted) = tt
waits-reports role packet (Err fault) = tt

-- A slot.

-- the session that sends has the number of the key's last one
going-number : (params : EndParams) (h : History) (role : Role) (id : SessionKey)
    (session : Session) → NumbersKeep params h
    → found id (end_of h.world role).sessions.senders ≡ Some session
    → HasNumber (begins_of (sent_key role id) h.logs.begins) session
unfolding lane_of
going-number params h role id session numbers there =
    subst (NumberIs (begins_of (sent_key role id) h.logs.begins)) (sender-own h role id ∙ there)
    (numbers (sent_key role id))

opens-said : (h : History) (role : Role) (id : SessionKey) (b : Began) (kind : Option ReportKind)
    → b.key ≡ sent_key role id → b.it.place ≡ length h.logs.begins →
    AreReportsOf h.place (h.logs.begins ++ b ∷ [])
    (keyed (sent_key role id) (told h.place (Some (length h.logs.begins)) kind))
    (said_at role (reported b.it.number kind))
unfolding told
opens-said h role id b None its_key e = tt
opens-said h role id b (Some kind) its_key e = (
  record {
    now = refl;
    from_there = refl;
    began = b;
    its_key = its_key;
    its_session = ap (λ n. Some n) (sym e);
    stands = ap (slice_get (h.logs.begins ++ b ∷ [])) e ∙ slice_get-last h.logs.begins b;
    its_number = refl;
    its_kind = refl;
  },
  tt,
)

given-reports : (params : EndParams) (h : History) (world : WorldData) (role : Role)
    (given : Given) → Numbered params h → IsGiven role params (end_of h.world role) given
    → ReportsTold h (after h world (Gives role given))
    (told_reports (Slot role) (slot_line h role (given_step (end_of h.world role) given).1))
unfolding after reports_after reports_given begins_after begins_given given_step frames_after
    kind_sent sent_report
given-reports params h world role (GivesAnswer id reception bytes) k is =
    record { added = []; are = refl; their_lines = tt }
given-reports params h world role (Goes id session bytes) k is =
    record {
      added = _;
      are = refl;
      their_lines =
          subst (λ begins. AreReportsOf h.place begins
          (ended h (sent_key role id) (kind_sent session)) (said_at role (sent_report session)))
          (sym (append-nil h.logs.begins))
          (ended-said h role (sent_key role id) session (kind_sent session) refl
          k.world.marks.begins.placed (going-number params h role id session k.numbers is.1));
    }
given-reports params h world role (Opens id session form bytes) k is =
    record {
      added = _;
      are = refl;
      their_lines = opens-said h role id _ (kind_sent session) refl refl;
    }
given-reports params h world role (Carries form) k is =
    record { added = []; are = refl; their_lines = tt }
given-reports params h world role NoFrame k is =
    record { added = []; are = refl; their_lines = tt }

-- A frame that arrives.

fragment-told : (params : EndParams) (h : History) (world : WorldData) (direction : Direction)
    (key : Key) (m : Msg) → EndsKept params h.world → IsLinkKey key → direction ≡ key.way
    → ReportsTold h (after h world (Fragment key m))
    (said_at (taker direction)
    (take_step (end_of h.world (taker direction)) (marked_frame (MessageOf key m))).1.report)
fragment-told params h world direction key m ends link e =
    let end = end_of h.world (taker direction) in
    let port = ap (λ d. meaning_of (taker d) key.id.port) e ∙ fragments-port key link in
    subst (λ r. ReportsTold h (after h world (Fragment key m)) (said_at (taker direction) r))
    (sym (fragment-report end (marked_frame (MessageOf key m)) _
    (ap (λ r. meaning_of r key.id.port) (ends (taker direction)).its_role ∙ port)
    (ap (λ r. meaning_of r key.id.port) (ends (taker direction)).sessions.its_role ∙ port)))
    (reports-same h world (Fragment key m) tt)

-- what the end that sends a key's fragments reports of an answer
heard-report : (params : EndParams) (h : History) (key : Key) (m : Msg) → EndsKept params h.world
    → IsLinkKey key →
    let end = end_of h.world (sender key.way) in
    let o = sender_at h.world key in
    (take_step end (marked_frame (MessageOf key m))).1.report ≡ report_by o
    (heard_by end.params.ticks o (reading_in (mode_of key) side.Answers m.bytes)).1
unfolding sender_at
heard-report params h key m ends link =
    let end = end_of h.world (sender key.way) in
    let k = ends (sender key.way) in
    let reading = reading_in (mode_of key) side.Answers m.bytes in
    let o = found key.id end.sessions.senders in
    answers-report end (marked_frame (MessageOf key m)) (mode_of key)
    (meaning_of (sender key.way) key.id.port) (ap (λ r. meaning_of r key.id.port) k.its_role)
    (ap (λ r. meaning_of r key.id.port) k.sessions.its_role) (answers-port key link)
    ∙ ap (λ i. (answer_read end.sessions i reading).1.1) (key-port key link)
    ∙ answer-report end.sessions key.id reading
    ∙ ap (λ (p : EndParams). report_by o (heard_by p.ticks o reading).1)
    (k.sessions.its_params ∙ sym k.its_params)

answer-told : (params : EndParams) (h : History) (world : WorldData) (direction : Direction)
    (key : Key) (m : Msg) → Numbered params h → IsLinkKey key → direction ≡ other_direction key.way
    → ReportsTold h (after h world (Answer key m))
    (said_at (taker direction)
    (take_step (end_of h.world (taker direction)) (marked_frame (MessageOf key m))).1.report)
unfolding after reports_after begins_after reports_heard lane_of
answer-told params h world direction key m k link e =
    subst (λ r. ReportsTold h (after h world (Answer key m))
    (said_at r (take_step (end_of h.world r) (marked_frame (MessageOf key m))).1.report))
    (sym (ap taker e ∙ other-taker key.way))
    (record {
      added = _;
      are = refl;
      their_lines =
          subst (λ r. AreReportsOf h.place h.logs.begins (reports_heard h key m)
          (said_at (sender key.way) r)) (sym (heard-report params h key m k.world.ends link))
          (by-said h (sender key.way) key (sender_at h.world key) _ (heard-none _ _ _)
          (sym (sends-way key.way)) k.world.marks.begins.placed (k.numbers key));
    })

message-told : (params : EndParams) (h : History) (world : WorldData) (direction : Direction)
    (key : Key) (m : Msg) (b : Bool) → same_way direction key.way ≡ b → Numbered params h
    → IsLinkKey key → ReportsTold h (after h world (message_comes key m b))
    (said_at (taker direction)
    (take_step (end_of h.world (taker direction)) (marked_frame (MessageOf key m))).1.report)
unfolding message_comes
message-told params h world direction key m true e k link =
    fragment-told params h world direction key m k.world.ends link (same-true direction key.way e)
message-told params h world direction key m false e k link =
    answer-told params h world direction key m k link (same-false direction key.way e)

deliver-told : (params : EndParams) (h : History) (direction : Direction) (number : ℕ)
    (o : Option Mark) → numbered (at_direction h.labels.sent direction) number ≡ o
    → Numbered params h →
    let s = deliver_step h.world direction number (option_map marked_frame o) in
    ReportsTold h (after h s.0 (comes_if direction o)) (told_reports (Deliver direction number) s.1)
unfolding deliver_step end_event end_step answered comes_if
deliver-told params h direction number None e k = reports-same h h.world Nothing tt
deliver-told params h direction number (Some (WholeFrame place frame)) e k =
    subst (λ r. ReportsTold h
    (after h (came_world h.world direction frame) (Arrives direction place frame))
    (said_at (taker direction) r))
    (sym (whole-report (end_of h.world (taker direction)) frame
    (whole-port params h direction place frame k.world.chain k.world.ends
    (marked-at params.iids h direction number (WholeFrame place frame) k.world.marks.marks e))))
    (reports-same h (came_world h.world direction frame) (Arrives direction place frame) tt)
deliver-told params h direction number (Some (MessageOf key m)) e k =
    message-told params h _ direction key m (same_way direction key.way) refl k
    (marked-at params.iids h direction number (MessageOf key m) k.world.marks.marks e)

-- A tick, and a session that is given up.

-- the session by an end's own key
own-session : (params : EndParams) (h : History) (role : Role) → (ends : EndsKept params h.world)
    → sender_at h.world (sent_key role (own_key (end_of h.world role))) ≡
    found (out_key role params.acked) (end_of h.world role).sessions.senders
own-session params h role ends =
    sender-own h role (own_key (end_of h.world role))
    ∙ ap (λ i. found i (end_of h.world role).sessions.senders) (own-same params role h ends)

ticked-report : (params : EndParams) (h : History) (role : Role) → EndsKept params h.world →
    let end = end_of h.world role in
    let o = sender_at h.world (sent_key role (own_key end)) in
    (end_tick end).1 ≡ report_by o (ticked_by end.params.ticks o).1
unfolding end_tick sessions_tick
ticked-report params h role ends =
    let end = end_of h.world role in
    let k = ends role in
    let is = own-session params h role ends ∙ own-is role params end.sessions k.sessions in
    ap (reports_from end.sessions.params.ticks) k.sessions.senders
    ∙ reports-own end.sessions.params.ticks (out_key role params.acked) k.sessions.session
    ∙ ap (λ (p : EndParams). report_by k.sessions.session (ticked_by p.ticks k.sessions.session).1)
    (k.sessions.its_params ∙ sym k.its_params)
    ∙ ap (λ o. report_by o (ticked_by end.params.ticks o).1) (sym is)

ticked-said : (params : EndParams) (h : History) (role : Role) → Numbered params h →
    AreReportsOf h.place h.logs.begins (reports_ticked h role)
    (said_at role (end_tick (end_of h.world role)).1)
unfolding reports_ticked lane_of
ticked-said params h role k =
    let key = sent_key role (own_key (end_of h.world role)) in
    subst (λ r. AreReportsOf h.place h.logs.begins (reports_ticked h role) (said_at role r))
    (sym (ticked-report params h role k.world.ends))
    (by-said h role key (sender_at h.world key) _ (ticked-none _ _) refl
    k.world.marks.begins.placed (k.numbers key))

-- the reports of both ends, one after the other
both-reports : (place : ℕ) (begins : List Began) (xs ys : List (Keyed LaneReport))
    (ss ts : List Said) → AreReportsOf place begins xs ss → AreReportsOf place begins ys ts
    → AreReportsOf place begins (xs ++ ys) (ss ++ ts)
both-reports place begins [] ys [] ts k l = l
both-reports place begins [] ys (s ∷ ss) ts k l = absurd k
both-reports place begins (x ∷ xs) ys [] ts k l = absurd k
both-reports place begins (x ∷ xs) ys (s ∷ ss) ts k l =
    (k.0, both-reports place begins xs ys ss ts k.1 l)

tick-told : (params : EndParams) (h : History) (target : Target) → Numbered params h →
    let s = tick_step h.world target in
    ReportsTold h (after h s.0 (Ticks target)) (told_reports (Tick target) s.1)
unfolding tick_step end_event end_step answered after reports_after begins_after
tick-told params h target.Device k =
    record {
      added = _;
      are = refl;
      their_lines =
          subst (AreReportsOf h.place h.logs.begins (reports_ticked h Device))
          (sym (append-nil (said_at Device (end_tick (end_of h.world Device)).1)))
          (ticked-said params h Device k);
    }
tick-told params h target.Gateway k =
    record { added = _; are = refl; their_lines = ticked-said params h Gateway k }
tick-told params h target.Both k =
    record {
      added = reports_ticked h Device ++ reports_ticked h Gateway;
      are = append_assoc h.logs.reports (reports_ticked h Device) (reports_ticked h Gateway);
      their_lines =
          both-reports h.place h.logs.begins (reports_ticked h Device) (reports_ticked h Gateway)
          _ _ (ticked-said params h Device k) (ticked-said params h Gateway k);
    }

aborted-report : (params : EndParams) (h : History) (role : Role) → EndsKept params h.world →
    let end = end_of h.world role in
    let o = sender_at h.world (sent_key role (own_key end)) in
    (end_abort end).1 ≡ report_by o (aborted_by end.params.ticks o).1
unfolding end_abort sessions_abort
aborted-report params h role ends =
    let end = end_of h.world role in
    let k = ends role in
    let o = found (out_key role params.acked) end.sessions.senders in
    ap (λ i. (aborted_from end.sessions i (found i end.sessions.senders)).1)
    (own-key role params end.sessions k.sessions)
    ∙ abort-report end.sessions (out_key role params.acked) o
    ∙ ap (λ (p : EndParams). report_by o (aborted_by p.ticks o).1)
    (k.sessions.its_params ∙ sym k.its_params)
    ∙ ap (λ o. report_by o (aborted_by end.params.ticks o).1)
    (sym (own-session params h role ends))

abort-told : (params : EndParams) (h : History) (world : WorldData) (role : Role)
    → Numbered params h → ReportsTold h
    (after h world (GivesUp role (own_key (end_of h.world role))))
    (said_at role (end_abort (end_of h.world role)).1)
unfolding after reports_after begins_after reports_given_up lane_of
abort-told params h world role k =
    let id = own_key (end_of h.world role) in
    let key = sent_key role id in
    record {
      added = _;
      are = refl;
      their_lines =
          subst (λ r. AreReportsOf h.place h.logs.begins (reports_given_up h role id)
          (said_at role r)) (sym (aborted-report params h role k.world.ends))
          (by-said h role key (sender_at h.world key) _ (aborted-none _ _) refl
          k.world.marks.begins.placed (k.numbers key));
    }

-- the log of reports gains those that the line tells, in their order
pub reports-told : (params : EndParams) (h : History) (event : Event) → Numbered params h
    → ReportsTold h (next h event) (told_reports event (outcome h.world event))
unfolding next step end_event end_step answered happening_in
reports-told params h (Down role packet) k =
    reports-same h _ _ (waits-reports role packet (down_step (end_of h.world role) packet).1)
reports-told params h (Slot role) k =
    subst (λ g. ReportsTold h g (told_reports (Slot role) (outcome h.world (Slot role))))
    (sym (slot-next h role))
    (subst (λ o. ReportsTold h (slotted h role (gives_at h role))
    (told_reports (Slot role) o)) (sym (slot-outcome h role))
    (given-reports params h _ role (gives_at h role) k
    (given-is role params (end_of h.world role) (k.world.ends role).sessions)))
reports-told params h (Deliver direction number) k =
    subst (λ o.
    let s = deliver_step h.world direction number o in
    ReportsTold h
    (after h s.0 (comes_if direction (numbered (at_direction h.labels.sent direction) number)))
    (told_reports (Deliver direction number) s.1))
    (sym (look-up h direction number k.world.frames))
    (deliver-told params h direction number
    (numbered (at_direction h.labels.sent direction) number) refl k)
reports-told params h (Tick target) k = tick-told params h target k
reports-told params h (Abort role) k = abort-told params h _ role k
reports-told params h (Publish raw) k = reports-same h _ Nothing tt
reports-told params h (Offer role number) k = reports-same h _ Nothing tt
reports-told params h (Allow role number) k = reports-same h _ Nothing tt
