-- A tick passes.
use Rattle.std.specs.Prelude.{ℕ, ◌≡◌, ◌++◌, Bool, true, false, if◌then◌else◌, List, [], ◌∷◌, Option}
use Rattle.std.specs.Prelude.{Some, None}
use Rattle.std.proofs.Common.{refl, sym, ap, subst, ◌∙◌}
use Rattle.schc_ids.specs.declared.ends.EndParams.{EndParams}
use Rattle.schc_ids.specs.declared.ends.Role.{Role}
use Rattle.schc_ids.specs.declared.ends.TimerTicks.{TimerTicks}
use Rattle.schc_ids.specs.declared.notes.Heard.{Heard}
use Rattle.schc_ids.specs.declared.notes.Heard.TheVariants as heard
use Rattle.schc_ids.specs.declared.notes.Report.{Report}
use Rattle.timers.specs.Timers.{ticked, is_due}
use Rattle.sessions.specs.Clocks.{ClocksData, unless_due}
use Rattle.sessions.specs.Data.{SessionsData, seen, shown, session_of, receptions, in_key, out_key}
use Rattle.sessions.specs.Holds.{is_armed, sender_timed, AreRunning, IsRunning}
use Rattle.sessions.specs.Keys.{SessionKey, Entry, entry, changed, each}
use Rattle.sessions.specs.Receivers.{receiver_phase}
use Rattle.sessions.specs.Reception.{Reception, reception_ticked, reception_fired, receiver_fired}
use Rattle.sessions.specs.Session.{Session, session_fired, session_ticked, fired_in, heard_kind}
use Rattle.sessions.specs.Session.{reported}
use Rattle.sessions.specs.Steps.{tick_step, ticked_report, fired_session, or_else, reports_from}
use Rattle.sessions.specs.declared.moves.Running.{Running}
use Rattle.sessions.specs.declared.receivers.Receiver.{Receiver}
use Rattle.sessions.proofs.ReceiverLemmas.{ticked-armed}

-- a receiver
abbrev fired-if : Bool → Receiver → Receiver
fired-if due r = if due then receiver_fired (receiver_phase r) r else r

reception-if : (r : Receiver) (left : Option ℕ) (due : Bool)
    → (if due then reception_fired (record { receiver = r; left = left })
    else record { receiver = r; left = ticked left }) ≡ record {
      receiver = fired-if due r;
      left =
          if due then None else ticked left;
    }
unfolding reception_fired
reception-if r left true = refl
reception-if r left false = refl

reception-is : (old new : Receiver) (left left' : Option ℕ) (due : Bool) → new ≡ fired-if due old
    → due ≡ is_due (ticked left) → left' ≡ unless_due (ticked left)
    → reception_ticked
    (record { receiver = old; left = left }) ≡ record { receiver = new; left = left' }
unfolding reception_ticked unless_due
reception-is old new left left' due n d l =
    rw (n, l, d) (reception-if old left (is_due (ticked left)))

-- the session
entry-end : {A : Type 0} (key : SessionKey) (o : Option A) → entry key o ++ [] ≡ entry key o
unfolding entry
entry-end key None = refl
entry-end key (Some x) = refl

changed-some : {A : Type 0} (key : SessionKey) (f : A → Option A) (x : A)
    → changed f (entry key (Some x)) ≡ entry key (f x)
unfolding changed entry
changed-some key f x = entry-end key (f x)

changed-none : {A : Type 0} (key : SessionKey) (f : A → Option A)
    → changed f (entry key None) ≡ entry key None
unfolding changed entry
changed-none key f = refl

or-none : (report : Option Report) → or_else report None ≡ report
or-none None = refl
or-none (Some report) = refl

reports-some : (ticks : TimerTicks) (key : SessionKey) (session : Session)
    → reports_from ticks (entry key (Some session)) ≡ ticked_report ticks session
unfolding reports_from entry
reports-some ticks key session = or-none (ticked_report ticks session)

reports-none : (ticks : TimerTicks) (key : SessionKey) → reports_from ticks (entry key None) ≡ None
unfolding reports_from entry
reports-none ticks key = refl

-- the senders after the tick, and the report
pub record Ticks (ticks : TimerTicks) (key : SessionKey) (old new : Option Session)
    (report : Option Report) : Type 0 where
  pub senders : changed (λ session. (session_ticked ticks session).0) (entry key old) ≡ entry key
      new
  pub reports : reports_from ticks (entry key old) ≡ report

ticks-some : (ticks : TimerTicks) (key : SessionKey) (session : Session) (new : Option Session)
    (heard : Heard) (report : Option Report) → session_ticked ticks session ≡ (new, heard)
    → report ≡ reported session.number (heard_kind heard)
    → Ticks ticks key (Some session) new report
unfolding ticked_report
ticks-some ticks key session new heard report e r = record {
  senders = changed-some key (λ session. (session_ticked ticks session).0) session
      ∙ ap (λ step. entry key step.0) e;
  reports = reports-some ticks key session
      ∙ ap (λ step. reported session.number (heard_kind step.1)) e ∙ sym r;
}

ticked-due : (ticks : TimerTicks) (running : Running) (left : Option ℕ)
    → is_due (ticked left) ≡ true
    → session_ticked ticks (shown running left) ≡ session_fired ticks (shown running None)
unfolding session_ticked session_fired
ticked-due ticks running left d = rw d refl

ticked-not : (ticks : TimerTicks) (running : Running) (left : Option ℕ)
    → is_due (ticked left) ≡ false
    → session_ticked ticks
    (shown running left) ≡ (Some (shown running (ticked left)), heard.Nothing)
unfolding session_ticked
ticked-not ticks running left d = rw d refl

ticked-report : (ticks : TimerTicks) (running : Running) (left : Option ℕ)
    → is_due (ticked left) ≡ true
    → ticked_report ticks (shown running left) ≡ reported running.number
    (heard_kind (session_fired ticks (shown running None)).1)
unfolding ticked_report
ticked-report ticks running left d =
    ap (λ step. reported running.number (heard_kind step.1)) (ticked-due ticks running left d)

-- where the session's timer is due with a tick, the session that is left and the report are those
-- that the timer leads to
pub due-ticks : (ticks : TimerTicks) (key : SessionKey) (running new : Option Running)
    (left left' : Option ℕ) (report : Option Report) → is_due (ticked left) ≡ true
    → fired_session ticks (session_of running None) ≡ (session_of new left', report)
    → Ticks ticks key (session_of running left) (session_of new left') report
due-ticks ticks key None new left left' report d e = record {
  senders = changed-none key (λ session. (session_ticked ticks session).0)
      ∙ ap (λ step. entry key step.0) e;
  reports = reports-none ticks key ∙ ap (λ step. step.1) e;
}
due-ticks ticks key (Some running) new left left' report d e = record {
  senders = changed-some key (λ session. (session_ticked ticks session).0) (shown running left)
      ∙ ap (λ step. entry key step.0) (ticked-due ticks running left d)
      ∙ ap (λ step. entry key step.0) e;
  reports = reports-some ticks key (shown running left) ∙ ticked-report ticks running left d
      ∙ ap (λ step. step.1) e;
}

unless-not : (left : Option ℕ) → is_due left ≡ false → unless_due left ≡ left
unfolding unless_due
unless-not left d = rw d refl

-- where the session's timer isn't due with a tick, only that timer changes, and nothing is reported
pub not-ticks : (ticks : TimerTicks) (key : SessionKey) (running : Option Running)
    (left left' : Option ℕ) → is_due (ticked left) ≡ false → left' ≡ unless_due (ticked left)
    → Ticks ticks key (session_of running left) (session_of running left') None
not-ticks ticks key None left left' d l = record {
  senders = changed-none key (λ session. (session_ticked ticks session).0);
  reports = reports-none ticks key;
}
not-ticks ticks key (Some running) left left' d l =
    ticks-some ticks key (shown running left) (Some (shown running left')) heard.Nothing None
    (ticked-not ticks running left d
    ∙ ap (λ x. (Some (shown running x), heard.Nothing)) (sym (l ∙ unless-not (ticked left) d)))
    refl

-- a session whose timer isn't due with a tick is still the end's, its timer where it should run
pub not-keeps : (role : Role) (params : EndParams) (running : Option Running)
    (left left' : Option ℕ) → is_due (ticked left) ≡ false → left' ≡ unless_due (ticked left)
    → AreRunning role params running left → AreRunning role params running left'
not-keeps role params None left left' d l h = l ∙ unless-not (ticked left) d ∙ ap ticked h
not-keeps role params (Some running) left left' d l h =
    record {
      row = h.row;
      mtu = h.mtu;
      timed = ap is_armed (l ∙ unless-not (ticked left) d)
          ∙ ticked-armed left ∙ h.timed;
    }

-- a timer that is due with a tick isn't armed any more
pub due-gone : (left left' : Option ℕ) → is_due (ticked left) ≡ true
    → left' ≡ unless_due (ticked left) → left' ≡ None
unfolding unless_due
due-gone left left' d l = rw (l, d) refl

each-two : (role : Role) (answering silent answering' silent' : Reception)
    → reception_ticked answering ≡ answering' → reception_ticked silent ≡ silent'
    → each reception_ticked (receptions role answering silent) ≡ receptions role answering' silent'
unfolding each
each-two role answering silent answering' silent' a s = rw (a, s) refl

-- a tick of an end is one of its session and its timer, whose report it makes, and one of each
-- receiver and its timer
pub tick-is : (role : Role) (params : EndParams) (running running' : Option Running)
    (answering answering' silent silent' : Receiver) (next : ℕ) (clocks clocks' : ClocksData)
    (first second : Bool) (report : Option Report)
    → Ticks params.ticks (out_key role params.acked) (session_of running clocks.sending)
    (session_of running' clocks'.sending) report → answering' ≡ fired-if first answering
    → first ≡ is_due (ticked clocks.answering)
    → clocks'.answering ≡ unless_due (ticked clocks.answering) → silent' ≡ fired-if second silent
    → second ≡ is_due (ticked clocks.silent) → clocks'.silent ≡ unless_due (ticked clocks.silent)
    → tick_step
    (seen role params running answering silent next clocks) ≡ (
      seen role params running' answering'
          silent' next clocks',
      report,
    )
unfolding tick_step
tick-is role params running running' answering answering' silent silent' next clocks clocks' first
    second report t a fa la s fs ls =
    let both =
    each-two role (record { receiver = answering; left = clocks.answering })
    (record { receiver = silent; left = clocks.silent })
    (record { receiver = answering'; left = clocks'.answering })
    (record { receiver = silent'; left = clocks'.silent })
    (reception-is answering answering' clocks.answering clocks'.answering first a fa la)
    (reception-is silent silent' clocks.silent clocks'.silent second s fs ls) in
    rw (t.senders, t.reports, both) refl
