-- The steps of an end, of what it keeps.
use Rattle.std.specs.Prelude.{ℕ, ◌≡◌, ◌⊎◌, ◌==◌, ◌++◌, Bool, true, false, if◌then◌else◌, List, []}
use Rattle.std.specs.Prelude.{◌∷◌, Option, Some, None, option_map, Result, Ok, Err}
use Rattle.std.proofs.Common.{refl, sym, ap, subst, inl, inr, ◌∙◌}
use Rattle.schc_bits.specs.Bits.{octets}
use Rattle.schc_ids.specs.Ends.{other_role}
use Rattle.schc_ids.specs.declared.ends.EndParams.{EndParams}
use Rattle.schc_ids.specs.declared.ends.Role.{Role}
use Rattle.schc_ids.specs.declared.ends.Role.TheVariants.{Device, Gateway}
use Rattle.schc_ids.specs.declared.ends.TimerTicks.{TimerTicks}
use Rattle.schc_ids.specs.declared.faults.WireFault.{WireFault}
use Rattle.schc_ids.specs.declared.fragments.FragParams.{FragParams}
use Rattle.schc_ids.specs.declared.fragments.Side.TheVariants as side
use Rattle.schc_ids.specs.declared.notes.Cause.TheVariants.{UnknownPort, Wire}
use Rattle.schc_ids.specs.declared.notes.Heard.{Heard}
use Rattle.schc_ids.specs.declared.notes.Note.{Note}
use Rattle.schc_ids.specs.declared.notes.Note.TheVariants as note
use Rattle.schc_ids.specs.declared.notes.Report.{Report}
use Rattle.schc_ids.specs.declared.phases.SenderPhase.{SenderPhase}
use Rattle.schc_ids.specs.declared.phases.SenderPhase.TheVariants as phase
use Rattle.event_data.specs.declared.outcomes.EmitKind.{EmitKind}
use Rattle.event_data.specs.declared.outcomes.EmitKind.TheVariants as kind
use Rattle.frag_wire.specs.Layouts.{payload_in}
use Rattle.frag_wire.specs.Spells.{reading_in}
use Rattle.frag_wire.specs.declared.message.Message.{Message}
use Rattle.lorawan_profile.specs.Ports.{sending_of, meaning_of}
use Rattle.lorawan_profile.specs.declared.ports.PortMeaning.{PortMeaning}
use Rattle.lorawan_profile.specs.declared.ports.PortMeaning.TheVariants.{Fragments, Answers, Whole}
use Rattle.lorawan_profile.specs.declared.ports.PortMeaning.TheVariants.{Unknown}
use Rattle.timers.specs.Timers.{ticked, is_due}
use Rattle.sessions.specs.Clocks.{ClocksData, unless_due, all_ticked, cleared}
use Rattle.sessions.specs.Data.{SessionsData, seen, shown, session_of, receptions, in_key, out_key}
use Rattle.sessions.specs.Data.{port_key}
use Rattle.sessions.specs.Keys.{SessionKey, Entry, same_key, found, entry, put_in, changed, each}
use Rattle.sessions.specs.Receivers.{receiver_phase, receiver_due, receiver_answered}
use Rattle.sessions.specs.Receivers.{receiver_previewed}
use Rattle.sessions.specs.Reception.{Reception, reception_taken, reception_answered}
use Rattle.sessions.specs.Reception.{reception_ticked, reception_fired, receiver_fired}
use Rattle.sessions.specs.Senders.{sender_begun, sender_due, sender_phase}
use Rattle.sessions.specs.Sends.{IsNext}
use Rattle.sessions.specs.Session.{Session, session_sent, sent_report, session_moved, session_heard}
use Rattle.sessions.specs.Session.{session_aborted, session_fired, session_ticked, fired_in}
use Rattle.sessions.specs.Session.{heard_note, heard_kind, reported}
use Rattle.sessions.specs.Steps.{Choice, Idle, GivesAnswer, GivesMessage, given, sends, new_session}
use Rattle.sessions.specs.Steps.{next_number, begin_step, answer_or, answers_from, message_if}
use Rattle.sessions.specs.Steps.{messages_from, message_choice, next_from, fragment_taken}
use Rattle.sessions.specs.Steps.{fragment_read, answer_taken, answer_read, take_from, take_step}
use Rattle.sessions.specs.Steps.{fragment_previewed, read_previewed, preview_from, preview_of}
use Rattle.sessions.specs.Steps.{tick_step, ticked_report, fired_session, or_else, reports_from}
use Rattle.sessions.specs.Steps.{aborted_from, abort_step, may_begin, may_begin_in}
use Rattle.sessions.specs.declared.moves.Running.{Running}
use Rattle.sessions.specs.declared.out.SessionOut.{SessionOut}
use Rattle.sessions.specs.declared.receivers.Receiver.{Receiver}
use Rattle.sessions.proofs.KeyLemmas.{found_own, put-own, found-other}
use Rattle.sessions.proofs.PortLemmas.{found-in, put-answering, put-silent}

-- The session is given up.

-- an end that has no session is as before when it is told to abort, and reports nothing
pub abort-none : (role : Role) (params : EndParams) (running : Option Running)
    (answering silent : Receiver) (next : ℕ) (clocks : ClocksData) → running ≡ None
    → abort_step
    (seen role params running answering silent next clocks) ≡ (
      seen role params running answering
          silent next clocks,
      None,
    )
unfolding abort_step aborted_from
abort-none role params running answering silent next clocks r =
    rw (found_own (out_key role params.acked) (session_of running clocks.sending), r) refl

aborted-number : (ticks : TimerTicks) (session new : Session) (heard : Heard)
    → session_aborted ticks session ≡ (new, heard) → session.number ≡ new.number
unfolding session_aborted session_moved
aborted-number ticks session new heard e = ap (λ step. step.0.number) e

abort-core : (role : Role) (params : EndParams) (session : Session) (new : Running)
    (answering silent : Receiver) (next : ℕ) (clocks : ClocksData) (left : Option ℕ) (heard : Heard)
    → session_aborted params.ticks session ≡ (shown new left, heard)
    → aborted_from
    (record {
      role = role;
      params = params;
      senders =
          entry (out_key role params.acked) (Some session);
      receivers =
          receptions role (record { receiver = answering; left = clocks.answering })
          (record { receiver = silent; left = clocks.silent });
      next = next;
    }) (out_key role params.acked)
    (Some session) ≡ (
      seen role params (Some new) answering silent next
          (record clocks { sending = left }),
      reported session.number (heard_kind heard),
    )
unfolding aborted_from
abort-core role params session new answering silent next clocks left heard e =
    rw (e, put-own (out_key role params.acked) (Some session) (Some (shown new left))) refl

-- to abort changes the session and its timer alone, with a report where the session fails by it
pub abort-some : (role : Role) (params : EndParams) (running : Option Running) (old new : Running)
    (answering silent : Receiver) (next : ℕ) (clocks clocks' : ClocksData) (heard : Heard)
    (report : Option Report) → running ≡ Some old
    → session_aborted params.ticks (shown old clocks.sending) ≡ (shown new clocks'.sending, heard)
    → clocks' ≡ record clocks { sending = clocks'.sending }
    → report ≡ reported new.number (heard_kind heard)
    → abort_step
    (seen role params running answering silent next clocks) ≡ (
      seen role params (Some new) answering
          silent next clocks',
      report,
    )
unfolding abort_step
abort-some role params running old new answering silent next clocks clocks' heard report r e o p =
    let number =
    aborted-number params.ticks (shown old clocks.sending) (shown new clocks'.sending) heard e
    in
    let core =
    abort-core role params (shown old clocks.sending) new answering silent next clocks
    clocks'.sending heard e in
    let all = core
    ∙ ap (λ n. (
      seen role params (Some new) answering silent next
          (record clocks { sending = clocks'.sending }),
      reported n (heard_kind heard),
    )) number
    ∙ ap (λ x. (
      seen role params (Some new) answering silent next
          (record clocks { sending = clocks'.sending }),
      x,
    )) (sym p)
    ∙ ap (λ x. (seen role params (Some new) answering silent next x, report)) (sym o) in
    rw (r, found_own (out_key role params.acked) (Some (shown old clocks.sending))) all

-- An answer.

own-other : (role : Role) → same_key (out_key role true) (out_key role false) ≡ false
unfolding same_key
own-other Device = refl
own-other Gateway = refl

unanswered-found : (role : Role) (acked : Bool) (session : Option Session) → acked ≡ false
    → found (out_key role true) (entry (out_key role acked) session) ≡ None
unanswered-found role acked session a =
    rw a (found-other (out_key role true) (out_key role false) session (own-other role))

-- an answer to an end that sends without answers is a remnant, and changes nothing
pub hear-unanswered : (role : Role) (params : EndParams) (running : Option Running)
    (answering silent : Receiver) (next : ℕ) (clocks : ClocksData) (message : Message)
    → params.acked ≡ false
    → answer_taken (seen role params running answering silent next clocks) (out_key role true)
    message (found (out_key role true)
    (seen role params running answering silent next clocks).senders) ≡ (
      seen role params running
          answering silent next clocks,
      (note.Remnant, None),
    )
unfolding answer_taken
hear-unanswered role params running answering silent next clocks message a =
    rw (unanswered-found role params.acked (session_of running clocks.sending) a) refl

answered-found : (role : Role) (acked : Bool) (session : Option Session) → acked ≡ true
    → found (out_key role true) (entry (out_key role acked) session) ≡ session
answered-found role acked session a = rw a (found_own (out_key role true) session)

-- an answer to an end that has no session under way is a remnant, and changes nothing
pub hear-none : (role : Role) (params : EndParams) (running : Option Running)
    (answering silent : Receiver) (next : ℕ) (clocks : ClocksData) (message : Message)
    → params.acked ≡ true → running ≡ None
    → answer_taken (seen role params running answering silent next clocks) (out_key role true)
    message (found (out_key role true)
    (seen role params running answering silent next clocks).senders) ≡ (
      seen role params running
          answering silent next clocks,
      (note.Remnant, None),
    )
unfolding answer_taken
hear-none role params running answering silent next clocks message a r =
    rw (answered-found role params.acked (session_of running clocks.sending) a, r) refl

heard-number : (ticks : TimerTicks) (message : Message) (session new : Session) (heard : Heard)
    → session_heard ticks message session ≡ (new, heard) → session.number ≡ new.number
unfolding session_heard session_moved
heard-number ticks message session new heard e = ap (λ step. step.0.number) e

heard-put : (role : Role) (acked : Bool) (old new : Option Session) → acked ≡ true
    → put_in (out_key role true) new (entry (out_key role acked) old) ≡ entry (out_key role acked)
    new
heard-put role acked old new a = rw a (put-own (out_key role true) old new)

hear-core : (role : Role) (params : EndParams) (message : Message) (session : Session)
    (new : Running) (answering silent : Receiver) (next : ℕ) (clocks : ClocksData) (left : Option ℕ)
    (heard : Heard) → params.acked ≡ true
    → session_heard params.ticks message session ≡ (shown new left, heard)
    → answer_taken
    (record {
      role = role;
      params = params;
      senders =
          entry (out_key role params.acked) (Some session);
      receivers =
          receptions role (record { receiver = answering; left = clocks.answering })
          (record { receiver = silent; left = clocks.silent });
      next = next;
    }) (out_key role true) message
    (Some session) ≡ (
      seen role params (Some new) answering silent next
          (record clocks { sending = left }),
      (heard_note heard, reported session.number (heard_kind heard)),
    )
unfolding answer_taken
hear-core role params message session new answering silent next clocks left heard a e =
    rw (e, heard-put role params.acked (Some session) (Some (shown new left)) a) refl

-- where an end that sends with answers has a session, an answer is a step of that and its timer
-- alone, is noted as what it meant, and is reported where the session ends by it
pub hear-some : (role : Role) (params : EndParams) (running : Option Running) (old new : Running)
    (answering silent : Receiver) (next : ℕ) (clocks clocks' : ClocksData) (message : Message)
    (heard : Heard) (meaning : Note) (report : Option Report) → params.acked ≡ true
    → running ≡ Some old
    → session_heard params.ticks message
    (shown old clocks.sending) ≡ (shown new clocks'.sending, heard)
    → clocks' ≡ record clocks { sending = clocks'.sending } → meaning ≡ heard_note heard
    → report ≡ reported new.number (heard_kind heard)
    → answer_taken (seen role params running answering silent next clocks) (out_key role true)
    message (found (out_key role true)
    (seen role params running answering silent next clocks).senders) ≡ (
      seen role params (Some new)
          answering silent next clocks',
      (meaning, report),
    )
hear-some role params running old new answering silent next clocks clocks' message heard meaning
    report a r e o m p =
    let number =
    heard-number params.ticks message (shown old clocks.sending) (shown new clocks'.sending)
    heard e in
    let core =
    hear-core role params message (shown old clocks.sending) new answering silent next clocks
    clocks'.sending heard a e in
    let all = core
    ∙ ap (λ n. (
      seen role params (Some new) answering silent next
          (record clocks { sending = clocks'.sending }),
      (heard_note heard, reported n (heard_kind heard)),
    )) number
    ∙ ap (λ x. (
      seen role params (Some new) answering silent next
          (record clocks { sending = clocks'.sending }),
      (heard_note heard, x),
    )) (sym p)
    ∙ ap (λ x. (
      seen role params (Some new) answering silent next
          (record clocks { sending = clocks'.sending }),
      (x, report),
    )) (sym m)
    ∙ ap (λ x. (seen role params (Some new) answering silent next x, (meaning, report))) (sym o)
    in
    rw (r, answered-found role params.acked (Some (shown old clocks.sending)) a) all

-- A fragment.

receive-answering : (role : Role) (params : EndParams) (running : Option Running)
    (answering silent new : Receiver) (next : ℕ) (clocks : ClocksData) (left : Option ℕ)
    (message : Message) (payload : List Bool) (meaning : Note)
    → reception_taken params.ticks message payload
    (record { receiver = answering; left = clocks.answering }) ≡ (
      record
          { receiver = new; left = left },
      meaning,
    )
    → fragment_taken (seen role params running answering silent next clocks) (in_key role true)
    message payload
    (found (in_key role true)
    (seen role params running answering silent next clocks).receivers) ≡ (
      seen role params running
          new silent next (record clocks { answering = left }),
      meaning,
    )
unfolding fragment_taken
receive-answering role params running answering silent new next clocks left message payload meaning
    e =
    rw (
      found-in role true (record { receiver = answering; left = clocks.answering })
          (record { receiver = silent; left = clocks.silent }),
      e,
      put-answering role
          (record { receiver = answering; left = clocks.answering })
          (record { receiver = silent; left = clocks.silent })
          (record { receiver = new; left = left }),
    ) refl

receive-silent : (role : Role) (params : EndParams) (running : Option Running)
    (answering silent new : Receiver) (next : ℕ) (clocks : ClocksData) (left : Option ℕ)
    (message : Message) (payload : List Bool) (meaning : Note)
    → reception_taken params.ticks message payload
    (record { receiver = silent; left = clocks.silent }) ≡ (
      record { receiver = new; left = left },
      meaning,
    )
    → fragment_taken (seen role params running answering silent next clocks) (in_key role false)
    message payload
    (found (in_key role false)
    (seen role params running answering silent next clocks).receivers) ≡ (
      seen role params running
          answering new next (record clocks { silent = left }),
      meaning,
    )
unfolding fragment_taken
receive-silent role params running answering silent new next clocks left message payload meaning e =
    rw (
      found-in role false (record { receiver = answering; left = clocks.answering })
          (record { receiver = silent; left = clocks.silent }),
      e,
      put-silent role
          (record { receiver = answering; left = clocks.answering })
          (record { receiver = silent; left = clocks.silent })
          (record { receiver = new; left = left }),
    ) refl

-- an answered fragment is taken by the receiver that answers, and changes that and its timer alone
pub receive_answering : (role : Role) (params : EndParams) (running : Option Running)
    (answering silent new : Receiver) (next : ℕ) (clocks clocks' : ClocksData) (message : Message)
    (payload : List Bool) (meaning : Note) (acked : Bool) → acked ≡ true
    → reception_taken params.ticks message payload
    (record { receiver = answering; left = clocks.answering }) ≡ (
      record
          { receiver = new; left = clocks'.answering },
      meaning,
    )
    → clocks' ≡ record clocks { answering = clocks'.answering }
    → fragment_taken (seen role params running answering silent next clocks) (in_key role acked)
    message payload
    (found (in_key role acked)
    (seen role params running answering silent next clocks).receivers) ≡ (
      seen role params running
          new silent next clocks',
      meaning,
    )
receive_answering role params running answering silent new next clocks clocks' message payload
    meaning acked a e o =
    rw a (receive-answering role params running answering silent new next clocks clocks'.answering
    message payload meaning e
    ∙ ap (λ x. (seen role params running new silent next x, meaning)) (sym o))

-- a fragment without answers is taken by the silent receiver, and changes that and its timer alone
pub receive_silent : (role : Role) (params : EndParams) (running : Option Running)
    (answering silent new : Receiver) (next : ℕ) (clocks clocks' : ClocksData) (message : Message)
    (payload : List Bool) (meaning : Note) (acked : Bool) → acked ≡ false
    → reception_taken params.ticks message payload
    (record { receiver = silent; left = clocks.silent }) ≡ (
      record
          { receiver = new; left = clocks'.silent },
      meaning,
    )
    → clocks' ≡ record clocks { silent = clocks'.silent }
    → fragment_taken (seen role params running answering silent next clocks) (in_key role acked)
    message payload
    (found (in_key role acked)
    (seen role params running answering silent next clocks).receivers) ≡ (
      seen role params running
          answering new next clocks',
      meaning,
    )
receive_silent role params running answering silent new next clocks clocks' message payload meaning
    acked a e o =
    rw a (receive-silent role params running answering silent new next clocks clocks'.silent message
    payload meaning e
    ∙ ap (λ x. (seen role params running answering new next x, meaning)) (sym o))

-- A frame, as it is read.

-- bytes that are read as a message of the other end do what it does to the receiver of their port
pub fragment-ok : (s : SessionsData) (t : SessionsData × Note) (port : ℕ) (params : FragParams)
    (acked answered : Bool) (bytes : List ℕ) (message : Message) (read : Result Message WireFault)
    → sending_of (other_role s.role) acked ≡ (port, params) → answered ≡ acked
    → read ≡ reading_in params.mode side.Fragments bytes → read ≡ Ok message
    → fragment_taken s (in_key s.role answered) message (payload_in message (octets bytes))
    (found (in_key s.role answered) s.receivers) ≡ t
    → fragment_read s (port_key port) bytes (reading_in params.mode side.Fragments bytes) ≡ t
unfolding fragment_read
fragment-ok s t port params acked answered bytes message read w a r o e =
    let key : in_key s.role answered ≡ port_key port = ap (λ b. in_key s.role b) a
    ∙ ap (λ way. port_key way.0) w in
    rw (sym r ∙ o)
    (subst (λ key. fragment_taken s key message (payload_in message (octets bytes))
    (found key s.receivers) ≡ t) key e)

-- bytes that are no fragment are refused with the fault of reading them, and change nothing
pub fragment-err : (s : SessionsData) (port : ℕ) (params : FragParams) (bytes : List ℕ)
    (fault : WireFault) (read : Result Message WireFault)
    → read ≡ reading_in params.mode side.Fragments bytes → read ≡ Err fault
    → fragment_read s (port_key port) bytes
    (reading_in params.mode side.Fragments bytes) ≡ (s, note.Refused (Wire fault))
unfolding fragment_read
fragment-err s port params bytes fault read r o = rw (sym r ∙ o) refl

-- bytes that are read as an answer do what that answer does to the session of the key
pub answer-ok : (s : SessionsData) (t : SessionsData × (Note × Option Report)) (key : SessionKey)
    (params : FragParams) (bytes : List ℕ) (message : Message) (read : Result Message WireFault)
    → read ≡ reading_in params.mode side.Answers bytes → read ≡ Ok message
    → answer_taken s key message (found key s.senders) ≡ t
    → answer_read s key (reading_in params.mode side.Answers bytes) ≡ t
unfolding answer_read
answer-ok s t key params bytes message read r o e = rw (sym r ∙ o) e

-- bytes that are no answer are refused with the fault of reading them, without report or change
pub answer-err : (s : SessionsData) (key : SessionKey) (params : FragParams) (bytes : List ℕ)
    (fault : WireFault) (read : Result Message WireFault)
    → read ≡ reading_in params.mode side.Answers bytes → read ≡ Err fault
    → answer_read s key
    (reading_in params.mode side.Answers bytes) ≡ (s, (note.Refused (Wire fault), None))
unfolding answer_read
answer-err s key params bytes fault read r o = rw (sym r ∙ o) refl

-- a frame by a port of fragments does what the fragment does, and reports no end of a session
pub take-fragments : (s t : SessionsData) (port : ℕ) (params : FragParams) (bytes : List ℕ)
    (meaning : Note) (means : PortMeaning) → means ≡ meaning_of s.role port
    → means ≡ Fragments params
    → fragment_read s (port_key port) bytes
    (reading_in params.mode side.Fragments bytes) ≡ (t, meaning)
    → take_step port bytes s ≡ (t, (meaning, None))
unfolding take_step take_from
take-fragments s t port params bytes meaning means m f e = rw (sym m ∙ f, e) refl

-- a frame by a port of answers does what the answer does to the session that goes by that port
pub take-answers : (s : SessionsData) (t : SessionsData × (Note × Option Report)) (port : ℕ)
    (params : FragParams) (bytes : List ℕ) (means : PortMeaning) → means ≡ meaning_of s.role port
    → means ≡ Answers params → sending_of s.role true ≡ (port, params)
    → answer_read s (out_key s.role true) (reading_in params.mode side.Answers bytes) ≡ t
    → take_step port bytes s ≡ t
unfolding take_step take_from
take-answers s t port params bytes means m f w e =
    rw (sym m ∙ f)
    (subst (λ key. answer_read s key (reading_in params.mode side.Answers bytes) ≡ t)
    (ap (λ way. port_key way.0) w) e)

take-whole : (s : SessionsData) (port : ℕ) (bytes : List ℕ) (means : PortMeaning)
    → means ≡ meaning_of s.role port → means ≡ Whole
    → take_step port bytes s ≡ (s, (note.Refused UnknownPort, None))
unfolding take_step take_from
take-whole s port bytes means m f = rw (sym m ∙ f) refl

take-unknown : (s : SessionsData) (port : ℕ) (bytes : List ℕ) (means : PortMeaning)
    → means ≡ meaning_of s.role port → means ≡ Unknown
    → take_step port bytes s ≡ (s, (note.Refused UnknownPort, None))
unfolding take_step take_from
take-unknown s port bytes means m f = rw (sym m ∙ f) refl

-- a frame by a port of whole packets, or by an unknown one, is refused and changes nothing
pub take-neither : (s : SessionsData) (port : ℕ) (bytes : List ℕ) (means : PortMeaning)
    → means ≡ meaning_of s.role port → (means ≡ Whole) ⊎ (means ≡ Unknown)
    → take_step port bytes s ≡ (s, (note.Refused UnknownPort, None))
take-neither s port bytes means m (inl f) = take-whole s port bytes means m f
take-neither s port bytes means m (inr f) = take-unknown s port bytes means m f

-- A preview.

-- the preview of an answered fragment is that of the receiver that answers
pub preview-answering : (role : Role) (params : EndParams) (running : Option Running)
    (answering silent : Receiver) (next : ℕ) (clocks : ClocksData) (s : SessionsData) (acked : Bool)
    (message : Message) (payload : List Bool)
    → seen role params running answering silent next clocks ≡ s → acked ≡ true
    → receiver_previewed message payload answering ≡ fragment_previewed message payload
    (found (in_key s.role acked) s.receivers)
unfolding fragment_previewed
preview-answering role params running answering silent next clocks s acked message payload v a =
    subst (λ s. receiver_previewed message payload answering ≡ fragment_previewed message payload
    (found (in_key s.role acked) s.receivers)) v
    (rw (
      a,
      found-in role true (record { receiver = answering; left = clocks.answering })
          (record { receiver = silent; left = clocks.silent }),
    ) refl)

-- the preview of a fragment without answers is that of the silent receiver
pub preview-silent : (role : Role) (params : EndParams) (running : Option Running)
    (answering silent : Receiver) (next : ℕ) (clocks : ClocksData) (s : SessionsData) (acked : Bool)
    (message : Message) (payload : List Bool)
    → seen role params running answering silent next clocks ≡ s → acked ≡ false
    → receiver_previewed message payload silent ≡ fragment_previewed message payload
    (found (in_key s.role acked) s.receivers)
unfolding fragment_previewed
preview-silent role params running answering silent next clocks s acked message payload v a =
    subst (λ s. receiver_previewed message payload silent ≡ fragment_previewed message payload
    (found (in_key s.role acked) s.receivers)) v
    (rw (
      a,
      found-in role false (record { receiver = answering; left = clocks.answering })
          (record { receiver = silent; left = clocks.silent }),
    ) refl)

-- the preview of bytes that are read as a fragment is that of it at the receiver of the port
pub preview-ok : (s : SessionsData) (port : ℕ) (params : FragParams) (acked answered : Bool)
    (bytes : List ℕ) (message : Message) (read : Result Message WireFault)
    → sending_of (other_role s.role) acked ≡ (port, params) → answered ≡ acked
    → read ≡ reading_in params.mode side.Fragments bytes → read ≡ Ok message
    → fragment_previewed message (payload_in message (octets bytes))
    (found (in_key s.role answered) s.receivers) ≡ read_previewed s (port_key port) bytes
    (reading_in params.mode side.Fragments bytes)
unfolding read_previewed
preview-ok s port params acked answered bytes message read w a r o =
    let key : in_key s.role answered ≡ port_key port = ap (λ b. in_key s.role b) a
    ∙ ap (λ way. port_key way.0) w in
    rw (sym r ∙ o)
    (ap (λ key. fragment_previewed message (payload_in message (octets bytes))
    (found key s.receivers)) key)

-- the preview of bytes that are no fragment gives no bits
pub preview-err : (s : SessionsData) (port : ℕ) (params : FragParams) (bytes : List ℕ)
    (fault : WireFault) (read : Result Message WireFault)
    → read ≡ reading_in params.mode side.Fragments bytes → read ≡ Err fault
    → None ≡ read_previewed s (port_key port) bytes (reading_in params.mode side.Fragments bytes)
unfolding read_previewed
preview-err s port params bytes fault read r o = rw (sym r ∙ o) refl

-- the preview of a frame by a port of fragments is that of the fragment as which it is read
pub preview-fragments : (s : SessionsData) (port : ℕ) (params : FragParams) (bytes : List ℕ)
    (means : PortMeaning) → means ≡ meaning_of s.role port → means ≡ Fragments params
    → read_previewed s (port_key port) bytes
    (reading_in params.mode side.Fragments bytes) ≡ preview_of port bytes s
unfolding preview_of preview_from
preview-fragments s port params bytes means m f = rw (sym m ∙ f) refl

-- fragments don't come by the port
preview-from : (s : SessionsData) (key : SessionKey) (bytes : List ℕ) (means : PortMeaning)
    → ((params : FragParams) → means ≡ Fragments params → ⊥) → None ≡ preview_from s key bytes means
unfolding preview_from
preview-from s key bytes (Fragments params) h = absurd (h params refl)
preview-from s key bytes (Answers params) h = refl
preview-from s key bytes Whole h = refl
preview-from s key bytes Unknown h = refl

-- the preview of a frame gives no bits where no fragments come by its port
pub preview-other : (s : SessionsData) (port : ℕ) (bytes : List ℕ) (means : PortMeaning)
    → means ≡ meaning_of s.role port → ((params : FragParams) → means ≡ Fragments params → ⊥)
    → None ≡ preview_of port bytes s
unfolding preview_of
preview-other s port bytes means m h =
    subst (λ x. None ≡ preview_from s (port_key port) bytes x) m
    (preview-from s (port_key port) bytes means h)
