-- What an end gives at its slot while it sends a session, and while it takes one of the other end.
use Rattle.std.specs.List.{AllByRecursion}
use Rattle.std.proofs.Common.{◌≡◌, ℕ, Bool, true, false, not, if◌then◌else◌, List, [], ◌∷◌, Option}
use Rattle.std.proofs.Common.{Some, None, Result, Ok, Err, slice_get, refl, sym, ap, subst, ◌∙◌}
use Rattle.schc_bits.specs.Bits.{octets}
use Rattle.schc_ids.specs.declared.ends.Role.{Role}
use Rattle.schc_ids.specs.declared.ends.TimerTicks.{TimerTicks}
use Rattle.schc_ids.specs.declared.faults.WireFault.{WireFault}
use Rattle.schc_ids.specs.declared.phases.SenderPhase.TheVariants as phase
use Rattle.editions.specs.Data.{EditionData}
use Rattle.frag_wire.specs.Layouts.{payload_in}
use Rattle.frag_wire.specs.declared.message.Message.{Message}
use Rattle.sessions.specs.Data.{in_key, receptions, pick}
use Rattle.sessions.specs.Keys.{SessionKey, Entry, found, entry, put_in}
use Rattle.sessions.specs.Receivers.{receiver_due}
use Rattle.sessions.specs.Reception.{Reception, reception_taken}
use Rattle.sessions.specs.Senders.{sender_due, sender_phase}
use Rattle.sessions.specs.Session.{Session, session_heard}
use Rattle.sessions.specs.Steps.{with_session, with_reception, Choice, Idle, GivesAnswer}
use Rattle.sessions.specs.Steps.{GivesMessage, answer_or, answers_from, message_if, messages_from}
use Rattle.sessions.specs.Steps.{message_choice, choice, fragment_taken, fragment_read}
use Rattle.sessions.specs.Steps.{answer_taken, answer_read, busy_in, may_begin, new_session}
use Rattle.sessions.proofs.KeyLemmas.{found_own, put-own}
use Rattle.sessions.proofs.PortLemmas.{found-in, put-answering, put-silent}
use Rattle.lanes.specs.Rounds.{took_reading, heard_reading}
use Rattle.end_core.specs.Data.{EndData}
use Rattle.end_core.specs.End.{with_sessions, Turn, Serves, Sends, Begins, Rests, queue_turn}
use Rattle.end_core.specs.End.{turn_from, turn}
use Rattle.two_ends.specs.Happening.{Given, Answers, Goes, NoFrame, goes_if, chosen, begun}
use Rattle.two_ends.specs.Happening.{given_by}
use Rattle.two_ends.proofs.RestLemmas.{gives_of}

-- none of the receivers has an answer due
abbrev pub NoAnswers : List (Entry Reception) → Type 0
NoAnswers xs = AllByRecursion (λ x. receiver_due x.it.receiver ≡ None) xs

answers-none : (xs : List (Entry Reception)) (rest : Choice) → NoAnswers xs →
    answers_from xs rest ≡ rest
unfolding answers_from answer_or
answers-none [] rest k = refl
answers-none (x ∷ xs) rest k =
    ap (λ o. answer_or x.key x.it o (answers_from xs rest)) k.0 ∙ answers-none xs rest k.1

-- what an end gives where no answer is due
abbrev pub rest_of : EndData → Given
rest_of end = given_by end (turn_from end (message_choice end.sessions.senders))

-- where no receiver of the end has an answer due, what it gives comes of its sessions and its queue
pub no-answer : (end : EndData) → NoAnswers end.sessions.receivers → gives_of end ≡ rest_of end
unfolding turn choice
no-answer end k =
    ap (λ c. given_by end (turn_from end c))
    (answers-none end.sessions.receivers (message_choice end.sessions.senders) k)

-- an end that gives nothing has no answer due
answer-none : (end : EndData) (x : Entry Reception) (o : Option (List ℕ)) (rest : Choice) →
    given_by end (turn_from end (answer_or x.key x.it o rest)) ≡ NoFrame →
    (o ≡ None) × (given_by end (turn_from end rest) ≡ NoFrame)
unfolding answer_or turn_from given_by chosen
answer-none end x None rest e = (refl, e)
answer-none end x (Some bytes) rest e = absurd cc

none-due : (end : EndData) (xs : List (Entry Reception)) (rest : Choice) →
    given_by end (turn_from end (answers_from xs rest)) ≡ NoFrame →
    NoAnswers xs × (given_by end (turn_from end rest) ≡ NoFrame)
unfolding answers_from
none-due end [] rest e = (tt, e)
none-due end (x ∷ xs) rest e =
    let first = answer-none end x (receiver_due x.it.receiver) (answers_from xs rest) e in
    let more = none-due end xs rest first.1 in
    ((first.0, more.0), more.1)

-- an end that gives nothing at its slot has neither an answer due nor anything else
pub rested-silent : (end : EndData) → gives_of end ≡ NoFrame →
    NoAnswers end.sessions.receivers × (rest_of end ≡ NoFrame)
unfolding turn choice
rested-silent end e = none-due end end.sessions.receivers (message_choice end.sessions.senders) e

-- The end that sends: this session alone is under way or quiet, and nothing else is due.

-- the end has this session, by this key, and no other; nothing waits, and no receiver of it
-- has an answer due
pub record Speaks (id : SessionKey) (session : Session) (end : EndData) : Type 0 where
  pub senders : end.sessions.senders ≡ entry id (Some session)
  pub nothing_waits : end.queue ≡ []
  pub no_answers : NoAnswers end.sessions.receivers

sending-choice : (id : SessionKey) (session : Session) →
    sender_phase session.sender ≡ phase.Sending →
    message_choice (entry id (Some session)) ≡ GivesMessage id session (sender_due session.sender)
unfolding message_choice messages_from message_if entry
sending-choice id session e = rw e refl

quiet-choice : (id : SessionKey) (session : Session) → sender_phase session.sender ≡ phase.Quiet →
    message_choice (entry id (Some session)) ≡ Idle
unfolding message_choice messages_from message_if entry
quiet-choice id session e = rw e refl

message-given : (end : EndData) (id : SessionKey) (session : Session) (bytes : List ℕ) →
    given_by end (turn_from end (GivesMessage id session (Some bytes))) ≡ Goes id session bytes
unfolding turn_from given_by chosen goes_if
message-given end id session bytes = refl

-- the end that sends gives at its slot the message that the session has due, while it is sending
pub gives-message : (id : SessionKey) (session : Session) (end : EndData) (bytes : List ℕ) →
    Speaks id session end → sender_phase session.sender ≡ phase.Sending →
    sender_due session.sender ≡ Some bytes → gives_of end ≡ Goes id session bytes
gives-message id session end bytes k sending due =
    no-answer end k.no_answers
    ∙ ap (λ xs. given_by end (turn_from end (message_choice xs))) k.senders
    ∙ ap (λ c. given_by end (turn_from end c)) (sending-choice id session sending)
    ∙ ap (λ o. given_by end (turn_from end (GivesMessage id session o))) due
    ∙ message-given end id session bytes

-- an end at which nothing waits rests where no session has a message
idle-rests : (end : EndData) (b : Bool) → given_by end (if b then Rests else Rests) ≡ NoFrame
unfolding given_by
idle-rests end true = refl
idle-rests end false = refl

pub idle-nothing : (end : EndData) → end.queue ≡ [] → given_by end (turn_from end Idle) ≡ NoFrame
unfolding turn_from queue_turn
idle-nothing end e =
    ap (λ queue. given_by end
    (if busy_in end.sessions.senders then Rests else queue_turn end.params.mtu
    (may_begin end.sessions) (slice_get queue 0))) e
    ∙ idle-rests end (busy_in end.sessions.senders)

-- the end that sends gives nothing at its slot where the session is quiet
pub gives-nothing : (id : SessionKey) (session : Session) (end : EndData) → Speaks id session end →
    sender_phase session.sender ≡ phase.Quiet → gives_of end ≡ NoFrame
gives-nothing id session end k quiet =
    no-answer end k.no_answers
    ∙ ap (λ xs. given_by end (turn_from end (message_choice xs))) k.senders
    ∙ ap (λ c. given_by end (turn_from end c)) (quiet-choice id session quiet)
    ∙ idle-nothing end k.nothing_waits

-- it gave the message that was due
pub speaks-sent : (id : SessionKey) (session new : Session) (end : EndData) →
    Speaks id session end →
    Speaks id new (with_sessions end (with_session id (Some new) end.sessions))
speaks-sent id session new end k =
    record {
      senders = ap (put_in id (Some new)) k.senders ∙ put-own id (Some session) (Some new);
      nothing_waits = k.nothing_waits;
      no_answers = k.no_answers;
    }

-- it heard an answer
heard-taken : (id : SessionKey) (session : Session) (end : EndData) (message : Message)
    (ticks : TimerTicks) (o : Option Session) → o ≡ Some session →
    end.sessions.params.ticks ≡ ticks → Speaks id session end →
    Speaks id (session_heard ticks message session).0
    (with_sessions end (answer_taken end.sessions id message o).0)
unfolding answer_taken
heard-taken id session end message ticks None e same k = absurd cc
heard-taken id session end message ticks (Some other) e same k =
    subst (λ (s : Session). Speaks id s
    (with_sessions end
    (with_session id (Some (session_heard end.sessions.params.ticks message other).0)
    end.sessions)))
    (ap (λ o. (session_heard end.sessions.params.ticks message o).0) (the-same e)
    ∙ ap (λ t. (session_heard t message session).0) same)
    (speaks-sent id session (session_heard end.sessions.params.ticks message other).0 end k)
  where
    the-same : Some other ≡ Some session → other ≡ session
    the-same e = cc

-- the end that sends has, after an answer by the key, the session that has heard it, and
-- nothing else due
pub speaks-heard : (id : SessionKey) (session : Session) (end : EndData)
    (reading : Result Message WireFault) (ticks : TimerTicks) → end.sessions.params.ticks ≡ ticks →
    Speaks id session end →
    Speaks id (heard_reading ticks session reading).0
    (with_sessions end (answer_read end.sessions id reading).0)
unfolding answer_read heard_reading
speaks-heard id session end (Err fault) ticks same k = k
speaks-heard id session end (Ok message) ticks same k =
    heard-taken id session end message ticks (found id end.sessions.senders)
    (ap (found id) k.senders ∙ found_own id (Some session)) same k

-- The end that takes: the receiver of the key alone may have an answer due.

-- this reception is that of the other end's key, with answers or without; the end knows this
-- edition
pub record Listens (role : Role) (acked : Bool) (known : EditionData) (r : Reception)
    (end : EndData) : Type 0 where
  pub answering : Reception
  pub silent : Reception
  pub receivers : end.sessions.receivers ≡ receptions role answering silent
  pub picked : pick acked answering silent ≡ r
  pub other : receiver_due (pick (not acked) answering silent).receiver ≡ None
  pub rests : rest_of end ≡ NoFrame
  pub knows : end.known ≡ known

-- the end that takes has this reception by the key of what it takes
pub listens-found : (role : Role) (acked : Bool) (known : EditionData) (r : Reception)
    (end : EndData) → Listens role acked known r end →
    found (in_key role acked) end.sessions.receivers ≡ Some r
listens-found role acked known r end k =
    ap (found (in_key role acked)) k.receivers ∙ found-in role acked k.answering k.silent
    ∙ ap (λ p. Some p) k.picked

-- it gives the answer that is due
answer-first : (role : Role) (acked : Bool) (answering silent : Reception) (bytes : List ℕ)
    (rest : Choice) → receiver_due (pick acked answering silent).receiver ≡ Some bytes →
    receiver_due (pick (not acked) answering silent).receiver ≡ None →
    answers_from (receptions role answering silent) rest ≡
    GivesAnswer (in_key role acked) (pick acked answering silent) bytes
unfolding answers_from answer_or
answer-first role true answering silent bytes rest due none = rw due refl
answer-first role false answering silent bytes rest due none = rw (none, due) refl

answer-given : (end : EndData) (id : SessionKey) (r : Reception) (bytes : List ℕ) →
    given_by end (turn_from end (GivesAnswer id r bytes)) ≡ Answers id r bytes
unfolding turn_from given_by chosen
answer-given end id r bytes = refl

-- the end that takes gives at its slot the answer that the receiver has due
pub gives-answer : (role : Role) (acked : Bool) (known : EditionData) (r : Reception)
    (end : EndData) (bytes : List ℕ) → Listens role acked known r end →
    receiver_due r.receiver ≡ Some bytes → gives_of end ≡ Answers (in_key role acked) r bytes
unfolding turn choice
gives-answer role acked known r end bytes k due =
    ap (λ xs. given_by end (turn_from end (answers_from xs (message_choice end.sessions.senders))))
    k.receivers
    ∙ ap (λ c. given_by end (turn_from end c))
    (answer-first role acked k.answering k.silent bytes (message_choice end.sessions.senders)
    (ap (λ (x : Reception). receiver_due x.receiver) k.picked ∙ due) k.other)
    ∙ answer-given end (in_key role acked) (pick acked k.answering k.silent) bytes
    ∙ ap (λ x. Answers (in_key role acked) x bytes) k.picked

silent-both : (role : Role) (acked : Bool) (answering silent : Reception) →
    receiver_due (pick acked answering silent).receiver ≡ None →
    receiver_due (pick (not acked) answering silent).receiver ≡ None →
    NoAnswers (receptions role answering silent)
silent-both role true answering silent due none = (due, (none, tt))
silent-both role false answering silent due none = (none, (due, tt))

-- the end that takes gives nothing at its slot where the receiver has no answer due
pub gives-rest : (role : Role) (acked : Bool) (known : EditionData) (r : Reception)
    (end : EndData) → Listens role acked known r end → receiver_due r.receiver ≡ None →
    gives_of end ≡ NoFrame
gives-rest role acked known r end k due =
    no-answer end
    (subst NoAnswers (sym k.receivers)
    (silent-both role acked k.answering k.silent
    (ap (λ (x : Reception). receiver_due x.receiver) k.picked ∙ due) k.other))
    ∙ k.rests

-- what it gives else doesn't look at its receivers
rest-turn : (end : EndData) (id : SessionKey) (new : Reception) (c : Choice) →
    turn_from (with_sessions end (with_reception id new end.sessions)) c ≡ turn_from end c
unfolding turn_from may_begin
rest-turn end id new Idle = refl
rest-turn end id new (GivesAnswer key r bytes) = refl
rest-turn end id new (GivesMessage key session bytes) = refl

rest-given : (end : EndData) (id : SessionKey) (new : Reception) (t : Turn) →
    given_by (with_sessions end (with_reception id new end.sessions)) t ≡ given_by end t
unfolding given_by begun new_session
rest-given end id new (Serves c) = refl
rest-given end id new (Sends form) = refl
rest-given end id new (Begins form) = refl
rest-given end id new Rests = refl

pub rest-same : (end : EndData) (id : SessionKey) (new : Reception) →
    rest_of (with_sessions end (with_reception id new end.sessions)) ≡ rest_of end
rest-same end id new =
    rest-given end id new
    (turn_from (with_sessions end (with_reception id new end.sessions))
    (message_choice end.sessions.senders))
    ∙ ap (given_by end) (rest-turn end id new (message_choice end.sessions.senders))

-- its reception is another one now
pub listens-put : (role : Role) (acked : Bool) (known : EditionData) (r new : Reception)
    (end : EndData) → Listens role acked known r end →
    Listens role acked known new
    (with_sessions end (with_reception (in_key role acked) new end.sessions))
listens-put role true known r new end k =
    record {
      answering = new;
      silent = k.silent;
      receivers = ap (put_in (in_key role true) (Some new)) k.receivers
          ∙ put-answering role k.answering k.silent new;
      picked = refl;
      other = k.other;
      rests = rest-same end (in_key role true) new ∙ k.rests;
      knows = k.knows;
    }
listens-put role false known r new end k =
    record {
      answering = k.answering;
      silent = new;
      receivers = ap (put_in (in_key role false) (Some new)) k.receivers
          ∙ put-silent role k.answering k.silent new;
      picked = refl;
      other = k.other;
      rests = rest-same end (in_key role false) new ∙ k.rests;
      knows = k.knows;
    }

-- a message came
took-fragment : (role : Role) (acked : Bool) (known : EditionData) (r : Reception) (end : EndData)
    (message : Message) (bytes : List ℕ) (ticks : TimerTicks) (o : Option Reception) → o ≡ Some r →
    end.sessions.params.ticks ≡ ticks → Listens role acked known r end →
    Listens role acked known (reception_taken ticks message (payload_in message (octets bytes)) r).0
    (with_sessions end
    (fragment_taken end.sessions (in_key role acked) message (payload_in message (octets bytes))
    o).0)
unfolding fragment_taken
took-fragment role acked known r end message bytes ticks None e same k = absurd cc
took-fragment role acked known r end message bytes ticks (Some other) e same k =
    let payload = payload_in message (octets bytes) in
    subst (λ (x : Reception). Listens role acked known x
    (with_sessions end
    (with_reception (in_key role acked)
    (reception_taken end.sessions.params.ticks message payload other).0 end.sessions)))
    (ap (λ o. (reception_taken end.sessions.params.ticks message payload o).0) (the-same e)
    ∙ ap (λ t. (reception_taken t message payload r).0) same)
    (listens-put role acked known r
    (reception_taken end.sessions.params.ticks message payload other).0 end k)
  where
    the-same : Some other ≡ Some r → other ≡ r
    the-same e = cc

-- the end that takes has, after a message by the key, the receiver that has taken it
pub listens-took : (role : Role) (acked : Bool) (known : EditionData) (r : Reception)
    (end : EndData) (bytes : List ℕ) (reading : Result Message WireFault) (ticks : TimerTicks) →
    end.sessions.params.ticks ≡ ticks → Listens role acked known r end →
    Listens role acked known (took_reading ticks bytes r reading)
    (with_sessions end (fragment_read end.sessions (in_key role acked) bytes reading).0)
unfolding fragment_read took_reading
listens-took role acked known r end bytes (Err fault) ticks same k = k
listens-took role acked known r end bytes (Ok message) ticks same k =
    took-fragment role acked known r end message bytes ticks
    (found (in_key role acked) end.sessions.receivers) (listens-found role acked known r end k)
    same k
