-- What an end keeps of its sessions has the same form after each step: at most one session, by the
-- end's own key, and a receiver for each of the keys of the other end. What its choice promises.
use Rattle.std.proofs.Common.{◌≡◌, ℕ, Bool, true, false, List, [], ◌++◌, Option, Some, None, Result}
use Rattle.std.proofs.Common.{Ok, Err, refl, sym, ap, subst, ◌∙◌}
use Rattle.schc_ids.specs.declared.ends.EndParams.{EndParams}
use Rattle.schc_ids.specs.declared.ends.Role.{Role}
use Rattle.schc_ids.specs.declared.ends.Role.TheVariants.{Device, Gateway}
use Rattle.schc_ids.specs.declared.faults.WireFault.{WireFault}
use Rattle.schc_bits.specs.Bits.{octets}
use Rattle.schc_ids.specs.declared.fragments.FragParams.{FragParams}
use Rattle.schc_ids.specs.declared.fragments.Side.TheVariants as side
use Rattle.frag_wire.specs.Layouts.{payload_in}
use Rattle.frag_wire.specs.Spells.{reading_in}
use Rattle.frag_wire.specs.declared.message.Message.{Message}
use Rattle.lorawan_profile.specs.Ports.{meaning_of, IsSent}
use Rattle.lorawan_profile.specs.declared.ports.PortMeaning.{PortMeaning}
use Rattle.lorawan_profile.specs.declared.ports.PortMeaning.TheVariants.{Fragments, Answers, Whole}
use Rattle.lorawan_profile.specs.declared.ports.PortMeaning.TheVariants.{Unknown}
use Rattle.lorawan_profile.proofs.PortsLemmas.{IsSent-meaning_of}
use Rattle.sessions.specs.Data.{SessionsData, key_of, port_key, out_key, in_key, new_reception}
use Rattle.sessions.specs.Data.{receptions, pick, new_sessions}
use Rattle.sessions.specs.Keys.{SessionKey, Entry, same_key, found, entry, put_in, changed, each}
use Rattle.sessions.specs.Receivers.{receiver_due}
use Rattle.sessions.specs.Reception.{Reception, reception_ticked}
use Rattle.sessions.specs.Senders.{sender_due, sender_phase}
use Rattle.sessions.specs.Session.{Session, session_ticked}
use Rattle.sessions.specs.Steps.{with_session, with_reception, sends, begin_step, new_session}
use Rattle.sessions.specs.Steps.{Choice, Idle, GivesAnswer, GivesMessage, answer_or, answers_from}
use Rattle.sessions.specs.Steps.{message_if, is_closing, is_sending, messages_from, message_choice}
use Rattle.sessions.specs.Steps.{choice, next_from, fragment_taken, fragment_read, answer_taken}
use Rattle.sessions.specs.Steps.{answer_read, take_from, take_step, tick_step, aborted_from}
use Rattle.sessions.specs.Steps.{abort_step, next_number, may_begin, may_begin_in}
use Rattle.event_data.specs.declared.outcomes.EmitKind.{EmitKind}
use Rattle.sessions.proofs.KeyLemmas.{found_own, put-own}
use Rattle.sessions.proofs.PortLemmas.{found-in, put-answering, put-silent}

-- the form
pub record AreSessions (role : Role) (params : EndParams) (s : SessionsData) : Type 0 where
  pub session : Option Session
  pub answering : Reception
  pub silent : Reception
  pub its_role : s.role ≡ role
  pub its_params : s.params ≡ params
  pub senders : s.senders ≡ entry (out_key role params.acked) session
  pub receivers : s.receivers ≡ receptions role answering silent

-- the sessions of a new end have their form
pub are-new : (role : Role) (params : EndParams)
    → AreSessions role params (new_sessions role params)
unfolding entry
are-new role params =
    record {
      session = None;
      answering = new_reception role true;
      silent = new_reception role false;
      its_role = refl;
      its_params = refl;
      senders = refl;
      receivers = refl;
    }

-- the session of the end's own key, and a receiver
pub own-is : (role : Role) (params : EndParams) (s : SessionsData) → (k : AreSessions role params s)
    → found (out_key role params.acked) s.senders ≡ k.session
own-is role params s k = ap (found (out_key role params.acked)) k.senders
    ∙ found_own (out_key role params.acked) k.session

-- by a key of what the end takes, it has the receiver that answers, or the one that
-- doesn't, as the key is
pub in-is : (role : Role) (params : EndParams) (s : SessionsData) (acked : Bool)
    → (k : AreSessions role params s)
    → found (in_key role acked) s.receivers ≡ Some (pick acked k.answering k.silent)
in-is role params s acked k = ap (found (in_key role acked)) k.receivers
    ∙ found-in role acked k.answering k.silent

-- an end's sessions keep their form where another one, or none, is put by the end's own key
pub with-session : (role : Role) (params : EndParams) (s : SessionsData) (key : SessionKey)
    (new : Option Session) → key ≡ out_key role params.acked → AreSessions role params s
    → AreSessions role params (with_session key new s)
with-session role params s key new e k =
    record {
      session = new;
      answering = k.answering;
      silent = k.silent;
      its_role = k.its_role;
      its_params = k.its_params;
      senders =
          ap (λ i. put_in i new s.senders) e ∙ ap (put_in (out_key role params.acked) new) k.senders
          ∙ put-own (out_key role params.acked) k.session new;
      receivers = k.receivers;
    }

received : (role : Role) (params : EndParams) (s : SessionsData) (acked : Bool) (new : Reception)
    → AreSessions role params s → AreSessions role params (with_reception (in_key role acked) new s)
received role params s true new k =
    record {
      session = k.session;
      answering = new;
      silent = k.silent;
      its_role = k.its_role;
      its_params = k.its_params;
      senders = k.senders;
      receivers = ap (put_in (in_key role true) (Some new)) k.receivers
          ∙ put-answering role k.answering k.silent new;
    }
received role params s false new k =
    record {
      session = k.session;
      answering = k.answering;
      silent = new;
      its_role = k.its_role;
      its_params = k.its_params;
      senders = k.senders;
      receivers = ap (put_in (in_key role false) (Some new)) k.receivers
          ∙ put-silent role k.answering k.silent new;
    }

-- an end's sessions keep their form where another receiver is put by a key of what the end takes
pub with-reception : (role : Role) (params : EndParams) (s : SessionsData) (key : SessionKey)
    (acked : Bool) (new : Reception) → key ≡ in_key role acked → AreSessions role params s
    → AreSessions role params (with_reception key new s)
with-reception role params s key acked new e k =
    subst (λ i. AreSessions role params (with_reception i new s)) (sym e)
    (received role params s acked new k)

-- What a choice promises.

-- the choice is an answer that a receiver of the end has due, or what the session by its own key
-- has due; or it is idle
abbrev pub IsChoiceOf : Role → EndParams → List (Entry Session) → List (Entry Reception) → Choice
    → Type 0
IsChoiceOf role params senders receivers Idle = Unit {0}
IsChoiceOf role params senders receivers (GivesAnswer key reception bytes) =
    (acked : Bool) × (key ≡ in_key role acked) × (found key receivers ≡ Some reception)
    × (receiver_due reception.receiver ≡ Some bytes)
IsChoiceOf role params senders receivers (GivesMessage key session bytes) =
    (key ≡ out_key role params.acked) × (found key senders ≡ Some session)
    × (sender_due session.sender ≡ bytes)

module _ (role : Role) (params : EndParams) (receivers : List (Entry Reception)) where
  message-if : (key : SessionKey) (senders : List (Entry Session)) (x : Session) (b : Bool)
      (rest : Choice) → key ≡ out_key role params.acked → found key senders ≡ Some x
      → IsChoiceOf role params senders receivers rest
      → IsChoiceOf role params senders receivers (message_if b key x rest)
  unfolding message_if
  message-if key senders x true rest e f k = (e, f, refl)
  message-if key senders x false rest e f k = k

  message-is : (o : Option Session)
      → IsChoiceOf role params (entry (out_key role params.acked) o) receivers
      (message_choice (entry (out_key role params.acked) o))
  unfolding message_choice messages_from entry
  message-is None = tt
  message-is (Some x) =
      let key : SessionKey = out_key role params.acked in
      message-if key (entry key (Some x)) x (is_closing (sender_phase x.sender)) _ refl
      (found_own key (Some x))
      (message-if key (entry key (Some x)) x (is_sending (sender_phase x.sender)) Idle refl
      (found_own key (Some x)) tt)

answer-or : (role : Role) (params : EndParams) (senders : List (Entry Session))
    (receivers : List (Entry Reception)) (acked : Bool) (r : Reception) (o : Option (List ℕ))
    (rest : Choice) → found (in_key role acked) receivers ≡ Some r → receiver_due r.receiver ≡ o
    → IsChoiceOf role params senders receivers rest
    → IsChoiceOf role params senders receivers (answer_or (in_key role acked) r o rest)
unfolding answer_or
answer-or role params senders receivers acked r None rest f e k = k
answer-or role params senders receivers acked r (Some bytes) rest f e k = (acked, refl, f, e)

answers-are : (role : Role) (params : EndParams) (senders : List (Entry Session)) (a b : Reception)
    (rest : Choice) → IsChoiceOf role params senders (receptions role a b) rest
    → IsChoiceOf role params senders (receptions role a b) (answers_from (receptions role a b) rest)
unfolding answers_from
answers-are role params senders a b rest k =
    answer-or role params senders (receptions role a b) true a (receiver_due a.receiver) _
    (found-in role true a b) refl
    (answer-or role params senders (receptions role a b) false b (receiver_due b.receiver) rest
    (found-in role false a b) refl k)

-- what an end's sessions choose to give is such a choice, where they have their form
pub choice-is : (role : Role) (params : EndParams) (s : SessionsData) → AreSessions role params s
    → IsChoiceOf role params s.senders s.receivers (choice s)
unfolding choice
choice-is role params s k =
    subst (λ xs. IsChoiceOf role params s.senders xs (answers_from xs (message_choice s.senders)))
    (sym k.receivers)
    (subst (λ xs. IsChoiceOf role params xs (receptions role k.answering k.silent)
    (answers_from (receptions role k.answering k.silent) (message_choice xs))) (sym k.senders)
    (answers-are role params (entry (out_key role params.acked) k.session) k.answering k.silent _
    (message-is role params (receptions role k.answering k.silent) k.session)))

-- a session may begin where there is none
pub may-begin : (role : Role) (params : EndParams) (s : SessionsData) → AreSessions role params s
    → may_begin s ≡ true → found (out_key role params.acked) s.senders ≡ None
unfolding may_begin may_begin_in
may-begin role params s k e =
    none-of (found (out_key role params.acked) s.senders)
    (subst (λ b. may_begin_in (found (out_key role b.acked) s.senders) ≡ true) k.its_params
    (subst (λ r. may_begin_in (found (out_key r s.params.acked) s.senders) ≡ true) k.its_role e))
  where
    none-of : (o : Option Session) → may_begin_in o ≡ true → o ≡ None
    none-of None e = refl
    none-of (Some x) e = absurd cc

-- Steps.

sends-keeps : (role : Role) (params : EndParams) (s : SessionsData) (key : SessionKey)
    (session : Session) (kind : EmitKind) (o : Option (List ℕ)) → key ≡ out_key role params.acked
    → AreSessions role params s → AreSessions role params (sends s key session kind o).0
unfolding sends
sends-keeps role params s key session kind None e k = k
sends-keeps role params s key session kind (Some bytes) e k = with-session role params s key _ e k

-- an end's sessions keep their form where such a choice is given
pub next-keeps : (role : Role) (params : EndParams) (s : SessionsData) (c : Choice)
    → IsChoiceOf role params s.senders s.receivers c → AreSessions role params s
    → AreSessions role params (next_from s c).0
unfolding next_from
next-keeps role params s Idle is k = k
next-keeps role params s (GivesAnswer key reception bytes) is k =
    with-reception role params s key is.0 _ is.1 k
next-keeps role params s (GivesMessage key session bytes) is k =
    sends-keeps role params s key session _ bytes is.0 k

more : (role : Role) (params : EndParams) (s : SessionsData) (number : ℕ)
    → AreSessions role params s → AreSessions role params (record s { next = number })
more role params s number k =
    record {
      session = k.session;
      answering = k.answering;
      silent = k.silent;
      its_role = k.its_role;
      its_params = k.its_params;
      senders = k.senders;
      receivers = k.receivers;
    }

-- where an end's sessions have their form, the key by which it sends is that of its role
-- and parameters
pub own-key : (role : Role) (params : EndParams) (s : SessionsData) → AreSessions role params s
    → out_key s.role s.params.acked ≡ out_key role params.acked
own-key role params s k = ap (λ r. out_key r s.params.acked) k.its_role
    ∙ ap (λ (p : EndParams). out_key role p.acked) k.its_params

-- an end's sessions keep their form where a session begins
pub begin-keeps : (role : Role) (params : EndParams) (s : SessionsData) (bits : List Bool)
    → AreSessions role params s → AreSessions role params (begin_step bits s).0
unfolding begin_step
begin-keeps role params s bits k =
    sends-keeps role params (record s { next = next_number s.next }) (out_key s.role s.params.acked)
    (new_session bits s) _ _ (own-key role params s k)
    (more role params s (next_number s.next) k)

fragment-keeps : (role : Role) (params : EndParams) (s : SessionsData) (key : SessionKey)
    (acked : Bool) (bytes : List ℕ) (reading : Result Message WireFault) → key ≡ in_key role acked
    → AreSessions role params s → AreSessions role params (fragment_read s key bytes reading).0
unfolding fragment_read fragment_taken
fragment-keeps role params s key acked bytes (Err fault) e k = k
fragment-keeps role params s key acked bytes (Ok message) e k = taken (found key s.receivers)
  where
    taken : (o : Option Reception)
        → AreSessions role params
        (fragment_taken s key message (payload_in message (octets bytes)) o).0
    taken None = k
    taken (Some reception) = with-reception role params s key acked _ e k

answer-keeps : (role : Role) (params : EndParams) (s : SessionsData) (key : SessionKey)
    (reading : Result Message WireFault) → key ≡ out_key role params.acked
    → AreSessions role params s → AreSessions role params (answer_read s key reading).0
unfolding answer_read answer_taken
answer-keeps role params s key (Err fault) e k = k
answer-keeps role params s key (Ok message) e k = taken (found key s.senders)
  where
    taken : (o : Option Session) → AreSessions role params (answer_taken s key message o).0
    taken None = k
    taken (Some session) = with-session role params s key _ e k

-- an answer to what this end doesn't send finds no session
unanswered : (role : Role) (params : EndParams) (s : SessionsData) (key : SessionKey)
    (reading : Result Message WireFault) → found key s.senders ≡ None → AreSessions role params s
    → AreSessions role params (answer_read s key reading).0
unfolding answer_read answer_taken
unanswered role params s key (Err fault) e k = k
unanswered role params s key (Ok message) e k =
    subst (λ o. AreSessions role params (answer_taken s key message o).0) (sym e) k

other-own : (role : Role) (o : Option Session)
    → found (out_key role true) (entry (out_key role false) o) ≡ None
unfolding found entry same_key
other-own Device None = refl
other-own Device (Some x) = refl
other-own Gateway None = refl
other-own Gateway (Some x) = refl

heard-keeps : (role : Role) (params : EndParams) (s : SessionsData) (acked : Bool)
    (reading : Result Message WireFault) → params.acked ≡ acked → AreSessions role params s
    → AreSessions role params (answer_read s (out_key role true) reading).0
heard-keeps role params s true reading e k =
    answer-keeps role params s (out_key role true) reading (ap (out_key role) (sym e)) k
heard-keeps role params s false reading e k =
    unanswered role params s (out_key role true) reading
    (ap (found (out_key role true)) (k.senders ∙ ap (λ a. entry (out_key role a) k.session) e)
    ∙ other-own role k.session) k

take-from-keeps : (role : Role) (params : EndParams) (s : SessionsData) (port : ℕ) (bytes : List ℕ)
    (meaning : PortMeaning) → IsSent role port meaning → AreSessions role params s
    → AreSessions role params (take_from s (port_key port) bytes meaning).0
unfolding take_from
take-from-keeps role params s port bytes (Fragments frag) sent k =
    fragment-keeps role params s (port_key port) sent.0 bytes _
    (ap (λ p. record { port = p; tag = 0 }) (sym (ap (λ w. w.0) sent.1))) k
take-from-keeps role params s port bytes (Answers frag) sent k =
    subst (λ i. AreSessions role params
    (answer_read s i (reading_in frag.mode side.Answers bytes)).0)
    (ap (λ (w : ℕ × FragParams). key_of w) sent)
    (heard-keeps role params s params.acked _ refl k)
take-from-keeps role params s port bytes Whole sent k = k
take-from-keeps role params s port bytes Unknown sent k = k

-- an end's sessions keep their form where bytes come, whatever they are and by whatever port
pub take-keeps : (role : Role) (params : EndParams) (s : SessionsData) (port : ℕ) (bytes : List ℕ)
    → AreSessions role params s → AreSessions role params (take_step port bytes s).0
unfolding take_step
take-keeps role params s port bytes k =
    take-from-keeps role params s port bytes (meaning_of s.role port)
    (subst (λ r. IsSent role port (meaning_of r port)) (sym k.its_role)
    (IsSent-meaning_of role port)) k

-- a tick
abbrev pub then : {A : Type 0} → (A → Option A) → Option A → Option A
then f None = None
then f (Some x) = f x

changed-one : {A : Type 0} (key : SessionKey) (o : Option A) → entry key o ++ [] ≡ entry key o
unfolding entry
changed-one key None = refl
changed-one key (Some y) = refl

-- where there is one entry or none, a change of the values leaves the changed one by the
-- same key, or none
pub changed-own : {A : Type 0} (f : A → Option A) (key : SessionKey) (o : Option A)
    → changed f (entry key o) ≡ entry key (then f o)
unfolding changed entry
changed-own f key None = refl
changed-own f key (Some x) = changed-one key (f x)

pub each-both : (f : Reception → Reception) (role : Role) (a b : Reception)
    → each f (receptions role a b) ≡ receptions role (f a) (f b)
unfolding each
each-both f role a b = refl

-- an end's sessions keep their form where a tick passes
pub tick-keeps : (role : Role) (params : EndParams) (s : SessionsData) → AreSessions role params s
    → AreSessions role params (tick_step s).0
unfolding tick_step
tick-keeps role params s k =
    record {
      session = then (λ session. (session_ticked s.params.ticks session).0) k.session;
      answering = reception_ticked k.answering;
      silent = reception_ticked k.silent;
      its_role = k.its_role;
      its_params = k.its_params;
      senders =
          ap (changed (λ session. (session_ticked s.params.ticks session).0)) k.senders
          ∙ changed-own (λ session. (session_ticked s.params.ticks session).0)
          (out_key role params.acked) k.session;
      receivers = ap (each reception_ticked) k.receivers
          ∙ each-both reception_ticked role k.answering k.silent;
    }

aborted-keeps : (role : Role) (params : EndParams) (s : SessionsData) (key : SessionKey)
    (o : Option Session) → key ≡ out_key role params.acked → AreSessions role params s
    → AreSessions role params (aborted_from s key o).0
unfolding aborted_from
aborted-keeps role params s key None e k = k
aborted-keeps role params s key (Some session) e k = with-session role params s key _ e k

-- an end's sessions keep their form where the end gives up the one that it sends
pub abort-keeps : (role : Role) (params : EndParams) (s : SessionsData) → AreSessions role params s
    → AreSessions role params (abort_step s).0
unfolding abort_step
abort-keeps role params s k =
    aborted-keeps role params s (out_key s.role s.params.acked)
    (found (out_key s.role s.params.acked) s.senders) (own-key role params s k) k
