-- What is given next.
use Rattle.std.specs.Prelude.{ℕ, ◌≡◌, ◌⊎◌, Bool, true, false, List, [], ◌∷◌, Option, Some, None}
use Rattle.std.specs.Prelude.{option_map, Result, Ok, Err, IfOk, OnOk, OnErr, IfSome, IfNone}
use Rattle.std.proofs.Common.{refl, sym, ap, subst, inl, inr, ◌∙◌}
use Rattle.schc_ids.specs.declared.ends.EndParams.{EndParams}
use Rattle.schc_ids.specs.declared.ends.Role.{Role}
use Rattle.schc_ids.specs.declared.ends.TimerTicks.{TimerTicks}
use Rattle.schc_ids.specs.declared.phases.SenderPhase.{SenderPhase}
use Rattle.schc_ids.specs.declared.phases.SenderPhase.TheVariants.{Sending, Waiting, Closing, Quiet}
use Rattle.event_data.specs.declared.outcomes.EmitKind.{EmitKind}
use Rattle.event_data.specs.declared.outcomes.EmitKind.TheVariants as kind
use Rattle.sessions.specs.Clocks.{ClocksData}
use Rattle.sessions.specs.Data.{SessionsData, seen, shown, session_of, receptions, in_key}
use Rattle.sessions.specs.Keys.{SessionKey, Entry, entry, put_in}
use Rattle.sessions.specs.Receivers.{receiver_due, receiver_answered}
use Rattle.sessions.specs.Reception.{Reception, reception_answered}
use Rattle.sessions.specs.Senders.{sender_due, sender_sent, sender_phase}
use Rattle.sessions.specs.Sends.{IsNext}
use Rattle.sessions.specs.Session.{Session, session_sent, sent_report}
use Rattle.sessions.specs.Steps.{Choice, Idle, GivesAnswer, GivesMessage, given, sends, answer_or}
use Rattle.sessions.specs.Steps.{answers_from, message_if, messages_from, message_choice, choice}
use Rattle.sessions.specs.Steps.{next_from, next_step}
use Rattle.sessions.specs.declared.moves.Running.{Running}
use Rattle.sessions.specs.declared.out.SessionOut.{SessionOut}
use Rattle.sessions.specs.declared.receivers.Receiver.{Receiver}
use Rattle.sessions.proofs.KeyLemmas.{put-own}
use Rattle.sessions.proofs.MoveLemmas.{still-after}
use Rattle.sessions.proofs.SenderLemmas.{sent-still}
use Rattle.sessions.proofs.PortLemmas.{put-answering, put-silent}

-- The message of the session.

abbrev with-senders : SessionsData → List (Entry Session) → SessionsData
with-senders s senders = record s { senders = senders }

-- what holds of a list holds of the senders
next-at : (ticks : TimerTicks) (key : SessionKey) (old new : Option Session)
    (out : Option SessionOut)
    → ((s : SessionsData) → s.params.ticks ≡ ticks
    → next_from (with-senders s (entry key old))
    (message_choice (entry key old)) ≡ (with-senders s (entry key new), out))
    → IsNext ticks key old new out
next-at ticks key old new out core s t e =
    subst (λ x. next_from (with-senders s x)
    (message_choice x) ≡ (with-senders s (entry key new), out)) (sym e) (core s t)

next-none : (key : SessionKey) (s : SessionsData)
    → next_from (with-senders s (entry key None))
    (message_choice (entry key None)) ≡ (with-senders s (entry key None), None)
unfolding entry message_choice messages_from next_from
next-none key s = refl

-- an end that has no session gives no message of one, and changes nothing
pub next_none : (ticks : TimerTicks) (key : SessionKey) (running : Option Running) (left : Option ℕ)
    → running ≡ None → IsNext ticks key (session_of running left) (session_of running left) None
next_none ticks key running left r =
    subst (λ x. IsNext ticks key (session_of x left) (session_of x left) None) (sym r)
    (next-at ticks key None None None (λ s t. next-none key s))

choice-waiting : (key : SessionKey) (session : Session) (p : SenderPhase)
    → sender_phase session.sender ≡ p → (p ≡ Waiting) ⊎ (p ≡ Quiet)
    → message_choice (entry key (Some session)) ≡ Idle
unfolding entry message_choice messages_from message_if
choice-waiting key session p e (inl w) = rw (e ∙ w) refl
choice-waiting key session p e (inr w) = rw (e ∙ w) refl

choice-sending : (key : SessionKey) (session : Session) (p : SenderPhase)
    → sender_phase session.sender ≡ p → (p ≡ Sending) ⊎ (p ≡ Closing)
    → message_choice (entry key (Some session)) ≡ GivesMessage key session
    (sender_due session.sender)
unfolding entry message_choice messages_from message_if
choice-sending key session p e (inl w) = rw (e ∙ w) refl
choice-sending key session p e (inr w) = rw (e ∙ w) refl

next-idle : (s : SessionsData) → next_from s Idle ≡ (s, None)
unfolding next_from
next-idle s = refl

-- a session that waits or is quiet gives no message, and is kept as it is
pub next-waiting : (ticks : TimerTicks) (key : SessionKey) (running : Option Running)
    (session : Running) (left : Option ℕ) (p : SenderPhase) → running ≡ Some session
    → p ≡ sender_phase session.sender → (p ≡ Waiting) ⊎ (p ≡ Quiet)
    → IsNext ticks key (session_of running left) (Some (shown session left)) None
next-waiting ticks key running session left p r e w =
    let x : Session = shown session left in
    let core =
    next-at ticks key (Some x) (Some x) None
    (λ s t. ap (next_from (with-senders s (entry key (Some x))))
    (choice-waiting key x p (sym e) w) ∙ next-idle (with-senders s (entry key (Some x)))) in
    subst (λ o. IsNext ticks key (session_of o left) (Some x) None) (sym r) core

still-session : (ticks : TimerTicks) (session : Session) → sender_due session.sender ≡ None
    → session_sent ticks session ≡ session
still-session ticks session d =
    sym (still-after ticks session.number session.sender (sender_sent session.sender) session.left
    refl d) ∙ ap (λ x. shown (record { number = session.number; sender = x }) session.left)
    (sent-still session.sender d)

sends-due : (s : SessionsData) (key : SessionKey) (session : Session) (k : EmitKind)
    (due : Option (List ℕ)) (out : Option SessionOut) → sender_due session.sender ≡ due
    → out ≡ option_map (λ bytes. given key bytes k (sent_report session)) due
    → sends (with-senders s (entry key (Some session))) key session k
    due ≡ (with-senders s (entry key (Some (session_sent s.params.ticks session))), out)
unfolding sends
sends-due s key session k None out d o = rw (o, still-session s.params.ticks session d) refl
sends-due s key session k (Some bytes) out d o =
    rw (o, put-own key (Some session) (Some (session_sent s.params.ticks session))) refl

next-message : (s : SessionsData) (key : SessionKey) (session : Session) (due : Option (List ℕ))
    → next_from s (GivesMessage key session due) ≡ sends s key session (kind.Goes session.number)
    due
unfolding next_from
next-message s key session due = refl

-- a session that is sending or closing gives the message that is due, and is kept as after that
pub next-sending : (ticks : TimerTicks) (key : SessionKey) (running : Option Running)
    (old new : Running) (left left' : Option ℕ) (p : SenderPhase) (out : Option SessionOut)
    → running ≡ Some old → p ≡ sender_phase old.sender → (p ≡ Sending) ⊎ (p ≡ Closing)
    → out ≡ option_map
    (λ bytes. given key bytes (kind.Goes old.number) (sent_report (shown old left)))
    (sender_due old.sender) → shown new left' ≡ session_sent ticks (shown old left)
    → IsNext ticks key (session_of running left) (Some (shown new left')) out
next-sending ticks key running old new left left' p out r e w o a =
    let x : Session = shown old left in
    let step : (s : SessionsData) → s.params.ticks ≡ ticks
    → next_from (with-senders s (entry key (Some x)))
    (message_choice (entry key (Some x))) ≡ (
      with-senders s
          (entry key (Some (shown new left'))),
      out,
    ) =
    λ s t.
    ap (next_from (with-senders s (entry key (Some x)))) (choice-sending key x p (sym e) w)
    ∙ next-message (with-senders s (entry key (Some x))) key x (sender_due x.sender)
    ∙ sends-due s key x (kind.Goes x.number) (sender_due x.sender) out refl o
    ∙ ap (λ y. (with-senders s (entry key (Some (session_sent y x))), out)) t
    ∙ ap (λ y. (with-senders s (entry key (Some y)), out)) (sym a) in
    subst (λ q. IsNext ticks key (session_of q left) (Some (shown new left')) out) (sym r)
    (next-at ticks key (Some x) (Some (shown new left')) out step)

-- The answers.

-- an answer that is due of the receiver that answers is given, whatever else is due
pub answer-first : (role : Role) (params : EndParams) (running : Option Running)
    (answering silent : Receiver) (next : ℕ) (clocks : ClocksData) (bytes : List ℕ)
    → receiver_due answering ≡ Some bytes → (rest : Choice)
    → next_from (seen role params running answering silent next clocks)
    (answers_from (seen role params running answering silent next clocks).receivers rest) ≡ (
      seen
          role params running (receiver_answered answering) silent next clocks,
      Some
          (given (in_key role true) bytes kind.Answers None),
    )
unfolding next_from answers_from answer_or reception_answered
answer-first role params running answering silent next clocks bytes d rest =
    rw (
      d,
      put-answering role (record { receiver = answering; left = clocks.answering })
          (record { receiver = silent; left = clocks.silent })
          (record { receiver = receiver_answered answering; left = clocks.answering }),
    ) refl

-- where the receiver that answers has none due, an answer that is due of the other one is given
pub answer-second : (role : Role) (params : EndParams) (running : Option Running)
    (answering silent : Receiver) (next : ℕ) (clocks : ClocksData) (bytes : List ℕ)
    → receiver_due answering ≡ None → receiver_due silent ≡ Some bytes → (rest : Choice)
    → next_from (seen role params running answering silent next clocks)
    (answers_from (seen role params running answering silent next clocks).receivers rest) ≡ (
      seen
          role params running answering (receiver_answered silent) next clocks,
      Some
          (given (in_key role false) bytes kind.Answers None),
    )
unfolding next_from answers_from answer_or reception_answered
answer-second role params running answering silent next clocks bytes n d rest =
    rw (
      n,
      d,
      put-silent role (record { receiver = answering; left = clocks.answering })
          (record { receiver = silent; left = clocks.silent })
          (record { receiver = receiver_answered silent; left = clocks.silent }),
    ) refl

-- where neither receiver has an answer due, what is given next is chosen among the rest
pub no-answer : (role : Role) (params : EndParams) (running : Option Running)
    (answering silent : Receiver) (next : ℕ) (clocks : ClocksData) → receiver_due answering ≡ None
    → receiver_due silent ≡ None → (rest : Choice)
    → answers_from (seen role params running answering silent next clocks).receivers rest ≡ rest
unfolding answers_from answer_or
no-answer role params running answering silent next clocks n d rest = rw (n, d) refl

-- an answer that is given whatever else is due is what the end gives next
pub next-answer : (s t : SessionsData) (out : SessionOut)
    → ((rest : Choice) → next_from s (answers_from s.receivers rest) ≡ (t, Some out))
    → next_step s ≡ (t, Some out)
unfolding next_step choice
next-answer s t out h = h (message_choice s.senders)

-- where no answer is due, the end gives next what its session gives, if anything
pub next_message : (s : SessionsData) (t : SessionsData × Option SessionOut)
    → ((rest : Choice) → answers_from s.receivers rest ≡ rest)
    → next_from s (message_choice s.senders) ≡ t → next_step s ≡ t
unfolding next_step choice
next_message s t n h = ap (next_from s) (n (message_choice s.senders)) ∙ h

-- what holds of the value of an Ok, and what holds because there is an Ok, hold together
pub both-ok : {T E : Type 0} (P : T → Type 0) (Q : Type 0) (r : Result T E) → IfOk r P → OnOk r Q
    → IfOk r (λ x. P x × Q)
both-ok P Q (Ok x) p q = (p, q)
both-ok P Q (Err e) p q = tt

-- what holds anyway holds where the result is an error
pub on-err-of : {T E : Type 0} {Q : Type 0} (r : Result T E) → Q → OnErr r Q
on-err-of (Ok x) q = tt
on-err-of (Err e) q = q

-- what holds of the value, if there is one, holds of the one that is there
pub some-of : {T : Type 0} (o : Option T) (P : T → Type 0) (x : T) → o ≡ Some x → IfSome o P → P x
some-of o P x e h = subst (λ o. IfSome o P) e h

-- what holds if there is no value holds where there is none
pub none-of : {T : Type 0} (o : Option T) (P : Type 0) → o ≡ None → IfNone o P → P
none-of o P e h = subst (λ o. IfNone o P) e h
