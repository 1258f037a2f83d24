-- What an end's turn comes to, by what its sessions give.
use Rattle.std.proofs.Common.{◌≡◌, ℕ, Bool, true, false, ◌||◌, List, [], ◌∷◌, Option, Some, None}
use Rattle.std.proofs.Common.{cond, refl, sym, ap, subst, ◌∙◌}
use Rattle.std.proofs.lemmas.Bool.{true≢false}
use Rattle.schc_ids.specs.declared.phases.SenderPhase.{SenderPhase}
use Rattle.schc_ids.specs.declared.phases.SenderPhase.TheVariants as phase
use Rattle.sessions.specs.Data.{SessionsData}
use Rattle.sessions.specs.Keys.{SessionKey, Entry}
use Rattle.sessions.specs.Receivers.{receiver_due}
use Rattle.sessions.specs.Reception.{Reception}
use Rattle.sessions.specs.Senders.{sender_phase}
use Rattle.sessions.specs.Session.{Session}
use Rattle.sessions.specs.Steps.{Choice, Idle, GivesAnswer, GivesMessage, is_closing, is_sending}
use Rattle.sessions.specs.Steps.{is_open, sends, answer_or, answers_from, message_if, messages_from}
use Rattle.sessions.specs.Steps.{message_choice, choice, next_from, next_step, busy_in}
use Rattle.sessions.specs.declared.out.SessionOut.{SessionOut}
use Rattle.event_data.specs.declared.outcomes.EmitKind.{EmitKind}
use Rattle.event_data.specs.declared.outcomes.EmitKind.TheVariants as kind
use Rattle.end_core.specs.Data.{EndData}
use Rattle.end_core.specs.End.{with_sessions, emitted_out, Serves, Rests, first_turn, turn_from}
use Rattle.end_core.specs.End.{turn, gives, slot_from, slot_step}

-- a message is due only of a session that is sending or closing, so that one is busy
or-true : (a b : Bool) → a ≡ true → (a || b) ≡ true
or-true true b e = refl
or-true false b e = absurd (true≢false (sym e))

or-right : (a b : Bool) → b ≡ true → (a || b) ≡ true
or-right true b e = refl
or-right false b e = e

abbrev IsBusyChoice : List (Entry Session) → Choice → Type 0
IsBusyChoice senders Idle = Unit {0}
IsBusyChoice senders (GivesAnswer key reception bytes) = Unit {0}
IsBusyChoice senders (GivesMessage key session bytes) = busy_in senders ≡ true

if-busy : (all : List (Entry Session)) (b : Bool) (key : SessionKey) (session : Session)
    (rest : Choice) → (b ≡ true → busy_in all ≡ true)
    → IsBusyChoice all rest → IsBusyChoice all (message_if b key session rest)
unfolding message_if
if-busy all true key session rest busy h = busy refl
if-busy all false key session rest busy h = h

messages-busy : (stands : SenderPhase → Bool) (all : List (Entry Session)) (rest : Choice)
    → ((p : SenderPhase) → stands p ≡ true → is_open p ≡ true)
    → IsBusyChoice all rest → (xs : List (Entry Session)) → (busy_in xs ≡ true → busy_in all ≡ true)
    → IsBusyChoice all (messages_from stands xs rest)
unfolding messages_from busy_in
messages-busy stands all rest opens h [] up = h
messages-busy stands all rest opens h (x ∷ xs) up =
    if-busy all (stands (sender_phase x.it.sender)) x.key x.it (messages_from stands xs rest)
    (λ e. up
    (or-true (is_open (sender_phase x.it.sender)) (busy_in xs)
    (opens (sender_phase x.it.sender) e)))
    (messages-busy stands all rest opens h xs
    (λ e. up (or-right (is_open (sender_phase x.it.sender)) (busy_in xs) e)))

closing-open : (p : SenderPhase) → is_closing p ≡ true → is_open p ≡ true
closing-open phase.Sending e = refl
closing-open phase.Waiting e = refl
closing-open phase.Closing e = refl
closing-open phase.Quiet e = absurd (true≢false (sym e))

sending-open : (p : SenderPhase) → is_sending p ≡ true → is_open p ≡ true
sending-open phase.Sending e = refl
sending-open phase.Waiting e = refl
sending-open phase.Closing e = refl
sending-open phase.Quiet e = absurd (true≢false (sym e))

message_choice-busy : (senders : List (Entry Session))
    → IsBusyChoice senders (message_choice senders)
unfolding message_choice
message_choice-busy senders =
    messages-busy is_closing senders (messages_from is_sending senders Idle) closing-open
    (messages-busy is_sending senders Idle sending-open tt senders (λ e. e)) senders (λ e. e)

answer-busy : (senders : List (Entry Session)) (key : SessionKey) (reception : Reception)
    (due : Option (List ℕ)) (rest : Choice) → IsBusyChoice senders rest
    → IsBusyChoice senders (answer_or key reception due rest)
unfolding answer_or
answer-busy senders key reception None rest h = h
answer-busy senders key reception (Some bytes) rest h = tt

answers-busy : (senders : List (Entry Session)) (rest : Choice) → IsBusyChoice senders rest
    → (xs : List (Entry Reception)) → IsBusyChoice senders (answers_from xs rest)
unfolding answers_from
answers-busy senders rest h [] = h
answers-busy senders rest h (x ∷ xs) =
    answer-busy senders x.key x.it (receiver_due x.it.receiver) (answers_from xs rest)
    (answers-busy senders rest h xs)

choice-busy : (s : SessionsData) → IsBusyChoice s.senders (choice s)
unfolding choice
choice-busy s =
    answers-busy s.senders (message_choice s.senders) (message_choice-busy s.senders) s.receivers

-- where nothing is given, the sessions stay as they are
none-some : {A : Type 0} {a : A} → Some a ≡ None → ⊥
none-some e = absurd cc

idle-gives : (s t : SessionsData) (out : SessionOut) → next_from s Idle ≡ (t, Some out) → ⊥
unfolding next_from
idle-gives s t out e = none-some (sym (ap (λ x. x.1) e))

answer-gives : (s t : SessionsData) (key : SessionKey) (reception : Reception) (bytes : List ℕ)
    → next_from s (GivesAnswer key reception bytes) ≡ (t, None) → ⊥
unfolding next_from
answer-gives s t key reception bytes e = none-some (ap (λ x. x.1) e)

sends-none : (s t : SessionsData) (key : SessionKey) (session : Session) (kind : EmitKind)
    (bytes : Option (List ℕ)) → sends s key session kind bytes ≡ (t, None) → t ≡ s
unfolding sends
sends-none s t key session kind None e = sym (ap (λ x. x.0) e)
sends-none s t key session kind (Some bytes) e = absurd (none-some (ap (λ x. x.1) e))

choice-none : (s t : SessionsData) (given : Choice) → next_from s given ≡ (t, None) → t ≡ s
unfolding next_from
choice-none s t Idle e = sym (ap (λ x. x.0) e)
choice-none s t (GivesAnswer key reception bytes) e = absurd (none-some (ap (λ x. x.1) e))
choice-none s t (GivesMessage key session bytes) e =
    sends-none s t key session (kind.Goes session.number) bytes e

pub next-none : (s t : SessionsData) → next_step s ≡ (t, None) → t ≡ s
unfolding next_step
next-none s t e = choice-none s t (choice s) e

-- and so does the end
pub slot-same : (end : EndData) (t : SessionsData) → next_step end.sessions ≡ (t, None)
    → with_sessions end t ≡ end
slot-same end t e = ap (with_sessions end) (next-none end.sessions t e)

given-cases : (end : EndData) (t : SessionsData) (out : SessionOut) (c : Choice)
    → next_from end.sessions c ≡ (t, Some out)
    → slot_from end (turn_from end c) ≡ (with_sessions end t, Some (emitted_out out))
unfolding slot_from turn_from
given-cases end t out Idle e = absurd (idle-gives end.sessions t out e)
given-cases end t out (GivesAnswer key reception bytes) e = ap (gives end) e
given-cases end t out (GivesMessage key session bytes) e = ap (gives end) e

-- what the sessions give next is what the end gives
pub slot-given : (end : EndData) (t : SessionsData) (out : SessionOut)
    → next_step end.sessions ≡ (t, Some out)
    → slot_step end ≡ (with_sessions end t, Some (emitted_out out))
unfolding slot_step turn next_step
slot-given end t out e = given-cases end t out (choice end.sessions) e

served-none : (end : EndData) (t : SessionsData) (c : Choice) → next_from end.sessions c ≡ (t, None)
    → slot_from end (Serves c) ≡ (end, None)
unfolding slot_from
served-none end t c e = ap (gives end) e
    ∙ ap (λ s. (with_sessions end s, None)) (choice-none end.sessions t c e)

rests-if : (end : EndData) (b : Bool) → b ≡ true
    → slot_from end (cond b Rests (first_turn end)) ≡ (end, None)
unfolding slot_from
rests-if end true e = refl
rests-if end false e = absurd (true≢false (sym e))

busy-cases : (end : EndData) (t : SessionsData) (c : Choice) → next_from end.sessions c ≡ (t, None)
    → busy_in end.sessions.senders ≡ true
    → slot_from end (turn_from end c) ≡ (end, None)
unfolding turn_from
busy-cases end t Idle e busy = rests-if end (busy_in end.sessions.senders) busy
busy-cases end t (GivesAnswer key reception bytes) e busy =
    served-none end t (GivesAnswer key reception bytes) e
busy-cases end t (GivesMessage key session bytes) e busy =
    served-none end t (GivesMessage key session bytes) e

-- where they give nothing and one is busy, the end gives nothing
pub slot-busy : (end : EndData) (t : SessionsData) → next_step end.sessions ≡ (t, None)
    → busy_in t.senders ≡ true → slot_step end ≡ (with_sessions end t, None)
unfolding slot_step turn next_step
slot-busy end t e busy =
    let same = choice-none end.sessions t (choice end.sessions) e in
    busy-cases end t (choice end.sessions) e (subst (λ s. busy_in s.senders ≡ true) same busy)
    ∙ ap (λ s. (with_sessions end s, None)) (sym same)

first-if : (end : EndData) (b : Bool) → b ≡ false
    → slot_from end (cond b Rests (first_turn end)) ≡ slot_from end (first_turn end)
first-if end true e = absurd (true≢false e)
first-if end false e = refl

free-cases : (end : EndData) (t : SessionsData) (c : Choice) → next_from end.sessions c ≡ (t, None)
    → busy_in end.sessions.senders ≡ false
    → IsBusyChoice end.sessions.senders c
    → slot_from end (turn_from end c) ≡ slot_from end (first_turn end)
unfolding turn_from
free-cases end t Idle e free h = first-if end (busy_in end.sessions.senders) free
free-cases end t (GivesAnswer key reception bytes) e free h =
    absurd (answer-gives end.sessions t key reception bytes e)
free-cases end t (GivesMessage key session bytes) e free h = absurd (true≢false (sym h ∙ free))

-- where they give nothing and none is busy, it does what the first packet that waits makes it do
pub slot-free : (end : EndData) (t : SessionsData) → next_step end.sessions ≡ (t, None)
    → busy_in t.senders ≡ false
    → slot_step end ≡ slot_from (with_sessions end t) (first_turn (with_sessions end t))
unfolding slot_step turn next_step
slot-free end t e free =
    let same = choice-none end.sessions t (choice end.sessions) e in
    free-cases end t (choice end.sessions) e (subst (λ s. busy_in s.senders ≡ false) same free)
    (choice-busy end.sessions)
    ∙ ap (λ this. slot_from this (first_turn this)) (sym (ap (with_sessions end) same))
