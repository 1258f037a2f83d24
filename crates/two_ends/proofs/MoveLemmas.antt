-- What the steps of an end's sessions do to the session and the receiver of one key.
use Rattle.std.proofs.Common.{◌≡◌, ℕ, Bool, true, false, cond, List, [], ◌∷◌, ◌++◌, Option, Some}
use Rattle.std.proofs.Common.{None, option_map, Result, Ok, Err, refl, sym, ap, ◌∙◌}
use Rattle.std.proofs.lemmas.List.{append-nil}
use Rattle.schc_bits.specs.Bits.{octets}
use Rattle.schc_ids.specs.declared.ends.TimerTicks.{TimerTicks}
use Rattle.schc_ids.specs.declared.faults.WireFault.{WireFault}
use Rattle.frag_wire.specs.Layouts.{payload_in}
use Rattle.frag_wire.specs.declared.message.Message.{Message}
use Rattle.sessions.specs.Data.{SessionsData}
use Rattle.sessions.specs.Keys.{SessionKey, Entry, same_key, found, entry, changed, each}
use Rattle.sessions.specs.Reception.{Reception, reception_taken}
use Rattle.sessions.specs.Session.{Session, session_ticked}
use Rattle.sessions.specs.Steps.{fragment_taken, fragment_read, answer_taken, answer_read}
use Rattle.sessions.specs.Steps.{aborted_from}
use Rattle.lanes.specs.Lane.{Lane, Msg}
use Rattle.lanes.specs.Step.{heard_by, aborted_by, ticked_by, lane_taken, lane_took}
use Rattle.two_ends.specs.History.{Came, came_as, came_read}
use Rattle.two_ends.specs.Labels.{Held}
use Rattle.two_ends.proofs.KeyLemmas.{found-put_same, found-put_other}
use Rattle.two_ends.proofs.SessionsKept.{then, changed-own}

-- a fragment, at the receiver of its key
abbrev pub received : TimerTicks → Reception → List ℕ → Result Message WireFault → Reception
received ticks r bytes (Err fault) = r
received ticks r bytes (Ok message) =
    (reception_taken ticks message (payload_in message (octets bytes)) r).0

-- after a fragment by a key of which the end has a receiver, this receiver has taken it
pub fragment-found : (s : SessionsData) (id : SessionKey) (bytes : List ℕ)
    (reading : Result Message WireFault) (r : Reception) → found id s.receivers ≡ Some r
    → found id (fragment_read s id bytes reading).0.receivers ≡ Some
    (received s.params.ticks r bytes reading)
unfolding fragment_read fragment_taken
fragment-found s id bytes (Err fault) r e = e
fragment-found s id bytes (Ok message) r e = rw e (found-put_same id _ s.receivers)

-- a fragment leaves the receivers of other keys as they were
pub fragment-other : (s : SessionsData) (other id : SessionKey) (bytes : List ℕ)
    (reading : Result Message WireFault) (r : Reception) → found id s.receivers ≡ Some r
    → same_key other id ≡ false
    → found other (fragment_read s id bytes reading).0.receivers ≡ found other s.receivers
unfolding fragment_read fragment_taken
fragment-other s other id bytes (Err fault) r e n = refl
fragment-other s other id bytes (Ok message) r e n = rw e (found-put_other other id _ s.receivers n)

-- a fragment leaves the sessions that the end sends as they were
pub fragment-senders : (s : SessionsData) (id : SessionKey) (bytes : List ℕ)
    (reading : Result Message WireFault) (r : Reception) → found id s.receivers ≡ Some r
    → (fragment_read s id bytes reading).0.senders ≡ s.senders
unfolding fragment_read fragment_taken
fragment-senders s id bytes (Err fault) r e = refl
fragment-senders s id bytes (Ok message) r e = rw e refl

-- the lane after a fragment, by what it adds
abbrev pub lane_came : Lane → Reception → Came → Lane
lane_came l r c =
    record l {
      reception = r;
      label = c.held.last;
      kept_label = c.held.kept;
      checks =
          l.checks ++ c.checks;
      joins = l.joins ++ c.joins;
    }

abbrev pub held_of : Lane → Held
held_of l = record { last = l.label; kept = l.kept_label }

-- a lane that took a message has the receiver that has taken it, and what the message adds to
-- labels and logs
pub took-came : (time : ℕ) (l : Lane) (m : Msg) (reading : Result Message WireFault)
    → lane_took time l m reading ≡ lane_came l
    (received l.params.ends.ticks l.reception m.bytes reading)
    (came_read time (held_of l) l.reception.receiver m reading)
unfolding lane_took lane_taken came_read came_as reception_taken
took-came time l m (Err fault) = rw (append-nil l.checks, append-nil l.joins) refl
took-came time l m (Ok message) = refl

-- an answer, at the session of its key
answer-cases : (s : SessionsData) (id : SessionKey) (message : Message) (o : Option Session)
    → found id s.senders ≡ o
    → found id (answer_taken s id message o).0.senders ≡ (heard_by s.params.ticks o (Ok message)).0
unfolding answer_taken heard_by
answer-cases s id message None e = e
answer-cases s id message (Some session) e = found-put_same id _ s.senders

pub unheard : (ticks : TimerTicks) (o : Option Session) (fault : WireFault)
    → heard_by ticks o (Err fault) ≡ (o, None)
unfolding heard_by
unheard ticks None fault = refl
unheard ticks (Some session) fault = refl

-- after an answer by a key, the end's session of the key is what a lane's sender is that heard it
pub answer-found : (s : SessionsData) (id : SessionKey) (reading : Result Message WireFault)
    → found id
    (answer_read s id reading).0.senders ≡ (heard_by s.params.ticks (found id s.senders) reading).0
unfolding answer_read
answer-found s id (Err fault) =
    sym (ap (λ x. x.0) (unheard s.params.ticks (found id s.senders) fault))
answer-found s id (Ok message) = answer-cases s id message (found id s.senders) refl

answer-apart : (s : SessionsData) (other id : SessionKey) (message : Message) (o : Option Session)
    → same_key other id ≡ false
    → found other (answer_taken s id message o).0.senders ≡ found other s.senders
unfolding answer_taken
answer-apart s other id message None n = refl
answer-apart s other id message (Some session) n = found-put_other other id _ s.senders n

-- an answer leaves the sessions of other keys as they were
pub answer-other : (s : SessionsData) (other id : SessionKey) (reading : Result Message WireFault)
    → same_key other id ≡ false
    → found other (answer_read s id reading).0.senders ≡ found other s.senders
unfolding answer_read
answer-other s other id (Err fault) n = refl
answer-other s other id (Ok message) n = answer-apart s other id message (found id s.senders) n

answer-still : (s : SessionsData) (id : SessionKey) (message : Message) (o : Option Session)
    → (answer_taken s id message o).0.receivers ≡ s.receivers
unfolding answer_taken
answer-still s id message None = refl
answer-still s id message (Some session) = refl

-- an answer leaves the receivers of the end as they were
pub answer-receivers : (s : SessionsData) (id : SessionKey) (reading : Result Message WireFault)
    → (answer_read s id reading).0.receivers ≡ s.receivers
unfolding answer_read
answer-receivers s id (Err fault) = refl
answer-receivers s id (Ok message) = answer-still s id message (found id s.senders)

-- the session is given up
aborted-cases : (s : SessionsData) (id : SessionKey) (o : Option Session) → found id s.senders ≡ o
    → found id (aborted_from s id o).0.senders ≡ (aborted_by s.params.ticks o).0
unfolding aborted_from aborted_by
aborted-cases s id None e = e
aborted-cases s id (Some session) e = found-put_same id _ s.senders

-- after the end gave up its session of a key, the session is what a lane's sender is
-- that was given up
pub aborted-found : (s : SessionsData) (id : SessionKey)
    → found id
    (aborted_from s id (found id s.senders)).0.senders ≡ (aborted_by s.params.ticks
    (found id s.senders)).0
aborted-found s id = aborted-cases s id (found id s.senders) refl

-- a session that is given up leaves those of other keys as they were
pub aborted-other : (s : SessionsData) (other id : SessionKey) (o : Option Session)
    → same_key other id ≡ false
    → found other (aborted_from s id o).0.senders ≡ found other s.senders
unfolding aborted_from
aborted-other s other id None n = refl
aborted-other s other id (Some session) n = found-put_other other id _ s.senders n

-- a session that is given up leaves the receivers of the end as they were
pub aborted-receivers : (s : SessionsData) (id : SessionKey) (o : Option Session)
    → (aborted_from s id o).0.receivers ≡ s.receivers
unfolding aborted_from
aborted-receivers s id None = refl
aborted-receivers s id (Some session) = refl

-- a tick, where an end has at most one session
one-changed : {A : Type 0} (f : A → Option A) (key own : SessionKey) (x : A) (o : Option A)
    (b : Bool) → same_key key own ≡ b → f x ≡ o
    → found key (entry own o) ≡ then f (cond b (Some x) None)
unfolding found entry
one-changed f key own x None true n e = sym e
one-changed f key own x None false n e = refl
one-changed f key own x (Some y) true n e = rw n (sym e)
one-changed f key own x (Some y) false n e = rw n refl

own-changed : {A : Type 0} (f : A → Option A) (key own : SessionKey) (o : Option A)
    → found key (entry own (then f o)) ≡ then f (found key (entry own o))
unfolding found entry
own-changed f key own None = refl
own-changed f key own (Some x) = one-changed f key own x (f x) (same_key key own) refl refl

-- where there is one entry or none, what is found by a key after a change of the values is what was
-- found before, changed or gone
pub found-changed : {A : Type 0} (f : A → Option A) (key own : SessionKey) (o : Option A)
    (xs : List (Entry A)) → xs ≡ entry own o → found key (changed f xs) ≡ then f (found key xs)
found-changed f key own o xs e =
    ap (λ ys. found key (changed f ys)) e ∙ ap (found key) (changed-own f own o)
    ∙ own-changed f key own o ∙ ap (λ ys. then f (found key ys)) (sym e)

-- what a tick makes of a session, where there is one, is what it makes of a lane's sender
pub ticked-then : (ticks : TimerTicks) (o : Option Session)
    → then (λ session. (session_ticked ticks session).0) o ≡ (ticked_by ticks o).0
unfolding ticked_by
ticked-then ticks None = refl
ticked-then ticks (Some session) = refl

each-first : {A : Type 0} (f : A → A) (x : A) (b : Bool) (o p : Option A) → o ≡ option_map f p
    → cond b (Some (f x)) o ≡ option_map f (cond b (Some x) p)
each-first f x true o p e = refl
each-first f x false o p e = e

-- what is found by a key after each value was changed is what was found before it, changed
pub found-each : {A : Type 0} (f : A → A) (id : SessionKey) (xs : List (Entry A))
    → found id (each f xs) ≡ option_map f (found id xs)
unfolding each found
found-each f id [] = refl
found-each f id (x ∷ xs) =
    each-first f x.it (same_key id x.key) (found id (each f xs)) (found id xs) (found-each f id xs)
