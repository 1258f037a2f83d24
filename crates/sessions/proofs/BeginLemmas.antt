-- A session begins.
use Rattle.std.specs.Prelude.{ℕ, ◌≡◌, ◌≤◌, ◌+◌, ◌-◌, ◌^◌, min, Bool, true, false, List, [], ◌∷◌}
use Rattle.std.specs.Prelude.{length, Option, Some, None, option_map, IfSome}
use Rattle.std.proofs.Common.{refl, sym, ap, subst, ◌∙◌}
use Rattle.schc_ids.specs.declared.ends.EndParams.{EndParams}
use Rattle.schc_ids.specs.declared.ends.Role.{Role}
use Rattle.schc_ids.specs.declared.fragments.FragParams.{FragParams}
use Rattle.event_data.specs.declared.outcomes.EmitKind.{EmitKind}
use Rattle.event_data.specs.declared.outcomes.EmitKind.TheVariants as kind
use Rattle.lorawan_profile.specs.Ports.{sending_of}
use Rattle.sessions.specs.Clocks.{ClocksData}
use Rattle.sessions.specs.Data.{SessionsData, seen, shown, session_of, out_key, port_key}
use Rattle.sessions.specs.Holds.{is_armed, sender_timed, IsRunning, AreRunning}
use Rattle.sessions.specs.Keys.{SessionKey, entry, found, put_in}
use Rattle.sessions.specs.Senders.{sender_begun, sender_params, sender_mtu, sender_bits, sender_due}
use Rattle.sessions.specs.Senders.{sender_phase}
use Rattle.sessions.specs.Session.{Session, session_sent, sent_report}
use Rattle.sessions.specs.Steps.{given, sends, next_number, new_session, begin_step, may_begin}
use Rattle.sessions.specs.Steps.{may_begin_in, with_session}
use Rattle.sessions.specs.declared.moves.Running.{Running}
use Rattle.sessions.specs.declared.out.SessionOut.{SessionOut}
use Rattle.sessions.specs.declared.receivers.Receiver.{Receiver}
use Rattle.sessions.specs.declared.senders.Sender.{Sender}
use Rattle.sessions.proofs.KeyLemmas.{found_own, put-own}
use Rattle.sessions.proofs.SenderLemmas.{begun-params, begun-mtu, begun-bits, begun-phase}
use Rattle.sessions.proofs.SenderLemmas.{begun-due}

-- none runs
none-in : (o : Option Session) → may_begin_in o ≡ true → o ≡ None
unfolding may_begin_in
none-in None e = refl
none-in (Some x) e = absurd cc

none-runs : (running : Option Running) (left : Option ℕ) → session_of running left ≡ None
    → running ≡ None
none-runs None left e = refl
none-runs (Some running) left e = absurd cc

-- an end that may begin a session has none, not even one that is quiet
pub begin-none : (role : Role) (params : EndParams) (running : Option Running)
    (answering silent : Receiver) (next : ℕ) (clocks : ClocksData) (s : SessionsData)
    → seen role params running answering silent next clocks ≡ s → may_begin s ≡ true
    → running ≡ None
unfolding may_begin
begin-none role params running answering silent next clocks s v m =
    let was =
    subst (λ s. may_begin_in (found (out_key s.role s.params.acked) s.senders) ≡ true) (sym v) m
    in
    none-runs running clocks.sending
    (none-in (session_of running clocks.sending)
    (sym (ap may_begin_in
    (found_own (out_key role params.acked) (session_of running clocks.sending))) ∙ was))

-- an end that has no session has no timer armed for one
pub none-left : (role : Role) (params : EndParams) (running : Option Running) (left : Option ℕ)
    → running ≡ None → AreRunning role params running left → left ≡ None
none-left role params running left r h = subst (λ o. AreRunning role params o left) r h

-- the sender that begins
pub record IsBegun (role : Role) (params : EndParams) (way : ℕ × FragParams) (bits : List Bool)
    (sender : Sender) : Type 0 where
  pub way_is : way ≡ sending_of role params.acked
  pub begun : sender ≡ sender_begun way.1.mode way.1 params.mtu params.last bits

-- the sender of a session that begins has the MTU of the end's parameters
pub begun-mtu-is : (role : Role) (params : EndParams) (way : ℕ × FragParams) (bits : List Bool)
    (sender : Sender) → IsBegun role params way bits sender → sender_mtu sender ≡ params.mtu
begun-mtu-is role params way bits sender h = ap sender_mtu h.begun
    ∙ begun-mtu way.1.mode way.1 params.mtu params.last bits

-- the sender of a session that begins has the bits with which it begins
pub begun-bits-is : (role : Role) (params : EndParams) (way : ℕ × FragParams) (bits : List Bool)
    (sender : Sender) → IsBegun role params way bits sender → sender_bits sender ≡ bits
begun-bits-is role params way bits sender h = ap sender_bits h.begun
    ∙ begun-bits way.1.mode way.1 params.mtu params.last bits

-- a session that begins, with no timer armed, is one of this end, whatever its number
pub begun-runs : (role : Role) (params : EndParams) (way : ℕ × FragParams) (bits : List Bool)
    (number : ℕ) (sender : Sender) (left : Option ℕ) → IsBegun role params way bits sender
    → left ≡ None → IsRunning role params (record { number = number; sender = sender }) left
begun-runs role params way bits number sender left h l = record {
  row = ap sender_params h.begun ∙ begun-params way.1.mode way.1 params.mtu params.last bits
      ∙ ap (λ way. way.1) h.way_is;
  mtu = begun-mtu-is role params way bits sender h;
  timed = ap is_armed l
      ∙ sym (ap (λ s. sender_timed (sender_phase s)) h.begun
      ∙ ap sender_timed (begun-phase way.1.mode way.1 params.mtu params.last bits));
}

-- its first message is due
map-none : {A B : Type 0} (f : A → B) (o : Option A) → option_map f o ≡ None → o ≡ None
map-none f None e = refl
map-none f (Some x) e = absurd cc

-- a session that begins has its first message due, so that something is given
pub has-message : (role : Role) (params : EndParams) (way : ℕ × FragParams) (bits : List Bool)
    (sender : Sender) (f : List ℕ → SessionOut) (out : Option SessionOut)
    → IsBegun role params way bits sender → out ≡ option_map f (sender_due sender) → out ≡ None → ⊥
has-message role params way bits sender f out h o n =
    begun-due way.1.mode way.1 params.mtu params.last bits
    (sym (ap sender_due h.begun) ∙ map-none f (sender_due sender) (sym o ∙ n))

-- the step
session-is : (role : Role) (params : EndParams) (running : Option Running)
    (answering silent : Receiver) (next : ℕ) (clocks : ClocksData) (way : ℕ × FragParams)
    (bits : List Bool) (sender : Sender) → IsBegun role params way bits sender
    → clocks.sending ≡ None
    → new_session bits (seen role params running answering silent next clocks) ≡ shown
    (record { number = next; sender = sender }) clocks.sending
unfolding new_session
session-is role params running answering silent next clocks way bits sender h l =
    rw (h.begun, h.way_is, l) refl

sends-some : (s : SessionsData) (key : SessionKey) (session : Session) (k : EmitKind)
    (due : Option (List ℕ)) (out : SessionOut)
    → Some out ≡ option_map (λ bytes. given key bytes k (sent_report session)) due
    → sends s key session k
    due ≡ (with_session key (Some (session_sent s.params.ticks session)) s, Some out)
unfolding sends
sends-some s key session k None out e = absurd cc
sends-some s key session k (Some bytes) out e =
    ap (λ o. (with_session key (Some (session_sent s.params.ticks session)) s, o)) (sym e)

put-none : (key : SessionKey) (running : Option Running) (left : Option ℕ) (new : Session)
    → running ≡ None
    → put_in key (Some new) (entry key (session_of running left)) ≡ entry key (Some new)
put-none key running left new r = rw r (put-own key None (Some new))

-- where no session runs, the one that begins has the number that is next, its first message is
-- given, and the end keeps it as after that: receivers and their timers stay, the number goes up
pub begin-is : (role : Role) (params : EndParams) (running : Option Running)
    (answering silent : Receiver) (next next' : ℕ) (clocks clocks' : ClocksData)
    (way : ℕ × FragParams) (bits : List Bool) (sender : Sender) (new : Running) (out : SessionOut)
    → running ≡ None → clocks.sending ≡ None → IsBegun role params way bits sender
    → Some out ≡ option_map
    (λ bytes. given (port_key way.0) bytes (kind.Begins next)
    (sent_report (shown (record { number = next; sender = sender }) clocks.sending)))
    (sender_due sender)
    → shown new clocks'.sending ≡ session_sent params.ticks
    (shown (record { number = next; sender = sender }) clocks.sending)
    → clocks' ≡ record clocks { sending = clocks'.sending } → next' ≡ next_number next
    → begin_step bits
    (seen role params running answering silent next clocks) ≡ (
      seen role params (Some new) answering
          silent next' clocks',
      Some out,
    )
unfolding begin_step
begin-is role params running answering silent next next' clocks clocks' way bits sender new out r l
    h o a c n =
    let s : SessionsData = seen role params running answering silent (next_number next) clocks in
    let key = out_key role params.acked in
    let x : Session = shown (record { number = next; sender = sender }) clocks.sending in
    let due =
    subst (λ w. Some out ≡ option_map
    (λ bytes. given (port_key w.0) bytes (kind.Begins next) (sent_report x))
    (sender_due sender)) h.way_is o in
    ap (λ y. sends s key y (kind.Begins next) (sender_due y.sender))
    (session-is role params running answering silent next clocks way bits sender h l)
    ∙ sends-some s key x (kind.Begins next) (sender_due sender) out due
    ∙ ap (λ senders. (record s { senders = senders }, Some out))
    (put-none key running clocks.sending (session_sent params.ticks x) r)
    ∙ ap (λ y. (record s { senders = entry key (Some y) }, Some out)) (sym a)
    ∙ ap (λ y. (seen role params (Some new) answering silent (next_number next) y, Some out))
    (sym c)
    ∙ ap (λ y. (seen role params (Some new) answering silent y clocks', Some out)) (sym n)

-- sessions of which the same is seen have senders of the same bits
pub keeps-bits : (old new : Running) (left left' : Option ℕ) → shown new left' ≡ shown old left
    → sender_bits new.sender ≡ sender_bits old.sender
keeps-bits old new left left' e = ap (λ x. sender_bits x.sender) e

-- what is one more, but at most 2 ^ 64 - 1, is the number of the session after
pub number-is : (number next : ℕ) → next ≡ min (number + 1) (2 ^ 64 - 1) → next ≡ next_number number
unfolding next_number
number-is number next e = e
