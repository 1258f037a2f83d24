-- What an end gives at its slot, by one value: the end after it, and the frame.
use Rattle.std.proofs.Common.{◌≡◌, ℕ, Bool, false, option_map, List, [], ◌∷◌, Option, Some, None}
use Rattle.std.proofs.Common.{refl, ap, subst, ◌∙◌}
use Rattle.schc_ids.specs.declared.ends.Role.{Role}
use Rattle.schc_ids.specs.declared.ends.EndParams.{EndParams}
use Rattle.schc_ids.specs.declared.ends.LastTile.{LastTile}
use Rattle.schc_ids.specs.declared.fragments.FragMode.{FragMode}
use Rattle.schc_ids.specs.declared.fragments.FragMode.TheVariants as mode
use Rattle.schc_ids.specs.declared.fragments.FragParams.{FragParams}
use Rattle.packer.specs.declared.packing.Packed.{Packed}
use Rattle.event_data.specs.declared.outcomes.EmitKind.TheVariants as kind
use Rattle.event_data.specs.declared.outcomes.Emitted.{Emitted}
use Rattle.no_ack.specs.SenderSteps as no_ack
use Rattle.aa_sender.specs.Steps as aa
use Rattle.aoe_sender.specs.Steps as aoe
use Rattle.aoe_sender.specs.State.{AoeSenderData, Sending, Quiet}
use Rattle.aoe_sender.specs.Tiles.{regular_count}
use Rattle.aoe_sender.specs.Steps.{all1, regular, run_after}
use Rattle.frag_wire.specs.Layouts.{written}
use Rattle.frag_wire.specs.declared.message.Message.{Message}
use Rattle.tiles_bitmap.specs.Places.{numbers_from}
use Rattle.sessions.specs.Data.{out_key, in_key}
use Rattle.sessions.specs.Keys.{SessionKey, found}
use Rattle.sessions.specs.Receivers.{receiver_due}
use Rattle.sessions.specs.Reception.{reception_answered}
use Rattle.sessions.specs.Senders.{sender_begun, sender_due}
use Rattle.sessions.specs.Session.{Session, session_sent, sent_report}
use Rattle.sessions.specs.Steps.{given, with_session, with_reception, sends, begin_step}
use Rattle.sessions.specs.Steps.{next_number, new_session, Choice, Idle, GivesAnswer, GivesMessage}
use Rattle.sessions.specs.Steps.{next_from}
use Rattle.std.specs.Prelude.{slice_get}
use Rattle.end_core.specs.Data.{EndData, fits}
use Rattle.end_core.specs.End.{with_sessions, emitted, emitted_out, without_first, Turn, Serves}
use Rattle.end_core.specs.End.{Sends, Begins, Rests, turn, slot_from, gives}
use Rattle.end_core.proofs.StepLemmas.{turn-serves, turn-sends, turn-begins}
use Rattle.two_ends.proofs.SessionsKept.{AreSessions, IsChoiceOf, choice-is, may-begin, own-key}
use Rattle.two_ends.specs.Happening.{Given, Answers, Goes, Opens, Carries, NoFrame, goes_if}
use Rattle.two_ends.specs.Happening.{opens_if, chosen, begun, given_by}

-- the end after what it gave, and the frame
unfoldable pub given_step : EndData → Given → EndData × Option Emitted
given_step end (Answers id reception bytes) = (
  with_sessions end (with_reception id (reception_answered reception) end.sessions),
  Some (emitted_out (given id bytes kind.Answers None)),
)
given_step end (Goes id session bytes) = (
  with_sessions end
      (with_session id (Some (session_sent end.sessions.params.ticks session)) end.sessions),
  Some (emitted_out (given id bytes (kind.Goes session.number) (sent_report session))),
)
given_step end (Opens id session form bytes) = (
  with_sessions (without_first end)
      (with_session id (Some (session_sent end.sessions.params.ticks session))
      (record end.sessions { next = next_number end.sessions.next })),
  Some (emitted_out (given id bytes (kind.Begins end.sessions.next) (sent_report session))),
)
given_step end (Carries form) = (without_first end, Some (emitted form))
given_step end NoFrame = (end, None)

-- a session that begins has a first message
aoe-first : (s : AoeSenderData) (numbers : List ℕ) (attempts : ℕ) → (m : Message × List Bool)
    × (aoe.due_in s (Sending numbers attempts) ≡ Some m)
unfolding aoe.due_in
aoe-first s [] attempts = (all1 s, refl)
aoe-first s (number ∷ numbers) attempts = (regular s number (run_after s number numbers).0, refl)

pub first-message : (m : FragMode) (params : FragParams) (mtu : ℕ) (last : LastTile)
    (bits : List Bool) → (bytes : List ℕ)
    × (sender_due (sender_begun m params mtu last bits) ≡ Some bytes)
unfolding sender_due sender_begun no_ack.due_message no_ack.due_in aa.due_message aa.due_in
    aoe.due_message aoe.due_bytes aoe.begun
first-message mode.NoAck params mtu last bits = (_, refl)
first-message mode.AckAlways params mtu last bits = (_, refl)
first-message mode.AckOnError params mtu last bits =
    let s : AoeSenderData = aoe.begun params mtu last bits in
    let first =
    aoe-first s
    (numbers_from 0
    (regular_count
    (record { params = params; mtu = mtu; last = last; bits = bits; state = Quiet }))) 0 in (
      written params first.0.0 first.0.1,
      ap (option_map (λ due. written params due.0 due.1))
          first.1,
    )

opens-first : (end : EndData) (form : Packed) (session : Session) (id : SessionKey)
    (o : Option (List ℕ)) → (bytes : List ℕ) × (o ≡ Some bytes)
    → given_step end (opens_if id session form o) ≡ gives (without_first end)
    (sends (record end.sessions { next = next_number end.sessions.next }) id session
    (kind.Begins end.sessions.next) o)
unfolding given_step opens_if sends
opens-first end form session id None some = absurd (let e = some.1 in cc)
opens-first end form session id (Some bytes) some = refl

goes-or : (end : EndData) (id : SessionKey) (session : Session) (o : Option (List ℕ))
    → given_step end (goes_if id session o) ≡ gives end
    (sends end.sessions id session (kind.Goes session.number) o)
unfolding given_step goes_if sends
goes-or end id session None = refl
goes-or end id session (Some bytes) = refl

choice-gives : (end : EndData) (c : Choice)
    → given_step end (chosen c) ≡ gives end (next_from end.sessions c)
unfolding given_step chosen next_from
choice-gives end Idle = refl
choice-gives end (GivesAnswer id reception bytes) = refl
choice-gives end (GivesMessage id session bytes) = goes-or end id session bytes

-- the end's turn is what it gives
pub turn-gives : (end : EndData) (t : Turn) → given_step end (given_by end t) ≡ slot_from end t
unfolding given_by begun slot_from begin_step new_session given_step
turn-gives end (Serves c) = choice-gives end c
turn-gives end (Sends form) = carries end form
  where
    carries : (end : EndData) (form : Packed)
        → given_step end (Carries form) ≡ (without_first end, Some (emitted form))
    carries end form = refl
turn-gives end (Begins form) =
    opens-first end form (new_session form.bits end.sessions) _ _ (first-message _ _ _ _ _)
turn-gives end Rests = refl

-- What an end gives promises.

-- a session that begins: by the end's own key, where it has none, with the first packet that waits,
-- which doesn't fit one frame, and with these bytes as its first message
pub record IsOpening (role : Role) (params : EndParams) (end : EndData) (id : SessionKey)
    (session : Session) (form : Packed) (bytes : List ℕ) : Type 0 where
  pub own : id ≡ out_key role params.acked
  pub none : found id end.sessions.senders ≡ None
  pub is_first : slice_get end.queue 0 ≡ Some form
  pub unfit : fits end.params.mtu form ≡ false
  pub is_new : session ≡ new_session form.bits end.sessions
  pub first : sender_due session.sender ≡ Some bytes

-- what is given is due at the end: an answer of one of its receivers, a message of its session, the
-- first message of a session that begins, or the first packet that waits, whole; or it is nothing
abbrev pub IsGiven : Role → EndParams → EndData → Given → Type 0
IsGiven role params end (Answers id reception bytes) =
    (acked : Bool) × (id ≡ in_key role acked) × (found id end.sessions.receivers ≡ Some reception)
    × (receiver_due reception.receiver ≡ Some bytes)
IsGiven role params end (Goes id session bytes) =
    (id ≡ out_key role params.acked) × (found id end.sessions.senders ≡ Some session)
    × (sender_due session.sender ≡ Some bytes)
IsGiven role params end (Opens id session form bytes) =
    IsOpening role params end id session form bytes
IsGiven role params end (Carries form) = slice_get end.queue 0 ≡ Some form
IsGiven role params end NoFrame = Unit {0}

goes-is : (role : Role) (params : EndParams) (end : EndData) (id : SessionKey) (session : Session)
    (o : Option (List ℕ)) → id ≡ out_key role params.acked
    → found id end.sessions.senders ≡ Some session → sender_due session.sender ≡ o
    → IsGiven role params end (goes_if id session o)
unfolding goes_if
goes-is role params end id session None own there due = tt
goes-is role params end id session (Some bytes) own there due = (own, there, due)

chosen-is : (role : Role) (params : EndParams) (end : EndData) (c : Choice)
    → IsChoiceOf role params end.sessions.senders end.sessions.receivers c
    → IsGiven role params end (chosen c)
unfolding chosen
chosen-is role params end Idle is = tt
chosen-is role params end (GivesAnswer id reception bytes) is = is
chosen-is role params end (GivesMessage id session bytes) is =
    goes-is role params end id session bytes is.0 is.1 is.2

opens-is : (role : Role) (params : EndParams) (end : EndData) (id : SessionKey) (session : Session)
    (form : Packed) (o : Option (List ℕ)) → id ≡ out_key role params.acked
    → found id end.sessions.senders ≡ None → slice_get end.queue 0 ≡ Some form
    → fits end.params.mtu form ≡ false → session ≡ new_session form.bits end.sessions
    → sender_due session.sender ≡ o → IsGiven role params end (opens_if id session form o)
unfolding opens_if
opens-is role params end id session form None own none first unfit new due = tt
opens-is role params end id session form (Some bytes) own none first unfit new due =
    record { own = own; none = none; is_first = first; unfit = unfit; is_new = new; first = due }

turn-is : (role : Role) (params : EndParams) (end : EndData) (t : Turn)
    → AreSessions role params end.sessions → turn end ≡ t → IsGiven role params end (given_by end t)
unfolding given_by begun
turn-is role params end (Serves c) k e =
    chosen-is role params end c
    (subst (IsChoiceOf role params end.sessions.senders end.sessions.receivers)
    (turn-serves end c e) (choice-is role params end.sessions k))
turn-is role params end (Sends form) k e = (turn-sends end form e).has_turn.is_first
turn-is role params end (Begins form) k e =
    let b = turn-begins end form e in
    opens-is role params end (out_key end.sessions.role end.sessions.params.acked)
    (new_session form.bits end.sessions) form _ (own-key role params end.sessions k)
    (ap (λ i. found i end.sessions.senders) (own-key role params end.sessions k)
    ∙ may-begin role params end.sessions k b.may) b.has_turn.is_first b.unfit refl refl
turn-is role params end Rests k e = tt

-- what an end gives at its slot is due there, where its sessions have their form
pub given-is : (role : Role) (params : EndParams) (end : EndData)
    → AreSessions role params end.sessions → IsGiven role params end (given_by end (turn end))
given-is role params end k = turn-is role params end (turn end) k refl
