-- What an end does at an event, case by case: so that a proof about ends looks at cases and not at
-- tests.
use Rattle.std.proofs.Common.{◌≡◌, ℕ, ◌==◌, ◌≤◌, Bool, true, false, not, cond, List, Option, Some}
use Rattle.std.proofs.Common.{None, Ok, Err, nat_lt, nat_le, slice_get, length, refl, sym, subst}
use Rattle.std.proofs.lemmas.Bool.{ltb-false}
use Rattle.schc_ids.specs.Limits.{max_packet}
use Rattle.schc_ids.specs.declared.notes.Cause.TheVariants.{UnknownPort}
use Rattle.editions.specs.Data.{EditionData}
use Rattle.editions.specs.Followed.{diverged}
use Rattle.packer.specs.declared.packing.Packed.{Packed}
use Rattle.ip_udp_fields.specs.Fields.{has_ipv6_header}
use Rattle.lorawan_profile.specs.Ports.{meaning_of}
use Rattle.lorawan_profile.specs.declared.ports.PortMeaning.{PortMeaning}
use Rattle.lorawan_profile.specs.declared.ports.PortMeaning.TheVariants.{Fragments, Answers, Whole}
use Rattle.lorawan_profile.specs.declared.ports.PortMeaning.TheVariants.{Unknown}
use Rattle.event_data.specs.Records.{FrameData}
use Rattle.event_data.specs.declared.outcomes.DownFault.{DownFault}
use Rattle.event_data.specs.declared.outcomes.DownFault.TheVariants.{NotIpv6, TooLong}
use Rattle.event_data.specs.declared.outcomes.Offered.{Offered}
use Rattle.event_data.specs.declared.outcomes.Offered.TheVariants.{Adopted, Older, Diverged}
use Rattle.sessions.specs.Holds.{IsSessionMeaning}
use Rattle.sessions.specs.Steps.{Choice, Idle, GivesAnswer, GivesMessage, choice}
use Rattle.sessions.specs.Steps as session
use Rattle.end_core.specs.Data.{EndData, fits}
use Rattle.end_core.specs.Events.{EndEvent, Down, Slot, Take, Tick, Abort, Offer, Allow, Outcome}
use Rattle.end_core.specs.Events.{Handed, Sent, Took, Ticked, Aborted, Answered, Allowed}
use Rattle.end_core.specs.End.{form_of, refusal, accepted, with_form, down_from, down_step, emitted}
use Rattle.end_core.specs.End.{without_first, Turn, Serves, Sends, Begins, Rests, queue_turn}
use Rattle.end_core.specs.End.{first_turn, turn_from, turn, gives, slot_from, slot_step, read}
use Rattle.end_core.specs.End.{refused, taken_whole, part_step, take_from, take_step, tick_step}
use Rattle.end_core.specs.End.{abort_step, with_known, offer_from, offer_step, with_writes}
use Rattle.end_core.specs.End.{allow_from, allow_step}
use Rattle.end_core.specs.EndStep.{end_step}

-- What a turn says of the end.

-- the packet that waits first has its turn: nothing is due of the sessions, and none is sending,
-- waiting or closing
pub record IsFree (end : EndData) (form : Packed) : Type 0 where
  pub is_first : slice_get end.queue 0 ≡ Some form
  pub idle : choice end.sessions ≡ Idle
  pub free : session.busy_in end.sessions.senders ≡ false

-- it goes whole, since it fits
pub record IsSent (end : EndData) (form : Packed) : Type 0 where
  pub has_turn : IsFree end form
  pub fit : fits end.params.mtu form ≡ true

-- a session begins with it, since it doesn't fit and one may begin
pub record IsBegun (end : EndData) (form : Packed) : Type 0 where
  pub has_turn : IsFree end form
  pub unfit : fits end.params.mtu form ≡ false
  pub may : session.may_begin end.sessions ≡ true

abbrev TurnIs : EndData → Turn → Type 0
TurnIs end (Serves given) = choice end.sessions ≡ given
TurnIs end (Sends form) = IsSent end form
TurnIs end (Begins form) = IsBegun end form
TurnIs end Rests = Unit {0}

first-cases : (end : EndData) (fit may : Bool) (form : Packed) → slice_get end.queue 0 ≡ Some form
    → choice end.sessions ≡ Idle → session.busy_in end.sessions.senders ≡ false
    → fits end.params.mtu form ≡ fit → session.may_begin end.sessions ≡ may
    → TurnIs end (cond fit (Sends form) (cond may (Begins form) Rests))
first-cases end true may form first idle free fit can =
    record { has_turn = record { is_first = first; idle = idle; free = free }; fit = fit }
first-cases end false true form first idle free fit can =
    record {
      has_turn = record { is_first = first; idle = idle; free = free };
      unfit = fit;
      may =
          can;
    }
first-cases end false false form first idle free fit can = tt

queue-cases : (end : EndData) (o : Option Packed) → slice_get end.queue 0 ≡ o
    → choice end.sessions ≡ Idle → session.busy_in end.sessions.senders ≡ false
    → TurnIs end (queue_turn end.params.mtu (session.may_begin end.sessions) o)
unfolding queue_turn
queue-cases end None first idle free = tt
queue-cases end (Some form) first idle free =
    first-cases end (fits end.params.mtu form) (session.may_begin end.sessions) form first idle free
    refl refl

busy-cases : (end : EndData) (busy : Bool) → choice end.sessions ≡ Idle
    → session.busy_in end.sessions.senders ≡ busy → TurnIs end (cond busy Rests (first_turn end))
busy-cases end true idle busy = tt
busy-cases end false idle busy = queue-cases end (slice_get end.queue 0) refl idle busy

choice-cases : (end : EndData) (given : Choice) → choice end.sessions ≡ given
    → TurnIs end (turn_from end given)
unfolding turn_from
choice-cases end Idle e = busy-cases end (session.busy_in end.sessions.senders) e refl
choice-cases end (GivesAnswer key reception bytes) e = e
choice-cases end (GivesMessage key sending bytes) e = e

turn-cases : (end : EndData) (t : Turn) → turn end ≡ t → TurnIs end t
unfolding turn
turn-cases end t e = subst (TurnIs end) e (choice-cases end (choice end.sessions) refl)

-- the sessions' turn is what they give next
pub turn-serves : (end : EndData) (given : Choice) → turn end ≡ Serves given
    → choice end.sessions ≡ given
turn-serves end given e = turn-cases end (Serves given) e

-- the packet that the turn sends whole fits and waits first, nothing is due of the sessions,
-- and none is sending, waiting or closing
pub turn-sends : (end : EndData) (form : Packed) → turn end ≡ Sends form → IsSent end form
turn-sends end form e = turn-cases end (Sends form) e

-- the packet with which the turn begins a session has its turn so too, doesn't fit one frame,
-- and a session may begin
pub turn-begins : (end : EndData) (form : Packed) → turn end ≡ Begins form → IsBegun end form
turn-begins end form e = turn-cases end (Begins form) e

-- What an end does.

-- the end after the event, and its outcome
pub data Does (end : EndData) : EndEvent → EndData → Outcome → Type 0 where
  refuses : (packet : List ℕ) (fault : DownFault) → Does end (Down packet) end (Handed (Err fault))
  accepts :
      (packet : List ℕ) → has_ipv6_header packet ≡ true → length packet ≤ max_packet →
      Does end (Down packet) (with_form end (form_of end packet))
      (Handed (Ok (accepted (form_of end packet))))
  serves :
      (given : Choice) → turn end ≡ Serves given →
      Does end Slot (gives end (session.next_from end.sessions given)).0
      (Sent (gives end (session.next_from end.sessions given)).1)
  sends : (form : Packed) → turn end ≡ Sends form
      → Does end Slot (without_first end) (Sent (Some (emitted form)))
  begins :
      (form : Packed) → turn end ≡ Begins form →
      Does end Slot (gives (without_first end) (session.begin_step form.bits end.sessions)).0
      (Sent (gives (without_first end) (session.begin_step form.bits end.sessions)).1)
  rests : turn end ≡ Rests → Does end Slot end (Sent None)
  takes_whole :
      (frame : FrameData) → meaning_of end.role frame.port ≡ Whole →
      Does end (Take frame) end (Took (taken_whole end.known.number (read end frame)))
  takes_part :
      (frame : FrameData) → IsSessionMeaning (meaning_of end.role frame.port) →
      Does end (Take frame) (part_step end frame).0 (Took (part_step end frame).1)
  takes_none :
      (frame : FrameData) → meaning_of end.role frame.port ≡ Unknown
      → Does end (Take frame) end (Took (refused UnknownPort))
  ticks : Does end Tick (tick_step end).0 (Ticked (tick_step end).1)
  aborts : Does end Abort (abort_step end).0 (Aborted (abort_step end).1)
  declines : (edition : EditionData) (answer : Offered)
      → Does end (Offer edition) end (Answered answer)
  adopts : (edition : EditionData)
      → Does end (Offer edition) (with_known end edition) (Answered Adopted)
  stays : (number : ℕ) → Does end (Allow number) end (Allowed false)
  writes : (number : ℕ) → Does end (Allow number) (with_writes end) (Allowed true)

refusal-cases : (ipv6 long : Bool) (rest : Option DownFault)
    → cond (not ipv6) (Some NotIpv6) (cond long (Some TooLong) rest) ≡ None → (ipv6 ≡ true)
    × (long ≡ false)
refusal-cases true true rest e = absurd cc
refusal-cases true false rest e = (refl, refl)
refusal-cases false long rest e = absurd cc

-- a packet that isn't refused is IPv6, and has at most 1,500 bytes
pub refusal-none : (end : EndData) (packet : List ℕ) → refusal end packet ≡ None
    → (has_ipv6_header packet ≡ true) × (length packet ≤ max_packet)
unfolding refusal
refusal-none end packet e =
    let parts = refusal-cases (has_ipv6_header packet) (nat_lt max_packet (length packet)) _ e in
    (parts.0, ltb-false max_packet (length packet) parts.1)

down-does : (end : EndData) (packet : List ℕ) (o : Option DownFault) → refusal end packet ≡ o →
    let s = down_from end (form_of end packet) o in Does end (Down packet) s.0 (Handed s.1)
unfolding down_from
down-does end packet (Some fault) e = Does.refuses packet fault
down-does end packet None e = let parts = refusal-none end packet e in
    Does.accepts packet parts.0 parts.1

slot-does : (end : EndData) (t : Turn) → turn end ≡ t → let s = slot_from end t in
    Does end Slot s.0 (Sent s.1)
unfolding slot_from
slot-does end (Serves given) e = Does.serves given e
slot-does end (Sends form) e = Does.sends form e
slot-does end (Begins form) e = Does.begins form e
slot-does end Rests e = Does.rests e

take-does : (end : EndData) (frame : FrameData) (meaning : PortMeaning)
    → meaning_of end.role frame.port ≡ meaning → let s = take_from end frame meaning in
    Does end (Take frame) s.0 (Took s.1)
unfolding take_from
take-does end frame Whole e = Does.takes_whole frame e
take-does end frame (Fragments params) e = Does.takes_part frame (subst IsSessionMeaning (sym e) tt)
take-does end frame (Answers params) e = Does.takes_part frame (subst IsSessionMeaning (sym e) tt)
take-does end frame Unknown e = Does.takes_none frame e

offer-does : (end : EndData) (edition : EditionData) (older : Bool) (id : Option ℕ) →
    let s = offer_from end edition older id in Does end (Offer edition) s.0 (Answered s.1)
unfolding offer_from
offer-does end edition true id = Does.declines edition Older
offer-does end edition false (Some id) = Does.declines edition (Diverged id)
offer-does end edition false None = Does.adopts edition

allow-does : (end : EndData) (number : ℕ) (b : Bool) → let s = allow_from end b in
    Does end (Allow number) s.0 (Allowed s.1)
unfolding allow_from
allow-does end number true = Does.writes number
allow-does end number false = Does.stays number

-- each step is one of the cases
pub end_step-does : (end : EndData) (event : EndEvent)
    → Does end event (end_step end event).0 (end_step end event).1
unfolding end_step down_step slot_step take_step offer_step allow_step
end_step-does end (Down packet) = down-does end packet (refusal end packet) refl
end_step-does end Slot = slot-does end (turn end) refl
end_step-does end (Take frame) = take-does end frame (meaning_of end.role frame.port) refl
end_step-does end Tick = Does.ticks
end_step-does end Abort = Does.aborts
end_step-does end (Offer edition) =
    offer-does end edition (nat_le edition.number end.known.number)
    (diverged end.known.rules edition.rules)
end_step-does end (Allow number) = allow-does end number (number == end.known.number)
