-- No step changes an end's role and parameters, nor that its sessions are those of its role and
-- with its parameters.
use Rattle.std.proofs.Common.{◌≡◌, ℕ, ◌==◌, Bool, true, false, List, Option, Some, None, Result, Ok}
use Rattle.std.proofs.Common.{Err, nat_le, refl, sym, ◌∙◌}
use Rattle.schc_bits.specs.Bits.{octets}
use Rattle.schc_ids.specs.declared.faults.WireFault.{WireFault}
use Rattle.schc_ids.specs.declared.fragments.Side.TheVariants as side
use Rattle.editions.specs.Data.{EditionData}
use Rattle.editions.specs.Followed.{diverged}
use Rattle.packer.specs.declared.packing.Packed.{Packed}
use Rattle.frag_wire.specs.Layouts.{payload_in}
use Rattle.frag_wire.specs.Spells.{reading_in}
use Rattle.frag_wire.specs.declared.message.Message.{Message}
use Rattle.lorawan_profile.specs.Ports.{meaning_of}
use Rattle.lorawan_profile.specs.declared.ports.PortMeaning.{PortMeaning}
use Rattle.lorawan_profile.specs.declared.ports.PortMeaning.TheVariants.{Fragments, Answers, Whole}
use Rattle.lorawan_profile.specs.declared.ports.PortMeaning.TheVariants.{Unknown}
use Rattle.event_data.specs.Records.{FrameData}
use Rattle.event_data.specs.declared.outcomes.DownFault.{DownFault}
use Rattle.event_data.specs.declared.outcomes.EmitKind.{EmitKind}
use Rattle.event_data.specs.declared.outcomes.EmitKind.TheVariants as kind
use Rattle.sessions.specs.Data.{SessionsData, port_key, out_key}
use Rattle.sessions.specs.Keys.{SessionKey, found}
use Rattle.sessions.specs.Reception.{Reception}
use Rattle.sessions.specs.Senders.{sender_due}
use Rattle.sessions.specs.Session.{Session}
use Rattle.sessions.specs.Steps.{Choice, Idle, GivesAnswer, GivesMessage, new_session, sends}
use Rattle.sessions.specs.Steps.{begin_step, next_from, next_number, fragment_taken, fragment_read}
use Rattle.sessions.specs.Steps.{answer_taken, answer_read, take_from, take_step, tick_step}
use Rattle.sessions.specs.Steps.{aborted_from, abort_step}
use Rattle.end_core.specs.Data.{EndData}
use Rattle.end_core.specs.Events.{EndEvent, Down, Slot, Take, Tick, Abort, Offer, Allow}
use Rattle.end_core.specs.End as end_of
use Rattle.end_core.specs.End.{Turn, Serves, Sends, Begins, Rests}
use Rattle.end_core.specs.EndStep.{end_step}

-- Of the sessions.

-- the sessions are those of the same end
pub record IsOfSame (before : SessionsData) (after : SessionsData) : Type 0 where
  pub role : after.role ≡ before.role
  pub params : after.params ≡ before.params

same : (s : SessionsData) → IsOfSame s s
same s = record { role = refl; params = refl }

sends-same : (s : SessionsData) (key : SessionKey) (session : Session) (kind : EmitKind)
    (bytes : Option (List ℕ)) → IsOfSame s (sends s key session kind bytes).0
unfolding sends
sends-same s key session kind None = same s
sends-same s key session kind (Some bytes) = record { role = refl; params = refl }

begin-same : (bits : List Bool) (s : SessionsData) → IsOfSame s (begin_step bits s).0
unfolding begin_step
begin-same bits s =
    let h = sends-same (record s { next = next_number s.next }) (out_key s.role s.params.acked)
    (new_session bits s) (kind.Begins s.next) (sender_due (new_session bits s).sender) in
    record { role = h.role; params = h.params }

next-same : (s : SessionsData) (given : Choice) → IsOfSame s (next_from s given).0
unfolding next_from
next-same s Idle = same s
next-same s (GivesAnswer key reception bytes) = record { role = refl; params = refl }
next-same s (GivesMessage key session bytes) =
    sends-same s key session (kind.Goes session.number) bytes

fragment-same : (s : SessionsData) (key : SessionKey) (message : Message) (payload : List Bool)
    (reception : Option Reception) → IsOfSame s (fragment_taken s key message payload reception).0
unfolding fragment_taken
fragment-same s key message payload None = same s
fragment-same s key message payload (Some reception) = record { role = refl; params = refl }

answer-same : (s : SessionsData) (key : SessionKey) (message : Message) (session : Option Session)
    → IsOfSame s (answer_taken s key message session).0
unfolding answer_taken
answer-same s key message None = same s
answer-same s key message (Some session) = record { role = refl; params = refl }

fragment_read-same : (s : SessionsData) (key : SessionKey) (bytes : List ℕ)
    (reading : Result Message WireFault) → IsOfSame s (fragment_read s key bytes reading).0
unfolding fragment_read
fragment_read-same s key bytes (Err fault) = same s
fragment_read-same s key bytes (Ok message) =
    fragment-same s key message (payload_in message (octets bytes)) (found key s.receivers)

answer_read-same : (s : SessionsData) (key : SessionKey) (reading : Result Message WireFault)
    → IsOfSame s (answer_read s key reading).0
unfolding answer_read
answer_read-same s key (Err fault) = same s
answer_read-same s key (Ok message) = answer-same s key message (found key s.senders)

taken-same : (s : SessionsData) (key : SessionKey) (bytes : List ℕ) (meaning : PortMeaning)
    → IsOfSame s (take_from s key bytes meaning).0
unfolding take_from
taken-same s key bytes (Fragments params) =
    fragment_read-same s key bytes (reading_in params.mode side.Fragments bytes)
taken-same s key bytes (Answers params) =
    answer_read-same s key (reading_in params.mode side.Answers bytes)
taken-same s key bytes Whole = same s
taken-same s key bytes Unknown = same s

take-same : (port : ℕ) (bytes : List ℕ) (s : SessionsData) → IsOfSame s (take_step port bytes s).0
unfolding take_step
take-same port bytes s = taken-same s (port_key port) bytes (meaning_of s.role port)

tick-same : (s : SessionsData) → IsOfSame s (tick_step s).0
unfolding tick_step
tick-same s = record { role = refl; params = refl }

aborted-same : (s : SessionsData) (key : SessionKey) (session : Option Session)
    → IsOfSame s (aborted_from s key session).0
unfolding aborted_from
aborted-same s key None = same s
aborted-same s key (Some session) = record { role = refl; params = refl }

abort-same : (s : SessionsData) → IsOfSame s (abort_step s).0
unfolding abort_step
abort-same s =
    aborted-same s (out_key s.role s.params.acked) (found (out_key s.role s.params.acked) s.senders)

-- Of the end.

pub record IsSameEnd (before : EndData) (after : EndData) : Type 0 where
  pub role : after.role ≡ before.role
  pub params : after.params ≡ before.params
  pub sessions : IsOfSame before.sessions after.sessions

same-end : (this : EndData) → IsSameEnd this this
same-end this = record { role = refl; params = refl; sessions = same this.sessions }

down-kept : (this : EndData) (form : Packed) (o : Option DownFault)
    → IsSameEnd this (end_of.down_from this form o).0
unfolding end_of.down_from
down-kept this form (Some fault) = same-end this
down-kept this form None = record { role = refl; params = refl; sessions = same this.sessions }

slot-kept : (this : EndData) (t : Turn) → IsSameEnd this (end_of.slot_from this t).0
unfolding end_of.slot_from
slot-kept this (Serves given) =
    record { role = refl; params = refl; sessions = next-same this.sessions given }
slot-kept this (Sends form) = record { role = refl; params = refl; sessions = same this.sessions }
slot-kept this (Begins form) =
    record { role = refl; params = refl; sessions = begin-same form.bits this.sessions }
slot-kept this Rests = same-end this

take-kept : (this : EndData) (frame : FrameData) (meaning : PortMeaning)
    → IsSameEnd this (end_of.take_from this frame meaning).0
unfolding end_of.take_from
take-kept this frame Whole = same-end this
take-kept this frame (Fragments params) =
    record { role = refl; params = refl; sessions = take-same frame.port frame.bytes this.sessions }
take-kept this frame (Answers params) =
    record { role = refl; params = refl; sessions = take-same frame.port frame.bytes this.sessions }
take-kept this frame Unknown = same-end this

offer-kept : (this : EndData) (edition : EditionData) (older : Bool) (id : Option ℕ)
    → IsSameEnd this (end_of.offer_from this edition older id).0
unfolding end_of.offer_from
offer-kept this edition true id = same-end this
offer-kept this edition false (Some id) = same-end this
offer-kept this edition false None =
    record { role = refl; params = refl; sessions = same this.sessions }

allow-kept : (this : EndData) (b : Bool) → IsSameEnd this (end_of.allow_from this b).0
unfolding end_of.allow_from
allow-kept this true = record { role = refl; params = refl; sessions = same this.sessions }
allow-kept this false = same-end this

-- each step keeps them
pub end_step-kept : (this : EndData) (event : EndEvent) → IsSameEnd this (end_step this event).0
unfolding end_step end_of.down_step end_of.slot_step end_of.take_step end_of.tick_step
    end_of.abort_step end_of.offer_step end_of.allow_step
end_step-kept this (Down packet) =
    down-kept this (end_of.form_of this packet) (end_of.refusal this packet)
end_step-kept this Slot = slot-kept this (end_of.turn this)
end_step-kept this (Take frame) = take-kept this frame (meaning_of this.role frame.port)
end_step-kept this Tick = record { role = refl; params = refl; sessions = tick-same this.sessions }
end_step-kept this Abort =
    record { role = refl; params = refl; sessions = abort-same this.sessions }
end_step-kept this (Offer edition) =
    offer-kept this edition (nat_le edition.number this.known.number)
    (diverged this.known.rules edition.rules)
end_step-kept this (Allow number) = allow-kept this (number == this.known.number)

-- the sessions are those of the end
pub record IsOwn (this : EndData) : Type 0 where
  pub of_role : this.sessions.role ≡ this.role
  pub with_params : this.sessions.params ≡ this.params

pub end_step-own : (this : EndData) (event : EndEvent) → IsOwn this → IsOwn (end_step this event).0
end_step-own this event own =
    let k = end_step-kept this event in
    record {
      of_role = k.sessions.role ∙ own.of_role ∙ sym k.role;
      with_params = k.sessions.params ∙ own.with_params ∙ sym k.params;
    }
