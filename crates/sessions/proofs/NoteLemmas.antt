-- A frame is never refused for a packet that can't be unpacked.
use Rattle.std.specs.Prelude.{ℕ, ◌≡◌, ◌==◌, Bool, true, false, if◌then◌else◌, List, Option, Some}
use Rattle.std.specs.Prelude.{None, Result, Ok, Err}
use Rattle.std.proofs.Common.{refl, sym, ap, subst, ◌∙◌}
use Rattle.schc_bits.specs.Bits.{octets}
use Rattle.schc_ids.specs.declared.faults.WireFault.{WireFault}
use Rattle.schc_ids.specs.declared.fragments.Side.TheVariants as side
use Rattle.schc_ids.specs.declared.notes.Heard.{Heard}
use Rattle.schc_ids.specs.declared.notes.Heard.TheVariants as heard
use Rattle.schc_ids.specs.declared.notes.Note.{Note}
use Rattle.schc_ids.specs.declared.notes.Note.TheVariants as note
use Rattle.schc_ids.specs.declared.notes.Report.{Report}
use Rattle.event_data.specs.Outcomes.{IsNote}
use Rattle.frag_wire.specs.Layouts.{payload_in}
use Rattle.frag_wire.specs.Spells.{reading_in}
use Rattle.frag_wire.specs.declared.message.Message.{Message}
use Rattle.frag_wire.specs.declared.message.Message.TheVariants as form
use Rattle.lorawan_profile.specs.Ports.{meaning_of}
use Rattle.lorawan_profile.specs.declared.ports.PortMeaning.{PortMeaning}
use Rattle.lorawan_profile.specs.declared.ports.PortMeaning.TheVariants.{Fragments, Answers, Whole}
use Rattle.lorawan_profile.specs.declared.ports.PortMeaning.TheVariants.{Unknown}
use Rattle.reassembly.specs.Joining.{has_room, passes}
use Rattle.no_ack.specs.ReceiverState as no_ack
use Rattle.no_ack.specs.ReceiverSteps as no_ack_step
use Rattle.aa_receiver.specs.State as aa
use Rattle.aa_receiver.specs.Steps as aa_step
use Rattle.aa_receiver.specs.declared.states.TileAnswer.{TileAnswer}
use Rattle.aoe_receiver.specs.State as aoe
use Rattle.aoe_receiver.specs.Steps as aoe_step
use Rattle.sessions.specs.Data.{SessionsData, port_key}
use Rattle.sessions.specs.Keys.{SessionKey, found}
use Rattle.sessions.specs.Receivers.{receiver_taken}
use Rattle.sessions.specs.Reception.{Reception, reception_taken}
use Rattle.sessions.specs.Session.{Session, session_heard, heard_note}
use Rattle.sessions.specs.Steps.{fragment_taken, fragment_read, answer_taken, answer_read}
use Rattle.sessions.specs.Steps.{take_from, take_step}
use Rattle.sessions.specs.declared.receivers.Receiver.{Receiver}
use Rattle.sessions.specs.declared.receivers.Receiver.TheVariants.{NoAck, AckAlways, AckOnError}

if-note : {A : Type 0} (b : Bool) (x y : A × Note) → IsNote x.1 → IsNote y.1
    → IsNote (if b then x else y).1
if-note true x y h k = h
if-note false x y h k = k

-- No-ACK
stored-note : (kept tile : List Bool) (room : Bool) → IsNote (no_ack_step.stored kept tile room).1
unfolding no_ack_step.stored
stored-note kept tile true = tt
stored-note kept tile false = tt

ended-note : (passed : Bool) → IsNote (no_ack_step.ended passed).1
unfolding no_ack_step.ended
ended-note true = tt
ended-note false = tt

joined-note : (kept tile : List Bool) (rcs : ℕ) (room : Bool)
    → IsNote (no_ack_step.joined_last kept tile rcs room).1
unfolding no_ack_step.joined_last
joined-note kept tile rcs true = ended-note (passes kept tile rcs)
joined-note kept tile rcs false = tt

given_up-note : (r : no_ack.NoAckReceiverData) → IsNote (no_ack_step.given_up r).1
unfolding no_ack_step.given_up
given_up-note no_ack.Empty = tt
given_up-note (no_ack.Gathering kept) = tt

no_ack-note : (message : Message) (payload : List Bool) (r : no_ack.NoAckReceiverData)
    → IsNote (no_ack_step.taken message payload r).1
unfolding no_ack_step.taken no_ack_step.tile_step no_ack_step.last_step
no_ack-note (form.Regular w fcn from) tile r =
    stored-note (no_ack.kept_by r) tile (has_room (no_ack.kept_by r) tile)
no_ack-note (form.All1 w rcs from) tile r =
    joined-note (no_ack.kept_by r) tile rcs (has_room (no_ack.kept_by r) tile)
no_ack-note form.SenderAbort payload r = given_up-note r
no_ack-note (form.Ack w c bitmap) payload r = tt
no_ack-note (form.AckReq w) payload r = tt
no_ack-note form.ReceiverAbort payload r = tt

-- ACK-Always
next-note : (bits : List Bool) (count w : ℕ) (part : List Bool) (room : Bool)
    → IsNote (aa_step.next_tile bits count w part room).1
unfolding aa_step.next_tile
next-note bits count w part true = tt
next-note bits count w part false = tt

before-repeat : (bits : List Bool) (count : ℕ) (answer : Option TileAnswer) (w : ℕ) (first : Bool)
    → IsNote (aa_step.before bits count answer w note.Repeat first).1
unfolding aa_step.before
before-repeat bits count answer w true = tt
before-repeat bits count answer w false = tt

before-asked : (bits : List Bool) (count : ℕ) (answer : Option TileAnswer) (w : ℕ) (first : Bool)
    → IsNote (aa_step.before bits count answer w note.Asked first).1
unfolding aa_step.before
before-asked bits count answer w true = tt
before-asked bits count answer w false = tt

regular-note : (w : ℕ) (part : List Bool) (r : aa.AaReceiverData)
    → IsNote (aa_step.regular_step w part r).1
unfolding aa_step.regular_step
regular-note w part (aa.Empty abort) = tt
regular-note w part (aa.Gathering bits count answer) =
    if-note (w == aa_step.open_window count) _ _ (next-note bits count w part (has_room bits part))
    (before-repeat bits count answer w (count == 0))
regular-note w part (aa.Finished last answer) = tt

last-note : (bits : List Bool) (count w : ℕ) (room passed : Bool)
    → IsNote (aa_step.last_tile bits count w room passed).1
unfolding aa_step.last_tile
last-note bits count w false passed = tt
last-note bits count w true true = tt
last-note bits count w true false = tt

finished-note : (w last : ℕ) (answer : Bool) → IsNote (aa_step.finished_step w last answer).1
unfolding aa_step.finished_step
finished-note w last answer = if-note (w == last) _ _ tt tt

all1-note : (w rcs : ℕ) (part : List Bool) (r : aa.AaReceiverData)
    → IsNote (aa_step.all1_step w rcs part r).1
unfolding aa_step.all1_step
all1-note w rcs part (aa.Empty abort) = tt
all1-note w rcs part (aa.Gathering bits count answer) =
    if-note (w == aa_step.open_window count) _ _
    (last-note bits count w (has_room bits part) (passes bits part rcs)) tt
all1-note w rcs part (aa.Finished last answer) = finished-note w last answer

ack_req-note : (w : ℕ) (r : aa.AaReceiverData) → IsNote (aa_step.ack_req_step w r).1
unfolding aa_step.ack_req_step
ack_req-note w (aa.Empty abort) = tt
ack_req-note w (aa.Gathering bits count answer) =
    if-note (w == aa_step.open_window count) _ _ tt (before-asked bits count answer w (count == 0))
ack_req-note w (aa.Finished last answer) = finished-note w last answer

abort-note : (r : aa.AaReceiverData) → IsNote (aa_step.abort_step r).1
unfolding aa_step.abort_step
abort-note (aa.Empty abort) = tt
abort-note (aa.Gathering bits count answer) = tt
abort-note (aa.Finished last answer) = tt

other-note : (r : aa.AaReceiverData) → IsNote (aa_step.other_step r).1
unfolding aa_step.other_step
other-note (aa.Empty abort) = tt
other-note (aa.Gathering bits count answer) = tt
other-note (aa.Finished last answer) = tt

aa-note : (message : Message) (payload : List Bool) (r : aa.AaReceiverData)
    → IsNote (aa_step.taken message payload r).1
unfolding aa_step.taken
aa-note (form.Regular w fcn from) part r = regular-note w part (aa_step.entered w r)
aa-note (form.All1 w rcs from) part r = all1-note w rcs part (aa_step.entered w r)
aa-note (form.AckReq w) part r = ack_req-note w (aa_step.entered w r)
aa-note form.SenderAbort part r = abort-note r
aa-note (form.Ack w c bitmap) part r = other-note r
aa-note form.ReceiverAbort part r = other-note r

-- ACK-on-Error
if-is : (b : Bool) (x y : Note) → IsNote x → IsNote y → IsNote (if b then x else y)
if-is true x y h k = h
if-is false x y h k = k

aoe-regular : (place : ℕ) (new : List (List Bool)) (r : aoe.AoeReceiverData)
    → IsNote (aoe_step.regular_step place new r).1
unfolding aoe_step.regular_step
aoe-regular place new (aoe.Empty abort) = tt
aoe-regular place new (aoe.Gathering tiles kept answer) = if-is _ note.Repeat note.Stored tt tt
aoe-regular place new (aoe.Finished tiles last answer) = tt

check-note : (tiles : List (Option (List Bool))) (last : aoe.LastData) (passed : Bool)
    → IsNote (aoe_step.check_step tiles last passed).1
unfolding aoe_step.check_step
check-note tiles last true = tt
check-note tiles last false = tt

aoe-all1 : (last : aoe.LastData) (r : aoe.AoeReceiverData) → IsNote (aoe_step.all1_step last r).1
unfolding aoe_step.all1_step
aoe-all1 last (aoe.Empty abort) = tt
aoe-all1 last (aoe.Gathering tiles kept answer) = check-note tiles last (aoe_step.passes tiles last)
aoe-all1 last (aoe.Finished tiles old answer) = tt

aoe-ack_req : (r : aoe.AoeReceiverData) → IsNote (aoe_step.ack_req_step r).1
unfolding aoe_step.ack_req_step
aoe-ack_req (aoe.Empty abort) = tt
aoe-ack_req (aoe.Gathering tiles None answer) = tt
aoe-ack_req (aoe.Gathering tiles (Some last) answer) =
    check-note tiles last (aoe_step.passes tiles last)
aoe-ack_req (aoe.Finished tiles last answer) = tt

aoe-abort : (r : aoe.AoeReceiverData) → IsNote (aoe_step.abort_step r).1
unfolding aoe_step.abort_step
aoe-abort (aoe.Empty abort) = tt
aoe-abort (aoe.Gathering tiles kept answer) = tt
aoe-abort (aoe.Finished tiles last answer) = tt

aoe-other : (r : aoe.AoeReceiverData) → IsNote (aoe_step.other_step r).1
unfolding aoe_step.other_step
aoe-other (aoe.Empty abort) = tt
aoe-other (aoe.Gathering tiles kept answer) = tt
aoe-other (aoe.Finished tiles last answer) = tt

aoe-note : (message : Message) (payload : List Bool) (r : aoe.AoeReceiverData)
    → IsNote (aoe_step.taken message payload r).1
unfolding aoe_step.taken
aoe-note (form.Regular w fcn from) payload r = aoe-regular _ _ (aoe_step.begun r)
aoe-note (form.All1 w rcs from) payload r = aoe-all1 _ (aoe_step.begun r)
aoe-note (form.AckReq w) payload r = aoe-ack_req (aoe_step.begun r)
aoe-note form.SenderAbort payload r = aoe-abort r
aoe-note (form.Ack w c bits) payload r = aoe-other r
aoe-note form.ReceiverAbort payload r = aoe-other r

-- whatever the mode
taken-note : (message : Message) (payload : List Bool) (r : Receiver)
    → IsNote (receiver_taken message payload r).1
unfolding receiver_taken
taken-note message payload (NoAck r) = no_ack-note message payload r
taken-note message payload (AckAlways r) = aa-note message payload r
taken-note message payload (AckOnError r) = aoe-note message payload r

fragment-note : (s : SessionsData) (key : SessionKey) (message : Message) (payload : List Bool)
    (o : Option Reception) → IsNote (fragment_taken s key message payload o).1
unfolding fragment_taken reception_taken
fragment-note s key message payload None = tt
fragment-note s key message payload (Some reception) = taken-note message payload reception.receiver

read-note : (s : SessionsData) (key : SessionKey) (bytes : List ℕ) (read : Result Message WireFault)
    → IsNote (fragment_read s key bytes read).1
unfolding fragment_read
read-note s key bytes (Err fault) = tt
read-note s key bytes (Ok message) =
    fragment-note s key message (payload_in message (octets bytes)) (found key s.receivers)

heard-note : (h : Heard) → IsNote (heard_note h)
heard-note heard.Nothing = tt
heard-note heard.Counted = tt
heard-note heard.Delivered = tt
heard-note heard.NeverPasses = tt
heard-note heard.PeerAborted = tt
heard-note heard.Spent = tt
heard-note heard.Aborted = tt

answer-note : (s : SessionsData) (key : SessionKey) (message : Message) (o : Option Session)
    → IsNote (answer_taken s key message o).1.0
unfolding answer_taken
answer-note s key message None = tt
answer-note s key message (Some session) =
    heard-note (session_heard s.params.ticks message session).1

answered-note : (s : SessionsData) (key : SessionKey) (read : Result Message WireFault)
    → IsNote (answer_read s key read).1.0
unfolding answer_read
answered-note s key (Err fault) = tt
answered-note s key (Ok message) = answer-note s key message (found key s.senders)

from-note : (s : SessionsData) (key : SessionKey) (bytes : List ℕ) (means : PortMeaning)
    → IsNote (take_from s key bytes means).1.0
unfolding take_from
from-note s key bytes (Fragments params) =
    read-note s key bytes (reading_in params.mode side.Fragments bytes)
from-note s key bytes (Answers params) =
    answered-note s key (reading_in params.mode side.Answers bytes)
from-note s key bytes Whole = tt
from-note s key bytes Unknown = tt

-- no frame that is taken is noted as refused for want of memory
pub take-note : (port : ℕ) (bytes : List ℕ) (s : SessionsData) → IsNote (take_step port bytes s).1.0
unfolding take_step
take-note port bytes s = from-note s (port_key port) bytes (meaning_of s.role port)
