-- What an end does with a fragment or an answer.
use Rattle.std.proofs.Common.{◌≡◌, ℕ, Bool, true, false, List, Option, Some, None, IsSome, Result}
use Rattle.std.proofs.Common.{Ok, Err, sym, ap, subst, ◌∙◌}
use Rattle.std.proofs.lemmas.Bool.{true≢false}
use Rattle.schc_bits.specs.Bits.{octets}
use Rattle.schc_ids.specs.declared.faults.WireFault.{WireFault}
use Rattle.schc_ids.specs.declared.fragments.Side.TheVariants as side
use Rattle.schc_ids.specs.declared.faults.UnpackFault.{UnpackFault}
use Rattle.schc_ids.specs.declared.notes.Note.{Note}
use Rattle.schc_ids.specs.declared.notes.Report.{Report}
use Rattle.lorawan_profile.specs.Ports.{meaning_of}
use Rattle.lorawan_profile.specs.declared.ports.PortMeaning.{PortMeaning}
use Rattle.lorawan_profile.specs.declared.ports.PortMeaning.TheVariants.{Fragments, Answers, Whole}
use Rattle.lorawan_profile.specs.declared.ports.PortMeaning.TheVariants.{Unknown}
use Rattle.packer.specs.UnpackedData.{UnpackedData}
use Rattle.event_data.specs.Records.{FrameData}
use Rattle.event_data.specs.declared.outcomes.Taken.{Taken}
use Rattle.sessions.specs.Data.{SessionsData, port_key}
use Rattle.sessions.specs.Keys.{SessionKey, found}
use Rattle.sessions.specs.Receivers.{receiver_previewed}
use Rattle.sessions.specs.Reception.{Reception}
use Rattle.sessions.specs.Steps.{take_step, fragment_previewed, read_previewed, preview_from}
use Rattle.sessions.specs.Steps.{preview_of}
use Rattle.sessions.specs.declared.receivers.Receiver.{Receiver}
use Rattle.sessions.specs.declared.receivers.Receiver.TheVariants.{NoAck, AckAlways, AckOnError}
use Rattle.no_ack.specs.ReceiverState.{NoAckReceiverData}
use Rattle.no_ack.specs.ReceiverSteps as no_ack
use Rattle.aa_receiver.specs.State.{AaReceiverData}
use Rattle.aa_receiver.specs.Steps as always
use Rattle.aoe_receiver.specs.State.{AoeReceiverData}
use Rattle.aoe_receiver.specs.Steps as error
use Rattle.frag_wire.specs.Layouts.{payload_in}
use Rattle.frag_wire.specs.Spells.{reading_in}
use Rattle.frag_wire.specs.declared.message.Message.{Message}
use Rattle.frag_wire.specs.declared.message.Message.TheVariants as form
use Rattle.end_core.specs.Data.{EndData}
use Rattle.end_core.specs.End.{with_sessions, assembly_of, joined, taken_part, part_step}
use Rattle.end_core.specs.End.{IsCheckedAt, MayWant}

-- the step, from what its parts gave
pub part-taken : (end : EndData) (frame : FrameData) (number : ℕ) (t : SessionsData)
    (said : Note × Option Report) (o : Option (Result UnpackedData UnpackFault)) {answer : Taken}
    → joined end frame ≡ o → take_step frame.port frame.bytes end.sessions ≡ (t, said)
    → number ≡ end.known.number → answer ≡ taken_part number said o
    → part_step end frame ≡ (with_sessions end t, answer)
part-taken end frame number t said o reads takes is_number is =
    ap (λ p. (with_sessions end p.0, taken_part end.known.number p.1 (joined end frame))) takes
    ∙ ap (λ r. (with_sessions end t, taken_part end.known.number said r)) reads
    ∙ ap (λ n. (with_sessions end t, taken_part n said o)) (sym is_number)
    ∙ ap (λ a. (with_sessions end t, a)) (sym is)

-- An assembly is made only at an All-1 and at an ACK REQ.

none-some : {X : Type 0} → false ≡ true → X
none-some h = absurd (true≢false (sym h))

no_ack-at : (message : Message) (payload : List Bool) (r : NoAckReceiverData)
    → IsSome (no_ack.previewed message payload r) → IsCheckedAt (Ok message)
unfolding no_ack.previewed no_ack.completes
no_ack-at (form.Regular w fcn from) payload r h = none-some h
no_ack-at (form.All1 w rcs from) payload r h = tt
no_ack-at (form.Ack w c bitmap) payload r h = none-some h
no_ack-at (form.AckReq w) payload r h = tt
no_ack-at form.SenderAbort payload r h = none-some h
no_ack-at form.ReceiverAbort payload r h = none-some h

always-at : (message : Message) (payload : List Bool) (r : AaReceiverData)
    → IsSome (always.previewed message payload r) → IsCheckedAt (Ok message)
unfolding always.previewed
always-at (form.Regular w fcn from) payload r h = none-some h
always-at (form.All1 w rcs from) payload r h = tt
always-at (form.Ack w c bitmap) payload r h = none-some h
always-at (form.AckReq w) payload r h = tt
always-at form.SenderAbort payload r h = none-some h
always-at form.ReceiverAbort payload r h = none-some h

error-at : (message : Message) (payload : List Bool) (r : AoeReceiverData)
    → IsSome (error.previewed message payload r) → IsCheckedAt (Ok message)
unfolding error.previewed error.check_made error.if_passed
error-at (form.Regular w fcn from) payload r h = none-some h
error-at (form.All1 w rcs from) payload r h = tt
error-at (form.Ack w c bitmap) payload r h = none-some h
error-at (form.AckReq w) payload r h = tt
error-at form.SenderAbort payload r h = none-some h
error-at form.ReceiverAbort payload r h = none-some h

receiver-at : (message : Message) (payload : List Bool) (r : Receiver)
    → IsSome (receiver_previewed message payload r) → IsCheckedAt (Ok message)
unfolding receiver_previewed
receiver-at message payload (NoAck r) h = no_ack-at message payload r h
receiver-at message payload (AckAlways r) h = always-at message payload r h
receiver-at message payload (AckOnError r) h = error-at message payload r h

fragment-at : (message : Message) (payload : List Bool) (o : Option Reception)
    → IsSome (fragment_previewed message payload o) → IsCheckedAt (Ok message)
unfolding fragment_previewed
fragment-at message payload None h = none-some h
fragment-at message payload (Some reception) h = receiver-at message payload reception.receiver h

read-at : (s : SessionsData) (key : SessionKey) (bytes : List ℕ)
    (reading : Result Message WireFault) → IsSome (read_previewed s key bytes reading)
    → IsCheckedAt reading
unfolding read_previewed
read-at s key bytes (Err fault) h = none-some h
read-at s key bytes (Ok message) h =
    fragment-at message (payload_in message (octets bytes)) (found key s.receivers) h

want-cases : (end : EndData) (frame : FrameData) (meaning : PortMeaning)
    → IsSome (preview_from end.sessions (port_key frame.port) frame.bytes meaning)
    → MayWant frame meaning
unfolding preview_from
want-cases end frame Whole h = tt
want-cases end frame (Fragments params) h =
    read-at end.sessions (port_key frame.port) frame.bytes
    (reading_in params.mode side.Fragments frame.bytes) h
want-cases end frame (Answers params) h = none-some h
want-cases end frame Unknown h = none-some h

-- so memory may be wanting only there
pub part-wants : (end : EndData) (frame : FrameData) → end.sessions.role ≡ end.role
    → IsSome (assembly_of end frame) → MayWant frame (meaning_of end.role frame.port)
unfolding preview_of
part-wants end frame of_role some =
    subst (λ role. MayWant frame (meaning_of role frame.port)) of_role
    (want-cases end frame (meaning_of end.sessions.role frame.port) some)
