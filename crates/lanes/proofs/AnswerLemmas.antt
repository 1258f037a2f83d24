-- An ACK with a C of 1 comes of a receiver that has finished.
use Rattle.std.specs.Prelude.{ℕ, ◌≡◌, ◌+◌, ◌/◌, Bool, true, false, List, [], ◌++◌, length}
use Rattle.std.specs.Prelude.{replicate, Option, Some, None, option_map, IfOk, Result, Ok}
use Rattle.std.proofs.Common.{arith, refl, sym, ap, subst, ◌∙◌}
use Rattle.std.proofs.lemmas.List.{append_assoc, append-nil}
use Rattle.schc_bits.specs.Bits.{number_bits, octets}
use Rattle.schc_bits.proofs.NumberBits.{length-number_bits}
use Rattle.schc_ids.specs.Fragments.{params_of}
use Rattle.schc_ids.specs.declared.faults.WireFault.{WireFault}
use Rattle.schc_ids.specs.declared.fragments.FragMode.{FragMode}
use Rattle.schc_ids.specs.declared.fragments.FragMode.TheVariants as mode
use Rattle.schc_ids.specs.declared.fragments.Side.TheVariants as side
use Rattle.schc_ids.specs.declared.phases.ReceiverPhase.TheVariants as phase
use Rattle.frag_wire.specs.Answers.{answer_head, kept_bits}
use Rattle.frag_wire.specs.Fields.{number_in}
use Rattle.frag_wire.specs.Forms.{all_ones}
use Rattle.frag_wire.specs.Layouts.{payload_in, written}
use Rattle.frag_wire.specs.Spells.{SpellsIn, reading_in}
use Rattle.frag_wire.specs.declared.message.Message.{Message}
use Rattle.frag_wire.specs.declared.message.Message.TheVariants as form
use Rattle.frag_wire.proofs.FormsLemmas.{head-fcn}
use Rattle.frag_wire.proofs.ReadingLemmas.{read-spells}
use Rattle.frag_wire.proofs.WrittenLemmas.{zeros, octets-written, length-written}
use Rattle.aa_receiver.specs.State as aa
use Rattle.aa_receiver.specs.Steps as aa_step
use Rattle.aoe_receiver.specs.State as aoe
use Rattle.aoe_receiver.specs.Steps as aoe_step
use Rattle.sessions.specs.Receivers.{receiver_mode, receiver_phase, receiver_due}
use Rattle.sessions.specs.declared.receivers.Receiver.{Receiver}
use Rattle.sessions.specs.declared.receivers.Receiver.TheVariants.{NoAck, AckAlways, AckOnError}
use Rattle.lanes.proofs.WireLemmas.{is-mapped}

-- bytes that are read as an ACK with a C of 1 have that bit, and are one byte
record IsDone (w_bits : ℕ) (bytes : List ℕ) : Type 0 where
  flag : number_in w_bits 1 bytes ≡ 1
  one : length bytes ≡ 1

spells-of : (m : FragMode) (bytes : List ℕ) (message : Message)
    → IfOk (reading_in m side.Answers bytes)
    (λ message. SpellsIn m side.Answers message (payload_in message (octets bytes)) bytes)
    → reading_in m side.Answers bytes ≡ Ok message
    → SpellsIn m side.Answers message (payload_in message (octets bytes)) bytes
spells-of m bytes message h e =
    subst (λ (reading : Result Message WireFault). IfOk reading
    (λ message. SpellsIn m side.Answers message (payload_in message (octets bytes)) bytes)) e h

done-is : (m : FragMode) (bytes : List ℕ) (w bitmap : ℕ)
    → reading_in m side.Answers bytes ≡ Ok (form.Ack w true bitmap)
    → IsDone (params_of m).w_bits bytes
done-is mode.NoAck bytes w bitmap e = absurd cc
done-is mode.AckAlways bytes w bitmap e =
    let spells =
    spells-of mode.AckAlways bytes (form.Ack w true bitmap)
    (read-spells mode.AckAlways side.Answers bytes
    (reading_in mode.AckAlways side.Answers bytes) tt refl) e in
    record {
      flag = head-fcn bytes 1 1 w 1 spells.0.padding spells.0.bits (omega arith);
      one =
          spells.1;
    }
done-is mode.AckOnError bytes w bitmap e =
    let spells =
    spells-of mode.AckOnError bytes (form.Ack w true bitmap)
    (read-spells mode.AckOnError side.Answers bytes
    (reading_in mode.AckOnError side.Answers bytes) tt refl) e in
    record {
      flag = head-fcn bytes 2 1 w 1 spells.0.padding spells.0.bits (omega arith);
      one =
          spells.1;
    }

-- an ACK with a C of 0 isn't one
some-not : (m : FragMode) (w bitmap : ℕ)
    → IsDone (params_of m).w_bits (written (params_of m) (form.Ack w false bitmap) []) → ⊥
some-not m w bitmap done =
    let w_bits : ℕ = (params_of m).w_bits in
    let kept : List Bool = kept_bits (w_bits + 1) (number_bits (params_of m).window bitmap) in
    let front : List Bool = answer_head w_bits w 0 ++ kept in
    let bytes : List ℕ = written (params_of m) (form.Ack w false bitmap) [] in
    let rest : List Bool = [] ++ replicate (zeros (front ++ [])) false in
    let bits : octets bytes ≡ answer_head w_bits w 0 ++ (kept ++ rest) = octets-written front []
    ∙ append_assoc (answer_head w_bits w 0) kept rest in
    let flag : number_in w_bits 1 bytes ≡ 0 =
    head-fcn bytes w_bits 1 w 0 (kept ++ rest) bits (omega arith) in
    absurd (omega (arith, flag, done.flag))

-- and a Receiver-Abort isn't one
abort-not : (m : FragMode)
    → IsDone (params_of m).w_bits (written (params_of m) form.ReceiverAbort []) → ⊥
abort-not m done =
    let size : length
    (written (params_of m) form.ReceiverAbort []) ≡ (length
    (number_bits 16 (all_ones 16) ++ []) + 7) / 8 =
    length-written (number_bits 16 (all_ones 16) ++ []) in
    let bits : length (number_bits 16 (all_ones 16) ++ []) ≡ 16 =
    ap length (append-nil (number_bits 16 (all_ones 16)))
    ∙ length-number_bits 16 (all_ones 16) in
    let one = done.one in
    absurd (omega arith)

-- the message is an ACK with a C of 0, or a Receiver-Abort
abbrev IsOpen : Message → Type 0
IsOpen (form.Ack w true bitmap) = ⊥
IsOpen (form.Ack w false bitmap) = Unit {0}
IsOpen form.ReceiverAbort = Unit {0}
IsOpen (form.Regular w fcn from) = ⊥
IsOpen (form.All1 w rcs from) = ⊥
IsOpen (form.AckReq w) = ⊥
IsOpen form.SenderAbort = ⊥

open-not : (m : FragMode) (message : Message) → IsOpen message
    → IsDone (params_of m).w_bits (written (params_of m) message []) → ⊥
open-not m (form.Ack w true bitmap) h done = h
open-not m (form.Ack w false bitmap) h done = some-not m w bitmap done
open-not m form.ReceiverAbort h done = abort-not m done
open-not m (form.Regular w fcn from) h done = h
open-not m (form.All1 w rcs from) h done = h
open-not m (form.AckReq w) h done = h
open-not m form.SenderAbort h done = h

-- where what is due isn't such a message, the receiver has finished
abbrev Ends : (Message → Type 0) → Option Message → Type 0 → Type 0
Ends P None finished = Unit {0}
Ends P (Some message) finished = (P message → ⊥) → finished

not-given : (m : FragMode) (answer : Option Message) (finished : Type 0) (bytes : List ℕ)
    → Ends IsOpen answer finished
    → option_map (λ message. written (params_of m) message []) answer ≡ Some bytes
    → IsDone (params_of m).w_bits bytes → finished
not-given m None finished bytes ends e done = absurd cc
not-given m (Some message) finished bytes ends e done =
    let k = is-mapped (λ (message : Message). written (params_of m) message []) (Some message) bytes
    e in
    let same : written (params_of m) message [] ≡ bytes = cc in
    ends (λ h. open-not m message h (subst (IsDone (params_of m).w_bits) (sym same) done))

aa-ends : (r : aa.AaReceiverData)
    → Ends IsOpen (aa_step.due_answer r) (aa.receiver_phase r ≡ phase.Finished)
unfolding aa_step.due_answer
aa-ends (aa.Empty true) = λ f. absurd (f tt)
aa-ends (aa.Empty false) = tt
aa-ends (aa.Gathering bits count None) = tt
aa-ends (aa.Gathering bits count (Some answer)) = λ f. absurd (f tt)
aa-ends (aa.Finished last true) = λ f. refl
aa-ends (aa.Finished last false) = tt

aoe-ends : (r : aoe.AoeReceiverData)
    → Ends IsOpen (aoe_step.due_answer r) (aoe.receiver_phase r ≡ phase.Finished)
unfolding aoe_step.due_answer aoe_step.gathering_answer aoe.receiver_phase
aoe-ends (aoe.Empty true) = λ f. absurd (f tt)
aoe-ends (aoe.Empty false) = tt
aoe-ends (aoe.Gathering tiles kept true) = λ f. absurd (f tt)
aoe-ends (aoe.Gathering tiles kept false) = tt
aoe-ends (aoe.Finished tiles last true) = λ f. refl
aoe-ends (aoe.Finished tiles last false) = tt

-- where the answer that is due is read as an ACK with a C of 1, the receiver has finished
pub due-finished : (m : FragMode) (r : Receiver) (bytes : List ℕ) (w bitmap : ℕ)
    → receiver_mode r ≡ m → receiver_due r ≡ Some bytes
    → reading_in m side.Answers bytes ≡ Ok (form.Ack w true bitmap)
    → receiver_phase r ≡ phase.Finished
unfolding receiver_due receiver_phase aoe_step.due_bytes
due-finished m (NoAck r) bytes w bitmap same e read = absurd cc
due-finished m (AckAlways r) bytes w bitmap same e read =
    not-given mode.AckAlways (aa_step.due_answer r) (aa.receiver_phase r ≡ phase.Finished) bytes
    (aa-ends r) e
    (done-is mode.AckAlways bytes w bitmap
    (subst (λ (m : FragMode). reading_in m side.Answers bytes ≡ Ok (form.Ack w true bitmap))
    (sym same) read))
due-finished m (AckOnError r) bytes w bitmap same e read =
    not-given mode.AckOnError (aoe_step.due_answer r) (aoe.receiver_phase r ≡ phase.Finished) bytes
    (aoe-ends r) e
    (done-is mode.AckOnError bytes w bitmap
    (subst (λ (m : FragMode). reading_in m side.Answers bytes ≡ Ok (form.Ack w true bitmap))
    (sym same) read))
