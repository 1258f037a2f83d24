-- What a receiver answers.
use Rattle.std.specs.Prelude.{ℕ, ◌≡◌, ◌-◌, ◌^◌, ◌<◌, ◌≤◌, Bool, true, false, List, [], ◌++◌, length}
use Rattle.std.specs.Prelude.{Some, None}
use Rattle.std.proofs.Common.{arith, refl, subst, sym}
use Rattle.std.proofs.lemmas.List.{append-nil, length-append, length-take}
use Rattle.schc_bits.specs.Bits.{number_bits, padded, bytes_of}
use Rattle.schc_bits.proofs.NumberBits.{length-number_bits}
use Rattle.schc_bits.proofs.Octets.{length-bytes_of, length-padded}
use Rattle.schc_ids.specs.Fragments.{params_of}
use Rattle.schc_ids.specs.declared.fragments.FragMode.TheVariants as mode
use Rattle.schc_ids.specs.declared.fragments.FragParams.{FragParams}
use Rattle.schc_ids.specs.declared.fragments.Side.TheVariants as side
use Rattle.frag_wire.specs.Answers.{answer_head, kept_bits, kept_length}
use Rattle.frag_wire.specs.Layouts.{written}
use Rattle.frag_wire.specs.Spells.{CanSpell}
use Rattle.frag_wire.specs.declared.message.Message.{Message}
use Rattle.frag_wire.specs.declared.message.Message.TheVariants as form
use Rattle.frag_wire.proofs.FormsLemmas.{length-fragment_head}
use Rattle.aa_receiver.specs.State.{AaReceiverData, Empty, Gathering, Finished, IsAaReceiver}
use Rattle.aa_receiver.specs.State.{received, StandsIn}
use Rattle.aa_receiver.specs.Steps.{bitmap_of, due_answer, answered}
use Rattle.aa_receiver.specs.declared.states.State.{State}
use Rattle.aa_receiver.specs.declared.states.State.TheVariants as state

-- what is seen of a receiver
pub is_receiver : (bits : List Bool) (at : State) → StandsIn bits at
    → IsAaReceiver (received bits at)
unfolding received
is_receiver bits (state.Empty abort) stands = tt
is_receiver bits (state.Gathering count answer) stands = stands
is_receiver bits (state.Finished last answer) stands = stands

-- where no answer is due, giving none changes nothing
pub none-answered : (receiver : AaReceiverData) → due_answer receiver ≡ None
    → answered receiver ≡ receiver
unfolding due_answer answered
none-answered (Empty true) e = absurd (cc)
none-answered (Empty false) e = refl
none-answered (Gathering bits count None) e = refl
none-answered (Gathering bits count (Some answer)) e = absurd (cc)
none-answered (Finished last true) e = absurd (cc)
none-answered (Finished last false) e = refl

some-same : (first second : Message) → Some first ≡ Some second → first ≡ second
some-same first second e = cc

bitmap-below : (came : Bool) → bitmap_of came < 2 ^ 1
bitmap-below true = omega arith
bitmap-below false = omega arith

spelt-as : (first second : Message) → Some first ≡ Some second
    → CanSpell (params_of mode.AckAlways) side.Answers first []
    → CanSpell (params_of mode.AckAlways) side.Answers second []
spelt-as first second e can =
    subst (λ (m : Message). CanSpell (params_of mode.AckAlways) side.Answers m [])
    (some-same first second e) can

can-answer : (bits : List Bool) (at : State) (message : Message) → StandsIn bits at
    → due_answer (received bits at) ≡ Some message
    → CanSpell (params_of mode.AckAlways) side.Answers message []
unfolding due_answer received
can-answer bits (state.Empty true) message stands e = spelt-as form.ReceiverAbort message e refl
can-answer bits (state.Empty false) message stands e = absurd (cc)
can-answer bits (state.Gathering count None) message stands e = absurd (cc)
can-answer bits (state.Gathering count (Some answer)) message stands e =
    spelt-as (form.Ack answer.w false (bitmap_of answer.came)) message e
    (omega (arith, stands.2), bitmap-below answer.came, refl)
can-answer bits (state.Finished last true) message stands e =
    spelt-as (form.Ack last true 0) message e (omega (arith, stands), refl, refl)
can-answer bits (state.Finished last false) message stands e = absurd (cc)

-- what is due can be written
pub answer-spelt : (params : FragParams) (bits : List Bool) (at : State) (message : Message)
    → params ≡ params_of mode.AckAlways → StandsIn bits at
    → due_answer (received bits at) ≡ Some message → CanSpell params side.Answers message []
answer-spelt params bits at message row stands e =
    subst (λ (p : FragParams). CanSpell p side.Answers message []) (sym row)
    (can-answer bits at message stands e)

short-written : (front : List Bool) → length front ≤ 16
    → length (bytes_of (padded (front ++ []))) ≤ 2
short-written front h =
    let all : front ++ [] ≡ front = append-nil front in
    let size = length-bytes_of (padded front) in
    let whole = length-padded front in
    subst (λ (list : List Bool). length (bytes_of (padded list)) ≤ 2) (sym all)
    (omega (arith, size, whole, h))

short-of-all : (w : ℕ) → length (answer_head 1 w 1) ≤ 16
short-of-all w = omega (arith, length-fragment_head 1 1 w 1)

short-of-some : (w bitmap : ℕ)
    → length (answer_head 1 w 0 ++ kept_bits 2 (number_bits 1 bitmap)) ≤ 16
unfolding kept_bits
short-of-some w bitmap =
    let front = length-fragment_head 1 1 w 0 in
    let tiles = length-number_bits 1 bitmap in
    let kept = length-take (kept_length 2 (number_bits 1 bitmap) - 2) (number_bits 1 bitmap) in
    omega (
      arith,
      front,
      tiles,
      kept,
      length-append (answer_head 1 w 0)
          (kept_bits 2 (number_bits 1 bitmap)),
    )

room-as : (first second : Message) → Some first ≡ Some second
    → length (written (params_of mode.AckAlways) first []) ≤ 2
    → length (written (params_of mode.AckAlways) second []) ≤ 2
room-as first second e room =
    subst (λ (m : Message). length (written (params_of mode.AckAlways) m []) ≤ 2)
    (some-same first second e) room

has-room : (receiver : AaReceiverData) (message : Message) → due_answer receiver ≡ Some message
    → length (written (params_of mode.AckAlways) message []) ≤ 2
unfolding due_answer
has-room (Empty true) message e =
    room-as form.ReceiverAbort message e
    (short-written (number_bits 16 (2 ^ 16 - 1))
    (omega (arith, length-number_bits 16 (2 ^ 16 - 1))))
has-room (Empty false) message e = absurd (cc)
has-room (Gathering bits count None) message e = absurd (cc)
has-room (Gathering bits count (Some answer)) message e =
    room-as (form.Ack answer.w false (bitmap_of answer.came)) message e
    (short-written (answer_head 1 answer.w 0 ++ kept_bits 2 (number_bits 1 (bitmap_of answer.came)))
    (short-of-some answer.w (bitmap_of answer.came)))
has-room (Finished last true) message e =
    room-as (form.Ack last true 0) message e
    (short-written (answer_head 1 last 1) (short-of-all last))
has-room (Finished last false) message e = absurd (cc)

-- an answer has at most two bytes
pub answer-room : (params : FragParams) (bits : List Bool) (at : State) (message : Message)
    → params ≡ params_of mode.AckAlways → due_answer (received bits at) ≡ Some message
    → length (written params message []) ≤ 2
answer-room params bits at message row e =
    subst (λ (p : FragParams). length (written p message []) ≤ 2) (sym row)
    (has-room (received bits at) message e)
