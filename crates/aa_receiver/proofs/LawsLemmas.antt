-- Previews and checks.
use Rattle.std.specs.Prelude.{ℕ, ◌≡◌, ◌↔◌, ◌+◌, ◌==◌, ◌≤◌, Bool, true, false, if◌then◌else◌, List}
use Rattle.std.specs.Prelude.{◌++◌, length, Option, Some, None}
use Rattle.std.proofs.Common.{arith, refl, subst}
use Rattle.std.proofs.lemmas.Bool.{eqb-true, leb-true}
use Rattle.std.proofs.lemmas.List.{length-append}
use Rattle.schc_ids.specs.declared.notes.Note.{Note}
use Rattle.schc_ids.specs.declared.notes.Note.TheVariants as note
use Rattle.frag_wire.specs.declared.message.Message.TheVariants as form
use Rattle.rcs.specs.Division.{rcs_of}
use Rattle.reassembly.specs.Joining.{reassembly_bits, has_room, passes}
use Rattle.aa_receiver.specs.Laws.{PreviewJoins, PreviewPasses, PreviewFits}
use Rattle.aa_receiver.specs.State.{AaReceiverData, Empty, Gathering, Finished}
use Rattle.aa_receiver.specs.Steps.{open_window, entered, before, next_tile, regular_step}
use Rattle.aa_receiver.specs.Steps.{last_tile, finished_step, all1_step, ack_req_step, abort_step}
use Rattle.aa_receiver.specs.Steps.{other_step, taken, checked_part, all1_check, checked, passed}
use Rattle.aa_receiver.specs.Steps.{previewed}
use Rattle.aa_receiver.specs.declared.states.TileAnswer.{TileAnswer}

-- the step doesn't join a packet
abbrev Apart : AaReceiverData × Note → Type 0
Apart step = step.1 ≡ note.Joined → ⊥

either : (b : Bool) (x y : AaReceiverData × Note) → Apart x → Apart y → Apart (if b then x else y)
either true x y f g = f
either false x y f g = g

before-apart : (bits : List Bool) (count : ℕ) (answer : Option TileAnswer) (w : ℕ) (meaning : Note)
    (first : Bool) → (meaning ≡ note.Joined → ⊥) → Apart (before bits count answer w meaning first)
unfolding before
before-apart bits count answer w meaning true m e = cc
before-apart bits count answer w meaning false m e = m e

next_tile-apart : (bits : List Bool) (count w : ℕ) (part : List Bool) (room : Bool)
    → Apart (next_tile bits count w part room)
unfolding next_tile
next_tile-apart bits count w part true e = cc
next_tile-apart bits count w part false e = cc

regular-apart : (w : ℕ) (part : List Bool) (receiver : AaReceiverData)
    → Apart (regular_step w part receiver)
unfolding regular_step
regular-apart w part (Empty abort) e = cc
regular-apart w part (Gathering bits count answer) e =
    either (w == open_window count) (next_tile bits count w part (has_room bits part))
    (before bits count answer w note.Repeat (count == 0))
    (next_tile-apart bits count w part (has_room bits part))
    (before-apart bits count answer w note.Repeat (count == 0) (λ m. cc)) e
regular-apart w part (Finished last answer) e = cc

finished-apart : (w last : ℕ) (answer : Bool) → Apart (finished_step w last answer)
unfolding finished_step
finished-apart w last answer =
    either (w == last) (Finished last true, note.Repeat) (Finished last answer, note.Remnant)
    (λ e. cc) (λ e. cc)

ack_req-apart : (w : ℕ) (receiver : AaReceiverData) → Apart (ack_req_step w receiver)
unfolding ack_req_step
ack_req-apart w (Empty abort) e = cc
ack_req-apart w (Gathering bits count answer) e =
    either (w == open_window count)
    (Gathering bits count (Some (record { w = w; came = false })), note.Asked)
    (before bits count answer w note.Asked (count == 0))
    (λ m. cc) (before-apart bits count answer w note.Asked (count == 0) (λ m. cc)) e
ack_req-apart w (Finished last answer) e = finished-apart w last answer e

abort-apart : (receiver : AaReceiverData) → Apart (abort_step receiver)
unfolding abort_step
abort-apart (Empty abort) e = cc
abort-apart (Gathering bits count answer) e = cc
abort-apart (Finished last answer) e = cc

other-apart : (receiver : AaReceiverData) → Apart (other_step receiver)
unfolding other_step
other-apart (Empty abort) e = cc
other-apart (Gathering bits count answer) e = cc
other-apart (Finished last answer) e = cc

-- a preview that gives some bits, and a step that joins
abbrev Alike : Option (List Bool) → AaReceiverData × Note → Type 0
Alike preview step = ((bits : List Bool) × (preview ≡ Some bits)) ↔ (step.1 ≡ note.Joined)

none-some : (bits : List Bool) → ◌≡◌ {A = Option (List Bool)} None (Some bits) → ⊥
none-some bits e = cc

alike-apart : (step : AaReceiverData × Note) → Apart step → Alike None step
alike-apart step apart = (λ found. absurd (none-some found.0 found.1), λ e. absurd (apart e))

alike-passed : (all bits : List Bool) (count w : ℕ) (p : Bool)
    → Alike (if p then Some all else None) (last_tile bits count w true p)
unfolding last_tile
alike-passed all bits count w true = (λ found. refl, λ e. (all, refl))
alike-passed all bits count w false =
    (λ found. absurd (none-some found.0 found.1), λ e. absurd (cc))

overflow-apart : (bits : List Bool) (count w : ℕ) (p : Bool)
    → Apart (last_tile bits count w false p)
unfolding last_tile
overflow-apart bits count w p e = cc

alike-room : (bits part : List Bool) (count w rcs : ℕ) (room : Bool)
    → Alike (passed rcs (if room then Some (bits ++ part) else None))
    (last_tile bits count w room (rcs_of (bits ++ part) == rcs))
unfolding passed
alike-room bits part count w rcs true =
    alike-passed (bits ++ part) bits count w (rcs_of (bits ++ part) == rcs)
alike-room bits part count w rcs false =
    alike-apart (last_tile bits count w false (rcs_of (bits ++ part) == rcs))
    (overflow-apart bits count w (rcs_of (bits ++ part) == rcs))

alike-window : (bits part : List Bool) (count w rcs : ℕ) (answer : Option TileAnswer) (mine : Bool)
    → Alike (passed rcs (if mine then checked_part bits part else None))
    (if mine then last_tile bits count w (has_room bits part) (passes bits part rcs)
    else (Gathering bits count answer, note.Remnant))
unfolding passed checked_part passes
alike-window bits part count w rcs answer true =
    alike-room bits part count w rcs (has_room bits part)
alike-window bits part count w rcs answer false =
    alike-apart (Gathering bits count answer, note.Remnant) (λ e. cc)

alike-all1 : (w rcs : ℕ) (part : List Bool) (receiver : AaReceiverData)
    → Alike (passed rcs (all1_check w part receiver)) (all1_step w rcs part receiver)
unfolding passed all1_check all1_step
alike-all1 w rcs part (Empty abort) = alike-apart (Empty abort, note.Remnant) (λ e. cc)
alike-all1 w rcs part (Gathering bits count answer) =
    alike-window bits part count w rcs answer (w == open_window count)
alike-all1 w rcs part (Finished last answer) =
    alike-apart (finished_step w last answer) (finished-apart w last answer)

-- a preview gives bits exactly where taking the message joins the packet
pub preview_joins : PreviewJoins
unfolding previewed taken
preview_joins (form.Regular w fcn from) part receiver =
    alike-apart (regular_step w part (entered w receiver))
    (regular-apart w part (entered w receiver))
preview_joins (form.All1 w rcs from) part receiver = alike-all1 w rcs part (entered w receiver)
preview_joins (form.AckReq w) part receiver =
    alike-apart (ack_req_step w (entered w receiver)) (ack_req-apart w (entered w receiver))
preview_joins form.SenderAbort part receiver =
    alike-apart (abort_step receiver) (abort-apart receiver)
preview_joins (form.Ack w c bitmap) part receiver =
    alike-apart (other_step receiver) (other-apart receiver)
preview_joins form.ReceiverAbort part receiver =
    alike-apart (other_step receiver) (other-apart receiver)

passed-if : (all bits : List Bool) (rcs : ℕ) (p : Bool) → rcs_of all == rcs ≡ p
    → (if p then Some all else None) ≡ Some bits → (Some all ≡ Some bits) × (rcs_of bits ≡ rcs)
passed-if all bits rcs true e found =
    let same : all ≡ bits = cc in
    (found, subst (λ (list : List Bool). rcs_of list ≡ rcs) same (eqb-true (rcs_of all) rcs e))
passed-if all bits rcs false e found = absurd (none-some bits found)

passed-is : (rcs : ℕ) (made : Option (List Bool)) (bits : List Bool) → passed rcs made ≡ Some bits
    → (made ≡ Some bits) × (rcs_of bits ≡ rcs)
unfolding passed
passed-is rcs None bits e = absurd (none-some bits e)
passed-is rcs (Some all) bits e = passed-if all bits rcs (rcs_of all == rcs) refl e

-- the bits of a preview are those over which the check is made, and have the RCS of the All-1
pub preview_passes : PreviewPasses
unfolding previewed checked
preview_passes (form.Regular w fcn from) part bits receiver e = absurd (none-some bits e)
preview_passes (form.All1 w rcs from) part bits receiver e =
    passed-is rcs (all1_check w part (entered w receiver)) bits e
preview_passes (form.AckReq w) part bits receiver e = absurd (none-some bits e)
preview_passes form.SenderAbort part bits receiver e = absurd (none-some bits e)
preview_passes (form.Ack w c bitmap) part bits receiver e = absurd (none-some bits e)
preview_passes form.ReceiverAbort part bits receiver e = absurd (none-some bits e)

-- there is room for what is checked
room-fits : (bits part : List Bool) → has_room bits part ≡ true
    → length (bits ++ part) ≤ reassembly_bits
unfolding has_room
room-fits bits part e =
    let fits = leb-true (length bits + length part) reassembly_bits e in
    omega (arith, length-append bits part, fits)

part-fits : (bits part all : List Bool) (room : Bool) → has_room bits part ≡ room
    → (if room then Some (bits ++ part) else None) ≡ Some all → length all ≤ reassembly_bits
part-fits bits part all true e found =
    let same : bits ++ part ≡ all = cc found in
    subst (λ (list : List Bool). length list ≤ reassembly_bits) same (room-fits bits part e)
part-fits bits part all false e found = absurd (none-some all found)

window-fits : (bits part all : List Bool) (mine : Bool)
    → (if mine then checked_part bits part else None) ≡ Some all → length all ≤ reassembly_bits
unfolding checked_part
window-fits bits part all true found = part-fits bits part all (has_room bits part) refl found
window-fits bits part all false found = absurd (none-some all found)

check-fits : (w : ℕ) (part all : List Bool) (receiver : AaReceiverData)
    → all1_check w part receiver ≡ Some all → length all ≤ reassembly_bits
unfolding all1_check
check-fits w part all (Empty abort) found = absurd (none-some all found)
check-fits w part all (Gathering bits count answer) found =
    window-fits bits part all (w == open_window count) found
check-fits w part all (Finished last answer) found = absurd (none-some all found)

-- there is room for the bits of a preview
pub preview_fits : PreviewFits
unfolding previewed
preview_fits (form.Regular w fcn from) part bits receiver e = absurd (none-some bits e)
preview_fits (form.All1 w rcs from) part bits receiver e =
    check-fits w part bits (entered w receiver)
    (passed-is rcs (all1_check w part (entered w receiver)) bits e).0
preview_fits (form.AckReq w) part bits receiver e = absurd (none-some bits e)
preview_fits form.SenderAbort part bits receiver e = absurd (none-some bits e)
preview_fits (form.Ack w c bitmap) part bits receiver e = absurd (none-some bits e)
preview_fits form.ReceiverAbort part bits receiver e = absurd (none-some bits e)
