-- The session of a sender stays the same, and its All-1 carries its check.
use Rattle.std.specs.Prelude.{ℕ, ◌≡◌, ◌↔◌, ◌==◌, Bool, true, false, List, [], Some}
use Rattle.std.specs.Prelude.{None, option_map}
use Rattle.std.proofs.Common.{ap, inl, inr, refl, sym, ◌∙◌}
use Rattle.schc_ids.specs.Fragments.{params_of, IsFragParams}
use Rattle.schc_ids.specs.declared.fragments.FragParams.{FragParams}
use Rattle.schc_ids.specs.declared.fragments.Side.TheVariants as side
use Rattle.frag_wire.specs.Spells.{Spells}
use Rattle.frag_wire.specs.declared.message.Message.TheVariants as form
use Rattle.frag_wire.proofs.DueLemmas.{IsStill, sending-moves, closing-moves, written-check}
use Rattle.frag_wire.proofs.DueLemmas.{some-bytes, some-check, none-check}
use Rattle.rcs.specs.Division.{rcs_of}
use Rattle.tiles_bitmap.specs.Padding.{padded_packet}
use Rattle.aa_sender.specs.Laws.{KeepsSession, NoneDue, All1Checks}
use Rattle.aa_sender.specs.State.{AaSenderData, IsAaSender, StandsIn, phase_in, tile_at, last_index}
use Rattle.aa_sender.specs.Steps.{window_of, fragment_of, request_of, bytes_due, due_in}
use Rattle.aa_sender.specs.Steps.{due_message, sent, heard, retried, aborted}
use Rattle.aa_sender.specs.declared.states.AaSenderState.{AaSenderState}
use Rattle.aa_sender.specs.declared.states.AaSenderState.TheVariants.{Sending, Waiting, Closing}
use Rattle.aa_sender.specs.declared.states.AaSenderState.TheVariants.{Quiet}
use Rattle.aa_sender.proofs.SenderLemmas.{window_of_below, can_request, can_abort}
use Rattle.aa_sender.proofs.ArrivalLemmas.{Fits, fragment-fits}

-- no step of a sender changes its parameters, its MTU or the bits of its SCHC packet
pub keeps_session : KeepsSession
unfolding sent heard retried aborted
keeps_session sender =
    record {
      sends = record { params = refl; mtu = refl; bits = refl };
      hears = λ message. record { params = refl; mtu = refl; bits = refl };
      retries = record { params = refl; mtu = refl; bits = refl };
      aborts = record { params = refl; mtu = refl; bits = refl };
    }

none-in : (sender : AaSenderData) (state : AaSenderState)
    → (option_map (bytes_due sender.params) (due_in sender state) ≡ None) ↔ IsStill (phase_in state)
unfolding due_in
none-in sender (Sending i ack_req attempts) = (λ h. absurd (cc h), λ h. absurd (sending-moves h))
none-in sender (Waiting i attempts) = (λ h. inl refl, λ h. refl)
none-in sender Closing = (λ h. absurd (cc h), λ h. absurd (closing-moves h))
none-in sender Quiet = (λ h. inr refl, λ h. refl)

-- nothing is due exactly where the sender waits for an answer or is quiet
pub none_due : NoneDue
unfolding due_message
none_due sender = none-in sender sender.state

row-of : (sender : AaSenderData) → IsAaSender sender → IsFragParams sender.params
row-of sender is = is.row ∙ ap (λ (p : FragParams). params_of p.mode) (sym is.row)

fragment-checks : (sender : AaSenderData) (i : ℕ) (is_last : Bool) (bytes : List ℕ) (w rcs from : ℕ)
    (payload : List Bool) → IsAaSender sender → Fits sender (fragment_of sender i is_last) →
    bytes_due sender.params (fragment_of sender i is_last) ≡ bytes
    → Spells sender.params side.Fragments (form.All1 w rcs from) payload bytes
    → rcs ≡ rcs_of (padded_packet sender.params sender.mtu sender.bits)
unfolding fragment_of
fragment-checks sender i true bytes w rcs from payload is fits e spells =
    some-check rcs (rcs_of (padded_packet sender.params sender.mtu sender.bits))
    (written-check sender.params
    (form.All1 (window_of i) (rcs_of (padded_packet sender.params sender.mtu sender.bits)) 34)
    (tile_at sender i) payload bytes w rcs from (row-of sender is) fits.0 e spells)
fragment-checks sender i false bytes w rcs from payload is fits e spells =
    absurd (none-check rcs
    (written-check sender.params (form.Regular (window_of i) 0 2) (tile_at sender i) payload
    bytes w rcs from (row-of sender is) fits.0 e spells))

due_in-checks : (sender : AaSenderData) (state : AaSenderState) (bytes : List ℕ) (w rcs from : ℕ)
    (payload : List Bool) → IsAaSender sender → StandsIn (last_index sender) state →
    option_map (bytes_due sender.params) (due_in sender state) ≡ Some bytes
    → Spells sender.params side.Fragments (form.All1 w rcs from) payload bytes
    → rcs ≡ rcs_of (padded_packet sender.params sender.mtu sender.bits)
unfolding due_in request_of
due_in-checks sender (Sending i true attempts) bytes w rcs from payload is h e spells =
    absurd (none-check rcs
    (written-check sender.params (form.AckReq (window_of i)) [] payload bytes w rcs from
    (row-of sender is) (can_request sender.params (window_of i) is.row (window_of_below i))
    (some-bytes _ bytes e) spells))
due_in-checks sender (Sending i false attempts) bytes w rcs from payload is h e spells =
    fragment-checks sender i (i == last_index sender) bytes w rcs from payload is
    (fragment-fits sender i (i == last_index sender) refl is h.0) (some-bytes _ bytes e) spells
due_in-checks sender (Waiting i attempts) bytes w rcs from payload is h e spells = absurd (cc e)
due_in-checks sender Closing bytes w rcs from payload is h e spells =
    absurd (none-check rcs
    (written-check sender.params form.SenderAbort [] payload bytes w rcs from (row-of sender is)
    (can_abort sender.params is.row) (some-bytes _ bytes e) spells))
due_in-checks sender Quiet bytes w rcs from payload is h e spells = absurd (cc e)

-- where the bytes that are due are read as an All-1, its RCS is that of the padded packet
pub all1_checks : All1Checks
unfolding due_message
all1_checks sender bytes w rcs from payload is e spells =
    due_in-checks sender sender.state bytes w rcs from payload is is.stands e spells
