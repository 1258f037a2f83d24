-- What a receiver shows beforehand.
use Rattle.std.specs.Prelude.{ℕ, ◌≡◌, ◌↔◌, ◌+◌, ◌≤◌, Bool, true, false, if◌then◌else◌, List, ◌++◌}
use Rattle.std.specs.Prelude.{length, Option, Some, None}
use Rattle.std.proofs.Common.{arith, refl, subst}
use Rattle.std.proofs.lemmas.Bool.{eqb-true, leb-true}
use Rattle.std.proofs.lemmas.List.{length-append}
use Rattle.schc_ids.specs.declared.notes.Note.TheVariants.{Joined}
use Rattle.frag_wire.specs.declared.message.Message.{Message}
use Rattle.frag_wire.specs.declared.message.Message.TheVariants as form
use Rattle.rcs.specs.Division.{rcs_of}
use Rattle.reassembly.specs.Joining.{reassembly_bits, has_room, passes}
use Rattle.no_ack.specs.Laws.{HasCheck, IsPreview, PreviewIsJoin, PreviewPasses}
use Rattle.no_ack.specs.ReceiverState.{NoAckReceiverData, Empty, Gathering, kept_by}
use Rattle.no_ack.specs.ReceiverSteps.{stored, given_up, tile_step, ended, joined_last, last_step}
use Rattle.no_ack.specs.ReceiverSteps.{taken, assembled, checked, completes_last, completes}
use Rattle.no_ack.specs.ReceiverSteps.{previewed}

last-joins : (kept tile assembly : List Bool) (rcs : ℕ) (room pass : Bool)
    → has_room kept tile ≡ room → passes kept tile rcs ≡ pass
    → ((if completes_last kept tile rcs then assembled kept tile (has_room kept tile)
    else None) ≡ Some assembly) ↔
    (((joined_last kept tile rcs (has_room kept tile)).1 ≡ Joined)
    × (assembled kept tile (has_room kept tile) ≡ Some assembly))
unfolding completes_last assembled joined_last ended
last-joins kept tile assembly rcs false pass e f = rw e (λ h. absurd (cc h), λ h. absurd (cc h.1))
last-joins kept tile assembly rcs true true e f = rw (e, f) (λ h. (refl, h), λ h. h.1)
last-joins kept tile assembly rcs true false e f =
    rw (e, f) (λ h. absurd (cc h), λ h. absurd (cc h.0))

-- an assembly is seen beforehand exactly where the message makes its check over it, and joins it
pub preview-joins : (message : Message) (payload : List Bool) (receiver : NoAckReceiverData)
    (assembly : List Bool)
    → (previewed message payload receiver ≡ Some assembly) ↔
    (((taken message payload receiver).1 ≡ Joined)
    × (checked message payload receiver ≡ Some assembly))
unfolding previewed completes checked taken last_step tile_step
preview-joins (form.All1 w rcs from) payload receiver assembly =
    last-joins (kept_by receiver) payload assembly rcs (has_room (kept_by receiver) payload)
    (passes (kept_by receiver) payload rcs) refl refl
preview-joins (form.Regular w fcn from) payload receiver assembly =
    (λ h. absurd (cc h), λ h. absurd (cc h.1))
preview-joins (form.Ack w c bitmap) payload receiver assembly =
    (λ h. absurd (cc h), λ h. absurd (cc h.1))
preview-joins (form.AckReq w) payload receiver assembly = (λ h. absurd (cc h), λ h. absurd (cc h.1))
preview-joins form.SenderAbort payload receiver assembly =
    (λ h. absurd (cc h), λ h. absurd (cc h.1))
preview-joins form.ReceiverAbort payload receiver assembly =
    (λ h. absurd (cc h), λ h. absurd (cc h.1))

-- there was room for what is joined
pub room_joined : (kept part : List Bool) → has_room kept part ≡ true
    → length (kept ++ part) ≤ reassembly_bits
unfolding has_room
room_joined kept part e =
    let fits = leb-true (length kept + length part) reassembly_bits e in
    omega (arith, length-append kept part, fits)

stored-apart : (kept tile : List Bool) (room : Bool) → (stored kept tile room).1 ≡ Joined → ⊥
unfolding stored
stored-apart kept tile true e = cc
stored-apart kept tile false e = cc

given_up-apart : (receiver : NoAckReceiverData) → (given_up receiver).1 ≡ Joined → ⊥
unfolding given_up
given_up-apart Empty e = cc
given_up-apart (Gathering kept) e = cc

last-is-join : (kept tile : List Bool) (rcs : ℕ) (room pass : Bool) → has_room kept tile ≡ room
    → passes kept tile rcs ≡ pass
    → ((assembly : List Bool)
    × ((if completes_last kept tile rcs then assembled kept tile (has_room kept tile)
    else None) ≡ Some assembly)) ↔ ((joined_last kept tile rcs (has_room kept tile)).1 ≡ Joined)
unfolding completes_last assembled joined_last ended
last-is-join kept tile rcs false pass e f = rw e (λ h. absurd (cc h.1), λ h. absurd (cc h))
last-is-join kept tile rcs true true e f = rw (e, f) (λ h. refl, λ h. (kept ++ tile, refl))
last-is-join kept tile rcs true false e f = rw (e, f) (λ h. absurd (cc h.1), λ h. absurd (cc h))

-- some assembly is seen beforehand exactly where taking the message joins the packet
pub preview_is_join : PreviewIsJoin
unfolding previewed completes checked taken last_step tile_step
preview_is_join (form.All1 w rcs from) payload receiver =
    last-is-join (kept_by receiver) payload rcs (has_room (kept_by receiver) payload)
    (passes (kept_by receiver) payload rcs) refl refl
preview_is_join (form.Regular w fcn from) payload receiver = (
  λ h. absurd (cc h.1),
  λ h. absurd
      (stored-apart (kept_by receiver) payload (has_room (kept_by receiver) payload) h),
)
preview_is_join (form.Ack w c bitmap) payload receiver = (λ h. absurd (cc h.1), λ h. absurd (cc h))
preview_is_join (form.AckReq w) payload receiver = (λ h. absurd (cc h.1), λ h. absurd (cc h))
preview_is_join form.SenderAbort payload receiver =
    (λ h. absurd (cc h.1), λ h. absurd (given_up-apart receiver h))
preview_is_join form.ReceiverAbort payload receiver = (λ h. absurd (cc h.1), λ h. absurd (cc h))

passes-true : (kept tile : List Bool) (rcs : ℕ) → passes kept tile rcs ≡ true
    → rcs_of (kept ++ tile) ≡ rcs
unfolding passes
passes-true kept tile rcs e = eqb-true (rcs_of (kept ++ tile)) rcs e

last-passes : (kept tile assembly : List Bool) (rcs : ℕ) (room pass : Bool)
    → has_room kept tile ≡ room → passes kept tile rcs ≡ pass
    → (if completes_last kept tile rcs then assembled kept tile (has_room kept tile)
    else None) ≡ Some assembly → (assembled kept tile (has_room kept tile) ≡ Some assembly)
    × (rcs_of assembly ≡ rcs) × (length assembly ≤ reassembly_bits)
unfolding completes_last assembled
last-passes kept tile assembly rcs false pass e f = rw e (λ h. absurd (cc h))
last-passes kept tile assembly rcs true true e f =
    let right = passes-true kept tile rcs f in
    let fits = room_joined kept tile e in
    rw (e, f)
    (λ h.
    let same : kept ++ tile ≡ assembly = cc h in (
      h,
      subst (λ (bits : List Bool). rcs_of bits ≡ rcs) same right,
      subst
          (λ (bits : List Bool). length bits ≤ reassembly_bits) same fits,
    ))
last-passes kept tile assembly rcs true false e f = rw (e, f) (λ h. absurd (cc h))

-- what is seen beforehand is what is checked, it has the RCS of the All-1, and there is room for it
pub preview_passes : PreviewPasses
unfolding previewed completes checked
preview_passes (form.All1 w rcs from) payload assembly receiver h =
    let all =
    last-passes (kept_by receiver) payload assembly rcs (has_room (kept_by receiver) payload)
    (passes (kept_by receiver) payload rcs) refl refl h in
    record { is_checked = all.0; passes = all.1; fits = all.2 }
preview_passes (form.Regular w fcn from) payload assembly receiver h = absurd (cc h)
preview_passes (form.Ack w c bitmap) payload assembly receiver h = absurd (cc h)
preview_passes (form.AckReq w) payload assembly receiver h = absurd (cc h)
preview_passes form.SenderAbort payload assembly receiver h = absurd (cc h)
preview_passes form.ReceiverAbort payload assembly receiver h = absurd (cc h)
