-- What is due can be written, and what arrives of it.
use Rattle.std.specs.Prelude.{ℕ, ◌≡◌, ◌+◌, ◌*◌, ◌^◌, ◌<◌, ◌≤◌, ◌==◌, Bool, true, false, List}
use Rattle.std.specs.Prelude.{[], length, Some, option_map, IfSome}
use Rattle.std.proofs.Common.{arith, ap, refl, sym, subst, ◌∙◌}
use Rattle.std.proofs.lemmas.Bool.{eqb-true, eqb-false}
use Rattle.schc_bits.specs.Bits.{padded, bytes_of}
use Rattle.schc_bits.proofs.Octets.{AreBytes-bytes_of}
use Rattle.schc_ids.specs.Fragments.{params_of, IsFragParams}
use Rattle.schc_ids.specs.declared.fragments.FragParams.{FragParams}
use Rattle.schc_ids.specs.declared.fragments.Side.TheVariants as side
use Rattle.frag_wire.specs.Layouts.{head}
use Rattle.frag_wire.specs.Spells.{Spells, CanSpell}
use Rattle.frag_wire.specs.declared.message.Message.{Message}
use Rattle.frag_wire.specs.declared.message.Message.TheVariants as form
use Rattle.frag_wire.proofs.DueLemmas.{written-check, some-bytes, some-check}
use Rattle.frag_wire.proofs.FormsLemmas.{length-fragment_head}
use Rattle.frag_wire.proofs.RoomLemmas.{length-all1-head}
use Rattle.rcs.specs.Division.{rcs_of}
use Rattle.rcs.proofs.Steps.{check_of-bytes}
use Rattle.tiles_bitmap.specs.Padding.{all1_head, padded_packet}
use Rattle.tiles_bitmap.proofs.PacketLemmas.{whole-arrives, packet-arrives}
use Rattle.no_ack.specs.Laws.{DueFits, All1Checks, TileArrives, LastArrives}
use Rattle.no_ack.specs.SenderState.{NoAckSenderData, IsNoAckSender, StandsIn, tile_at, last_index}
use Rattle.no_ack.specs.SenderSteps.{fragment_of, bytes_due, due_in, due_message}
use Rattle.no_ack.specs.declared.states.NoAckSenderState.{NoAckSenderState}
use Rattle.no_ack.specs.declared.states.NoAckSenderState.TheVariants.{Sending, Closing, Quiet}
use Rattle.no_ack.proofs.SenderLemmas.{regular-is, sender-regular-whole, last_is, header-is}
use Rattle.no_ack.proofs.SenderLemmas.{can_regular, can_all1, can_abort}
use Rattle.no_ack.proofs.SenderLemmas.{room_regular, room_all1, room_abort}

rcs_of-below : (bits : List Bool) → rcs_of bits < 2 ^ 32
unfolding rcs_of
rcs_of-below bits =
    omega (arith, check_of-bytes (bytes_of (padded bits)) (AreBytes-bytes_of (padded bits)))

-- what is due can be written, in a frame that isn't too long
abbrev Fits : NoAckSenderData → Message × List Bool → Type 0
Fits sender due = CanSpell sender.params side.Fragments due.0 due.1
    × (length (bytes_due sender.params due) ≤ sender.mtu)

fragment-fits : (sender : NoAckSenderData) (i : ℕ) (is_last : Bool)
    → i == last_index sender ≡ is_last → IsNoAckSender sender → i ≤ last_index sender
    → Fits sender (fragment_of sender i is_last)
unfolding fragment_of
fragment-fits sender i true e is h =
    let last : i ≡ last_index sender = eqb-true i (last_index sender) e in
    let size : 33 + length (tile_at sender i) ≤ 8 * sender.mtu =
    subst (λ (n : ℕ). 33 + length (tile_at sender n) ≤ 8 * sender.mtu) (sym last)
    (last_is sender is) in (
      can_all1 sender.params 0 _ 33 (tile_at sender i) is.row refl (rcs_of-below _),
      room_all1
          sender.params 0 _ 33 sender.mtu (tile_at sender i) is.row size,
    )
fragment-fits sender i false e is h =
    let other = eqb-false i (last_index sender) e in
    let tile = regular-is sender i is (omega (arith, h, other)) in (
      can_regular sender.params 0 1 (tile_at sender i) is.row refl tile.0,
      room_regular sender.params
          0 1 sender.mtu (tile_at sender i) is.row tile.1,
    )

due_in-fits : (sender : NoAckSenderData) (state : NoAckSenderState) → IsNoAckSender sender
    → StandsIn (last_index sender) state → IfSome (due_in sender state) (λ due. Fits sender due)
unfolding due_in
due_in-fits sender (Sending i) is h = fragment-fits sender i (i == last_index sender) refl is h
due_in-fits sender Closing is h =
    (can_abort sender.params is.row, room_abort sender.params sender.mtu is.row is.in_range)
due_in-fits sender Quiet is h = tt

-- what is due of a sender can be written, and fits in a frame
pub due_fits : DueFits
unfolding due_message
due_fits sender is = due_in-fits sender sender.state is is.stands

row-of : (sender : NoAckSenderData) → IsNoAckSender sender → IsFragParams sender.params
row-of sender is = is.row ∙ ap (λ (p : FragParams). params_of p.mode) (sym is.row)

fragment-checks : (sender : NoAckSenderData) (i : ℕ) (is_last : Bool) (bytes : List ℕ)
    (w rcs from : ℕ) (payload : List Bool) → IsNoAckSender sender
    → Fits sender (fragment_of sender i is_last) →
    bytes_due sender.params (fragment_of sender i is_last) ≡ bytes
    → Spells sender.params side.Fragments (form.All1 w rcs from) payload bytes
    → rcs ≡ rcs_of (padded_packet sender.params sender.mtu sender.bits)
unfolding fragment_of
fragment-checks sender i true bytes w rcs from payload is fits e spells =
    some-check rcs (rcs_of (padded_packet sender.params sender.mtu sender.bits))
    (written-check sender.params
    (form.All1 0 (rcs_of (padded_packet sender.params sender.mtu sender.bits)) 33)
    (tile_at sender i) payload bytes w rcs from (row-of sender is) fits.0 e spells)
fragment-checks sender i false bytes w rcs from payload is fits e spells =
    let none =
    written-check sender.params (form.Regular 0 0 1) (tile_at sender i) payload bytes w rcs from
    (row-of sender is) fits.0 e spells in
    absurd (cc none)

due_in-checks : (sender : NoAckSenderData) (state : NoAckSenderState) (bytes : List ℕ)
    (w rcs from : ℕ) (payload : List Bool) → IsNoAckSender sender
    → StandsIn (last_index sender) state →
    option_map (bytes_due sender.params) (due_in sender state) ≡ Some bytes
    → Spells sender.params side.Fragments (form.All1 w rcs from) payload bytes
    → rcs ≡ rcs_of (padded_packet sender.params sender.mtu sender.bits)
unfolding due_in
due_in-checks sender (Sending i) bytes w rcs from payload is h e spells =
    fragment-checks sender i (i == last_index sender) bytes w rcs from payload is
    (fragment-fits sender i (i == last_index sender) refl is h) (some-bytes _ bytes e) spells
due_in-checks sender Closing bytes w rcs from payload is h e spells =
    let none =
    written-check sender.params form.SenderAbort [] payload bytes w rcs from (row-of sender is)
    (can_abort sender.params is.row) (some-bytes _ bytes e) spells in
    absurd (cc none)
due_in-checks sender Quiet bytes w rcs from payload is h e spells = absurd (cc e)

-- what is due and is read as an All-1 carries the RCS of the padded packet
pub all1_checks : All1Checks
unfolding due_message
all1_checks sender bytes w rcs from payload is e spells =
    due_in-checks sender sender.state bytes w rcs from payload is is.stands e spells

-- the payload of a Regular, as it is read, is its tile
pub tile_arrives : TileArrives
unfolding fragment_of
tile_arrives sender i is h =
    whole-arrives (head sender.params (form.Regular 0 0 1)) (tile_at sender i) 1
    (length-fragment_head sender.params.w_bits sender.params.fcn_bits 0 0
    ∙ header-is sender.params is.row) (sender-regular-whole sender i is h)

-- the tiles of all Regulars and then the payload of the All-1, as it is read, are the padded packet
pub last_arrives : LastArrives
unfolding fragment_of last_index
last_arrives sender is =
    let rcs = rcs_of (padded_packet sender.params sender.mtu sender.bits) in
    let width = ap (λ (p : FragParams). all1_head p) is.row in
    packet-arrives sender.params sender.mtu sender.bits
    (head sender.params (form.All1 0 rcs 33)) 33 is.in_range width
    (length-all1-head sender.params 0 rcs 33 ∙ width)
