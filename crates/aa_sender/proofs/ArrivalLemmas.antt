-- What is due can be written, and what arrives of it.
use Rattle.std.specs.Prelude.{ℕ, ◌≡◌, ◌+◌, ◌*◌, ◌^◌, ◌<◌, ◌≤◌, ◌==◌, Bool, true, false, List}
use Rattle.std.specs.Prelude.{length, IfSome}
use Rattle.std.proofs.Common.{arith, ap, refl, sym, subst, ◌∙◌}
use Rattle.std.proofs.lemmas.Bool.{eqb-true, eqb-false}
use Rattle.schc_bits.specs.Bits.{padded, bytes_of}
use Rattle.schc_bits.proofs.Octets.{AreBytes-bytes_of}
use Rattle.schc_ids.specs.declared.fragments.FragParams.{FragParams}
use Rattle.schc_ids.specs.declared.fragments.Side.TheVariants as side
use Rattle.frag_wire.specs.Layouts.{head}
use Rattle.frag_wire.specs.Spells.{CanSpell}
use Rattle.frag_wire.specs.declared.message.Message.{Message}
use Rattle.frag_wire.specs.declared.message.Message.TheVariants as form
use Rattle.frag_wire.proofs.FormsLemmas.{length-fragment_head}
use Rattle.frag_wire.proofs.RoomLemmas.{length-all1-head}
use Rattle.rcs.specs.Division.{rcs_of}
use Rattle.rcs.proofs.Steps.{check_of-bytes}
use Rattle.tiles_bitmap.specs.Padding.{all1_head, padded_packet}
use Rattle.tiles_bitmap.proofs.PacketLemmas.{whole-arrives, packet-arrives}
use Rattle.aa_sender.specs.Laws.{DueFits, TileArrives, LastArrives}
use Rattle.aa_sender.specs.State.{AaSenderData, IsAaSender, StandsIn, tile_at, last_index}
use Rattle.aa_sender.specs.Steps.{window_of, fragment_of, request_of, due_in, due_message}
use Rattle.aa_sender.specs.Steps.{bytes_due}
use Rattle.aa_sender.specs.declared.states.AaSenderState.{AaSenderState}
use Rattle.aa_sender.specs.declared.states.AaSenderState.TheVariants.{Sending, Waiting, Closing}
use Rattle.aa_sender.specs.declared.states.AaSenderState.TheVariants.{Quiet}
use Rattle.aa_sender.proofs.SenderLemmas.{window_of_below, regular-is, last_is, header-is}
use Rattle.aa_sender.proofs.SenderLemmas.{can_regular, can_all1, can_request, can_abort}
use Rattle.aa_sender.proofs.SenderLemmas.{room_regular, room_all1, room_request, room_abort}

rcs_of-below : (bits : List Bool) → rcs_of bits < 2 ^ 32
unfolding rcs_of
rcs_of-below bits =
    omega (arith, check_of-bytes (bytes_of (padded bits)) (AreBytes-bytes_of (padded bits)))

-- what is due can be written, in a frame that isn't too long
abbrev pub Fits : AaSenderData → Message × List Bool → Type 0
Fits sender due = CanSpell sender.params side.Fragments due.0 due.1
    × (length (bytes_due sender.params due) ≤ sender.mtu)

-- the fragment of a tile, an All-1 for the last one alone, can be written, and fits in a frame
pub fragment-fits : (sender : AaSenderData) (i : ℕ) (is_last : Bool)
    → i == last_index sender ≡ is_last → IsAaSender sender → i ≤ last_index sender
    → Fits sender (fragment_of sender i is_last)
unfolding fragment_of
fragment-fits sender i true e is h =
    let last : i ≡ last_index sender = eqb-true i (last_index sender) e in
    let size : 34 + length (tile_at sender i) ≤ 8 * sender.mtu =
    subst (λ (n : ℕ). 34 + length (tile_at sender n) ≤ 8 * sender.mtu) (sym last)
    (last_is sender is) in (
      can_all1 sender.params (window_of i) _ 34 (tile_at sender i) is.row (window_of_below i)
          (rcs_of-below _),
      room_all1 sender.params (window_of i) _ 34 sender.mtu (tile_at sender i) is.row size,
    )
fragment-fits sender i false e is h =
    let other = eqb-false i (last_index sender) e in
    let tile = regular-is sender i is (omega (arith, h, other)) in (
      can_regular sender.params (window_of i) 2 (tile_at sender i) is.row (window_of_below i)
          tile.least,
      room_regular sender.params (window_of i) 2 sender.mtu (tile_at sender i) is.row tile.fits,
    )

due_in-fits : (sender : AaSenderData) (state : AaSenderState) → IsAaSender sender
    → StandsIn (last_index sender) state → IfSome (due_in sender state) (λ due. Fits sender due)
unfolding due_in request_of
due_in-fits sender (Sending i true attempts) is h = (
  can_request sender.params (window_of i) is.row (window_of_below i),
  room_request sender.params
      (window_of i) sender.mtu is.row is.in_range,
)
due_in-fits sender (Sending i false attempts) is h =
    fragment-fits sender i (i == last_index sender) refl is h.0
due_in-fits sender (Waiting i attempts) is h = tt
due_in-fits sender Closing is h =
    (can_abort sender.params is.row, room_abort sender.params sender.mtu is.row is.in_range)
due_in-fits sender Quiet is h = tt

-- what is due of a sender can be written, and has no more bytes than its frames may have
pub due_fits : DueFits
unfolding due_message
due_fits sender is = due_in-fits sender sender.state is is.stands

-- of the Regular of a tile that isn't the last, what is read as its payload is that tile
pub tile_arrives : TileArrives
unfolding fragment_of
tile_arrives sender i is h =
    whole-arrives (head sender.params (form.Regular (window_of i) 0 2)) (tile_at sender i) 2
    (length-fragment_head sender.params.w_bits sender.params.fcn_bits (window_of i) 0
    ∙ header-is sender.params is.row) (regular-is sender i is h).whole

-- the tiles but the last, and then what is read as the payload of the All-1, are the padded packet
pub last_arrives : LastArrives
unfolding fragment_of last_index
last_arrives sender is =
    let w = window_of (last_index sender) in
    let rcs = rcs_of (padded_packet sender.params sender.mtu sender.bits) in
    let width = ap (λ (p : FragParams). all1_head p) is.row in
    packet-arrives sender.params sender.mtu sender.bits
    (head sender.params (form.All1 w rcs 34)) 34 is.in_range width
    (length-all1-head sender.params w rcs 34 ∙ width)
