-- What holds of every sender, and of what it sends.
use Rattle.std.specs.Prelude.{ℕ, ◌≡◌, ◌+◌, ◌-◌, ◌*◌, ◌%◌, ◌^◌, ◌<◌, ◌≤◌, Bool, List, [], ◌++◌}
use Rattle.std.specs.Prelude.{length}
use Rattle.std.proofs.Common.{arith, ap, refl, sym, subst}
use Rattle.schc_bits.specs.Bits.{number_bits}
use Rattle.schc_ids.specs.Fragments.{params_of}
use Rattle.schc_ids.specs.Limits.{IsMtu}
use Rattle.schc_ids.specs.declared.fragments.FragMode.TheVariants as mode
use Rattle.schc_ids.specs.declared.fragments.FragParams.{FragParams}
use Rattle.schc_ids.specs.declared.fragments.Side.TheVariants as side
use Rattle.frag_wire.specs.Layouts.{written}
use Rattle.frag_wire.specs.Spells.{CanSpell}
use Rattle.frag_wire.specs.declared.message.Message.TheVariants as form
use Rattle.frag_wire.proofs.RoomLemmas.{room-regular, room-all1, room-abort}
use Rattle.tiles_bitmap.specs.Laws.{least_tile}
use Rattle.tiles_bitmap.specs.Tiles.{header_of, tile_ends}
use Rattle.tiles_bitmap.specs.Padding.{all1_head, padded_packet}
use Rattle.tiles_bitmap.proofs.PacketLemmas.{HasTiles, has-tiles, IsTileOf, is-tile, FillsFrame}
use Rattle.tiles_bitmap.proofs.PacketLemmas.{regular-fills, last-fits, padded-packet-is}
use Rattle.no_ack.specs.SenderState.{NoAckSenderData, IsNoAckSender, StandsIn, tile_at, last_index}
use Rattle.no_ack.specs.declared.states.NoAckSenderState.{NoAckSenderState}

-- of the places where tiles end there is one or more, and the last is that of the last tile
pub has_tiles : (sender : NoAckSenderData) (ends : List ℕ) → IsNoAckSender sender
    → ends ≡ tile_ends sender.params sender.mtu (length sender.bits)
    → HasTiles ends (last_index sender)
unfolding last_index
has_tiles sender ends is e = has-tiles sender.params sender.mtu sender.bits ends is.in_range e

-- each tile is the piece of the packet from where the one before it ends to its own end
pub is_tile : (sender : NoAckSenderData) (ends : List ℕ) (i : ℕ) → IsNoAckSender sender
    → ends ≡ tile_ends sender.params sender.mtu (length sender.bits) → i ≤ last_index sender
    → IsTileOf sender.bits ends i (tile_at sender i)
unfolding last_index
is_tile sender ends i is e h =
    is-tile sender.params sender.mtu sender.bits ends i is.in_range (omega (arith, is.least)) e h

fills-frame : (sender : NoAckSenderData) (i : ℕ) → IsNoAckSender sender → i < last_index sender
    → FillsFrame 1 sender.mtu (tile_at sender i)
unfolding last_index
fills-frame sender i is h =
    regular-fills sender.params 1 sender.mtu sender.bits i
    (ap (λ (p : FragParams). header_of p.mode) is.row)
    (ap (λ (p : FragParams). least_tile p.mode) is.row) is.in_range (omega (arith, is.least)) h

-- each tile but the last has eight bits or more, and fits in a frame with the bit of the FCN
pub regular-is : (sender : NoAckSenderData) (i : ℕ) → IsNoAckSender sender → i < last_index sender
    → (8 ≤ length (tile_at sender i)) × (length (tile_at sender i) + 1 ≤ 8 * sender.mtu)
regular-is sender i is h = let tile = fills-frame sender i is h in (tile.least, tile.fits)

-- each tile but the last fills whole bytes with the one bit of the FCN before it
pub sender-regular-whole : (sender : NoAckSenderData) (i : ℕ) → IsNoAckSender sender
    → i < last_index sender → (length (tile_at sender i) + 1) % 8 ≡ 0
sender-regular-whole sender i is h = (fills-frame sender i is h).whole

-- the last tile fits in a frame, with the FCN and the RCS before it
pub last_is : (sender : NoAckSenderData) → IsNoAckSender sender
    → 33 + length (tile_at sender (last_index sender)) ≤ 8 * sender.mtu
unfolding last_index
last_is sender is =
    last-fits sender.params 1 sender.mtu sender.bits
    (ap (λ (p : FragParams). header_of p.mode) is.row) is.in_range (omega (arith, is.least))

-- the sender stands somewhere else
pub moved : (sender : NoAckSenderData) (state : NoAckSenderState) → IsNoAckSender sender
    → StandsIn (last_index sender) state → IsNoAckSender (record sender { state = state })
unfolding last_index
moved sender state is h =
    record { row = is.row; in_range = is.in_range; least = is.least; most = is.most; stands = h }

-- What is written.

-- in the No-ACK mode W has no bits, and FCN has one
pub header-is : (params : FragParams) → params ≡ params_of mode.NoAck
    → params.w_bits + params.fcn_bits ≡ 1
header-is params row = ap (λ (p : FragParams). p.w_bits + p.fcn_bits) row

-- a Regular with W and FCN of 0 and eight bits of payload or more can be written
pub can_regular : (params : FragParams) (w from : ℕ) (payload : List Bool)
    → params ≡ params_of mode.NoAck → w ≡ 0 → 8 ≤ length payload
    → CanSpell params side.Fragments (form.Regular w 0 from) payload
can_regular params w from payload row h k =
    subst (λ (p : FragParams). CanSpell p side.Fragments (form.Regular w 0 from) payload) (sym row)
    (h, refl, omega (arith, k))

-- an All-1 with a W of 0 and an RCS that fits 32 bits can be written, whatever its payload
pub can_all1 : (params : FragParams) (w rcs from : ℕ) (payload : List Bool)
    → params ≡ params_of mode.NoAck → w ≡ 0 → rcs < 2 ^ 32
    → CanSpell params side.Fragments (form.All1 w rcs from) payload
can_all1 params w rcs from payload row h k =
    subst (λ (p : FragParams). CanSpell p side.Fragments (form.All1 w rcs from) payload) (sym row)
    (h, k)

-- a Sender-Abort can be written
pub can_abort : (params : FragParams) → params ≡ params_of mode.NoAck
    → CanSpell params side.Fragments form.SenderAbort []
can_abort params row =
    subst (λ (p : FragParams). CanSpell p side.Fragments form.SenderAbort []) (sym row) refl

-- a Regular whose payload fits in a frame, with one bit before it, is no longer than the MTU
pub room_regular : (params : FragParams) (w from mtu : ℕ) (payload : List Bool)
    → params ≡ params_of mode.NoAck → length payload + 1 ≤ 8 * mtu
    → length (written params (form.Regular w 0 from) payload) ≤ mtu
room_regular params w from mtu payload row h =
    room-regular params w 0 from mtu payload (omega (arith, header-is params row, h))

-- an All-1 whose payload fits in a frame, with 33 bits before it, is no longer than the MTU
pub room_all1 : (params : FragParams) (w rcs from mtu : ℕ) (payload : List Bool)
    → params ≡ params_of mode.NoAck → 33 + length payload ≤ 8 * mtu
    → length (written params (form.All1 w rcs from) payload) ≤ mtu
room_all1 params w rcs from mtu payload row h =
    room-all1 params w rcs from mtu payload (omega (arith, header-is params row, h))

-- a Sender-Abort is no longer than any MTU in range
pub room_abort : (params : FragParams) (mtu : ℕ) → params ≡ params_of mode.NoAck → IsMtu mtu
    → length (written params form.SenderAbort []) ≤ mtu
room_abort params mtu row h = room-abort params mtu (omega (arith, header-is params row, h.0))

-- the packet with the padding of its last fragment
pub padded_packet_is : (sender : NoAckSenderData) (size : ℕ) → IsNoAckSender sender
    → size ≡ length (tile_at sender (last_index sender))
    → sender.bits ++ number_bits ((8 - (33 + size) % 8) % 8) 0 ≡ padded_packet sender.params
    sender.mtu sender.bits
unfolding last_index
padded_packet_is sender size is e =
    padded-packet-is sender.params 33 sender.mtu size sender.bits
    (ap (λ (p : FragParams). all1_head p) is.row) e
