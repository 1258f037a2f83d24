-- What holds of every sender, and of what it sends.
use Rattle.std.specs.Prelude.{ℕ, ◌≡◌, ◌+◌, ◌-◌, ◌*◌, ◌%◌, ◌^◌, ◌<◌, ◌≤◌, Bool, List, [], ◌++◌}
use Rattle.std.specs.Prelude.{length}
use Rattle.std.proofs.Common.{arith, ap, refl, sym, subst}
use Rattle.schc_bits.specs.Bits.{number_bits}
use Rattle.schc_ids.specs.Fragments.{params_of}
use Rattle.schc_ids.specs.Limits.{IsMtu}
use Rattle.schc_ids.specs.declared.fragments.FragMode.TheVariants as mode
use Rattle.schc_ids.specs.declared.fragments.FragParams.{FragParams}
use Rattle.schc_ids.specs.declared.fragments.Side.TheVariants as side
use Rattle.frag_wire.specs.Layouts.{written}
use Rattle.frag_wire.specs.Spells.{CanSpell}
use Rattle.frag_wire.specs.declared.message.Message.TheVariants as form
use Rattle.frag_wire.proofs.RoomLemmas.{room-regular, room-all1, room-request, room-abort}
use Rattle.tiles_bitmap.specs.Laws.{least_tile}
use Rattle.tiles_bitmap.specs.Numbers.{tile_number}
use Rattle.tiles_bitmap.specs.Tiles.{header_of, tile_ends}
use Rattle.tiles_bitmap.specs.Padding.{all1_head, padded_packet}
use Rattle.tiles_bitmap.proofs.PacketLemmas.{HasTiles, has-tiles, IsTileOf, is-tile, FillsFrame}
use Rattle.tiles_bitmap.proofs.PacketLemmas.{regular-fills, last-fits, padded-packet-is}
use Rattle.aa_sender.specs.declared.states.AaSenderState.{AaSenderState}
use Rattle.aa_sender.specs.State.{AaSenderData, IsAaSender, StandsIn, tile_at, last_index}
use Rattle.aa_sender.specs.Steps.{window_of}

-- the window in the number of a tile is this one, where the parameters are those of ACK-Always
pub window_of_is : (params : FragParams) (i : ℕ) → params ≡ params_of mode.AckAlways
    → (tile_number params.mode i).w ≡ window_of i
unfolding window_of
window_of_is params i row = ap (λ (p : FragParams). (tile_number p.mode i).w) row

-- the number of a window is 0 or 1, so it has room in the one bit of W
pub window_of_below : (i : ℕ) → window_of i ≤ 1
unfolding window_of tile_number
window_of_below i = omega arith

-- a packet has at least one tile, and one end for each, so the last end is that of the last tile
pub has_tiles : (sender : AaSenderData) (ends : List ℕ) → IsAaSender sender
    → ends ≡ tile_ends sender.params sender.mtu (length sender.bits)
    → HasTiles ends (last_index sender)
unfolding last_index
has_tiles sender ends is e = has-tiles sender.params sender.mtu sender.bits ends is.in_range e

-- each tile up to the last is the part of the packet from the end of the one before to its own end
pub is_tile : (sender : AaSenderData) (ends : List ℕ) (i : ℕ) → IsAaSender sender
    → ends ≡ tile_ends sender.params sender.mtu (length sender.bits) → i ≤ last_index sender
    → IsTileOf sender.bits ends i (tile_at sender i)
unfolding last_index
is_tile sender ends i is e h =
    is-tile sender.params sender.mtu sender.bits ends i is.in_range (omega (arith, is.least)) e h

-- each tile but the last has eight bits or more, and fills whole bytes behind two bits of header
pub regular-is : (sender : AaSenderData) (i : ℕ) → IsAaSender sender → i < last_index sender
    → FillsFrame 2 sender.mtu (tile_at sender i)
unfolding last_index
regular-is sender i is h =
    regular-fills sender.params 2 sender.mtu sender.bits i
    (ap (λ (p : FragParams). header_of p.mode) is.row)
    (ap (λ (p : FragParams). least_tile p.mode) is.row) is.in_range (omega (arith, is.least)) h

-- the last tile fits in a frame behind two bits of header and the 32 bits of the RCS
pub last_is : (sender : AaSenderData) → IsAaSender sender
    → 34 + length (tile_at sender (last_index sender)) ≤ 8 * sender.mtu
unfolding last_index
last_is sender is =
    last-fits sender.params 2 sender.mtu sender.bits
    (ap (λ (p : FragParams). header_of p.mode) is.row) is.in_range (omega (arith, is.least))

-- What is written.

-- in ACK-Always W has one bit, and so has the FCN
pub header-is : (params : FragParams) → params ≡ params_of mode.AckAlways
    → params.w_bits + params.fcn_bits ≡ 2
header-is params row = ap (λ (p : FragParams). p.w_bits + p.fcn_bits) row

-- a Regular with a W of 0 or 1, an FCN of 0 and eight bits of payload or more can be written
pub can_regular : (params : FragParams) (w from : ℕ) (payload : List Bool)
    → params ≡ params_of mode.AckAlways → w ≤ 1 → 8 ≤ length payload
    → CanSpell params side.Fragments (form.Regular w 0 from) payload
can_regular params w from payload row h k =
    subst (λ (p : FragParams). CanSpell p side.Fragments (form.Regular w 0 from) payload) (sym row)
    (omega (arith, h), refl, omega (arith, k))

-- an All-1 with a W of 0 or 1 and an RCS of 32 bits can be written, whatever its payload
pub can_all1 : (params : FragParams) (w rcs from : ℕ) (payload : List Bool)
    → params ≡ params_of mode.AckAlways → w ≤ 1 → rcs < 2 ^ 32
    → CanSpell params side.Fragments (form.All1 w rcs from) payload
can_all1 params w rcs from payload row h k =
    subst (λ (p : FragParams). CanSpell p side.Fragments (form.All1 w rcs from) payload) (sym row)
    (omega (arith, h), k)

-- an ACK REQ with a W of 0 or 1 can be written
pub can_request : (params : FragParams) (w : ℕ) → params ≡ params_of mode.AckAlways → w ≤ 1
    → CanSpell params side.Fragments (form.AckReq w) []
can_request params w row h =
    subst (λ (p : FragParams). CanSpell p side.Fragments (form.AckReq w) []) (sym row)
    (omega (arith, h), refl)

-- in ACK-Always a Sender-Abort can be written
pub can_abort : (params : FragParams) → params ≡ params_of mode.AckAlways
    → CanSpell params side.Fragments form.SenderAbort []
can_abort params row =
    subst (λ (p : FragParams). CanSpell p side.Fragments form.SenderAbort []) (sym row) refl

-- a Regular fits in a frame that has room for its payload and two bits of header
pub room_regular : (params : FragParams) (w from mtu : ℕ) (payload : List Bool)
    → params ≡ params_of mode.AckAlways → length payload + 2 ≤ 8 * mtu
    → length (written params (form.Regular w 0 from) payload) ≤ mtu
room_regular params w from mtu payload row h =
    room-regular params w 0 from mtu payload (omega (arith, header-is params row, h))

-- an All-1 fits in a frame that has room for its payload, two bits of header and the RCS
pub room_all1 : (params : FragParams) (w rcs from mtu : ℕ) (payload : List Bool)
    → params ≡ params_of mode.AckAlways → 34 + length payload ≤ 8 * mtu
    → length (written params (form.All1 w rcs from) payload) ≤ mtu
room_all1 params w rcs from mtu payload row h =
    room-all1 params w rcs from mtu payload (omega (arith, header-is params row, h))

-- an ACK REQ fits in a frame, whatever MTU in range the end has
pub room_request : (params : FragParams) (w mtu : ℕ) → params ≡ params_of mode.AckAlways → IsMtu mtu
    → length (written params (form.AckReq w) []) ≤ mtu
room_request params w mtu row h =
    room-request params w mtu (omega (arith, header-is params row, h.0))

-- a Sender-Abort fits in a frame, whatever MTU in range the end has
pub room_abort : (params : FragParams) (mtu : ℕ) → params ≡ params_of mode.AckAlways → IsMtu mtu
    → length (written params form.SenderAbort []) ≤ mtu
room_abort params mtu row h = room-abort params mtu (omega (arith, header-is params row, h.0))

-- the packet with the padding of its last fragment
pub padded_packet_is : (sender : AaSenderData) (size : ℕ) → IsAaSender sender
    → size ≡ length (tile_at sender (last_index sender))
    → sender.bits ++ number_bits ((8 - (34 + size) % 8) % 8) 0 ≡ padded_packet sender.params
    sender.mtu sender.bits
unfolding last_index
padded_packet_is sender size is e =
    padded-packet-is sender.params 34 sender.mtu size sender.bits
    (ap (λ (p : FragParams). all1_head p) is.row) e

-- The sender stands at another place.
pub stands-there : (sender : AaSenderData) (state : AaSenderState) → IsAaSender sender
    → StandsIn (last_index sender) state → IsAaSender (record sender { state = state })
unfolding last_index
stands-there sender state is stands =
    record {
      row = is.row;
      in_range = is.in_range;
      least = is.least;
      most = is.most;
      stands =
          stands;
    }

-- what is checked is short
pub check-short : (sender : AaSenderData) (size : ℕ) → IsAaSender sender
    → size ≡ length (tile_at sender (last_index sender)) → 34 + size ≤ 1936
check-short sender size is e =
    let fits = last_is sender is in
    let most = is.in_range.1 in
    omega (arith, fits, most, e)
