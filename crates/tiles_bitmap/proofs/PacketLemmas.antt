-- The tiles of a packet as senders of all modes cut and send them.
use Rattle.std.specs.Prelude.{ℕ, ◌≡◌, ◌+◌, ◌-◌, ◌*◌, ◌%◌, ◌<◌, ◌≤◌, zero, suc, Bool, false, List}
use Rattle.std.specs.Prelude.{[], ◌∷◌, ◌++◌, length, take, drop, get_or, replicate}
use Rattle.std.proofs.Common.{arith, ap, sym, subst, ◌∙◌}
use Rattle.std.proofs.lemmas.List.{append_assoc, append-nil, drop_at, length-append}
use Rattle.schc_bits.specs.Bits.{number_bits, octets, padded, bytes_of}
use Rattle.schc_bits.proofs.NumberBits.{number_bits-zero}
use Rattle.schc_bits.proofs.Octets.{octets-bytes_of-padded, padded-is, padded-whole}
use Rattle.schc_ids.specs.Limits.{IsMtu}
use Rattle.schc_ids.specs.declared.fragments.FragParams.{FragParams}
use Rattle.tiles_bitmap.specs.Laws.{joined, least_tile}
use Rattle.tiles_bitmap.specs.Padding.{fill, all1_head, last_of, padded_packet}
use Rattle.tiles_bitmap.specs.Tiles.{header_of, tile_ends, tile_sizes, tiles}
use Rattle.tiles_bitmap.proofs.PieceLemmas.{is-piece, fits-regular, fits-last, each-least}
use Rattle.tiles_bitmap.proofs.PieceLemmas.{length-tiles, length-tile_ends, some-tile}
use Rattle.tiles_bitmap.proofs.TilesLemmas.{tiles-fit, tiles-large, tiles-join}

-- Where tiles stand.

-- how many tiles there are, and where they end
pub record HasTiles (ends : List ℕ) (index : ℕ) : Type 0 where
  pub some : 1 ≤ length ends
  pub last : length ends - 1 ≡ index

-- a packet has at least one tile, and one end for each, so the last end is that of the last tile
pub has-tiles : (params : FragParams) (mtu : ℕ) (bits : List Bool) (ends : List ℕ) → IsMtu mtu
    → ends ≡ tile_ends params mtu (length bits)
    → HasTiles ends (length (tiles params mtu bits) - 1)
has-tiles params mtu bits ends h e =
    let count : length ends ≡ length (tile_sizes params mtu (length bits)) =
    ap length e ∙ length-tile_ends params mtu (length bits) in
    let all = length-tiles params mtu bits in
    let some = some-tile params mtu (length bits) h in
    record { some = omega (arith, count, some); last = omega (arith, count, all) }

-- the tile is a piece of the packet
pub record IsTileOf (bits : List Bool) (ends : List ℕ) (i : ℕ) (tile : List Bool) : Type 0 where
  pub inside : i < length ends
  pub order : get_or (0 ∷ ends) i 0 ≤ get_or ends i 0
  pub within : get_or ends i 0 ≤ length bits
  pub piece : take (get_or ends i 0 - get_or (0 ∷ ends) i 0)
      (drop (get_or (0 ∷ ends) i 0) bits) ≡ tile

-- each tile up to the last is the part of the packet from the end of the one before to its own end
pub is-tile : (params : FragParams) (mtu : ℕ) (bits : List Bool) (ends : List ℕ) (i : ℕ)
    → IsMtu mtu → 1 ≤ length bits → ends ≡ tile_ends params mtu (length bits)
    → i ≤ length (tiles params mtu bits) - 1
    → IsTileOf bits ends i (get_or (tiles params mtu bits) i [])
is-tile params mtu bits ends i h some e up =
    let count : length ends ≡ length (tile_sizes params mtu (length bits)) =
    ap length e ∙ length-tile_ends params mtu (length bits) in
    let has = has-tiles params mtu bits ends h e in
    let first = has.some in
    let last = has.last in
    let inside : i < length ends = omega (arith, first, last, up) in
    let piece = is-piece params mtu bits i h some (omega (arith, inside, count)) in
    record {
      inside = inside;
      order = subst (λ (list : List ℕ). get_or (0 ∷ list) i 0 ≤ get_or list i 0) (sym e)
          piece.order;
      within = subst (λ (list : List ℕ). get_or list i 0 ≤ length bits) (sym e) piece.within;
      piece = subst
          (λ (list : List ℕ). take (get_or list i 0 - get_or (0 ∷ list) i 0)
          (drop (get_or (0 ∷ list) i 0) bits) ≡ get_or (tiles params mtu bits) i []) (sym e)
          piece.piece;
    }

-- How long tiles are.

-- the tile has eight bits or more, and fills whole bytes of a frame behind a header of so many bits
pub record FillsFrame (header : ℕ) (mtu : ℕ) (tile : List Bool) : Type 0 where
  pub least : 8 ≤ length tile
  pub fits : length tile + header ≤ 8 * mtu
  pub whole : (length tile + header) % 8 ≡ 0

-- where tiles have at least eight bits, each but the last fills whole bytes behind its header
pub regular-fills : (params : FragParams) (header mtu : ℕ) (bits : List Bool) (i : ℕ)
    → header_of params.mode ≡ header → least_tile params.mode ≡ 8 → IsMtu mtu → 8 ≤ length bits
    → i < length (tiles params mtu bits) - 1
    → FillsFrame header mtu (get_or (tiles params mtu bits) i [])
regular-fills params header mtu bits i width fewest h some up =
    let sizes : List ℕ = tile_sizes params mtu (length bits) in
    let all = length-tiles params mtu bits in
    let inside : suc i < length sizes = omega (arith, up, all) in
    let size = (is-piece params mtu bits i h (omega (arith, some)) (omega (arith, inside))).size in
    let least =
    each-least (least_tile params.mode) sizes i
    (tiles-large params mtu (length bits) h (omega (arith, fewest, some))) (omega (arith, inside))
    in
    let most =
    fits-regular (header_of params.mode) mtu sizes i (tiles-fit params mtu (length bits) h) inside
    in
    record {
      least = omega (arith, size, least, fewest);
      fits = omega (arith, size, most.1, width);
      whole = ap (λ n. (n + header) % 8) size ∙ ap (λ n. (get_or sizes i 0 + n) % 8) (sym width)
          ∙ most.0;
    }

-- the last tile fits in a frame behind its header and the RCS
pub last-fits : (params : FragParams) (header mtu : ℕ) (bits : List Bool)
    → header_of params.mode ≡ header → IsMtu mtu → 1 ≤ length bits
    → header + 32 + length (last_of (tiles params mtu bits)) ≤ 8 * mtu
last-fits params header mtu bits width h some =
    let sizes : List ℕ = tile_sizes params mtu (length bits) in
    let i : ℕ = length (tiles params mtu bits) - 1 in
    let all = length-tiles params mtu bits in
    let first = some-tile params mtu (length bits) h in
    let last : suc i ≡ length sizes = omega (arith, all, first) in
    let size = (is-piece params mtu bits i h some (omega (arith, last))).size in
    let most =
    fits-last (header_of params.mode) mtu sizes i (tiles-fit params mtu (length bits) h) last in
    omega (arith, size, most, width)

-- What is read of them.

-- bits that make whole bytes with the front before them are read as they are
pub whole-arrives : (front tile : List Bool) (width : ℕ) → length front ≡ width
    → (length tile + width) % 8 ≡ 0
    → drop width (octets (bytes_of (padded (front ++ tile)))) ≡ tile
whole-arrives front tile width e fills =
    let size : length (front ++ tile) ≡ length tile + width =
    omega (arith, length-append front tile, e) in
    let whole : length (front ++ tile) % 8 ≡ 0 = ap (λ n. n % 8) size ∙ fills in
    ap (λ (list : List Bool). drop width list)
    (octets-bytes_of-padded (front ++ tile) ∙ padded-whole (front ++ tile) whole)
    ∙ drop_at front tile width e

joined-split : (parts : List (List Bool)) (n : ℕ) → suc n ≡ length parts
    → joined (take n parts) ++ get_or parts n [] ≡ joined parts
joined-split [] n e = absurd (omega (arith, e))
joined-split (part ∷ []) zero e = sym (append-nil part)
joined-split (part ∷ []) (suc n) e = absurd (omega (arith, e))
joined-split (part ∷ next ∷ parts) zero e = absurd (omega (arith, e))
joined-split (part ∷ next ∷ parts) (suc n) e =
    append_assoc part (joined (take n (next ∷ parts))) (get_or (next ∷ parts) n [])
    ∙ ap (λ (list : List Bool). part ++ list) (joined-split (next ∷ parts) n (omega (arith, e)))

-- behind a front of so many bits stand the tile and the zero bits that pad it
behind-front : (front tile : List Bool) (width : ℕ) → length front ≡ width
    → drop width (octets (bytes_of (padded (front ++ tile)))) ≡ tile ++ fill (width + length tile)
unfolding fill
behind-front front tile width e =
    let size : length (front ++ tile) ≡ width + length tile =
    omega (arith, length-append front tile, e) in
    ap (λ (list : List Bool). drop width list)
    (octets-bytes_of-padded (front ++ tile)
    ∙ padded-is (front ++ tile)
    ∙ append_assoc front tile (replicate ((8 - length (front ++ tile) % 8) % 8) false))
    ∙ drop_at front (tile ++ replicate ((8 - length (front ++ tile) % 8) % 8) false) width e
    ∙ ap (λ (n : ℕ). tile ++ replicate ((8 - n % 8) % 8) false) size

-- the tiles but the last, and then what is read behind the front of an All-1, are the padded packet
pub packet-arrives : (params : FragParams) (mtu : ℕ) (bits front : List Bool) (width : ℕ)
    → IsMtu mtu → all1_head params ≡ width → length front ≡ width
    → joined (take (length (tiles params mtu bits) - 1) (tiles params mtu bits)) ++ drop width
    (octets (bytes_of (padded (front ++ last_of (tiles params mtu bits))))) ≡ padded_packet params
    mtu bits
unfolding padded_packet
packet-arrives params mtu bits front width h head e =
    let parts : List (List Bool) = tiles params mtu bits in
    let some = some-tile params mtu (length bits) h in
    let count : suc (length parts - 1) ≡ length parts =
    omega (arith, some, length-tiles params mtu bits) in
    ap (λ (list : List Bool). joined (take (length parts - 1) parts) ++ list)
    (behind-front front (last_of parts) width e)
    ∙ sym (append_assoc (joined (take (length parts - 1) parts)) (last_of parts)
    (fill (width + length (last_of parts))))
    ∙ ap (λ (list : List Bool). list ++ fill (width + length (last_of parts)))
    (joined-split parts (length parts - 1) count)
    ∙ ap (λ (n : ℕ). joined parts ++ fill (n + length (last_of parts))) (sym head)
    ∙ ap (λ (list : List Bool). list ++ fill (all1_head params + length (last_of parts)))
    (tiles-join params mtu bits h)

-- a packet with the zero bits that make whole bytes of its All-1 is the padded packet
pub padded-packet-is : (params : FragParams) (head mtu size : ℕ) (bits : List Bool)
    → all1_head params ≡ head → size ≡ length (last_of (tiles params mtu bits))
    → bits ++ number_bits ((8 - (head + size) % 8) % 8) 0 ≡ padded_packet params mtu bits
unfolding padded_packet fill
padded-packet-is params head mtu size bits width e =
    let last : ℕ = length (last_of (tiles params mtu bits)) in
    let count : head + size ≡ all1_head params + last = omega (arith, width, e) in
    ap (λ (n : ℕ). bits ++ number_bits ((8 - n % 8) % 8) 0) count
    ∙ ap (λ (zeros : List Bool). bits ++ zeros)
    (number_bits-zero ((8 - (all1_head params + last) % 8) % 8))
