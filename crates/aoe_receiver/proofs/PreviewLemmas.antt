-- What a preview gives: its check, and how long it is.
use Rattle.std.proofs.Common.{◌≡◌, ℕ, zero, suc, ◌+◌, ◌*◌, ◌==◌, ◌≤◌, Bool, true, false, ◌&&◌, List}
use Rattle.std.proofs.Common.{[], ◌∷◌, ◌++◌, take, length, Option, Some, None, if◌then◌else◌, refl}
use Rattle.std.proofs.Common.{sym, subst, arith}
use Rattle.std.specs.List.{AllByRecursion}
use Rattle.std.proofs.lemmas.Bool.{eqb-true}
use Rattle.std.proofs.lemmas.List.{length-append, length-replicate}
use Rattle.schc_bits.specs.Bits.{octets}
use Rattle.schc_bits.proofs.Octets.{length-octets}
use Rattle.schc_ids.specs.Limits.{reassembly_bytes}
use Rattle.frag_wire.specs.declared.message.Message.{Message}
use Rattle.frag_wire.specs.declared.message.Message.TheVariants as form
use Rattle.rcs.specs.Division.{rcs_of}
use Rattle.tiles_bitmap.specs.Places.{held_bits, joined_tiles}
use Rattle.aoe_receiver.specs.Laws.{PreviewPasses, PreviewFits}
use Rattle.aoe_receiver.specs.State.{LastData, AoeReceiverData, Empty, Gathering, Finished, IsPlace}
use Rattle.aoe_receiver.specs.State.{ArePlaces, IsAoeReceiver, no_tiles}
use Rattle.aoe_receiver.specs.Steps.{CheckData, assembly, is_whole, passes, begun, all1_check}
use Rattle.aoe_receiver.specs.Steps.{ack_req_check, check_made, if_passed, previewed}

-- How long an assembly is.

places-room : (n : ℕ) (tiles : List (Option (List Bool))) → AllByRecursion IsPlace tiles
    → length (joined_tiles (take n tiles)) ≤ 80 * length tiles
unfolding joined_tiles
places-room zero tiles all = omega arith
places-room (suc n) [] all = omega arith
places-room (suc n) (None ∷ tiles) all = let rest = places-room n tiles all.1 in omega (arith, rest)
places-room (suc n) (Some tile ∷ tiles) all =
    let rest = places-room n tiles all.1 in
    omega (arith, length-append tile (joined_tiles (take n tiles)), rest, all.0.1)

tiles-room : (n : ℕ) (tiles : List (Option (List Bool))) (last : List Bool) → ArePlaces tiles
    → length last ≤ 80 → length (joined_tiles (take n tiles) ++ last) ≤ 8 * reassembly_bytes
tiles-room n tiles last (count, all) few =
    let room = places-room n tiles all in
    omega (arith, length-append (joined_tiles (take n tiles)) last, room, count, few)

-- the tiles up to a window, and one of at most ten bytes, fit in what an end keeps of a packet
pub joined-room : (tiles : List (Option (List Bool))) (w : ℕ) (tile : List ℕ) (bits : List Bool)
    → ArePlaces tiles → length tile ≤ 10
    → bits ≡ joined_tiles (take (63 * (w + 1)) tiles) ++ octets tile
    → length bits ≤ 8 * reassembly_bytes
joined-room tiles w tile bits places few e =
    let width = length-octets tile in
    subst (λ (list : List Bool). length list ≤ 8 * reassembly_bytes) (sym e)
    (tiles-room (63 * (w + 1)) tiles (octets tile) places (omega (arith, width, few)))

-- Which check was made.

some-bits : (first second : List Bool) → Some first ≡ Some second → first ≡ second
some-bits first second e = cc

none-bits : (bits : List Bool) → ◌≡◌ {A = Option (List Bool)} None (Some bits) → ⊥
none-bits bits e = cc

both-true : (whole same : Bool) → (whole && same) ≡ true → same ≡ true
both-true true same e = e
both-true false same e = absurd (cc e)

passes-rcs : (tiles : List (Option (List Bool))) (last : LastData) → passes tiles last ≡ true
    → rcs_of (assembly tiles last) ≡ last.rcs
unfolding passes
passes-rcs tiles last e =
    eqb-true (rcs_of (assembly tiles last)) last.rcs
    (both-true (is_whole last.w (held_bits tiles)) (rcs_of (assembly tiles last) == last.rcs) e)

-- the check was made over these bits, and passed
record Passed (made : Option CheckData) (bits : List Bool) : Type 0 where
  check : CheckData
  is_made : made ≡ Some check
  joins : bits ≡ assembly check.tiles check.last
  right : rcs_of bits ≡ check.last.rcs

if-passes : (check : CheckData) (bits : List Bool) (b : Bool) → passes check.tiles check.last ≡ b
    → (if b then Some (assembly check.tiles check.last) else None) ≡ Some bits
    → Passed (Some check) bits
if-passes check bits true p e =
    let same : assembly check.tiles check.last ≡ bits =
    some-bits (assembly check.tiles check.last) bits e in
    record {
      check = check;
      is_made = refl;
      joins = sym same;
      right = subst (λ (list : List Bool). rcs_of list ≡ check.last.rcs) same
          (passes-rcs check.tiles check.last p);
    }
if-passes check bits false p e = absurd (none-bits bits e)

passed-is : (made : Option CheckData) (bits : List Bool) → if_passed made ≡ Some bits
    → Passed made bits
unfolding if_passed
passed-is None bits e = absurd (none-bits bits e)
passed-is (Some check) bits e = if-passes check bits (passes check.tiles check.last) refl e

-- a preview is the assembly of the check that the message makes, and has the RCS of its All-1
pub preview_passes : PreviewPasses
unfolding previewed
preview_passes message payload bits receiver e =
    let p = passed-is (check_made message payload receiver) bits e in
    record { check = p.check; made = p.is_made; joins = p.joins; passes = p.right }

-- what a check is made over: places, and a tile
abbrev IsSmall : Option CheckData → Type 0
IsSmall None = Unit {0}
IsSmall (Some check) = ArePlaces check.tiles × (length check.last.tile ≤ 80)

none-held : (n : ℕ) → AllByRecursion IsPlace (Rattle.std.specs.Prelude.replicate n None)
none-held zero = tt
none-held (suc n) = (tt, none-held n)

no_tiles-places : ArePlaces no_tiles
unfolding no_tiles
no_tiles-places = (length-replicate {A = Option (List Bool)} 252 None, none-held 252)

made-small : (message : Message) (payload : List Bool) (receiver : AoeReceiverData)
    → IsAoeReceiver receiver → length payload ≤ 80 → IsSmall (check_made message payload receiver)
unfolding check_made all1_check ack_req_check begun
made-small (form.Regular w fcn from) payload receiver is few = tt
made-small (form.All1 w rcs from) payload (Empty abort) is few = (no_tiles-places, few)
made-small (form.All1 w rcs from) payload (Gathering tiles kept answer) is few = (is.0, few)
made-small (form.All1 w rcs from) payload (Finished tiles last answer) is few = tt
made-small (form.AckReq w) payload (Empty abort) is few = tt
made-small (form.AckReq w) payload (Gathering tiles None answer) is few = tt
made-small (form.AckReq w) payload (Gathering tiles (Some last) answer) is few = (is.0, is.1.1.0)
made-small (form.AckReq w) payload (Finished tiles last answer) is few = tt
made-small form.SenderAbort payload receiver is few = tt
made-small (form.Ack w c bits) payload receiver is few = tt
made-small form.ReceiverAbort payload receiver is few = tt

check-fits : (made : Option CheckData) (bits : List Bool) → IsSmall made → Passed made bits
    → length bits ≤ 8 * reassembly_bytes
unfolding assembly
check-fits None bits small p = absurd (none-made p.check p.is_made)
  where
    none-made : (check : CheckData) → ◌≡◌ {A = Option CheckData} None (Some check) → ⊥
    none-made check e = cc
check-fits (Some check) bits small p =
    let same : check ≡ p.check = cc p.is_made in
    let over : ArePlaces p.check.tiles × (length p.check.last.tile ≤ 80) =
    subst (λ (c : CheckData). ArePlaces c.tiles × (length c.last.tile ≤ 80)) same small in
    subst (λ (list : List Bool). length list ≤ 8 * reassembly_bytes) (sym p.joins)
    (tiles-room (63 * (p.check.last.w + 1)) p.check.tiles p.check.last.tile over.0 over.1)

-- a preview fits in what an end keeps of a packet, where the payload has at most ten bytes
pub preview_fits : PreviewFits
unfolding previewed
preview_fits message payload bits receiver is few e =
    check-fits (check_made message payload receiver) bits
    (made-small message payload receiver is few)
    (passed-is (check_made message payload receiver) bits e)
