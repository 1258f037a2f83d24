-- What a message spells for a receiver, and the check over a store.
use Rattle.std.proofs.Common.{◌≡◌, ℕ, zero, suc, ◌+◌, ◌-◌, ◌*◌, ◌/◌, ◌≤◌, ◌==◌, Bool, true, false}
use Rattle.std.proofs.Common.{List, [], ◌∷◌, ◌++◌, take, drop, length, Option, Some, None, IsSome}
use Rattle.std.proofs.Common.{Result, Ok, Err, OnErr, refl, sym, ap, subst, ◌∙◌, arith}
use Rattle.std.proofs.lemmas.Bool.{eqb-true}
use Rattle.std.proofs.lemmas.List.{take_rest}
use Rattle.schc_bits.specs.Bits.{number_bits, octets}
use Rattle.schc_bits.proofs.Octets.{drop-octets, length-octets}
use Rattle.schc_bits.proofs.NumberBits.{length-number_bits}
use Rattle.schc_ids.specs.declared.fragments.FragMode.TheVariants.{AckOnError}
use Rattle.schc_ids.specs.declared.fragments.Side.TheVariants.{Fragments, Answers}
use Rattle.schc_ids.specs.declared.fragments.FragParams.{FragParams}
use Rattle.schc_ids.specs.Fragments.{params_of}
use Rattle.frag_wire.specs.declared.message.Message.{Message}
use Rattle.frag_wire.specs.declared.message.Message.TheVariants as form
use Rattle.frag_wire.specs.Layouts.{payload_in}
use Rattle.frag_wire.specs.Spells.{Spells, IsWritten}
use Rattle.rcs.specs.Division.{rcs_of}
use Rattle.tiles_bitmap.specs.Places.{held_bits, joined_tiles, with_last}
use Rattle.aoe_receiver.specs.State.{AoeReceiverData, payload_tiles}
use Rattle.aoe_receiver.specs.Steps.{assembly, is_whole, passes, begun, regular_step, all1_step}
use Rattle.aoe_receiver.specs.Steps.{last_of, taken, all1_check, check_made, if_passed, previewed}
use Rattle.aoe_receiver.specs.Steps.{with_tile}

-- a Bool that tells whether nothing is left
pub none-left : (n : ℕ) (b : Bool) → b ≡ (n == 0) → b ≡ true → n ≡ 0
none-left n b e t = eqb-true n 0 (sym e ∙ t)

-- where the test whether nothing is left fails, at least one is left
pub some-left : (n : ℕ) (b : Bool) → b ≡ (n == 0) → b ≡ false → 1 ≤ n
some-left zero b e f = let t : b ≡ true = e in absurd cc
some-left (suc n) b e f = omega arith

-- the check
pub passes-then : (tiles : List (Option (List Bool))) (w rcs found : ℕ) (tile : List Bool)
    (whole : Bool) → whole ≡ is_whole w (held_bits tiles) → whole ≡ true →
    found ≡ rcs_of (joined_tiles (take (63 * (w + 1)) tiles) ++ tile)
    → (found == rcs) ≡ passes tiles (last_of w rcs tile)
unfolding passes assembly
passes-then tiles w rcs found tile whole e t f = rw (sym e, t, f) refl

-- where a window below the All-1's isn't full or its own has a gap, the check doesn't pass
pub passes-else : (tiles : List (Option (List Bool))) (w rcs : ℕ) (tile : List Bool) (whole : Bool)
    → whole ≡ is_whole w (held_bits tiles) → whole ≡ false
    → whole ≡ passes tiles (last_of w rcs tile)
unfolding passes
passes-else tiles w rcs tile whole e f = rw (sym e, f) refl

-- where the check passes, the preview is the tiles up to the All-1's window and then its tile
pub preview-then : (tiles : List (Option (List Bool))) (w rcs : ℕ) (tile joined : List Bool)
    (b : Bool) → b ≡ passes tiles (last_of w rcs tile) → b ≡ true
    → joined ≡ joined_tiles (take (63 * (w + 1)) tiles) ++ tile →
    Some joined ≡ if_passed (Some (record { tiles = tiles; last = last_of w rcs tile }))
unfolding if_passed assembly
preview-then tiles w rcs tile joined b e t j = rw (sym e, t) (ap Some j)

on-err : {X Y P : Type 0} (r : Result X Y) → P → OnErr r P
on-err (Ok x) p = tt
on-err (Err y) p = p

-- where the check passes there is an assembly to give, also when memory for it is wanting
pub preview-full : {X Y : Type 0} (r : Result X Y) (tiles : List (Option (List Bool))) (w rcs : ℕ)
    (tile : List Bool) (b : Bool) → b ≡ passes tiles (last_of w rcs tile) → b ≡ true →
    OnErr r (IsSome (if_passed (Some (record { tiles = tiles; last = last_of w rcs tile }))))
unfolding if_passed
preview-full r tiles w rcs tile b e t = on-err r (rw (sym e, t) refl)

-- where the check doesn't pass, there is no preview
pub preview-else : (tiles : List (Option (List Bool))) (w rcs : ℕ) (tile : List Bool) (b : Bool)
    → b ≡ passes tiles (last_of w rcs tile) → b ≡ false →
    None ≡ if_passed (Some (record { tiles = tiles; last = last_of w rcs tile }))
unfolding if_passed
preview-else tiles w rcs tile b e f = rw (sym e, f) refl

-- a tile of the All-1
pub with-none : (bytes : List ℕ) (tile bits : List Bool) → octets bytes ≡ tile → length bytes ≡ 0
    → with_tile tile bits ≡ bits
unfolding with_tile
with-none [] tile bits e n = rw (← e) refl
with-none (byte ∷ bytes) tile bits e n = absurd (omega arith)

-- an All-1's tile of at least one byte is shown by the rightmost bit of the bitmap
pub with-some : (bytes : List ℕ) (tile bits : List Bool) → octets bytes ≡ tile → 1 ≤ length bytes
    → with_tile tile bits ≡ with_last bits
unfolding with_tile number_bits
with-some [] tile bits e n = absurd (omega arith)
with-some (byte ∷ bytes) tile bits e n = rw (← e) refl

-- the payload of a message in its bytes
payload-octets : (from k : ℕ) (bytes : List ℕ) → from ≡ 8 * k
    → drop from (octets bytes) ≡ octets (take (length bytes - from / 8) (drop (from / 8) bytes))
payload-octets from k bytes e =
    let same : from / 8 ≡ k = omega arith in
    rw (take_rest bytes (from / 8), same) (rw e (drop-octets k bytes))

IsSpelt : Message → List ℕ → Type 0
IsSpelt message bytes =
    Spells (params_of AckOnError) Fragments message (payload_in message (octets bytes)) bytes

-- a Regular does its step with the tiles in its bytes behind the header, at the place of W and FCN
pub take-regular : (message : Message) (bytes : List ℕ) (receiver : AoeReceiverData)
    (w fcn from place : ℕ) → message ≡ form.Regular w fcn from →
    Spells (params_of AckOnError) Fragments message (payload_in message (octets bytes)) bytes
    → place ≡ 63 * w + (62 - fcn) →
    taken message (payload_in message (octets bytes)) receiver ≡ regular_step place
    (payload_tiles (octets (take (length bytes - from / 8) (drop (from / 8) bytes))))
    (begun receiver)
unfolding IsSpelt taken
take-regular message bytes receiver w fcn from place is spelt at =
    subst (λ (m : Message). IsSpelt m bytes
    → taken m (payload_in m (octets bytes)) receiver ≡ regular_step place
    (payload_tiles (octets (take (length bytes - from / 8) (drop (from / 8) bytes))))
    (begun receiver)) (sym is)
    (λ s. rw at
    (ap (λ payload. regular_step (63 * w + (62 - fcn)) (payload_tiles payload) (begun receiver))
    (payload-octets from 1 bytes (s.0.place)))) spelt

-- an All-1 does its step with the bytes behind its RCS as its tile
pub take-last : (message : Message) (bytes : List ℕ) (receiver : AoeReceiverData) (w rcs from : ℕ)
    → message ≡ form.All1 w rcs from →
    Spells (params_of AckOnError) Fragments message (payload_in message (octets bytes)) bytes →
    taken message (payload_in message (octets bytes)) receiver ≡ all1_step
    (last_of w rcs (octets (take (length bytes - from / 8) (drop (from / 8) bytes))))
    (begun receiver)
unfolding IsSpelt taken
take-last message bytes receiver w rcs from is spelt =
    subst (λ (m : Message). IsSpelt m bytes
    → taken m (payload_in m (octets bytes)) receiver ≡ all1_step
    (last_of w rcs (octets (take (length bytes - from / 8) (drop (from / 8) bytes))))
    (begun receiver)) (sym is)
    (λ s. ap (λ payload. all1_step (last_of w rcs payload) (begun receiver))
    (payload-octets from 5 bytes (s.0.place))) spelt

-- an All-1's preview is that of the check made with the bytes behind its RCS as its tile
pub preview-last : (message : Message) (bytes : List ℕ) (receiver : AoeReceiverData)
    (w rcs from : ℕ) → message ≡ form.All1 w rcs from →
    Spells (params_of AckOnError) Fragments message (payload_in message (octets bytes)) bytes →
    previewed message (payload_in message (octets bytes)) receiver ≡ if_passed
    (all1_check
    (last_of w rcs (octets (take (length bytes - from / 8) (drop (from / 8) bytes))))
    (begun receiver))
unfolding IsSpelt previewed check_made
preview-last message bytes receiver w rcs from is spelt =
    subst (λ (m : Message). IsSpelt m bytes
    → previewed m (payload_in m (octets bytes)) receiver ≡ if_passed
    (all1_check
    (last_of w rcs (octets (take (length bytes - from / 8) (drop (from / 8) bytes))))
    (begun receiver))) (sym is)
    (λ s. ap (λ payload. if_passed (all1_check (last_of w rcs payload) (begun receiver)))
    (payload-octets from 5 bytes (s.0.place))) spelt

-- an answer has at most nine bytes
pub answer-room : (message : Message) (bytes : List ℕ)
    → IsWritten (params_of AckOnError) Answers message [] bytes → length bytes ≤ 9
answer-room (form.Regular w fcn from) bytes w' = absurd w'.spells
answer-room (form.All1 w rcs from) bytes w' = absurd w'.spells
answer-room (form.AckReq w) bytes w' = absurd w'.spells
answer-room form.SenderAbort bytes w' = absurd w'.spells
answer-room (form.Ack w true bitmap) bytes w' = let one = w'.spells.1 in omega arith
answer-room (form.Ack w false bitmap) bytes w' = w'.spells.2
answer-room form.ReceiverAbort bytes w' =
    let two : length (octets bytes) ≡ 16 = ap length w'.spells.bits ∙ length-number_bits 16 65535 in
    omega (arith, two, length-octets bytes)

-- an answer that is written with the parameters of ACK-on-Error has at most nine bytes
pub written-room : (params : FragParams) (message : Message) (payload : List Bool) (bytes : List ℕ)
    → params ≡ params_of AckOnError → payload ≡ [] → IsWritten params Answers message payload bytes
    → length bytes ≤ 9
written-room params message payload bytes row none is =
    answer-room message bytes
    (subst (λ p. IsWritten (params_of AckOnError) Answers message p bytes) none
    (subst (λ q. IsWritten q Answers message payload bytes) row is))
