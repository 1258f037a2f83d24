-- The parts of a load, one more at a time.
use Rattle.std.proofs.Common.{ℕ, zero, suc, ◌≡◌, ◌+◌, ◌-◌, ◌*◌, ◌<◌, ◌≤◌, ◌%◌, ◌==◌, Bool, true}
use Rattle.std.proofs.Common.{false, ◌||◌}
use Rattle.std.proofs.Common.{List, [], ◌∷◌, ◌++◌, length, map, flat_map, refl, sym, ap, ◌∙◌, subst}
use Rattle.std.proofs.Common.{arith, append_assoc, append-nil}
use Rattle.std.specs.List.{list_any}
use Rattle.std.specs.Int.{to_be_bytes}
use mir.Syntax.{w16, w64}
use Rattle.std.proofs.lemmas.List.{length-append}
use Rattle.std.proofs.lemmas.Bool.Decides.{nat_tests}
use Rattle.schc_bits.specs.Bits.{AreBytes}
use Rattle.schc_bits.proofs.ListLemmas.{all-append}
use Rattle.schc_ids.specs.declared.ends.Role.TheVariants.{Device}
use Rattle.schc_ids.specs.declared.ends.Direction.TheVariants as way
use Rattle.event_data.specs.Events.{Slot, Deliver}
use Rattle.script_lang.specs.ScriptData.{ScriptEventData}
use Rattle.script_lang.specs.Ranges.{is_declared}
use Rattle.load_maker.specs.Load.{below, next_state, draw_of, draws, payload, packet_size}
use Rattle.load_maker.specs.Load.{link_local, app_iid, load_packet, at, frames_up, load_device}

next-number : (n : ℕ) → n + 1 ≡ suc n
next-number n = omega arith

pub draws-step : (k count x : ℕ) → k < count → draws (count - k) x ≡ draw_of (next_state x) ∷ draws
    (count - (k + 1)) (next_state x)
unfolding draws
draws-step k count x h =
    let e : count - k ≡ suc (count - (k + 1)) = omega (arith, h) in
    rw e refl

pub draws-none : (count x : ℕ) → draws (count - count) x ≡ []
unfolding draws
draws-none count x = let e : count - count ≡ 0 = omega arith in rw e refl

-- ---- lists of the numbers below another

map-append : {A B : Type 0} (f : A → B) (xs ys : List A) → map f (xs ++ ys) ≡ map f xs ++ map f ys
map-append f [] ys = refl
map-append f (x ∷ xs) ys = ap (λ zs. f x ∷ zs) (map-append f xs ys)

flat-append : {A B : Type 0} (f : A → List B) (xs ys : List A) → flat_map f
    (xs ++ ys) ≡ flat_map f xs ++ flat_map f ys
flat-append f [] ys = refl
flat-append f (x ∷ xs) ys =
    ap (λ zs. f x ++ zs) (flat-append f xs ys) ∙ sym
    (append_assoc (f x) (flat_map f xs) (flat_map f ys))

-- the values for the numbers below n + 1 are those below n, and behind them that of n
pub one_more : {B : Type 0} (f : ℕ → B) (n : ℕ) → map f (below (n + 1)) ≡ map f (below n)
    ++ f n ∷ []
one_more f n = rw (next-number n) (map-append f (below n) (n ∷ []))

-- the lists for the numbers below n + 1, joined, are those below n, and behind them that of n
pub flat_more : {B : Type 0} (f : ℕ → List B) (n : ℕ) → flat_map f (below (n + 1)) ≡ flat_map f
    (below n) ++ f n
flat_more f n =
    rw (next-number n) (flat-append f (below n) (n ∷ []) ∙ ap (λ zs. flat_map f (below n) ++ zs)
    (append-nil (f n)))

pub payload-more : (draw n : ℕ) → payload draw (n + 1) ≡ payload draw n ++ ((draw + n) % 256) ∷ []
unfolding payload
payload-more draw n = one_more (λ i. (draw + i) % 256) n

length-below : (n : ℕ) → length (below n) ≡ n
length-below zero = refl
length-below (suc n) = length-append (below n) (n ∷ []) ∙ rw (length-below n) (next-number n)

length-map : {A B : Type 0} (f : A → B) (xs : List A) → length (map f xs) ≡ length xs
length-map f [] = refl
length-map f (x ∷ xs) = ap (λ n. suc n) (length-map f xs)

pub length-payload : (draw n : ℕ) → length (payload draw n) ≡ n
unfolding payload
length-payload draw n = length-map (λ i. (draw + i) % 256) (below n) ∙ length-below n

-- ---- devices

-- the devices with the numbers below n are n
pub counted : (n : ℕ) → length (map load_device (below n)) ≡ n
counted n = length-map load_device (below n) ∙ length-below n

or-later : (a b c : Bool) → (a || b) || c ≡ a || (b || c)
or-later true b c = refl
or-later false b c = refl

any-append : {A : Type 0} (test : A → Bool) (xs ys : List A) → list_any test
    (xs ++ ys) ≡ list_any test xs || list_any test ys
any-append test [] ys = refl
any-append test (x ∷ xs) ys = ap (λ b. test x || b) (any-append test xs ys) ∙ sym
    (or-later (test x) (list_any test xs) (list_any test ys))

or-none : (b : Bool) → b || false ≡ b
or-none true = refl
or-none false = refl

declared-more : (n k : ℕ) → is_declared (map load_device (below (suc n))) k ≡ is_declared
    (map load_device (below n)) k || (n == k)
declared-more n k =
    ap (λ ds. is_declared ds k) (map-append load_device (below n) (n ∷ []))
    ∙ any-append (λ device. device.number == k) (map load_device (below n)) (load_device n ∷ [])
    ∙ ap (λ b. is_declared (map load_device (below n)) k || b) (or-none (n == k))

or-true : (a b : Bool) → b ≡ true → a || b ≡ true
or-true true b h = refl
or-true false b h = h

or-first : (a b : Bool) → a ≡ true → a || b ≡ true
or-first true b h = refl
or-first false b h = absurd (cc)

-- where the devices with the numbers below n are declared, no number from n on is
pub fresh : (n k : ℕ) → n ≤ k → is_declared (map load_device (below n)) k ≡ false
fresh zero k h = refl
fresh (suc n) k h =
    let other : (n == k) ≡ false = grind (arith, nat_tests) in
    declared-more n k ∙ rw (fresh n k (omega (arith, h)), other) refl

different : (n k : ℕ) → (n == k) ≡ false → k < suc n → k < n
different n k s h = grind (arith, nat_tests)

last-or-before : (n k : ℕ) (same : Bool) → (n == k) ≡ same → k < suc n
    → (k < n → is_declared (map load_device (below n)) k ≡ true)
    → is_declared (map load_device (below n)) k || (n == k) ≡ true
last-or-before n k true s h before = or-true _ _ s
last-or-before n k false s h before = or-first _ _ (before (different n k s h))

-- where the devices with the numbers below n are declared, each number below n is
pub known : (n k : ℕ) → k < n → is_declared (map load_device (below n)) k ≡ true
known zero k h = absurd (omega (arith, h))
known (suc n) k h = declared-more n k ∙ last-or-before n k (n == k) refl h
    (known n k)

-- ---- frames and draws

pub frames-step : (device number k count : ℕ) → k < count → frames_up device (number + k)
    (count - k)
    ≡ at device (Slot Device) ∷ at device (Deliver way.Up (number + k)) ∷ frames_up device
    (number + (k + 1)) (count - (k + 1))
unfolding frames_up
frames-step device number k count h =
    let e : count - k ≡ suc (count - (k + 1)) = omega (arith, h) in
    let f : (number + k) + 1 ≡ number + (k + 1) = omega arith in
    rw (e, f) refl

pub frames-none : (device number count : ℕ) → frames_up device number (count - count) ≡ []
unfolding frames_up
frames-none device number count = let e : count - count ≡ 0 = omega arith in rw e refl

-- the place of the draw that a device takes in a round is one of the places of three rounds
pub within : (round devices device : ℕ) → round < 3 → device < devices
    → round * devices + device < 3 * devices
within zero devices device h d = omega (arith, d)
within (suc zero) devices device h d = omega (arith, d)
within (suc (suc zero)) devices device h d = omega (arith, d)
within (suc (suc (suc n))) devices device h d = absurd (omega (arith, h))

-- ---- one more in a loop

-- a list with one more item at its end is longer by one
pub length-pushed : {A : Type 0} (list more : List A) (x : A) (k : ℕ) → more ≡ list ++ x ∷ []
    → length list ≡ k → length more ≡ k + 1
length-pushed list more x k pushed before = ap length pushed ∙ length-append list (x ∷ [])
    ∙ rw before refl

-- with the next draw behind them, the draws made and those still to make are the same as before
pub draws-pushed : (list more : List ℕ) (count k start old next draw : ℕ) → k < count → list
    ++ draws (count - k) old ≡ draws count start
    → next ≡ next_state old → draw ≡ draw_of next → more ≡ list ++ draw ∷ [] → more ++ draws
    (count - (k + 1)) next ≡ draws count start
draws-pushed list more count k start old next draw h all n d pushed =
    rw (pushed, d, n) (append_assoc list (draw_of (next_state old) ∷ [])
    (draws (count - (k + 1)) (next_state old))
    ∙ ap (λ ds. list ++ ds) (sym (draws-step k count old h)) ∙ all)

-- where no draw is left to make, all are made
pub draws-all : (list : List ℕ) (count k start state : ℕ) → count ≤ k → list ++ draws
    (count - k) state ≡ draws count start → list ≡ draws count start
unfolding draws
draws-all list count k start state h all =
    let e : count - k ≡ 0 = omega (arith, h) in
    sym (append-nil list) ∙ subst (λ n. list ++ draws n state ≡ draws count start) e all

-- a payload of no bytes adds nothing to what stands before it
pub payload-none : (front : List ℕ) (draw : ℕ) → front ≡ front ++ payload draw 0
unfolding payload
payload-none front draw = sym (append-nil front)

-- with its next byte, which counts up from the draw, the payload is that of one byte more
pub payload-pushed : (front items more : List ℕ) (draw i byte : ℕ) → items ≡ front ++ payload draw i
    → more ≡ items ++ byte ∷ [] → byte ≡ (draw + i) % 256
    → more ≡ front ++ payload draw (i + 1)
payload-pushed front items more draw i byte before pushed is =
    rw (payload-more draw i, pushed, before, is)
    (append_assoc front (payload draw i) (((draw + i) % 256) ∷ []))

-- with the slot and the arrival of the next frame behind them, the events told and those of the
-- frames still to go up are the same as before
pub frames-pushed : (device number k count : ℕ) (start now mid end : List ScriptEventData)
    → k < count
    → now ++ frames_up device (number + k) (count - k) ≡ start ++ frames_up device number count
    → mid ≡ now ++ at device (Slot Device) ∷ [] → end ≡ mid ++ at device
    (Deliver way.Up (number + k)) ∷ []
    → end ++ frames_up device (number + (k + 1)) (count - (k + 1)) ≡ start
    ++ frames_up device number count
frames-pushed device number k count start now mid end h all first second =
    let left = frames_up device (number + (k + 1)) (count - (k + 1)) in
    let slot = at device (Slot Device) in
    let deliver = at device (Deliver way.Up (number + k)) in
    rw (second, first) (append_assoc (now ++ slot ∷ []) (deliver ∷ []) left ∙ append_assoc now
    (slot ∷ []) (deliver ∷ left)
    ∙ ap (λ events. now ++ events) (sym (frames-step device number k count h)) ∙ all)

-- with two more, the events are still two for each frame beside those at the start
pub length-two : (now mid end : List ScriptEventData) (x y : ScriptEventData) (n k : ℕ) → mid ≡ now
    ++ x ∷ [] → end ≡ mid ++ y ∷ [] → length now ≡ n + 2 * k
    → length end ≡ n + 2 * (k + 1)
length-two now mid end x y n k first second before =
    let a = length-pushed now mid x (n + 2 * k) first before in
    let b = length-pushed mid end y (n + 2 * k + 1) second a in
    b ∙ omega arith

-- where no frame is left to go up, the events of all are told, behind those at the start
pub frames-all : (device number k count : ℕ) (start now : List ScriptEventData) → count ≤ k
    → now ++ frames_up device (number + k) (count - k) ≡ start ++ frames_up device number count
    → now ≡ start ++ frames_up device number count
unfolding frames_up
frames-all device number k count start now h all =
    let e : count - k ≡ 0 = omega (arith, h) in
    sym (append-nil now) ∙ subst (λ n. now ++ frames_up device (number + k) n ≡ start
    ++ frames_up device number count) e all

-- ---- packets

bytes-16 : (n : ℕ) → AreBytes (to_be_bytes w16 n)
bytes-16 n = (omega arith, (omega arith, tt))

bytes-64 : (n : ℕ) → AreBytes (to_be_bytes w64 n)
bytes-64 n = (
  omega arith,
  (
    omega arith,
    (omega arith, (omega arith, (omega arith, (omega arith, (omega arith, (omega arith, tt)))))),
  ),
)

bytes-local : AreBytes link_local
bytes-local = (
  omega arith,
  (
    omega arith,
    (omega arith, (omega arith, (omega arith, (omega arith, (omega arith, (omega arith, tt)))))),
  ),
)

bytes-mapped : (draw : ℕ) (xs : List ℕ) → AreBytes (map (λ i. (draw + i) % 256) xs)
bytes-mapped draw [] = tt
bytes-mapped draw (x ∷ xs) = (omega arith, bytes-mapped draw xs)

bytes-payload : (draw n : ℕ) → AreBytes (payload draw n)
unfolding payload
bytes-payload draw n = bytes-mapped draw (below n)

joined : (front back : List ℕ) → AreBytes front → AreBytes back → AreBytes (front ++ back)
joined front back first second = all-append (λ byte. byte < 256) front back first second

-- each number in a packet of a load is a byte
pub packet_bytes : (device draw : ℕ) → AreBytes (load_packet device draw)
unfolding load_packet
packet_bytes device draw =
    let bytes = payload draw (packet_size draw - 40) in
    let app = to_be_bytes w64 app_iid ++ bytes in
    let target = link_local ++ app in
    let dev = to_be_bytes w64 (device + 1) ++ target in
    let source = link_local ++ dev in
    let hops = (0x3b ∷ 0x40 ∷ []) ++ source in
    let apps : AreBytes app = joined (to_be_bytes w64 app_iid) bytes (bytes-64 app_iid)
    (bytes-payload draw (packet_size draw - 40)) in
    let targets : AreBytes target = joined link_local app bytes-local apps in
    let devs : AreBytes dev = joined (to_be_bytes w64 (device + 1)) target
    (bytes-64 (device + 1)) targets in
    let sources : AreBytes source = joined link_local dev bytes-local devs in
    let hopped : AreBytes hops = (omega arith, (omega arith, sources)) in
    let sized = joined (to_be_bytes w16 (packet_size draw - 40)) hops
    (bytes-16 (packet_size draw - 40)) hopped in
    (omega arith, (omega arith, (omega arith, (omega arith, sized))))

size-least : (draw : ℕ) → 40 ≤ packet_size draw
unfolding packet_size
size-least draw = omega arith

-- a packet of a load has the size that its draw gives, 40 to 200 bytes
pub packet_length : (device draw : ℕ) → length (load_packet device draw) ≡ packet_size draw
unfolding load_packet
packet_length device draw = omega
    (arith, length-payload draw (packet_size draw - 40), size-least draw)
