-- A script keeps its ranges when a device is declared, and when an event of one of its devices is
-- added.
use Rattle.std.proofs.Common.{ℕ, ◌≡◌, ◌==◌, Bool, true, false, not, ◌&&◌, ◌||◌, List, [], ◌∷◌, ◌++◌}
use Rattle.std.proofs.Common.{length, ◌<◌, refl, sym, ◌∙◌, ap, arith}
use Rattle.std.proofs.Common.{cond, nat_eq}
use Rattle.std.specs.List.{list_any}
use Rattle.std.specs.HashSet.{HashSet, contains, Updates}
use Rattle.std.proofs.lemmas.List.{length-append}
use Rattle.std.proofs.lemmas.Bool.Decides.{nat_tests}
use Rattle.schc_bits.proofs.ListLemmas.{all-append, all-weaken}
use Rattle.schc_ids.specs.Params.{IsParams}
use Rattle.rule_model.specs.declared.raw.DeviceLine.{DeviceLine}
use Rattle.event_data.specs.Events.{Event, Down, Slot, Deliver, Tick, Abort, Publish, Offer, Allow}
use Rattle.script_lang.specs.ScriptData.{ScriptEventData}
use Rattle.script_lang.specs.Ranges.{max_devices, is_declared}
use Rattle.script_lang.specs.Ranges.{HaveOwnNumbers, IsOfDeclared, AreDeclared}
use Rattle.script_lang.specs.Ranges.{InRange, AreNumbersOf}
use Rattle.script_lang.specs.Telling.{IsOneDevices, CanHappen}

or-none : (b : Bool) → b || false ≡ b
or-none true = refl
or-none false = refl

or-later : (a b c : Bool) → (a || b) || c ≡ a || (b || c)
or-later true b c = refl
or-later false b c = refl

any-last : {A : Type 0} (test : A → Bool) (xs : List A) (x : A) → list_any test
    (xs ++ x ∷ []) ≡ list_any test xs || test x
any-last test [] x = or-none (test x)
any-last test (y ∷ ys) x = ap (λ b. test y || b) (any-last test ys x) ∙ sym
    (or-later (test y) (list_any test ys) (test x))

or-first : (a b : Bool) → a ≡ true → a || b ≡ true
or-first true b h = refl
or-first false b h = absurd (cc)

neither : (a b : Bool) → a || b ≡ false → (a ≡ false) × (b ≡ false)
neither true b h = absurd (cc)
neither false b h = (refl, h)

-- where two conditions are false, it is false that one of them holds
pub none-of : (a b : Bool) → a ≡ false → b ≡ false → a || b ≡ false
none-of a b first second = rw (first, second) refl

-- where it holds that the first isn't so but the second is, the first is false and the second true
pub not-both : (a b : Bool) → not a && b ≡ true → (a ≡ false) × (b ≡ true)
not-both true b h = absurd (cc)
not-both false b h = (refl, h)

-- two numbers that differ differ the other way round too
pub other-way : (m n : ℕ) → (m == n) ≡ false → (n == m) ≡ false
other-way m n h = grind (arith, nat_tests)

-- ---- devices

pub still-declared : (devices : List DeviceLine) (line : DeviceLine) (n : ℕ)
    → is_declared devices n ≡ true → is_declared (devices ++ line ∷ []) n ≡ true
still-declared devices line n h = any-last (λ device. device.number == n) devices line
    ∙ or-first _ _ h

pub own-more : (devices : List DeviceLine) (line : DeviceLine) → HaveOwnNumbers devices
    → is_declared devices line.number ≡ false → HaveOwnNumbers (devices ++ line ∷ [])
own-more [] line own new = refl
own-more (device ∷ devices) line own new =
    let parts = not-both _ _ own in
    let others = neither (device.number == line.number) (is_declared devices line.number) new in
    let apart : is_declared (devices ++ line ∷ []) device.number ≡ false =
    any-last (λ other. other.number == device.number) devices line ∙ none-of _ _ parts.0
    (other-way device.number line.number others.0) in
    rw (apart, own-more devices line parts.1 others.1) refl

either : (b c : Bool) → cond b true c ≡ c || b
either true true = refl
either true false = refl
either false true = refl
either false false = refl

-- when a number goes into the set and a device with it behind the others, the set still has the
-- devices' numbers
pub numbers-one : {S : Type 0} (old new : HashSet ℕ S) (devices : List DeviceLine)
    (line : DeviceLine) → Updates nat_eq old new line.number true → AreNumbersOf old devices
    → AreNumbersOf new (devices ++ line ∷ [])
numbers-one old new devices line updates numbers n =
    updates.0 n
    ∙ either (line.number == n) (contains nat_eq old n)
    ∙ ap (λ b. b || (line.number == n)) (numbers n)
    ∙ sym (any-last (λ device. device.number == n) devices line)

-- ---- events

declared-later : (devices : List DeviceLine) (line : DeviceLine) (n : ℕ) (event : Event)
    → IsOfDeclared devices n event → IsOfDeclared (devices ++ line ∷ []) n event
declared-later devices line n (Down role packet) h = still-declared devices line n h
declared-later devices line n (Slot role) h = still-declared devices line n h
declared-later devices line n (Deliver direction place) h = still-declared devices line n h
declared-later devices line n (Tick at) h = still-declared devices line n h
declared-later devices line n (Abort role) h = still-declared devices line n h
declared-later devices line n (Publish raw) h = h
declared-later devices line n (Offer role number) h = still-declared devices line n h
declared-later devices line n (Allow role number) h = still-declared devices line n h

pub all-declared-later : (devices : List DeviceLine) (line : DeviceLine)
    (events : List ScriptEventData) → AreDeclared devices events → AreDeclared
    (devices ++ line ∷ []) events
all-declared-later devices line events h =
    all-weaken (λ e. IsOfDeclared devices e.device e.event)
    (λ e. IsOfDeclared (devices ++ line ∷ []) e.device e.event) events
    (λ e. declared-later devices line e.device e.event) h

-- a script stays in its ranges when a device with a number of its own is declared
pub declared-one : (devices : List DeviceLine) (events : List ScriptEventData) (line : DeviceLine)
    → is_declared devices line.number ≡ false → IsParams line.params → length devices < max_devices
    → InRange devices events → InRange (devices ++ line ∷ []) events
declared-one devices events line new params few r = (
  all-append (λ device. IsParams device.params) devices (line ∷ []) r.0 (params, tt),
  own-more devices line r.1 new,
  omega (arith, length-append devices (line ∷ [])),
  r.3,
  all-declared-later devices line events r.4,
  r.5,
  r.6,
)

-- ---- what lines tell

pub can-happen : (devices : List DeviceLine) (n : ℕ) (event : Event) → is_declared devices n ≡ true
    → IsOneDevices event → CanHappen devices n event
can-happen devices n (Down role packet) d h = record { declared = d; bytes = h.0; spelling = h.1 }
can-happen devices n (Slot role) d h = record { declared = d; bytes = tt; spelling = tt }
can-happen devices n (Deliver direction place) d h = record
    { declared = d; bytes = tt; spelling = tt }
can-happen devices n (Tick at) d h = record { declared = d; bytes = tt; spelling = tt }
can-happen devices n (Abort role) d h = record { declared = d; bytes = tt; spelling = tt }
can-happen devices n (Publish raw) d h = absurd h
can-happen devices n (Offer role number) d h = record { declared = d; bytes = tt; spelling = tt }
can-happen devices n (Allow role number) d h = record { declared = d; bytes = tt; spelling = tt }
