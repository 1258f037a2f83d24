-- The text of a whole script is read as that script.
use Rattle.std.proofs.Common.{ℕ, suc, ◌≡◌, ◌≢◌, ◌+◌, ◌<◌, ◌≤◌, ◌==◌, nat_lt, Bool, true, false}
use Rattle.std.proofs.Common.{◌||◌, List, [], ◌∷◌, ◌++◌, length, map, Ok, refl, sym, ap, ◌∙◌, subst}
use Rattle.std.proofs.Common.{arith, codes, append_assoc, append-nil}
use Rattle.std.specs.List.{AllByRecursion, list_any}
use Rattle.std.specs.Fmt.{decimal}
use Rattle.std.proofs.lemmas.List.{length-append}
use Rattle.std.proofs.lemmas.Bool.Decides.{nat_tests}
use Rattle.hex.specs.Hex.{IsBytes, encode_lower}
use Rattle.hex.proofs.HexLemmas.{decode_of-encode_lower, decode_of-ok}
use Rattle.schc_bits.proofs.ListLemmas.{all-append}
use Rattle.schc_ids.specs.declared.ends.Role.{Role}
use Rattle.schc_ids.specs.declared.ends.Role.TheVariants.{Device, Gateway}
use Rattle.schc_ids.specs.declared.ends.Direction.{Direction}
use Rattle.schc_ids.specs.declared.ends.Direction.TheVariants as way
use Rattle.rule_model.specs.declared.raw.DeviceLine.{DeviceLine}
use Rattle.rule_model.specs.RawData.{RawEditionData}
use Rattle.rule_json.specs.Written.{edition_data, edition_text}
use Rattle.event_data.specs.declared.events.Target.{Target}
use Rattle.event_data.specs.declared.events.Target.TheVariants as target
use Rattle.event_data.specs.Events.{Event, Down, Slot, Deliver, Tick, Abort, Publish, Offer, Allow}
use Rattle.event_data.specs.Events.{HandsBytes}
use Rattle.script_lang.specs.ScriptData.{ScriptEventData, ScriptData}
use Rattle.script_lang.specs.Ranges.{max_devices, max_events, is_declared, HaveParams}
use Rattle.script_lang.specs.Ranges.{HaveOwnNumbers, IsOfDeclared, AreDeclared, HandBytes}
use Rattle.script_lang.specs.Ranges.{HasSpelling, HaveSpellings, InRange}
use Rattle.script_lang.specs.Spelling.{spelled, role_word, direction_word, target_word}
use Rattle.script_lang.specs.Spelling.{CanBeSpelled}
use Rattle.script_lang.specs.Parsing.{with_lines, ParsesTo, empty_script}
use Rattle.script_lang.specs.Writing.{device_line, event_line, text_of_lines, script_lines}
use Rattle.script_lang.specs.Writing.{script_text}
use Rattle.script_lang.specs.Reading.{HaveNumbers, EventReads, AllRead}
use Rattle.script_lang.proofs.SpellingLemmas.{reads-back}
use Rattle.script_lang.proofs.RangesLemmas.{not-both, none-of, other-way}
use Rattle.script_lang.proofs.FeedLemmas.{NoFeed, both, literal, decimal-clean, hex-clean}
use Rattle.script_lang.proofs.FeedLemmas.{json-clean}
use Rattle.script_lang.proofs.WritingLemmas.{is-bytes, lines-again, device-again, device-clean}

-- ---- devices

or-right : (a b : Bool) → a || b ≡ false → b ≡ false
or-right true b h = absurd (cc)
or-right false b h = h

or-left : (a b : Bool) → a || b ≡ false → a ≡ false
or-left true b h = absurd (cc)
or-left false b h = refl

none-in : {A : Type 0} (test : A → Bool) (front : List A) (x : A) (back : List A) → list_any test
    (front ++ x ∷ back) ≡ false → test x ≡ false
none-in test [] x back h = or-left _ _ h
none-in test (y ∷ front) x back h = none-in test front x back (or-right _ _ h)

-- of devices with numbers of their own, none before another has its number
fresh : (front : List DeviceLine) (d : DeviceLine) (back : List DeviceLine) → HaveOwnNumbers
    (front ++ d ∷ back) → is_declared front d.number ≡ false
fresh [] d back own = refl
fresh (first ∷ front) d back own =
    let parts = not-both _ _ own in
    none-of _ _
    (other-way d.number first.number
    (none-in (λ other. other.number == first.number) front d back parts.0))
    (fresh front d back parts.1)

room : (k n : ℕ) → k < n → nat_lt k n ≡ true
room k n h = grind (arith, nat_tests)

-- the lines of devices declare them behind those that are declared
devices-follow : (n : ℕ) (front back : List DeviceLine) (rest : List (List ℕ)) → HaveParams back
    → HaveNumbers back → HaveOwnNumbers (front ++ back) → length (front ++ back) ≤ max_devices
    → with_lines n (map device_line back ++ rest) (record { devices = front; events = [] })
    ≡ with_lines (length back + n) rest (record { devices = front ++ back; events = [] })
devices-follow n front [] rest params numbers own few =
    let same : n ≡ 0 + n = omega arith in
    rw (append-nil front) (ap (λ k. with_lines k rest (record { devices = front; events = [] }))
    same)
devices-follow n front (d ∷ back) rest params numbers own few =
    let more = append_assoc front (d ∷ []) back in
    let under : nat_lt (length front) max_devices ≡ true = room (length front) max_devices
    (omega (arith, length-append front (d ∷ back), few)) in
    let later = devices-follow (n + 1) (front ++ d ∷ []) back rest params.1 numbers.1
    (subst HaveOwnNumbers (sym more) own)
    (subst (λ ds. length ds ≤ max_devices) (sym more) few) in
    let count : length back + (n + 1) ≡ suc (length back) + n = omega arith in
    rw (device-again front d params.0 numbers.0 (fresh front d back own), under)
    (later ∙ ap (λ ds. with_lines (length back + (n + 1)) rest
    (record { devices = ds; events = [] })) more
    ∙ ap (λ k. with_lines k rest (record { devices = front ++ d ∷ back; events = [] })) count)

-- ---- events

some-bytes : (packet : List ℕ) → 0 < length packet → packet ≢ []
some-bytes [] some e = absurd (omega (arith, some))
some-bytes (byte ∷ packet) some e = absurd (cc)

can-spell : (devices : List DeviceLine) (n : ℕ) (event : Event) → IsOfDeclared devices n event
    → HandsBytes event → HasSpelling event → EventReads n event → CanBeSpelled devices n event
can-spell devices n (Down role packet) d bytes some r = (
  record { small = r.small; declared = d },
  is-bytes packet bytes,
  some-bytes packet some,
)
can-spell devices n (Slot role) d bytes some r = record { small = r.small; declared = d }
can-spell devices n (Deliver direction place) d bytes some
    r = (record { small = r.small; declared = d }, r.can)
can-spell devices n (Tick at) d bytes some r = record { small = r.small; declared = d }
can-spell devices n (Abort role) d bytes some r = record { small = r.small; declared = d }
can-spell devices n (Publish raw) d bytes some r = (d, r.can)
can-spell devices n (Offer role number) d bytes some r = (
  record { small = r.small; declared = d },
  r.can,
)
can-spell devices n (Allow role number) d bytes some r = (
  record { small = r.small; declared = d },
  r.can,
)

-- each event can be spelled
abbrev CanAll : List DeviceLine → List ScriptEventData → Type 0
CanAll devices events = AllByRecursion
    (λ (e : ScriptEventData). CanBeSpelled devices e.device e.event) events

can-all : (devices : List DeviceLine) (events : List ScriptEventData) → AreDeclared devices events
    → HandBytes events → HaveSpellings events → AllRead events → CanAll devices events
can-all devices [] d bytes some r = tt
can-all devices (e ∷ events) d bytes some r = (
  can-spell devices e.device e.event d.0 bytes.0 some.0 r.0,
  can-all devices events d.1 bytes.1
      some.1 r.1,
)

-- the lines of events add them behind those that have happened
events-follow : (n : ℕ) (devices : List DeviceLine) (front back : List ScriptEventData)
    → CanAll devices back → length (front ++ back) ≤ max_events
    → with_lines n (map event_line back) (record { devices = devices; events = front }) ≡ Ok
    (record { devices = devices; events = front ++ back })
events-follow n devices front [] can few = rw (append-nil front) refl
events-follow n devices front (e ∷ back) can few =
    let more = append_assoc front (e ∷ []) back in
    let under : nat_lt (length front) max_events ≡ true = room (length front) max_events
    (omega (arith, length-append front (e ∷ back), few)) in
    let later = events-follow (n + 1) devices (front ++ e ∷ []) back can.1
    (subst (λ es. length es ≤ max_events) (sym more) few) in
    rw (reads-back devices e.device e.event can.0, under)
    (later ∙ ap (λ es. Ok (record { devices = devices; events = es })) more)

-- ---- no line feeds

role-clean : (role : Role) → NoFeed (role_word role)
role-clean Device = literal (codes "dev") refl
role-clean Gateway = literal (codes "gw") refl

direction-clean : (direction : Direction) → NoFeed (direction_word direction)
direction-clean way.Up = literal (codes "up") refl
direction-clean way.Down = literal (codes "down") refl

target-clean : (at : Target) → NoFeed (target_word at)
target-clean target.Device = literal (codes "dev") refl
target-clean target.Gateway = literal (codes "gw") refl
target-clean target.Both = literal (codes "both") refl

packet-clean : (packet : List ℕ) → IsBytes packet → NoFeed (encode_lower packet)
packet-clean packet bytes = hex-clean (encode_lower packet)
    (decode_of-ok (encode_lower packet) packet (decode_of-encode_lower packet bytes)).1

edition-clean : (raw : RawEditionData) → NoFeed (edition_text raw)
unfolding edition_text
edition-clean raw = json-clean (edition_data raw)

-- a name, a device's number and what follows
told-clean : (name : List ℕ) (n : ℕ) (rest : List ℕ) → NoFeed name → NoFeed rest → NoFeed
    (name ++ (decimal n ++ 32 ∷ rest))
told-clean name n rest first last = both name (decimal n ++ 32 ∷ rest) first
    (both (decimal n) (32 ∷ rest) (decimal-clean n) (refl, last))

event-clean : (devices : List DeviceLine) (n : ℕ) (event : Event) → CanBeSpelled devices n event
    → NoFeed (spelled n event)
unfolding spelled
event-clean devices n (Down role packet) can =
    told-clean (codes "hand ") n _ (literal (codes "hand ") refl)
    (both (role_word role) (32 ∷ encode_lower packet) (role-clean role)
    (refl, packet-clean packet can.1))
event-clean devices n (Slot role) can = told-clean (codes "slot ") n (role_word role)
    (literal (codes "slot ") refl) (role-clean role)
event-clean devices n (Deliver direction place) can =
    told-clean (codes "deliver ") n _ (literal (codes "deliver ") refl)
    (both (direction_word direction) (32 ∷ decimal place) (direction-clean direction)
    (refl, decimal-clean place))
event-clean devices n (Tick at) can = told-clean (codes "tick ") n (target_word at)
    (literal (codes "tick ") refl) (target-clean at)
event-clean devices n (Abort role) can = told-clean (codes "abort ") n (role_word role)
    (literal (codes "abort ") refl) (role-clean role)
event-clean devices n (Publish raw) can = both (codes "publish ") (edition_text raw)
    (literal (codes "publish ") refl) (edition-clean raw)
event-clean devices n (Offer role number) can =
    told-clean (codes "offer ") n _ (literal (codes "offer ") refl)
    (both (role_word role) (32 ∷ decimal number) (role-clean role) (refl, decimal-clean number))
event-clean devices n (Allow role number) can =
    told-clean (codes "allow ") n _ (literal (codes "allow ") refl)
    (both (role_word role) (32 ∷ decimal number) (role-clean role) (refl, decimal-clean number))

devices-clean : (devices : List DeviceLine) → AllByRecursion NoFeed (map device_line devices)
devices-clean [] = tt
devices-clean (d ∷ devices) = (device-clean d, devices-clean devices)

events-clean : (devices : List DeviceLine) (events : List ScriptEventData) → CanAll devices events
    → AllByRecursion NoFeed (map event_line events)
events-clean devices [] can = tt
events-clean devices (e ∷ events) can = (
  event-clean devices e.device e.event can.0,
  events-clean
      devices events can.1,
)

-- ---- a script

pub script-again : (s : ScriptData) → InRange s.devices s.events → HaveNumbers s.devices
    → AllRead s.events → ParsesTo (script_text s) s
script-again s r numbers reads =
    let can = can-all s.devices s.events r.4 r.3 r.5 reads in
    let clean = all-append NoFeed (map device_line s.devices) (map event_line s.events)
    (devices-clean s.devices) (events-clean s.devices s.events can) in
    ap (λ lines. with_lines 1 lines empty_script) (lines-again (script_lines s) clean)
    ∙ devices-follow 1 [] s.devices (map event_line s.events) r.0 numbers r.1 r.2
    ∙ events-follow (length s.devices + 1) s.devices [] s.events can r.6

lines-append : (front back : List (List ℕ)) → text_of_lines (front ++ back) ≡ text_of_lines front
    ++ text_of_lines back
lines-append [] back = refl
lines-append (line ∷ front) back = rw (lines-append front back)
    (sym (append_assoc line (10 ∷ text_of_lines front) (text_of_lines back)))

-- what is written of the devices and then of the events is the text of the script
pub written : (s : ScriptData) (devices : List DeviceLine) (events : List ScriptEventData)
    (start middle end : List ℕ) → devices ≡ s.devices → events ≡ s.events → start ≡ []
    → middle ≡ start ++ text_of_lines (map device_line devices) → end ≡ middle ++ text_of_lines
    (map event_line events) → end ≡ script_text s
written s devices events start middle end d e b m f =
    f ∙ rw (m, b, d, e) (sym (lines-append (map device_line s.devices) (map event_line s.events)))

-- and is read as the script
pub written-again : (s : ScriptData) (devices : List DeviceLine) (events : List ScriptEventData)
    (text : List ℕ) → devices ≡ s.devices → events ≡ s.events → text ≡ script_text s
    → InRange devices events → HaveNumbers devices → AllRead events → ParsesTo text s
written-again s devices events text d e written r numbers reads =
    subst (λ t. ParsesTo t s) (sym written)
    (script-again s (subst (λ es. InRange s.devices es) e (subst (λ ds. InRange ds events) d r))
    (subst HaveNumbers d numbers) (subst AllRead e reads))
