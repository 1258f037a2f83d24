-- The events that are dealt out to a device give the lines of its share.
use Rattle.std.proofs.Common.{◌≡◌, ℕ, ◌+◌, ◌-◌, ◌==◌, Bool, true, false, ◌||◌}
use Rattle.std.proofs.Common.{min, arith, length, List, [], ◌∷◌, ◌++◌, map, take, drop}
use Rattle.std.proofs.Common.{Option, Some, refl, ap, sym, ◌∙◌}
use Rattle.std.specs.Option.{unwrap_or}
use Rattle.std.specs.Borrow.{Bor}
use Rattle.std.proofs.Math.Seq.{take-append_seam, drop-append_seam, drop-drop}
use Rattle.std.proofs.lemmas.Bool.{eq-eqb}
use Rattle.std.proofs.lemmas.List.{append-nil, append_assoc, length-append}
use Rattle.std.proofs.lemmas.List.{take-map, drop-map, take_min, drop_min}
use Rattle.std.proofs.lemmas.List.Sums.{fold-append}
use Rattle.rule_model.specs.declared.raw.DeviceLine.{DeviceLine}
use Rattle.event_data.specs.Events.{Event, view_event}
use Rattle.event_data.specs.declared.events.WorldEvent.{WorldEvent}
use Rattle.event_data.specs.declared.outcomes.Line.{Line}
use Rattle.two_ends.specs.World.{WorldData, step}
use Rattle.script_lang.specs.Ranges.{is_declared}
use Rattle.script_lang.specs.ScriptData.{ScriptEventData}
use Rattle.gw_top.specs.Run.{is_publication, line_of}
use Rattle.gw_top.specs.Shares.{first_world, own_lines, share_of}
use Rattle.gw_top.specs.Turns.{TurnData}
use Rattle.gw_top.specs.Dealing.{publications_in, before_next, turn_of, turns_in, seen}
use Rattle.gw_top.specs.Dealing.{dealt_publications, dealt_turns, PutsTurn, IsDealt}
use Rattle.gw_top.specs.Dealing.{world_after, due, lines_of_turns, share_from}
use Rattle.gw_top.specs.declared.dealing.Dealt.{Dealt}

-- one event more
after-last : (world : WorldData) (events : List Event) (event : Event)
    → (step (world_after world events) event).0 ≡ world_after world (events ++ event ∷ [])
after-last world events event =
    sym (fold-append (λ (w : WorldData) (e : Event). (step w e).0) world events (event ∷ []))

-- of the publications, of which so many have happened, these wait, and those come later
record Waits (publications : List Event) (done before : ℕ) (waiting later : List Event) :
    Type 0 where
  left : drop done publications ≡ waiting ++ later
  all : done + length waiting ≡ before

-- those that wait are due
due-is : (publications : List Event) (done before : ℕ) (waiting later : List Event)
    → Waits publications done before waiting later → due publications done before ≡ waiting
due-is publications done before waiting later waits =
    let all = waits.all in
    let count : before - done ≡ length waiting = omega arith in
    ap (λ n. take n (drop done publications)) count
    ∙ ap (take (length waiting)) waits.left
    ∙ take-append_seam waiting later

-- and when they have happened, none waits
none-waits : (publications : List Event) (done before : ℕ) (waiting later : List Event)
    → Waits publications done before waiting later → Waits publications before before [] later
none-waits publications done before waiting later waits =
    record {
      left =
          ap (λ n. drop n publications) (sym waits.all)
          ∙ sym (drop-drop (length waiting) done publications)
          ∙ ap (drop (length waiting)) waits.left
          ∙ drop-append_seam waiting later;
      all = omega arith;
    }

publications-cons : (e : ScriptEventData) (rest : List ScriptEventData) (b : Bool)
    → is_publication e.event ≡ b
    → publications_in (e ∷ rest) ≡ publications_in (e ∷ []) ++ publications_in rest
publications-cons e rest true is = rw is refl
publications-cons e rest false is = rw is refl

-- a publication waits, too
one-waits : (publications : List Event) (done before : ℕ) (waiting : List Event)
    (e : ScriptEventData) (rest : List ScriptEventData) → is_publication e.event ≡ true
    → Waits publications done before waiting (publications_in (e ∷ rest))
    → Waits publications done (before + 1) (waiting ++ e.event ∷ []) (publications_in rest)
one-waits publications done before waiting e rest is waits =
    let all = waits.all in
    record {
      left = waits.left ∙ rw is (sym (append_assoc waiting (e.event ∷ []) (publications_in rest)));
      all = omega (arith, length-append waiting (e.event ∷ []));
    }

-- any other event doesn't
no-more : (publications : List Event) (done before : ℕ) (waiting : List Event)
    (e : ScriptEventData) (rest : List ScriptEventData) → is_publication e.event ≡ false
    → Waits publications done before waiting (publications_in (e ∷ rest))
    → Waits publications done before waiting (publications_in rest)
no-more publications done before waiting e rest is waits =
    let none : publications_in (e ∷ rest) ≡ publications_in rest = rw is refl in
    record { left = waits.left ∙ ap (λ ps. waiting ++ ps) none; all = waits.all }

-- a device's outcomes by its events are those by its turns, where publications that wait have
-- happened in the world that the events go on from, and not in that of the turns
abbrev Same : ℕ → WorldData → List Event → ℕ → ℕ → List Event → List ScriptEventData → Type 0
Same number world publications done before waiting events =
    own_lines number (world_after world waiting) events
    ≡ lines_of_turns world publications done (turns_in number before events)

module _ (number : ℕ) (world : WorldData) (publications : List Event) (done before : ℕ)
    (waiting : List Event) (e : ScriptEventData) (events : List ScriptEventData) where
  -- a publication waits, too
  at-publication : is_publication e.event ≡ true
      → Same number world publications done (before + 1) (waiting ++ e.event ∷ []) events
      → Same number world publications done before waiting (e ∷ events)
  at-publication is later =
      rw is (ap (λ w. own_lines number w events) (after-last world waiting e.event) ∙ later)

  -- the world after an event of the device
  abbrev Next : WorldData
  Next = (step (world_after world waiting) e.event).0

  -- before an event of the device all that waits is due
  at-own : is_publication e.event ≡ false → (e.device == number) ≡ true
      → due publications done before ≡ waiting
      → Same number Next publications before before [] events
      → Same number world publications done before waiting (e ∷ events)
  at-own is own all later =
      rw (is, own, all)
      (ap (λ ls. line_of (step (world_after world waiting) e.event).1 ∷ ls) later)

  -- an event of another device passes
  at-other : is_publication e.event ≡ false → (e.device == number) ≡ false
      → Same number world publications done before waiting events
      → Same number world publications done before waiting (e ∷ events)
  at-other is other later = rw (is, other) later

-- the three kinds of events
cases : {P : Type 0} (publication own : Bool) → (publication ≡ true → P)
    → (publication ≡ false → own ≡ true → P) → (publication ≡ false → own ≡ false → P) → P
cases true own first second third = first refl
cases false true first second third = second refl refl
cases false false first second third = third refl refl

turns-by : (number : ℕ) (world : WorldData) (publications : List Event) (done before : ℕ)
    (waiting : List Event) (events : List ScriptEventData)
    → Waits publications done before waiting (publications_in events)
    → Same number world publications done before waiting events
turns-by number world publications done before waiting [] waits = refl
turns-by number world publications done before waiting (e ∷ events) waits =
    cases (is_publication e.event) (e.device == number)
    (λ is.
    let more = one-waits publications done before waiting e events is waits in
    let waiting_now : List Event = waiting ++ e.event ∷ [] in
    at-publication number world publications done before waiting e events is
    (turns-by number world publications done (before + 1) waiting_now events more))
    (λ is same.
    let as_before = no-more publications done before waiting e events is waits in
    let later : List Event = publications_in events in
    let after : WorldData = (step (world_after world waiting) e.event).0 in
    let none = none-waits publications done before waiting later as_before in
    at-own number world publications done before waiting e events is same
    (due-is publications done before waiting later as_before)
    (turns-by number after publications before before [] events none))
    (λ is same.
    let as_before = no-more publications done before waiting e events is waits in
    at-other number world publications done before waiting e events is same
    (turns-by number world publications done before waiting events as_before))

-- the lines of the events that are dealt out to a device are those of its own events
pub turns-law : (number : ℕ) (world : WorldData) (events : List ScriptEventData)
    → lines_of_turns world (publications_in events) 0 (turns_in number 0 events)
    ≡ own_lines number world events
turns-law number world events =
    sym (turns-by number world (publications_in events) 0 0 [] events
    (record { left = refl; all = refl }))

or-right : (a b : Bool) → b ≡ true → a || b ≡ true
or-right true b is = refl
or-right false b is = is

-- each device that is declared has its turns
abbrev HaveTurns : List DeviceLine → List ScriptEventData → Dealt → Type 0
HaveTurns devices events dealt =
    (number : ℕ) → is_declared devices number ≡ true
    → dealt_turns dealt number ≡ Some (turns_in number 0 events)

-- the share that a device has by these publications and turns
abbrev share-by : DeviceLine → List Event → Option (List TurnData) → ℕ × List Line
share-by device publications turns = (
  device.number,
  lines_of_turns (first_world device.params) publications 0 (unwrap_or turns []),
)

one-share : (dealt : Dealt) (events : List ScriptEventData) (device : DeviceLine)
    → dealt_publications dealt ≡ publications_in events
    → dealt_turns dealt device.number ≡ Some (turns_in device.number 0 events)
    → share_from dealt device ≡ share_of events device
one-share dealt events device all own =
    let number : ℕ = device.number in
    ap (λ ps. share-by device ps (dealt_turns dealt number)) all
    ∙ ap (share-by device (publications_in events)) own
    ∙ ap (λ lines. (number, lines)) (turns-law number (first_world device.params) events)

shares-of : (dealt : Dealt) (events : List ScriptEventData) (devices : List DeviceLine)
    → dealt_publications dealt ≡ publications_in events → HaveTurns devices events dealt
    → map (share_from dealt) devices ≡ map (share_of events) devices
shares-of dealt events [] all each = refl
shares-of dealt events (device ∷ devices) all each =
    let here = eq-eqb device.number device.number refl in
    let own = each device.number (rw here refl) in
    ap (λ share. share ∷ map (share_from dealt) devices)
    (one-share dealt events device all own)
    ∙ ap (λ rest. share_of events device ∷ rest)
    (shares-of dealt events devices all
    (λ number there. each number (or-right (device.number == number) _ there)))

-- what is dealt out to the devices gives their shares
pub dealt-shares : (devices : List DeviceLine) (events : List ScriptEventData) (dealt : Dealt)
    → IsDealt devices events dealt → map (share_from dealt) devices ≡ map (share_of events) devices
dealt-shares devices events dealt is = shares-of dealt events devices is.all is.each

-- what is dealt out where these events are left
pub record IsDealtTo (devices : List DeviceLine) (events left : List ScriptEventData)
    (dealt : Dealt) : Type 0 where
  pub all : dealt_publications dealt ++ publications_in left ≡ publications_in events
  pub each : (number : ℕ) → is_declared devices number ≡ true
      → (list : List TurnData)
      × (dealt_turns dealt number ≡ Some list)
      × (list ++ turns_in number (length (dealt_publications dealt)) left
      ≡ turns_in number 0 events)

-- the publications up to the event that follows
count-by : (publications : List Event) (e : ScriptEventData) (b : Bool)
    → is_publication e.event ≡ b
    → before_next (length publications) e ≡ length (publications ++ publications_in (e ∷ []))
count-by publications e true is =
    rw is (omega (arith, length-append publications (e.event ∷ [])))
count-by publications e false is = rw (is, append-nil publications) refl

module _ (devices : List DeviceLine) (events rest : List ScriptEventData) (e : ScriptEventData)
    (dealt more : Dealt)
    (added : dealt_publications more ≡ dealt_publications dealt ++ publications_in (e ∷ []))
    (put : PutsTurn e dealt more) (to : IsDealtTo devices events (e ∷ rest) dealt) where
  next-publications : dealt_publications more ++ publications_in rest ≡ publications_in events
  next-publications =
      ap (λ ps. ps ++ publications_in rest) added
      ∙ append_assoc (dealt_publications dealt) (publications_in (e ∷ [])) (publications_in rest)
      ∙ ap (λ ps. dealt_publications dealt ++ ps)
      (sym (publications-cons e rest (is_publication e.event) refl))
      ∙ to.all

  -- behind the turn of the event come those of the rest
  next-turns : (number : ℕ) (list : List TurnData)
      → list ++ turns_in number (length (dealt_publications dealt)) (e ∷ rest)
      ≡ turns_in number 0 events
      → (list ++ turn_of number (length (dealt_publications dealt)) e)
      ++ turns_in number (length (dealt_publications more)) rest
      ≡ turns_in number 0 events
  next-turns number list all =
      let before : ℕ = length (dealt_publications dealt) in
      let count = count-by (dealt_publications dealt) e (is_publication e.event) refl in
      ap (λ n. (list ++ turn_of number before e) ++ turns_in number n rest)
      (ap (λ (ps : List Event). length ps) added ∙ sym count)
      ∙ append_assoc list (turn_of number before e) (turns_in number (before_next before e) rest)
      ∙ all

  -- one event more is dealt out
  pub dealt-next : IsDealtTo devices events rest more
  dealt-next =
      record {
        all = next-publications;
        each = λ number there.
            let found = to.each number there in (
              found.0 ++ turn_of number (length (dealt_publications dealt)) e,
              put number found.0 found.1,
              next-turns number found.0 found.2,
            );
      }

-- a slice of what is due, within the publications
pub due_slice : (publications left front : List (Bor WorldEvent)) (done before : ℕ)
    → left ≡ drop (min done (length publications)) publications
    → front ≡ take (min (before - done) (length left)) left
    → seen front ≡ due (seen publications) done before
due_slice publications left front done before back is =
    let view = λ (event : Bor WorldEvent). view_event event.now in
    ap seen is
    ∙ ap seen (take_min (before - done) left)
    ∙ sym (take-map view (before - done) left)
    ∙ ap (λ list. take (before - done) (seen list)) (back ∙ drop_min done publications)
    ∙ ap (take (before - done)) (sym (drop-map view done publications))
