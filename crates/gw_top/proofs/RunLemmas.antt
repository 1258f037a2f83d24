-- Each run of a script is safe, and what `sim` writes is the print of a script's run.
use Rattle.std.proofs.Common.{ℕ, ◌≡◌, ◌==◌, Bool, true, false, not, ◌&&◌, ◌||◌, if◌then◌else◌, cond}
use Rattle.std.proofs.Common.{List, [], ◌∷◌, ◌++◌, length, map, filter, take, Option, Some, None}
use Rattle.std.proofs.Common.{Result, Ok, Err, refl, sym, ap, ◌∙◌, subst}
use Rattle.std.specs.List.{AllByRecursion, list_any}
use Rattle.std.specs.Io.KnownBytes.{Appends}
use Rattle.std.proofs.Math.Seq.{take-length}
use Rattle.schc_ids.specs.Params.{IsParams}
use Rattle.schc_ids.specs.declared.ends.EndParams.{EndParams}
use Rattle.rule_model.specs.declared.raw.DeviceLine.{DeviceLine}
use Rattle.event_data.specs.Events.{Event, Down, Slot, Deliver, Tick, Abort, Publish, Offer, Allow}
use Rattle.two_ends.specs.Fits as world
use Rattle.two_ends.specs.History.{start, run}
use Rattle.two_ends.specs.Safe.{IsHeadline}
use Rattle.schc_bits.proofs.ListLemmas.{all-take}
use Rattle.two_ends.proofs.HeadlineLemmas.{headline-of-bytes}
use Rattle.rule_commands.specs.OutputData.{OutputData}
use Rattle.script_lang.specs.ScriptData.{ScriptEventData, ScriptData}
use Rattle.script_lang.specs.Ranges.{is_declared, HandsBytes, HaveParams, HandBytes, IsOfDeclared}
use Rattle.script_lang.specs.Ranges.{AreDeclared}
use Rattle.script_lang.specs.Parsing.{script_of, ParsesTo}
use Rattle.script_lang.specs.declared.parsing.ScriptFault.{ScriptFault}
use Rattle.gw_top.specs.Run.{is_publication, is_event_of, events_of, params_of, world_of}
use Rattle.gw_top.specs.Run.{device_run, chain_of, published_line, outcome_at, outcome}
use Rattle.gw_top.specs.Run.{outcomes_after, IsSafeDevice, IsSafeRun}
use Rattle.rule_json.specs.Files.{have_own_numbers}
use Rattle.rule_model.specs.declared.finding.Finding.{Finding}
use Rattle.publishing.specs.Published.{published}
use Rattle.editions.specs.Data.{EditionData, first_edition}
use Rattle.event_data.specs.Outcomes.{IsPublishLine, IsLineOf}
use Rattle.event_data.specs.declared.outcomes.Line.{Line}
use Rattle.two_ends.specs.World.{WorldData, last_edition}
use Rattle.transcripts.specs.Lines.{IsSaid}
use Rattle.std.proofs.lemmas.Bool.{eqb-true, eq-eqb}
use Rattle.gw_top.specs.Shares.{AreLinesOf, first_world, own_lines, share_of, published_lines}
use Rattle.gw_top.specs.Merging.{share_in, IsOwned, IsLeft}
use Rattle.gw_top.proofs.FaultLemmas.{fits}
use Rattle.load_maker.specs.Load.{load}
use Rattle.gw_top.specs.Output.{simulated, loaded, output_of, IsSafeFor}
use Rattle.gw_top.specs.Words.{reads_input}
use Rattle.gw_top.specs.Answers.{Call, IsRead, IsInput, Completes, IsSimulated, IsLoaded}
use Rattle.gw_top.specs.declared.words.Command.{Command}
use Rattle.gw_top.specs.declared.words.Command.TheVariants.{Check, Pack, Unpack, Sim, Load}

-- the headline holds after all the events
headline-holds : (params : EndParams) (events : List Event) → IsParams params
    → AllByRecursion world.HandsBytes events → IsHeadline params events (run events (start params))
headline-holds params events range bytes =
    subst (λ es. IsHeadline params es (run es (start params))) (take-length events)
    (headline-of-bytes params events range bytes (length events))

event-bytes : (event : Event) → HandsBytes event → world.HandsBytes event
event-bytes (Down role packet) bytes = bytes
event-bytes (Slot role) bytes = tt
event-bytes (Deliver direction number) bytes = tt
event-bytes (Tick target) bytes = tt
event-bytes (Abort role) bytes = tt
event-bytes (Publish raw) bytes = tt
event-bytes (Offer role number) bytes = tt
event-bytes (Allow role number) bytes = tt

bytes-of : (number : ℕ) (e : ScriptEventData) (events : List ScriptEventData) (b : Bool)
    → is_event_of number e ≡ b → HandsBytes e.event
    → AllByRecursion world.HandsBytes (events_of number events)
    → AllByRecursion world.HandsBytes (events_of number (e ∷ events))
bytes-of number e events true is one rest = rw is (event-bytes e.event one, rest)
bytes-of number e events false is one rest = rw is rest

events-bytes : (number : ℕ) (events : List ScriptEventData) → HandBytes events
    → AllByRecursion world.HandsBytes (events_of number events)
events-bytes number [] bytes = tt
events-bytes number (e ∷ events) bytes =
    bytes-of number e events (is_event_of number e) refl bytes.0
    (events-bytes number events bytes.1)

safe-devices : (events : List ScriptEventData) (devices : List DeviceLine) → HaveParams devices
    → HandBytes events → AllByRecursion (IsSafeDevice events) (map (device_run events) devices)
safe-devices events [] range bytes = tt
safe-devices events (device ∷ devices) range bytes = (
  headline-holds device.params (events_of device.number events) range.0
      (events-bytes device.number events bytes),
  safe-devices events devices range.1 bytes,
)

-- each run is safe of a script whose devices may be made and that hands down bytes
pub safe_run : (script : ScriptData) → HaveParams script.devices → HandBytes script.events
    → IsSafeRun script
safe_run script range bytes =
    λ n. safe-devices (take n script.events) script.devices range (all-take _ n script.events bytes)

-- one result has one value
same-ok : {A : Type 0} (x y : A) (found : Result A ScriptFault) → found ≡ Ok x → found ≡ Ok y
    → x ≡ y
same-ok x y found first second = cc

-- a text that was read as a script has a safe run
pub safe-text : (workers : ℕ) (text : List ℕ) (script : ScriptData) → ParsesTo text script
    → IsSafeRun script → IsSafeFor (Sim workers) text
safe-text workers text script parses safe =
    λ other also. subst IsSafeRun (same-ok script other (script_of text) parses also) safe

-- what `sim` wrote is the print of the run of the script that it read
sim-done : (call : Call) (text : List ℕ) (found : Result ScriptData ScriptFault)
    (output : OutputData) → script_of text ≡ found → IsRead call text → simulated found ≡ Ok output
    → Appends call.sink.written call.sink_after.written output.text
    → ((script : ScriptData) → ParsesTo text script → IsSafeRun script) → IsSimulated call
sim-done call text (Ok script) output parses read means written safe =
    record {
      text = text;
      read = read;
      script = script;
      parses = parses;
      written =
          subst (λ (o : OutputData). Appends call.sink.written call.sink_after.written o.text)
          (sym (same-ok _ output (simulated (Ok script)) refl means)) written;
      safe = safe script parses;
    }
sim-done call text (Err fault) output parses read means written safe = absurd (cc)

-- what `load` wrote is the line of its script's run
load-done : (devices start : ℕ) (call : Call) (text : List ℕ)
    (found : Result OutputData ScriptFault) (output : OutputData) → IsInput false call text
    → found ≡ Ok (loaded devices start) → found ≡ Ok output
    → Appends call.sink.written call.sink_after.written output.text
    → IsSafeRun (load devices start) → IsLoaded devices start call
load-done devices start call text found output input is means written safe =
    let same = same-ok output (loaded devices start) found means is in
    record {
      source = input.1;
      written =
          subst (λ (o : OutputData). Appends call.sink.written call.sink_after.written o.text)
          same written;
      safe = safe;
    }

-- what it is that the command has done
pub completes : (command : Command) (call : Call) (text : List ℕ) (output : OutputData)
    → IsInput (reads_input command) call text → output_of command text ≡ Ok output
    → output.refused ≡ None
    → Appends call.sink.written call.sink_after.written output.text → IsSafeFor command text
    → Completes command call
unfolding output_of
completes Check call text output read means none written safe =
    record {
      text = text;
      read = read;
      output = output;
      means = means;
      no_finding = none;
      written =
          written;
    }
completes Pack call text output read means none written safe =
    record {
      text = text;
      read = read;
      output = output;
      means = means;
      no_finding = none;
      written =
          written;
    }
completes Unpack call text output read means none written safe =
    record {
      text = text;
      read = read;
      output = output;
      means = means;
      no_finding = none;
      written =
          written;
    }
completes (Sim workers) call text output read means none written safe =
    sim-done call text (script_of text) output refl read means written safe
completes (Load devices start workers) call text output input means none written safe =
    load-done devices start call text (output_of (Load devices start workers) text) output input
    refl means written safe

-- Where the outcomes begin.

share-none-by : (number : ℕ) (events : List ScriptEventData) (device : DeviceLine)
    (devices : List DeviceLine) (b : Bool) → (device.number == number) ≡ b
    → b || is_declared devices number ≡ false
    → (is_declared devices number ≡ false → share_in number (map (share_of events) devices) ≡ None)
    → share_in number (map (share_of events) (device ∷ devices)) ≡ None
share-none-by number events device devices true is absent later = absurd (cc)
share-none-by number events device devices false is absent later = rw (is, later absent) refl

-- no device has the number of one that isn't declared
share-none : (number : ℕ) (events : List ScriptEventData) (devices : List DeviceLine)
    → is_declared devices number ≡ false → share_in number (map (share_of events) devices) ≡ None
share-none number events [] absent = refl
share-none number events (device ∷ devices) absent =
    share-none-by number events device devices (device.number == number) refl absent
    (share-none number events devices)

share-by : (number : ℕ) (events : List ScriptEventData) (device : DeviceLine)
    (devices : List DeviceLine) (b : Bool) → (device.number == number) ≡ b
    → list_any (λ (other : DeviceLine). other.number == device.number) devices ≡ false
    → (is_declared devices number ≡ true
    → share_in number (map (share_of events) devices) ≡ Some
    (own_lines number (first_world (params_of number devices)) events))
    → b || is_declared devices number ≡ true
    → share_in number (map (share_of events) (device ∷ devices)) ≡ Some
    (own_lines number (first_world (params_of number (device ∷ devices))) events)
share-by number events device devices true is own later there =
    let same : device.number ≡ number = eqb-true device.number number is in
    subst (λ n. share_in n (map (share_of events) (device ∷ devices)) ≡ Some
    (own_lines n (first_world (params_of n (device ∷ devices))) events)) same
    (rw (share-none device.number events devices own, eq-eqb device.number device.number refl) refl)
share-by number events device devices false is own later there = rw (is, later there) refl

share-first : (number : ℕ) (events : List ScriptEventData) (devices : List DeviceLine)
    → have_own_numbers devices ≡ true → is_declared devices number ≡ true
    → share_in number (map (share_of events) devices) ≡ Some
    (own_lines number (first_world (params_of number devices)) events)
share-first number events [] own there = absurd (cc)
share-first number events (device ∷ devices) own there =
    let parts = and-parts _ _ own in
    share-by number events device devices (device.number == number) refl (not-true _ parts.0)
    (share-first number events devices parts.1) there
  where
    and-parts : (a b : Bool) → a && b ≡ true → (a ≡ true) × (b ≡ true)
    and-parts true b h = (refl, h)
    and-parts false b h = absurd (cc)

    not-true : (a : Bool) → not a ≡ true → a ≡ false
    not-true true h = absurd (cc)
    not-true false h = refl

-- before the first event all outcomes are left
pub left-first : (devices : List DeviceLine) (events : List ScriptEventData) (published : List Line)
    (own : ℕ → Option (List Line)) (shares : List (ℕ × List Line)) → have_own_numbers devices ≡ true
    → published ≡ published_lines (first_edition ∷ []) events
    → shares ≡ map (share_of events) devices → ((number : ℕ) → own number ≡ share_in number shares)
    → IsLeft devices [] events published own
unfolding chain_of world_of first_world
left-first devices events published own shares numbers first all each =
    record {
      publications = first;
      each = λ number there. each number ∙ ap (share_in number) all
          ∙ share-first number events devices numbers there;
    }

outcome_fits : (chain : List EditionData) (w : WorldData) (event : Event)
    → IsSaid (outcome_at chain w event) → IsLineOf event (outcome_at chain w event)
outcome_fits chain w (Down role packet) is = fits w (Down role packet) is
outcome_fits chain w (Slot role) is = fits w (Slot role) is
outcome_fits chain w (Deliver direction number) is = fits w (Deliver direction number) is
outcome_fits chain w (Tick at) is = fits w (Tick at) is
outcome_fits chain w (Abort role) is = fits w (Abort role) is
outcome_fits chain w (Publish raw) is = published-fits (published (last_edition chain) raw)
  where
    published-fits : (made : Result EditionData Finding) → IsPublishLine (published_line made)
    published-fits (Ok edition) = tt
    published-fits (Err finding) = tt
outcome_fits chain w (Offer role number) is = fits w (Offer role number) is
outcome_fits chain w (Allow role number) is = fits w (Allow role number) is

outcome-of : (devices : List DeviceLine) (before : List ScriptEventData) (e : ScriptEventData)
    → IsSaid (outcome devices before e) → IsLineOf e.event (outcome devices before e)
unfolding outcome
outcome-of devices before e is =
    outcome_fits (chain_of before) (world_of e.device devices before) e.event is

-- each event has a line that it can have
pub outcomes_fit : (devices : List DeviceLine) (before events : List ScriptEventData)
    → AllByRecursion IsSaid (outcomes_after devices before events)
    → AreLinesOf events (outcomes_after devices before events)
outcomes_fit devices before [] all = tt
outcomes_fit devices before (e ∷ events) all =
    (outcome-of devices before e all.0, outcomes_fit devices (before ++ e ∷ []) events all.1)

-- the device of each event that isn't a publication is declared
owned-by : (devices : List DeviceLine) (device : ℕ) (event : Event)
    → IsOfDeclared devices device event → is_publication event ≡ false
    → is_declared devices device ≡ true
owned-by devices device (Down role packet) of other = of
owned-by devices device (Slot role) of other = of
owned-by devices device (Deliver direction number) of other = of
owned-by devices device (Tick at) of other = of
owned-by devices device (Abort role) of other = of
owned-by devices device (Publish raw) of other = absurd (cc)
owned-by devices device (Offer role number) of other = of
owned-by devices device (Allow role number) of other = of

-- each event of a script in its ranges is a publication, or of a device that is declared
pub all_owned : (devices : List DeviceLine) (events : List ScriptEventData)
    → AreDeclared devices events → AllByRecursion (IsOwned devices) events
all_owned devices [] all = tt
all_owned devices (e ∷ events) all =
    (owned-by devices e.device e.event all.0, all_owned devices events all.1)
