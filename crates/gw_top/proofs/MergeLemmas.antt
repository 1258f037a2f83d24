-- What is left of the outcomes after each event.
use Rattle.std.proofs.Common.{◌≡◌, ℕ, Bool, true, false, ◌==◌, ◌||◌, ◌&&◌, not, cond, ◌+◌, ◌<◌, ◌≤◌}
use Rattle.std.proofs.Common.{zero, suc, arith, length, get_or, drop, List, [], ◌∷◌, ◌++◌, map}
use Rattle.std.proofs.Common.{filter, fold, Option, Some, None, IfSome, IfNone, refl, ap, sym, ◌∙◌}
use Rattle.std.proofs.Common.{subst, if◌then◌else◌, nat_eq}
use Rattle.std.specs.Option.{option_or}
use Rattle.std.proofs.lemmas.Bool.{eqb-true, eq-eqb}
use Rattle.std.specs.List.{AllByRecursion}
use Rattle.std.proofs.Math.Seq.{drop-cons}
use Rattle.std.proofs.lemmas.List.{map-append, append-nil, append_assoc}
use Rattle.std.proofs.lemmas.List.Elements.{filter-append}
use Rattle.std.proofs.lemmas.List.Sums.{fold-append}
use Rattle.rule_model.specs.declared.raw.DeviceLine.{DeviceLine}
use Rattle.editions.specs.Data.{EditionData, first_edition}
use Rattle.event_data.specs.Events.{Event, Down, Slot, Deliver, Tick, Abort, Publish, Offer, Allow}
use Rattle.event_data.specs.declared.outcomes.Line.{Line}
use Rattle.two_ends.specs.World.{WorldData, step}
use Rattle.two_ends.specs.History.{History, start, run, next, after}
use Rattle.script_lang.specs.ScriptData.{ScriptEventData}
use Rattle.gw_top.specs.Run.{is_publication, is_event_of, events_of, params_of, world_of}
use Rattle.gw_top.specs.Run.{chain_next, chain_of, line_of, outcome_at, outcome, outcomes_after}
use Rattle.gw_top.specs.Shares.{is_own, world_next, own_line, own_lines, published_part}
use Rattle.gw_top.specs.Shares.{published_lines}
use Rattle.script_lang.specs.Ranges.{is_declared}
use Rattle.gw_top.specs.Merging.{IsOwned, IsLeft}

run-append : (xs ys : List Event) (h : History) → run (xs ++ ys) h ≡ run ys (run xs h)
run-append [] ys h = refl
run-append (x ∷ xs) ys h = run-append xs ys (next h x)

world-next-is : (h : History) (event : Event) → (next h event).world ≡ (step h.world event).0
unfolding next after
world-next-is h event = refl

-- one more event of a script

events-of-last : (number : ℕ) (before : List ScriptEventData) (e : ScriptEventData)
    → events_of number (before ++ e ∷ []) ≡ events_of number before ++ events_of number (e ∷ [])
events-of-last number before e =
    ap (map (λ (x : ScriptEventData). x.event)) (filter-append (is_event_of number) before (e ∷ []))
    ∙ map-append (λ (x : ScriptEventData). x.event) (filter (is_event_of number) before)
    (filter (is_event_of number) (e ∷ []))

one-event : (number : ℕ) (e : ScriptEventData) (h : History) (b : Bool) → is_event_of number e ≡ b
    → (run (events_of number (e ∷ [])) h).world ≡ cond b (step h.world e.event).0 h.world
one-event number e h true is = rw is (world-next-is h e.event)
one-event number e h false is = rw is refl

pub world-last : (number : ℕ) (devices : List DeviceLine) (before : List ScriptEventData)
    (e : ScriptEventData)
    → world_of number devices (before ++ e ∷ []) ≡ world_next number
    (world_of number devices before) e
unfolding world_of
world-last number devices before e =
    ap (λ es. (run es (start (params_of number devices))).world) (events-of-last number before e)
    ∙ ap (λ (h : History). h.world)
    (run-append (events_of number before) (events_of number (e ∷ []))
    (start (params_of number devices)))
    ∙ one-event number e (run (events_of number before) (start (params_of number devices)))
    (is_event_of number e) refl

pub chain-last : (before : List ScriptEventData) (e : ScriptEventData)
    → chain_of (before ++ e ∷ []) ≡ chain_next (chain_of before) e.event
unfolding chain_of
chain-last before e =
    fold-append (λ chain (x : ScriptEventData). chain_next chain x.event) (first_edition ∷ [])
    before (e ∷ [])

-- the parts of a publication
part-of-publication : (chain : List EditionData) (w : WorldData) (event : Event)
    → is_publication event ≡ true → published_part chain event ≡ outcome_at chain w event ∷ []
part-of-publication chain w (Down role packet) is = absurd (cc)
part-of-publication chain w (Slot role) is = absurd (cc)
part-of-publication chain w (Deliver direction number) is = absurd (cc)
part-of-publication chain w (Tick at) is = absurd (cc)
part-of-publication chain w (Abort role) is = absurd (cc)
part-of-publication chain w (Publish raw) is = refl
part-of-publication chain w (Offer role number) is = absurd (cc)
part-of-publication chain w (Allow role number) is = absurd (cc)

-- and of any other event
record IsOther (chain : List EditionData) (w : WorldData) (event : Event) : Type 0 where
  part : published_part chain event ≡ []
  chain_stays : chain_next chain event ≡ chain
  line : outcome_at chain w event ≡ line_of (step w event).1

other : (chain : List EditionData) (w : WorldData) (event : Event) → is_publication event ≡ false
    → IsOther chain w event
other chain w (Down role packet) is = record { part = refl; chain_stays = refl; line = refl }
other chain w (Slot role) is = record { part = refl; chain_stays = refl; line = refl }
other chain w (Deliver direction number) is =
    record { part = refl; chain_stays = refl; line = refl }
other chain w (Tick at) is = record { part = refl; chain_stays = refl; line = refl }
other chain w (Abort role) is = record { part = refl; chain_stays = refl; line = refl }
other chain w (Publish raw) is = absurd (cc)
other chain w (Offer role number) is = record { part = refl; chain_stays = refl; line = refl }
other chain w (Allow role number) is = record { part = refl; chain_stays = refl; line = refl }

-- the lines of the device's own events that are left behind an event that has none of them
own-passed : (number : ℕ) (w : WorldData) (e : ScriptEventData) (rest : List ScriptEventData)
    (b : Bool) → is_own number e ≡ b → b ≡ false
    → own_lines number w (e ∷ rest) ≡ own_lines number (world_next number w e) rest
own-passed number w e rest true is isnt = absurd (cc)
own-passed number w e rest false is isnt = rw is refl

own-first : (number : ℕ) (w : WorldData) (e : ScriptEventData) (rest : List ScriptEventData)
    → is_own number e ≡ true
    → own_lines number w (e ∷ rest) ≡ line_of (step w e.event).1 ∷ own_lines number
    (world_next number w e) rest
own-first number w e rest is = rw is refl

not-own-publication : (number : ℕ) (e : ScriptEventData) → is_publication e.event ≡ true
    → is_own number e ≡ false
not-own-publication number e is = rw is refl

not-own-other : (number : ℕ) (e : ScriptEventData) → (e.device == number) ≡ false
    → is_own number e ≡ false
not-own-other number e is = rw is (and-false (not (is_publication e.event)))
  where
    and-false : (b : Bool) → b && false ≡ false
    and-false true = refl
    and-false false = refl

own-own : (e : ScriptEventData) → is_publication e.event ≡ false → is_own e.device e ≡ true
own-own e is = rw is (same e.device)
  where
    same : (n : ℕ) → (n == n) ≡ true
    same n = eq-eqb n n refl

module _ (devices : List DeviceLine) (before rest : List ScriptEventData) (e : ScriptEventData)
    (published : List Line) (own : ℕ → Option (List Line))
    (left : IsLeft devices before (e ∷ rest) published own) where
  -- a publication's line is the first of the publications'
  pub first-published : is_publication e.event ≡ true
      → published ≡ outcome devices before e ∷ published_lines (chain_of (before ++ e ∷ [])) rest
  unfolding outcome
  first-published is =
      left.publications
      ∙ ap (λ part. part ++ published_lines (chain_next (chain_of before) e.event) rest)
      (part-of-publication (chain_of before) (world_of e.device devices before) e.event is)
      ∙ ap (λ chain. outcome_at (chain_of before) (world_of e.device devices before)
      e.event ∷ published_lines chain rest) (sym (chain-last before e))

  -- what each device has left behind a publication
  after-passed : (number : ℕ) → is_declared devices number ≡ true → is_own number e ≡ false
      → own number ≡ Some (own_lines number (world_of number devices (before ++ e ∷ [])) rest)
  after-passed number declared isnt =
      left.each number declared
      ∙ ap Some
      (own-passed number (world_of number devices before) e rest (is_own number e) refl isnt)
      ∙ ap (λ w. Some (own_lines number w rest)) (sym (world-last number devices before e))

  pub left-published : is_publication e.event ≡ true → (after : List Line) (line : Line)
      → published ≡ line ∷ after → IsLeft devices (before ++ e ∷ []) rest after own
  left-published is after line first =
      record {
        publications = tail_is line _ after _ (sym first ∙ first-published is);
        each = λ number declared. after-passed number declared (not-own-publication number e is);
      }
    where
      tail_is : (x y : Line) (xs ys : List Line) → x ∷ xs ≡ y ∷ ys → xs ≡ ys
      tail_is x y xs ys same = cc

  -- the line of any other event is the first of its device's
  pub first-own : is_publication e.event ≡ false → IsOwned devices e
      → own e.device ≡ Some
      (outcome devices before e ∷ own_lines e.device (world_of e.device devices (before ++ e ∷ []))
      rest)
  unfolding outcome
  first-own is owned =
      left.each e.device (owned is)
      ∙ ap Some (own-first e.device (world_of e.device devices before) e rest (own-own e is))
      ∙ ap (λ w. Some
      (line_of (step (world_of e.device devices before) e.event).1 ∷ own_lines e.device w rest))
      (sym (world-last e.device devices before e))
      ∙ ap (λ l. Some (l ∷ own_lines e.device (world_of e.device devices (before ++ e ∷ [])) rest))
      (sym (other (chain_of before) (world_of e.device devices before) e.event is).line)

  after-own : (after : ℕ → Option (List Line)) → is_publication e.event ≡ false
      → ((n : ℕ)
      → after n ≡ (if nat_eq e.device n then Some
      (own_lines e.device (world_of e.device devices (before ++ e ∷ [])) rest) else own n))
      → (number : ℕ) (b : Bool) → nat_eq e.device number ≡ b → is_declared devices number ≡ true
      → after number ≡ Some (own_lines number (world_of number devices (before ++ e ∷ [])) rest)
  after-own after is changed number true same declared =
      let is_it : e.device ≡ number = eqb-true e.device number same in
      subst (λ n. after n ≡ Some (own_lines n (world_of n devices (before ++ e ∷ [])) rest)) is_it
      (changed e.device
      ∙ ap (λ b. if b then Some
      (own_lines e.device (world_of e.device devices (before ++ e ∷ [])) rest) else own
      e.device) (eq-eqb e.device e.device refl))
  after-own after is changed number false same declared =
      changed number
      ∙ ap (λ b. if b then Some
      (own_lines e.device (world_of e.device devices (before ++ e ∷ [])) rest) else own number)
      same
      ∙ after-passed number declared (not-own-other number e same)

  pub left-own : (after : ℕ → Option (List Line)) → is_publication e.event ≡ false
      → ((n : ℕ)
      → after n ≡ (if nat_eq e.device n then Some
      (own_lines e.device (world_of e.device devices (before ++ e ∷ [])) rest) else own n))
      → IsLeft devices (before ++ e ∷ []) rest published after
  left-own after is changed =
      let none = other (chain_of before) (world_of e.device devices before) e.event is in
      record {
        publications =
            left.publications
            ∙ ap (λ part. part ++ published_lines (chain_next (chain_of before) e.event) rest)
            none.part
            ∙ ap (λ chain. published_lines chain rest) (sym (chain-last before e));
        each = λ number declared. after-own after is changed number (nat_eq e.device number) refl
            declared;
      }

-- a share that is put into the map, over what the map has and under the shares that are left
pub share-step : (left had : Option (List Line)) (lines : List Line) (b : Bool)
    → option_or left (cond b (Some lines) had) ≡ option_or
    (option_or left (if b then Some lines else None)) had
share-step None had lines true = refl
share-step None had lines false = refl
share-step (Some found) had lines true = refl
share-step (Some found) had lines false = refl

-- What `take_line` answers, and what it leaves.
module _ (devices : List DeviceLine) (before rest : List ScriptEventData) (e : ScriptEventData)
  where
    -- the first of the publications' lines, where the event is one
    pub published_line-is : (published after : List Line) (own : ℕ → Option (List Line))
        (result : Option Line) → is_publication e.event ≡ true
        → IfSome result (λ line. published ≡ line ∷ after) → IfNone result (published ≡ [])
        → IsLeft devices before (e ∷ rest) published own → result ≡ Some (outcome devices before e)
    published_line-is published after own (Some line) is first none left =
        ap Some (same line after _ _
        (sym first ∙ first-published devices before rest e published own left is))
      where
        same : (x : Line) (xs : List Line) (y : Line) (ys : List Line) → x ∷ xs ≡ y ∷ ys → x ≡ y
        same x xs y ys h = cc
    published_line-is published after own None is first none left =
        absurd (empty _ _ (sym none ∙ first-published devices before rest e published own left is))
      where
        empty : (y : Line) (ys : List Line) → [] ≡ y ∷ ys → ⊥
        empty y ys h = cc

    -- behind a publication what is left is that of the events that follow
    pub published-left : (published after : List Line) (own : ℕ → Option (List Line))
        (result : Option Line) → is_publication e.event ≡ true
        → IfSome result (λ line. published ≡ line ∷ after) → IfNone result (published ≡ [])
        → IsLeft devices before (e ∷ rest) published own
        → IsLeft devices (before ++ e ∷ []) rest after own
    published-left published after own (Some line) is first none left =
        left-published devices before rest e published own left is after line first
    published-left published after own None is first none left =
        absurd (empty _ _ (sym none ∙ first-published devices before rest e published own left is))
      where
        empty : (y : Line) (ys : List Line) → [] ≡ y ∷ ys → ⊥
        empty y ys h = cc

    -- the first of its device's lines, where it is none
    pub own_line-is : (published : List Line) (own : ℕ → Option (List Line)) (result : Option Line)
        (number : ℕ) → number ≡ e.device → is_publication e.event ≡ false
        → ((line : Line) (lines : List Line) → own number ≡ Some (line ∷ lines)
        → result ≡ Some line)
        → IsOwned devices e → IsLeft devices before (e ∷ rest) published own
        → result ≡ Some (outcome devices before e)
    own_line-is published own result number same is first owned left =
        first _ _ (ap own same ∙ first-own devices before rest e published own left is owned)

    -- behind an event of a device what is left is that of the events that follow
    pub own-left : (published : List Line) (own after : ℕ → Option (List Line)) (number : ℕ)
        → number ≡ e.device → is_publication e.event ≡ false
        → ((line : Line) (lines : List Line) → own number ≡ Some (line ∷ lines) → (other : ℕ)
        → after other ≡ (if nat_eq number other then Some lines else own other))
        → IsOwned devices e → IsLeft devices before (e ∷ rest) published own
        → IsLeft devices (before ++ e ∷ []) rest published after
    own-left published own after number same is changed owned left =
        left-own devices before rest e published own left after is
        (λ n. changed _ _
        (ap own same ∙ first-own devices before rest e published own left is owned) n
        ∙ ap (λ m. if nat_eq m n then Some
        (own_lines e.device (world_of e.device devices (before ++ e ∷ [])) rest) else own n) same)

-- the lines so far and the outcomes of the events that are left are the outcomes of all, and what
-- is left is what those have
pub record IsMergedTo (devices : List DeviceLine) (events left : List ScriptEventData)
    (lines published : List Line) (own : ℕ → Option (List Line)) : Type 0 where
  pub before : List ScriptEventData
  pub all : lines ++ outcomes_after devices before left ≡ outcomes_after devices [] events
  pub owned : AllByRecursion (IsOwned devices) left
  pub lines_left : IsLeft devices before left published own

-- before the first event, where no line is taken yet, the outcomes of all events are left
pub merged_first : (devices : List DeviceLine) (events : List ScriptEventData)
    (lines published : List Line) (own : ℕ → Option (List Line)) → lines ≡ []
    → AllByRecursion (IsOwned devices) events → IsLeft devices [] events published own
    → IsMergedTo devices events events lines published own
merged_first devices events lines published own empty owned left =
    record {
      before = [];
      all = ap (λ ls. ls ++ outcomes_after devices [] events) empty;
      owned =
          owned;
      lines_left = left;
    }

module _ (devices : List DeviceLine) (events left rest : List ScriptEventData) (e : ScriptEventData)
    (lines published : List Line) (own : ℕ → Option (List Line)) (result : Option Line)
    (here : left ≡ e ∷ rest)
    (is : (declared : List DeviceLine) (before after : List ScriptEventData) → IsOwned declared e
    → IsLeft declared before (e ∷ after) published own
    → result ≡ Some (outcome declared before e))
    (m : IsMergedTo devices events left lines published own) where
  pub merged-here : IsMergedTo devices events (e ∷ rest) lines published own
  merged-here = subst (λ l. IsMergedTo devices events l lines published own) here m

  -- a line is taken next: that of the event
  pub merged-line : result ≡ Some (outcome devices merged-here.before e)
  merged-line = is devices merged-here.before rest merged-here.owned.0 merged-here.lines_left

  -- with one more line what is merged goes as far as the event that is next
  pub merged-next : (more published' : List Line) (own' : ℕ → Option (List Line)) (line : Line)
      → ((declared : List DeviceLine) (before after : List ScriptEventData) → IsOwned declared e
      → IsLeft declared before (e ∷ after) published own
      → IsLeft declared (before ++ e ∷ []) after published' own')
      → result ≡ Some line → more ≡ lines ++ line ∷ []
      → IsMergedTo devices events rest more published' own'
  merged-next more published' own' line leaves found pushed =
      record {
        before = merged-here.before ++ e ∷ [];
        all =
            ap (λ ls. ls ++ outcomes_after devices (merged-here.before ++ e ∷ []) rest) pushed
            ∙ append_assoc lines (line ∷ [])
            (outcomes_after devices (merged-here.before ++ e ∷ []) rest)
            ∙ ap (λ l. lines ++ (l ∷ outcomes_after devices (merged-here.before ++ e ∷ []) rest))
            (same line _ (sym found ∙ merged-line))
            ∙ merged-here.all;
        owned = merged-here.owned.1;
        lines_left =
            leaves devices merged-here.before rest merged-here.owned.0 merged-here.lines_left;
      }
    where
      same : (x y : Line) → Some x ≡ Some y → x ≡ y
      same x y h = cc

-- the event at a place, and those behind it
pub drop-step : (events : List ScriptEventData) (i : ℕ) (e : ScriptEventData) → i < length events
    → e ≡ get_or events i e → drop i events ≡ e ∷ drop (i + 1) events
drop-step events i e within is =
    let next : suc i ≡ i + 1 = omega arith in
    drop-cons events i e within ∙ ap (λ x. x ∷ drop (suc i) events) (sym is)
    ∙ ap (λ n. e ∷ drop n events) next

drop_end : (events : List ScriptEventData) (i : ℕ) → length events ≤ i → drop i events ≡ []
drop_end [] zero past = refl
drop_end [] (suc i) past = refl
drop_end (e ∷ events) zero past = absurd (omega arith)
drop_end (e ∷ events) (suc i) past = drop_end events i (omega arith)

-- at the end the lines are the outcomes
pub merged-last : (devices : List DeviceLine) (events : List ScriptEventData) (i : ℕ)
    (lines published : List Line) (own : ℕ → Option (List Line)) → length events ≤ i
    → IsMergedTo devices events (drop i events) lines published own
    → lines ≡ outcomes_after devices [] events
merged-last devices events i lines published own past m =
    let at_end : IsMergedTo devices events [] lines published own =
    subst (λ l. IsMergedTo devices events l lines published own) (drop_end events i past) m in
    sym (append-nil lines) ∙ at_end.all
