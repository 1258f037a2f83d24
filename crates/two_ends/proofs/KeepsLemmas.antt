-- Every event keeps what a world keeps, and so the headline holds.
use Rattle.std.proofs.Common.{◌≡◌, ◌⊎◌, ℕ, suc, ◌+◌, ◌-◌, ◌%◌, ◌<◌, ◌≤◌, Bool, true, false, List}
use Rattle.std.proofs.Common.{[], ◌∷◌, ◌++◌, length, take, Option, Some, None, option_map}
use Rattle.std.proofs.Common.{IsSomeAnd, slice_get, refl, sym, ap, subst, ◌∙◌, inl, inr, arith}
use Rattle.std.specs.List.{AllByRecursion}
use Rattle.std.proofs.lemmas.List.{length-replicate}
use Rattle.schc_bits.specs.Bits.{padded}
use Rattle.schc_bits.proofs.ListLemmas.{all-take, all-weaken}
use Rattle.schc_ids.specs.Fragments.{params_of, IsFragParams}
use Rattle.schc_ids.specs.Params.{IsParams}
use Rattle.schc_ids.specs.declared.ends.EndParams.{EndParams}
use Rattle.schc_ids.specs.declared.ends.Iids.{Iids}
use Rattle.schc_ids.specs.declared.fragments.FragMode.{FragMode}
use Rattle.schc_ids.specs.declared.fragments.FragMode.TheVariants as mode
use Rattle.schc_ids.specs.declared.fragments.FragParams.{FragParams}
use Rattle.schc_ids.specs.declared.notes.ReportKind.TheVariants.{Delivered}
use Rattle.rcs.specs.Division.{rcs_of}
use Rattle.tiles_bitmap.specs.Padding.{fill, padded_packet}
use Rattle.tiles_bitmap.specs.Places.{Among}
use Rattle.packer.specs.Unpacking.{unpacked}
use Rattle.std.specs.Prelude.{Ok}
use Rattle.event_data.specs.Events.{Event, Down, Slot, Deliver, Tick, Abort, Publish, Offer, Allow}
use Rattle.event_data.specs.Events.{HandsBytes}
use Rattle.lanes.specs.Earned as lane
use Rattle.lanes.specs.Honest as honest
use Rattle.lanes.specs.Lane.{AreLaneParams, Begun, Check, LaneReport, padded_of}
use Rattle.lanes.specs.Laws.{JoinsPadded, Arrived, IsPadded}
use Rattle.lanes.proofs.ListLemmas.{all-among, among-after, among-more}
use Rattle.two_ends.specs.Fits.{Fits, FitsEvent}
use Rattle.two_ends.specs.Fresh.{padded_session, IsHonest, IsFresh, IsArrived, IsEarned}
use Rattle.two_ends.specs.History.{History, start, after, next, run}
use Rattle.two_ends.specs.Keys.{Key, Keyed, same_key, piece, of_key, mode_of, lane_params}
use Rattle.two_ends.specs.Labels as label
use Rattle.two_ends.specs.Labels.{Label}
use Rattle.two_ends.specs.Lanes.{lane_of, lane_run, StepsOfAWorld}
use Rattle.two_ends.specs.Logs.{HandedDown, HandedUp, Began, begins_of}
use Rattle.two_ends.specs.Safe.{IsHandedDownAs, carried_down, labelled_down, IsLed, IsWhole, IsSafe}
use Rattle.two_ends.specs.Safe.{IsHeadline, Headline, AlwaysSafe}
use Rattle.two_ends.proofs.ChainKept.{chain-start, chain-step}
use Rattle.two_ends.proofs.EndsKept.{ends-start, ends-step}
use Rattle.two_ends.proofs.KeyLemmas.{same_key-refl, same_key-true}
use Rattle.two_ends.proofs.LaneSteps.{joins-step, WorldKeeps, steps-of-a-world, IsLaneRun}
use Rattle.two_ends.proofs.LaneSteps.{lane-runs}
use Rattle.two_ends.proofs.LedLemmas.{some-weaken}
use Rattle.two_ends.proofs.MarksKept.{IsBegunOf, IsBegun, ArePlaced, marks-start, marks-step}
use Rattle.two_ends.proofs.QueuesKept.{queues-start, queues-step}
use Rattle.two_ends.proofs.UpsKept.{read-as, IsJoinedUp, IsUpKept, UpsKept, ups-start, ups-step}
use Rattle.two_ends.proofs.WorldLemmas.{marked-start, marked-step}

-- what each event keeps, all events keep
pub run-keeps : (P : History → Type 0) (Q : Event → Type 0)
    → ((h : History) (event : Event) → Q event → P h → P (next h event))
    → (events : List Event) (h : History) → AllByRecursion Q events → P h → P (run events h)
run-keeps P Q keeps [] h fits k = k
run-keeps P Q keeps (event ∷ events) h fits k =
    run-keeps P Q keeps events (next h event) fits.1 (keeps h event fits.0 k)

-- an event keeps what every event keeps of a world, where a packet that it hands down is bytes
pub world-step : (params : EndParams) (h : History) (event : Event) → HandsBytes event
    → WorldKeeps params h → WorldKeeps params (next h event)
unfolding next after
world-step params h event bytes k =
    record {
      chain = chain-step h.world event k.chain;
      ends = ends-step params h.world event k.chain.is_chain k.ends;
      queues = queues-step params h event bytes k.ends k.queues;
      marks = marks-step params h event k.ends k.queues k.marks;
      frames = marked-step h event k.frames;
      joins = joins-step h event k.joins;
      mtu = k.mtu;
    }

world-start : (params : EndParams) → IsParams params → WorldKeeps params (start params)
world-start params range =
    record {
      chain = chain-start params;
      ends = ends-start params;
      queues = queues-start params;
      marks = marks-start params;
      frames = marked-start params;
      joins = tt;
      mtu = range.mtu;
    }

-- what every event keeps
pub record Keeps (params : EndParams) (h : History) : Type 0 where
  pub world : WorldKeeps params h
  pub ups : UpsKept params.iids h

pub keeps-step : (params : EndParams) (h : History) (event : Event) → HandsBytes event
    → Keeps params h → Keeps params (next h event)
keeps-step params h event bytes k =
    record {
      world = world-step params h event bytes k.world;
      ups =
          ups-step params h event k.world.chain k.world.ends k.world.marks k.ups;
    }

-- it holds after every list of events that hand down bytes
pub run-start-keeps : (params : EndParams) (events : List Event) → IsParams params
    → AllByRecursion HandsBytes events → Keeps params (run events (start params))
run-start-keeps params events range bytes =
    run-keeps (Keeps params) HandsBytes (keeps-step params) events (start params) bytes
    (record { world = world-start params range; ups = ups-start params })

-- where the parameters are in range and the events hand down bytes, the lane of the world after
-- them is the lane after its own events, which can come to pass
pub run-lanes : (params : EndParams) (key : Key) (events : List Event) → IsParams params
    → AllByRecursion HandsBytes events → IsLaneRun params key events
run-lanes params key events range bytes =
    lane-runs params key events (world-step params) bytes (world-start params range)

-- What belongs to a key, among all.

among-cases : {A : Type 0} (x : A) (xs ys : List A) → Among x (xs ++ ys) → Among x xs ⊎ Among x ys
among-cases x [] ys there = inr there
among-cases x (y ∷ xs) ys (inl e) = inl (inl e)
among-cases x (y ∷ xs) ys (inr there) = or-later (among-cases x xs ys there)
  where
    or-later : Among x xs ⊎ Among x ys → Among x (y ∷ xs) ⊎ Among x ys
    or-later (inl t) = inl (inr t)
    or-later (inr t) = inr t

piece-of : {A : Type 0} (key : Key) (x : Keyed A) (it : A) (b : Bool) → same_key key x.key ≡ b
    → Among it (piece b x.it) → ◌≡◌ {A = Keyed A} (record { key = key; it = it }) x
piece-of key x it true e (inl same) =
    ap (λ k. record { key = k; it = it }) (same_key-true key x.key e)
    ∙ ap (λ i. record { key = x.key; it = i }) same
piece-of key x it true e (inr there) = absurd there
piece-of key x it false e there = absurd there

join-cases : {B C : Type 0} (P : Type 0) → (B → P) → (C → P) → B ⊎ C → P
join-cases P f g (inl b) = f b
join-cases P f g (inr c) = g c

among-of_key : {A : Type 0} (key : Key) (it : A) (xs : List (Keyed A)) → Among it (of_key key xs)
    → Among (record { key = key; it = it }) xs
unfolding of_key
among-of_key key it [] there = absurd there
among-of_key key it (x ∷ xs) there =
    join-cases (Among (record { key = key; it = it }) (x ∷ xs))
    (λ t. inl (piece-of key x it (same_key key x.key) refl t))
    (λ t. inr (among-of_key key it xs t))
    (among-cases it (piece (same_key key x.key) x.it) (of_key key xs) there)

its-piece : {A : Type 0} (x : Keyed A) (b : Bool) → same_key x.key x.key ≡ b
    → Among x.it (piece b x.it)
its-piece x true e = inl refl
its-piece x false e = let same = same_key-refl x.key in absurd cc

of_key-among : {A : Type 0} (x : Keyed A) (xs : List (Keyed A)) → Among x xs
    → Among x.it (of_key x.key xs)
unfolding of_key
of_key-among x [] there = absurd there
of_key-among x (y ∷ xs) (inl e) =
    subst (λ (z : Keyed _). Among x.it (piece (same_key x.key z.key) z.it ++ of_key x.key xs)) e
    (among-more x.it (piece (same_key x.key x.key) x.it) (of_key x.key xs)
    (its-piece x (same_key x.key x.key) refl))
of_key-among x (y ∷ xs) (inr there) =
    among-after x.it (piece (same_key x.key y.key) y.it) (of_key x.key xs) (of_key-among x xs there)

-- a session of a key, among all
pub record IsSessionOf (begins : List Began) (key : Key) (begun : Begun) : Type 0 where
  pub began : Began
  pub there : Among began begins
  pub its_key : began.key ≡ key
  pub its : began.it ≡ begun

begun-piece : (key : Key) (b : Began) (begun : Begun) (rest : List Began) (same : Bool)
    → same_key key b.key ≡ same → Among begun (piece same b.it) → IsSessionOf (b ∷ rest) key begun
begun-piece key b begun rest true e (inl is) =
    record { began = b; there = inl refl; its_key = sym (same_key-true key b.key e); its = sym is }
begun-piece key b begun rest true e (inr there) = absurd there
begun-piece key b begun rest false e there = absurd there

begun-later : (key : Key) (b : Began) (begun : Begun) (rest : List Began)
    → IsSessionOf rest key begun → IsSessionOf (b ∷ rest) key begun
begun-later key b begun rest s =
    record { began = s.began; there = inr s.there; its_key = s.its_key; its = s.its }

-- a session among those of a key is one of all, of that key
pub among-begins : (key : Key) (begun : Begun) (begins : List Began)
    → Among begun (begins_of key begins) → IsSessionOf begins key begun
unfolding begins_of
among-begins key begun [] there = absurd there
among-begins key begun (b ∷ begins) there =
    join-cases (IsSessionOf (b ∷ begins) key begun)
    (λ t. begun-piece key b begun begins (same_key key b.key) refl t)
    (λ t. begun-later key b begun begins (among-begins key begun begins t))
    (among-cases begun (piece (same_key key b.key) b.it) (begins_of key begins) there)

-- a session stands at its place
pub record StandsAt (k : ℕ) (begins : List Began) (b : Began) : Type 0 where
  pub i : ℕ
  pub at : slice_get begins i ≡ Some b
  pub place : b.it.place ≡ k + i

placed-at : (k : ℕ) (begins : List Began) (b : Began) → ArePlaced k begins → Among b begins
    → StandsAt k begins b
placed-at k [] b placed there = absurd there
placed-at k (c ∷ begins) b placed (inl e) =
    record {
      i = 0;
      at = ap (λ x. Some x) (sym e);
      place = let p = placed.0 in
          ap (λ (x : Began). x.it.place) e ∙ p ∙ omega arith;
    }
placed-at k (c ∷ begins) b placed (inr there) =
    let s = placed-at (suc k) begins b placed.1 there in
    record { i = suc s.i; at = s.at; place = let p = s.place in omega (arith, p) }

-- each session stands at its own place
pub at-own-place : (begins : List Began) (b : Began) → ArePlaced 0 begins → Among b begins
    → slice_get begins b.it.place ≡ Some b
at-own-place begins b placed there =
    let s = placed-at 0 begins b placed there in
    let e : b.it.place ≡ s.i = let p = s.place in omega (arith, p) in
    ap (slice_get begins) e ∙ s.at

all-from : {A : Type 0} (P : A → Type 0) (xs : List A) → ((x : A) → Among x xs → P x)
    → AllByRecursion P xs
all-from P [] f = tt
all-from P (x ∷ xs) f = (f x (inl refl), all-from P xs (λ y there. f y (inr there)))

-- The lane of an honest world is honest.

lane-honest : (params : EndParams) (h : History) (key : Key) → IsHonest params h
    → honest.IsHonest (lane_of params key h)
unfolding lane_of
lane-honest params h key world check begun checked began session same =
    let b = among-begins key begun h.logs.begins began in
    let entry : Keyed Check = record { key = key; it = check } in
    let it : padded_session params b.began ≡ padded_of (lane_params params key) begun.bits =
    ap (λ (k : Key). padded_of (lane_params params k) b.began.it.bits) b.its_key
    ∙ ap (λ (x : Begun). padded_of (lane_params params key) x.bits) b.its in
    world entry b.began (among-of_key key check h.logs.checks checked) b.there (sym b.its_key)
    (session ∙ ap (λ (x : Begun). Some x.place) (sym b.its)) (same ∙ ap rcs_of (sym it)) ∙ it

-- the parameters of a key's lane are those of a mode, and in range where the ends' are
pub lane-params-are : (params : EndParams) (key : Key) → IsParams params
    → AreLaneParams (lane_params params key)
lane-params-are params key range = record { row = row (mode_of key); in_range = range }
  where
    row : (m : FragMode) → IsFragParams (params_of m)
    row mode.NoAck = refl
    row mode.AckAlways = refl
    row mode.AckOnError = refl

-- the padded packet is the packet with up to 7 bits behind it
pub record IsPaddedBy (bits whole : List Bool) : Type 0 where
  pub padding : List Bool
  pub are : whole ≡ bits ++ padding
  pub few : length padding ≤ 7

fill-few : (count : ℕ) → length (fill count) ≤ 7
unfolding fill
fill-few count = rw (length-replicate ((8 - count % 8) % 8) false) (omega arith)

-- a packet that is padded for its RCS is the packet with up to 7 bits behind it
pub padding-of : (frag : FragParams) (mtu : ℕ) (bits : List Bool)
    → IsPaddedBy bits (padded_packet frag mtu bits)
unfolding padded_packet
padding-of frag mtu bits = record { padding = fill _; are = refl; few = fill-few _ }

-- What a session handed up is the packet that it carries.

joined-led : (params : EndParams) (h : History) (up : HandedUp) → WorldKeeps params h
    → (j : IsJoinedUp params.iids h up) → IsPadded (lane_of params j.join.key h) j.join.it
    → IsLed params.iids h up
unfolding lane_of
joined-led params h up k j p =
    subst (λ o. IsSomeAnd o (IsHandedDownAs h.world.chain params.iids up)) (sym leads)
    (some-weaken (slice_get h.logs.downs b.began.down) (IsBegunOf params.iids h b.began)
    (IsHandedDownAs h.world.chain params.iids up) is-down is.leads)
  where
    b : IsSessionOf h.logs.begins j.join.key p.begun
    b = among-begins j.join.key p.begun h.logs.begins p.there

    is : IsBegun params.iids h b.began
    is = all-among (IsBegun params.iids h) h.logs.begins b.began b.there k.marks.begins.each

    labelled : up.label ≡ Some (label.Session b.began.it.place)
    labelled = j.labelled ∙ ap (option_map label.Session) p.labelled
        ∙ ap (λ (x : Begun). Some (label.Session x.place)) (sym b.its)

    leads : labelled_down h.logs up.label ≡ slice_get h.logs.downs b.began.down
    leads = ap (labelled_down h.logs) labelled
        ∙ ap (carried_down h.logs.downs)
        (at-own-place h.logs.begins b.began k.marks.begins.placed b.there)

    pad : IsPaddedBy p.begun.bits (padded_of (lane_params params j.join.key) p.begun.bits)
    pad = padding-of _ _ p.begun.bits

    in-time : (w : HandedDown) → IsBegunOf params.iids h b.began w → w.place < up.place
    in-time w s =
        let before = s.before in
        let begun : b.began.it.time ≡ p.begun.time = ap (λ (x : Begun). x.time) b.its in
        let earlier = p.earlier in
        let time = j.its_time in
        omega (arith, before, begun, earlier, time)

    is-down : (w : HandedDown) → IsBegunOf params.iids h b.began w
        → IsHandedDownAs h.world.chain params.iids up w
    is-down w s =
        read-as params.iids h b.began.key.way s.form w j.join.it.assembly pad.padding j.reader up
        k.chain s.carries
        (p.same_bits ∙ pad.are
        ∙ ap (λ bits. bits ++ pad.padding)
        (ap (λ (x : Begun). x.bits) (sym b.its) ∙ s.its_bits)) pad.few (in-time w s)
        way j.read_with
        (subst (λ d. unpacked j.reader params.iids d j.join.it.assembly ≡ Ok
        (record { rule_id = up.rule_id; packet = up.packet })) way j.reads)
      where
        way : up.direction ≡ b.began.key.way
        way = j.its_way ∙ ap (λ (x : Key). x.way) (sym b.its_key)

up-led : (params : EndParams) (h : History) (up : HandedUp) → WorldKeeps params h
    → ((key : Key) → AllByRecursion (IsPadded (lane_of params key h)) (lane_of params key h).joins)
    → IsUpKept params.iids h up → IsLed params.iids h up
unfolding lane_of
up-led params h up k padded (inl c) = c.led
up-led params h up k padded (inr j) =
    joined-led params h up k j
    (all-among (IsPadded (lane_of params j.join.key h)) (of_key j.join.key h.logs.joins)
    j.join.it (of_key-among j.join h.logs.joins j.there) (padded j.join.key))

whole-led : (iids : Iids) (h : History) (up : HandedUp) → IsUpKept iids h up → IsWhole up
    → IsLed iids h up
whole-led iids h up (inl c) w = c.led
whole-led iids h up (inr j) w = absurd (no-place j.join.it.session (sym j.labelled ∙ w.1))
  where
    no-place : (o : Option ℕ) → option_map label.Session o ≡ Some (label.Whole w.0) → ⊥
    no-place None e = cc
    no-place (Some p) e = cc

-- the assembly of each check that passed is its session's padded packet
run-padded : JoinsPadded → (params : EndParams) (events : List Event) → IsParams params
    → AllByRecursion HandsBytes events → IsHonest params (run events (start params)) →
    (key : Key)
    → AllByRecursion (IsPadded (lane_of params key (run events (start params))))
    (lane_of params key (run events (start params))).joins
run-padded law params events range bytes world key =
    let r = run-lanes params key events range bytes in
    subst (λ l. AllByRecursion (IsPadded l) l.joins) (sym r.same)
    (law (lane_params params key) (lane_run key (start params) events)
    (lane-params-are params key range) r.possible
    (subst honest.IsHonest r.same (lane-honest params (run events (start params)) key world)))

run-safe : JoinsPadded → (params : EndParams) (events : List Event) → IsParams params
    → AllByRecursion HandsBytes events → IsHonest params (run events (start params))
    → IsSafe params.iids (run events (start params))
run-safe law params events range bytes world =
    let h = run events (start params) in
    let k = run-start-keeps params events range bytes in
    record {
      one_chain = k.world.chain.is_chain;
      sound = k.world.chain.sound;
      handed_down =
          all-weaken (IsUpKept params.iids h) (IsLed params.iids h) h.logs.ups
          (λ up. up-led params h up k.world (run-padded law params events range bytes world)) k.ups;
    }

-- Delivered is earned.

report-arrived : (params : EndParams) (h : History) (report : Keyed LaneReport)
    → lane.IsArrived (lane_of params report.key h) report.it → IsArrived params h report
unfolding lane_of
report-arrived params h report a =
    let b = among-begins report.key a.begun h.logs.begins a.began in
    record {
      began = b.began;
      there = b.there;
      same_key = b.its_key;
      of_session = a.of_session ∙ ap (λ (x : Begun). Some x.place) (sym b.its);
      join = record { key = report.key; it = a.join };
      joined = among-of_key report.key a.join h.logs.joins a.joined;
      its_key = refl;
      its_session = a.same_session;
      same_bits = a.same_bits
          ∙ ap (λ (x : Begun). padded_of (lane_params params report.key) x.bits) (sym b.its)
          ∙ ap (λ (k : Key). padded_of (lane_params params k) b.began.it.bits) (sym b.its_key);
      earlier = a.earlier;
    }

lane-arrived : Arrived → (params : EndParams) (events : List Event) → IsParams params
    → AllByRecursion HandsBytes events → IsHonest params (run events (start params))
    → IsFresh params events →
    (report : Keyed LaneReport) → Among report (run events (start params)).logs.reports
    → report.it.kind ≡ Delivered
    → lane.IsArrived (lane_of params report.key (run events (start params))) report.it
unfolding lane_of
lane-arrived law params events range bytes world fresh report there delivered =
    let h = run events (start params) in
    let r = run-lanes params report.key events range bytes in
    let all =
    subst (λ l. AllByRecursion (λ rep. rep.kind ≡ Delivered → lane.IsArrived l rep) l.reports)
    (sym r.same)
    (law (lane_params params report.key) (lane_run report.key (start params) events)
    (lane-params-are params report.key range) r.possible (fresh report.key)
    (subst honest.IsHonest r.same (lane-honest params h report.key world))) in
    all-among (λ rep. rep.kind ≡ Delivered → lane.IsArrived (lane_of params report.key h) rep)
    (of_key report.key h.logs.reports) report.it (of_key-among report h.logs.reports there) all
    delivered

run-earned : Arrived → (params : EndParams) (events : List Event) → IsParams params
    → AllByRecursion HandsBytes events → IsHonest params (run events (start params))
    → IsFresh params events → IsEarned params (run events (start params))
run-earned law params events range bytes world fresh =
    let h = run events (start params) in
    all-from (λ report. report.it.kind ≡ Delivered → IsArrived params h report) h.logs.reports
    (λ report there delivered. report-arrived params h report
    (lane-arrived law params events range bytes world fresh report there delivered))

-- The headline.

event-bytes : (event : Event) → FitsEvent event → HandsBytes event
event-bytes (Down role packet) fits = fits
event-bytes (Slot role) fits = tt
event-bytes (Deliver direction number) fits = tt
event-bytes (Tick target) fits = tt
event-bytes (Abort role) fits = tt
event-bytes (Publish raw) fits = tt
event-bytes (Offer role number) fits = tt
event-bytes (Allow role number) fits = tt

-- events that fit hand down bytes
pub bytes-of-fits : (params : EndParams) (events : List Event) → Fits params events
    → AllByRecursion HandsBytes events
bytes-of-fits params events fits = all-weaken FitsEvent HandsBytes events event-bytes fits.each

-- where two laws of the lanes hold, the headline holds after events that hand down bytes
pub headline-of : JoinsPadded → Arrived → (params : EndParams) (events : List Event)
    → IsParams params → AllByRecursion HandsBytes events
    → IsHeadline params events (run events (start params))
headline-of joins arrived params events range bytes =
    let h = run events (start params) in
    let k = run-start-keeps params events range bytes in
    record {
      one_chain = k.world.chain.is_chain;
      sound = k.world.chain.sound;
      whole = all-weaken (IsUpKept params.iids h) (λ up. IsWhole up → IsLed params.iids h up)
          h.logs.ups (whole-led params.iids h) k.ups;
      safe = run-safe joins params events range bytes;
      earned = run-earned arrived params events range bytes;
    }

-- it holds after every list of events that fit
pub headline-run : JoinsPadded → Arrived → Headline
headline-run joins arrived params events fits =
    headline-of joins arrived params events fits.within.0 (bytes-of-fits params events fits)

-- and after each of any events that fit
pub always-of : JoinsPadded → Arrived → (params : EndParams) (events : List Event)
    → AlwaysSafe params events
always-of joins arrived params events fits n =
    headline-of joins arrived params (take n events) fits.within.0
    (all-take HandsBytes n events (bytes-of-fits params events fits))

-- the world's steps are its lanes' steps
pub stepped-run : StepsOfAWorld
stepped-run params events fits key event =
    steps-of-a-world params key (run events (start params)) event
    (run-start-keeps params events fits.within.0 (bytes-of-fits params events fits)).world
