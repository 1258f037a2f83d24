-- Every event keeps that what a whole frame handed up was handed down, and that what a session
-- handed up was read from an assembly whose check passed.
use Rattle.std.proofs.Common.{◌≡◌, ◌⊎◌, ℕ, zero, suc, ◌<◌, ◌≤◌, Bool, true, false, List, [], ◌∷◌}
use Rattle.std.proofs.Common.{◌++◌, length, Option, Some, None, option_map, Result, Ok, Err}
use Rattle.std.proofs.Common.{IsSomeAnd, slice_get, refl, sym, ap, subst, ◌∙◌, inl, inr}
use Rattle.std.specs.List.{AllByRecursion}
use Rattle.schc_bits.specs.Bits.{AreBytes}
use Rattle.schc_bits.proofs.ListLemmas.{all-at_place, all-append, all-weaken}
use Rattle.schc_ids.specs.Ends.{taken_direction, other_direction}
use Rattle.schc_ids.specs.PerDirection.{at_direction}
use Rattle.schc_ids.specs.Fragments.{params_of}
use Rattle.schc_ids.specs.declared.ends.EndParams.{EndParams}
use Rattle.schc_ids.specs.declared.ends.Iids.{Iids}
use Rattle.schc_ids.specs.declared.ends.Role.{Role}
use Rattle.schc_ids.specs.declared.ends.Direction.{Direction}
use Rattle.schc_ids.specs.declared.ends.Direction.TheVariants as way
use Rattle.schc_ids.specs.declared.faults.WireFault.{WireFault}
use Rattle.schc_ids.specs.declared.fragments.Side.TheVariants as side
use Rattle.editions.specs.Data.{EditionData}
use Rattle.packer.specs.declared.packing.Packed.{Packed}
use Rattle.packer.specs.UnpackedData.{UnpackedData}
use Rattle.packer.specs.Packing.{packed}
use Rattle.packer.specs.Schc.{IsChosen}
use Rattle.packer.specs.Unpacking.{unpacked}
use Rattle.packer.specs.Laws.{IsSound, AgreeOn, IsReadAs, RestoresUnder}
use Rattle.packer.proofs.ChosenLemmas.{packed-chosen}
use Rattle.packer.proofs.AgreeLemmas.{agree-in_chain}
use Rattle.packer.proofs.PackedLemmas.{packed-begins, BeginsWithId}
use Rattle.frag_wire.specs.Spells.{reading_in}
use Rattle.frag_wire.specs.declared.message.Message.{Message}
use Rattle.tiles_bitmap.specs.Places.{Among}
use Rattle.lorawan_profile.specs.Ports.{meaning_of}
use Rattle.lorawan_profile.specs.declared.ports.PortMeaning.{PortMeaning}
use Rattle.lorawan_profile.specs.declared.ports.PortMeaning.TheVariants as meaning
use Rattle.event_data.specs.Records.{FrameData, HandUpData}
use Rattle.event_data.specs.Events.{Event, Down, Slot, Deliver, Tick, Abort, Publish, Offer, Allow}
use Rattle.sessions.specs.Data.{pick}
use Rattle.sessions.specs.declared.receivers.Receiver.{Receiver}
use Rattle.event_data.specs.declared.outcomes.Accepted.{Accepted}
use Rattle.event_data.specs.declared.outcomes.DownFault.{DownFault}
use Rattle.sessions.specs.Holds.{IsSessionMeaning}
use Rattle.sessions.specs.Keys.{found}
use Rattle.sessions.specs.Reception.{Reception}
use Rattle.lanes.specs.Lane.{Msg, Check}
use Rattle.lanes.specs.Step.{checks_of}
use Rattle.lanes.proofs.ListLemmas.{among-after}
use Rattle.end_core.specs.Data.{EndData}
use Rattle.end_core.specs.End.{frame_of, carried, read_bits, up_of, take_step, down_step}
use Rattle.end_core.proofs.FrameLemmas.{frame_padding, length-frame_padding, carried-frame_of}
use Rattle.end_core.proofs.ReadBackLemmas.{packed-whole, packed-known, reads-bits, knows-bits}
use Rattle.end_core.proofs.TakenLemmas.{HandsUp, taken-up}
use Rattle.two_ends.specs.Happening.{Happening, Nothing, Waits, Gives, Arrives, Fragment, Answer}
use Rattle.two_ends.specs.Happening.{Ticks, GivesUp, waits_if, message_comes, comes_if}
use Rattle.two_ends.specs.Happening.{happening_in}
use Rattle.two_ends.specs.History.{History, happening, reception_at, came_as, came_read, came}
use Rattle.two_ends.specs.History.{handed, ups_after, joins_after, start, after, next}
use Rattle.two_ends.specs.Keys.{Key, Keyed, same_way, keyed, mode_of}
use Rattle.two_ends.specs.Labels as label
use Rattle.two_ends.specs.Labels.{Label, Mark, WholeFrame, MessageOf, marked_frame, Held, held_by}
use Rattle.two_ends.specs.Logs.{HandedDown, HandedUp, handed_up, up_entries}
use Rattle.two_ends.specs.Safe.{IsHandedDownAs, labelled_down, IsLed}
use Rattle.two_ends.specs.World.{end_of, sender, taker, numbered}
use Rattle.two_ends.proofs.ChainKept.{ChainKept}
use Rattle.two_ends.proofs.EndsKept.{EndKeeps, EndsKept}
use Rattle.two_ends.proofs.GrownLemmas.{Grown, grown, label-leads}
use Rattle.two_ends.proofs.LedLemmas.{some-weaken, some-moved}
use Rattle.two_ends.proofs.MarksKept.{IsFrameOf, IsLinkKey, IsMarked, MarksKeep, MarksKept}
use Rattle.two_ends.proofs.PortLemmas.{fragments-port, AnswersBy, answers-port, link-received}
use Rattle.two_ends.proofs.PortLemmas.{previewed_of, preview-key, preview-answer, answers-unwhole}
use Rattle.two_ends.proofs.QueuesKept.{IsFormOf}

-- the direction of what the end takes is that of its frames
takes-way : (direction : Direction) → taken_direction (taker direction) ≡ direction
takes-way way.Up = refl
takes-way way.Down = refl

-- what an end of the world reads
pub read-is : (params : EndParams) (chain : List EditionData) (direction : Direction)
    (this : EndData) (bits : List Bool) → EndKeeps params chain (taker direction) this
    → read_bits this bits ≡ unpacked this.known params.iids direction bits
read-is params chain direction this bits k =
    ap (λ p. unpacked this.known p.iids (taken_direction this.role) bits) k.its_params
    ∙ ap (λ d. unpacked this.known params.iids d bits)
    (ap taken_direction k.its_role ∙ takes-way direction)

-- the packet that was read from a form, with up to 7 bits behind it, is the one that was handed
-- down, where that was earlier
pub read-as : (iids : Iids) (h : History) (direction : Direction) (form : Packed) (w : HandedDown)
    (bits padding : List Bool) (reader : EditionData) (up : HandedUp) → ChainKept h.world.chain
    → IsFormOf iids h direction form w → bits ≡ form.bits ++ padding → length padding ≤ 7 →
    w.place < up.place → up.direction ≡ direction → slice_get h.world.chain up.edition ≡ Some reader
    → unpacked reader iids direction bits ≡ Ok
    (record { rule_id = up.rule_id; packet = up.packet })
    → IsHandedDownAs h.world.chain iids up w
read-as iids h direction form w bits padding reader up k c are few earlier way stands given =
    record {
      earlier = earlier;
      same_direction = c.same_direction ∙ sym way;
      writer = c.writer;
      written_with = c.written_with;
      bits = p.bits;
      chosen =
          subst (λ id. IsChosen c.writer iids w.direction w.packet id p.bits) (sym said_id)
          (packed-chosen c.writer iids w.direction w.packet written c.are_bytes);
      size = sym said_size;
      reader = reader;
      read_with = stands;
      same_rule_id = sym (ap (λ (r : UnpackedData). r.rule_id) same) ∙ sym said_id;
      same_rule = subst (AgreeOn c.writer reader) (ap (λ (r : UnpackedData). r.rule_id) same) agree;
      same_packet = restored;
      bytes_down = c.are_bytes;
      bytes_up = subst AreBytes (ap (λ (r : UnpackedData). r.packet) same) reads.are_bytes;
    }
  where
    p : Packed
    p = packed c.writer iids w.direction w.packet

    said_id : w.accepted.rule_id ≡ p.rule_id
    said_id = ap (λ a. a.rule_id) c.as_said ∙ ap (λ q. q.rule_id) c.is_form

    said_size : w.accepted.bits ≡ length p.bits
    said_size = ap (λ a. a.bits) c.as_said ∙ ap (λ q. length q.bits) c.is_form

    written : IsSound c.writer
    written = all-at_place IsSound h.world.chain w.accepted.edition c.writer k.sound c.written_with

    its_bits : bits ≡ p.bits ++ padding
    its_bits = are ∙ ap (λ q. q.bits ++ padding) c.is_form

    its_read : unpacked reader iids w.direction bits ≡ Ok
        (record { rule_id = up.rule_id; packet = up.packet })
    its_read =
        subst (λ d. unpacked reader iids d bits ≡ Ok
        (record { rule_id = up.rule_id; packet = up.packet })) (sym c.same_direction) given

    agree : AgreeOn c.writer reader p.rule_id
    agree = agree-in_chain h.world.chain k.is_chain w.accepted.edition up.edition c.writer reader
        p.rule_id c.written_with stands
        (packed-known c.writer iids w.direction w.packet written c.are_bytes)
        (knows-bits c.writer reader iids w.direction w.packet bits padding _ its_bits written
        c.are_bytes its_read)

    reads : IsReadAs c.writer reader iids w.direction w.packet p.rule_id bits
    reads = reads-bits c.writer reader iids w.direction w.packet bits padding its_bits few written
        (all-at_place IsSound h.world.chain up.edition reader k.sound stands) c.are_bytes c.ipv6
        agree

    same : ◌≡◌ {A = UnpackedData} (record { rule_id = p.rule_id; packet = reads.restored })
        (record { rule_id = up.rule_id; packet = up.packet })
    same = let one = reads.reads in let other = its_read in cc

    restored : RestoresUnder c.writer w.direction up.rule_id w.packet up.packet
    restored =
        subst (λ (r : UnpackedData). RestoresUnder c.writer w.direction r.rule_id w.packet r.packet)
        same reads.restores

-- a packet that was read from an assembly whose check passed
pub record IsJoinedUp (iids : Iids) (h : History) (up : HandedUp) : Type 0 where
  pub join : Keyed Check
  pub there : Among join h.logs.joins
  pub labelled : up.label ≡ option_map label.Session join.it.session
  pub its_time : up.place ≡ join.it.time
  pub its_way : up.direction ≡ join.key.way
  pub reader : EditionData
  pub read_with : slice_get h.world.chain up.edition ≡ Some reader
  pub reads : unpacked reader iids up.direction join.it.assembly ≡ Ok
      (record { rule_id = up.rule_id; packet = up.packet })

-- or that a whole frame carried
pub record IsCarriedUp (iids : Iids) (h : History) (up : HandedUp) : Type 0 where
  pub place : ℕ
  pub labelled : up.label ≡ Some (label.Whole place)
  pub led : IsLed iids h up

-- a packet that was handed up was carried whole by a frame, or read from an assembly
-- whose check passed
abbrev pub IsUpKept : Iids → History → HandedUp → Type 0
IsUpKept iids h up = IsCarriedUp iids h up ⊎ IsJoinedUp iids h up

-- each packet that was handed up came in one of these ways
abbrev pub UpsKept : Iids → History → Type 0
UpsKept iids h = AllByRecursion (IsUpKept iids h) h.logs.ups

-- It stays so.

down-as-later : (iids : Iids) (h new : History) → Grown h new → (up : HandedUp) (w : HandedDown)
    → IsHandedDownAs h.world.chain iids up w → IsHandedDownAs new.world.chain iids up w
down-as-later iids h new g up w s =
    record {
      earlier = s.earlier;
      same_direction = s.same_direction;
      writer = s.writer;
      written_with = g.stands w.accepted.edition s.writer s.written_with;
      bits = s.bits;
      chosen = s.chosen;
      size = s.size;
      reader = s.reader;
      read_with = g.stands up.edition s.reader s.read_with;
      same_rule_id = s.same_rule_id;
      same_rule = s.same_rule;
      same_packet = s.same_packet;
      bytes_down = s.bytes_down;
      bytes_up = s.bytes_up;
    }

labelled-leads : (h new : History) → Grown h new → (o : Option Label) (w : HandedDown)
    → labelled_down h.logs o ≡ Some w → labelled_down new.logs o ≡ Some w
labelled-leads h new g None w e = absurd cc
labelled-leads h new g (Some one) w e = label-leads h new g one w e

led-later : (iids : Iids) (h new : History) → Grown h new → (up : HandedUp) → IsLed iids h up
    → IsLed iids new up
led-later iids h new g up leads =
    some-moved (labelled_down h.logs up.label) (labelled_down new.logs up.label)
    (IsHandedDownAs h.world.chain iids up) (IsHandedDownAs new.world.chain iids up)
    (labelled-leads h new g up.label) (down-as-later iids h new g up) leads

up-later : (iids : Iids) (h new : History) → Grown h new → (up : HandedUp) → IsUpKept iids h up
    → IsUpKept iids new up
up-later iids h new g up (inl c) =
    inl (record { place = c.place; labelled = c.labelled; led = led-later iids h new g up c.led })
up-later iids h new g up (inr j) =
    inr (record {
      join = j.join;
      there = g.joined j.join j.there;
      labelled = j.labelled;
      its_time = j.its_time;
      its_way = j.its_way;
      reader = j.reader;
      read_with = g.stands up.edition j.reader j.read_with;
      reads = j.reads;
    })

ups-later : (iids : Iids) (h new : History) → Grown h new → UpsKept iids h
    → AllByRecursion (IsUpKept iids new) h.logs.ups
ups-later iids h new g k =
    all-weaken (IsUpKept iids h) (IsUpKept iids new) h.logs.ups (up-later iids h new g) k

-- What each adds.

-- what arrives carries what it says
abbrev pub IsComing : Iids → History → Happening → Type 0
IsComing iids h (Arrives direction place frame) =
    IsSomeAnd (slice_get h.logs.downs place) (IsFrameOf iids h direction frame)
IsComing iids h (Fragment key m) = IsLinkKey key
IsComing iids h (Answer key m) = IsLinkKey key
IsComing iids h happening = Unit {0}

form-begins : (iids : Iids) (h : History) (direction : Direction) (form : Packed) (w : HandedDown)
    → (c : IsFormOf iids h direction form w)
    → carried (frame_of form) ≡ form.bits ++ frame_padding form
form-begins iids h direction form w c =
    carried-frame_of form
    (subst BeginsWithId (sym c.is_form) (packed-begins c.writer iids w.direction w.packet))

-- the RuleID under which a packet was written is a port of whole packets at either end
pub form-whole : (iids : Iids) (h : History) (direction : Direction) (role : Role) (form : Packed)
    (w : HandedDown) → ChainKept h.world.chain → (c : IsFormOf iids h direction form w)
    → meaning_of role form.rule_id ≡ meaning.Whole
form-whole iids h direction role form w k c =
    ap (λ q. meaning_of role q.rule_id) c.is_form
    ∙ packed-whole role c.writer iids w.direction w.packet
    (all-at_place IsSound h.world.chain w.accepted.edition c.writer k.sound c.written_with)
    c.are_bytes

no-session : (m : PortMeaning) → m ≡ meaning.Whole → IsSessionMeaning m → ⊥
no-session m e is = subst IsSessionMeaning e is

arrives-as : (params : EndParams) (h : History) (direction : Direction) (frame : FrameData)
    (label : Option Label) (u : HandUpData) (w : HandedDown) → ChainKept h.world.chain
    → EndsKept params h.world → IsFrameOf params.iids h direction frame w →
    HandsUp (end_of h.world (taker direction)) frame u
    → IsHandedDownAs h.world.chain params.iids (handed_up h.place direction u label) w
arrives-as params h direction frame label u w chain ends f (HandsUp.whole by r reads is_up) =
    let this = end_of h.world (taker direction) in
    let k = ends (taker direction) in
    subst (λ v. IsHandedDownAs h.world.chain params.iids (handed_up h.place direction v label) w)
    is_up
    (read-as params.iids h direction f.form w (carried frame) (frame_padding f.form) this.known
    (handed_up h.place direction (up_of this.known.number r) label) chain f.carries
    (ap carried f.is_frame ∙ form-begins params.iids h direction f.form w f.carries)
    (length-frame_padding f.form) f.carries.earlier refl k.knows
    (sym (read-is params h.world.chain direction this (carried frame) k) ∙ reads))
arrives-as params h direction frame label u w chain ends f (HandsUp.part by assembly e is_up) =
    let this = end_of h.world (taker direction) in
    absurd (no-session (meaning_of this.role frame.port)
    (ap (λ g. meaning_of this.role g.port) f.is_frame
    ∙ form-whole params.iids h direction this.role f.form w chain f.carries) by)

-- an entry, where something is handed up
entries-are : (P : HandedUp → Type 0) (place : ℕ) (direction : Direction) (up : Option HandUpData)
    (label : Option Label)
    → ((u : HandUpData) → up ≡ Some u → P (handed_up place direction u label))
    → AllByRecursion P (up_entries place direction up label)
entries-are P place direction None label f = tt
entries-are P place direction (Some u) label f = (f u refl, tt)

arrives-adds : (params : EndParams) (h : History) (direction : Direction) (place : ℕ)
    (frame : FrameData) → ChainKept h.world.chain → EndsKept params h.world
    → IsSomeAnd (slice_get h.logs.downs place) (IsFrameOf params.iids h direction frame) →
    AllByRecursion (IsUpKept params.iids h) (handed h direction frame (Some (label.Whole place)))
arrives-adds params h direction place frame chain ends f =
    let this = end_of h.world (taker direction) in
    entries-are (IsUpKept params.iids h) h.place direction (take_step this frame).1.up
    (Some (label.Whole place))
    (λ u e. inl (record {
      place = place;
      labelled = refl;
      led =
          some-weaken (slice_get h.logs.downs place) (IsFrameOf params.iids h direction frame) _
          (λ w of. arrives-as params h direction frame (Some (label.Whole place)) u w chain ends of
          (taken-up this frame u e)) f;
    }))

-- a fragment that makes an assembly whole
came-joined : (time : ℕ) (held : Held) (receiver : Receiver) (m : Msg)
    (reading : Result Message WireFault) (assembly : List Bool)
    → previewed_of receiver m.bytes reading ≡ Some assembly →
    (came_read time held receiver m reading).joins ≡ record {
      time = time;
      assembly =
          assembly;
      session = (came_read time held receiver m reading).session;
    } ∷ []
unfolding came_read came_as checks_of
came-joined time held receiver m (Err fault) assembly e = absurd cc
came-joined time held receiver m (Ok message) assembly e = rw e refl

received-is : (h : History) (key : Key) (r : Reception)
    → found key.id (end_of h.world (taker key.way)).sessions.receivers ≡ Some r
    → reception_at h.world key ≡ r
unfolding reception_at
received-is h key r e = rw e refl

fragment-up : (params : EndParams) (h new : History) (key : Key) (m : Msg) (u : HandUpData)
    → (g : Grown h new) → EndsKept params h.world → IsLinkKey key
    → new.logs.joins ≡ h.logs.joins ++ keyed key (came h key m).joins →
    HandsUp (end_of h.world (taker key.way)) (marked_frame (MessageOf key m)) u
    → IsJoinedUp params.iids new
    (handed_up h.place key.way u (option_map label.Session (came h key m).session))
fragment-up params h new key m u g ends link joins (HandsUp.whole by r reads is_up) =
    let this = end_of h.world (taker key.way) in
    let e : meaning_of this.role key.id.port ≡ meaning.Fragments (params_of (mode_of key)) =
    ap (λ r. meaning_of r key.id.port) (ends (taker key.way)).its_role
    ∙ fragments-port key link in
    absurd cc
fragment-up params h new key m u g ends link joins (HandsUp.part by assembly e is_up) =
    record {
      join = join;
      there = subst (Among join) (sym joins)
          (among-after join h.logs.joins (keyed key (came h key m).joins)
          (subst (λ js. Among join (keyed key js)) (sym one) (inl refl)));
      labelled = refl;
      its_time = refl;
      its_way = refl;
      reader = this.known;
      read_with = ap (λ (v : HandUpData). slice_get new.world.chain v.edition) (sym is_up.is_up)
          ∙ g.stands this.known.number this.known k.knows;
      reads =
          sym (read-is params h.world.chain key.way this assembly k) ∙ is_up.reads
          ∙ ap (λ (v : HandUpData). Ok (record { rule_id = v.rule_id; packet = v.packet }))
          is_up.is_up;
    }
  where
    this : EndData
    this = end_of h.world (taker key.way)

    k : EndKeeps params h.world.chain (taker key.way) this
    k = ends (taker key.way)

    r : Reception
    r = pick link.0 k.sessions.answering k.sessions.silent

    is_r : reception_at h.world key ≡ r
    is_r = received-is h key r (link-received key params this.sessions link k.sessions)

    reading : Result Message WireFault
    reading = reading_in (mode_of key) side.Fragments m.bytes

    previewed : previewed_of (reception_at h.world key).receiver m.bytes reading ≡ Some assembly
    previewed = ap (λ (x : Reception). previewed_of x.receiver m.bytes reading) is_r
        ∙ sym (preview-key key params this.sessions m.bytes link k.sessions) ∙ e

    join : Keyed Check
    join = record {
      key = key;
      it =
          record { time = h.place; assembly = assembly; session = (came h key m).session };
    }

    one : (came h key m).joins ≡ join.it ∷ []
    one = came-joined h.place (held_by key h.labels) (reception_at h.world key).receiver m reading
        assembly previewed

-- an answer hands nothing up
pub other-taker : (w : Direction) → taker (other_direction w) ≡ sender w
other-taker way.Up = refl
other-taker way.Down = refl

-- the end that sends a key's fragments hands nothing up by a message of the key
pub answer-up : (params : EndParams) (h : History) (key : Key) (m : Msg) (u : HandUpData)
    → EndsKept params h.world → IsLinkKey key
    → HandsUp (end_of h.world (sender key.way)) (marked_frame (MessageOf key m)) u → ⊥
answer-up params h key m u ends link (HandsUp.whole by r reads is_up) =
    answers-unwhole (mode_of key) _
    (subst (λ r. AnswersBy (mode_of key) (meaning_of r key.id.port))
    (sym (ends (sender key.way)).its_role) (answers-port key link)) by
answer-up params h key m u ends link (HandsUp.part by assembly e is_up) =
    let none =
    preview-answer key params (end_of h.world (sender key.way)).sessions m.bytes link
    (ends (sender key.way)).sessions in cc

ups-after : (params : EndParams) (h new : History) (x : Happening) → Grown h new
    → new.logs.joins ≡ joins_after h x → ChainKept h.world.chain → EndsKept params h.world
    → IsComing params.iids h x → UpsKept params.iids h
    → AllByRecursion (IsUpKept params.iids new) (ups_after h x)
unfolding ups_after joins_after
ups-after params h new Nothing g joins chain ends coming k = ups-later params.iids h new g k
ups-after params h new (Waits role packet accepted) g joins chain ends coming k =
    ups-later params.iids h new g k
ups-after params h new (Gives role given) g joins chain ends coming k =
    ups-later params.iids h new g k
ups-after params h new (Arrives direction place frame) g joins chain ends coming k =
    all-append (IsUpKept params.iids new) h.logs.ups
    (handed h direction frame (Some (label.Whole place))) (ups-later params.iids h new g k)
    (all-weaken (IsUpKept params.iids h) (IsUpKept params.iids new)
    (handed h direction frame (Some (label.Whole place))) (up-later params.iids h new g)
    (arrives-adds params h direction place frame chain ends coming))
ups-after params h new (Fragment key m) g joins chain ends coming k =
    let this = end_of h.world (taker key.way) in
    let frame = marked_frame (MessageOf key m) in
    let label = option_map label.Session (came h key m).session in
    all-append (IsUpKept params.iids new) h.logs.ups (handed h key.way frame label)
    (ups-later params.iids h new g k)
    (entries-are (IsUpKept params.iids new) h.place key.way (take_step this frame).1.up label
    (λ u e. inr (fragment-up params h new key m u g ends coming joins (taken-up this frame u e))))
ups-after params h new (Answer key m) g joins chain ends coming k =
    let frame = marked_frame (MessageOf key m) in
    let this = end_of h.world (taker (other_direction key.way)) in
    all-append (IsUpKept params.iids new) h.logs.ups (handed h (other_direction key.way) frame None)
    (ups-later params.iids h new g k)
    (entries-are (IsUpKept params.iids new) h.place (other_direction key.way)
    (take_step this frame).1.up None
    (λ u e. absurd
    (answer-up params h key m u ends coming
    (subst (λ r. HandsUp (end_of h.world r) frame u) (other-taker key.way)
    (taken-up this frame u e)))))
ups-after params h new (Ticks target) g joins chain ends coming k = ups-later params.iids h new g k
ups-after params h new (GivesUp role id) g joins chain ends coming k =
    ups-later params.iids h new g k

-- what arrives was sent
waits-coming : (iids : Iids) (h : History) (role : Role) (packet : List ℕ)
    (r : Result Accepted DownFault) → IsComing iids h (waits_if role packet r)
unfolding waits_if
waits-coming iids h role packet (Ok accepted) = tt
waits-coming iids h role packet (Err fault) = tt

message-coming : (iids : Iids) (h : History) (key : Key) (m : Msg) (b : Bool) → IsLinkKey key
    → IsComing iids h (message_comes key m b)
unfolding message_comes
message-coming iids h key m true link = link
message-coming iids h key m false link = link

comes-coming : (iids : Iids) (h : History) (direction : Direction) (o : Option Mark)
    → ((mark : Mark) → o ≡ Some mark → IsMarked iids h direction mark)
    → IsComing iids h (comes_if direction o)
unfolding comes_if
comes-coming iids h direction None k = tt
comes-coming iids h direction (Some (WholeFrame place frame)) k = k (WholeFrame place frame) refl
comes-coming iids h direction (Some (MessageOf key m)) k =
    message-coming iids h key m (same_way direction key.way) (k (MessageOf key m) refl)

-- where what all marks say is so, it is so for the one of the frame with this number in a direction
pub marked-at : (iids : Iids) (h : History) (direction : Direction) (number : ℕ) (mark : Mark)
    → MarksKeep iids h h.labels.sent
    → numbered (at_direction h.labels.sent direction) number ≡ Some mark
    → IsMarked iids h direction mark
marked-at iids h direction zero mark k e = absurd cc
marked-at iids h direction (suc n) mark k e =
    all-at_place (IsMarked iids h direction) (at_direction h.labels.sent direction) n mark
    (k direction) e

pub event-coming : (iids : Iids) (h : History) (event : Event) → MarksKept iids h
    → IsComing iids h (happening h event)
unfolding happening_in
event-coming iids h (Down role packet) k =
    waits-coming iids h role packet (down_step (end_of h.world role) packet).1
event-coming iids h (Slot role) k = tt
event-coming iids h (Deliver direction number) k =
    comes-coming iids h direction (numbered (at_direction h.labels.sent direction) number)
    (λ mark e. marked-at iids h direction number mark k.marks e)
event-coming iids h (Tick target) k = tt
event-coming iids h (Abort role) k = tt
event-coming iids h (Publish raw) k = tt
event-coming iids h (Offer role number) k = tt
event-coming iids h (Allow role number) k = tt

-- it holds at the beginning
pub ups-start : (params : EndParams) → UpsKept params.iids (start params)
ups-start params = tt

-- every event keeps it
pub ups-step : (params : EndParams) (h : History) (event : Event) → ChainKept h.world.chain
    → EndsKept params h.world → MarksKept params.iids h → UpsKept params.iids h
    → UpsKept params.iids (next h event)
unfolding next after
ups-step params h event chain ends marks k =
    ups-after params h (next h event) (happening h event) (grown h event) refl chain ends
    (event-coming params.iids h event marks) k
