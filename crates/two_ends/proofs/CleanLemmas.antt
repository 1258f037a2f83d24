-- From a clean start, plain rounds carry a packet: whole, or as a session.
use Rattle.std.proofs.Common.{◌≡◌, ℕ, zero, suc, ◌+◌, ◌≤◌, Bool, true, false, not, if◌then◌else◌}
use Rattle.std.proofs.Common.{List, [], ◌∷◌, ◌++◌, length, drop, Option, Some, None, Ok, slice_get}
use Rattle.std.proofs.Common.{refl, ap, subst, sym, ◌∙◌, arith}
use Rattle.std.proofs.lemmas.List.{append-nil}
use Rattle.schc_bits.specs.Bits.{AreBytes}
use Rattle.schc_bits.proofs.ListLemmas.{all-at_place}
use Rattle.schc_ids.specs.Ends.{sent_direction, other_role}
use Rattle.schc_ids.specs.Fragments.{params_of}
use Rattle.schc_ids.specs.Params.{IsParams}
use Rattle.schc_ids.specs.declared.ends.EndParams.{EndParams}
use Rattle.schc_ids.specs.declared.ends.Role.{Role}
use Rattle.schc_ids.specs.declared.ends.Direction.{Direction}
use Rattle.schc_ids.specs.PerRole.{at_role, put_role}
use Rattle.schc_ids.proofs.PerRoleLemmas.{at_role-put_role}
use Rattle.schc_ids.specs.declared.phases.ReceiverPhase.TheVariants as phase
use Rattle.editions.specs.Data.{EditionData}
use Rattle.editions.proofs.ChainLemmas.{one-meaning}
use Rattle.lorawan_profile.specs.Ports.{meaning_of}
use Rattle.lorawan_profile.specs.declared.ports.PortMeaning.TheVariants.{Whole}
use Rattle.packer.specs.declared.packing.Packed.{Packed}
use Rattle.ip_udp_fields.specs.Fields.{has_ipv6_header}
use Rattle.packer.specs.Packing.{packed}
use Rattle.packer.specs.Unpacking.{unpacked}
use Rattle.packer.specs.Laws.{IsSound, AgreeOn, RestoresUnder, IsReadAs}
use Rattle.packer.specs.Schc.{IsChosen}
use Rattle.packer.proofs.AgreeLemmas.{agree-later}
use Rattle.packer.proofs.ChosenLemmas.{packed-chosen}
use Rattle.packer.proofs.PackedLemmas.{packed-edition, packed-begins, BeginsWithId}
use Rattle.event_data.specs.Records.{HandUpData}
use Rattle.event_data.specs.Events.{Event, Down}
use Rattle.event_data.specs.declared.outcomes.Accepted.{Accepted}
use Rattle.event_data.specs.declared.outcomes.DownFault.{DownFault}
use Rattle.event_data.specs.declared.outcomes.Line.TheVariants as line
use Rattle.sessions.specs.Data.{out_key, receptions, pick}
use Rattle.sessions.specs.Keys.{found}
use Rattle.sessions.specs.Receivers.{receiver_mode, receiver_phase, receiver_due}
use Rattle.sessions.specs.Reception.{Reception}
use Rattle.sessions.specs.Steps.{messages_from, message_choice, busy_in}
use Rattle.lanes.specs.Lane.{padded_of}
use Rattle.lanes.proofs.RoundLemmas.{empty-new}
use Rattle.tiles_bitmap.specs.Tiles.{tiles}
use Rattle.end_core.specs.Data.{EndData, fits}
use Rattle.end_core.specs.End.{form_of, refusal, accepted, with_form, down_from, down_step}
use Rattle.end_core.specs.End.{frame_of, without_first, carried, up_of, take_step, queue_turn}
use Rattle.end_core.specs.End.{turn_from}
use Rattle.end_core.specs.Events as at_end
use Rattle.end_core.specs.EndStep.{end_step}
use Rattle.end_core.proofs.FrameLemmas.{frame_padding, length-frame_padding, carried-frame_of}
use Rattle.end_core.proofs.ReadBackLemmas.{packed-whole, packed-known, reads-bits}
use Rattle.end_core.proofs.StepLemmas.{refusal-none}
use Rattle.end_core.proofs.TakenLemmas.{taken-reads}
use Rattle.two_ends.specs.Clean.{IsClean, ReaderKnows, needed_rounds, BringsUp, IsReported, WentAs}
use Rattle.two_ends.specs.Clean.{IsCarried, Arrives, key_of_end, goes_whole, tile_count}
use Rattle.two_ends.specs.Clean.{slot_delivered, plain_round, plain_rounds}
use Rattle.two_ends.specs.Fits.{Fits}
use Rattle.two_ends.specs.Happening.{Carries, given_by, Waits, waits_if, comes_if, happening_in}
use Rattle.two_ends.specs.History.{History, reception_at, ups_after, downs_after, begins_after}
use Rattle.two_ends.specs.History.{reports_after, queued_after, marks_given, begins_given}
use Rattle.two_ends.specs.History.{reports_given, start, after, next, run}
use Rattle.two_ends.specs.Keys.{Key, sent_key, mode_of, lane_params}
use Rattle.two_ends.specs.Labels as label
use Rattle.two_ends.specs.Labels.{Label, Mark, WholeFrame, first_place}
use Rattle.two_ends.specs.Logs.{Logs, Began, handed_up, up_entries, handed_down}
use Rattle.two_ends.specs.Safe.{carried_down, down_of}
use Rattle.two_ends.specs.World.{WorldData, with_end, end_of, answered, end_event, step}
use Rattle.two_ends.proofs.ComesLemmas.{IsDelivered, slot-comes}
use Rattle.two_ends.proofs.EndsKept.{EndKeeps, form-is}
use Rattle.two_ends.proofs.GivenLemmas.{given_step}
use Rattle.two_ends.proofs.KeepsLemmas.{world-step, IsPaddedBy, padding-of, run-start-keeps}
use Rattle.two_ends.proofs.KeepsLemmas.{bytes-of-fits}
use Rattle.two_ends.proofs.LaneSlots.{slotted}
use Rattle.two_ends.proofs.LaneSteps.{WorldKeeps, whole-sessions}
use Rattle.two_ends.proofs.LaneTakes.{reception-is}
use Rattle.two_ends.proofs.LedLemmas.{led-none, slice_get-last}
use Rattle.two_ends.proofs.MarksKept.{IsLinkKey, own-link}
use Rattle.two_ends.proofs.ModeLemmas.{world-mode}
use Rattle.two_ends.proofs.PerLemmas.{put_role-at_role, put_role-put_role, taker-sent}
use Rattle.two_ends.proofs.PerLemmas.{at_role-put_role-taker}
use Rattle.two_ends.proofs.QueuesKept.{IsFormOf}
use Rattle.two_ends.proofs.RestLemmas.{gives_of, IsRested, due-rested, rested-due, still}
use Rattle.two_ends.proofs.RestLemmas.{delivered-still, rounds-still}
use Rattle.two_ends.proofs.SessionsKept.{AreSessions, in-is}
use Rattle.two_ends.proofs.TalkBeginsLemmas.{IsAlone, first_began, session-over}
use Rattle.two_ends.proofs.TalkEndLemmas.{NoAnswers, rest_of, no-answer, rested-silent, Listens}
use Rattle.two_ends.proofs.TalkRoundLemmas.{own_id, own_lane, reader, in-own}
use Rattle.two_ends.proofs.TalkRunLemmas.{IsOver}
use Rattle.two_ends.proofs.UpsKept.{read-is}
use Rattle.two_ends.proofs.WorldLemmas.{given_world}

-- What the other end reads.

-- what an end that knows this edition reads of a form that the writer's end wrote: the packet that
-- is restored
record IsReadBy (params : EndParams) (chain : List EditionData) (direction : Direction)
    (writer known : EditionData) (packet : List ℕ) (form : Packed) (bits : List Bool) : Type 0 where
  restored : List ℕ
  reads : unpacked known params.iids direction bits ≡
      Ok (record { rule_id = form.rule_id; packet = restored })
  written_with : slice_get chain form.edition ≡ Some writer
  restores : RestoresUnder writer direction form.rule_id packet restored
  are_bytes : AreBytes restored

form-read : (params : EndParams) (h : History) (role : Role) (packet : List ℕ)
    (bits padding : List Bool) → WorldKeeps params h → AreBytes packet →
    has_ipv6_header packet ≡ true →
    let from = end_of h.world role in
    let to = end_of h.world (reader role) in
    let form = packed from.writes params.iids (sent_direction role) packet in
    from.writes.number ≤ to.known.number → bits ≡ form.bits ++ padding → length padding ≤ 7 →
    IsReadBy params h.world.chain (sent_direction role) from.writes to.known packet form bits
form-read params h role packet bits padding k bytes ipv6 order are few =
    record {
      restored = reads.restored;
      reads = reads.reads;
      written_with =
          subst (λ n. slice_get h.world.chain n ≡ Some from.writes)
          (sym (packed-edition from.writes params.iids direction packet)) writes.writes_with;
      restores = reads.restores;
      are_bytes = reads.are_bytes;
    }
  where
    direction : Direction
    direction = sent_direction role

    from : EndData
    from = end_of h.world role

    to : EndData
    to = end_of h.world (reader role)

    form : Packed
    form = packed from.writes params.iids direction packet

    writes : EndKeeps params h.world.chain role from
    writes = k.ends role

    knows : EndKeeps params h.world.chain (reader role) to
    knows = k.ends (reader role)

    written : IsSound from.writes
    written = all-at_place IsSound h.world.chain from.writes.number from.writes k.chain.sound
        writes.writes_with

    known : IsSound to.known
    known = all-at_place IsSound h.world.chain to.known.number to.known k.chain.sound knows.knows

    agree : AgreeOn from.writes to.known form.rule_id
    agree =
        agree-later from.writes to.known form.rule_id
        (one-meaning h.world.chain k.chain.is_chain from.writes.number to.known.number from.writes
        to.known order writes.writes_with knows.knows).0
        (packed-known from.writes params.iids direction packet written bytes)

    reads : IsReadAs from.writes to.known params.iids direction packet form.rule_id bits
    reads = reads-bits from.writes to.known params.iids direction packet bits padding are few
        written known bytes ipv6 agree

-- and so of what an end of the world writes, where the other end knows the edition
end-read : (params : EndParams) (h : History) (role : Role) (packet : List ℕ)
    (bits padding : List Bool) → WorldKeeps params h → AreBytes packet →
    has_ipv6_header packet ≡ true →
    ReaderKnows h.world role (accepted (form_of (end_of h.world role) packet)) →
    bits ≡ (form_of (end_of h.world role) packet).bits ++ padding → length padding ≤ 7 →
    IsReadBy params h.world.chain (sent_direction role) (end_of h.world role).writes
    (end_of h.world (reader role)).known packet (form_of (end_of h.world role) packet) bits
end-read params h role packet bits padding k bytes ipv6 knows are few =
    let from = end_of h.world role in
    let to = end_of h.world (reader role) in
    let same = form-is params h.world.chain role from packet (k.ends role) in
    let number : (form_of from packet).edition ≡ from.writes.number =
    ap (λ p. p.edition) same
    ∙ packed-edition from.writes params.iids (sent_direction role) packet in
    let known : (form_of from packet).edition ≤ to.known.number =
    subst (λ r. (form_of from packet).edition ≤ (end_of h.world r).known.number)
    (sym (taker-sent role)) knows in
    subst (λ form. IsReadBy params h.world.chain (sent_direction role) from.writes to.known packet
    form bits) (sym same)
    (form-read params h role packet bits padding k bytes ipv6
    (subst (λ n. n ≤ to.known.number) number known)
    (are ∙ ap (λ form. form.bits ++ padding) same) few)

-- the packet that it hands up
abbrev up_by : ℕ → Packed → List ℕ → HandUpData
up_by number form restored = up_of number (record { rule_id = form.rule_id; packet = restored })

-- a packet that was handed up with a label that leads to the one that was handed down
brings : (params : EndParams) (h : History) (role : Role) (packet : List ℕ) (form : Packed)
    (writer known : EditionData) (bits : List Bool) (now : Logs) (time : ℕ) (l : Label) →
    (k : IsReadBy params h.world.chain (sent_direction role) writer known packet form bits) →
    now.ups ≡ h.logs.ups ++ handed_up time (sent_direction role)
    (up_by known.number form k.restored) (Some l) ∷ [] →
    down_of now l ≡ Some (handed_down h.place (sent_direction role) packet (accepted form)) →
    BringsUp h.logs now h.world.chain
    (handed_down h.place (sent_direction role) packet (accepted form))
brings params h role packet form writer known bits now time l k ups leads =
    record {
      entry = handed_up time (sent_direction role) (up_by known.number form k.restored) (Some l);
      one_more = ups;
      from_there = refl;
      under_rule = refl;
      writer = writer;
      written_with = k.written_with;
      same_packet = k.restores;
      are_bytes = k.are_bytes;
      leads_here = leads;
    }

-- The packet waits.

-- the history after a packet was handed down and taken
abbrev waits : History → Role → List ℕ → History
waits h role packet =
    let form = form_of (end_of h.world role) packet in
    after h (with_end h.world role (with_form (end_of h.world role) form))
    (Waits role packet (accepted form))

waits-place : (params : EndParams) (h : History) (role : Role) (packet : List ℕ) →
    WorldKeeps params h → IsClean h.world role →
    first_place (at_role (waits h role packet).labels.queued role) ≡ length h.logs.downs
unfolding after queued_after
waits-place params h role packet keeps clean =
    ap first_place
    (at_role-put_role h.labels.queued role _
    ∙ ap (λ places. places ++ length h.logs.downs ∷ [])
    (led-none (IsFormOf params.iids h (sent_direction role)) (slice_get h.logs.downs)
    (end_of h.world role).queue (at_role h.labels.queued role) clean.nothing_waits
    (keeps.queues role)))

-- the last of the packets that were handed down
waits-last : (h : History) (role : Role) (packet : List ℕ) →
    slice_get (waits h role packet).logs.downs (length h.logs.downs) ≡
    Some (handed_down h.place (sent_direction role) packet
    (accepted (form_of (end_of h.world role) packet)))
unfolding after downs_after
waits-last h role packet = slice_get-last h.logs.downs _

-- The packet goes whole.

whole-turn : (end : EndData) (form : Packed) → end.sessions.senders ≡ [] → end.queue ≡ form ∷ [] →
    fits end.params.mtu form ≡ true → rest_of end ≡ Carries form
unfolding turn_from given_by busy_in queue_turn message_choice messages_from
whole-turn end form none waits fit = rw (none, waits, fit) refl

-- what is so once the packet has come
record IsBrought (before : History) (role : Role) (up : HandUpData) (place : ℕ)
    (now : History) : Type 0 where
  rested : IsRested now.world.ends
  downs : now.logs.downs ≡ before.logs.downs
  begins : now.logs.begins ≡ before.logs.begins
  reports : now.logs.reports ≡ before.logs.reports
  time : ℕ
  ups : now.logs.ups ≡
      before.logs.ups ++ handed_up time (sent_direction role) up (Some (label.Whole place)) ∷ []

-- the packet that waits alone
record IsHeld (params : EndParams) (w : History) (role : Role) (form : Packed) (place : ℕ)
    (up : HandUpData) : Type 0 where
  keeps : WorldKeeps params w
  gives : gives_of (end_of w.world role) ≡ Carries form
  place_is : first_place (at_role w.labels.queued role) ≡ place
  emptied : IsRested (put_role w.world.ends role (without_first (end_of w.world role)))
  is_whole : meaning_of (end_of w.world (reader role)).role form.rule_id ≡ Whole
  reads : (take_step (end_of w.world (reader role)) (frame_of form)).1.up ≡ Some up

held-brought : (params : EndParams) (w : History) (role : Role) (form : Packed) (place : ℕ)
    (up : HandUpData) → IsHeld params w role form place up →
    IsBrought w role up place (slot_delivered w role)
unfolding after given_world given_step marks_given begins_given reports_given ups_after downs_after
    begins_after reports_after comes_if
held-brought params w role form place up held =
    subst (IsBrought w role up place) (sym d.same)
    (record {
      rested = subst IsRested
          (sym (ap (put_role g.world.ends (reader role))
          (whole-sessions to (frame_of form)
          (subst (λ (e : EndData). meaning_of e.role form.rule_id ≡ Whole) (sym same)
          held.is_whole)) ∙ put_role-at_role g.world.ends (reader role))) held.emptied;
      downs = refl;
      begins = append-nil w.logs.begins;
      reports = append-nil w.logs.reports;
      time = g.place;
      ups =
          ap (λ o. w.logs.ups ++ up_entries g.place (sent_direction role) o
          (Some (label.Whole (first_place (at_role w.labels.queued role)))))
          (subst (λ (e : EndData). (take_step e (frame_of form)).1.up ≡ Some up) (sym same)
          held.reads)
          ∙ ap (λ p. w.logs.ups ++ handed_up g.place (sent_direction role) up
          (Some (label.Whole p)) ∷ []) held.place_is;
    })
  where
    mark : Mark
    mark = WholeFrame (first_place (at_role w.labels.queued role)) (frame_of form)

    g : History
    g = slotted w role (Carries form)

    to : EndData
    to = end_of g.world (reader role)

    same : to ≡ end_of w.world (reader role)
    same = at_role-put_role-taker w.world.ends role _

    d : IsDelivered params w role (Carries form) mark
    d = slot-comes params w role (Carries form) mark held.keeps held.gives refl

-- a plain round and any number of further ones
round-brings : (w : History) (role : Role) (up : HandUpData) (place count : ℕ) →
    IsBrought w role up place (slot_delivered w role) →
    IsBrought w role up place (plain_rounds (suc count) w role)
unfolding plain_rounds plain_round
round-brings w role up place count b =
    let half = slot_delivered w role in
    let same = rounds-still count (still half) role b.rested in
    subst (λ g. IsBrought w role up place (plain_rounds count g role))
    (sym (delivered-still half (other_role role) (b.rested (other_role role))))
    (record {
      rested = subst (λ (w : WorldData). IsRested w.ends) (sym same.0) b.rested;
      downs = ap (λ logs. logs.downs) same.1 ∙ b.downs;
      begins = ap (λ logs. logs.begins) same.1 ∙ b.begins;
      reports = ap (λ logs. logs.reports) same.1 ∙ b.reports;
      time = b.time;
      ups = ap (λ logs. logs.ups) same.1 ∙ b.ups;
    })

-- the form of a packet begins with its RuleID, and comes by a port of whole packets
form-begins : (params : EndParams) (h : History) (role : Role) (packet : List ℕ) →
    WorldKeeps params h → BeginsWithId (form_of (end_of h.world role) packet)
form-begins params h role packet k =
    let from = end_of h.world role in
    subst BeginsWithId (sym (form-is params h.world.chain role from packet (k.ends role)))
    (packed-begins from.writes params.iids (sent_direction role) packet)

form-whole : (params : EndParams) (h : History) (role : Role) (packet : List ℕ) →
    WorldKeeps params h → AreBytes packet →
    meaning_of (end_of h.world (reader role)).role (form_of (end_of h.world role) packet).rule_id ≡
    Whole
form-whole params h role packet k bytes =
    let from = end_of h.world role in
    let to = end_of h.world (reader role) in
    let sound = all-at_place IsSound h.world.chain from.writes.number from.writes k.chain.sound
    (k.ends role).writes_with in
    ap (λ (p : Packed). meaning_of to.role p.rule_id)
    (form-is params h.world.chain role from packet (k.ends role))
    ∙ packed-whole to.role from.writes params.iids (sent_direction role) packet sound bytes

-- it is written under the rule that is chosen
form-chosen : (params : EndParams) (h : History) (role : Role) (packet : List ℕ) →
    WorldKeeps params h → AreBytes packet →
    IsChosen (end_of h.world role).writes (end_of h.world role).params.iids (sent_direction role)
    packet (form_of (end_of h.world role) packet).rule_id
    (form_of (end_of h.world role) packet).bits
form-chosen params h role packet k bytes =
    let from = end_of h.world role in
    let sound = all-at_place IsSound h.world.chain from.writes.number from.writes k.chain.sound
    (k.ends role).writes_with in
    subst
    (λ (p : EndParams). IsChosen from.writes p.iids (sent_direction role) packet
    (form_of from packet).rule_id (form_of from packet).bits) (sym (k.ends role).its_params)
    (subst
    (λ (p : Packed). IsChosen from.writes params.iids (sent_direction role) packet p.rule_id
    p.bits) (sym (form-is params h.world.chain role from packet (k.ends role)))
    (packed-chosen from.writes params.iids (sent_direction role) packet sound bytes))

-- a packet that fits waits alone, and the frame is read
whole-held : (params : EndParams) (h : History) (role : Role) (packet : List ℕ) →
    WorldKeeps params h → WorldKeeps params (waits h role packet) → AreBytes packet →
    IsClean h.world role → goes_whole h.world role packet ≡ true →
    (k : IsReadBy params h.world.chain (sent_direction role) (end_of h.world role).writes
    (end_of h.world (reader role)).known packet (form_of (end_of h.world role) packet)
    (carried (frame_of (form_of (end_of h.world role) packet)))) →
    IsHeld params (waits h role packet) role (form_of (end_of h.world role) packet)
    (length h.logs.downs)
    (up_by (end_of h.world (reader role)).known.number (form_of (end_of h.world role) packet)
    k.restored)
unfolding after
whole-held params h role packet keeps kept bytes clean fit k =
    record {
      keeps = kept;
      gives = ap gives_of (at_role-put_role h.world.ends role _)
          ∙ no-answer (with_form this form) silent
          ∙ whole-turn (with_form this form) form clean.no_session alone fit;
      place_is = waits-place params h role packet keeps clean;
      emptied = subst IsRested (sym as_before) rested;
      is_whole = subst (λ (e : EndData). meaning_of e.role form.rule_id ≡ Whole)
          (sym (at_role-put_role-taker h.world.ends role _)) by_port;
      reads = subst
          (λ (e : EndData). (take_step e (frame_of form)).1.up ≡
          Some (up_by to.known.number form k.restored))
          (sym (at_role-put_role-taker h.world.ends role _)) taken;
    }
  where
    this : EndData
    this = end_of h.world role

    to : EndData
    to = end_of h.world (reader role)

    form : Packed
    form = form_of this packet

    rested : IsRested h.world.ends
    rested = due-rested h.world clean.nothing_due

    silent : NoAnswers this.sessions.receivers
    silent = (rested-silent this (rested role)).0

    alone : (with_form this form).queue ≡ form ∷ []
    alone = ap (λ q. q ++ form ∷ []) clean.nothing_waits

    by_port : meaning_of to.role form.rule_id ≡ Whole
    by_port = form-whole params h role packet keeps bytes

    taken : (take_step to (frame_of form)).1.up ≡ Some (up_by to.known.number form k.restored)
    taken =
        taken-reads to (frame_of form) (record { rule_id = form.rule_id; packet = k.restored })
        by_port
        (read-is params h.world.chain (sent_direction role) to (carried (frame_of form))
        (keeps.ends (reader role)) ∙ k.reads)

    emptied-end : without_first (with_form this form) ≡ this
    emptied-end =
        ap (λ q. record this { queue = drop 1 (q ++ form ∷ []) }) clean.nothing_waits
        ∙ ap (λ q. record this { queue = q }) (sym clean.nothing_waits)

    as_before : put_role (put_role h.world.ends role (with_form this form)) role
        (without_first (at_role (put_role h.world.ends role (with_form this form)) role)) ≡
        h.world.ends
    as_before =
        put_role-put_role h.world.ends role _ _
        ∙ ap (λ (e : EndData). put_role h.world.ends role (without_first e))
        (at_role-put_role h.world.ends role (with_form this form))
        ∙ ap (put_role h.world.ends role) emptied-end ∙ put_role-at_role h.world.ends role

whole-carried : (params : EndParams) (h : History) (role : Role) (packet : List ℕ) (rounds : ℕ) →
    WorldKeeps params h → WorldKeeps params (waits h role packet) → AreBytes packet →
    has_ipv6_header packet ≡ true → IsClean h.world role →
    ReaderKnows h.world role (accepted (form_of (end_of h.world role) packet)) →
    goes_whole h.world role packet ≡ true → 1 ≤ rounds →
    IsCarried h (plain_rounds rounds (waits h role packet) role) role packet
    (accepted (form_of (end_of h.world role) packet))
unfolding after ups_after begins_after reports_after
whole-carried params h role packet zero keeps kept bytes ipv6 clean knows fit enough =
    absurd (omega (arith, enough))
whole-carried params h role packet (suc count) keeps kept bytes ipv6 clean knows fit enough =
    record {
      chosen = form-chosen params h role packet keeps bytes;
      arrives =
          brings params h role packet form (end_of h.world role).writes
          (end_of h.world (reader role)).known (carried (frame_of form)) now.logs b.time
          (label.Whole (length h.logs.downs)) k b.ups
          (ap (λ downs. slice_get downs (length h.logs.downs)) b.downs ∙ waits-last h role packet);
      went = subst
          (λ whole. WentAs whole h.logs now.logs (key_of_end h.world role) form.bits
          (length h.logs.downs)) (sym fit) (b.begins, b.reports);
      at_rest = rested-due now.world b.rested;
    }
  where
    form : Packed
    form = form_of (end_of h.world role) packet

    now : History
    now = plain_rounds (suc count) (waits h role packet) role

    k : IsReadBy params h.world.chain (sent_direction role) (end_of h.world role).writes
        (end_of h.world (reader role)).known packet form (carried (frame_of form))
    k = end-read params h role packet (carried (frame_of form)) (frame_padding form) keeps bytes
        ipv6 knows (carried-frame_of form (form-begins params h role packet keeps))
        (length-frame_padding form)

    up : HandUpData
    up = up_by (end_of h.world (reader role)).known.number form k.restored

    b : IsBrought (waits h role packet) role up (length h.logs.downs) now
    b =
        round-brings (waits h role packet) role up (length h.logs.downs) count
        (held-brought params (waits h role packet) role form (length h.logs.downs) up
        (whole-held params h role packet keeps kept bytes clean fit k))

-- The packet goes as a session.

both-silent : (role : Role) (acked : Bool) (answering silent : Reception) →
    NoAnswers (receptions role answering silent) →
    (receiver_due (pick acked answering silent).receiver ≡ None) ×
    (receiver_due (pick (not acked) answering silent).receiver ≡ None)
both-silent role true answering silent k = (k.0, k.1.0)
both-silent role false answering silent k = (k.1.0, k.0)

own-lane : (params : EndParams) (h : History) (role : Role) → WorldKeeps params h →
    key_of_end h.world role ≡ own_lane params role
own-lane params h role k =
    ap (λ (r : Role). sent_key role (out_key r (end_of h.world role).params.acked))
    (k.ends role).its_role
    ∙ ap (λ (p : EndParams). sent_key role (out_key role p.acked)) (k.ends role).its_params

-- the reception of the end's key
abbrev reception_of : (params : EndParams) (h : History) (role : Role) → WorldKeeps params h →
    Reception
reception_of params h role k =
    let s = (k.ends (reader role)).sessions in pick params.acked s.answering s.silent

session-alone : (params : EndParams) (h : History) (role : Role) (packet : List ℕ)
    (keeps : WorldKeeps params h) → WorldKeeps params (waits h role packet) → IsClean h.world role →
    goes_whole h.world role packet ≡ false →
    receiver_mode (reception_at h.world (own_lane params role)).receiver ≡
    mode_of (own_lane params role) →
    IsAlone params (waits h role packet) role (end_of h.world (reader role)).known
    (form_of (end_of h.world role) packet) (reception_of params h role keeps)
unfolding after
session-alone params h role packet keeps kept clean unfit mode_is =
    record {
      keeps = kept;
      waits = ap (λ (e : EndData). e.queue) now ∙ ap (λ q. q ++ form ∷ []) clean.nothing_waits;
      no_session = ap (λ (e : EndData). e.sessions.senders) now ∙ clean.no_session;
      no_answers =
          subst (λ (e : EndData). NoAnswers e.sessions.receivers) (sym now)
          (rested-silent this (rested role)).0;
      unfit = ap (λ (e : EndData). fits e.params.mtu form) now ∙ unfit;
      listens =
          subst (Listens (reader role) params.acked to.known r)
          (sym (at_role-put_role-taker h.world.ends role _))
          (record {
            answering = are.answering;
            silent = are.silent;
            receivers = are.receivers;
            picked = refl;
            other = silent.1;
            rests = (rested-silent to (rested (reader role))).1;
            knows = refl;
          });
      is_new = empty-new (mode_of key) r.receiver
          (sym (ap (λ (x : Reception). receiver_mode x.receiver) is_r) ∙ mode_is)
          (sym (ap (λ (x : Reception). receiver_phase x.receiver) is_r) ∙ empty) silent.0;
    }
  where
    this : EndData
    this = end_of h.world role

    to : EndData
    to = end_of h.world (reader role)

    form : Packed
    form = form_of this packet

    key : Key
    key = own_lane params role

    r : Reception
    r = reception_of params h role keeps

    are : AreSessions (reader role) params to.sessions
    are = (keeps.ends (reader role)).sessions

    now : at_role (put_role h.world.ends role (with_form this form)) role ≡ with_form this form
    now = at_role-put_role h.world.ends role (with_form this form)

    rested : IsRested h.world.ends
    rested = due-rested h.world clean.nothing_due

    silent : (receiver_due r.receiver ≡ None) ×
        (receiver_due (pick (not params.acked) are.answering are.silent).receiver ≡ None)
    silent = both-silent (reader role) params.acked are.answering are.silent
        (subst NoAnswers are.receivers (rested-silent to (rested (reader role))).0)

    link : IsLinkKey key
    link = own-link role (own_id params role) params.acked refl

    is_r : reception_at h.world key ≡ r
    is_r = reception-is h.world key r
        (subst (λ i. found i to.sessions.receivers ≡ Some r) (in-own params role)
        (in-is (reader role) params to.sessions params.acked are))

    empty : receiver_phase (reception_at h.world key).receiver ≡ phase.Empty
    empty = subst (λ (k : Key). receiver_phase (reception_at h.world k).receiver ≡ phase.Empty)
        (own-lane params h role keeps) clean.receiver_empty

session-carried : (params : EndParams) (h : History) (role : Role) (packet : List ℕ) (rounds : ℕ) →
    IsParams params → WorldKeeps params h → WorldKeeps params (waits h role packet) →
    AreBytes packet → has_ipv6_header packet ≡ true → IsClean h.world role →
    ReaderKnows h.world role (accepted (form_of (end_of h.world role) packet)) →
    receiver_mode (reception_at h.world (own_lane params role)).receiver ≡
    mode_of (own_lane params role) → goes_whole h.world role packet ≡ false →
    tile_count h.world role packet + 1 ≤ rounds →
    IsCarried h (plain_rounds rounds (waits h role packet) role) role packet
    (accepted (form_of (end_of h.world role) packet))
unfolding after ups_after begins_after reports_after
session-carried params h role packet rounds range keeps kept bytes ipv6 clean knows mode_is unfit
    enough =
    record {
      chosen = form-chosen params h role packet keeps bytes;
      arrives =
          brings params h role packet form (end_of h.world role).writes to.known padded now.logs
          over.time (label.Session (length h.logs.begins)) k over.ups
          (ap (carried_down now.logs.downs)
          (ap (λ bs. slice_get bs (length h.logs.begins)) over.begun
          ∙ slice_get-last h.logs.begins began) ∙ ap (slice_get now.logs.downs) place_is
          ∙ ap (λ downs. slice_get downs (length h.logs.downs)) over.downs
          ∙ waits-last h role packet);
      went =
          subst (λ whole. WentAs whole h.logs now.logs (key_of_end h.world role) form.bits
          (length h.logs.downs)) (sym unfit)
          (subst (λ (key : Key). IsReported h.logs now.logs key form.bits (length h.logs.downs))
          (sym (own-lane params h role keeps))
          (record {
            began = began;
            one_more = over.begun;
            by_key = refl;
            with_bits = refl;
            at_place = refl;
            carries = place_is;
            report = over.report;
            one_report = over.reports;
            of_key = over.of_key;
            of_session = over.of_session;
            well = over.well;
          }));
      at_rest = rested-due now.world over.rested;
    }
  where
    form : Packed
    form = form_of (end_of h.world role) packet

    to : EndData
    to = end_of h.world (reader role)

    padded : List Bool
    padded = padded_of (lane_params params (own_lane params role)) form.bits

    now : History
    now = plain_rounds rounds (waits h role packet) role

    began : Began
    began = first_began params (waits h role packet) role form

    place_is : began.down ≡ length h.logs.downs
    place_is = waits-place params h role packet keeps clean

    pad : IsPaddedBy form.bits padded
    pad = padding-of _ _ form.bits

    k : IsReadBy params h.world.chain (sent_direction role) (end_of h.world role).writes to.known
        packet form padded
    k = end-read params h role packet padded pad.padding keeps bytes ipv6 knows pad.are pad.few

    few : length
        (tiles (params_of (mode_of (own_lane params role))) params.mtu form.bits) + 1 ≤ rounds
    few =
        subst (λ (p : EndParams). length
        (tiles (params_of (mode_of (own_lane params role))) p.mtu form.bits) + 1 ≤ rounds)
        (keeps.ends role).its_params
        (subst (λ (key : Key). length
        (tiles (params_of (mode_of key)) (end_of h.world role).params.mtu
        form.bits) + 1 ≤ rounds) (own-lane params h role keeps) enough)

    over : IsOver params (waits h role packet) role (length h.logs.begins)
        (h.logs.begins ++ began ∷ []) (up_by to.known.number form k.restored) now
    over =
        session-over params (waits h role packet) role to.known form
        (reception_of params h role keeps)
        (record { rule_id = form.rule_id; packet = k.restored }) rounds range
        (session-alone params h role packet keeps kept clean unfit mode_is) k.reads few

-- A packet that is handed down.

went-carried : (params : EndParams) (h : History) (role : Role) (packet : List ℕ) (rounds : ℕ)
    (whole : Bool) → IsParams params → WorldKeeps params h →
    WorldKeeps params (waits h role packet) → AreBytes packet → has_ipv6_header packet ≡ true →
    IsClean h.world role →
    ReaderKnows h.world role (accepted (form_of (end_of h.world role) packet)) →
    receiver_mode (reception_at h.world (own_lane params role)).receiver ≡
    mode_of (own_lane params role) → goes_whole h.world role packet ≡ whole →
    (if whole then 1 else tile_count h.world role packet + 1) ≤ rounds →
    IsCarried h (plain_rounds rounds (waits h role packet) role) role packet
    (accepted (form_of (end_of h.world role) packet))
went-carried params h role packet rounds true range keeps kept bytes ipv6 clean knows mode_is e
    enough = whole-carried params h role packet rounds keeps kept bytes ipv6 clean knows e enough
went-carried params h role packet rounds false range keeps kept bytes ipv6 clean knows mode_is e
    enough = session-carried params h role packet rounds range keeps kept bytes ipv6 clean knows
    mode_is e enough

down-arrives : (params : EndParams) (h : History) (role : Role) (packet : List ℕ)
    (o : Option DownFault) → refusal (end_of h.world role) packet ≡ o → IsParams params →
    WorldKeeps params h → AreBytes packet → IsClean h.world role →
    receiver_mode (reception_at h.world (own_lane params role)).receiver ≡
    mode_of (own_lane params role) →
    let s = down_from (end_of h.world role) (form_of (end_of h.world role) packet) o in
    WorldKeeps params
    (after h (answered h.world role s.0 (at_end.Handed s.1)).0 (waits_if role packet s.1)) →
    (answer : Accepted) →
    (answered h.world role s.0 (at_end.Handed s.1)).1 ≡ Ok (line.Hand answer) →
    ReaderKnows h.world role answer → (rounds : ℕ) →
    needed_rounds h.world role packet ≤ rounds →
    IsCarried h (plain_rounds rounds
    (after h (answered h.world role s.0 (at_end.Handed s.1)).0 (waits_if role packet s.1)) role)
    role packet answer
unfolding down_from answered waits_if
down-arrives params h role packet (Some fault) e range keeps bytes clean mode_is kept answer said
    knows rounds enough = absurd cc
down-arrives params h role packet None e range keeps bytes clean mode_is kept answer said knows
    rounds enough =
    subst (IsCarried h (plain_rounds rounds (waits h role packet) role) role packet) same
    (went-carried params h role packet rounds (goes_whole h.world role packet) range keeps kept
    bytes (refusal-none (end_of h.world role) packet e).0 clean
    (subst (ReaderKnows h.world role) (sym same) knows) mode_is refl enough)
  where
    same : accepted (form_of (end_of h.world role) packet) ≡ answer
    same = cc

history-arrives : (params : EndParams) (h : History) (role : Role) (packet : List ℕ) →
    IsParams params → WorldKeeps params h →
    receiver_mode (reception_at h.world (own_lane params role)).receiver ≡
    mode_of (own_lane params role) → AreBytes packet → Arrives h role packet
unfolding next step end_event end_step down_step happening_in
history-arrives params h role packet range keeps mode_is bytes answer clean given knows rounds
    enough =
    down-arrives params h role packet (refusal (end_of h.world role) packet) refl range keeps bytes
    clean mode_is (world-step params h (Down role packet) bytes keeps) answer given knows rounds
    enough

-- so it is after every list of events
pub run-arrives : (params : EndParams) (events : List Event) (role : Role) (packet : List ℕ) →
    Fits params events → AreBytes packet → Arrives (run events (start params)) role packet
run-arrives params events role packet fits bytes =
    history-arrives params (run events (start params)) role packet fits.within.0
    (run-start-keeps params events fits.within.0 (bytes-of-fits params events fits)).world
    (world-mode params (own_lane params role) events fits.within.0
    (bytes-of-fits params events fits)) bytes
