-- A packet that waits alone, and doesn't go whole, opens a session, and that session ends after at
-- most one round more than it has tiles.
use Rattle.std.proofs.Common.{◌≡◌, ℕ, ◌+◌, ◌≤◌, false, List, [], ◌∷◌, ◌++◌, length, drop, Option}
use Rattle.std.proofs.Common.{Some, None, Ok, slice_get, refl, sym, ap, subst, ◌∙◌, arith}
use Rattle.schc_ids.specs.Ends.{sent_direction}
use Rattle.schc_ids.specs.Fragments.{params_of}
use Rattle.schc_ids.specs.Params.{IsParams}
use Rattle.schc_ids.specs.PerRole.{at_role}
use Rattle.schc_ids.specs.declared.ends.EndParams.{EndParams}
use Rattle.schc_ids.specs.declared.ends.Role.{Role}
use Rattle.schc_ids.proofs.PerRoleLemmas.{at_role-put_role}
use Rattle.editions.specs.Data.{EditionData}
use Rattle.packer.specs.UnpackedData.{UnpackedData}
use Rattle.packer.specs.Unpacking.{unpacked}
use Rattle.packer.specs.declared.packing.Packed.{Packed}
use Rattle.sessions.specs.Data.{SessionsData, out_key}
use Rattle.sessions.specs.Keys.{SessionKey, found, entry, put_in}
use Rattle.sessions.specs.Receivers.{new_receiver}
use Rattle.sessions.specs.Reception.{Reception}
use Rattle.sessions.specs.declared.receivers.Receiver.{Receiver}
use Rattle.sessions.specs.Senders.{sender_due}
use Rattle.sessions.specs.Session.{Session, session_sent}
use Rattle.sessions.specs.Steps.{with_session, messages_from, message_choice, busy_in, may_begin}
use Rattle.sessions.specs.Steps.{may_begin_in, new_session, next_number}
use Rattle.sessions.proofs.KeyLemmas.{put-own}
use Rattle.lanes.specs.Events.{CanBegin}
use Rattle.lanes.specs.Lane.{LaneParams, Msg, last_item, place_of, padded_of}
use Rattle.lanes.specs.Rounds.{Talk, new_talk, Ends, EndsWell}
use Rattle.lanes.specs.Step.{lane_session}
use Rattle.lanes.proofs.CleanLemmas.{clean}
use Rattle.lanes.proofs.ListLemmas.{last-push}
use Rattle.lanes.proofs.SenderLemmas.{begun-is}
use Rattle.tiles_bitmap.specs.Tiles.{tiles}
use Rattle.end_core.specs.Data.{EndData, fits}
use Rattle.end_core.specs.End.{with_sessions, without_first, up_of, queue_turn, turn_from}
use Rattle.two_ends.specs.Clean.{plain_rounds}
use Rattle.two_ends.specs.Happening.{Given, Opens, Fragment, opens_if, begun, given_by}
use Rattle.two_ends.specs.History.{History, begun_at, marks_given, begins_given, reports_given}
use Rattle.two_ends.specs.History.{ups_after, downs_after, begins_after, reports_after, after}
use Rattle.two_ends.specs.Keys.{Key, mode_of, lane_params}
use Rattle.two_ends.specs.Labels.{MessageOf, first_place}
use Rattle.two_ends.specs.Logs.{Began, begins_of}
use Rattle.two_ends.specs.World.{end_of}
use Rattle.two_ends.proofs.ComesLemmas.{come, IsDelivered, slot-comes, fragment-comes}
use Rattle.two_ends.proofs.GivenLemmas.{given_step}
use Rattle.two_ends.proofs.KeepsLemmas.{lane-params-are}
use Rattle.two_ends.proofs.KeyLemmas.{begins-mine}
use Rattle.two_ends.proofs.LaneSlots.{slotted, new-is, can-begin}
use Rattle.two_ends.proofs.LaneSteps.{WorldKeeps}
use Rattle.two_ends.proofs.LaneTakes.{fragment_world}
use Rattle.two_ends.proofs.MarksKept.{own-link}
use Rattle.two_ends.proofs.ModeLemmas.{new-mode}
use Rattle.two_ends.proofs.PerLemmas.{at_role-put_role-taker}
use Rattle.two_ends.proofs.PortLemmas.{mode-params}
use Rattle.two_ends.proofs.RestLemmas.{gives_of}
use Rattle.two_ends.proofs.SessionsKept.{AreSessions, own-key}
use Rattle.two_ends.proofs.TalkEndLemmas.{NoAnswers, rest_of, no-answer, Speaks, Listens}
use Rattle.two_ends.proofs.TalkLemmas.{IsTalkOf}
use Rattle.two_ends.proofs.TalkRoundLemmas.{own_id, own_lane, reader, IsOut}
use Rattle.two_ends.proofs.TalkRunLemmas.{IsReady, IsOver, ends-over}
use Rattle.two_ends.proofs.WorldLemmas.{given_world}

-- The packet waits alone at an end that has no session and no answer due, and doesn't go whole. The
-- other end knows this edition, and its receiver keeps nothing.
pub record IsAlone (params : EndParams) (w : History) (role : Role) (known : EditionData)
    (form : Packed) (r : Reception) : Type 0 where
  pub keeps : WorldKeeps params w
  pub waits : (end_of w.world role).queue ≡ form ∷ []
  pub no_session : (end_of w.world role).sessions.senders ≡ []
  pub no_answers : NoAnswers (end_of w.world role).sessions.receivers
  pub unfit : fits (end_of w.world role).params.mtu form ≡ false
  pub listens : Listens (reader role) params.acked known r (end_of w.world (reader role))
  pub is_new : r.receiver ≡ new_receiver (mode_of (own_lane params role))

-- Its turn.

begins-turn : (end : EndData) (form : Packed) → end.queue ≡ form ∷ [] → end.sessions.senders ≡ [] →
    fits end.params.mtu form ≡ false →
    rest_of end ≡
    opens_if (out_key end.sessions.role end.sessions.params.acked)
    (new_session form.bits end.sessions) form
    (sender_due (new_session form.bits end.sessions).sender)
unfolding given_by begun turn_from queue_turn message_choice messages_from busy_in may_begin
    may_begin_in found
begins-turn end form waits none unfit = rw (none, waits, unfit) refl

opens-some : (id : SessionKey) (session : Session) (form : Packed) (o : Option (List ℕ))
    (bytes : List ℕ) → o ≡ Some bytes → opens_if id session form o ≡ Opens id session form bytes
unfolding opens_if
opens-some id session form o bytes e = rw e refl

-- the session that it opens
abbrev pub first_session : EndParams → History → Role → Packed → Session
first_session params w role form =
    lane_session (lane_params params (own_lane params role)) (end_of w.world role).sessions.next
    form.bits

gives-first : (params : EndParams) (w : History) (role : Role) (known : EditionData) (form : Packed)
    (r : Reception) (bytes : List ℕ) → IsAlone params w role known form r →
    sender_due (first_session params w role form).sender ≡ Some bytes →
    gives_of (end_of w.world role) ≡
    Opens (own_id params role) (first_session params w role form) form bytes
gives-first params w role known form r bytes k due =
    no-answer end k.no_answers
    ∙ begins-turn end form k.waits k.no_session k.unfit
    ∙ ap (λ i. opens_if i (new_session form.bits s) form
    (sender_due (new_session form.bits s).sender)) (own-key role params s are)
    ∙ ap (λ (x : Session). opens_if (own_id params role) x form (sender_due x.sender))
    (new-is params role s form.bits are.its_role are.its_params)
    ∙ opens-some (own_id params role) (first_session params w role form) form
    (sender_due (first_session params w role form).sender) bytes due
  where
    end : EndData
    end = end_of w.world role

    s : SessionsData
    s = end.sessions

    are : AreSessions role params s
    are = (k.keeps.ends role).sessions

-- the session among those that began
abbrev pub first_began : EndParams → History → Role → Packed → Began
first_began params w role form =
    record {
      key = own_lane params role;
      it = begun_at w (first_session params w role form) form;
      down = first_place (at_role w.labels.queued role);
    }

begins-empty : (id : SessionKey) (new : Session) (end : EndData) → end.sessions.senders ≡ [] →
    put_in id (Some new) end.sessions.senders ≡ entry id (Some new)
unfolding entry
begins-empty id new end none = ap (put_in id (Some new)) none ∙ put-own id None (Some new)

first-speaks : (params : EndParams) (w : History) (role : Role) (known : EditionData)
    (form : Packed) (r : Reception) (new : Session) → IsAlone params w role known form r →
    let end = end_of w.world role in
    Speaks (own_id params role) new
    (with_sessions (without_first end)
    (with_session (own_id params role) (Some new)
    (record end.sessions { next = next_number end.sessions.next })))
first-speaks params w role known form r new k =
    record {
      senders = begins-empty (own_id params role) new (end_of w.world role) k.no_session;
      nothing_waits = ap (drop 1) k.waits;
      no_answers = k.no_answers;
    }

first-out : (params : EndParams) (w : History) (role : Role) (known : EditionData) (form : Packed)
    (r : Reception) (bytes : List ℕ) → IsAlone params w role known form r →
    sender_due (first_session params w role form).sender ≡ Some bytes →
    IsOut params w role (first_session params w role form) bytes (length w.logs.begins)
    (w.logs.begins ++ first_began params w role form ∷ [])
    (slotted w role (Opens (own_id params role) (first_session params w role form) form bytes))
unfolding after given_world given_step marks_given begins_given reports_given ups_after downs_after
    begins_after reports_after
first-out params w role known form r bytes k due =
    record {
      m = m;
      its_bytes = refl;
      its_label = refl;
      keeps = d.sent_keeps;
      comes_keeps = subst (WorldKeeps params) to d.keeps;
      comes = d.same ∙ to;
      speaks =
          subst (Speaks id (session_sent params.ticks session))
          (sym (at_role-put_role w.world.ends role _))
          (subst (λ (p : EndParams). Speaks id (session_sent params.ticks session)
          (with_sessions (without_first end)
          (with_session id (Some (session_sent p.ticks session))
          (record end.sessions { next = next_number end.sessions.next }))))
          (sym (k.keeps.ends role).sessions.its_params)
          (first-speaks params w role known form r (session_sent params.ticks session) k));
      reader_same = at_role-put_role-taker w.world.ends role _;
      downs = refl;
      ups = refl;
      begun = refl;
      reports = refl;
    }
  where
    id : SessionKey
    id = own_id params role

    end : EndData
    end = end_of w.world role

    session : Session
    session = first_session params w role form

    given : Given
    given = Opens id session form bytes

    m : Msg
    m = record {
      label = Some (length w.logs.begins);
      sent_at = at_role w.ticks role;
      bytes =
          bytes;
    }

    d : IsDelivered params w role given (MessageOf (own_lane params role) m)
    d = slot-comes params w role given (MessageOf (own_lane params role) m) k.keeps
        (gives-first params w role known form r bytes k due) refl

    to : come w role given (MessageOf (own_lane params role) m) ≡
        after (slotted w role given)
        (fragment_world (slotted w role given).world (own_lane params role) m)
        (Fragment (own_lane params role) m)
    to = fragment-comes params w role given id m (own-link role id params.acked refl) d.sent_keeps

-- The session from its first round on.

abbrev first_talk : EndParams → History → Role → Packed → Reception → Talk
first_talk params w role form r =
    new_talk (lane_params params (own_lane params role)) (end_of w.world role).sessions.next
    form.bits r.left

first-ready : (params : EndParams) (w : History) (role : Role) (known : EditionData) (form : Packed)
    (r : Reception) → IsAlone params w role known form r →
    IsReady params w role known (length w.logs.begins)
    (w.logs.begins ++ first_began params w role form ∷ []) (first_talk params w role form r)
first-ready params w role known form r k =
    record {
      listens = subst
          (λ (x : Reception). Listens (reader role) params.acked known x
          (end_of w.world (reader role))) same k.listens;
      label = ap (λ bs. place_of (last_item bs)) (begins-mine key w.logs.begins began refl)
          ∙ ap place_of (last-push (begins_of key w.logs.begins) began.it);
      out = λ bytes sending due. (_, first-out params w role known form r bytes k due);
    }
  where
    key : Key
    key = own_lane params role

    began : Began
    began = first_began params w role form

    same : r ≡ (first_talk params w role form r).reception
    same = ap (λ (x : Receiver). record { receiver = x; left = r.left })
        (k.is_new ∙ ap new_receiver (sym (mode-params (mode_of key))))

first-of : (params : EndParams) (w : History) (role : Role) (form : Packed) (r : Reception) →
    IsParams params → CanBegin form.bits →
    IsTalkOf (lane_params params (own_lane params role)) form.bits (first_talk params w role form r)
unfolding lane_session
first-of params w role form r range can =
    record {
      sender = begun-is (lane_params params (own_lane params role)) form.bits
          (lane-params-are params (own_lane params role) range) can;
      mode_is = new-mode (lane_params params (own_lane params role)).frag.mode;
    }

-- it ends, and what was read of its padded packet is handed up
pub session-over : (params : EndParams) (w : History) (role : Role) (known : EditionData)
    (form : Packed) (r : Reception) (read : UnpackedData) (count : ℕ) → IsParams params →
    IsAlone params w role known form r →
    unpacked known params.iids (sent_direction role)
    (padded_of (lane_params params (own_lane params role)) form.bits) ≡ Ok read →
    length (tiles (params_of (mode_of (own_lane params role))) params.mtu form.bits) + 1 ≤ count →
    IsOver params w role (length w.logs.begins)
    (w.logs.begins ++ first_began params w role form ∷ []) (up_of known.number read)
    (plain_rounds count w role)
session-over params w role known form r read count range k reads enough =
    ends-over params role known (length w.logs.begins)
    (w.logs.begins ++ first_began params w role form ∷ []) form.bits (padded_of lane form.bits)
    read well.more count w (first_talk params w role form r)
    (omega (arith, well.few, enough)) (first-ready params w role known form r k)
    (first-of params w role form r range can) reads
    (subst (λ m. Ends m params.ticks (padded_of lane form.bits) well.more
    (first_talk params w role form r)) (mode-params (mode_of (own_lane params role))) well.ends)
  where
    lane : LaneParams
    lane = lane_params params (own_lane params role)

    can : CanBegin form.bits
    can = can-begin params w role form k.keeps.chain k.keeps.ends k.keeps.queues k.keeps.mtu
        (ap (λ q. slice_get q 0) k.waits) k.unfit

    well : EndsWell lane (end_of w.world role).sessions.next form.bits r.left
    well = clean lane (end_of w.world role).sessions.next form.bits r.left
        (lane-params-are params (own_lane params role) range) can
