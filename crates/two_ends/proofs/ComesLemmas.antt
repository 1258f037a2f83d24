-- A slot of an end whose frame is delivered: what comes to the other end.
use Rattle.std.proofs.Common.{◌≡◌, ℕ, ◌+◌, true, false, List, [], ◌∷◌, ◌++◌, length, Option, Some}
use Rattle.std.proofs.Common.{option_map, Ok, refl, sym, ap, subst, ◌∙◌, add-one}
use Rattle.std.proofs.lemmas.List.{length-map}
use Rattle.schc_ids.specs.Ends.{sent_direction, taken_direction}
use Rattle.schc_ids.specs.PerDirection.{at_direction}
use Rattle.schc_ids.specs.declared.ends.Direction.{Direction}
use Rattle.schc_ids.specs.declared.ends.EndParams.{EndParams}
use Rattle.schc_ids.specs.declared.ends.Role.{Role}
use Rattle.schc_ids.specs.declared.ends.Role.TheVariants.{Device, Gateway}
use Rattle.schc_ids.proofs.PerRoleLemmas.{at_direction-put_direction}
use Rattle.event_data.specs.Events.{Slot, Deliver}
use Rattle.event_data.specs.declared.outcomes.Emitted.{Emitted}
use Rattle.event_data.specs.declared.outcomes.Line.TheVariants as line
use Rattle.sessions.specs.Keys.{SessionKey}
use Rattle.lanes.specs.Lane.{Msg}
use Rattle.end_core.specs.Data.{EndData}
use Rattle.end_core.specs.End.{turn, slot_step}
use Rattle.end_core.specs.EndStep.{end_step}
use Rattle.two_ends.specs.Clean.{outcome, delivered, slot_delivered}
use Rattle.two_ends.specs.Happening.{Given, Answers, Goes, Opens, Carries, NoFrame, Fragment}
use Rattle.two_ends.specs.Happening.{Answer, message_comes, comes_if, happening_in}
use Rattle.two_ends.specs.History.{History, sent_after, marks_given, after, next}
use Rattle.two_ends.specs.Keys.{sent_key, taken_key, same_way}
use Rattle.two_ends.specs.Labels.{Mark, MessageOf, marked_frame}
use Rattle.two_ends.specs.World.{with_end, end_of, taker, frames_of, numbered, emission}
use Rattle.two_ends.specs.World.{sent_after as frames_after, answered, end_event, deliver_step}
use Rattle.two_ends.specs.World.{step}
use Rattle.two_ends.proofs.GivenLemmas.{given_step, turn-gives}
use Rattle.two_ends.proofs.KeepsLemmas.{world-step}
use Rattle.two_ends.proofs.LaneSlots.{slotted}
use Rattle.two_ends.proofs.LaneSteps.{WorldKeeps, came_world, look-up}
use Rattle.two_ends.proofs.LaneTakes.{fragment_world, answer_world}
use Rattle.two_ends.proofs.LedLemmas.{slice_get-last}
use Rattle.two_ends.proofs.MarksKept.{IsLinkKey}
use Rattle.two_ends.proofs.ReachLemmas.{fragment-step, answer-step}
use Rattle.two_ends.proofs.RestLemmas.{gives_of}
use Rattle.two_ends.proofs.WorldLemmas.{slot-next}

-- the frame that is given
given-sends : (h : History) (role : Role) (given : Given) (mark : Mark) →
    marks_given h role given ≡ mark ∷ [] →
    (emitted : Emitted) × ((given_step (end_of h.world role) given).1 ≡ Some emitted)
unfolding marks_given given_step
given-sends h role (Answers id r bytes) mark e = (_, refl)
given-sends h role (Goes id session bytes) mark e = (_, refl)
given-sends h role (Opens id session form bytes) mark e = (_, refl)
given-sends h role (Carries form) mark e = (_, refl)
given-sends h role NoFrame mark e = absurd cc

slot-says : (h : History) (role : Role) (given : Given) (emitted : Emitted) →
    gives_of (end_of h.world role) ≡ given →
    (given_step (end_of h.world role) given).1 ≡ Some emitted →
    outcome h.world (Slot role) ≡
    Ok (line.Slot (Some (emission (frames_of h.world (sent_direction role)) emitted)))
unfolding step end_event end_step slot_step answered frames_after
slot-says h role given emitted e sends =
    let end = end_of h.world role in
    let frames = frames_of h.world (sent_direction role) in
    ap (λ (s : EndData × Option Emitted). Ok (line.Slot (frames_after frames s.1).1))
    (sym (turn-gives end (turn end)) ∙ ap (given_step end) e)
    ∙ ap (λ o. Ok (line.Slot (frames_after frames o).1)) sends

numbered-last : {A : Type 0} (xs : List A) (x : A) →
    numbered (xs ++ x ∷ []) (length xs + 1) ≡ Some x
numbered-last xs x = ap (numbered (xs ++ x ∷ [])) (add-one (length xs)) ∙ slice_get-last xs x

deliver-next : (g : History) (direction : Direction) (number : ℕ) (mark : Mark) →
    numbered (frames_of g.world direction) number ≡ Some (marked_frame mark) →
    numbered (at_direction g.labels.sent direction) number ≡ Some mark →
    next g (Deliver direction number) ≡
    after g (came_world g.world direction (marked_frame mark)) (comes_if direction (Some mark))
unfolding next step deliver_step end_event end_step answered happening_in
deliver-next g direction number mark there marked = rw (there, marked) refl

-- the history after the end gave this, marked like this, and the frame came
abbrev pub come : History → Role → Given → Mark → History
come h role given mark =
    let g = slotted h role given in
    after g (came_world g.world (sent_direction role) (marked_frame mark))
    (comes_if (sent_direction role) (Some mark))

-- a slot of the end, and its frame delivered, lead to the history in which this frame came; what
-- every event keeps of a world holds before the frame comes, and after it
pub record IsDelivered (params : EndParams) (h : History) (role : Role) (given : Given)
    (mark : Mark) : Type 0 where
  pub same : slot_delivered h role ≡ come h role given mark
  pub sent_keeps : WorldKeeps params (slotted h role given)
  pub keeps : WorldKeeps params (come h role given mark)

-- so it is where the end gives this at its slot, marked as one frame
pub slot-comes : (params : EndParams) (h : History) (role : Role) (given : Given) (mark : Mark) →
    WorldKeeps params h → gives_of (end_of h.world role) ≡ given →
    marks_given h role given ≡ mark ∷ [] → IsDelivered params h role given mark
unfolding slot_delivered delivered after sent_after
slot-comes params h role given mark k e marks =
    record {
      same = ap (delivered (next h (Slot role)) direction)
          (slot-says h role given sends.0 e sends.1)
          ∙ ap (λ x. next x (Deliver direction number)) gone ∙ came;
      sent_keeps = kept;
      keeps = subst (WorldKeeps params) came
          (world-step params g (Deliver direction number) tt kept);
    }
  where
    direction : Direction
    direction = sent_direction role

    number : ℕ
    number = length (frames_of h.world direction) + 1

    g : History
    g = slotted h role given

    sends : (emitted : Emitted) × ((given_step (end_of h.world role) given).1 ≡ Some emitted)
    sends = given-sends h role given mark marks

    gone : next h (Slot role) ≡ g
    gone = slot-next h role ∙ ap (slotted h role) e

    kept : WorldKeeps params g
    kept = subst (WorldKeeps params) gone (world-step params h (Slot role) tt k)

    old : List Mark
    old = at_direction h.labels.sent direction

    sent : at_direction g.labels.sent direction ≡ old ++ mark ∷ []
    sent = at_direction-put_direction h.labels.sent direction _ ∙ ap (λ ms. old ++ ms) marks

    as_many : length (frames_of h.world direction) ≡ length old
    as_many = ap length (k.frames direction) ∙ length-map old marked_frame

    marked : numbered (at_direction g.labels.sent direction) number ≡ Some mark
    marked = ap (λ ms. numbered ms number) sent
        ∙ ap (λ n. numbered (old ++ mark ∷ []) (n + 1)) as_many ∙ numbered-last old mark

    there : numbered (frames_of g.world direction) number ≡ Some (marked_frame mark)
    there = look-up g direction number kept.frames ∙ ap (option_map marked_frame) marked

    came : next g (Deliver direction number) ≡ come h role given mark
    came = deliver-next g direction number mark there marked

-- A message of the end's key comes to the receiver of the key.

same_way-refl : (role : Role) → same_way (sent_direction role) (sent_direction role) ≡ true
same_way-refl Device = refl
same_way-refl Gateway = refl

-- a message by a key by which the end sends comes to the other end as a fragment, at the
-- receiver of the key
pub fragment-comes : (params : EndParams) (h : History) (role : Role) (given : Given)
    (id : SessionKey) (m : Msg) → IsLinkKey (sent_key role id) →
    WorldKeeps params (slotted h role given) →
    let g = slotted h role given in
    come h role given (MessageOf (sent_key role id) m) ≡
    after g (fragment_world g.world (sent_key role id) m) (Fragment (sent_key role id) m)
unfolding comes_if message_comes
fragment-comes params h role given id m link k =
    let g = slotted h role given in
    let key = sent_key role id in
    let to = taker (sent_direction role) in
    ap (λ b. after g (came_world g.world (sent_direction role) (marked_frame (MessageOf key m)))
    (message_comes key m b)) (same_way-refl role)
    ∙ ap (λ w. after g w (Fragment key m))
    (ap (with_end g.world to)
    (fragment-step (end_of g.world to) key m link (k.ends to).its_role
    (k.ends to).sessions.its_role))

-- An answer comes to the sender of the key.

other_way-false : (role : Role) → same_way (sent_direction role) (taken_direction role) ≡ false
other_way-false Device = refl
other_way-false Gateway = refl

answer-world : (params : EndParams) (g : History) (role : Role) (id : SessionKey) (m : Msg) →
    IsLinkKey (taken_key role id) → WorldKeeps params g →
    came_world g.world (sent_direction role) (marked_frame (MessageOf (taken_key role id) m)) ≡
    answer_world g.world (taken_key role id) m
answer-world params g Device id m link k =
    ap (with_end g.world Gateway)
    (answer-step (end_of g.world Gateway) (taken_key Device id) m link (k.ends Gateway).its_role
    (k.ends Gateway).sessions.its_role)
answer-world params g Gateway id m link k =
    ap (with_end g.world Device)
    (answer-step (end_of g.world Device) (taken_key Gateway id) m link (k.ends Device).its_role
    (k.ends Device).sessions.its_role)

-- a message by a key whose fragments the end takes comes to the other end as an answer, at the
-- session of the key
pub answer-comes : (params : EndParams) (h : History) (role : Role) (given : Given)
    (id : SessionKey) (m : Msg) → IsLinkKey (taken_key role id) →
    WorldKeeps params (slotted h role given) →
    let g = slotted h role given in
    come h role given (MessageOf (taken_key role id) m) ≡
    after g (answer_world g.world (taken_key role id) m) (Answer (taken_key role id) m)
unfolding comes_if message_comes
answer-comes params h role given id m link k =
    let g = slotted h role given in
    let key = taken_key role id in
    ap (λ b. after g (came_world g.world (sent_direction role) (marked_frame (MessageOf key m)))
    (message_comes key m b)) (other_way-false role)
    ∙ ap (λ w. after g w (Answer key m)) (answer-world params g role id m link k)
