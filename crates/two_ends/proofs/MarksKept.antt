-- Every event keeps that each frame carries a packet that was handed down, as it was written then,
-- or is a message of a session of an end, and that each session carries such a packet.
use Rattle.std.proofs.Common.{◌≡◌, ℕ, suc, ◌+◌, ◌<◌, Bool, List, [], ◌∷◌, ◌++◌, length, Some}
use Rattle.std.proofs.Common.{IsSomeAnd, slice_get, refl, sym, subst, ◌∙◌, arith}
use Rattle.std.specs.List.{AllByRecursion}
use Rattle.std.proofs.lemmas.List.{append-nil}
use Rattle.schc_bits.proofs.ListLemmas.{all-append, all-weaken}
use Rattle.schc_ids.specs.Ends.{sent_direction}
use Rattle.schc_ids.specs.PerDirection.{PerDirection, at_direction}
use Rattle.schc_ids.specs.PerRole.{at_role}
use Rattle.schc_ids.specs.declared.ends.Direction.{Direction}
use Rattle.schc_ids.specs.declared.ends.Direction.TheVariants as way
use Rattle.schc_ids.specs.declared.ends.EndParams.{EndParams}
use Rattle.schc_ids.specs.declared.ends.Iids.{Iids}
use Rattle.schc_ids.specs.declared.ends.Role.{Role}
use Rattle.schc_ids.specs.declared.ends.Role.TheVariants.{Device, Gateway}
use Rattle.packer.specs.declared.packing.Packed.{Packed}
use Rattle.event_data.specs.Records.{FrameData}
use Rattle.event_data.specs.Events.{Event, Down, Slot, Deliver, Tick, Abort, Publish, Offer, Allow}
use Rattle.sessions.specs.Data.{out_key, in_key}
use Rattle.sessions.specs.Keys.{SessionKey}
use Rattle.end_core.specs.End.{frame_of}
use Rattle.two_ends.specs.Happening.{Given, Answers, Goes, Opens, Carries, NoFrame, Gives}
use Rattle.two_ends.specs.History.{History, happening, sent_after, begins_after, begun_at}
use Rattle.two_ends.specs.History.{begins_given, marks_given, start, after, next}
use Rattle.two_ends.specs.Keys.{Key, sent_key, taken_key}
use Rattle.two_ends.specs.Labels.{Mark, WholeFrame, MessageOf, first_place}
use Rattle.two_ends.specs.Logs.{HandedDown, Began}
use Rattle.two_ends.specs.World.{end_of, sender}
use Rattle.two_ends.proofs.EndsKept.{EndsKept}
use Rattle.two_ends.proofs.GivenLemmas.{IsGiven, given-is}
use Rattle.two_ends.proofs.GrownLemmas.{Grown, grown}
use Rattle.two_ends.proofs.LedLemmas.{led-first_place, some-moved}
use Rattle.two_ends.proofs.PerLemmas.{each-put_direction}
use Rattle.two_ends.proofs.QueuesKept.{IsFormOf, QueuesKept, form-later}
use Rattle.two_ends.proofs.WorldLemmas.{IsNoSlot, event-gives, sent-same, begins-same, given_world}
use Rattle.two_ends.proofs.WorldLemmas.{gives_at, slot-next}

-- the frame carries whole a packet that was handed down
pub record IsFrameOf (iids : Iids) (h : History) (direction : Direction) (frame : FrameData)
    (w : HandedDown) : Type 0 where
  pub form : Packed
  pub carries : IsFormOf iids h direction form w
  pub is_frame : frame ≡ frame_of form

-- the key is one of those of the ends
abbrev pub IsLinkKey : Key → Type 0
IsLinkKey key = (acked : Bool) × (key.id ≡ out_key (sender key.way) acked)

-- what the mark says is so: the frame carries whole the packet of this place, or the message's key
-- is one of those of the ends
abbrev pub IsMarked : Iids → History → Direction → Mark → Type 0
IsMarked iids h direction (WholeFrame place frame) =
    IsSomeAnd (slice_get h.logs.downs place) (IsFrameOf iids h direction frame)
IsMarked iids h direction (MessageOf key m) = IsLinkKey key

-- what the mark says is so for all frames that were sent, in each direction
abbrev pub MarksKeep : Iids → History → PerDirection (List Mark) → Type 0
MarksKeep iids h sent = (direction : Direction)
    → AllByRecursion (IsMarked iids h direction) (at_direction sent direction)

-- the session carries a packet that was handed down before
pub record IsBegunOf (iids : Iids) (h : History) (b : Began) (w : HandedDown) : Type 0 where
  pub form : Packed
  pub carries : IsFormOf iids h b.key.way form w
  pub its_bits : b.it.bits ≡ form.bits
  pub before : w.place < b.it.time

-- a session that began has a key of the ends, carries a packet that was handed down before it, and
-- began before now
pub record IsBegun (iids : Iids) (h : History) (b : Began) : Type 0 where
  pub link : IsLinkKey b.key
  pub leads : IsSomeAnd (slice_get h.logs.downs b.down) (IsBegunOf iids h b)
  pub past : b.it.time < h.place

-- each session's place is its place in the list
abbrev pub ArePlaced : ℕ → List Began → Type 0
ArePlaced k [] = Unit {0}
ArePlaced k (b ∷ begins) = (b.it.place ≡ k) × ArePlaced (suc k) begins

pub record BeginsKeep (iids : Iids) (h : History) (begins : List Began) : Type 0 where
  pub each : AllByRecursion (IsBegun iids h) begins
  pub placed : ArePlaced 0 begins

-- what the marks say is so for all frames that were sent, and each session that began is such a
-- one, at its own place in the log
pub record MarksKept (iids : Iids) (h : History) : Type 0 where
  pub marks : MarksKeep iids h h.labels.sent
  pub begins : BeginsKeep iids h h.logs.begins

-- It stays so.

frame-later : (iids : Iids) (h new : History) (direction : Direction) → Grown h new
    → (frame : FrameData) (w : HandedDown) → IsFrameOf iids h direction frame w
    → IsFrameOf iids new direction frame w
frame-later iids h new direction g frame w f =
    record {
      form = f.form;
      carries =
          form-later iids h new direction g f.form w f.carries;
      is_frame = f.is_frame;
    }

mark-later : (iids : Iids) (h new : History) (direction : Direction) → Grown h new → (mark : Mark)
    → IsMarked iids h direction mark → IsMarked iids new direction mark
mark-later iids h new direction g (WholeFrame place frame) k =
    some-moved (slice_get h.logs.downs place) (slice_get new.logs.downs place)
    (IsFrameOf iids h direction frame) (IsFrameOf iids new direction frame) (g.leads place)
    (frame-later iids h new direction g frame) k
mark-later iids h new direction g (MessageOf key m) k = k

marks-later : (iids : Iids) (h new : History) → Grown h new → MarksKeep iids h h.labels.sent
    → MarksKeep iids new h.labels.sent
marks-later iids h new g k =
    λ direction. all-weaken (IsMarked iids h direction) (IsMarked iids new direction)
    (at_direction h.labels.sent direction) (mark-later iids h new direction g) (k direction)

begun-of-later : (iids : Iids) (h new : History) → Grown h new → (b : Began) (w : HandedDown)
    → IsBegunOf iids h b w → IsBegunOf iids new b w
begun-of-later iids h new g b w s =
    record {
      form = s.form;
      carries =
          form-later iids h new b.key.way g s.form w s.carries;
      its_bits = s.its_bits;
      before =
          s.before;
    }

begun-later : (iids : Iids) (h new : History) → Grown h new → (b : Began) → IsBegun iids h b
    → IsBegun iids new b
begun-later iids h new g b k =
    record {
      link = k.link;
      leads = some-moved (slice_get h.logs.downs b.down) (slice_get new.logs.downs b.down)
          (IsBegunOf iids h b) (IsBegunOf iids new b) (g.leads b.down)
          (begun-of-later iids h new g b) k.leads;
      past = let old = k.past in rw g.later (omega (arith, old));
    }

begins-later : (iids : Iids) (h new : History) → Grown h new → BeginsKeep iids h h.logs.begins
    → BeginsKeep iids new h.logs.begins
begins-later iids h new g k =
    record {
      each =
          all-weaken (IsBegun iids h) (IsBegun iids new) h.logs.begins (begun-later iids h new g)
          k.each;
      placed = k.placed;
    }

-- A slot.

-- a key by which an end sends, with answers or without, is one of those of the ends
pub own-link : (role : Role) (id : SessionKey) (acked : Bool) → id ≡ out_key role acked
    → IsLinkKey (sent_key role id)
own-link Device id acked e = (acked, e)
own-link Gateway id acked e = (acked, e)

-- a key by which an end takes fragments, with answers or without, is one of those of the ends
pub in-link : (role : Role) (id : SessionKey) (acked : Bool) → id ≡ in_key role acked
    → IsLinkKey (taken_key role id)
in-link Device id acked e = (acked, e)
in-link Gateway id acked e = (acked, e)

form-leads : (iids : Iids) (h new : History) (role : Role) (form : Packed) → Grown h new
    → QueuesKept iids h → slice_get (end_of h.world role).queue 0 ≡ Some form
    → (R : HandedDown → Type 0)
    → ((w : HandedDown) → IsFormOf iids h (sent_direction role) form w → R w)
    → IsSomeAnd (slice_get new.logs.downs (first_place (at_role h.labels.queued role))) R
form-leads iids h new role form g queues first R f =
    let place = first_place (at_role h.labels.queued role) in
    some-moved (slice_get h.logs.downs place) (slice_get new.logs.downs place)
    (IsFormOf iids h (sent_direction role) form) R (g.leads place) f
    (led-first_place (IsFormOf iids h (sent_direction role)) (slice_get h.logs.downs)
    (end_of h.world role).queue (at_role h.labels.queued role) form first (queues role))

given-marked : (params : EndParams) (h new : History) (role : Role) (given : Given) → Grown h new
    → QueuesKept params.iids h → IsGiven role params (end_of h.world role) given
    → AllByRecursion (IsMarked params.iids new (sent_direction role)) (marks_given h role given)
unfolding marks_given
given-marked params h new role (Answers id reception bytes) g queues is =
    (in-link role id is.0 is.1, tt)
given-marked params h new role (Goes id session bytes) g queues is =
    (own-link role id params.acked is.0, tt)
given-marked params h new role (Opens id session form bytes) g queues is =
    (own-link role id params.acked is.own, tt)
given-marked params h new role (Carries form) g queues is = (
  form-leads params.iids h new role form g queues is
      (IsFrameOf params.iids new (sent_direction role) (frame_of form))
      (λ w c. record {
        form = form;
        carries =
            form-later params.iids h new (sent_direction role) g form w c;
        is_frame = refl;
      }),
  tt,
)
given-marked params h new role NoFrame g queues is = tt

given-begun : (params : EndParams) (h new : History) (role : Role) (given : Given) → Grown h new
    → QueuesKept params.iids h → IsGiven role params (end_of h.world role) given
    → AllByRecursion (IsBegun params.iids new) (begins_given h role given)
unfolding begins_given
given-begun params h new role (Answers id reception bytes) g queues is = tt
given-begun params h new role (Goes id session bytes) g queues is = tt
given-begun params h new role (Opens id session form bytes) g queues is = (
  record {
    link = own-link role id params.acked is.own;
    leads =
        form-leads params.iids h new role form g queues is.is_first _
        (λ w c. record {
          form = form;
          carries =
              form-later params.iids h new (sent_direction role) g form w c;
          its_bits = refl;
          before =
              c.earlier;
        });
    past = rw g.later (omega arith);
  },
  tt,
)
given-begun params h new role (Carries form) g queues is = tt
given-begun params h new role NoFrame g queues is = tt

placed-push : (k : ℕ) (begins : List Began) (b : Began) → ArePlaced k begins
    → b.it.place ≡ k + length begins → ArePlaced k (begins ++ b ∷ [])
placed-push k [] b all e = (e ∙ omega arith, tt)
placed-push k (c ∷ begins) b all e = (all.0, placed-push (suc k) begins b all.1 (e ∙ omega arith))

given-placed : (h : History) (role : Role) (given : Given) → ArePlaced 0 h.logs.begins
    → ArePlaced 0 (h.logs.begins ++ begins_given h role given)
unfolding begins_given
given-placed h role (Answers id reception bytes) all = rw (append-nil h.logs.begins) all
given-placed h role (Goes id session bytes) all = rw (append-nil h.logs.begins) all
given-placed h role (Opens id session form bytes) all =
    placed-push 0 h.logs.begins
    (record {
      key = sent_key role id;
      it = begun_at h session form;
      down =
          first_place (at_role h.labels.queued role);
    }) all (omega arith)
given-placed h role (Carries form) all = rw (append-nil h.logs.begins) all
given-placed h role NoFrame all = rw (append-nil h.logs.begins) all

slot-keeps : (params : EndParams) (h : History) (role : Role) (given : Given) →
    let new = after h (given_world h.world role given) (Gives role given) in
    Grown h new → QueuesKept params.iids h → IsGiven role params (end_of h.world role) given
    → MarksKept params.iids h → MarksKept params.iids new
unfolding after sent_after begins_after
slot-keeps params h role given g queues is k =
    let new = after h (given_world h.world role given) (Gives role given) in
    let direction = sent_direction role in
    let later = marks-later params.iids h new g k.marks in
    let begins = begins-later params.iids h new g k.begins in
    record {
      marks =
          each-put_direction (λ d ms. AllByRecursion (IsMarked params.iids new d) ms) h.labels.sent
          direction (at_direction h.labels.sent direction ++ marks_given h role given)
          (all-append (IsMarked params.iids new direction) (at_direction h.labels.sent direction)
          (marks_given h role given) (later direction)
          (given-marked params h new role given g queues is)) later;
      begins = record {
        each = all-append (IsBegun params.iids new) h.logs.begins (begins_given h role given)
            begins.each (given-begun params h new role given g queues is);
        placed = given-placed h role given begins.placed;
      };
    }

other-keeps : (iids : Iids) (h : History) (event : Event) → IsNoSlot event → MarksKept iids h
    → MarksKept iids (next h event)
unfolding next after
other-keeps iids h event n k =
    let new = next h event in
    let gives = event-gives h event n in
    record {
      marks = subst (MarksKeep iids new) (sym (sent-same h (happening h event) gives))
          (marks-later iids h new (grown h event) k.marks);
      begins =
          subst (BeginsKeep iids new) (sym (begins-same h (happening h event) gives))
          (begins-later iids h new (grown h event) k.begins);
    }

-- it holds at the beginning
pub marks-start : (params : EndParams) → MarksKept params.iids (start params)
marks-start params =
    record {
      marks = λ direction. elim direction as
          (λ d. AllByRecursion (IsMarked params.iids (start params) d)
          (at_direction (start params).labels.sent d)) [ way.Up ↦ tt | way.Down ↦ tt ];
      begins = record { each = tt; placed = tt };
    }

-- every event keeps it
pub marks-step : (params : EndParams) (h : History) (event : Event) → EndsKept params h.world
    → QueuesKept params.iids h → MarksKept params.iids h → MarksKept params.iids (next h event)
marks-step params h (Slot role) ends queues k =
    subst (MarksKept params.iids) (sym (slot-next h role))
    (slot-keeps params h role (gives_at h role)
    (subst (Grown h) (slot-next h role) (grown h (Slot role))) queues
    (given-is role params (end_of h.world role) (ends role).sessions) k)
marks-step params h (Down role packet) ends queues k =
    other-keeps params.iids h (Down role packet) tt k
marks-step params h (Deliver direction number) ends queues k =
    other-keeps params.iids h (Deliver direction number) tt k
marks-step params h (Tick target) ends queues k = other-keeps params.iids h (Tick target) tt k
marks-step params h (Abort role) ends queues k = other-keeps params.iids h (Abort role) tt k
marks-step params h (Publish raw) ends queues k = other-keeps params.iids h (Publish raw) tt k
marks-step params h (Offer role number) ends queues k =
    other-keeps params.iids h (Offer role number) tt k
marks-step params h (Allow role number) ends queues k =
    other-keeps params.iids h (Allow role number) tt k
