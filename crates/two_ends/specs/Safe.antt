-- The headline: what is handed up was handed down.
use Rattle.std.specs.Prelude.{◌≡◌, ℕ, ◌<◌, Bool, List, length, take, Option, Some, None, IsSomeAnd}
use Rattle.std.specs.Prelude.{slice_get}
use Rattle.std.specs.List.{AllByRecursion}
use Rattle.schc_bits.specs.Bits.{AreBytes}
use Rattle.schc_ids.specs.declared.ends.EndParams.{EndParams}
use Rattle.schc_ids.specs.declared.ends.Iids.{Iids}
use Rattle.editions.specs.Data.{EditionData}
use Rattle.editions.specs.Chains.{IsChain}
use Rattle.packer.specs.Schc.{IsChosen}
use Rattle.packer.specs.Laws.{IsSound, RestoresUnder, AgreeOn}
use Rattle.event_data.specs.Events.{Event}
use Rattle.two_ends.specs.Fits.{Fits}
use Rattle.two_ends.specs.Labels.{Label, Whole, Session}
use Rattle.two_ends.specs.Logs.{HandedDown, HandedUp, Began, Logs}
use Rattle.two_ends.specs.Fresh.{IsHonest, IsFresh, IsEarned}
use Rattle.two_ends.specs.History.{History, start, run}

-- The packet that was handed up is this one that was handed down: earlier, and in the same
-- direction. It was written with an edition of the chain, under the RuleID that is chosen there, in
-- as many bits as were said. It was read under that RuleID with an edition of the chain that has
-- the same rule there, if it is a rule's. And it is the packet that the other end restores under
-- that rule: the packet itself, but for the fields that the rule drops. Both packets are bytes, so
-- that there is one such packet.
pub record IsHandedDownAs (chain : List EditionData) (iids : Iids) (up : HandedUp)
    (down : HandedDown) : Type 0 where
  pub earlier : down.place < up.place
  pub same_direction : down.direction ≡ up.direction
  pub writer : EditionData
  pub written_with : slice_get chain down.accepted.edition ≡ Some writer
  pub bits : List Bool
  pub chosen : IsChosen writer iids down.direction down.packet down.accepted.rule_id bits
  pub size : length bits ≡ down.accepted.bits
  pub reader : EditionData
  pub read_with : slice_get chain up.edition ≡ Some reader
  pub same_rule_id : up.rule_id ≡ down.accepted.rule_id
  pub same_rule : AgreeOn writer reader up.rule_id
  pub same_packet : RestoresUnder writer down.direction up.rule_id down.packet up.packet
  pub bytes_down : AreBytes down.packet
  pub bytes_up : AreBytes up.packet

-- the packet that a label leads to: that of the whole frame, or that which the session carries
abbrev pub carried_down : List HandedDown → Option Began → Option HandedDown
carried_down downs None = None
carried_down downs (Some began) = slice_get downs began.down

abbrev pub down_of : Logs → Label → Option HandedDown
down_of logs (Whole place) = slice_get logs.downs place
down_of logs (Session place) = carried_down logs.downs (slice_get logs.begins place)

abbrev pub labelled_down : Logs → Option Label → Option HandedDown
labelled_down logs None = None
labelled_down logs (Some label) = down_of logs label

-- the packet that was handed up is the one that was handed down to which its label leads
abbrev pub IsLed : Iids → History → HandedUp → Type 0
IsLed iids h up = IsSomeAnd (labelled_down h.logs up.label) (IsHandedDownAs h.world.chain iids up)

-- its frame carried it whole
abbrev pub IsWhole : HandedUp → Type 0
IsWhole up = (place : ℕ) × (up.label ≡ Some (Whole place))

-- the editions of the world are one chain, each with rules that are admitted and in ascending order
-- of RuleID, and with them each packet that was handed up is one that was handed down
pub record IsSafe (iids : Iids) (h : History) : Type 0 where
  pub one_chain : IsChain h.world.chain
  pub sound : AllByRecursion IsSound h.world.chain
  pub handed_down : AllByRecursion (IsLed iids h) h.logs.ups

-- The headline, in one world after its events: the editions are one chain of sound ones; each
-- packet that was handed up from a whole frame is one that was handed down; where no wrong assembly
-- has the RCS of a session, so is each; and in fresh runs a session is reported delivered only
-- after it was put together
pub record IsHeadline (params : EndParams) (events : List Event) (h : History) : Type 0 where
  pub one_chain : IsChain h.world.chain
  pub sound : AllByRecursion IsSound h.world.chain
  pub whole : AllByRecursion (λ up. IsWhole up → IsLed params.iids h up) h.logs.ups
  pub safe : IsHonest params h → IsSafe params.iids h
  pub earned : IsHonest params h → IsFresh params events → IsEarned params h

-- so it is after every list of events, whatever was lost, repeated or reordered on the link,
-- whatever timers ran out or was given up, and whatever was published, offered and allowed. Each
-- front of a list is a list, so it is so after each event
abbrev pub Headline : Type 0
Headline = (params : EndParams) (events : List Event) → Fits params events
    → IsHeadline params events (run events (start params))

-- so it is after each of these events, where they fit
abbrev pub AlwaysSafe : EndParams → List Event → Type 0
AlwaysSafe params events =
    Fits params events → (n : ℕ)
    → IsHeadline params (take n events) (run (take n events) (start params))
