-- Which line an event can have.
use Rattle.schc_ids.specs.declared.faults.UnpackFault.TheVariants as unpacking
use Rattle.schc_ids.specs.declared.notes.Cause.TheVariants.{Unpack}
use Rattle.schc_ids.specs.declared.notes.Note.{Note}
use Rattle.schc_ids.specs.declared.notes.Note.TheVariants as note
use Rattle.event_data.specs.Events.{Event, Down, Slot, Deliver, Tick, Abort, Publish, Offer, Allow}
use Rattle.event_data.specs.declared.outcomes.DownFault.{DownFault}
use Rattle.event_data.specs.declared.outcomes.DownFault.TheVariants as down
use Rattle.event_data.specs.declared.outcomes.Line.{Line}
use Rattle.event_data.specs.declared.outcomes.Line.TheVariants as line

-- want of memory is no cause to refuse a frame
abbrev pub IsNote : Note → Type 0
IsNote (note.Refused (Unpack unpacking.Memory)) = ⊥
IsNote _ = Unit {0}

-- nor to refuse a packet that is handed down
abbrev pub IsRefusal : DownFault → Type 0
IsRefusal down.Memory = ⊥
IsRefusal _ = Unit {0}

-- the lines of a packet that is handed down: it waits, or is refused
abbrev pub IsHandLine : Line → Type 0
IsHandLine (line.Hand accepted) = Unit {0}
IsHandLine (line.HandRefused fault) = IsRefusal fault
IsHandLine _ = ⊥

-- the line of a slot
abbrev pub IsSlotLine : Line → Type 0
IsSlotLine (line.Slot emission) = Unit {0}
IsSlotLine _ = ⊥

-- the lines of a frame that arrives: what it meant, or that there is no such frame
abbrev pub IsDeliverLine : Line → Type 0
IsDeliverLine (line.Deliver taken) = IsNote taken.note
IsDeliverLine line.NoFrame = Unit {0}
IsDeliverLine _ = ⊥

-- the line of a tick
abbrev pub IsTickLine : Line → Type 0
IsTickLine (line.Tick device gateway) = Unit {0}
IsTickLine _ = ⊥

-- the line of a session that is given up
abbrev pub IsAbortLine : Line → Type 0
IsAbortLine (line.Abort report) = Unit {0}
IsAbortLine _ = ⊥

-- the lines of an edition that is published: its number, or the first finding
abbrev pub IsPublishLine : Line → Type 0
IsPublishLine (line.Published number) = Unit {0}
IsPublishLine (line.Refused finding) = Unit {0}
IsPublishLine _ = ⊥

-- the lines of an edition that is offered: what the end answers, or that there is no such edition
abbrev pub IsOfferLine : Line → Type 0
IsOfferLine (line.Offer answer) = Unit {0}
IsOfferLine line.NoEdition = Unit {0}
IsOfferLine _ = ⊥

-- the line of an edition that is allowed
abbrev pub IsAllowLine : Line → Type 0
IsAllowLine (line.Allow written) = Unit {0}
IsAllowLine _ = ⊥

-- the line tells of what happened, and not that there is no such frame or no such edition
abbrev pub HasHappened : Line → Type 0
HasHappened line.NoFrame = ⊥
HasHappened line.NoEdition = ⊥
HasHappened _ = Unit {0}

-- the event can have the line
abbrev pub IsLineOf : Event → Line → Type 0
IsLineOf (Down role packet) answer = IsHandLine answer
IsLineOf (Slot role) answer = IsSlotLine answer
IsLineOf (Deliver direction number) answer = IsDeliverLine answer
IsLineOf (Tick target) answer = IsTickLine answer
IsLineOf (Abort role) answer = IsAbortLine answer
IsLineOf (Publish edition) answer = IsPublishLine answer
IsLineOf (Offer role number) answer = IsOfferLine answer
IsLineOf (Allow role number) answer = IsAllowLine answer
