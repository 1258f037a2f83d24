-- RFC 8724, sections 8.3 and 8.4: the messages of the three modes.
use Rattle.std.specs.Prelude.{ℕ, ◌<◌, Bool, List, Result, Err}
use Rattle.schc_ids.specs.declared.faults.WireFault.{WireFault}
use Rattle.schc_ids.specs.declared.faults.WireFault.TheVariants.{WrongForm}
use Rattle.schc_ids.specs.declared.fragments.FragMode.{FragMode}
use Rattle.schc_ids.specs.declared.fragments.FragMode.TheVariants as mode
use Rattle.schc_ids.specs.declared.fragments.FragParams.{FragParams}
use Rattle.schc_ids.specs.declared.fragments.Side.{Side}
use Rattle.schc_ids.specs.declared.fragments.Side.TheVariants as side
use Rattle.frag_wire.specs.declared.message.Message.{Message}
use Rattle.frag_wire.specs.AckAlways.{SpellsAckAlways, IsAckAlwaysFault, ack_always_reading}
use Rattle.frag_wire.specs.AckAlways.{CanSpellAckAlways}
use Rattle.frag_wire.specs.AckOnError.{SpellsAckOnError, IsAckOnErrorFault, ack_on_error_reading}
use Rattle.frag_wire.specs.AckOnError.{CanSpellAckOnError}
use Rattle.frag_wire.specs.Answers.{SpellsAnswer, IsAnswerFault, answer_reading, CanSpellAnswer}
use Rattle.frag_wire.specs.NoAck.{SpellsNoAck, IsNoAckFault, no_ack_reading, CanSpellNoAck}
use Rattle.frag_wire.specs.Layouts.{placed, with_padding}

-- the mode has messages of this side: in No-ACK nothing is answered
abbrev pub HasSide : FragMode → Side → Type 0
HasSide mode.NoAck side.Fragments = Unit {0}
HasSide mode.NoAck side.Answers = ⊥
HasSide mode.AckAlways way = Unit {0}
HasSide mode.AckOnError way = Unit {0}

-- answers of ACK-Always have one byte, those of ACK-on-Error at most nine: W and C, and a bitmap of
-- a window
abbrev pub SpellsIn : FragMode → Side → Message → List Bool → List ℕ → Type 0
SpellsIn mode.NoAck side.Fragments message payload bytes = SpellsNoAck message payload bytes
SpellsIn mode.NoAck side.Answers message payload bytes = ⊥
SpellsIn mode.AckAlways side.Fragments message payload bytes = SpellsAckAlways message payload bytes
SpellsIn mode.AckAlways side.Answers message payload bytes =
    SpellsAnswer 1 1 1 message payload bytes
SpellsIn mode.AckOnError side.Fragments message payload bytes =
    SpellsAckOnError message payload bytes
SpellsIn mode.AckOnError side.Answers message payload bytes =
    SpellsAnswer 2 63 9 message payload bytes

-- the bytes are the message with the payload
abbrev pub Spells : FragParams → Side → Message → List Bool → List ℕ → Type 0
Spells params way message payload bytes = SpellsIn params.mode way message payload bytes

abbrev pub IsFaultIn : FragMode → Side → List ℕ → WireFault → Type 0
IsFaultIn mode.NoAck side.Fragments bytes fault = IsNoAckFault fault bytes
IsFaultIn mode.NoAck side.Answers bytes fault = ⊥
IsFaultIn mode.AckAlways side.Fragments bytes fault = IsAckAlwaysFault fault bytes
IsFaultIn mode.AckAlways side.Answers bytes fault = IsAnswerFault 1 1 fault bytes
IsFaultIn mode.AckOnError side.Fragments bytes fault = IsAckOnErrorFault fault bytes
IsFaultIn mode.AckOnError side.Answers bytes fault = IsAnswerFault 2 9 fault bytes

-- the bytes are no message, for this cause
abbrev pub IsWireFault : FragParams → Side → List ℕ → WireFault → Type 0
IsWireFault params way bytes fault = IsFaultIn params.mode way bytes fault

-- what the bytes are, read from the first byte on
abbrev pub reading_in : FragMode → Side → List ℕ → Result Message WireFault
reading_in mode.NoAck side.Fragments bytes = no_ack_reading bytes
reading_in mode.NoAck side.Answers bytes = Err WrongForm
reading_in mode.AckAlways side.Fragments bytes = ack_always_reading bytes
reading_in mode.AckAlways side.Answers bytes = answer_reading 1 1 1 bytes
reading_in mode.AckOnError side.Fragments bytes = ack_on_error_reading bytes
reading_in mode.AckOnError side.Answers bytes = answer_reading 2 63 9 bytes

abbrev pub CanSpellIn : FragMode → Side → Message → List Bool → Type 0
CanSpellIn mode.NoAck side.Fragments message payload = CanSpellNoAck message payload
CanSpellIn mode.NoAck side.Answers message payload = ⊥
CanSpellIn mode.AckAlways side.Fragments message payload = CanSpellAckAlways message payload
CanSpellIn mode.AckAlways side.Answers message payload = CanSpellAnswer 1 1 message payload
CanSpellIn mode.AckOnError side.Fragments message payload = CanSpellAckOnError message payload
CanSpellIn mode.AckOnError side.Answers message payload = CanSpellAnswer 2 63 message payload

-- some bytes are the message with the payload and fewer than eight zero bits after it
abbrev pub CanSpell : FragParams → Side → Message → List Bool → Type 0
CanSpell params way message payload = CanSpellIn params.mode way message payload

-- the bytes are the message with the payload and fewer than eight zero bits after it
pub record IsWritten (params : FragParams) (way : Side) (message : Message) (payload : List Bool)
    (bytes : List ℕ) : Type 0 where
  pub padding : ℕ
  pub short : padding < 8
  pub spells : Spells params way (placed params message) (with_padding message payload padding)
      bytes
