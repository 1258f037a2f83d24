-- RFC 8724, section 8.4.2: the bytes that a receiver in the ACK-Always mode takes.
use Rattle.std.specs.Prelude.{ℕ, List}
use Rattle.schc_ids.specs.Fragments.{params_of}
use Rattle.schc_ids.specs.declared.fragments.FragMode.TheVariants as mode
use Rattle.schc_ids.specs.declared.fragments.Side.TheVariants as side
use Rattle.frag_wire.specs.Fragments.{payload_of}
use Rattle.frag_wire.specs.Spells.{Spells}
use Rattle.frag_wire.specs.declared.message.Message.{Message}

-- the bytes are this message of a sender
abbrev pub IsFragment : Message → List ℕ → Type 0
IsFragment message bytes =
    Spells (params_of mode.AckAlways) side.Fragments message (payload_of message bytes) bytes
