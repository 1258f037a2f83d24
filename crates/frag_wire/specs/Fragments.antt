-- RFC 8724, sections 8.4.1 and 8.4.2: what receivers in the No-ACK and the ACK-Always mode take.
use Rattle.std.specs.Prelude.{ℕ, Bool, List, drop}
use Rattle.schc_bits.specs.Bits.{octets}
use Rattle.frag_wire.specs.Layouts.{payload_in}
use Rattle.frag_wire.specs.declared.message.Message.{Message}
use Rattle.frag_wire.specs.declared.message.Message.TheVariants as form

-- the payload of the message that these bytes are
abbrev pub payload_of : Message → List ℕ → List Bool
payload_of message bytes = payload_in message (octets bytes)

-- the bits of the bytes from this one on
abbrev pub bits_from : ℕ → List ℕ → List Bool
bits_from from bytes = drop from (octets bytes)

-- in these modes the check is made at an All-1 alone
abbrev pub MayJoin : Message → Type 0
MayJoin (form.Regular w fcn from) = ⊥
MayJoin (form.All1 w rcs from) = Unit {0}
MayJoin (form.Ack w c bitmap) = ⊥
MayJoin (form.AckReq w) = ⊥
MayJoin form.SenderAbort = ⊥
MayJoin form.ReceiverAbort = ⊥
