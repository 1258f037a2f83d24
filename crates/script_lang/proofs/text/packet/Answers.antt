use Rattle.hex.proofs.HexLemmas.{decode_of-ok}
use Rattle.schc_bits.proofs.Octets.{AreBytes-from_each}
use Rattle.script_lang.proofs.text.packet.Goals as goal

pub returns-else-is_empty-clause-in_range : goal.returns-else-is_empty-clause-in_range
returns-else-is_empty-clause-in_range c =
    AreBytes-from_each c.in-Ok.bytes.items
    (decode_of-ok c.args.word.now c.in-Ok.bytes.items c.in-Ok.ensures.ok).3
