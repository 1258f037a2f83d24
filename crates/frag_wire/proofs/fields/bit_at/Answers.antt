use Rattle.frag_wire.proofs.FieldsLemmas.{get_or-octets}
use Rattle.frag_wire.proofs.fields.bit_at.Goals as goal

pub returns : goal.returns
returns c = get_or-octets _ _ c.requires
