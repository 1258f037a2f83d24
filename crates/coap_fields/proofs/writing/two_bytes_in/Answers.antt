use Rattle.std.proofs.Common.{arith}
use Rattle.coap_fields.specs.Join.{value_of}
use Rattle.coap_fields.proofs.WriteLemmas.{fits-below}
use Rattle.coap_fields.proofs.writing.two_bytes_in.Goals as goal

pub overflow_cast-result : goal.overflow_cast-result
overflow_cast-result c =
    omega (
      arith,
      c.number_in.ensures,
      fits-below (value_of c.args.fields.now c.args.name) 16
          c.requires,
    )
