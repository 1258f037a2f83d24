use Rattle.std.proofs.Common.{ℕ, List, arith, ap, length, []}
use Rattle.coap_fields.proofs.JoinLemmas.{made, kind-below}
use Rattle.coap_fields.proofs.writing.written.Goals as goal

pub byte_in-kind-requires : goal.byte_in-kind-requires
byte_in-kind-requires c = omega (arith, (made c.args.fields.now [] c.requires).kind_width)

pub byte_in-code-requires : goal.byte_in-code-requires
byte_in-code-requires c = omega (arith, (made c.args.fields.now [] c.requires).code_width)

pub two_bytes_in-id-requires : goal.two_bytes_in-id-requires
two_bytes_in-id-requires c = omega (arith, (made c.args.fields.now [] c.requires).id_width)

pub overflow_cast-len : goal.overflow_cast-len
overflow_cast-len c =
    omega (
      arith,
      c.len.ensures,
      ap (λ (bytes : List ℕ). length bytes) c.in_ok-token.ensures,
      (made c.args.fields.now [] c.requires).most,
    )

pub header-requires-clause-kind : goal.header-requires-clause-kind
header-requires-clause-kind c =
    omega (arith, c.byte_in-kind.ensures, kind-below c.args.fields.now c.requires)

pub header-requires-clause-tkl : goal.header-requires-clause-tkl
header-requires-clause-tkl c =
    omega (
      arith,
      c.len.ensures,
      ap (λ (bytes : List ℕ). length bytes) c.in_ok-token.ensures,
      (made c.args.fields.now [] c.requires).most,
    )

pub put_options-requires : goal.put_options-requires
put_options-requires c = (made c.args.fields.now [] c.requires).writable
