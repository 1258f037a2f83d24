use Rattle.std.proofs.Common.{arith, sym}
use Rattle.schc_bits.proofs.Octets.{AreBytes-from_each}
use Rattle.coap_fields.proofs.MadeLemmas.{made-fields, made-payload, made-bytes}
use Rattle.coap_fields.proofs.joining.join.Goals as goal

pub returns-in-Ok-clause-fields : goal.returns-in-Ok-clause-fields
returns-in-Ok-clause-fields c =
    rw (c.in-Ok.ensures, c.as_slice-listed.ensures)
    (made-fields c.args.fields.now.items c.args.payload.now
    (AreBytes-from_each c.args.payload.now (λ k. omega (arith, c.type_inv.payload k)))
    (rw c.as_slice-listed.ensures at (sym c.in-None.ensures)))

pub returns-in-Ok-clause-payload : goal.returns-in-Ok-clause-payload
returns-in-Ok-clause-payload c =
    rw c.in-Ok.ensures (made-payload c.as_slice-listed.result.now c.args.payload.now)

pub returns-in-Ok-clause-bytes : goal.returns-in-Ok-clause-bytes
returns-in-Ok-clause-bytes c =
    rw c.in-Ok.ensures
    (made-bytes c.as_slice-listed.result.now c.args.payload.now
    (AreBytes-from_each c.args.payload.now (λ k. omega (arith, c.type_inv.payload k)))
    (sym c.in-None.ensures))
