use Rattle.std.proofs.Common.{sym, arith}
use Rattle.schc_bits.specs.Bits.{padded}
use Rattle.schc_bits.proofs.Octets.{AreBytes-from_each}
use Rattle.ip_udp_fields.specs.Join.{header_bits}
use Rattle.ip_udp_fields.proofs.JoinLemmas.{joined-fields, joined-payload, joined-bytes}
use Rattle.ip_udp_fields.proofs.joining.join.Goals as goal

pub returns-in-Ok-clause-fields : goal.returns-in-Ok-clause-fields
returns-in-Ok-clause-fields c =
    rw (c.in-Ok.ensures, c.as_slice-listed.ensures)
    (joined-fields c.args.stack c.args.direction c.args.fields.now.items c.args.payload.now
    c.requires (rw c.as_slice-listed.ensures at (sym c.in-None.ensures)))

pub returns-in-Ok-clause-payload : goal.returns-in-Ok-clause-payload
returns-in-Ok-clause-payload c =
    rw (c.in-Ok.ensures, c.as_slice-listed.ensures)
    (joined-payload c.args.stack c.args.direction c.args.fields.now.items c.args.payload.now
    c.requires (rw c.as_slice-listed.ensures at (sym c.in-None.ensures)))

pub returns-in-Ok-clause-bytes : goal.returns-in-Ok-clause-bytes
returns-in-Ok-clause-bytes c =
    rw c.in-Ok.ensures
    (joined-bytes (padded (header_bits c.args.stack c.args.direction c.as_slice-listed.result.now))
    c.args.payload.now
    (AreBytes-from_each c.args.payload.now (λ k. omega (arith, c.type_inv.payload k))))
