use Rattle.std.proofs.Common.{arith}
use Rattle.schc_bits.proofs.Octets.{AreBytes-from_each}
use Rattle.coap_fields.proofs.StopLemmas.{refusal-stops}
use Rattle.coap_fields.proofs.splitting.split_onto.Goals as goal

pub returns-in-Err-clause-stops : goal.returns-in-Err-clause-stops
returns-in-Err-clause-stops c =
    refusal-stops c.args.message.now c.in-Err.fault
    (AreBytes-from_each c.args.message.now (λ k. omega (arith, c.type_inv.message k)))
    c.in-Err.ensures.refused
