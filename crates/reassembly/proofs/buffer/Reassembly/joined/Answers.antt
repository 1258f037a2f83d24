use Rattle.std.proofs.Common.{◌++◌, length, take, drop, arith, ap, ◌∙◌}
use Rattle.schc_bits.proofs.Octets.{length-octets}
use Rattle.reassembly.proofs.KeptLemmas.{kept-copied}
use Rattle.reassembly.proofs.buffer.Reassembly.joined.Goals as goal

pub after-requires : goal.after-requires
after-requires c =
    let size = ap length (c.as_part.ensures ∙ c.in_ok-part.ensures) in
    omega (arith, size, length-octets c.args.bytes.now, c.requires.within)

pub returns : goal.returns
returns c =
    let kept =
    kept-copied c.args.self.now c.self.inside.buffer.items c.split_at.result.0.now
    c.self.inside.count c.div_ceil.result (omega (arith, c.div_ceil.ensures))
    (c.split_at.ensures.front
    ∙ ap (λ bytes. take c.div_ceil.result bytes) c.deref.ensures.value) c.self.view_is in
    let front = c.truncate.ensures ∙ ap (λ bits. take c.self.inside.count bits) c.in_ok-bits.ensures
    ∙ kept in
    let back = c.after.ensures
    ∙ ap (λ bits. drop c.args.from bits) (c.as_part.ensures ∙ c.in_ok-part.ensures) in
    c.in_ok-extend_from_part.ensures.ok ∙ ap (λ bits. bits ++ c.after.result) front
    ∙ ap (λ bits. c.args.self.now ++ bits) back
