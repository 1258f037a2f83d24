use Rattle.std.proofs.Common.{rules, ◌≡◌, ◌/◌, ◌%◌, ◌<◌, ◌++◌, length, take, arith, ap, sym, ◌∙◌}
use Rattle.schc_bits.specs.Bits.{number_bits}
use Rattle.reassembly.proofs.KeptLemmas.{length-kept, put-kept}
use Rattle.reassembly.proofs.buffer.Reassembly.put.Goals as goal

pub index-requires : goal.index-requires
index-requires c =
    let size : length c.args.self.now ≡ c.self.inside.count = ap length (sym c.self.view_is)
    ∙ length-kept c.self.inside.count c.self.inside.buffer.items
    (omega (arith, c.self.invariant.0, c.self.invariant.1)) in
    omega (arith, size, c.requires.some, c.requires.room, c.self.invariant.0)

pub with_bits-requires-clause-within : goal.with_bits-requires-clause-within
with_bits-requires-clause-within c =
    let size : length c.args.self.now ≡ c.self.inside.count = ap length (sym c.self.view_is)
    ∙ length-kept c.self.inside.count c.self.inside.buffer.items
    (omega (arith, c.self.invariant.0, c.self.invariant.1)) in
    omega (arith, size, c.requires.one_byte)

pub index_mut-requires : goal.index_mut-requires
index_mut-requires c =
    let size : length c.args.self.now ≡ c.self.inside.count = ap length (sym c.self.view_is)
    ∙ length-kept c.self.inside.count c.self.inside.buffer.items
    (omega (arith, c.self.invariant.0, c.self.invariant.1)) in
    omega (arith, size, c.requires.some, c.requires.room, c.self.invariant.0)

pub invariant_of-self : goal.invariant_of-self
invariant_of-self c =
    let size : length c.args.self.now ≡ c.self.inside.count = ap length (sym c.self.view_is)
    ∙ length-kept c.self.inside.count c.self.inside.buffer.items
    (omega (arith, c.self.invariant.0, c.self.invariant.1)) in
    (search rules, omega (arith, size, c.requires.room))

pub returns : goal.returns
returns c =
    let size : length c.args.self.now ≡ c.self.inside.count = ap length (sym c.self.view_is)
    ∙ length-kept c.self.inside.count c.self.inside.buffer.items
    (omega (arith, c.self.invariant.0, c.self.invariant.1)) in
    let inside : c.self.inside.count / 8 < length c.self.inside.buffer.items =
    omega (arith, size, c.requires.some, c.requires.room, c.self.invariant.0) in
    put-kept c.self.inside.buffer.items c.self.inside.count c.args.width c.with_bits.result
    c.index.result.now (number_bits c.args.width c.args.value) inside
    (omega (arith, size, c.requires.one_byte))
    (c.with_bits.ensures
    ∙ ap (λ n. take (c.self.inside.count % 8) (number_bits 8 n) ++ number_bits c.args.width
    c.args.value) c.index.ensures)
    ∙ ap (λ bits. bits ++ number_bits c.args.width c.args.value) c.self.view_is
