use Rattle.std.proofs.Common.{◌≡◌, ◌∙◌, ap, arith, length}
use Rattle.schc_bits.specs.Bits.{bits_value}
use Rattle.schc_bits.proofs.PartBits.{length-part, read-part, bits_value-take}
use Rattle.schc_bits.proofs.part.Part.read_at.Goals as goal

pub overflow_add-self-inside : goal.overflow_add-self-inside
overflow_add-self-inside c =
    let count : length c.args.self.now ≡ c.self.inside.count =
    rw (← c.self.view_is) (length-part _ _ _ c.self.invariant.0) in
    omega (arith, count, c.requires.within, c.self.invariant.1)

pub returns-clause-value : goal.returns-clause-value
returns-clause-value c =
    let count : length c.args.self.now ≡ c.self.inside.count =
    rw (← c.self.view_is) (length-part _ _ _ c.self.invariant.0) in
    rw (← c.self.view_is)
    (c.bits_from.ensures
    ∙ ap bits_value
    (read-part _ _ c.self.inside.count _ _ (omega (arith, count, c.requires.within))))

pub returns-clause-below : goal.returns-clause-below
returns-clause-below c = rw c.bits_from.ensures (bits_value-take _ _)
