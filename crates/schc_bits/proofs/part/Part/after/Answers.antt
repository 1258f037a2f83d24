use Rattle.std.proofs.Common.{◌≡◌, arith, length}
use Rattle.schc_bits.proofs.PartBits.{length-part, after-part}
use Rattle.schc_bits.proofs.part.Part.after.Goals as goal

pub returns : goal.returns
returns c =
    let count : length c.args.self.now ≡ c.self.inside.count =
    rw (← c.self.view_is) (length-part _ _ _ c.self.invariant.0) in
    rw (← c.self.view_is) (after-part _ _ c.self.inside.count _ (omega (arith, count, c.requires)))
