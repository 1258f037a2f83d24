use Rattle.std.proofs.Common.{◌≡◌, ◌+◌, ◌-◌, ◌++◌, take, drop, arith, subst}
use Rattle.schc_bits.specs.Bits.{octets}
use Rattle.rcs.specs.Words.{Sums}
use Rattle.rcs.proofs.SumLemmas.{range-none, range-more}
use Rattle.rcs.proofs.register.Register.add.Goals as goal

pub loop-at-init : goal.loop-at-init
loop-at-init c = (
  λ bits h. range-none c.args.self.now bits (drop c.args.from (octets c.args.bytes.now)) c.args.from
      h,
  omega arith,
  c.requires.order,
)

pub loop-at-preserved : goal.loop-at-preserved
loop-at-preserved c =
    let at = c.loop-at.at in
    let piece = c.add_piece-at in
    let width = piece.result - at in
    let place : at + width ≡ piece.result = omega (arith, piece.ensures.further) in (
      λ bits h. subst
          (λ n. Sums piece.new.self
          (bits ++ take (n - c.args.from) (drop c.args.from (octets c.args.bytes.now)))) place
          (range-more c.loop-at.self piece.new.self bits (octets c.args.bytes.now) c.args.from at
          width c.loop-at.invariant.1 (c.loop-at.invariant.0 bits h) piece.ensures.added),
      omega (arith, c.loop-at.invariant.1, piece.ensures.further),
      piece.ensures.within,
    )

pub returns : goal.returns
returns c =
    let last : c.loop-at.at ≡ c.args.to =
    omega (arith, c.loop-at-test.false, c.loop-at.invariant.2) in
    λ bits h. subst
    (λ n. Sums c.loop-at.self
    (bits ++ take (n - c.args.from) (drop c.args.from (octets c.args.bytes.now)))) last
    (c.loop-at.invariant.0 bits h)
