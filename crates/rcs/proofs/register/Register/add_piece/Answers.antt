use Rattle.std.proofs.Common.{◌≡◌, ◌+◌, ◌-◌, ◌*◌, ◌/◌, ◌%◌, ◌<◌, ◌≤◌, length, take, drop, arith, ap}
use Rattle.std.proofs.Common.{◌∙◌}
use Rattle.schc_bits.specs.Bits.{octets}
use Rattle.rcs.specs.Words.{added}
use Rattle.rcs.proofs.SumLemmas.{octets-piece, whole-piece}
use Rattle.rcs.proofs.register.Register.add_piece.Goals as goal

pub returns-then-whole-gt0-clause-added : goal.returns-then-whole-gt0-clause-added
returns-then-whole-gt0-clause-added c =
    let bytes = c.args.bytes.now in
    let at = c.args.at in
    let first = at / 8 in
    let whole = c.whole_bytes-whole.result in
    let begins : at % 8 ≡ 0 = c.whole_bytes-whole.ensures.begins c.if-whole-gt0.true in
    let place : 8 * first ≡ at = omega (arith, begins) in
    let size : 8 * whole ≡ at + 8 * whole - at = omega arith in
    let cut : first + whole - first ≡ whole = omega arith in
    c.put_all.ensures
    ∙ ap (λ bits. added c.args.self.now bits)
    (ap (λ n. octets (take n (drop first bytes))) cut ∙ whole-piece bytes first whole at place
    ∙ ap (λ n. take n (drop at (octets bytes))) size)

pub returns-clause-added : goal.returns-clause-added
returns-clause-added c =
    let at = c.args.at in
    let width = c.min-width.result in
    let place : 8 * (at / 8) + at % 8 ≡ at = omega arith in
    let inside : at / 8 < length c.args.bytes.now =
    omega (arith, c.requires.order, c.requires.within) in
    let within : at % 8 + width ≤ 8 = omega (arith, c.min-width.ensures) in
    let piece = c.bits_within.ensures.bits
    ∙ octets-piece c.args.bytes.now (at / 8) (at % 8) width 0 inside within
    ∙ ap (λ n. take width (drop n (octets c.args.bytes.now))) place in
    let size : width ≡ at + width - at = omega arith in
    c.put.ensures
    ∙ ap (λ bits. added c.args.self.now bits)
    (piece ∙ ap (λ n. take n (drop at (octets c.args.bytes.now))) size)
