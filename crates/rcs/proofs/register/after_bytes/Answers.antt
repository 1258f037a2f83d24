use Rattle.std.proofs.Common.{arith, sym, ap, subst, ◌∙◌, suc, ◌≡◌, ◌+◌, ◌%◌, ◌^◌, ◌<◌, ◌∷◌, get_or}
use Rattle.std.proofs.Common.{drop, drop-cons}
use Rattle.std.proofs.lemmas.List.{drop_all}
use Rattle.std.proofs.lemmas.Nat.{mod_below, pow_pos}
use Rattle.schc_bits.specs.Bits.{octets}
use Rattle.rcs.specs.Words.{sum_of, added}
use Rattle.schc_bits.proofs.NumberBits.{one-shl}
use Rattle.rcs.proofs.SumLemmas.{bytes-more, bytes-none, full-byte}
use Rattle.rcs.proofs.register.after_bytes.Goals as goal

pub loop-byte-preserved : goal.loop-byte-preserved
loop-byte-preserved c =
    let count = c.args.count in
    let bytes = c.args.bytes.now in
    let i = c.loop-byte.byte-index in
    let rest = drop (i + 1) bytes in
    let window = c.with_byte-window.result in
    let w = c.with_byte-window.ensures in
    let one = one-shl count (omega (arith, c.requires.count)) in
    let cons : drop i bytes ≡ get_or bytes i 0 ∷ rest =
    drop-cons bytes i 0 c.loop-byte-test.true
    ∙ ap (λ n. get_or bytes i 0 ∷ drop n bytes) (let e : suc i ≡ i + 1 = omega arith in e)
    in (
      subst (λ n. window % n < 2 ^ count) (sym one) (mod_below window (2 ^ count) (pow_pos count)),
      ap (λ n. added (sum_of c.next_word-word.result count (window % n)) (octets rest)) one
          ∙ ap (λ word. added (sum_of word count (window % 2 ^ count)) (octets rest))
          c.next_word-word.ensures
          ∙ bytes-more c.loop-byte.word count c.loop-byte.part (get_or bytes i 0) window rest w.byte
          w.sum c.requires.count (full-byte window count w.below)
          ∙ ap (λ xs. added (sum_of c.loop-byte.word count c.loop-byte.part) (octets xs)) (sym cons)
          ∙ c.loop-byte.invariant.1,
    )

pub returns-clause-added : goal.returns-clause-added
returns-clause-added c =
    let count = c.args.count in
    let bytes = c.args.bytes.now in
    let last = drop_all c.loop-byte.byte-index bytes c.loop-byte-test.false in
    bytes-none c.loop-byte.word count c.loop-byte.part c.requires.count c.loop-byte.invariant.0
    ∙ ap (λ xs. added (sum_of c.loop-byte.word count c.loop-byte.part) (octets xs)) (sym last)
    ∙ c.loop-byte.invariant.1
