use Rattle.std.proofs.Common.{ap, subst, ◌≡◌, ◌-◌, ◌++◌, OnOk}
use Rattle.frag_wire.proofs.BitmapLemmas.{kept-number}
use Rattle.frag_wire.proofs.answers.push_bitmap.Goals as goal

pub push_bits-requires-clause-fits : goal.push_bits-requires-clause-fits
push_bits-requires-clause-fits c =
    (kept-number c.args.header c.args.size c.args.bitmap (c.scissors.result - c.args.header)
    c.requires.fits (ap (λ n. n - c.args.header) c.scissors.ensures.kept)).1

pub returns : goal.returns
returns c =
    record {
      ok =
          subst (λ bits. OnOk c.push_bits.result (c.push_bits.new.self ≡ c.args.bits.now ++ bits))
          (kept-number c.args.header c.args.size c.args.bitmap (c.scissors.result - c.args.header)
          c.requires.fits (ap (λ n. n - c.args.header) c.scissors.ensures.kept)).2
          c.push_bits.ensures.ok;
    }
