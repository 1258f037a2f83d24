use Rattle.std.proofs.Common.{◌≡◌, ◌++◌, OnOk, subst, sym}
use Rattle.rule_model.proofs.ResidueLemmas.{size_code-short, size_code-twelve}
use Rattle.rule_model.proofs.ResidueLemmas.{size_code-twenty_eight}
use Rattle.compress.proofs.write.push_size.Goals as goal

pub returns-then-size-lt15-clause-ok : goal.returns-then-size-lt15-clause-ok
returns-then-size-lt15-clause-ok c =
    subst (λ code. OnOk c.push_bits.result (c.push_bits.new.self ≡ c.args.out.now ++ code))
    (sym (size_code-short c.args.size c.if-size-lt15.true)) c.push_bits.ensures.ok

pub returns-then-size-lt255-clause-ok : goal.returns-then-size-lt255-clause-ok
returns-then-size-lt255-clause-ok c =
    subst (λ code. OnOk c.push_bits-then-size-lt255.result
    (c.push_bits-then-size-lt255.new.self ≡ c.args.out.now ++ code))
    (sym (size_code-twelve c.args.size c.if-size-lt15.false c.if-size-lt255.true))
    c.push_bits-then-size-lt255.ensures.ok

pub returns-else-size-lt255-clause-ok : goal.returns-else-size-lt255-clause-ok
returns-else-size-lt255-clause-ok c =
    subst (λ code. OnOk c.push_bits-else-size-lt255.result
    (c.push_bits-else-size-lt255.new.self ≡ c.args.out.now ++ code))
    (sym (size_code-twenty_eight c.args.size c.if-size-lt255.false c.requires))
    c.push_bits-else-size-lt255.ensures.ok
