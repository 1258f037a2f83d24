use Rattle.std.proofs.Common.{Ok, ap, arith, sym, ◌∙◌}
use Rattle.decompress.specs.Reading.{restore_at}
use Rattle.decompress.proofs.LawLemmas.{next-at, NoneStands-from_refusal, Stands-from_read}
use Rattle.decompress.proofs.fields.restore.Goals as goal

pub overflow_sub-result : goal.overflow_sub-result
overflow_sub-result c =
    let next =
    next-at c.args.rule.now c.args.iids c.args.direction c.args.bits.now c.args.from
    c.at-reader.result c.in-Ok.fields.items c.read_rule.new.reader c.read_rule.ensures.admitted
    c.at-reader.ensures c.in-Ok.ensures.ok c.requires in
    omega (arith, next.0, c.left.ensures, c.len.ensures)

pub returns-in-Ok-clause-ok : goal.returns-in-Ok-clause-ok
returns-in-Ok-clause-ok c =
    let next =
    next-at c.args.rule.now c.args.iids c.args.direction c.args.bits.now c.args.from
    c.at-reader.result c.in-Ok.fields.items c.read_rule.new.reader c.read_rule.ensures.admitted
    c.at-reader.ensures c.in-Ok.ensures.ok c.requires in
    rw (c.len.ensures, c.left.ensures)
    (ap (restore_at c.args.rule.now c.args.iids c.args.direction) (sym c.at-reader.ensures)
    ∙ c.in-Ok.ensures.ok ∙ ap (λ rest. Ok (c.in-Ok.fields.items, rest)) (sym next.2))

pub returns-in-Ok-clause-stands : goal.returns-in-Ok-clause-stands
returns-in-Ok-clause-stands c =
    Stands-from_read c.args.rule.now c.args.iids c.args.direction c.in-Ok.fields.items _ _
    c.read_rule.ensures.admitted (returns-in-Ok-clause-ok c)

pub returns-in-Ok-clause-next : goal.returns-in-Ok-clause-next
returns-in-Ok-clause-next c =
    let next =
    next-at c.args.rule.now c.args.iids c.args.direction c.args.bits.now c.args.from
    c.at-reader.result c.in-Ok.fields.items c.read_rule.new.reader c.read_rule.ensures.admitted
    c.at-reader.ensures c.in-Ok.ensures.ok c.requires in
    rw (c.len.ensures, c.left.ensures) (next.1, omega arith)

pub returns-in-Err-clause-none : goal.returns-in-Err-clause-none
returns-in-Err-clause-none c =
    NoneStands-from_refusal c.args.rule.now c.args.iids c.args.direction _ c.at-reader.result
    c.in-Err.fault c.read_rule.ensures.admitted c.at-reader.ensures c.in-Err.ensures.err
