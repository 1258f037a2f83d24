use Rattle.std.proofs.Common.{◌++◌, ap, subst, sym, ◌∙◌}
use Rattle.compress.specs.Turns.{joined, TurnsHold}
use Rattle.compress.proofs.TurnsLemmas.{joined-is, TurnsHold-from_IsSized}
use Rattle.compress.proofs.write.residue.Goals as goal

pub push_entries-requires : goal.push_entries-requires
push_entries-requires c =
    subst (TurnsHold c.args.direction c.args.fields.now.items) (sym c.entries.ensures.entries)
    (TurnsHold-from_IsSized c.args.rule.now c.args.direction c.args.fields.now.items c.requires)

pub returns-in-Ok-clause-ok : goal.returns-in-Ok-clause-ok
returns-in-Ok-clause-ok c =
    c.in-Ok.ensures.ok
    ∙ ap (λ entries. c.args.out.now ++ joined c.args.direction c.args.fields.now.items entries)
    c.entries.ensures.entries
    ∙ ap (λ bits. c.args.out.now ++ bits)
    (joined-is c.args.rule.now c.args.direction c.args.fields.now.items)
