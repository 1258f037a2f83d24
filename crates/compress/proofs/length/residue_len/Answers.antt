use Rattle.std.proofs.Common.{◌^◌, ◌<◌, ap, length, List, subst, sym, ◌∙◌}
use Rattle.rule_model.specs.Data.{EntryData}
use Rattle.compress.specs.Turns.{joined}
use Rattle.compress.proofs.TurnsLemmas.{joined-is}
use Rattle.compress.proofs.length.residue_len.Goals as goal

pub entries_len-requires : goal.entries_len-requires
entries_len-requires c =
    subst (λ (entries : List EntryData). length
    (joined c.args.direction c.args.fields.now.items entries) < 2 ^ 63)
    (sym c.entries.ensures.entries)
    (subst (λ bits. length bits < 2 ^ 63)
    (sym (joined-is c.args.rule.now c.args.direction c.args.fields.now.items)) c.requires)

pub returns : goal.returns
returns c =
    c.entries_len.ensures
    ∙ ap (λ (entries : List EntryData). length
    (joined c.args.direction c.args.fields.now.items entries)) c.entries.ensures.entries
    ∙ ap length (joined-is c.args.rule.now c.args.direction c.args.fields.now.items)
