use Rattle.std.proofs.Common.{◌≡◌, subst}
use Rattle.rule_json.specs.Written.{msb_bits}
use Rattle.rule_json.proofs.WrittenLemmas.{entry-if}
use Rattle.rule_json.proofs.writing.EntryToJson.to_json.Goals as goal

pub returns-in-Some-clause-back : goal.returns-in-Some-clause-back
returns-in-Some-clause-back c =
    let bits =
    subst (λ e. c.msb_bits.result ≡ msb_bits e.operator) c.self.view_is c.msb_bits.ensures.bits
    in
    entry-if c.msb_entry.result c.args.self.now c.msb_bits.result c.requires
    c.msb_entry.ensures.position bits c.msb_bits.ensures.small c.msb_entry.ensures.length

pub returns-in-None-clause-back : goal.returns-in-None-clause-back
returns-in-None-clause-back c =
    let bits =
    subst (λ e. c.msb_bits.result ≡ msb_bits e.operator) c.self.view_is c.msb_bits.ensures.bits
    in
    entry-if c.plain_entry.result c.args.self.now c.msb_bits.result c.requires
    c.plain_entry.ensures.position bits c.msb_bits.ensures.small c.plain_entry.ensures.length
