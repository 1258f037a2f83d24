use Rattle.std.proofs.Common.{rules, ◌≡◌, ◌∙◌, Some, subst, sym}
use Rattle.rule_json.specs.Texts.{edition_of}
use Rattle.rule_json.proofs.WrittenLemmas.{text-written, text-again}
use Rattle.rule_json.proofs.writing.write_edition.Goals as goal

pub returns-clause-text : goal.returns-clause-text
returns-clause-text c =
    let items : c.extend_from.new.self.items ≡ c.in_ok-text.text.items = search rules in
    items ∙ text-written c.args.edition.now _ c.in_ok-text.text.items c.in_ok-value.ensures.value
    c.in_ok-text.ensures.text

pub returns-clause-reads_back : goal.returns-clause-reads_back
returns-clause-reads_back c =
    let items : c.extend_from.new.self.items ≡ c.in_ok-text.text.items = search rules in
    let again =
    text-again c.args.edition.now _ c.in_ok-text.text.items c.in_ok-value.ensures.value
    c.in_ok-text.ensures.utf8 c.in_ok-text.ensures.reads_back c.in_ok-value.ensures.back in
    subst (λ bytes. edition_of bytes ≡ Some c.args.edition.now) (sym items) again
