use Rattle.std.proofs.Common.{◌≡◌, sym, ◌∙◌, true}
use Rattle.script_lang.specs.Text.{is_numeral}
use Rattle.script_lang.proofs.TextLemmas.{IsUtf8-numeral, parse-number_of}
use Rattle.script_lang.proofs.text.number.Goals as goal

-- the text that is parsed is the word, which is a numeral
pub returns-in-Ok : goal.returns-in-Ok
returns-in-Ok c =
    let numeral : is_numeral c.args.word.now ≡ true = sym c.if-not-is_numeral.ensures in
    let parses = rw c.in-Ok.ensures.cases.0 at c.parse.ensures.value.0 in
    c.ok.ensures.value ∙ parse-number_of c.args.word.now _ numeral parses

-- a numeral is text
pub returns-in-Err : goal.returns-in-Err
returns-in-Err c =
    absurd (c.in-Err.ensures.cases.0
    (IsUtf8-numeral c.args.word.now (sym c.if-not-is_numeral.ensures)))
