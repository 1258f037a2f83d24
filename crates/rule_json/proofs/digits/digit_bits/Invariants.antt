use Rattle.std.specs.Prelude.{◌≡◌, drop}
use Rattle.rule_json.specs.Digits.{digit_bits}
use Rattle.rule_json.proofs.ListLemmas.{with_front}
use Rattle.rule_json.proofs.digits.digit_bits.Given as goal

abbrev pub invariant-loop-digit : goal.invariant-loop-digit
invariant-loop-digit l =
    with_front l.bits (digit_bits (drop l.digit-index l.text)) ≡ digit_bits l.fn.text
