use Rattle.std.specs.Prelude.{◌≡◌, ◌++◌, ◌/◌, length, string_bytes}
use Rattle.rule_json.specs.Digits.{first_digits}
use Rattle.rule_json.proofs.digits.digits.Given as goal

abbrev pub invariant-loop-rest : goal.invariant-loop-rest
invariant-loop-rest l =
    string_bytes l.text ++ first_digits (length l.rest / 4) l.rest ≡ first_digits
    (length l.bits / 4) l.bits

abbrev pub decreases-loop-rest : goal.decreases-loop-rest
decreases-loop-rest l = length l.rest
