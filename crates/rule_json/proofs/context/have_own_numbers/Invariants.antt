use Rattle.std.specs.Prelude.{◌≡◌, length}
use Rattle.rule_json.specs.Files.{have_own_numbers}
use Rattle.rule_json.proofs.context.have_own_numbers.Given as goal

abbrev pub invariant-loop-device : goal.invariant-loop-device
invariant-loop-device l = have_own_numbers l.rest ≡ have_own_numbers l.devices

abbrev pub decreases-loop-device : goal.decreases-loop-device
decreases-loop-device l = length l.rest
