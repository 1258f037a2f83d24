use Rattle.std.proofs.Common.{◌≡◌, ◌++◌, drop}
use Rattle.std.specs.List.{AllByRecursion}
use Rattle.coap_fields.specs.Message.{options_spelled}
use Rattle.coap_fields.specs.Join.{options_from}
use Rattle.coap_fields.specs.Placed.{IsWritable}
use Rattle.coap_fields.proofs.writing.put_options.Given as goal

abbrev pub invariant-loop-field : goal.invariant-loop-field
invariant-loop-field l =
    AllByRecursion IsWritable (drop l.field-index l.fields)
    × (l.message.items ++ options_spelled l.before (options_from (drop l.field-index l.fields))
    ≡ l.fn.message.items ++ options_spelled 0 (options_from l.fn.fields))
