use Rattle.std.proofs.Common.{◌≡◌, ◌≤◌, length, take}
use Rattle.coap_fields.specs.Reading.{options_at}
use Rattle.coap_fields.specs.Placed.{placed}
use Rattle.coap_fields.proofs.options.push_options.Given as goal

abbrev pub invariant-loop-rest : goal.invariant-loop-rest
invariant-loop-rest l =
    (length l.rest ≤ l.size)
    × (take (length l.fn.fields.items) l.fields.items ≡ l.fn.fields.items)
    × (placed l.fields.items l.last.number l.last.place l.size
    (options_at l.size l.last.number l.last.place l.rest)
    ≡ placed l.fn.fields.items 0 0 l.size (options_at l.size 0 0 l.fn.bytes))

abbrev pub decreases-loop-rest : goal.decreases-loop-rest
decreases-loop-rest l = length l.rest
