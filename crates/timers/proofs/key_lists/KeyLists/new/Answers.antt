use Rattle.std.proofs.Common.{arith, sym, ◌∙◌}
use Rattle.timers.proofs.RingLemmas.{linked-new}
use Rattle.timers.proofs.key_lists.KeyLists.new.Goals as goal

pub invariant_of-result : goal.invariant_of-result
invariant_of-result c =
    let places = c.in_ok-first_places in
    let next = c.in_ok-numbers in
    let previous = c.in_ok-numbers-2 in
    linked-new places.field-0.items next.field-0.items previous.field-0.items
    (next.ensures.len ∙ sym places.ensures.len) (previous.ensures.len ∙ sym places.ensures.len)
    (omega (arith, places.ensures.len))
    (λ x h. next.ensures.numbers x (omega (arith, h, next.ensures.len)))
    (λ x h. previous.ensures.numbers x (omega (arith, h, previous.ensures.len)))
    places.ensures.heads
    (λ x h key. places.ensures.others x (omega (arith, h, places.ensures.len)) key)
