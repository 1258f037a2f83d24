use Rattle.std.proofs.Common.{arith, sym, subst, ◌∙◌, ◌+◌, ◌<◌, slice_set}
use Rattle.timers.specs.KeyLists.{AreLinked, IsExchanged, at_node}
use Rattle.timers.proofs.RingLemmas.{linked-out, linked-in}
use Rattle.timers.proofs.key_lists.relink.Goals as goal

pub returns-then-place-eq-PLACES-clause-linked : goal.returns-then-place-eq-PLACES-clause-linked
returns-then-place-eq-PLACES-clause-linked c =
    λ places linked. subst
    (λ p. AreLinked (slice_set places (128 + c.args.key) p) c.exchange.new.next
    c.exchange.new.previous) (sym c.if-place-eq-PLACES.true)
    (linked-out places c.args.next.now c.args.previous.now c.exchange.new.next
    c.exchange.new.previous (128 + c.args.key) linked (omega arith) c.requires.key
    c.exchange.ensures.exchanged c.exchange.ensures.next_len c.exchange.ensures.previous_len)

pub returns-clause-linked : goal.returns-clause-linked
returns-clause-linked c =
    let small : c.args.place < 128 = omega (arith, c.requires.place, c.if-place-eq-PLACES.false) in
    λ places linked. linked-in places c.args.next.now c.args.previous.now c.exchange.new.next
    c.exchange.new.previous c.exchange-2.new.next c.exchange-2.new.previous
    (128 + c.args.key) c.args.place linked (omega arith) c.requires.key small
    c.exchange.ensures.exchanged
    (subst (λ t. IsExchanged t c.args.place (128 + c.args.key) (at_node c.exchange.new.next)
    (at_node c.exchange.new.previous) (at_node c.exchange-2.new.next)
    (at_node c.exchange-2.new.previous))
    c.exchange.ensures.next_len c.exchange-2.ensures.exchanged)
    (c.exchange-2.ensures.next_len ∙ c.exchange.ensures.next_len)
    (c.exchange-2.ensures.previous_len ∙ c.exchange.ensures.next_len)
