use Rattle.std.proofs.Common.{◌+◌, drop, subst}
use Rattle.gw_top.proofs.MergeLemmas.{drop-step}
use Rattle.gw_top.proofs.DealingLemmas.{IsDealtTo, dealt-next}
use Rattle.gw_top.proofs.dealing.deal.Goals as goal

-- one event more is dealt out
pub loop-event-preserved : goal.loop-event-preserved
loop-event-preserved c =
    let at = c.loop-event in
    let devices = c.args.devices.now in
    let events = c.args.events.now in
    let event = c.event-item.result in
    let ensures = c.in_ok-add.ensures in
    dealt-next devices events (drop (at.event-index + 1) events) event at.dealt c.add.new.self
    ensures.publications ensures.turns
    (subst (λ left. IsDealtTo devices events left at.dealt)
    (drop-step events at.event-index event c.loop-event-test.true c.event-item.is)
    at.invariant)
