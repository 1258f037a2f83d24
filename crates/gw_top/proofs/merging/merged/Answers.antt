use Rattle.std.proofs.Common.{rules, ◌+◌, drop, nat_eq}
use Rattle.indexmap.specs.IndexMap.{get}
use Rattle.gw_top.proofs.QueueLemmas.{said-more}
use Rattle.gw_top.proofs.MergeLemmas.{merged-line, merged-next, merged-last, drop-step}
use Rattle.gw_top.proofs.merging.merged.Goals as goal

-- the line that is taken is there
pub unwrap-line-requires : goal.unwrap-line-requires
unwrap-line-requires c =
    let at = c.loop-event in
    let here =
    drop-step c.args.events.now at.event-index c.event-item.result c.loop-event-test.true
    c.event-item.is in
    let found =
    merged-line c.args.declared.now c.args.events.now (drop at.event-index c.args.events.now)
    (drop (at.event-index + 1) c.args.events.now) c.event-item.result at.lines.items
    at.published (get nat_eq at.devices) c.take_line.result here c.take_line.ensures.line
    at.invariant.1 in
    search rules

pub loop-event-preserved : goal.loop-event-preserved
loop-event-preserved c =
    let at = c.loop-event in
    let here =
    drop-step c.args.events.now at.event-index c.event-item.result c.loop-event-test.true
    c.event-item.is in (
      said-more at.lines.items c.push.new.self.items c.unwrap-line.result c.take_line.result
          c.in_ok-push.ensures.items (search rules) c.take_line.ensures.said at.invariant.0,
      merged-next c.args.declared.now c.args.events.now (drop at.event-index c.args.events.now)
          (drop (at.event-index + 1) c.args.events.now) c.event-item.result at.lines.items
          at.published (get nat_eq at.devices) c.take_line.result here c.take_line.ensures.line
          at.invariant.1
          c.push.new.self.items c.take_line.new.published (get nat_eq c.take_line.new.devices)
          c.unwrap-line.result c.take_line.ensures.left (search rules)
          c.in_ok-push.ensures.items,
    )

pub returns : goal.returns
returns c =
    let at = c.loop-event in
    record {
      lines = merged-last c.args.declared.now c.args.events.now at.event-index at.lines.items
          at.published (get nat_eq at.devices) c.loop-event-test.false at.invariant.1;
      said = at.invariant.0;
    }
