use Rattle.std.proofs.Common.{rules, nat_eq}
use Rattle.indexmap.specs.IndexMap.{get}
use Rattle.gw_top.proofs.MergeLemmas.{published_line-is, published-left, own_line-is, own-left}
use Rattle.gw_top.proofs.merging.take_line.Goals as goal

-- the first of the publications' lines
pub returns-then-is_publication-clause-line : goal.returns-then-is_publication-clause-line
returns-then-is_publication-clause-line c =
    λ declared before rest owned left. published_line-is declared before rest c.args.event.now
    c.args.published.now c.pop.new.self (get nat_eq c.args.devices.now) c.pop.result
    (search rules) c.pop.ensures.first c.pop.ensures.none left

pub returns-then-is_publication-clause-left : goal.returns-then-is_publication-clause-left
returns-then-is_publication-clause-left c =
    λ declared before rest owned left. published-left declared before rest c.args.event.now
    c.args.published.now c.pop.new.self (get nat_eq c.args.devices.now) c.pop.result
    (search rules) c.pop.ensures.first c.pop.ensures.none left

-- the first of the device's lines
pub returns-else-is_publication-clause-line : goal.returns-else-is_publication-clause-line
returns-else-is_publication-clause-line c =
    λ declared before rest owned left. own_line-is declared before rest c.args.event.now
    c.args.published.now (get nat_eq c.args.devices.now) c.first_of.result _ (search rules)
    (search rules) c.first_of.ensures.line owned left

pub returns-else-is_publication-clause-left : goal.returns-else-is_publication-clause-left
returns-else-is_publication-clause-left c =
    λ declared before rest owned left. own-left declared before rest c.args.event.now
    c.args.published.now (get nat_eq c.args.devices.now) (get nat_eq c.first_of.new.devices) _
    (search rules) (search rules) c.first_of.ensures.left owned left
