use Rattle.std.proofs.Common.{sym}
use Rattle.script_lang.proofs.RangesLemmas.{declared-one, numbers-one}
use Rattle.script_lang.proofs.scripts.Script.declare.Goals as goal

-- with one more device the script is in its ranges, and the set has the numbers of its devices
pub invariant_of-self-2 : goal.invariant_of-self-2
invariant_of-self-2 c =
    let new = rw (sym c.self.view_is) at c.requires.own_number in
    let few = rw (sym c.self.view_is) at c.requires.few in
    let devices = c.self.inside.devices.items in
    rw (c.put.ensures.items, c.reserve.ensures.items) (
      declared-one devices c.self.inside.events.items c.args.line new c.requires.in_range few
          c.self.invariant.0,
      numbers-one c.self.inside.numbers c.insert.new.self devices c.args.line
          c.in_ok-insert.ensures.updates c.self.invariant.1,
    )
