use Rattle.std.proofs.Common.{sym, subst}
use Rattle.script_lang.specs.Ranges.{AreDeclared}
use Rattle.script_lang.proofs.ScriptLemmas.{written, written-again}
use Rattle.script_lang.proofs.writing.write.Goals as goal

pub returns-clause-text : goal.returns-clause-text
returns-clause-text c =
    written c.args.script.now c.devices-devices.result.now c.events-events.result.now
    c.new-text.result.items c.push_devices.new.text.items c.push_events.new.text.items
    c.devices-devices.ensures.devices c.events-events.ensures.events c.new-text.ensures
    c.in_ok-push_devices.ensures.text c.in_ok-push_events.ensures.text

pub returns-clause-reads_back : goal.returns-clause-reads_back
returns-clause-reads_back c =
    let d = c.devices-devices.ensures in
    let e = c.events-events.ensures in
    let declared = subst (λ devices. AreDeclared devices c.events-events.result.now)
    (sym d.devices) e.declared in
    written-again c.args.script.now c.devices-devices.result.now c.events-events.result.now
    c.push_events.new.text.items d.devices e.events (returns-clause-text c)
    (d.in_range, d.own_numbers, d.few, e.in_range, declared, e.spelling, e.few)
    c.in_ok-push_devices.ensures.numbers c.in_ok-push_events.ensures.reads
