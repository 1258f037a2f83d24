use Rattle.script_lang.proofs.lines.told_line.Goals as goal

-- a publication can happen whatever devices are declared
pub returns-in-Some-2-clause-in_range : goal.returns-in-Some-2-clause-in_range
returns-in-Some-2-clause-in_range c =
    let can = rw c.in-Some-2.is at c.in_ok-event-in-Some.ensures.in_range in
    can c.args.script.now.devices
