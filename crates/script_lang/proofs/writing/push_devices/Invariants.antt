use Rattle.std.proofs.Common.{◌≡◌, ◌++◌, drop, map}
use Rattle.script_lang.specs.Writing.{device_line, text_of_lines}
use Rattle.script_lang.specs.Reading.{HaveNumbers}
use Rattle.script_lang.proofs.writing.push_devices.Given as goal

-- the lines of the devices that are left, behind what is written, make the whole text
abbrev pub invariant-loop-device : goal.invariant-loop-device
invariant-loop-device l =
    let left = drop l.device-index l.devices in
    (l.text.items ++ text_of_lines (map device_line left) ≡ l.initial.text.items ++ text_of_lines
    (map device_line l.devices))
    × (HaveNumbers left → HaveNumbers l.devices)
