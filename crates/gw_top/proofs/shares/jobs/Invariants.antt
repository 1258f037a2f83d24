use Rattle.std.proofs.Common.{◌≡◌, ◌++◌, drop}
use Rattle.gw_top.proofs.shares.jobs.Given as goal

-- the jobs so far, and those of the devices that are left, are those of all
abbrev pub invariant-loop-device : goal.invariant-loop-device
invariant-loop-device l = l.jobs.items ++ drop l.device-index l.devices ≡ l.devices
