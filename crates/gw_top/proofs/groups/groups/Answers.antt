use Rattle.std.proofs.Common.{rules, ◌/◌, ◌%◌, ℕ, length, arith}
use Rattle.gw_top.proofs.GroupLemmas.{joined-step, cut-less, even-step}
use Rattle.gw_top.proofs.groups.groups.Goals as goal

-- one more group, and what is left behind it
pub loop-place-preserved : goal.loop-place-preserved
loop-place-preserved c =
    let at = c.loop-place in
    let size : ℕ = length c.args.devices.now / c.args.workers in
    let longer : ℕ = length c.args.devices.now % c.args.workers in
    let items = c.in_ok-push.ensures.items in
    let less = cut-less c.args.workers at.place size longer (search rules) in
    let exact = c.group_size.ensures.exact in
    let front = c.split_at.ensures.front_len in
    let back = c.split_at.ensures.back_len in
    let left = at.invariant.3 in
    let count = at.invariant.1 in
    let pushed = c.in_ok-push.ensures.len in
    let most = c.group_size.ensures.most in
    let least = c.group_size.ensures.least in (
      joined-step at.groups.items c.push.new.self.items c.split_at.result.0 at.left.now
          c.split_at.result.1.now c.args.devices.now c.group_size.result items
          c.split_at.ensures.front c.split_at.ensures.back at.invariant.0,
      omega arith,
      even-step size at.groups.items c.push.new.self.items c.split_at.result.0 items at.invariant.2
          (omega arith, omega arith),
      omega arith,
    )
