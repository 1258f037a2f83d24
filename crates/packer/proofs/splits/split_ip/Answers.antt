use Rattle.std.proofs.Common.{sym, ◌∙◌}
use Rattle.schc_ids.specs.declared.names.Stack.TheVariants as stack
use Rattle.packer.proofs.writing.SplitsLemmas.{fields-split, refused-none}
use Rattle.packer.proofs.splits.split_ip.Goals as goal

-- a split that is given is that of the packet as one of IPv6
pub returns-in-Ok : goal.returns-in-Ok
returns-in-Ok c =
    sym (fields-split stack.Ip c.args.direction c.args.packet.now c.in-Ok.split tt
    c.in-Ok.ensures.ok)

pub returns-else-is_memory : goal.returns-else-is_memory
returns-else-is_memory c =
    sym (refused-none stack.Ip c.args.direction c.args.packet.now c.in-Err.fault tt
    c.in-Err.ensures.err (sym c.is_memory.ensures ∙ c.if-is_memory.false))
