-- Splits that are refused for want of memory.
use Rattle.std.specs.Prelude.{Bool, true, false}
use Rattle.rule_model.specs.declared.parts.SplitFault.{SplitFault}
use Rattle.rule_model.specs.declared.parts.SplitFault.TheVariants.{Memory}

-- memory is wanting, and nothing is said of the packet
abbrev pub is_memory : SplitFault → Bool
is_memory Memory = true
is_memory _ = false
