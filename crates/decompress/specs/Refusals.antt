-- Why nothing is read.
use Rattle.std.specs.Prelude.{ℕ, ◌≡◌, List, Bool, Result, Err}
use Rattle.schc_ids.specs.declared.faults.ResidueFault.{ResidueFault}
use Rattle.schc_ids.specs.declared.faults.UnpackFault.{UnpackFault}
use Rattle.schc_ids.specs.declared.faults.UnpackFault.TheVariants.{BadResidue, Memory}
use Rattle.rule_model.specs.declared.rule.Action.{Action}
use Rattle.rule_model.specs.declared.rule.Action.TheVariants.{NotSent, Compute, DevIid, AppIid}
use Rattle.rule_model.specs.declared.value.FieldValue.{FieldValue}
use Rattle.decompress.specs.declared.entry.EntryFault.{EntryFault}
use Rattle.decompress.specs.declared.entry.EntryFault.TheVariants as why

-- want of memory, or the entry and the cause are those that are read; no other fault
abbrev pub IsRefusal : UnpackFault → Result (List FieldValue × List Bool) UnpackFault → Type 0
IsRefusal Memory read = Unit {0}
IsRefusal (BadResidue entry cause) read = read ≡ Err (BadResidue entry cause)
IsRefusal _ read = ⊥

-- the same for one entry
abbrev pub IsEntryRefusal : EntryFault → Result (List Bool × List Bool) ResidueFault → Type 0
IsEntryRefusal why.Memory read = Unit {0}
IsEntryRefusal (why.Residue fault) read = read ≡ Err fault

-- nothing is sent of the value
abbrev pub IsUnsent : Action → Type 0
IsUnsent NotSent = Unit {0}
IsUnsent Compute = Unit {0}
IsUnsent DevIid = Unit {0}
IsUnsent AppIid = Unit {0}
IsUnsent _ = ⊥

-- the fault of the entry of this number
abbrev pub fault_at : ℕ → EntryFault → UnpackFault
fault_at number (why.Residue fault) = BadResidue number fault
fault_at number why.Memory = Memory
