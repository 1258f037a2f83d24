-- The tables by which suspects are found.
use Rattle.std.specs.Prelude.{ℕ, ◌≡◌, List}
use Rattle.std.specs.Option.{option_map_or}
use Rattle.std.specs.Ordering.{nat_cmp}
use Rattle.std.specs.BTreeMap.{get}
use Rattle.schc_ids.specs.declared.ends.Direction.{Direction}
use Rattle.schc_ids.specs.declared.ends.Direction.TheVariants as way
use Rattle.schc_ids.specs.declared.names.Stack.{Stack}
use Rattle.schc_ids.specs.declared.names.Stack.TheVariants as stack
use Rattle.editions.specs.declared.listed.Listed.{Listed}
use Rattle.editions.specs.declared.tables.KeyTable.{KeyTable}
use Rattle.editions.specs.declared.tables.StackTables.{StackTables}
use Rattle.editions.specs.declared.tables.Index.{Index}
use Rattle.editions.specs.Data.{EditionData, AreAdmitted}
use Rattle.editions.specs.Chains.{IsEdition}
use Rattle.editions.specs.Suspects.{suspects}

-- the RuleIDs that the table has for the key: those beside it, or the others where it isn't there
abbrev pub ids_in : KeyTable → ℕ → List ℕ
ids_in table key = option_map_or (λ ids. ids.items) (get nat_cmp table.rows key) table.others.items

-- the table of a stack
abbrev pub table_of_stack : StackTables → Stack → KeyTable
table_of_stack tables stack.Ip = tables.ip
table_of_stack tables stack.IpUdp = tables.ip_udp
table_of_stack tables stack.IpUdpCoap = tables.ip_udp_coap

-- the table of a direction and a stack
abbrev pub table_of : Index → Direction → Stack → KeyTable
table_of index way.Up headers = table_of_stack index.up headers
table_of index way.Down headers = table_of_stack index.down headers

-- the tables have the suspects of these rules
abbrev pub IsIndexOf : List Listed → Index → Type 0
IsIndexOf rules index =
    (direction : Direction) (headers : Stack) (key : ℕ)
    → ids_in (table_of index direction headers) key ≡ suspects rules direction headers key

-- what an edition of the program keeps: it is the last one of a chain, its rules are admitted, and
-- the tables have their suspects
pub record KeepsEdition (edition : EditionData) (index : Index) : Type 0 where
  pub is_edition : IsEdition edition
  pub admitted : AreAdmitted edition.rules
  pub is_index : IsIndexOf edition.rules index
