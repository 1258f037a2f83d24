-- What a reader answers.
use Rattle.std.specs.Prelude.{◌≡◌, Option, Some, None, Result, Ok, Err, ⊤}
use Rattle.rule_json.specs.declared.fault.JsonFault.{JsonFault}
use Rattle.rule_json.specs.declared.fault.JsonFault.TheVariants.{NotJson, NotLayout, Memory}

-- the reader gave what the layout gives, seen by `view`, or it refused what the layout refuses;
-- memory may always be wanting
abbrev pub Gives : {A B : Type 0} → (A → B) → Result A JsonFault → Option B → Type 0
Gives view (Ok x) given = given ≡ Some (view x)
Gives view (Err NotLayout) given = given ≡ None
Gives view (Err Memory) given = ⊤
Gives view (Err NotJson) given = ⊥

-- why a text has no JSON value for the reader: it has none, or memory is wanting
abbrev pub IsNoJson : {B : Type 0} → JsonFault → Option B → Type 0
IsNoJson NotJson json = json ≡ None
IsNoJson Memory json = ⊤
IsNoJson NotLayout json = ⊥
