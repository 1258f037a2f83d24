-- The same options in plainer words: RFC 7252, sections 3.1 and 5.4.5 (repeatable options).
use Rattle.std.specs.Prelude.{ℕ, ◌≡◌, ◌↔◌, ◌+◌, ◌==◌, ◌≤◌, if◌then◌else◌, List, [], ◌∷◌, ◌++◌}
use Rattle.std.specs.Prelude.{length}
use Rattle.std.specs.List.{AllByRecursion}
use Rattle.schc_bits.specs.Bits.{AreBytes}
use Rattle.rule_model.specs.declared.value.FieldValue.{FieldValue}
use Rattle.coap_fields.specs.Message.{OptionData, AreOptions}
use Rattle.coap_fields.specs.Fields.{option_field, option_fields}

-- how often a number stands among the options
abbrev pub repeats : ℕ → List OptionData → ℕ
repeats number [] = 0
repeats number (o ∷ options) = (if o.number == number then 1 else 0) + repeats number options

-- numbers ascend, from this one on
abbrev pub Ascend : ℕ → List OptionData → Type 0
Ascend least [] = Unit {0}
Ascend least (o ∷ options) = (least ≤ o.number) × Ascend o.number options

-- an option's number is at most 65,535, and its value has at most 269 + 65,535 bytes
pub record IsSpellable (o : OptionData) : Type 0 where
  pub number : o.number ≤ 65535
  pub size : length o.value ≤ 65804
  pub bytes : AreBytes o.value

-- numbers ascend, each option can be spelled, and no number stands more than 65,535 times
pub record AreSpellable (options : List OptionData) : Type 0 where
  pub ascend : Ascend 0 options
  pub each : AllByRecursion IsSpellable options
  pub few : (number : ℕ) → repeats number options ≤ 65535

-- each option as a field, at the position that counts the options of its number among `earlier`
-- ones and itself
abbrev pub counted_fields : List OptionData → List OptionData → List FieldValue
counted_fields earlier [] = []
counted_fields earlier (o ∷ options) =
    option_field o.number (repeats o.number earlier + 1) o.value ∷ counted_fields
    (earlier ++ o ∷ []) options

-- options can stand in a message exactly where they are spellable
abbrev pub AreSpellableExactly : Type 0
AreSpellableExactly = (options : List OptionData) → AreOptions 0 0 options ↔ AreSpellable options

-- positions count the options of one number from 1
abbrev pub CountsPositions : Type 0
CountsPositions = (options : List OptionData) → AreOptions 0 0 options
    → option_fields 0 0 options ≡ counted_fields [] options
