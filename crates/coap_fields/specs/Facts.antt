-- What holds of the fields of each message.
use Rattle.std.specs.Prelude.{◌≡◌, ◌≢◌, ◌⊎◌, ◌*◌, ◌%◌, ◌<◌, ◌≤◌, true, List, length, AllPairs}
use Rattle.std.specs.Prelude.{Contains}
use Rattle.schc_ids.specs.declared.names.FieldAt.{FieldAt}
use Rattle.schc_ids.specs.declared.names.FieldName.TheVariants.{CoapToken}
use Rattle.schc_ids.specs.declared.names.Layer.TheVariants as layer
use Rattle.schc_ids.specs.Names.{is_option, layer_of, rank_of}
use Rattle.rule_model.specs.declared.value.FieldValue.{FieldValue}
use Rattle.rule_model.specs.Residue.{WidthHolds, token_bits}

-- the field stands before the other one in packet order: by rank, and options of one number by
-- position
abbrev pub StandsBefore : FieldAt → FieldAt → Type 0
StandsBefore at other =
    (rank_of at.name < rank_of other.name)
    ⊎ ((rank_of at.name ≡ rank_of other.name) × (at.position < other.position))

-- fields as a message has them: of CoAP, in packet order, so each once, with their widths; a token
-- has the bits that the token length field says, an option's value is whole bytes, at most 269 +
-- 65,535 of them
pub record AreCoapFields (fields : List FieldValue) : Type 0 where
  pub of_coap : (f : FieldValue) → Contains fields f → layer_of f.at.name ≡ layer.Coap
  pub in_order : AllPairs (λ f g. StandsBefore f.at g.at) fields
  pub each_once : AllPairs (λ f g. f.at ≢ g.at) fields
  pub width_holds : (f : FieldValue) → Contains fields f → WidthHolds f.at.name f.value
  pub token_holds : (f : FieldValue) → Contains fields f → f.at.name ≡ CoapToken
      → length f.value ≡ token_bits fields
  pub whole_bytes : (f : FieldValue) → Contains fields f → is_option f.at.name ≡ true
      → length f.value % 8 ≡ 0
  pub size_holds : (f : FieldValue) → Contains fields f → is_option f.at.name ≡ true
      → length f.value ≤ 8 * 65804
