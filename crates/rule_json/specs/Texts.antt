-- The meaning of a text: the JSON value that it is, and what its layout makes of that value.
use Rattle.std.specs.Prelude.{ℕ, if◌then◌else◌, List, Option, None}
use Rattle.std.specs.Option.{option_and_then}
use Rattle.std.specs.Str.{is_utf8}
use Rattle.serde_json.specs.Data.{Data}
use Rattle.serde_json.specs.Read.{read}
use Rattle.rule_model.specs.RawData.{RawEditionData}
use Rattle.rule_json.specs.Data.{ContextData, WorkData}
use Rattle.rule_json.specs.Layout.{edition_in}
use Rattle.rule_json.specs.Files.{context_in, work_in}

-- the JSON value that bytes are, in UTF-8 (RFC 8259, section 8.1); none where they are no JSON
unfoldable pub json_of : List ℕ → Option Data
json_of text = if is_utf8 text then read text else None

-- the edition that a text is
unfoldable pub edition_of : List ℕ → Option RawEditionData
edition_of text = option_and_then edition_in (json_of text)

-- the context that a text is
unfoldable pub context_of : List ℕ → Option ContextData
context_of text = option_and_then context_in (json_of text)

-- the work that a text is
unfoldable pub work_of : List ℕ → Option WorkData
work_of text = option_and_then work_in (json_of text)
