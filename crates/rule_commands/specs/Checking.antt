-- Which editions of a context can be published, as `check` prints it.
use Rattle.std.specs.Prelude.{ℕ, not, List, [], ◌∷◌, ◌++◌, length, filter, Option, Some, None}
use Rattle.std.specs.Prelude.{Result, Ok, Err, codes}
use Rattle.std.specs.Fmt.{decimal}
use Rattle.std.specs.Option.{option_map}
use Rattle.rule_model.specs.declared.finding.Finding.{Finding}
use Rattle.rule_model.specs.RawData.{RawEditionData}
use Rattle.rule_json.specs.Data.{ContextData}
use Rattle.rule_json.specs.Texts.{context_of}
use Rattle.editions.specs.declared.listed.Listed.{Listed}
use Rattle.editions.specs.Data.{EditionData, first_edition}
use Rattle.publishing.specs.Published.{published}
use Rattle.printed_words.specs.Words.{finding_text}
use Rattle.rule_commands.specs.OutputData.{OutputData, after_text}

-- the line of an edition that can be published: how many of its rules are live, and how many
-- retired
unfoldable pub edition_line : EditionData → List ℕ
edition_line edition =
    codes "edition "
    ++ (decimal edition.number
    ++ (codes " ok live "
    ++ (decimal (length (filter (λ (listed : Listed). listed.live) edition.rules))
    ++ (codes
    " retired " ++ (decimal
    (length (filter (λ (listed : Listed). not listed.live) edition.rules)) ++ codes "\n")))))

-- the line of an edition that can't
unfoldable pub refused_line : RawEditionData → Finding → List ℕ
refused_line raw finding =
    codes "edition " ++ (decimal raw.number ++ (codes " " ++ (finding_text finding ++ codes "\n")))

-- the line of the edition, and those of the editions after it
abbrev pub checked_next : RawEditionData → Result EditionData Finding → (EditionData → OutputData)
    → OutputData
checked_next raw (Err finding) later =
    record { text = refused_line raw finding; refused = Some finding }
checked_next raw (Ok next) later = after_text (edition_line next) (later next)

-- the lines of these editions, each of which is to follow the one before, up to the first that
-- can't
abbrev pub checked_from : EditionData → List RawEditionData → OutputData
checked_from last [] = record { text = []; refused = None }
checked_from last (raw ∷ later) =
    checked_next raw (published last raw) (λ next. checked_from next later)

-- the output of `check` for a text; none where it is no context
abbrev pub check_of : List ℕ → Option OutputData
check_of text =
    option_map (λ (context : ContextData). checked_from first_edition context.editions)
    (context_of text)
