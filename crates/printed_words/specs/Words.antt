-- The words that several texts print: bytes, findings, and why bits are no packet.
use Rattle.std.specs.Prelude.{ℕ, List, [], ◌∷◌, ◌++◌, Option, Some, None, codes}
use Rattle.std.specs.Fmt.{decimal}
use Rattle.hex.specs.Hex.{encode_lower}
use Rattle.schc_ids.specs.declared.names.FieldName.{FieldName}
use Rattle.schc_ids.specs.declared.names.FieldName.TheVariants.{CoapOption}
use Rattle.schc_ids.specs.declared.names.FieldAt.{FieldAt}
use Rattle.schc_ids.specs.declared.faults.ResidueFault.{ResidueFault}
use Rattle.schc_ids.specs.declared.faults.ResidueFault.TheVariants as residue
use Rattle.schc_ids.specs.declared.faults.UnpackFault.{UnpackFault}
use Rattle.schc_ids.specs.declared.faults.UnpackFault.TheVariants as unread
use Rattle.schc_ids.specs.Texts.{text_of}
use Rattle.rule_model.specs.declared.finding.Finding.{Finding}
use Rattle.rule_model.specs.FindingNames.{finding_name}

-- bytes as hex text in lower case, and no bytes as a dash
abbrev pub bytes_text : List ℕ → List ℕ
bytes_text [] = codes "-"
bytes_text (byte ∷ bytes) = encode_lower (byte ∷ bytes)

-- the name of a field: its text in rule text, and an option without one by its number
unfoldable pub number_text : FieldName → List ℕ
number_text (CoapOption number) = codes "fid-coap-option-" ++ decimal number
number_text name = []

abbrev pub text_or : Option (List ℕ) → FieldName → List ℕ
text_or (Some text) name = text
text_or None name = number_text name

unfoldable pub field_text : FieldName → List ℕ
field_text name = text_or (text_of name) name

-- the name of a field, and which one of its name it is, from 1
abbrev pub place_text : FieldAt → List ℕ
place_text at = field_text at.name ++ (codes " " ++ decimal at.position)

-- the word for why a residue can't be read
abbrev pub residue_text : ResidueFault → List ℕ
residue_text residue.Short = codes "short"
residue_text residue.IndexTooLarge = codes "index"
residue_text residue.NonMinimalSize = codes "size"

-- want of memory doesn't say that bits are no packet
abbrev pub IsUnread : UnpackFault → Type 0
IsUnread unread.Memory = ⊥
IsUnread _ = Unit {0}

-- why bits are no packet
unfoldable pub unread_text : UnpackFault → List ℕ
unread_text (unread.UnknownRule id) = codes "unknown-rule " ++ decimal id
unread_text (unread.BadResidue entry why) =
    codes "bad-residue " ++ (decimal entry ++ (codes " " ++ residue_text why))
unread_text (unread.BadPacket at) = codes "bad-packet " ++ place_text at
unread_text unread.Memory = []

-- a finding: its number, its name, and the rule and entry it is about, or 0
unfoldable pub finding_text : Finding → List ℕ
finding_text f =
    codes "refused "
    ++ (decimal f.number
    ++ (codes
    " " ++ (finding_name
    f.number ++ (codes " rule " ++ (decimal f.id ++ (codes " entry " ++ decimal f.entry))))))
