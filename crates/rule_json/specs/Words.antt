-- The words of rule text: identifiers in the manner of RFC 9363.
use Rattle.std.specs.Prelude.{ℕ, Bool, true, false, if◌then◌else◌, List, Option, Some, None, codes}
use Rattle.std.specs.Str.{bytes_eq}
use Rattle.schc_ids.specs.declared.ends.Direction.{Direction}
use Rattle.schc_ids.specs.declared.ends.Direction.TheVariants as way
use Rattle.schc_ids.specs.declared.ends.DirInd.{DirInd}
use Rattle.schc_ids.specs.declared.ends.DirInd.TheVariants as indicator
use Rattle.schc_ids.specs.declared.ends.LastTile.{LastTile}
use Rattle.schc_ids.specs.declared.ends.LastTile.TheVariants as last_tile
use Rattle.rule_model.specs.declared.rule.Length.{Length}
use Rattle.rule_model.specs.declared.rule.Length.TheVariants.{Variable, TokenLength}
use Rattle.rule_model.specs.declared.rule.Operator.{Operator}
use Rattle.rule_model.specs.declared.rule.Operator.TheVariants as operator
use Rattle.rule_model.specs.declared.rule.Action.{Action}
use Rattle.rule_model.specs.declared.rule.Action.TheVariants as action

-- the direction of packets
unfoldable pub direction_of : List ℕ → Option Direction
direction_of text =
    if bytes_eq text (codes "di-up") then Some way.Up
    else if bytes_eq text (codes "di-down") then Some way.Down
    else None

-- the direction indicator
unfoldable pub indicator_of : List ℕ → Option DirInd
indicator_of text =
    if bytes_eq text (codes "di-up") then Some indicator.Up
    else if bytes_eq text (codes "di-down") then Some indicator.Down
    else if bytes_eq text (codes "di-bidirectional") then Some indicator.Both
    else None

-- a field length that is no number
unfoldable pub length_word : List ℕ → Option Length
length_word text =
    if bytes_eq text (codes "fl-variable") then Some Variable
    else if bytes_eq text (codes "fl-token-length") then Some TokenLength
    else None

-- a matching operator without a value
unfoldable pub plain_operator : List ℕ → Option Operator
plain_operator text =
    if bytes_eq text (codes "mo-equal") then Some operator.Equal
    else if bytes_eq text (codes "mo-ignore") then Some operator.Ignore
    else if bytes_eq text (codes "mo-match-mapping") then Some operator.MatchMapping
    else None

-- the matching operator that has a value
abbrev pub is_msb : List ℕ → Bool
is_msb text = bytes_eq text (codes "mo-msb")

-- the compression and decompression action
unfoldable pub action_of : List ℕ → Option Action
action_of text =
    if bytes_eq text (codes "cda-not-sent") then Some action.NotSent
    else if bytes_eq text (codes "cda-value-sent") then Some action.ValueSent
    else if bytes_eq text (codes "cda-mapping-sent") then Some action.MappingSent
    else if bytes_eq text (codes "cda-lsb") then Some action.Lsb
    else if bytes_eq text (codes "cda-compute") then Some action.Compute
    else if bytes_eq text (codes "cda-deviid") then Some action.DevIid
    else if bytes_eq text (codes "cda-appiid") then Some action.AppIid
    else None

-- whether fragments are answered
unfoldable pub acked_of : List ℕ → Option Bool
acked_of text =
    if bytes_eq text (codes "acked") then Some true
    else if bytes_eq text (codes "noack") then Some false
    else None

-- where the last tile goes (RFC 8724, section 8.4.3)
unfoldable pub last_tile_of : List ℕ → Option LastTile
last_tile_of text =
    if bytes_eq text (codes "all1") then Some last_tile.InAll1
    else if bytes_eq text (codes "regular") then Some last_tile.InRegular
    else None

-- the words back

abbrev pub indicator_text : DirInd → List ℕ
indicator_text indicator.Up = codes "di-up"
indicator_text indicator.Down = codes "di-down"
indicator_text indicator.Both = codes "di-bidirectional"

abbrev pub operator_text : Operator → List ℕ
operator_text operator.Equal = codes "mo-equal"
operator_text operator.Ignore = codes "mo-ignore"
operator_text (operator.Msb bits) = codes "mo-msb"
operator_text operator.MatchMapping = codes "mo-match-mapping"

abbrev pub action_text : Action → List ℕ
action_text action.NotSent = codes "cda-not-sent"
action_text action.ValueSent = codes "cda-value-sent"
action_text action.MappingSent = codes "cda-mapping-sent"
action_text action.Lsb = codes "cda-lsb"
action_text action.Compute = codes "cda-compute"
action_text action.DevIid = codes "cda-deviid"
action_text action.AppIid = codes "cda-appiid"
