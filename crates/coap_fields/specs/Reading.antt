-- A message from its bytes, or the byte at which it stops to be one: RFC 7252, section 3.
use Rattle.std.specs.Prelude.{ℕ, ◌≡◌, ◌+◌, ◌-◌, ◌*◌, ◌/◌, ◌%◌, ◌==◌, Bool, not, ◌||◌, nat_lt}
use Rattle.std.specs.Prelude.{if◌then◌else◌, zero, suc, List, [], ◌∷◌, ◌++◌, length, take, drop}
use Rattle.std.specs.Prelude.{Option, Some, None, Result, Ok, Err}
use Rattle.rule_model.specs.declared.value.FieldValue.{FieldValue}
use Rattle.rule_model.specs.declared.parts.SplitFault.{SplitFault}
use Rattle.rule_model.specs.declared.parts.SplitFault.TheVariants.{NotCoap, Memory}
use Rattle.rule_model.specs.SplitData.{SplitData}
use Rattle.coap_fields.specs.Message.{OptionData, Message, next_place}
use Rattle.coap_fields.specs.Fields.{fields_of_message}

-- a number of 13 and one byte more
abbrev pub one_more : List ℕ → Option (ℕ × List ℕ)
one_more [] = None
one_more (byte ∷ rest) = Some (13 + byte, rest)

-- a number of 269 and two bytes more
abbrev pub two_more : List ℕ → Option (ℕ × List ℕ)
two_more (high ∷ low ∷ rest) = Some (269 + 256 * high + low, rest)
two_more _ = None

-- the number that four bits, below 15, and the bytes after them stand for, and the bytes that are
-- left; none where bytes lack
unfoldable pub extended : ℕ → List ℕ → Option (ℕ × List ℕ)
extended bits bytes =
    if nat_lt bits 13 then Some (bits, bytes)
    else (if bits == 13 then one_more bytes else two_more bytes)

-- goes on with a number and the bytes that are left; where bytes lack, nothing is read from the
-- message's end on
abbrev pub then_number : {A : Type 0} → ℕ → Option (ℕ × List ℕ) → (ℕ → List ℕ → Result A ℕ)
    → Result A ℕ
then_number size None next = Err size
then_number size (Some read) next = next read.0 read.1

-- a value of this many bytes, and the bytes that are left
abbrev pub value_at : ℕ → ℕ → ℕ → List ℕ → Result (OptionData × List ℕ) ℕ
value_at size number count bytes =
    if nat_lt (length bytes) count then Err size else Ok
    (record { number = number; value = take count bytes }, drop count bytes)

-- the number is too large, or stands there once too often
abbrev pub is_number_wrong : ℕ → ℕ → ℕ → Bool
is_number_wrong before place number =
    nat_lt 65535 number || nat_lt 65535 (next_place before place number)

-- the length and the value after the number of an option that begins at the byte `here`
abbrev pub numbered_at : ℕ → ℕ → ℕ → ℕ → ℕ → ℕ → List ℕ → Result (OptionData × List ℕ) ℕ
numbered_at size here before place bits delta bytes =
    if is_number_wrong before place (before + delta) then Err here
    else then_number size (extended bits bytes) (value_at size (before + delta))

-- the option that begins with the byte `first`, at the byte `here` of a message of `size` bytes,
-- after an option of this number and place, and the bytes that are left; or the byte at which no
-- reading goes on
unfoldable pub option_at : ℕ → ℕ → ℕ → ℕ → ℕ → List ℕ → Result (OptionData × List ℕ) ℕ
option_at size here before place first bytes =
    if (first / 16 == 15) || (first % 16 == 15) then Err here
    else then_number size (extended (first / 16) bytes)
    (numbered_at size here before place (first % 16))

-- after the marker stands at least one byte
abbrev pub payload_at : ℕ → List ℕ → Result (List OptionData × List ℕ) ℕ
payload_at size [] = Err size
payload_at size (byte ∷ bytes) = Ok ([], byte ∷ bytes)

-- one more option in front
abbrev pub with_option : OptionData → Result (List OptionData × List ℕ) ℕ
    → Result (List OptionData × List ℕ) ℕ
with_option o (Err stop) = Err stop
with_option o (Ok read) = Ok (o ∷ read.0, read.1)

-- goes on after an option
abbrev pub then_option : Result (OptionData × List ℕ) ℕ
    → (OptionData → List ℕ → Result (List OptionData × List ℕ) ℕ)
    → Result (List OptionData × List ℕ) ℕ
then_option (Err stop) next = Err stop
then_option (Ok read) next = with_option read.0 (next read.0 read.1)

-- at most `most` options and the payload, from the bytes that are left of a message of `size` bytes
unfoldable pub options_within : ℕ → ℕ → ℕ → ℕ → List ℕ → Result (List OptionData × List ℕ) ℕ
options_within zero size before place bytes = Ok ([], [])
options_within (suc most) size before place [] = Ok ([], [])
options_within (suc most) size before place (first ∷ bytes) =
    if first == 255 then payload_at size bytes
    else then_option (option_at size (size - length (first ∷ bytes)) before place first bytes)
    (λ o rest. options_within most size o.number (next_place before place o.number) rest)

-- the options and the payload; each option has a byte at least
abbrev pub options_at : ℕ → ℕ → ℕ → List ℕ → Result (List OptionData × List ℕ) ℕ
options_at size before place bytes = options_within (length bytes) size before place bytes

-- a message of this type, code, message ID and token, with what was read after them
abbrev pub with_header : ℕ → ℕ → ℕ → List ℕ → Result (List OptionData × List ℕ) ℕ → Result Message ℕ
with_header kind code id token (Err stop) = Err stop
with_header kind code id token (Ok read) =
    Ok (record
    { kind = kind; code = code; id = id; token = token; options = read.0; payload = read.1 })

-- the token, and what stands after it
abbrev pub token_at : ℕ → ℕ → ℕ → ℕ → ℕ → List ℕ → Result Message ℕ
token_at size kind tkl code id bytes =
    if nat_lt (length bytes) tkl then Err size
    else with_header kind code id (take tkl bytes) (options_at size 0 0 (drop tkl bytes))

-- the version isn't 1, or the token is longer than 8 bytes
abbrev pub is_first_wrong : ℕ → Bool
is_first_wrong first = not (first / 64 == 1) || nat_lt 8 (first % 16)

-- what stands after the first byte
abbrev pub header_at : ℕ → ℕ → List ℕ → Result Message ℕ
header_at size first (code ∷ high ∷ low ∷ bytes) =
    token_at size (first / 16 % 4) (first % 16) code (256 * high + low) bytes
header_at size first _ = Err size

-- a message that begins with this byte
abbrev pub first_at : ℕ → ℕ → List ℕ → Result Message ℕ
first_at size first bytes = if is_first_wrong first then Err 0 else header_at size first bytes

-- the message that the bytes spell, or the first byte at which no reading goes on, which is the end
-- where bytes lack
unfoldable pub read_message : List ℕ → Result Message ℕ
read_message [] = Err 0
read_message (first ∷ bytes) = first_at (length (first ∷ bytes)) first bytes

-- the fields of what was read from `size` bytes
abbrev pub split_of : ℕ → Result Message ℕ → Result SplitData ℕ
split_of size (Err stop) = Err stop
split_of size (Ok m) =
    Ok (record { fields = fields_of_message m; payload_from = size - length m.payload })

-- the fields of the message that the bytes spell and the byte at which its payload begins, or the
-- first byte at which no reading goes on
unfoldable pub message_in : List ℕ → Result SplitData ℕ
message_in bytes = split_of (length bytes) (read_message bytes)

-- the same fields behind others
abbrev pub behind : List FieldValue → Result SplitData ℕ → Result SplitData ℕ
behind front (Err stop) = Err stop
behind front (Ok split) =
    Ok (record { fields = front ++ split.fields; payload_from = split.payload_from })

-- want of memory, or no message is read, for this place; no other fault
abbrev pub IsRefusal : SplitFault → Result SplitData ℕ → Type 0
IsRefusal Memory read = Unit {0}
IsRefusal (NotCoap stop) read = read ≡ Err stop
IsRefusal _ read = ⊥
