-- CoAP messages and their spelling: RFC 7252, section 3.
use Rattle.std.specs.Prelude.{ℕ, ◌+◌, ◌-◌, ◌*◌, ◌/◌, ◌%◌, ◌==◌, ◌<◌, ◌≤◌, nat_lt, if◌then◌else◌}
use Rattle.std.specs.Prelude.{List, [], ◌∷◌, ◌++◌, length}
use Rattle.schc_bits.specs.Bits.{AreBytes}

-- an option: its number, and the bytes of its value
pub record OptionData : Type 0 where
  pub number : ℕ
  pub value : List ℕ

-- a message: its type, code and message ID, its token, its options in ascending order of their
-- numbers, and its payload
pub record Message : Type 0 where
  pub kind : ℕ
  pub code : ℕ
  pub id : ℕ
  pub token : List ℕ
  pub options : List OptionData
  pub payload : List ℕ

-- which one an option is among those of its number, counted from 1, where `before` and `place` are
-- the number and the place of the option before it. In front of the first option they are 0 and 0
abbrev pub next_place : ℕ → ℕ → ℕ → ℕ
next_place before place number = if number == before then place + 1 else 1

-- an option that can stand after one of this number and place: numbers ascend, are at most 65,535,
-- and none stands more than 65,535 times; a value has at most 269 + 65,535 bytes
pub record IsOption (before : ℕ) (place : ℕ) (o : OptionData) : Type 0 where
  pub ascends : before ≤ o.number
  pub number : o.number ≤ 65535
  pub repeats : next_place before place o.number ≤ 65535
  pub size : length o.value ≤ 65804
  pub bytes : AreBytes o.value

-- options that can stand, in this order, after one of this number and place
abbrev pub AreOptions : ℕ → ℕ → List OptionData → Type 0
AreOptions before place [] = Unit {0}
AreOptions before place (o ∷ options) =
    IsOption before place o × AreOptions o.number (next_place before place o.number) options

-- a message that can be spelled
pub record IsMessage (m : Message) : Type 0 where
  pub kind : m.kind < 4
  pub code : m.code < 256
  pub id : m.id < 65536
  pub token : length m.token ≤ 8
  pub token_bytes : AreBytes m.token
  pub options : AreOptions 0 0 m.options
  pub payload_bytes : AreBytes m.payload

-- the four bits that stand for a number: the number up to 12, 13 for one byte more, 14 for two
-- bytes more
abbrev pub nibble : ℕ → ℕ
nibble number = if nat_lt number 13 then number else (if nat_lt number 269 then 13 else 14)

-- the bytes that follow: none, the number less 13, or the number less 269
abbrev pub extension : ℕ → List ℕ
extension number =
    if nat_lt number 13 then []
    else (if nat_lt number 269 then (number - 13) ∷ [] else (number - 269) /
    256 ∷ (number - 269) % 256 ∷ [])

-- an option after one of this number: what its number adds, the length of its value, and the value
-- (section 3.1)
abbrev pub option_spelled : ℕ → OptionData → List ℕ
option_spelled before o =
    (16 * nibble (o.number - before) + nibble (length o.value))
    ∷ (extension (o.number - before) ++ (extension (length o.value) ++ o.value))

-- options after one of this number
unfoldable pub options_spelled : ℕ → List OptionData → List ℕ
options_spelled before [] = []
options_spelled before (o ∷ options) = option_spelled before o ++ options_spelled o.number options

-- nothing, or the marker and at least one byte
abbrev pub payload_spelled : List ℕ → List ℕ
payload_spelled [] = []
payload_spelled (byte ∷ bytes) = 255 ∷ byte ∷ bytes

-- the header: version 1, the type, the length of the token, the code and the message ID
abbrev pub header_spelled : Message → List ℕ
header_spelled m = (64 + 16 * m.kind + length m.token) ∷ m.code ∷ m.id / 256 ∷ m.id % 256 ∷ []

-- the bytes of a message
unfoldable pub spelled : Message → List ℕ
spelled m =
    header_spelled m ++ (m.token ++ (options_spelled 0 m.options ++ payload_spelled m.payload))
