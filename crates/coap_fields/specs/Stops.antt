-- The byte at which bytes that spell no message stop to be one: RFC 7252, section 3.
use Rattle.std.specs.Prelude.{ℕ, ◌≡◌, ◌≢◌, ◌⊎◌, ◌+◌, ◌-◌, ◌*◌, ◌/◌, ◌%◌, ◌==◌, ◌<◌, ◌≤◌, ◌||◌, Bool}
use Rattle.std.specs.Prelude.{true, false, nat_lt, if◌then◌else◌, List, [], ◌∷◌, ◌++◌, length, drop}
use Rattle.std.specs.Prelude.{get_or}
use Rattle.rule_model.specs.declared.parts.SplitFault.{SplitFault}
use Rattle.rule_model.specs.declared.parts.SplitFault.TheVariants.{NotCoap, Memory}
use Rattle.coap_fields.specs.Message.{OptionData, next_place, AreOptions, options_spelled}
use Rattle.coap_fields.specs.Reading.{is_number_wrong, is_first_wrong}

-- how many bytes more a number of these four bits has: none up to 12, one for 13, two for 14
-- (section 3.1)
abbrev pub bytes_more : ℕ → ℕ
bytes_more bits = if nat_lt bits 13 then 0 else (if bits == 13 then 1 else 2)

-- the number that four bits and the bytes after them mean, where a byte that lacks counts as 0
abbrev pub number_meant : ℕ → List ℕ → ℕ
number_meant bits bytes =
    if nat_lt bits 13 then bits
    else (if bits == 13 then 13 + get_or bytes 0 0 else 269 + 256 * get_or bytes 0 0 + get_or bytes
    1 0)

-- four bits of an option's first byte are 15
abbrev pub has_four_ones : ℕ → Bool
has_four_ones first = (first / 16 == 15) || (first % 16 == 15)

-- the number of an option that begins with the byte `first` after one of the number `before`
abbrev pub number_of_option : ℕ → ℕ → List ℕ → ℕ
number_of_option before first bytes = before + number_meant (first / 16) bytes

-- how many bytes an option has after its first byte: those of its number, those of its length, and
-- its value
abbrev pub bytes_of_option : ℕ → List ℕ → ℕ
bytes_of_option first bytes =
    bytes_more (first / 16) + bytes_more (first % 16) + number_meant (first % 16)
    (drop (bytes_more (first / 16)) bytes)

-- the option's number is there, and is above 65,535 or stands there for the 65,536th time
pub record IsNumberRefused (before : ℕ) (place : ℕ) (first : ℕ) (bytes : List ℕ) : Type 0 where
  pub bits : has_four_ones first ≡ false
  pub there : bytes_more (first / 16) ≤ length bytes
  pub wrong : is_number_wrong before place (number_of_option before first bytes) ≡ true

-- bytes of the option lack, and its number, where that is there, isn't refused
pub record DoBytesLack (before : ℕ) (place : ℕ) (first : ℕ) (bytes : List ℕ) : Type 0 where
  pub bits : has_four_ones first ≡ false
  pub right : bytes_more (first / 16) ≤ length bytes
      → is_number_wrong before place (number_of_option before first bytes) ≡ false
  pub lack : length bytes < bytes_of_option first bytes

-- what begins with the byte `first`, at the byte `here` of `size` bytes, is no option after one of
-- this number and place, and is refused at this byte: at its first byte for four bits of 15 or for
-- its number, at the end where bytes lack
abbrev pub OptionStops : ℕ → ℕ → ℕ → ℕ → ℕ → List ℕ → ℕ → Type 0
OptionStops size here before place first bytes stop =
    ((has_four_ones first ≡ true) × (stop ≡ here))
    ⊎ ((IsNumberRefused before place first bytes × (stop ≡ here))
    ⊎ (DoBytesLack before place first bytes × (stop ≡ size)))

-- what is left after whole options: the marker with nothing after it, which is refused at the end,
-- or no option
abbrev pub RestStops : ℕ → ℕ → ℕ → List ℕ → ℕ → Type 0
RestStops size before place [] stop = ⊥
RestStops size before place (first ∷ bytes) stop =
    ((first ≡ 255) × ((bytes ≡ []) × (stop ≡ size)))
    ⊎ ((first ≢ 255)
    × OptionStops size (size - length (first ∷ bytes)) before place first bytes stop)

-- the number of the last of these options, and which one it is among those of its number
abbrev pub last_number : ℕ → List OptionData → ℕ
last_number before [] = before
last_number before (o ∷ options) = last_number o.number options

abbrev pub last_place : ℕ → ℕ → List OptionData → ℕ
last_place before place [] = place
last_place before place (o ∷ options) =
    last_place o.number (next_place before place o.number) options

-- whole options, after one of this number and place, and then bytes that are refused at this byte
-- of `size`
pub record OptionsStop (size : ℕ) (before : ℕ) (place : ℕ) (bytes : List ℕ) (stop : ℕ) : Type 0
  where
    pub options : List OptionData
    pub rest : List ℕ
    pub are_options : AreOptions before place options
    pub bytes_are : bytes ≡ options_spelled before options ++ rest
    pub stops : RestStops size (last_number before options) (last_place before place options) rest
        stop

-- after the first byte of a message, with a right version and token length: bytes of the header or
-- the token lack, or what stands after them is refused
abbrev pub HeaderStops : ℕ → ℕ → List ℕ → ℕ → Type 0
HeaderStops size first bytes stop =
    ((length bytes < 3 + first % 16) × (stop ≡ size))
    ⊎ ((3 + first % 16 ≤ length bytes)
    × OptionsStop size 0 0 (drop (first % 16) (drop 3 bytes)) stop)

-- the bytes stop to be a message at this byte: the first for another version than 1 or a token of
-- more than 8 bytes, the first byte of an option for four bits of 15, for a number above 65,535, or
-- for one that stands there for the 65,536th time, and the end where bytes lack or nothing follows
-- the marker
abbrev pub StopsAt : List ℕ → ℕ → Type 0
StopsAt [] stop = stop ≡ 0
StopsAt (first ∷ bytes) stop =
    ((is_first_wrong first ≡ true) × (stop ≡ 0))
    ⊎ ((is_first_wrong first ≡ false) × HeaderStops (length (first ∷ bytes)) first bytes stop)

-- want of memory, or the bytes stop to be a message at this place, which is at most their number;
-- no other fault
abbrev pub IsStop : SplitFault → List ℕ → Type 0
IsStop Memory bytes = Unit {0}
IsStop (NotCoap stop) bytes = StopsAt bytes stop × (stop ≤ length bytes)
IsStop _ bytes = ⊥
