-- RFC 8724, sections 8.3.2 and 8.3.5: what a receiver sends.
use Rattle.std.specs.Prelude.{ℕ, ◌≡◌, ◌+◌, ◌-◌, ◌*◌, ◌/◌, ◌^◌, ◌==◌, ◌<◌, ◌≤◌, ◌≢◌, ◌⊎◌, zero, suc}
use Rattle.std.specs.Prelude.{min, Bool, true, false, ◌&&◌, if◌then◌else◌, List, [], ◌∷◌, ◌++◌}
use Rattle.std.specs.Prelude.{length, take, drop, replicate, nat_le, Result, Ok, Err}
use Rattle.schc_bits.specs.Bits.{number_bits, bits_value, octets}
use Rattle.schc_ids.specs.declared.faults.WireFault.{WireFault}
use Rattle.schc_ids.specs.declared.faults.WireFault.TheVariants.{Empty, TooShort, WrongForm}
use Rattle.frag_wire.specs.declared.message.Message.{Message}
use Rattle.frag_wire.specs.declared.message.Message.TheVariants as form
use Rattle.frag_wire.specs.Fields.{number_in}
use Rattle.frag_wire.specs.Forms.{all_ones, fragment_head}

-- what an answer begins with: W, and C in one bit
abbrev pub answer_head : ℕ → ℕ → ℕ → List Bool
answer_head w_bits w c = fragment_head w_bits 1 w c

-- RFC 8724, section 8.3.2: C is 1, and there is no bitmap; the padding isn't looked at
pub record IsAckOfAll (w_bits : ℕ) (w : ℕ) (bitmap : ℕ) (payload : List Bool)
    (bytes : List ℕ) : Type 0 where
  pub window : w < 2 ^ w_bits
  pub no_bitmap : bitmap ≡ 0
  pub no_payload : payload ≡ []
  pub padding : List Bool
  pub bits : octets bytes ≡ answer_head w_bits w 1 ++ padding

-- RFC 8724, sections 8.3.2 and 8.3.2.1: C is 0, and then comes the bitmap of `size` bits, of which
-- the last ones may be left out if they are 1; what comes after it isn't looked at
pub record IsAckOfSome (w_bits : ℕ) (size : ℕ) (w : ℕ) (bitmap : ℕ) (payload : List Bool)
    (bytes : List ℕ) : Type 0 where
  pub window : w < 2 ^ w_bits
  pub fits : bitmap < 2 ^ size
  pub no_payload : payload ≡ []
  pub rest : List Bool
  pub bits : octets bytes ≡ answer_head w_bits w 0 ++ rest
  pub tiles : number_bits size bitmap ≡ take size (rest ++ replicate size true)

-- RFC 8724, section 8.3.5: a Receiver-Abort is two bytes of ones
pub record IsReceiverAbort (payload : List Bool) (bytes : List ℕ) : Type 0 where
  pub no_payload : payload ≡ []
  pub bits : octets bytes ≡ number_bits 16 (all_ones 16)

-- the bytes begin with this W and this C
pub record AnswerBegins (w_bits : ℕ) (w : ℕ) (c : ℕ) (bytes : List ℕ) : Type 0 where
  pub window : w < 2 ^ w_bits
  pub flag : c < 2
  pub rest : List Bool
  pub bits : octets bytes ≡ answer_head w_bits w c ++ rest

-- the bytes are the answer, in a mode with W of `w_bits` bits and bitmaps of `size` bits, which has
-- at most `most` bytes
abbrev pub SpellsAnswer : ℕ → ℕ → ℕ → Message → List Bool → List ℕ → Type 0
SpellsAnswer w_bits size most (form.Regular w fcn from) payload bytes = ⊥
SpellsAnswer w_bits size most (form.All1 w rcs from) payload bytes = ⊥
SpellsAnswer w_bits size most (form.Ack w true bitmap) payload bytes =
    IsAckOfAll w_bits w bitmap payload bytes × (length bytes ≡ 1)
SpellsAnswer w_bits size most (form.Ack w false bitmap) payload bytes =
    IsAckOfSome w_bits size w bitmap payload bytes × (1 ≤ length bytes) × (length bytes ≤ most)
SpellsAnswer w_bits size most (form.AckReq w) payload bytes = ⊥
SpellsAnswer w_bits size most form.SenderAbort payload bytes = ⊥
SpellsAnswer w_bits size most form.ReceiverAbort payload bytes = IsReceiverAbort payload bytes

-- the bytes are no answer, for this cause: a C of 1 with more than one byte that isn't a
-- Receiver-Abort, and a C of 0 with too many bytes, have no form
abbrev pub IsAnswerFault : ℕ → ℕ → WireFault → List ℕ → Type 0
IsAnswerFault w_bits most Empty bytes = length bytes ≡ 0
IsAnswerFault w_bits most TooShort bytes = ⊥
IsAnswerFault w_bits most WrongForm bytes =
    (((w : ℕ) × AnswerBegins w_bits w 1 bytes) × (2 ≤ length bytes)
    × (octets bytes ≢ number_bits 16 (all_ones 16))) ⊎
    (((w : ℕ) × AnswerBegins w_bits w 0 bytes) × (most < length bytes))

-- the bitmap that begins at the bit `from`; bits that aren't there are 1
unfoldable pub bitmap_in : ℕ → ℕ → List ℕ → ℕ
bitmap_in from size bytes = bits_value (take size (drop from (octets bytes) ++ replicate size true))

-- the same from the first byte on: what the bytes are
unfoldable pub answer_reading : ℕ → ℕ → ℕ → List ℕ → Result Message WireFault
answer_reading w_bits size most bytes =
    if length bytes == 0 then Err Empty
    else if number_in w_bits 1 bytes == 0 then
    (if nat_le (length bytes) most then Ok
    (form.Ack (number_in 0 w_bits bytes) false (bitmap_in (w_bits + 1) size bytes))
    else Err WrongForm)
    else if length bytes == 1 then Ok (form.Ack (number_in 0 w_bits bytes) true 0)
    else if length bytes == 2 && number_in 0 16 bytes == 65535 then Ok form.ReceiverAbort
    else Err WrongForm

abbrev pub after_bit : Bool → ℕ → ℕ
after_bit bit (suc place) = suc (suc place)
after_bit true zero = 0
after_bit false zero = 1

-- the place after the last 0 bit; 0 where there is none
abbrev pub after_last_zero : List Bool → ℕ
after_last_zero [] = 0
after_last_zero (bit ∷ bits) = after_bit bit (after_last_zero bits)

-- RFC 8724, section 8.3.2.1: how many bits of an answer with `header` bits before its bitmap are
-- sent: up to the last 0 bit, and from there on to the next boundary of a byte or to the bitmap's
-- end
unfoldable pub kept_length : ℕ → List Bool → ℕ
kept_length header bitmap =
    min (8 * ((header + after_last_zero bitmap + 7) / 8)) (header + length bitmap)

-- the bits of the bitmap that are sent
unfoldable pub kept_bits : ℕ → List Bool → List Bool
kept_bits header bitmap = take (kept_length header bitmap - header) bitmap

-- the answer can be written
abbrev pub CanSpellAnswer : ℕ → ℕ → Message → List Bool → Type 0
CanSpellAnswer w_bits size (form.Regular w fcn from) payload = ⊥
CanSpellAnswer w_bits size (form.All1 w rcs from) payload = ⊥
CanSpellAnswer w_bits size (form.Ack w true bitmap) payload = (w < 2 ^ w_bits) × (bitmap ≡ 0)
    × (payload ≡ [])
CanSpellAnswer w_bits size (form.Ack w false bitmap) payload = (w < 2 ^ w_bits)
    × (bitmap < 2 ^ size) × (payload ≡ [])
CanSpellAnswer w_bits size (form.AckReq w) payload = ⊥
CanSpellAnswer w_bits size form.SenderAbort payload = ⊥
CanSpellAnswer w_bits size form.ReceiverAbort payload = payload ≡ []
