-- RFC 8724, section 8.4.3, and RFC 9011, section 5.6.2: what the sender of the ACK-on-Error mode
-- sends, with a W of two bits, an FCN of six bits, windows of 63 tiles and tiles of ten bytes.
use Rattle.std.specs.Prelude.{ℕ, ◌≡◌, ◌+◌, ◌-◌, ◌*◌, ◌/◌, ◌^◌, ◌==◌, ◌<◌, ◌≤◌, ◌≢◌, ◌⊎◌, Bool}
use Rattle.std.specs.Prelude.{if◌then◌else◌, List, [], length, nat_le, Result, Ok, Err}
use Rattle.schc_ids.specs.declared.faults.WireFault.{WireFault}
use Rattle.schc_ids.specs.declared.faults.WireFault.TheVariants.{Empty, TooShort, WrongForm}
use Rattle.frag_wire.specs.declared.message.Message.{Message}
use Rattle.frag_wire.specs.declared.message.Message.TheVariants as form
use Rattle.frag_wire.specs.Fields.{number_in}
use Rattle.frag_wire.specs.Forms.{IsRegular, IsAll1, IsAckReq, IsSenderAbort, BeginsWith}

-- how many tiles a payload of `count` bytes has: ten bytes each, the last may have fewer
abbrev pub tiles_in : ℕ → ℕ
tiles_in count = (count + 9) / 10

-- how many tiles the four windows have up to the last one of the payload, of `count` bytes, whose
-- first tile is (w, fcn)
abbrev pub tiles_to : ℕ → ℕ → ℕ → ℕ
tiles_to w fcn count = 63 * w + (62 - fcn) + tiles_in count

-- the bytes are the message with the payload: a Regular has two bytes or more, and its tiles don't
-- pass the last one of the last window; an ACK REQ and a Sender-Abort have one byte, an All-1 has 5
-- to 15, which are at most one tile
abbrev pub SpellsAckOnError : Message → List Bool → List ℕ → Type 0
SpellsAckOnError (form.Regular w fcn from) payload bytes =
    IsRegular 2 6 w fcn from payload bytes × (2 ≤ length bytes)
    × (tiles_to w fcn (length bytes - 1) ≤ 4 * 63)
SpellsAckOnError (form.All1 w rcs from) payload bytes =
    IsAll1 2 6 w rcs from payload bytes × (5 ≤ length bytes) × (length bytes ≤ 15)
SpellsAckOnError (form.Ack w c bitmap) payload bytes = ⊥
SpellsAckOnError (form.AckReq w) payload bytes = IsAckReq 2 6 w payload bytes × (length bytes ≡ 1)
SpellsAckOnError form.SenderAbort payload bytes = IsSenderAbort 2 6 payload bytes
    × (length bytes ≡ 1)
SpellsAckOnError form.ReceiverAbort payload bytes = ⊥

-- the bytes are no message, for this cause: an FCN of 1 to 62 with one byte is too short, and so is
-- one of 63 with one to four that isn't a Sender-Abort; tiles that pass the last one have no form,
-- and an FCN of 63 with more than 15 bytes
abbrev pub IsAckOnErrorFault : WireFault → List ℕ → Type 0
IsAckOnErrorFault Empty bytes = length bytes ≡ 0
IsAckOnErrorFault TooShort bytes =
    ((w fcn : ℕ) × BeginsWith 2 6 w fcn bytes × (1 ≤ fcn) × (fcn ≤ 62) × (length bytes ≡ 1)) ⊎
    ((w : ℕ) × BeginsWith 2 6 w 63 bytes × (1 ≤ length bytes) × (length bytes ≤ 4)
    × ((w ≢ 3) ⊎ (2 ≤ length bytes)))
IsAckOnErrorFault WrongForm bytes =
    ((w fcn : ℕ) × BeginsWith 2 6 w fcn bytes × (fcn ≤ 62) × (2 ≤ length bytes)
    × (4 * 63 < tiles_to w fcn (length bytes - 1))) ⊎
    ((w : ℕ) × BeginsWith 2 6 w 63 bytes × (15 < length bytes))

-- what a fragment with an FCN of 63 is
unfoldable pub last_reading : ℕ → List ℕ → Result Message WireFault
last_reading w bytes =
    if length bytes == 1 then (if w == 3 then Ok form.SenderAbort else Err TooShort)
    else if nat_le (length bytes) 4 then Err TooShort
    else if nat_le (length bytes) 15 then Ok (form.All1 w (number_in 8 32 bytes) 40)
    else Err WrongForm

-- what a fragment with another FCN is
unfoldable pub other_reading : ℕ → ℕ → List ℕ → Result Message WireFault
other_reading w fcn bytes =
    if length bytes == 1 then (if fcn == 0 then Ok (form.AckReq w) else Err TooShort)
    else if nat_le (tiles_to w fcn (length bytes - 1)) 252 then Ok (form.Regular w fcn 8)
    else Err WrongForm

-- the same from the first byte on: what the bytes are
unfoldable pub ack_on_error_reading : List ℕ → Result Message WireFault
ack_on_error_reading bytes =
    if length bytes == 0 then Err Empty
    else if number_in 2 6 bytes == 63 then last_reading (number_in 0 2 bytes) bytes
    else other_reading (number_in 0 2 bytes) (number_in 2 6 bytes) bytes

-- some bytes are the message with the payload and fewer than eight zero bits after it
abbrev pub CanSpellAckOnError : Message → List Bool → Type 0
CanSpellAckOnError (form.Regular w fcn from) payload =
    (w < 4) × (fcn < 63) × (1 ≤ length payload)
    × (tiles_to w fcn ((length payload + 7) / 8) ≤ 4 * 63)
CanSpellAckOnError (form.All1 w rcs from) payload = (w < 4) × (rcs < 2 ^ 32) × (length payload ≤ 80)
CanSpellAckOnError (form.Ack w c bitmap) payload = ⊥
CanSpellAckOnError (form.AckReq w) payload = (w < 4) × (payload ≡ [])
CanSpellAckOnError form.SenderAbort payload = payload ≡ []
CanSpellAckOnError form.ReceiverAbort payload = ⊥
