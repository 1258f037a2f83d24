-- The bytes of a message, and its payload at their end.
use Rattle.std.specs.Prelude.{ℕ, ◌≡◌, ◌+◌, ◌-◌, ◌*◌, ◌<◌, ◌≤◌, List, [], ◌∷◌, ◌++◌, length, drop}
use Rattle.std.proofs.Common.{arith, ap, refl, sym, ◌∙◌, inl, inr}
use Rattle.std.proofs.lemmas.Bool.{cases_lt}
use Rattle.std.proofs.lemmas.List.{append_assoc, length-append, drop_at}
use Rattle.schc_bits.specs.Bits.{AreBytes}
use Rattle.coap_fields.specs.Message.{OptionData, Message, next_place, IsOption, AreOptions}
use Rattle.coap_fields.specs.Message.{IsMessage, nibble, extension, option_spelled, options_spelled}
use Rattle.coap_fields.specs.Message.{payload_spelled, header_spelled, spelled}
use Rattle.coap_fields.proofs.NumberLemmas.{nibble-low, nibble-middle, nibble-high, nibble-small}

pub bytes-append : (front back : List ℕ) → AreBytes front → AreBytes back → AreBytes (front ++ back)
bytes-append [] back a b = b
bytes-append (byte ∷ front) back a b = (a.0, bytes-append front back a.1 b)

extension_bytes : (n : ℕ) → n ≤ 65804 → AreBytes (extension n)
extension_bytes n m =
    elim (cases_lt n 13) [
      | inl low ↦ rw (nibble-low n low).1 tt
      | inr h ↦ elim (cases_lt n 269) [
        | inl k ↦ rw (nibble-middle n h k).1 (omega arith, tt)
        | inr k ↦ rw (nibble-high n k).1 (omega arith, (omega arith, tt))
      ]
    ]

first_byte : (a b : ℕ) → a < 15 → b < 15 → 16 * a + b < 256
first_byte a b h k = omega arith

option_bytes : (before place : ℕ) (o : OptionData) → IsOption before place o
    → AreBytes (option_spelled before o)
option_bytes before place o h =
    let delta : ℕ = o.number - before in
    let small : delta ≤ 65804 = omega (arith, h.number) in (
      first_byte (nibble delta) (nibble (length o.value)) (nibble-small delta)
          (nibble-small (length o.value)),
      bytes-append (extension delta) (extension (length o.value) ++ o.value)
          (extension_bytes delta small)
          (bytes-append (extension (length o.value)) o.value
          (extension_bytes (length o.value) h.size) h.bytes),
    )

options_bytes : (before place : ℕ) (options : List OptionData) → AreOptions before place options
    → AreBytes (options_spelled before options)
unfolding options_spelled
options_bytes before place [] h = tt
options_bytes before place (o ∷ options) h =
    bytes-append (option_spelled before o) (options_spelled o.number options)
    (option_bytes before place o h.0)
    (options_bytes o.number (next_place before place o.number) options h.1)

payload_bytes : (payload : List ℕ) → AreBytes payload → AreBytes (payload_spelled payload)
payload_bytes [] a = tt
payload_bytes (byte ∷ payload) a = (omega arith, a)

-- each number that is spelled is a byte
pub spelled-bytes : (m : Message) → IsMessage m → AreBytes (spelled m)
unfolding spelled
spelled-bytes m h = (
  omega (arith, h.kind, h.token),
  (
    h.code,
    (
      omega (arith, h.id),
      (
        omega arith,
        bytes-append m.token (options_spelled 0 m.options ++ payload_spelled m.payload)
            h.token_bytes
            (bytes-append (options_spelled 0 m.options) (payload_spelled m.payload)
            (options_bytes 0 0 m.options h.options) (payload_bytes m.payload h.payload_bytes)),
      ),
    ),
  ),
)

abbrev marker : List ℕ → List ℕ
marker [] = []
marker (byte ∷ payload) = 255 ∷ []

marked : (payload : List ℕ) → payload_spelled payload ≡ marker payload ++ payload
marked [] = refl
marked (byte ∷ payload) = refl

-- all before the payload
abbrev front_of : Message → List ℕ
front_of m = header_spelled m ++ (m.token ++ (options_spelled 0 m.options ++ marker m.payload))

spelled-front : (m : Message) → spelled m ≡ front_of m ++ m.payload
unfolding spelled
spelled-front m =
    let options : List ℕ = options_spelled 0 m.options in
    let last : options ++ payload_spelled m.payload ≡ (options ++ marker m.payload) ++ m.payload =
    ap (λ x. options ++ x) (marked m.payload)
    ∙ sym (append_assoc options (marker m.payload) m.payload)
    in
    ap (λ x. header_spelled m ++ (m.token ++ x)) last
    ∙ ap (λ x. header_spelled m ++ x)
    (sym (append_assoc m.token (options ++ marker m.payload) m.payload))

ends_with : (front back : List ℕ)
    → drop (length (front ++ back) - length back) (front ++ back) ≡ back
ends_with front back =
    let count : length (front ++ back) - length back ≡ length front =
    omega (arith, length-append front back) in
    rw count (drop_at front back (length front) refl)

-- the payload stands at the end
pub spelled-payload : (m : Message)
    → drop (length (spelled m) - length m.payload) (spelled m) ≡ m.payload
spelled-payload m = rw (spelled-front m) (ends_with (front_of m) m.payload)
