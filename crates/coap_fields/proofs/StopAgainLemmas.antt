-- Where the bytes stop to be a message, reading stops.
use Rattle.std.specs.Prelude.{ℕ, ◌≡◌, ◌↔◌, ◌+◌, ◌-◌, ◌*◌, ◌/◌, ◌%◌, ◌<◌, ◌≤◌, List, [], ◌∷◌, ◌++◌}
use Rattle.std.specs.Prelude.{length, take, drop, Ok, Err}
use Rattle.std.proofs.Common.{arith, ap, refl, ◌∙◌, inl, inr}
use Rattle.std.proofs.lemmas.Bool.{cases_lt, lt-ltb, le-ltb, ne_eqb}
use Rattle.std.proofs.lemmas.List.{append_assoc, length-drop}
use Rattle.schc_bits.specs.Bits.{AreBytes}
use Rattle.coap_fields.specs.Message.{OptionData, next_place, AreOptions, nibble, extension}
use Rattle.coap_fields.specs.Message.{options_spelled}
use Rattle.coap_fields.specs.Reading.{extended, then_number, value_at, option_at, payload_at}
use Rattle.coap_fields.specs.Reading.{with_option, options_at, with_header, header_at, read_message}
use Rattle.coap_fields.specs.Reading.{split_of, message_in}
use Rattle.coap_fields.specs.Stops.{bytes_more, number_meant, OptionStops, RestStops, last_number}
use Rattle.coap_fields.specs.Stops.{last_place, HeaderStops, StopsAt}
use Rattle.coap_fields.proofs.NumberLemmas.{nibble-small}
use Rattle.coap_fields.proofs.OptionLemmas.{option_at-again}
use Rattle.coap_fields.proofs.OptionsLemmas.{options_at-next, options_at-marker, options_at-stop}
use Rattle.coap_fields.proofs.OptionsLemmas.{not-marker}
use Rattle.coap_fields.proofs.StopLemmas.{extended-lacks, extended-there, message_in-stops}

size-lacks : (size number bits : ℕ) (bytes : List ℕ)
    → length bytes < bytes_more bits + number_meant bits bytes
    → then_number size (extended bits bytes) (value_at size number) ≡ Err size
size-lacks size number bits bytes h =
    elim (cases_lt (length bytes) (bytes_more bits)) [
      | inl lacks ↦ rw (extended-lacks bits bytes lacks) refl
      | inr there ↦
          let short : length (drop (bytes_more bits) bytes) < number_meant bits bytes =
          omega (arith, h, there, length-drop (bytes_more bits) bytes) in
          rw (
            extended-there bits bytes there,
            lt-ltb (length (drop (bytes_more bits) bytes))
                (number_meant bits bytes) short,
          ) refl
    ]

option-stops : (size here before place first : ℕ) (bytes : List ℕ) (stop : ℕ)
    → OptionStops size here before place first bytes stop
    → option_at size here before place first bytes ≡ Err stop
unfolding option_at
option-stops size here before place first bytes stop s =
    elim s [
      | inl a ↦ rw (a.0, a.1) refl
      | inr b ↦ elim b [
        | inl a ↦ rw (a.0.bits, extended-there (first / 16) bytes a.0.there, a.0.wrong, a.1) refl
        | inr a ↦ elim (cases_lt (length bytes) (bytes_more (first / 16))) [
          | inl lacks ↦ rw (a.0.bits, extended-lacks (first / 16) bytes lacks, a.1) refl
          | inr there ↦
              let after : List ℕ = drop (bytes_more (first / 16)) bytes in
              let short : length after < bytes_more (first % 16) + number_meant (first % 16) after =
              omega (arith, a.0.lack, there, length-drop (bytes_more (first / 16)) bytes)
              in
              rw (a.0.bits, extended-there (first / 16) bytes there, a.0.right there, a.1)
              (size-lacks size (before + number_meant (first / 16) bytes) (first % 16) after short)
        ]
      ]
    ]

rest-stops_again : (size before place : ℕ) (rest : List ℕ) (stop : ℕ)
    → RestStops size before place rest stop → options_at size before place rest ≡ Err stop
rest-stops_again size before place [] stop s = absurd s
rest-stops_again size before place (first ∷ bytes) stop s =
    elim s [
      | inl a ↦
          let end : payload_at size bytes ≡ Err stop = rw (a.1.0, a.1.1) refl in
          options_at-marker size before place first bytes a.0 ∙ end
      | inr b ↦
          options_at-stop size before place first stop bytes (ne_eqb first 255 b.0)
          (option-stops size (size - length (first ∷ bytes)) before place first bytes stop b.1)
    ]

options-stop : (options : List OptionData) (size before place : ℕ) (rest : List ℕ) (stop : ℕ)
    → AreOptions before place options
    → RestStops size (last_number before options) (last_place before place options) rest stop
    → options_at size before place (options_spelled before options ++ rest) ≡ Err stop
unfolding options_spelled
options-stop [] size before place rest stop a s = rest-stops_again size before place rest stop s
options-stop (o ∷ options) size before place rest stop a s =
    let delta : ℕ = o.number - before in
    let count : ℕ = length o.value in
    let after : ℕ = next_place before place o.number in
    let later : List ℕ = options_spelled o.number options ++ rest in
    let front : List ℕ = extension delta ++ (extension count ++ o.value) in
    let tail : List ℕ = (front ++ options_spelled o.number options) ++ rest in
    let first : ℕ = 16 * nibble delta + nibble count in
    let joined : tail ≡ front ++ later =
    append_assoc front (options_spelled o.number options) rest in
    let parts : tail ≡ extension delta ++ (extension count ++ (o.value ++ later)) =
    joined ∙ append_assoc (extension delta) (extension count ++ o.value) later
    ∙ ap (λ x. extension delta ++ x) (append_assoc (extension count) o.value later)
    in
    let here : ℕ = size - length (first ∷ tail) in
    let read : option_at size here before place first tail ≡ Ok (o, later) =
    ap (λ x. option_at size here before place first x) parts
    ∙ option_at-again size here before place o later a.0
    in
    options_at-next size before place first tail o later
    (not-marker (nibble delta) (nibble count) (nibble-small delta) (nibble-small count)) read
    ∙ ap (with_option o) (options-stop options size o.number after rest stop a.1 s)

header-stops : (size first : ℕ) (bytes : List ℕ) (stop : ℕ) → HeaderStops size first bytes stop
    → header_at size first bytes ≡ Err stop
header-stops size first [] stop s =
    elim s [
      | inl a ↦ rw a.1 refl
      | inr b ↦ absurd (omega (arith, b.0))
    ]
header-stops size first (code ∷ []) stop s =
    elim s [
      | inl a ↦ rw a.1 refl
      | inr b ↦ absurd (omega (arith, b.0))
    ]
header-stops size first (code ∷ high ∷ []) stop s =
    elim s [
      | inl a ↦ rw a.1 refl
      | inr b ↦ absurd (omega (arith, b.0))
    ]
header-stops size first (code ∷ high ∷ low ∷ bytes) stop s =
    let tkl : ℕ = first % 16 in
    elim s [
      | inl a ↦
          let short : length bytes < tkl = omega (arith, a.0) in
          rw (lt-ltb (length bytes) tkl short, a.1) refl
      | inr b ↦
          let enough : tkl ≤ length bytes = omega (arith, b.0) in
          rw (le-ltb (length bytes) tkl enough)
          (ap (with_header (first / 16 % 4) code (256 * high + low) (take tkl bytes))
          (ap (options_at size 0 0) b.1.bytes_are
          ∙ options-stop b.1.options size 0 0 b.1.rest stop b.1.are_options b.1.stops))
    ]

pub stops-message_in : (bytes : List ℕ) (stop : ℕ) → StopsAt bytes stop
    → message_in bytes ≡ Err stop
unfolding message_in read_message
stops-message_in [] stop s = rw s refl
stops-message_in (first ∷ bytes) stop s =
    elim s [
      | inl a ↦ rw (a.0, a.1) refl
      | inr b ↦ rw b.0
          (ap (split_of (length (first ∷ bytes)))
          (header-stops (length (first ∷ bytes)) first bytes stop b.1))
    ]

-- no message is read, for this byte, exactly where the bytes stop to be one there
pub stops_exactly : (bytes : List ℕ) (stop : ℕ) → AreBytes bytes
    → (message_in bytes ≡ Err stop) ↔ StopsAt bytes stop
stops_exactly bytes stop a = (message_in-stops bytes stop a, stops-message_in bytes stop)
