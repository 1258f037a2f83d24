-- Where reading stops, the bytes stop to be a message.
use Rattle.std.specs.Prelude.{ℕ, ◌≡◌, ◌⊎◌, ◌+◌, ◌-◌, ◌*◌, ◌/◌, ◌%◌, ◌==◌, ◌<◌, ◌≤◌, false, zero}
use Rattle.std.specs.Prelude.{suc, List, [], ◌∷◌, ◌++◌, length, take, drop, get_or, Some, None}
use Rattle.std.specs.Prelude.{Result, Ok, Err}
use Rattle.std.proofs.Common.{arith, ap, refl, sym, ◌∙◌, inl, inr}
use Rattle.std.proofs.lemmas.Bool.{cases_lt, lt-ltb, le-ltb, cases_eq, eq-eqb, ne_eqb, cases_Bool}
use Rattle.std.proofs.lemmas.Bool.{eqb-true, eqb-false}
use Rattle.std.proofs.lemmas.List.{append_assoc, length-drop}
use Rattle.schc_bits.specs.Bits.{AreBytes}
use Rattle.rule_model.specs.declared.parts.SplitFault.{SplitFault}
use Rattle.rule_model.specs.declared.parts.SplitFault.TheVariants.{Short, NotIpv6, LengthWrong}
use Rattle.rule_model.specs.declared.parts.SplitFault.TheVariants.{NotUdp, NotCoap, Memory}
use Rattle.coap_fields.specs.Message.{OptionData, Message, next_place, option_spelled}
use Rattle.coap_fields.specs.Message.{options_spelled}
use Rattle.coap_fields.specs.Reading.{one_more, two_more, extended, then_number, value_at}
use Rattle.coap_fields.specs.Reading.{is_number_wrong, numbered_at, option_at, payload_at}
use Rattle.coap_fields.specs.Reading.{with_option, then_option, options_within, options_at}
use Rattle.coap_fields.specs.Reading.{with_header, is_first_wrong, header_at, read_message}
use Rattle.coap_fields.specs.Reading.{split_of, message_in, IsRefusal}
use Rattle.coap_fields.specs.Stops.{bytes_more, number_meant, has_four_ones, OptionStops, RestStops}
use Rattle.coap_fields.specs.Stops.{OptionsStop, HeaderStops, last_number, last_place, StopsAt}
use Rattle.coap_fields.specs.Stops.{IsStop}
use Rattle.coap_fields.proofs.OptionLemmas.{drop-bytes, IsRead, option_at-takes, option_at-shorter}

err-is : {A : Type 0} (a b : ℕ) → ◌≡◌ {A = Result A ℕ} (Err a) (Err b) → b ≡ a
err-is a b e = cc

-- a number whose bytes lack, or are there
one-lacks : (bytes : List ℕ) → length bytes < 1 → one_more bytes ≡ None
one-lacks [] h = refl
one-lacks (byte ∷ bytes) h = absurd (omega arith)

two-lacks : (bytes : List ℕ) → length bytes < 2 → two_more bytes ≡ None
two-lacks [] h = refl
two-lacks (byte ∷ []) h = refl
two-lacks (high ∷ low ∷ bytes) h = absurd (omega arith)

one-there : (bytes : List ℕ) → 1 ≤ length bytes
    → one_more bytes ≡ Some (13 + get_or bytes 0 0, drop 1 bytes)
one-there [] h = absurd (omega arith)
one-there (byte ∷ bytes) h = refl

two-there : (bytes : List ℕ) → 2 ≤ length bytes
    → two_more bytes ≡ Some (269 + 256 * get_or bytes 0 0 + get_or bytes 1 0, drop 2 bytes)
two-there [] h = absurd (omega arith)
two-there (byte ∷ []) h = absurd (omega arith)
two-there (high ∷ low ∷ bytes) h = refl

-- where fewer bytes follow than the four bits ask for, no number is read
pub extended-lacks : (bits : ℕ) (bytes : List ℕ) → length bytes < bytes_more bits
    → extended bits bytes ≡ None
unfolding extended
extended-lacks bits bytes h =
    elim (cases_lt bits 13) [
      | inl low ↦
          let none : length bytes < 0 = rw (lt-ltb bits 13 low) at h in
          absurd (omega (arith, none))
      | inr k ↦ elim (cases_eq bits 13) [
        | inl e ↦
            let one : length bytes < 1 = rw (le-ltb bits 13 k, eq-eqb bits 13 e) at h in
            rw (le-ltb bits 13 k, eq-eqb bits 13 e) (one-lacks bytes one)
        | inr n ↦
            let two : length bytes < 2 = rw (le-ltb bits 13 k, ne_eqb bits 13 n) at h in
            rw (le-ltb bits 13 k, ne_eqb bits 13 n) (two-lacks bytes two)
      ]
    ]

-- where the bytes that four bits ask for follow, the number meant is read, and the rest is left
pub extended-there : (bits : ℕ) (bytes : List ℕ) → bytes_more bits ≤ length bytes
    → extended bits bytes ≡ Some (number_meant bits bytes, drop (bytes_more bits) bytes)
unfolding extended
extended-there bits bytes h =
    elim (cases_lt bits 13) [
      | inl low ↦ rw (lt-ltb bits 13 low) refl
      | inr k ↦ elim (cases_eq bits 13) [
        | inl e ↦
            let one : 1 ≤ length bytes = rw (le-ltb bits 13 k, eq-eqb bits 13 e) at h in
            rw (le-ltb bits 13 k, eq-eqb bits 13 e) (one-there bytes one)
        | inr n ↦
            let two : 2 ≤ length bytes = rw (le-ltb bits 13 k, ne_eqb bits 13 n) at h in
            rw (le-ltb bits 13 k, ne_eqb bits 13 n) (two-there bytes two)
      ]
    ]

value_at-stops : (size number count : ℕ) (bytes : List ℕ) (stop : ℕ)
    → value_at size number count bytes ≡ Err stop → (length bytes < count) × (stop ≡ size)
value_at-stops size number count bytes stop e =
    elim (cases_lt (length bytes) count) [
      | inl lacks ↦ (lacks, err-is size stop (rw (lt-ltb (length bytes) count lacks) at e))
      | inr enough ↦ absurd (cc (rw (le-ltb (length bytes) count enough) at e))
    ]

-- the length, and the value after it
size-stops : (size number bits : ℕ) (bytes : List ℕ) (stop : ℕ)
    → then_number size (extended bits bytes) (value_at size number) ≡ Err stop
    → (length bytes < bytes_more bits + number_meant bits bytes) × (stop ≡ size)
size-stops size number bits bytes stop e =
    elim (cases_lt (length bytes) (bytes_more bits)) [
      | inl lacks ↦
          (omega (arith, lacks), err-is size stop (rw (extended-lacks bits bytes lacks) at e))
      | inr there ↦
          let v = value_at-stops size number (number_meant bits bytes)
          (drop (bytes_more bits) bytes) stop (rw (extended-there bits bytes there) at e) in
          (omega (arith, v.0, there, length-drop (bytes_more bits) bytes), v.1)
    ]

number-stops : (size here before place first : ℕ) (bytes : List ℕ) (stop : ℕ)
    → has_four_ones first ≡ false → bytes_more (first / 16) ≤ length bytes
    → numbered_at size here before place (first % 16) (number_meant (first / 16) bytes)
    (drop (bytes_more (first / 16)) bytes) ≡ Err stop
    → OptionStops size here before place first bytes stop
number-stops size here before place first bytes stop f there e =
    let number : ℕ = before + number_meant (first / 16) bytes in
    elim (cases_Bool (is_number_wrong before place number)) [
      | inl wrong ↦ inr
          (inl (
            record { bits = f; there = there; wrong = wrong },
            err-is here stop
                (rw wrong at e),
          ))
      | inr right ↦
          let s = size-stops size number (first % 16) (drop (bytes_more (first / 16)) bytes) stop
          (rw right at e) in
          inr (inr (
            record {
              bits = f;
              right = (λ k. right);
              lack =
                  omega (arith, s.0, there, length-drop (bytes_more (first / 16)) bytes);
            },
            s.1,
          ))
    ]

option_at-stops : (size here before place first : ℕ) (bytes : List ℕ) (stop : ℕ)
    → option_at size here before place first bytes ≡ Err stop
    → OptionStops size here before place first bytes stop
unfolding option_at
option_at-stops size here before place first bytes stop e =
    elim (cases_Bool (has_four_ones first)) [
      | inl t ↦ inl (t, err-is here stop (rw t at e))
      | inr f ↦ elim (cases_lt (length bytes) (bytes_more (first / 16))) [
        | inl lacks ↦
            inr (inr (
              record {
                bits = f;
                right = (λ k. absurd (omega (arith, lacks, k)));
                lack =
                    omega (arith, lacks);
              },
              err-is size stop
                  (rw (f, extended-lacks (first / 16) bytes lacks) at e),
            ))
        | inr there ↦ number-stops size here before place first bytes stop f there
            (rw (f, extended-there (first / 16) bytes there) at e)
      ]
    ]

payload_at-stops : (size : ℕ) (bytes : List ℕ) (stop : ℕ) → payload_at size bytes ≡ Err stop
    → (bytes ≡ []) × (stop ≡ size)
payload_at-stops size [] stop e = (refl, err-is size stop e)
payload_at-stops size (byte ∷ bytes) stop e = absurd (cc)

with_option-stop : (o : OptionData) (read : Result (List OptionData × List ℕ) ℕ) (stop : ℕ)
    → with_option o read ≡ Err stop → read ≡ Err stop
with_option-stop o (Err other) stop e = ap Err (sym (err-is other stop e))
with_option-stop o (Ok read) stop e = absurd (cc)

then_option-stop : (read : Result (OptionData × List ℕ) ℕ)
    (next : OptionData → List ℕ → Result (List OptionData × List ℕ) ℕ) (stop : ℕ)
    → then_option read next ≡ Err stop → (read ≡ Err stop)
    ⊎ ((r : OptionData × List ℕ) × (read ≡ Ok r) × (next r.0 r.1 ≡ Err stop))
then_option-stop (Err other) next stop e = inl (ap Err (sym (err-is other stop e)))
then_option-stop (Ok r) next stop e = inr (r, refl, with_option-stop r.0 (next r.0 r.1) stop e)

-- nothing whole stands in front
rest-stops : (size before place : ℕ) (bytes : List ℕ) (stop : ℕ)
    → RestStops size before place bytes stop → OptionsStop size before place bytes stop
unfolding options_spelled
rest-stops size before place bytes stop s =
    record { options = []; rest = bytes; are_options = tt; bytes_are = refl; stops = s }

-- an option more in front
next-stops : (size before place first : ℕ) (bytes : List ℕ) (o : OptionData) (rest : List ℕ)
    (stop : ℕ) → IsRead before place first bytes o rest
    → OptionsStop size o.number (next_place before place o.number) rest stop
    → OptionsStop size before place (first ∷ bytes) stop
unfolding options_spelled
next-stops size before place first bytes o rest stop r s =
    record {
      options = o ∷ s.options;
      rest = s.rest;
      are_options = (r.is_option, s.are_options);
      bytes_are =
          r.bytes_are
          ∙ ap (λ x. option_spelled before o ++ x) s.bytes_are
          ∙ sym (append_assoc (option_spelled before o) (options_spelled o.number s.options)
          s.rest);
      stops = s.stops;
    }

options_within-stops : (most size before place : ℕ) (bytes : List ℕ) (stop : ℕ)
    → length bytes ≤ most → AreBytes bytes → options_within most size before place bytes ≡ Err stop
    → OptionsStop size before place bytes stop
unfolding options_within
options_within-stops zero size before place bytes stop h a e = absurd (cc)
options_within-stops (suc most) size before place [] stop h a e = absurd (cc)
options_within-stops (suc most) size before place (first ∷ bytes) stop h a e =
    let here : ℕ = size - length (first ∷ bytes) in
    elim (cases_Bool (first == 255)) [
      | inl t ↦
          let p = payload_at-stops size bytes stop (rw t at e) in
          rest-stops size before place (first ∷ bytes) stop (inl (eqb-true first 255 t, (p.0, p.1)))
      | inr f ↦ elim
          (then_option-stop (option_at size here before place first bytes)
          (λ o rest. options_within most size o.number (next_place before place o.number) rest) stop
          (rw f at e)) [
            | inl s ↦
                rest-stops size before place (first ∷ bytes) stop
                (inr (
                  eqb-false first 255 f,
                  option_at-stops size here before place first bytes stop
                      s,
                ))
            | inr n ↦
                let o : OptionData = n.0.0 in
                let rest : List ℕ = n.0.1 in
                let r : IsRead before place first bytes o rest =
                option_at-takes size here before place first bytes o rest a.0 a.1 n.1 in
                let shorter : length rest ≤ length bytes =
                option_at-shorter size here before place first bytes o rest n.1 in
                next-stops size before place first bytes o rest stop r
                (options_within-stops most size o.number (next_place before place o.number) rest
                stop (omega arith) r.rest_bytes n.2)
          ]
    ]

with_header-stop : (kind code id : ℕ) (token : List ℕ) (read : Result (List OptionData × List ℕ) ℕ)
    (stop : ℕ) → with_header kind code id token read ≡ Err stop → read ≡ Err stop
with_header-stop kind code id token (Err other) stop e = ap Err (sym (err-is other stop e))
with_header-stop kind code id token (Ok read) stop e = absurd (cc)

header_at-stops : (size first : ℕ) (bytes : List ℕ) (stop : ℕ) → AreBytes bytes
    → header_at size first bytes ≡ Err stop → HeaderStops size first bytes stop
header_at-stops size first [] stop a e = inl (omega arith, err-is size stop e)
header_at-stops size first (code ∷ []) stop a e = inl (omega arith, err-is size stop e)
header_at-stops size first (code ∷ high ∷ []) stop a e = inl (omega arith, err-is size stop e)
header_at-stops size first (code ∷ high ∷ low ∷ bytes) stop a e =
    let tkl : ℕ = first % 16 in
    elim (cases_lt (length bytes) tkl) [
      | inl lacks ↦ inl
          (omega (arith, lacks), err-is size stop (rw (lt-ltb (length bytes) tkl lacks) at e))
      | inr enough ↦
          let rest : List ℕ = drop tkl bytes in
          let read : options_at size 0 0 rest ≡ Err stop =
          with_header-stop (first / 16 % 4) code (256 * high + low) (take tkl bytes)
          (options_at size 0 0 rest) stop (rw (le-ltb (length bytes) tkl enough) at e)
          in
          inr (
            omega (arith, enough),
            options_within-stops (length rest) size 0 0 rest stop
                (omega arith) (drop-bytes tkl bytes a.1.1.1) read,
          )
    ]

read_message-stops : (bytes : List ℕ) (stop : ℕ) → AreBytes bytes → read_message bytes ≡ Err stop
    → StopsAt bytes stop
unfolding read_message
read_message-stops [] stop a e = err-is 0 stop e
read_message-stops (first ∷ bytes) stop a e =
    elim (cases_Bool (is_first_wrong first)) [
      | inl t ↦ inl (t, err-is 0 stop (rw t at e))
      | inr f ↦ inr (f, header_at-stops (length (first ∷ bytes)) first bytes stop a.1 (rw f at e))
    ]

-- a place at which bytes stop to be a message is within them
option-within : (size here before place first : ℕ) (bytes : List ℕ) (stop : ℕ) → here ≤ size
    → OptionStops size here before place first bytes stop → stop ≤ size
option-within size here before place first bytes stop h s =
    elim s [
      | inl a ↦ omega (arith, a.1)
      | inr b ↦ elim b [
        | inl a ↦ omega (arith, a.1)
        | inr a ↦ omega (arith, a.1)
      ]
    ]

rest-within : (size before place : ℕ) (rest : List ℕ) (stop : ℕ)
    → RestStops size before place rest stop → stop ≤ size
rest-within size before place [] stop s = absurd s
rest-within size before place (first ∷ bytes) stop s =
    elim s [
      | inl a ↦ omega (arith, a.1.1)
      | inr b ↦ option-within size (size - length (first ∷ bytes)) before place first bytes stop
          (omega arith) b.1
    ]

-- the byte at which bytes stop to be a message is at most their number
pub stops-within : (bytes : List ℕ) (stop : ℕ) → StopsAt bytes stop → stop ≤ length bytes
stops-within [] stop s = omega (arith, s)
stops-within (first ∷ bytes) stop s =
    elim s [
      | inl a ↦ omega (arith, a.1)
      | inr b ↦ elim b.1 [
        | inl a ↦ omega (arith, a.1)
        | inr a ↦ rest-within (length (first ∷ bytes)) (last_number 0 a.1.options)
            (last_place 0 0 a.1.options) a.1.rest stop a.1.stops
      ]
    ]

split_of-stop : (size : ℕ) (read : Result Message ℕ) (stop : ℕ) → split_of size read ≡ Err stop
    → read ≡ Err stop
split_of-stop size (Err other) stop e = ap Err (sym (err-is other stop e))
split_of-stop size (Ok m) stop e = absurd (cc)

-- where no message is read, the bytes stop to be one there
pub message_in-stops : (bytes : List ℕ) (stop : ℕ) → AreBytes bytes → message_in bytes ≡ Err stop
    → StopsAt bytes stop
unfolding message_in
message_in-stops bytes stop a e =
    read_message-stops bytes stop a (split_of-stop (length bytes) (read_message bytes) stop e)

-- a fault for which no message is read is want of memory, or the byte at which the bytes stop to be
-- one
pub refusal-stops : (bytes : List ℕ) (fault : SplitFault) → AreBytes bytes
    → IsRefusal fault (message_in bytes) → IsStop fault bytes
refusal-stops bytes Memory a h = tt
refusal-stops bytes (NotCoap stop) a h =
    let s : StopsAt bytes stop = message_in-stops bytes stop a h in
    (s, stops-within bytes stop s)
refusal-stops bytes Short a h = absurd h
refusal-stops bytes NotIpv6 a h = absurd h
refusal-stops bytes LengthWrong a h = absurd h
refusal-stops bytes NotUdp a h = absurd h
