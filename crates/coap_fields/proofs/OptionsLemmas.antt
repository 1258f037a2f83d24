-- Options one after the other, and the payload: what was spelled is read, and what is read was
-- spelled.
use Rattle.std.specs.Prelude.{ℕ, ◌≡◌, ◌+◌, ◌-◌, ◌*◌, ◌==◌, ◌<◌, ◌≤◌, if◌then◌else◌, zero, suc}
use Rattle.std.specs.Prelude.{false, List, [], ◌∷◌, ◌++◌, length, Result, Ok, Err}
use Rattle.std.proofs.Common.{arith, ap, refl, sym, ◌∙◌, subst, inl, inr}
use Rattle.std.proofs.lemmas.Bool.{cases_Bool, eqb-true, ne_eqb}
use Rattle.std.proofs.lemmas.List.{append_assoc, length-append}
use Rattle.schc_bits.specs.Bits.{AreBytes}
use Rattle.rule_model.specs.declared.value.FieldValue.{FieldValue}
use Rattle.coap_fields.specs.Message.{OptionData, next_place, AreOptions, nibble, extension}
use Rattle.coap_fields.specs.Message.{option_spelled, options_spelled, payload_spelled}
use Rattle.coap_fields.specs.Fields.{option_field, option_fields}
use Rattle.coap_fields.specs.Reading.{option_at, payload_at, with_option, then_option}
use Rattle.coap_fields.specs.Reading.{options_within, options_at}
use Rattle.coap_fields.specs.Placed.{placed}
use Rattle.coap_fields.proofs.NumberLemmas.{nibble-small}
use Rattle.coap_fields.proofs.OptionLemmas.{is_read, ok-pair, option_at-again, IsRead}
use Rattle.coap_fields.proofs.OptionLemmas.{option_at-takes, option_at-shorter}

then_option-same : (read : Result (OptionData × List ℕ) ℕ)
    (f g : OptionData → List ℕ → Result (List OptionData × List ℕ) ℕ)
    → ((o : OptionData) (rest : List ℕ) → read ≡ is_read o rest → f o rest ≡ g o rest)
    → then_option read f ≡ then_option read g
then_option-same (Err stop) f g h = refl
then_option-same (Ok read) f g h = ap (with_option read.0) (h read.0 read.1 refl)

-- how many options are allowed doesn't matter, where each could have a byte
pub options_within-enough : (most more size before place : ℕ) (bytes : List ℕ) → length bytes ≤ most
    → length bytes ≤ more
    → options_within most size before place bytes ≡ options_within more size before place bytes
unfolding options_within
options_within-enough zero zero size before place bytes h k = refl
options_within-enough zero (suc more) size before place [] h k = refl
options_within-enough zero (suc more) size before place (first ∷ bytes) h k = absurd (omega arith)
options_within-enough (suc most) zero size before place [] h k = refl
options_within-enough (suc most) zero size before place (first ∷ bytes) h k = absurd (omega arith)
options_within-enough (suc most) (suc more) size before place [] h k = refl
options_within-enough (suc most) (suc more) size before place (first ∷ bytes) h k =
    let here : ℕ = size - length (first ∷ bytes) in
    ap (λ (x : Result (List OptionData × List ℕ) ℕ). if first == 255 then payload_at size bytes
    else x)
    (then_option-same (option_at size here before place first bytes)
    (λ o rest. options_within most size o.number (next_place before place o.number) rest)
    (λ o rest. options_within more size o.number (next_place before place o.number) rest)
    (λ o rest e.
    let shorter : length rest ≤ length bytes =
    option_at-shorter size here before place first bytes o rest e in
    options_within-enough most more size o.number (next_place before place o.number) rest
    (omega arith) (omega arith)))

-- one option, and then the others
options_within-next : (most size before place first : ℕ) (bytes : List ℕ) (o : OptionData)
    (rest : List ℕ) → (first == 255) ≡ false
    → option_at size (size - length (first ∷ bytes)) before place first bytes ≡ Ok (o, rest)
    → options_within (suc most) size before place (first ∷ bytes) ≡ with_option o
    (options_within most size o.number (next_place before place o.number) rest)
unfolding options_within
options_within-next most size before place first bytes o rest f e = rw (f, e)

-- where no bytes are left, there is no option and no payload
pub options_at-none : (size before place : ℕ) → options_at size before place [] ≡ Ok ([], [])
unfolding options_within
options_at-none size before place = refl

-- an option that is read stands in front of those that are read from the bytes it leaves
pub options_at-next : (size before place first : ℕ) (bytes : List ℕ) (o : OptionData)
    (rest : List ℕ) → (first == 255) ≡ false
    → option_at size (size - length (first ∷ bytes)) before place first bytes ≡ Ok (o, rest)
    → options_at size before place (first ∷ bytes) ≡ with_option o
    (options_at size o.number (next_place before place o.number) rest)
options_at-next size before place first bytes o rest f e =
    let shorter : length rest ≤ length bytes =
    option_at-shorter size (size - length (first ∷ bytes)) before place first bytes o rest e in
    options_within-next (length bytes) size before place first bytes o rest f e
    ∙ ap (with_option o)
    (options_within-enough (length bytes) (length rest) size o.number
    (next_place before place o.number) rest shorter (omega arith))

-- behind the marker, 255, stands the payload
pub options_at-marker : (size before place first : ℕ) (bytes : List ℕ) → first ≡ 255
    → options_at size before place (first ∷ bytes) ≡ payload_at size bytes
unfolding options_within
options_at-marker size before place first bytes e = rw e

-- where the next option isn't read, the message is refused at the same byte
pub options_at-stop : (size before place first stop : ℕ) (bytes : List ℕ) → (first == 255) ≡ false
    → option_at size (size - length (first ∷ bytes)) before place first bytes ≡ Err stop
    → options_at size before place (first ∷ bytes) ≡ Err stop
unfolding options_within
options_at-stop size before place first stop bytes f e = rw (f, e)

-- the fields of one option more
pub placed-next : (front : List FieldValue) (before place size : ℕ) (o : OptionData)
    (read : Result (List OptionData × List ℕ) ℕ)
    → placed front before place size (with_option o read) ≡ placed
    (front ++ option_field o.number (next_place before place o.number) o.value ∷ []) o.number
    (next_place before place o.number) size read
unfolding option_fields
placed-next front before place size o (Err stop) = refl
placed-next front before place size o (Ok read) =
    let place_after : ℕ = next_place before place o.number in
    rw (append_assoc front (option_field o.number place_after o.value ∷ [])
    (option_fields o.number place_after read.0))

-- a byte of two halves below 15 isn't the marker, 255
pub not-marker : (a b : ℕ) → a < 15 → b < 15 → ((16 * a + b) == 255) ≡ false
not-marker a b h k = ne_eqb (16 * a + b) 255 (λ e. absurd (omega (arith, e)))

-- what was spelled is read
pub options_within-again : (most size before place : ℕ) (options : List OptionData)
    (payload : List ℕ) → AreOptions before place options
    → length (options_spelled before options ++ payload_spelled payload) ≤ most
    → options_within most size before place
    (options_spelled before options ++ payload_spelled payload) ≡ Ok (options, payload)
unfolding options_within options_spelled
options_within-again zero size before place [] [] h k = refl
options_within-again (suc most) size before place [] [] h k = refl
options_within-again zero size before place [] (byte ∷ payload) h k = absurd (omega arith)
options_within-again (suc most) size before place [] (byte ∷ payload) h k = refl
options_within-again zero size before place (o ∷ options) payload h k = absurd (omega arith)
options_within-again (suc most) size before place (o ∷ options) payload h k =
    let delta : ℕ = o.number - before in
    let count : ℕ = length o.value in
    let after : ℕ = next_place before place o.number in
    let rest : List ℕ = options_spelled o.number options ++ payload_spelled payload in
    let front : List ℕ = extension delta ++ (extension count ++ o.value) in
    let tail : List ℕ = (front ++ options_spelled o.number options) ++ payload_spelled payload in
    let first : ℕ = 16 * nibble delta + nibble count in
    let joined : tail ≡ front ++ rest =
    append_assoc front (options_spelled o.number options) (payload_spelled payload) in
    let parts : tail ≡ extension delta ++ (extension count ++ (o.value ++ rest)) =
    joined ∙ append_assoc (extension delta) (extension count ++ o.value) rest
    ∙ ap (λ x. extension delta ++ x) (append_assoc (extension count) o.value rest)
    in
    let shorter : length rest ≤ most =
    omega (arith, ap (λ (x : List ℕ). length x) joined, length-append front rest) in
    let here : ℕ = size - length (first ∷ tail) in
    let read : option_at size here before place first tail ≡ Ok (o, rest) =
    ap (λ x. option_at size here before place first x) parts
    ∙ option_at-again size here before place o rest h.0
    in
    options_within-next most size before place first tail o rest
    (not-marker (nibble delta) (nibble count) (nibble-small delta) (nibble-small count)) read
    ∙ ap (with_option o) (options_within-again most size o.number after options payload h.1 shorter)

-- options that can stand in a message, and a payload, are read from their spelling
pub options_at-again : (size : ℕ) (options : List OptionData) (payload : List ℕ)
    → AreOptions 0 0 options
    → options_at size 0 0 (options_spelled 0 options ++ payload_spelled payload) ≡ Ok
    (options, payload)
options_at-again size options payload h =
    options_within-again (length (options_spelled 0 options ++ payload_spelled payload)) size 0 0
    options payload h (omega arith)

-- what is read was spelled
pub record IsTaken (before place : ℕ) (bytes : List ℕ) (options : List OptionData)
    (payload : List ℕ) : Type 0 where
  pub bytes_are : bytes ≡ options_spelled before options ++ payload_spelled payload
  pub are_options : AreOptions before place options
  pub payload_bytes : AreBytes payload

taken-none : (before place : ℕ) (options : List OptionData) (payload : List ℕ)
    → is_read [] [] ≡ is_read options payload → IsTaken before place [] options payload
unfolding options_spelled
taken-none before place options payload e =
    let parts = ok-pair {A = List OptionData} {B = List ℕ} [] options [] payload e in
    rw (← parts.0, ← parts.1) (record { bytes_are = refl; are_options = tt; payload_bytes = tt })

taken-payload : (size before place first : ℕ) (bytes : List ℕ) (options : List OptionData)
    (payload : List ℕ) → first ≡ 255 → AreBytes bytes
    → payload_at size bytes ≡ Ok (options, payload)
    → IsTaken before place (first ∷ bytes) options payload
unfolding options_spelled
taken-payload size before place first [] options payload m a e = absurd (cc)
taken-payload size before place first (byte ∷ bytes) options payload m a e =
    let parts = ok-pair {A = List OptionData} {B = List ℕ} [] options (byte ∷ bytes) payload e in
    rw (m, ← parts.0, ← parts.1) (record { bytes_are = refl; are_options = tt; payload_bytes = a })

with_option-ok : (o : OptionData) (read : Result (List OptionData × List ℕ) ℕ)
    (options : List OptionData) (payload : List ℕ) → with_option o read ≡ Ok (options, payload)
    → (more : List OptionData) × (read ≡ Ok (more, payload)) × (o ∷ more ≡ options)
with_option-ok o (Err stop) options payload e = absurd (cc)
with_option-ok o (Ok read) options payload e =
    let parts = ok-pair (o ∷ read.0) options read.1 payload e in
    (read.0, ap (λ (p : List ℕ). is_read read.0 p) parts.1, parts.0)

then_option-ok : (read : Result (OptionData × List ℕ) ℕ)
    (next : OptionData → List ℕ → Result (List OptionData × List ℕ) ℕ) (options : List OptionData)
    (payload : List ℕ) → then_option read next ≡ Ok (options, payload) → (r : OptionData × List ℕ)
    × (read ≡ Ok r) × (with_option r.0 (next r.0 r.1) ≡ Ok (options, payload))
then_option-ok (Err stop) next options payload e = absurd (cc)
then_option-ok (Ok r) next options payload e = (r, refl, e)

taken-next : (before place first : ℕ) (bytes : List ℕ) (o : OptionData) (rest : List ℕ)
    (more options : List OptionData) (payload : List ℕ) → IsRead before place first bytes o rest
    → IsTaken o.number (next_place before place o.number) rest more payload → o ∷ more ≡ options
    → IsTaken before place (first ∷ bytes) options payload
unfolding options_spelled
taken-next before place first bytes o rest more options payload r t e =
    let all : first ∷ bytes ≡ options_spelled before (o ∷ more) ++ payload_spelled payload =
    r.bytes_are
    ∙ ap (λ x. option_spelled before o ++ x) t.bytes_are
    ∙ sym (append_assoc (option_spelled before o) (options_spelled o.number more)
    (payload_spelled payload))
    in
    subst (λ all_options. IsTaken before place (first ∷ bytes) all_options payload) e
    (record {
      bytes_are = all;
      are_options = (r.is_option, t.are_options);
      payload_bytes =
          t.payload_bytes;
    })

-- options and a payload that are read from at most `most` bytes can stand there, and the bytes are
-- their spelling
pub options_within-takes : (most size before place : ℕ) (bytes : List ℕ) (options : List OptionData)
    (payload : List ℕ) → length bytes ≤ most → AreBytes bytes
    → options_within most size before place bytes ≡ Ok (options, payload)
    → IsTaken before place bytes options payload
unfolding options_within
options_within-takes zero size before place [] options payload h a e =
    taken-none before place options payload e
options_within-takes zero size before place (first ∷ bytes) options payload h a e =
    absurd (omega arith)
options_within-takes (suc most) size before place [] options payload h a e =
    taken-none before place options payload e
options_within-takes (suc most) size before place (first ∷ bytes) options payload h a e =
    let here : ℕ = size - length (first ∷ bytes) in
    elim (cases_Bool (first == 255)) [
      | inl t ↦ taken-payload size before place first bytes options payload (eqb-true first 255 t)
          a.1 (rw t at e)
      | inr f ↦
          let n = then_option-ok (option_at size here before place first bytes)
          (λ o rest. options_within most size o.number (next_place before place o.number) rest)
          options payload (rw f at e) in
          let o : OptionData = n.0.0 in
          let rest : List ℕ = n.0.1 in
          let after : ℕ = next_place before place o.number in
          let w = with_option-ok o (options_within most size o.number after rest) options payload
          n.2 in
          let r : IsRead before place first bytes o rest =
          option_at-takes size here before place first bytes o rest a.0 a.1 n.1 in
          let shorter : length rest ≤ length bytes =
          option_at-shorter size here before place first bytes o rest n.1 in
          taken-next before place first bytes o rest w.0 options payload r
          (options_within-takes most size o.number after rest w.0 payload (omega arith)
          r.rest_bytes w.1) w.2
    ]
