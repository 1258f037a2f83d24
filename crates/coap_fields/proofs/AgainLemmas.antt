-- The fields of a message aren't refused, and make that message again.
use Rattle.std.specs.Prelude.{ℕ, ◌≡◌, ◌+◌, ◌-◌, ◌*◌, ◌%◌, ◌==◌, ◌<◌, ◌≤◌, nat_lt, ◌&&◌, Bool, true}
use Rattle.std.specs.Prelude.{false, not, List, [], ◌∷◌, ◌++◌, length, drop, None}
use Rattle.std.proofs.Common.{arith, ap, refl, sym, ◌∙◌, inl, inr}
use Rattle.std.proofs.lemmas.Bool.{cases_eq, lt-ltb, le-ltb, le-leb, eq-eqb, ne_eqb, and_from}
use Rattle.std.proofs.lemmas.Bool.{and_left, and_right, or_left, or_right}
use Rattle.schc_bits.specs.Bits.{number_bits, bits_value, octets, bytes_of, AreBytes}
use Rattle.schc_bits.proofs.NumberBits.{length-number_bits, bits_value-number_bits}
use Rattle.schc_bits.proofs.Octets.{length-octets, bytes_of-octets, bytes_of-short}
use Rattle.schc_ids.specs.declared.names.FieldName.TheVariants.{CoapToken, CoapOption}
use Rattle.schc_ids.specs.Names.{rank_of, coap_fields}
use Rattle.rule_model.specs.declared.value.FieldValue.{FieldValue}
use Rattle.rule_model.specs.First.{first_held}
use Rattle.rule_model.proofs.FirstLemmas.{first_held-append_none, first_held-from_none}
use Rattle.coap_fields.specs.Message.{OptionData, Message, next_place, IsOption, AreOptions}
use Rattle.coap_fields.specs.Message.{IsMessage, spelled}
use Rattle.coap_fields.specs.Fields.{token_fields, option_field, option_fields, header_fields}
use Rattle.coap_fields.specs.Fields.{fields_of_message, MessageOf}
use Rattle.coap_fields.specs.Join.{value_in, value_of, presence, stands_after, can_follow, order}
use Rattle.coap_fields.specs.Join.{value_refusals, gaps, join_refusal, options_from, message_of}
use Rattle.coap_fields.specs.Join.{message_from}
use Rattle.coap_fields.proofs.RankLemmas.{after-at_least, order-first, order-moved, stands-above}
use Rattle.coap_fields.proofs.JoinLemmas.{no-options}
use Rattle.coap_fields.proofs.BytesLemmas.{spelled-payload}

not_same : (a b : ℕ) → a ≡ b → not (a == b) ≡ false
not_same a b e = ap not (eq-eqb a b e)

-- no option is a token
no_token_in : (before place : ℕ) (options : List OptionData)
    → value_in (option_fields before place options) CoapToken ≡ None
unfolding option_fields
no_token_in before place [] = refl
no_token_in before place (o ∷ options) =
    no_token_in o.number (next_place before place o.number) options

-- the fields behind the header: that of the token, where it is one, and those of the options
abbrev pub rest_of : List ℕ → List OptionData → List FieldValue
rest_of token options = token_fields token ++ option_fields 0 0 options

token-found : (token : List ℕ) (options : List OptionData) → AreBytes token
    → bytes_of (value_of (rest_of token options) CoapToken) ≡ token
token-found [] options a = rw (no_token_in 0 0 options) (bytes_of-short [] (omega arith))
token-found (byte ∷ token) options a = bytes_of-octets (byte ∷ token) a

options-found : (before place : ℕ) (options : List OptionData) → AreOptions before place options
    → options_from (option_fields before place options) ≡ options
unfolding option_fields
options-found before place [] h = refl
options-found before place (o ∷ options) h =
    rw (
      bytes_of-octets o.value h.0.bytes,
      options-found o.number (next_place before place o.number)
          options h.1,
    )

-- the fields of a message make that message
pub message-again : (m : Message) → IsMessage m → message_of (fields_of_message m) m.payload ≡ m
unfolding fields_of_message
message-again m h =
    rw (
      bits_value-number_bits 2 m.kind h.kind,
      bits_value-number_bits 8 m.code h.code,
      bits_value-number_bits 16 m.id h.id,
      token-found m.token m.options h.token_bytes,
      no-options
          m.token (option_fields 0 0 m.options),
      options-found 0 0 m.options h.options,
    )

next_place-positive : (before place number : ℕ) → 1 ≤ next_place before place number
next_place-positive before place number =
    elim (cases_eq number before) [
      | inl e ↦ rw (eq-eqb number before e) (omega arith)
      | inr n ↦ rw (ne_eqb number before n) (omega arith)
    ]

stands-next : (before place : ℕ) (o : OptionData) → before ≤ o.number
    → stands_after (20 + before) place
    (record { name = CoapOption o.number; position = next_place before place o.number }) ≡ true
stands-next before place o h =
    let same_rank : Bool = (20 + before) == (20 + o.number) in
    let later : Bool = nat_lt place (next_place before place o.number) in
    elim (cases_eq o.number before) [
      | inl e ↦
          let one : next_place before place o.number ≡ place + 1 = rw (eq-eqb o.number before e) in
          or_right (nat_lt (20 + before) (20 + o.number)) (same_rank && later)
          (and_from same_rank later (eq-eqb (20 + before) (20 + o.number) (omega (arith, e)))
          (lt-ltb place (next_place before place o.number) (omega (arith, one))))
      | inr n ↦
          or_left (nat_lt (20 + before) (20 + o.number)) (same_rank && later)
          (lt-ltb (20 + before) (20 + o.number) (omega (arith, n)))
    ]

option-follows : (before place : ℕ) (o : OptionData) → IsOption before place o
    → can_follow (20 + before) place
    (option_field o.number (next_place before place o.number) o.value) ≡ true
option-follows before place o h =
    let position : ℕ = next_place before place o.number in
    let size : length (octets o.value) ≡ 8 * length o.value = length-octets o.value in
    rw (
      le-leb o.number 65535 h.number,
      le-leb 1 position
          (next_place-positive before place o.number),
      le-leb position 65535 h.repeats,
      stands-next
          before place o h.ascends,
      eq-eqb (length (octets o.value) % 8) 0 (omega (arith, size)),
      le-leb (length (octets o.value)) (8 * 65804) (omega (arith, size, h.size)),
    )

options-ordered : (before place : ℕ) (options : List OptionData) → AreOptions before place options
    → first_held (order (20 + before) place (option_fields before place options)) ≡ None
unfolding option_fields
options-ordered before place [] h = refl
options-ordered before place (o ∷ options) h =
    rw (option-follows before place o h.0)
    (options-ordered o.number (next_place before place o.number) options h.1)

-- options stand after any lower rank
order-lower : (rank : ℕ) (fields : List FieldValue) → rank < 20
    → first_held (order 20 0 fields) ≡ None → first_held (order rank 1 fields) ≡ None
order-lower rank [] h e = refl
order-lower rank (f ∷ fields) h e =
    let o = order-first 20 0 f fields e in
    let least : 20 ≤ rank_of f.at.name = after-at_least 20 0 f.at o.0.stands in
    order-moved 20 0 rank 1 f fields (stands-above rank 1 f.at (omega (arith, least))) e

rest-ordered : (token : List ℕ) (options : List FieldValue) → first_held (order 20 0 options) ≡ None
    → first_held (order 18 1 (token_fields token ++ options)) ≡ None
rest-ordered [] options e = order-lower 18 options (omega arith) e
rest-ordered (byte ∷ token) options e = order-lower 19 options (omega arith) e

header-ordered : (kind tkl code id : ℕ) (rest : List FieldValue)
    → first_held (order 18 1 rest) ≡ None
    → first_held (order 0 0 (header_fields kind tkl code id ++ rest)) ≡ None
header-ordered kind tkl code id rest e = e

header-present : (kind tkl code id : ℕ) (rest : List FieldValue)
    → first_held (presence (header_fields kind tkl code id ++ rest) coap_fields) ≡ None
header-present kind tkl code id rest =
    first_held-from_none (presence (header_fields kind tkl code id ++ rest) coap_fields) (
      refl,
      (
        not_same (length (number_bits 2 1)) 2 (length-number_bits 2 1),
        (
          refl,
          (
            not_same (length (number_bits 2 kind)) 2 (length-number_bits 2 kind),
            (
              refl,
              (
                not_same (length (number_bits 4 tkl)) 4 (length-number_bits 4 tkl),
                (
                  refl,
                  (
                    not_same (length (number_bits 8 code)) 8 (length-number_bits 8 code),
                    (
                      refl,
                      (
                        not_same (length (number_bits 16 id)) 16 (length-number_bits 16 id),
                        tt,
                      ),
                    ),
                  ),
                ),
              ),
            ),
          ),
        ),
      ),
    )

token-right : (kind code id : ℕ) (token : List ℕ) (options : List OptionData) → length token ≤ 8
    → first_held
    (value_refusals (header_fields kind (length token) code id ++ rest_of token options)) ≡ None
token-right kind code id [] options h =
    let zero_tkl : bits_value (number_bits 4 0) ≡ 0 = bits_value-number_bits 4 0 (omega arith) in
    let one : bits_value (number_bits 2 1) ≡ 1 = bits_value-number_bits 2 1 (omega arith) in
    rw (one, zero_tkl, no_token_in 0 0 options)
token-right kind code id (byte ∷ token) options h =
    let count : bits_value (number_bits 4 (length (byte ∷ token))) ≡ length (byte ∷ token) =
    bits_value-number_bits 4 (length (byte ∷ token)) (omega (arith, h)) in
    let one : bits_value (number_bits 2 1) ≡ 1 = bits_value-number_bits 2 1 (omega arith) in
    let size : length (octets (byte ∷ token)) ≡ 8 * length (byte ∷ token) =
    length-octets (byte ∷ token) in
    let few : nat_lt 8 (length (byte ∷ token)) ≡ false = le-ltb 8 (length (byte ∷ token)) h in
    let some : (length (byte ∷ token) == 0) ≡ false =
    ne_eqb (length (byte ∷ token)) 0 (λ e. absurd (omega (arith, e))) in
    let same : (length (octets (byte ∷ token)) == (8 * length (byte ∷ token))) ≡ true =
    eq-eqb (length (octets (byte ∷ token))) (8 * length (byte ∷ token)) size in
    first_held-from_none
    (value_refusals
    (header_fields kind (length (byte ∷ token)) code id ++ rest_of (byte ∷ token) options)) (
      ap (λ (n : ℕ). not (n == 1)) one,
      (
        ap (λ (n : ℕ). nat_lt 8 n) count ∙ few,
        (
          and_right (nat_lt 0 (bits_value (number_bits 4 (length (byte ∷ token))))) false refl,
          (
            and_left (bits_value (number_bits 4 (length (byte ∷ token))) == 0) true
                (ap (λ (n : ℕ). n == 0) count ∙ some),
            (
              ap (λ (n : ℕ). not (length (octets (byte ∷ token)) == (8 * n))) count
                  ∙ ap not same,
              tt,
            ),
          ),
        ),
      ),
    )

options-gapless : (before place : ℕ) (options : List OptionData)
    → first_held (gaps before place (option_fields before place options)) ≡ None
unfolding option_fields
options-gapless before place [] = refl
options-gapless before place (o ∷ options) =
    let position : ℕ = next_place before place o.number in
    rw (le-ltb position position (omega arith)) (options-gapless o.number position options)

rest-gapless : (token : List ℕ) (options : List OptionData)
    → first_held (gaps 0 0 (rest_of token options)) ≡ None
rest-gapless [] options = options-gapless 0 0 options
rest-gapless (byte ∷ token) options = options-gapless 0 0 options

none-refused : (fields : List FieldValue) → first_held (presence fields coap_fields) ≡ None
    → first_held (order 0 0 fields) ≡ None → first_held (value_refusals fields) ≡ None
    → first_held (gaps 0 0 fields) ≡ None → join_refusal fields ≡ None
unfolding join_refusal
none-refused fields p o c g =
    first_held-append_none (presence fields coap_fields)
    (order 0 0 fields ++ (value_refusals fields ++ gaps 0 0 fields)) p
    ∙ first_held-append_none (order 0 0 fields) (value_refusals fields ++ gaps 0 0 fields) o
    ∙ first_held-append_none (value_refusals fields) (gaps 0 0 fields) c
    ∙ g

-- the fields of a message aren't refused
pub message-joins : (m : Message) → IsMessage m → join_refusal (fields_of_message m) ≡ None
unfolding fields_of_message
message-joins m h =
    let rest : List FieldValue = rest_of m.token m.options in
    none-refused (header_fields m.kind (length m.token) m.code m.id ++ rest)
    (header-present m.kind (length m.token) m.code m.id rest)
    (header-ordered m.kind (length m.token) m.code m.id rest
    (rest-ordered m.token (option_fields 0 0 m.options)
    (options-ordered 0 0 m.options h.options)))
    (token-right m.kind m.code m.id m.token m.options h.token)
    (rest-gapless m.token m.options)

-- what a message was split into isn't refused
pub joins-again : (bytes : List ℕ) (fields : List FieldValue) (from : ℕ)
    → MessageOf bytes fields from → join_refusal fields ≡ None
joins-again bytes fields from h = ap join_refusal h.its_fields
    ∙ message-joins h.message h.is_message

its_payload_is : (bytes : List ℕ) (fields : List FieldValue) (from : ℕ)
    → (h : MessageOf bytes fields from) → drop from bytes ≡ h.message.payload
its_payload_is bytes fields from h =
    ap (λ (n : ℕ). drop n bytes) h.its_payload
    ∙ ap (λ (all : List ℕ). drop (length all - length h.message.payload) all) h.its_spelling
    ∙ spelled-payload h.message

-- and makes the same bytes
pub makes-again : (bytes : List ℕ) (fields : List FieldValue) (from : ℕ)
    → MessageOf bytes fields from → message_from fields (drop from bytes) ≡ bytes
unfolding message_from
makes-again bytes fields from h =
    ap (λ (payload : List ℕ). spelled (message_of fields payload))
    (its_payload_is bytes fields from h)
    ∙ ap (λ (fs : List FieldValue). spelled (message_of fs h.message.payload)) h.its_fields
    ∙ ap spelled (message-again h.message h.is_message)
    ∙ sym h.its_spelling

-- messages with the same fields and the same payload are one
pub one_packet : (this that : List ℕ) (fields : List FieldValue) (here there : ℕ)
    → MessageOf this fields here → MessageOf that fields there → drop here this ≡ drop there that
    → this ≡ that
one_packet this that fields here there h k e =
    sym (makes-again this fields here h) ∙ ap (λ (payload : List ℕ). message_from fields payload) e
    ∙ makes-again that fields there k
