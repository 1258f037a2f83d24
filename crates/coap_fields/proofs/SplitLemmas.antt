-- What is split is what is read.
use Rattle.std.specs.Prelude.{ℕ, ◌≡◌, ◌+◌, ◌-◌, ◌*◌, ◌/◌, ◌%◌, ◌<◌, ◌≤◌, List, [], ◌∷◌, ◌++◌}
use Rattle.std.specs.Prelude.{length, get_or, take, drop, Result, Ok, Err}
use Rattle.std.proofs.Common.{arith, ap, refl, sym, ◌∙◌, subst}
use Rattle.std.proofs.lemmas.Bool.{le-ltb}
use Rattle.std.proofs.lemmas.List.{append_assoc, length-take-le, length-drop, take_all}
use Rattle.schc_bits.specs.Bits.{AreBytes}
use Rattle.rule_model.specs.declared.value.FieldValue.{FieldValue}
use Rattle.rule_model.specs.SplitData.{SplitData}
use Rattle.coap_fields.specs.Message.{OptionData, Message}
use Rattle.coap_fields.specs.Fields.{token_fields, option_fields, header_fields, fields_of_message}
use Rattle.coap_fields.specs.Fields.{MessageOf}
use Rattle.coap_fields.specs.Reading.{options_at, with_header, token_at, first_at, header_at}
use Rattle.coap_fields.specs.Reading.{read_message, split_of, message_in}
use Rattle.coap_fields.specs.Placed.{placed}
use Rattle.coap_fields.proofs.TurnLemmas.{split_parts}
use Rattle.coap_fields.proofs.MessageLemmas.{IsWhole, read_message-again, read_message-takes}

split_of-placed : (size kind code id : ℕ) (token : List ℕ)
    (read : Result (List OptionData × List ℕ) ℕ)
    → split_of size (with_header kind code id token read) ≡ placed
    (header_fields kind (length token) code id ++ token_fields token) 0 0 size read
unfolding fields_of_message
split_of-placed size kind code id token (Err stop) = refl
split_of-placed size kind code id token (Ok read) =
    rw (append_assoc (header_fields kind (length token) code id) (token_fields token)
    (option_fields 0 0 read.0))

-- the fields of the header and the token, and then those of the options
pub split-placed : (size kind tkl code id : ℕ) (bytes token rest : List ℕ) (front : List FieldValue)
    → tkl ≤ length bytes → token ≡ take tkl bytes → rest ≡ drop tkl bytes
    → front ≡ header_fields kind tkl code id ++ token_fields token
    → split_of size (token_at size kind tkl code id bytes) ≡ placed front 0 0 size
    (options_at size 0 0 rest)
split-placed size kind tkl code id bytes token rest front h t r f =
    let count : length (take tkl bytes) ≡ tkl = length-take-le tkl bytes h in
    rw (le-ltb (length bytes) tkl h, f, t, r)
    (subst (λ n. split_of size
    (with_header kind code id (take tkl bytes) (options_at size 0 0 (drop tkl bytes))) ≡ placed
    (header_fields kind n code id ++ token_fields (take tkl bytes)) 0 0 size
    (options_at size 0 0 (drop tkl bytes))) count
    (split_of-placed size kind code id (take tkl bytes) (options_at size 0 0 (drop tkl bytes))))

-- the header, where its bytes are there
pub header_at-short : (size first : ℕ) (bytes : List ℕ) → length bytes < 3
    → header_at size first bytes ≡ Err size
header_at-short size first [] h = refl
header_at-short size first (code ∷ []) h = refl
header_at-short size first (code ∷ high ∷ []) h = refl
header_at-short size first (code ∷ high ∷ low ∷ rest) h = absurd (omega arith)

pub header_at-long : (size first id : ℕ) (bytes rest : List ℕ) → 3 ≤ length bytes
    → rest ≡ drop 3 bytes → id ≡ get_or bytes 1 0 * 256 + get_or bytes 2 0
    → header_at size first bytes ≡ token_at size (first / 16 % 4) (first % 16) (get_or bytes 0 0) id
    rest
header_at-long size first id [] rest h r e = absurd (omega arith)
header_at-long size first id (code ∷ []) rest h r e = absurd (omega arith)
header_at-long size first id (code ∷ high ∷ []) rest h r e = absurd (omega arith)
header_at-long size first id (code ∷ high ∷ low ∷ bytes) rest h r e =
    let flip : 256 * high + low ≡ id = omega (arith, e) in
    rw (flip, r)

pub long-rest : (bytes : List ℕ) → take (length bytes - 3) (drop 3 bytes) ≡ drop 3 bytes
long-rest bytes = take_all (length bytes - 3) (drop 3 bytes) (omega (arith, length-drop 3 bytes))

-- the first byte, and those after it
pub message_in-none : (message : List ℕ) → length message < 1 → message_in message ≡ Err 0
unfolding message_in read_message
message_in-none [] h = refl
message_in-none (first ∷ bytes) h = absurd (omega arith)

-- one byte or more are split by what the first byte and the later ones say
pub message_in-first : (message later : List ℕ) → 1 ≤ length message → later ≡ drop 1 message
    → message_in message ≡ split_of (length message)
    (first_at (length message) (get_or message 0 0) later)
unfolding message_in read_message
message_in-first [] later h l = absurd (omega arith)
message_in-first (first ∷ bytes) later h l = rw l

-- what is read is a message, with its fields and its payload
split_of-ok : (size : ℕ) (read : Result Message ℕ) (split : SplitData)
    → split_of size read ≡ Ok split → (m : Message) × (read ≡ Ok m)
    × (record { fields = fields_of_message m; payload_from = size - length m.payload } ≡ split)
split_of-ok size (Err stop) split e = absurd (cc)
split_of-ok size (Ok m) split e = (m, refl, cc)

-- bytes that are split spell a message with these fields, and its payload begins at this byte
pub message_in-takes : (bytes : List ℕ) (split : SplitData) → AreBytes bytes
    → message_in bytes ≡ Ok split → MessageOf bytes split.fields split.payload_from
unfolding message_in
message_in-takes bytes split a e =
    let s = split_of-ok (length bytes) (read_message bytes) split e in
    let w : IsWhole bytes s.0 = read_message-takes bytes s.0 a s.1 in
    record {
      message = s.0;
      is_message = w.is_message;
      its_spelling = w.bytes_are;
      its_fields = sym (ap (λ (x : SplitData). x.fields) s.2);
      its_payload = sym (ap (λ (x : SplitData). x.payload_from) s.2);
    }

-- bytes that spell a message are split into its fields, and its payload
pub message_in-again : (bytes : List ℕ) (split : SplitData)
    → MessageOf bytes split.fields split.payload_from → message_in bytes ≡ Ok split
unfolding message_in
message_in-again bytes split h =
    let read : read_message bytes ≡ Ok h.message = ap read_message h.its_spelling
    ∙ read_message-again h.message h.is_message in
    ap (split_of (length bytes)) read
    ∙ ap (λ (f : List FieldValue). split_parts f (length bytes - length h.message.payload))
    (sym h.its_fields)
    ∙ ap (λ (n : ℕ). split_parts split.fields n) (sym h.its_payload)

-- bytes that spell a message have one list of fields, and one byte at which the payload begins
pub one-split : (bytes : List ℕ) (these those : List FieldValue) (here there : ℕ)
    → MessageOf bytes these here → MessageOf bytes those there → (these ≡ those) × (here ≡ there)
one-split bytes these those here there h k =
    let both : split_parts these here ≡ split_parts those there =
    sym (message_in-again bytes (record { fields = these; payload_from = here }) h)
    ∙ message_in-again bytes (record { fields = those; payload_from = there }) k
    in
    let parts : ◌≡◌ {A = SplitData} (record { fields = these; payload_from = here })
    (record { fields = those; payload_from = there }) = cc in
    (ap (λ (x : SplitData). x.fields) parts, ap (λ (x : SplitData). x.payload_from) parts)
