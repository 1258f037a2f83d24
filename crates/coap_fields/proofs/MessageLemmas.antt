-- A message: what was spelled is read, and what is read was spelled.
use Rattle.std.specs.Prelude.{ℕ, ◌≡◌, ◌+◌, ◌*◌, ◌/◌, ◌%◌, ◌==◌, ◌<◌, ◌≤◌, not, nat_lt, false, List}
use Rattle.std.specs.Prelude.{[], ◌∷◌, ◌++◌, length, take, drop, Result, Ok, Err}
use Rattle.std.proofs.Common.{arith, ap, refl, sym, ◌∙◌, subst}
use Rattle.std.proofs.lemmas.Bool.{le-ltb, ltb-false, eq-eqb, eqb-true, not_from_true, not-false}
use Rattle.std.proofs.lemmas.Bool.{or_from, or_parts}
use Rattle.std.proofs.lemmas.List.{length-append, length-take-le, take_at, drop_at}
use Rattle.std.proofs.lemmas.List.{take-append-drop}
use Rattle.schc_bits.specs.Bits.{AreBytes}
use Rattle.coap_fields.specs.Message.{OptionData, Message, IsMessage, options_spelled}
use Rattle.coap_fields.specs.Message.{payload_spelled, spelled}
use Rattle.coap_fields.specs.Reading.{options_at, with_header, token_at, is_first_wrong, header_at}
use Rattle.coap_fields.specs.Reading.{read_message}
use Rattle.coap_fields.proofs.NumberLemmas.{guard-ok}
use Rattle.coap_fields.proofs.OptionLemmas.{take-bytes, drop-bytes}
use Rattle.coap_fields.proofs.OptionsLemmas.{options_at-again, IsTaken, options_within-takes}

token_at-again : (size kind code id : ℕ) (token rest : List ℕ)
    → token_at size kind (length token) code id (token ++ rest) ≡ with_header kind code id token
    (options_at size 0 0 rest)
token_at-again size kind code id token rest =
    let enough : length token ≤ length (token ++ rest) =
    rw (length-append token rest) (omega arith) in
    rw (
      le-ltb (length (token ++ rest)) (length token) enough,
      take_at token rest (length token)
          refl,
      drop_at token rest (length token) refl,
    )

first_right : (kind tkl : ℕ) → kind < 4 → tkl ≤ 8 → is_first_wrong (64 + 16 * kind + tkl) ≡ false
first_right kind tkl h k =
    let version : (64 + 16 * kind + tkl) / 64 ≡ 1 = omega arith in
    let size : (64 + 16 * kind + tkl) % 16 ≤ 8 = omega arith in
    or_from (not ((64 + 16 * kind + tkl) / 64 == 1)) (nat_lt 8 ((64 + 16 * kind + tkl) % 16))
    (not_from_true ((64 + 16 * kind + tkl) / 64 == 1)
    (eq-eqb ((64 + 16 * kind + tkl) / 64) 1 version))
    (le-ltb 8 ((64 + 16 * kind + tkl) % 16) size)

kind_part : (kind tkl : ℕ) → kind < 4 → tkl ≤ 8 → (64 + 16 * kind + tkl) / 16 % 4 ≡ kind
kind_part kind tkl h k = omega arith

tkl_part : (kind tkl : ℕ) → tkl ≤ 8 → (64 + 16 * kind + tkl) % 16 ≡ tkl
tkl_part kind tkl k = omega arith

id_part : (id : ℕ) → 256 * (id / 256) + id % 256 ≡ id
id_part id = omega arith

-- a message that was spelled is read
pub read_message-again : (m : Message) → IsMessage m → read_message (spelled m) ≡ Ok m
unfolding read_message spelled
read_message-again m h =
    let rest : List ℕ = options_spelled 0 m.options ++ payload_spelled m.payload in
    let size : ℕ = length (spelled m) in
    rw (
      first_right m.kind (length m.token) h.kind h.token,
      kind_part m.kind (length m.token) h.kind
          h.token,
      tkl_part m.kind (length m.token) h.token,
      id_part m.id,
    )
    (token_at-again size m.kind m.code m.id m.token rest
    ∙ ap (with_header m.kind m.code m.id m.token)
    (options_at-again size m.options m.payload h.options))

-- messages with one spelling are one
pub spelled_once : (this that : Message) → IsMessage this → IsMessage that
    → spelled this ≡ spelled that → this ≡ that
spelled_once this that h k e =
    let both : ◌≡◌ {A = Result Message ℕ} (Ok this) (Ok that) =
    sym (read_message-again this h) ∙ ap read_message e ∙ read_message-again that k
    in
    cc

-- what is read of a message was spelled
pub record IsWhole (bytes : List ℕ) (m : Message) : Type 0 where
  pub is_message : IsMessage m
  pub bytes_are : bytes ≡ spelled m

with_header-ok : (kind code id : ℕ) (token : List ℕ) (read : Result (List OptionData × List ℕ) ℕ)
    (m : Message) → with_header kind code id token read ≡ Ok m → (r : List OptionData × List ℕ)
    × (read ≡ Ok r)
    × (record
    { kind = kind; code = code; id = id; token = token; options = r.0; payload = r.1 } ≡ m)
with_header-ok kind code id token (Err stop) m e = absurd (cc)
with_header-ok kind code id token (Ok r) m e = (r, refl, cc)

first_is : (first : ℕ) → first / 64 ≡ 1 → first ≡ 64 + 16 * (first / 16 % 4) + first % 16
first_is first h = omega arith

whole : (first code high low : ℕ) (bytes : List ℕ) (options : List OptionData) (payload : List ℕ)
    → first / 64 ≡ 1 → first % 16 ≤ 8 → code < 256 → high < 256 → low < 256 → AreBytes bytes
    → first % 16 ≤ length bytes → IsTaken 0 0 (drop (first % 16) bytes) options payload
    → IsWhole (first ∷ code ∷ high ∷ low ∷ bytes)
    (record {
      kind = first / 16 % 4;
      code = code;
      id = 256 * high + low;
      token =
          take (first % 16) bytes;
      options = options;
      payload = payload;
    })
unfolding spelled
whole first code high low bytes options payload v t c h l a enough taken =
    let size : length (take (first % 16) bytes) ≡ first % 16 =
    length-take-le (first % 16) bytes enough in
    let front : 64 + 16 * (first / 16 % 4) + first % 16 ≡ first = sym (first_is first v) in
    let more : (256 * high + low) / 256 ≡ high = omega arith in
    let less : (256 * high + low) % 256 ≡ low = omega arith in
    let rest : bytes ≡ take (first % 16)
    bytes ++ (options_spelled 0 options ++ payload_spelled payload) =
    sym (take-append-drop (first % 16) bytes)
    ∙ ap (λ x. take (first % 16) bytes ++ x) taken.bytes_are
    in
    record {
      is_message =
          record {
            kind = omega arith;
            code = c;
            id = omega arith;
            token = rw size t;
            token_bytes = take-bytes (first % 16) bytes a;
            options = taken.are_options;
            payload_bytes = taken.payload_bytes;
          };
      bytes_are = rw (size, front, more, less) (ap (λ x. first ∷ code ∷ high ∷ low ∷ x) rest);
    }

token_at-takes : (size first code high low : ℕ) (bytes : List ℕ) (m : Message) → first / 64 ≡ 1
    → first % 16 ≤ 8 → code < 256 → high < 256 → low < 256 → AreBytes bytes
    → token_at size (first / 16 % 4) (first % 16) code (256 * high + low) bytes ≡ Ok m
    → IsWhole (first ∷ code ∷ high ∷ low ∷ bytes) m
token_at-takes size first code high low bytes m v t c h l a e =
    let g = guard-ok (nat_lt (length bytes) (first % 16)) size _ m e in
    let rest : List ℕ = drop (first % 16) bytes in
    let w = with_header-ok (first / 16 % 4) code (256 * high + low) (take (first % 16) bytes)
    (options_at size 0 0 rest) m g.1 in
    let enough : first % 16 ≤ length bytes = ltb-false (length bytes) (first % 16) g.0 in
    let taken : IsTaken 0 0 rest w.0.0 w.0.1 =
    options_within-takes (length rest) size 0 0 rest w.0.0 w.0.1 (omega arith)
    (drop-bytes (first % 16) bytes a) w.1 in
    subst (λ x. IsWhole (first ∷ code ∷ high ∷ low ∷ bytes) x) w.2
    (whole first code high low bytes w.0.0 w.0.1 v t c h l a enough taken)

header_at-takes : (size first : ℕ) (bytes : List ℕ) (m : Message) → first / 64 ≡ 1 → first % 16 ≤ 8
    → AreBytes bytes → header_at size first bytes ≡ Ok m → IsWhole (first ∷ bytes) m
header_at-takes size first [] m v t a e = absurd (cc)
header_at-takes size first (code ∷ []) m v t a e = absurd (cc)
header_at-takes size first (code ∷ high ∷ []) m v t a e = absurd (cc)
header_at-takes size first (code ∷ high ∷ low ∷ bytes) m v t a e =
    token_at-takes size first code high low bytes m v t a.0 a.1.0 a.1.1.0 a.1.1.1 e

-- a message that is read from bytes can be spelled, and the bytes are its spelling
pub read_message-takes : (bytes : List ℕ) (m : Message) → AreBytes bytes → read_message bytes ≡ Ok m
    → IsWhole bytes m
unfolding read_message
read_message-takes [] m a e = absurd (cc)
read_message-takes (first ∷ bytes) m a e =
    let g = guard-ok (is_first_wrong first) 0 _ m e in
    let p = or_parts (not (first / 64 == 1)) (nat_lt 8 (first % 16)) g.0 in
    header_at-takes (length (first ∷ bytes)) first bytes m
    (eqb-true (first / 64) 1 (not-false (first / 64 == 1) p.0)) (ltb-false 8 (first % 16) p.1)
    a.1 g.1
