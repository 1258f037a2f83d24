-- What holds of each field of a message.
use Rattle.std.specs.Prelude.{ℕ, ◌≡◌, ◌+◌, ◌-◌, ◌*◌, ◌/◌, ◌%◌, ◌≤◌, Bool, false, List, [], ◌∷◌}
use Rattle.std.specs.Prelude.{◌++◌, length, All}
use Rattle.std.proofs.Common.{arith, ap, refl, sym, ◌∙◌}
use Rattle.std.proofs.lemmas.List.{length-append}
use Rattle.std.proofs.lemmas.List.Elements.{All-nil, All-cons, All-append}
use Rattle.schc_bits.specs.Bits.{number_bits, bits_value, octets}
use Rattle.schc_bits.proofs.NumberBits.{length-number_bits, bits_value-number_bits}
use Rattle.schc_bits.proofs.Octets.{length-octets}
use Rattle.schc_ids.specs.declared.ends.Direction.{Direction}
use Rattle.schc_ids.specs.declared.ends.Direction.TheVariants.{Up, Down}
use Rattle.schc_ids.specs.declared.names.FieldName.{FieldName}
use Rattle.schc_ids.specs.declared.names.FieldName.TheVariants.{CoapVersion, CoapType, CoapTkl}
use Rattle.schc_ids.specs.declared.names.FieldName.TheVariants.{CoapCode, CoapMid, CoapToken}
use Rattle.schc_ids.specs.declared.names.FieldName.TheVariants.{CoapOption}
use Rattle.schc_ids.specs.declared.names.Stack.TheVariants as stack
use Rattle.rule_model.specs.declared.value.FieldValue.{FieldValue}
use Rattle.rule_model.specs.Residue.{value_of, token_bits, WidthHolds}
use Rattle.ip_udp_fields.specs.Fields.{fields_in}
use Rattle.coap_fields.specs.Message.{OptionData, Message, next_place, IsMessage, extension}
use Rattle.coap_fields.specs.Message.{option_spelled, options_spelled, payload_spelled}
use Rattle.coap_fields.specs.Message.{header_spelled, spelled}
use Rattle.coap_fields.specs.Fields.{at_name, field, token_fields, option_field, option_fields}
use Rattle.coap_fields.specs.Fields.{fields_of_message}
use Rattle.packer.proofs.HeaderFieldsLemmas.{is_below_coap}

-- the token, if there is one
pub token-each : (P : FieldValue → Type 0) (token : List ℕ)
    → ((byte : ℕ) (more : List ℕ) → token ≡ byte ∷ more
    → P (field CoapToken (octets (byte ∷ more)))) → All P (token_fields token)
token-each P [] h = All-nil P
token-each P (byte ∷ more) h =
    All-cons P (field CoapToken (octets (byte ∷ more))) [] (h byte more refl) (All-nil P)

-- each option
pub options-each : (P : FieldValue → Type 0) (before place : ℕ) (options : List OptionData)
    → ((number position : ℕ) (value : List ℕ) → P (option_field number position value))
    → All P (option_fields before place options)
unfolding option_fields
options-each P before place [] h = All-nil P
options-each P before place (o ∷ options) h =
    All-cons P (option_field o.number (next_place before place o.number) o.value)
    (option_fields o.number (next_place before place o.number) options)
    (h o.number (next_place before place o.number) o.value)
    (options-each P o.number (next_place before place o.number) options h)

-- each field of the header
pub record HoldsOfHeader (P : FieldValue → Type 0) (m : Message) : Type 0 where
  pub version : P (field CoapVersion (number_bits 2 1))
  pub kind : P (field CoapType (number_bits 2 m.kind))
  pub tkl : P (field CoapTkl (number_bits 4 (length m.token)))
  pub code : P (field CoapCode (number_bits 8 m.code))
  pub id : P (field CoapMid (number_bits 16 m.id))

all_five : (P : FieldValue → Type 0) (a b c d e : FieldValue) (rest : List FieldValue) → P a → P b
    → P c → P d → P e → All P rest → All P (a ∷ b ∷ c ∷ d ∷ e ∷ rest)
all_five P a b c d e rest h i j k l more =
    All-cons P a (b ∷ c ∷ d ∷ e ∷ rest) h
    (All-cons P b (c ∷ d ∷ e ∷ rest) i
    (All-cons P c (d ∷ e ∷ rest) j (All-cons P d (e ∷ rest) k (All-cons P e rest l more))))

pub message-each : (P : FieldValue → Type 0) (m : Message) → HoldsOfHeader P m
    → All P (token_fields m.token) → All P (option_fields 0 0 m.options)
    → All P (fields_of_message m)
unfolding fields_of_message
message-each P m h token options =
    all_five P (field CoapVersion (number_bits 2 1)) (field CoapType (number_bits 2 m.kind))
    (field CoapTkl (number_bits 4 (length m.token))) (field CoapCode (number_bits 8 m.code))
    (field CoapMid (number_bits 16 m.id)) (token_fields m.token ++ option_fields 0 0 m.options)
    h.version h.kind h.tkl h.code h.id
    (All-append P (token_fields m.token) (option_fields 0 0 m.options) token options)

-- none is a field of IPv6 or UDP
pub message-above : (m : Message) → All (λ f. is_below_coap f.at.name ≡ false) (fields_of_message m)
message-above m =
    message-each (λ f. is_below_coap f.at.name ≡ false) m
    (record { version = refl; kind = refl; tkl = refl; code = refl; id = refl })
    (token-each (λ f. is_below_coap f.at.name ≡ false) m.token (λ byte more e. refl))
    (options-each (λ f. is_below_coap f.at.name ≡ false) 0 0 m.options
    (λ number position value. refl))

-- each has the width of its name
pub message-wide : (m : Message) → All (λ f. WidthHolds f.at.name f.value) (fields_of_message m)
message-wide m =
    message-each (λ f. WidthHolds f.at.name f.value) m
    (record {
      version = length-number_bits 2 1;
      kind = length-number_bits 2 m.kind;
      tkl = length-number_bits 4 (length m.token);
      code = length-number_bits 8 m.code;
      id = length-number_bits 16 m.id;
    })
    (token-each (λ f. WidthHolds f.at.name f.value) m.token (λ byte more e. tt))
    (options-each (λ f. WidthHolds f.at.name f.value) 0 0 m.options (λ number position value. tt))

-- a token of so many bytes, and an option of at most so many
abbrev pub RightSize : ℕ → ℕ → FieldName → List Bool → Type 0
RightSize count most CoapToken value = length value ≡ 8 * count
RightSize count most (CoapOption number) value = (length value % 8 ≡ 0) × (length value / 8 ≤ most)
RightSize count most _ value = Unit {0}

option_short : (before : ℕ) (o : OptionData) → length o.value ≤ length (option_spelled before o)
option_short before o =
    omega (
      arith,
      length-append (extension (length o.value)) o.value,
      length-append
          (extension (o.number - before)) (extension (length o.value) ++ o.value),
    )

options_right : (count most before place : ℕ) (options : List OptionData)
    → length (options_spelled before options) ≤ most
    → All (λ f. RightSize count most f.at.name f.value) (option_fields before place options)
unfolding option_fields options_spelled
options_right count most before place [] h = All-nil _
options_right count most before place (o ∷ options) h =
    let both : length (options_spelled before (o ∷ options)) ≡ length
    (option_spelled before o) + length (options_spelled o.number options) =
    length-append (option_spelled before o) (options_spelled o.number options) in
    let short : length o.value ≤ length (option_spelled before o) = option_short before o in
    let size : length (octets o.value) ≡ 8 * length o.value = length-octets o.value in
    All-cons (λ f. RightSize count most f.at.name f.value)
    (option_field o.number (next_place before place o.number) o.value)
    (option_fields o.number (next_place before place o.number) options)
    (omega (arith, size), omega (arith, size, both, short, h))
    (options_right count most o.number (next_place before place o.number) options
    (omega (arith, both, h)))

options_within : (m : Message) → length (options_spelled 0 m.options) ≤ length (spelled m)
unfolding spelled
options_within m =
    omega (
      arith,
      length-append (header_spelled m)
          (m.token ++ (options_spelled 0 m.options ++ payload_spelled m.payload)),
      length-append
          m.token (options_spelled 0 m.options ++ payload_spelled m.payload),
      length-append
          (options_spelled 0 m.options) (payload_spelled m.payload),
    )

token_length : (token : List ℕ) (byte : ℕ) (more : List ℕ) → token ≡ byte ∷ more
    → length (octets (byte ∷ more)) ≡ 8 * length token
token_length token byte more e = length-octets (byte ∷ more)
    ∙ ap (λ (t : List ℕ). 8 * length t) (sym e)

-- the token and the options have right sizes
pub message-right : (m : Message) (most : ℕ) → length (spelled m) ≤ most
    → All (λ f. RightSize (length m.token) most f.at.name f.value) (fields_of_message m)
message-right m most h =
    message-each (λ f. RightSize (length m.token) most f.at.name f.value) m
    (record { version = tt; kind = tt; tkl = tt; code = tt; id = tt })
    (token-each (λ f. RightSize (length m.token) most f.at.name f.value) m.token
    (token_length m.token))
    (options_right (length m.token) most 0 0 m.options (omega (arith, options_within m, h)))

-- the bits of the token
tkl_value : (direction : Direction) (packet : List ℕ) (m : Message)
    → value_of (fields_in stack.IpUdp direction packet ++ fields_of_message m)
    (at_name CoapTkl) ≡ number_bits 4 (length m.token)
unfolding fields_in fields_of_message
tkl_value Up packet m = refl
tkl_value Down packet m = refl

-- the token length field of a packet with the message says 8 bits for each byte of its token
pub message-token_bits : (direction : Direction) (packet : List ℕ) (m : Message) → IsMessage m
    → token_bits (fields_in stack.IpUdp direction packet ++ fields_of_message m) ≡ 8 * length
    m.token
message-token_bits direction packet m h =
    ap (λ (bits : List Bool). 8 * bits_value bits) (tkl_value direction packet m)
    ∙ ap (λ n. 8 * n) (bits_value-number_bits 4 (length m.token) (omega (arith, h.token)))
