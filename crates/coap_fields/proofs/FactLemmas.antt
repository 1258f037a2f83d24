-- What holds of the fields of each message.
use Rattle.std.specs.Prelude.{ℕ, ◌≡◌, ◌≢◌, ◌⊎◌, ◌*◌, ◌%◌, ◌==◌, ◌<◌, ◌≤◌, zero, suc, nat_le, Bool}
use Rattle.std.specs.Prelude.{true, List, [], ◌∷◌, ◌++◌, length, get_or, AllPairs, Contains, None}
use Rattle.std.specs.Prelude.{None}
use Rattle.std.specs.List.{AllByRecursion}
use Rattle.std.proofs.Common.{arith, ap, refl, sym, ◌∙◌, subst, inl, inr}
use Rattle.std.proofs.lemmas.Bool.{false≢true, leb-true, eqb-true, and_parts}
use Rattle.std.proofs.lemmas.List.Elements.{Contains-get_or}
use Rattle.schc_bits.specs.Bits.{number_bits, bits_value}
use Rattle.schc_bits.proofs.NumberBits.{length-number_bits, bits_value-number_bits}
use Rattle.schc_bits.proofs.Octets.{length-octets}
use Rattle.schc_ids.specs.declared.names.FieldName.{FieldName}
use Rattle.schc_ids.specs.declared.names.FieldName.TheVariants.{CoapVersion, CoapType, CoapTkl}
use Rattle.schc_ids.specs.declared.names.FieldName.TheVariants.{CoapCode, CoapMid, CoapToken}
use Rattle.schc_ids.specs.declared.names.FieldName.TheVariants.{CoapOption}
use Rattle.schc_ids.specs.declared.names.FieldAt.{FieldAt}
use Rattle.schc_ids.specs.declared.names.Layer.TheVariants as layer
use Rattle.schc_ids.specs.Names.{is_option, layer_of, rank_of}
use Rattle.rule_model.specs.declared.value.FieldValue.{FieldValue}
use Rattle.rule_model.specs.First.{first_held}
use Rattle.rule_model.specs.Residue.{WidthHolds, token_bits}
use Rattle.coap_fields.specs.Message.{OptionData, Message, next_place, IsMessage}
use Rattle.coap_fields.specs.Fields.{option_fields, header_fields, fields_of_message, MessageOf}
use Rattle.coap_fields.specs.Join.{is_possible, is_size_right, order}
use Rattle.coap_fields.specs.Facts.{StandsBefore, AreCoapFields}
use Rattle.coap_fields.proofs.RankLemmas.{after, order-first}
use Rattle.coap_fields.proofs.JoinLemmas.{NoneHeld, none-held}
use Rattle.coap_fields.proofs.AgainLemmas.{rest_of, joins-again}

-- what holds of each element
all_place : {X : Type 0} → (P : X → Type 0) (xs : List X) → AllByRecursion P xs → (x : X) (k : ℕ)
    → k < length xs → get_or xs k x ≡ x → P x
all_place P [] h x k l e = absurd (omega arith)
all_place P (y ∷ xs) h x zero l e = subst P e h.0
all_place P (y ∷ xs) h x (suc k) l e = all_place P xs h.1 x k (omega arith) e

pub all-at : {X : Type 0} → (P : X → Type 0) (xs : List X) → AllByRecursion P xs → (x : X)
    → Contains xs x → P x
all-at P xs h x among = all_place P xs h x among.0 among.1 among.2

pairs_at : {X : Type 0} → (R : X → X → Type 0) (x : X) (xs : List X) → AllByRecursion (R x) xs
    → AllPairs R xs → (i j : ℕ) (d : X) → i < j → j < length (x ∷ xs)
    → R (get_or (x ∷ xs) i d) (get_or (x ∷ xs) j d)
pairs_at R x xs h k i zero d l m = absurd (omega arith)
pairs_at R x xs h k zero (suc j) d l m =
    all-at (R x) xs h (get_or xs j d) (Contains-get_or xs j d (omega arith))
pairs_at R x xs h k (suc i) (suc j) d l m = k i j d (omega arith) (omega arith)

-- after a rank and position
abbrev IsAfter : ℕ → ℕ → FieldValue → Type 0
IsAfter rank position f = (rank < rank_of f.at.name)
    ⊎ ((rank ≡ rank_of f.at.name) × (position < f.at.position))

later : (rank position : ℕ) (f g : FieldValue) → IsAfter rank position f
    → IsAfter (rank_of f.at.name) f.at.position g → IsAfter rank position g
later rank position f g a b =
    elim a [
      | inl r ↦ elim b [
        | inl s ↦ inl (omega (arith, r, s))
        | inr s ↦ inl (omega (arith, r, s.0))
      ]
      | inr r ↦ elim b [
        | inl s ↦ inl (omega (arith, r.0, s))
        | inr s ↦ inr (r.0 ∙ s.0, omega (arith, r.1, s.1))
      ]
    ]

all_later : (rank position : ℕ) (f : FieldValue) (fields : List FieldValue)
    → IsAfter rank position f
    → AllByRecursion (λ g. IsAfter (rank_of f.at.name) f.at.position g) fields
    → AllByRecursion (λ g. IsAfter rank position g) fields
all_later rank position f [] a h = tt
all_later rank position f (g ∷ fields) a h =
    (later rank position f g a h.0, all_later rank position f fields a h.1)

all_after : (rank position : ℕ) (fields : List FieldValue)
    → first_held (order rank position fields) ≡ None
    → AllByRecursion (λ g. IsAfter rank position g) fields
all_after rank position [] e = tt
all_after rank position (f ∷ fields) e =
    let o = order-first rank position f fields e in
    let a : IsAfter rank position f = after rank position f.at o.0.stands in
    (a, all_later rank position f fields a (all_after (rank_of f.at.name) f.at.position fields o.1))

-- fields that follow one another stand in packet order
in_order : (rank position : ℕ) (fields : List FieldValue)
    → first_held (order rank position fields) ≡ None
    → AllPairs (λ f g. StandsBefore f.at g.at) fields
in_order rank position [] e = λ i j d l m. absurd (omega arith)
in_order rank position (f ∷ fields) e =
    let o = order-first rank position f fields e in
    pairs_at (λ (f : FieldValue) (g : FieldValue). StandsBefore f.at g.at) f fields
    (all_after (rank_of f.at.name) f.at.position fields o.1)
    (in_order (rank_of f.at.name) f.at.position fields o.1)

apart : (at other : FieldAt) → StandsBefore at other → at ≢ other
apart at other h e =
    let ranks : rank_of at.name ≡ rank_of other.name = ap (λ (a : FieldAt). rank_of a.name) e in
    let positions : at.position ≡ other.position = ap (λ (a : FieldAt). a.position) e in
    elim h [
      | inl l ↦ omega (arith, l, ranks)
      | inr l ↦ omega (arith, l.1, positions)
    ]

-- what follows is of CoAP
possible_layer : (name : FieldName) (position : ℕ) → is_possible name position ≡ true
    → layer_of name ≡ layer.Coap
possible_layer CoapVersion position p = refl
possible_layer CoapType position p = refl
possible_layer CoapTkl position p = refl
possible_layer CoapCode position p = refl
possible_layer CoapMid position p = refl
possible_layer CoapToken position p = refl
possible_layer (CoapOption number) position p = refl
possible_layer _ position p = absurd (false≢true p)

option_size : (name : FieldName) (value : List Bool) → is_size_right name value ≡ true
    → is_option name ≡ true → (length value % 8 ≡ 0) × (length value ≤ 8 * 65804)
option_size (CoapOption number) value s o =
    let p = and_parts (length value % 8 == 0) (nat_le (length value) (8 * 65804)) s in
    (eqb-true (length value % 8) 0 p.0, leb-true (length value) (8 * 65804) p.1)
option_size _ value s o = absurd (false≢true o)

abbrev OptionHolds : FieldValue → Type 0
OptionHolds f = is_option f.at.name ≡ true → (length f.value % 8 ≡ 0) × (length f.value ≤ 8 * 65804)

each_follows : (rank position : ℕ) (fields : List FieldValue)
    → first_held (order rank position fields) ≡ None
    → AllByRecursion (λ (f : FieldValue). layer_of f.at.name ≡ layer.Coap) fields
    × AllByRecursion OptionHolds fields
each_follows rank position [] e = (tt, tt)
each_follows rank position (f ∷ fields) e =
    let o = order-first rank position f fields e in
    let more = each_follows (rank_of f.at.name) f.at.position fields o.1 in (
      (possible_layer f.at.name f.at.position o.0.possible, more.0),
      (λ is. option_size f.at.name f.value o.0.size is, more.1),
    )

-- widths and the token
abbrev TokenIs : ℕ → FieldValue → Type 0
TokenIs bits f = f.at.name ≡ CoapToken → length f.value ≡ bits

abbrev Fits : ℕ → FieldValue → Type 0
Fits bits f = WidthHolds f.at.name f.value × TokenIs bits f

not_token : (name : FieldName) → rank_of name ≢ 19 → name ≢ CoapToken
not_token name h e = h (ap rank_of e)

options_fit : (bits before place : ℕ) (options : List OptionData)
    → AllByRecursion (λ f. Fits bits f) (option_fields before place options)
unfolding option_fields
options_fit bits before place [] = tt
options_fit bits before place (o ∷ options) =
    let other : CoapOption o.number ≢ CoapToken =
    not_token (CoapOption o.number) (λ e. omega (arith, e)) in (
      (tt, λ e. absurd (other e)),
      options_fit bits o.number (next_place before place o.number)
          options,
    )

rest_fits : (token : List ℕ) (options : List OptionData)
    → AllByRecursion (λ f. Fits (8 * length token) f) (rest_of token options)
rest_fits [] options = options_fit 0 0 0 options
rest_fits (byte ∷ token) options =
    ((tt, λ e. length-octets (byte ∷ token)), options_fit (8 * length (byte ∷ token)) 0 0 options)

header_fits : (kind tkl code id bits : ℕ) (rest : List FieldValue)
    → AllByRecursion (λ f. Fits bits f) rest
    → AllByRecursion (λ f. Fits bits f) (header_fields kind tkl code id ++ rest)
header_fits kind tkl code id bits rest h = (
  (length-number_bits 2 1, λ e. absurd (not_token CoapVersion (λ r. omega (arith, r)) e)),
  (
    (length-number_bits 2 kind, λ e. absurd (not_token CoapType (λ r. omega (arith, r)) e)),
    (
      (length-number_bits 4 tkl, λ e. absurd (not_token CoapTkl (λ r. omega (arith, r)) e)),
      (
        (length-number_bits 8 code, λ e. absurd (not_token CoapCode (λ r. omega (arith, r)) e)),
        ((length-number_bits 16 id, λ e. absurd (not_token CoapMid (λ r. omega (arith, r)) e)), h),
      ),
    ),
  ),
)

message_fits : (m : Message) → IsMessage m
    → AllByRecursion (λ f. Fits (token_bits (fields_of_message m)) f) (fields_of_message m)
unfolding fields_of_message
message_fits m h =
    let tkl : bits_value (number_bits 4 (length m.token)) ≡ length m.token =
    bits_value-number_bits 4 (length m.token) (omega (arith, h.token)) in
    let bits : token_bits (fields_of_message m) ≡ 8 * length m.token = ap (λ (n : ℕ). 8 * n) tkl in
    subst (λ (n : ℕ). AllByRecursion (λ f. Fits n f) (fields_of_message m)) (sym bits)
    (header_fits m.kind (length m.token) m.code m.id (8 * length m.token)
    (rest_of m.token m.options) (rest_fits m.token m.options))

-- the fields of a message are as they have to be
pub are-coap_fields : (bytes : List ℕ) (fields : List FieldValue) (from : ℕ)
    → MessageOf bytes fields from → AreCoapFields fields
are-coap_fields bytes fields from h =
    let none : NoneHeld fields = none-held fields (joins-again bytes fields from h) in
    let ordered : AllPairs (λ (f : FieldValue) (g : FieldValue). StandsBefore f.at g.at) fields =
    in_order 0 0 fields none.ordered in
    let follow = each_follows 0 0 fields none.ordered in
    let fits : AllByRecursion (λ f. Fits (token_bits fields) f) fields =
    subst (λ (fs : List FieldValue). AllByRecursion (λ f. Fits (token_bits fs) f) fs)
    (sym h.its_fields) (message_fits h.message h.is_message)
    in
    record {
      of_coap = all-at (λ (f : FieldValue). layer_of f.at.name ≡ layer.Coap) fields follow.0;
      in_order = ordered;
      each_once =
          λ i j d l m. apart (get_or fields i d).at (get_or fields j d).at (ordered i j d l m);
      width_holds = λ f among. (all-at (λ g. Fits (token_bits fields) g) fields fits f among).0;
      token_holds = λ f among. (all-at (λ g. Fits (token_bits fields) g) fields fits f among).1;
      whole_bytes = λ f among is. (all-at OptionHolds fields follow.1 f among is).0;
      size_holds = λ f among is. (all-at OptionHolds fields follow.1 f among is).1;
    }
