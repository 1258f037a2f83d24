-- One turn of reading options.
use Rattle.std.specs.Prelude.{ℕ, ◌≡◌, ◌-◌, ◌<◌, ◌≤◌, List, [], ◌∷◌, ◌++◌, length, get_or, take}
use Rattle.std.specs.Prelude.{drop, Result, Ok, Err}
use Rattle.std.proofs.Common.{arith, ap, sym, ◌∙◌}
use Rattle.std.proofs.lemmas.Bool.{ne_eqb}
use Rattle.std.proofs.lemmas.List.{append-nil, take_all, length-drop}
use Rattle.rule_model.specs.declared.value.FieldValue.{FieldValue}
use Rattle.rule_model.specs.declared.parts.SplitFault.{SplitFault}
use Rattle.rule_model.specs.declared.parts.SplitFault.TheVariants.{NotCoap}
use Rattle.rule_model.specs.SplitData.{SplitData}
use Rattle.coap_fields.specs.Message.{OptionData, next_place}
use Rattle.coap_fields.specs.Fields.{option_field, option_fields}
use Rattle.coap_fields.specs.Reading.{option_at, payload_at, with_option, options_at, IsRefusal}
use Rattle.coap_fields.specs.Placed.{placed}
use Rattle.coap_fields.proofs.OptionLemmas.{option_at-shorter}
use Rattle.coap_fields.proofs.OptionsLemmas.{options_at-none, options_at-next, options_at-marker}
use Rattle.coap_fields.proofs.OptionsLemmas.{options_at-stop, placed-next}

-- a split into these fields, and a payload from this byte on
abbrev pub split_parts : List FieldValue → ℕ → Result SplitData ℕ
split_parts fields from = Ok (record { fields = fields; payload_from = from })

-- nothing is left
placed-end : (front : List FieldValue) (before place size : ℕ) (payload : List ℕ)
    → placed front before place size (Ok ([], payload)) ≡ split_parts front (size - length payload)
unfolding option_fields
placed-end front before place size payload = rw (append-nil front)

-- where no byte is left, the fields so far are all, and the payload begins at the end
pub turn-end : (front : List FieldValue) (before place size : ℕ) (rest : List ℕ)
    (all : Result SplitData ℕ) → length rest < 1
    → placed front before place size (options_at size before place rest) ≡ all
    → all ≡ split_parts front size
turn-end front before place size [] all h e =
    let nothing : size - 0 ≡ size = omega arith in
    sym e ∙ ap (placed front before place size) (options_at-none size before place)
    ∙ placed-end front before place size [] ∙ ap (split_parts front) nothing
turn-end front before place size (first ∷ rest) all h e = absurd (omega arith)

-- the bytes after the first
pub later-are : (rest : List ℕ) → take (length rest - 1) (drop 1 rest) ≡ drop 1 rest
later-are rest = take_all (length rest - 1) (drop 1 rest) (omega (arith, length-drop 1 rest))

-- the marker, and the payload after it
pub turn-payload : (front : List FieldValue) (before place size : ℕ) (rest later : List ℕ)
    (all : Result SplitData ℕ) (from : ℕ) → later ≡ drop 1 rest → 1 ≤ length rest
    → get_or rest 0 0 ≡ 255
    → placed front before place size (options_at size before place rest) ≡ all
    → from ≡ size - length later → payload_at size later ≡ Ok ([], later)
    → all ≡ split_parts front from
turn-payload front before place size [] later all from l h m e f p = absurd (omega arith)
turn-payload front before place size (first ∷ rest) later all from l h m e f p =
    sym e
    ∙ ap (placed front before place size)
    (options_at-marker size before place first rest m ∙ ap (payload_at size) (sym l) ∙ p)
    ∙ placed-end front before place size later
    ∙ ap (split_parts front) (sym f)

-- a marker with nothing behind it is refused at the end of the message
pub turn-payload_stop : (front : List FieldValue) (before place size : ℕ) (rest later : List ℕ)
    (all : Result SplitData ℕ) (fault : SplitFault) → later ≡ drop 1 rest → 1 ≤ length rest
    → get_or rest 0 0 ≡ 255
    → placed front before place size (options_at size before place rest) ≡ all
    → fault ≡ NotCoap size → payload_at size later ≡ Err size → IsRefusal fault all
turn-payload_stop front before place size [] later all fault l h m e f p = absurd (omega arith)
turn-payload_stop front before place size (first ∷ rest) later all fault l h m e f p =
    rw f (sym e
    ∙ ap (placed front before place size)
    (options_at-marker size before place first rest m ∙ ap (payload_at size) (sym l) ∙ p))

-- an option that isn't read
pub turn-stop : (front : List FieldValue) (before place size : ℕ) (rest later : List ℕ)
    (all : Result SplitData ℕ) (stop : ℕ) → later ≡ drop 1 rest → 1 ≤ length rest
    → (get_or rest 0 0 ≡ 255 → ⊥)
    → placed front before place size (options_at size before place rest) ≡ all
    → option_at size (size - length rest) before place (get_or rest 0 0) later ≡ Err stop
    → all ≡ Err stop
turn-stop front before place size [] later all stop l h m e r = absurd (omega arith)
turn-stop front before place size (first ∷ rest) later all stop l h m e r =
    sym e ∙ ap (placed front before place size)
    (options_at-stop size before place first stop rest (ne_eqb first 255 m) (rw l at r))

-- an option that is read leaves fewer bytes
pub turn-smaller : (size here before place : ℕ) (rest later : List ℕ) (o : OptionData)
    (left : List ℕ) → later ≡ drop 1 rest → 1 ≤ length rest
    → option_at size here before place (get_or rest 0 0) later ≡ Ok (o, left)
    → length left < length rest
turn-smaller size here before place [] later o left l h r = absurd (omega arith)
turn-smaller size here before place (first ∷ rest) later o left l h r =
    omega (arith, option_at-shorter size here before place first rest o left (rw l at r))

-- and goes on as before
pub turn-next : (front : List FieldValue) (before place size : ℕ) (rest later : List ℕ)
    (all : Result SplitData ℕ) (number after : ℕ) (value left : List ℕ) (next : List FieldValue)
    → later ≡ drop 1 rest → 1 ≤ length rest → (get_or rest 0 0 ≡ 255 → ⊥)
    → placed front before place size (options_at size before place rest) ≡ all
    → option_at size (size - length rest) before place (get_or rest 0 0) later ≡ Ok
    (record { number = number; value = value }, left) → after ≡ next_place before place number
    → next ≡ front ++ option_field number after value ∷ []
    → placed next number after size (options_at size number after left) ≡ all
turn-next front before place size [] later all number after value left next l h m e r p f =
    absurd (omega arith)
turn-next front before place size (first ∷ rest) later all number after value left next l h m e r p
    f =
    let o : OptionData = record { number = number; value = value } in
    let read : options_at size before place (first ∷ rest) ≡ with_option o
    (options_at size number (next_place before place number) left) =
    options_at-next size before place first rest o left (ne_eqb first 255 m) (rw l at r)
    in
    rw (f, p)
    (sym (sym e ∙ ap (placed front before place size) read
    ∙ placed-next front before place size o
    (options_at size number (next_place before place number) left)))
