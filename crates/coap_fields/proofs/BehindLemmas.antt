-- Fields behind others, and those that stood there before.
use Rattle.std.specs.Prelude.{ℕ, ◌≡◌, ◌≤◌, List, [], ◌++◌, length, take, drop, Result, Ok, Err}
use Rattle.std.proofs.Common.{arith, ap, refl, sym, ◌∙◌, subst}
use Rattle.std.proofs.lemmas.List.{append_assoc, take_at, take-take, take_all, take-append-le}
use Rattle.std.proofs.lemmas.List.{length-take, length-append}
use Rattle.rule_model.specs.declared.value.FieldValue.{FieldValue}
use Rattle.rule_model.specs.declared.parts.SplitFault.{SplitFault}
use Rattle.rule_model.specs.declared.parts.SplitFault.TheVariants.{Short, NotIpv6, LengthWrong}
use Rattle.rule_model.specs.declared.parts.SplitFault.TheVariants.{NotUdp, NotCoap, Memory}
use Rattle.rule_model.specs.SplitData.{SplitData}
use Rattle.coap_fields.specs.Message.{OptionData}
use Rattle.coap_fields.specs.Fields.{token_fields, option_fields, header_fields}
use Rattle.coap_fields.specs.Reading.{options_at, token_at, split_of, behind, IsRefusal}
use Rattle.coap_fields.specs.Placed.{placed}
use Rattle.coap_fields.proofs.SplitLemmas.{split-placed}

-- behind no fields, they are the same
pub behind-none : (read : Result SplitData ℕ) → behind [] read ≡ read
behind-none (Err stop) = refl
behind-none (Ok split) = refl

pub behind-placed : (front next : List FieldValue) (before place size : ℕ)
    (read : Result (List OptionData × List ℕ) ℕ)
    → behind front (placed next before place size read) ≡ placed (front ++ next) before place size
    read
behind-placed front next before place size (Err stop) = refl
behind-placed front next before place size (Ok read) =
    rw (append_assoc front next (option_fields before place read.0))

-- what was read, where it was put behind these
pub behind-ok : (front : List FieldValue) (read : Result SplitData ℕ) (all : List FieldValue)
    (from : ℕ) → behind front read ≡ Ok (record { fields = all; payload_from = from })
    → (m : SplitData) × ((read ≡ Ok m) × ((all ≡ front ++ m.fields) × (from ≡ m.payload_from)))
behind-ok front (Err stop) all from e = absurd (cc)
behind-ok front (Ok m) all from e =
    let same : ◌≡◌ {A = SplitData}
    (record { fields = front ++ m.fields; payload_from = m.payload_from })
    (record { fields = all; payload_from = from }) = cc in (
      m,
      (
        refl,
        (
          sym (ap (λ (x : SplitData). x.fields) same),
          sym
              (ap (λ (x : SplitData). x.payload_from) same),
        ),
      ),
    )

behind-stop : (front : List FieldValue) (read : Result SplitData ℕ) (stop : ℕ)
    → behind front read ≡ Err stop → read ≡ Err stop
behind-stop front (Err other) stop e = e
behind-stop front (Ok m) stop e = absurd (cc)

-- a refusal is the same
pub behind-refused : (front : List FieldValue) (read : Result SplitData ℕ) (fault : SplitFault)
    → IsRefusal fault (behind front read) → IsRefusal fault read
behind-refused front read Memory h = tt
behind-refused front read (NotCoap stop) h = behind-stop front read stop h
behind-refused front read Short h = absurd h
behind-refused front read NotIpv6 h = absurd h
behind-refused front read LengthWrong h = absurd h
behind-refused front read NotUdp h = absurd h

-- the fields that stood there still stand in front
pub front-itself : (fields : List FieldValue) → take (length fields) fields ≡ fields
front-itself fields = take_all (length fields) fields (omega arith)

pub front-more : (old new more : List FieldValue) → take (length old) new ≡ old
    → take (length old) (new ++ more) ≡ old
front-more old new more e =
    let long : length old ≤ length new =
    omega (arith, ap (λ (fs : List FieldValue). length fs) e, length-take (length old) new) in
    take-append-le (length old) new more long ∙ e

pub front-front : (old more new : List FieldValue) → take (length (old ++ more)) new ≡ old ++ more
    → take (length old) new ≡ old
front-front old more new e =
    let less : length old ≤ length (old ++ more) = omega (arith, length-append old more) in
    sym (take-take (length old) (length (old ++ more)) new less)
    ∙ ap (take (length old)) e
    ∙ take_at old more (length old) refl

-- fields that stood in front still do, once more fields are put behind
pub front-then : (old now new more : List FieldValue) → take (length old) now ≡ old
    → new ≡ now ++ more → take (length old) new ≡ old
front-then old now new more e n = ap (take (length old)) n ∙ front-more old now more e

-- the fields of the header and the token behind these, and then those of the options
pub behind-split : (old mid : List FieldValue) (size kind tkl code id : ℕ)
    (bytes token rest : List ℕ) → tkl ≤ length bytes → token ≡ take tkl bytes
    → rest ≡ drop tkl bytes → mid ≡ old ++ (header_fields kind tkl code id ++ token_fields token)
    → behind old (split_of size (token_at size kind tkl code id bytes)) ≡ placed mid 0 0 size
    (options_at size 0 0 rest)
behind-split old mid size kind tkl code id bytes token rest h t r m =
    let front : List FieldValue = header_fields kind tkl code id ++ token_fields token in
    ap (behind old) (split-placed size kind tkl code id bytes token rest front h t r refl)
    ∙ behind-placed old front 0 0 size (options_at size 0 0 rest)
    ∙ ap (λ (fields : List FieldValue). placed fields 0 0 size (options_at size 0 0 rest)) (sym m)

-- what stood there before the header still stands in front
pub front-before : (old mid more new : List FieldValue) → mid ≡ old ++ more
    → take (length mid) new ≡ mid → take (length old) new ≡ old
front-before old mid more new m e =
    front-front old more new
    (subst (λ (fields : List FieldValue). take (length fields) new ≡ fields) m e)
