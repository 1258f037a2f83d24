-- The JSON value of bytes.
use Rattle.std.specs.Prelude.{ℕ, ◌≡◌, Bool, true, false, if◌then◌else◌, List, Option, None}
use Rattle.std.specs.Str.{IsUtf8, is_utf8}
use Rattle.std.proofs.Common.{refl}
use Rattle.std.proofs.lemmas.Str.{IsUtf8-from_is_utf8, is_utf8-from_IsUtf8}
use Rattle.serde_json.specs.Read.{read}
use Rattle.rule_json.specs.Texts.{json_of}

-- the JSON value of bytes in UTF-8 is the one that is read from them
pub json_of-utf8 : (text : List ℕ) → IsUtf8 text → json_of text ≡ read text
unfolding json_of
json_of-utf8 text u = rw (is_utf8-from_IsUtf8 text u)

none_unless : {A : Type 0} (b : Bool) (o : Option A) → (b ≡ true → o ≡ None)
    → (if b then o else None) ≡ None
none_unless true o h = h refl
none_unless false o h = refl

-- bytes from which nothing is read, or that aren't UTF-8, have no JSON value
pub json_of-none : (text : List ℕ) → (IsUtf8 text → read text ≡ None) → json_of text ≡ None
unfolding json_of
json_of-none text h = none_unless (is_utf8 text) (read text) (λ t. h (IsUtf8-from_is_utf8 text t))
