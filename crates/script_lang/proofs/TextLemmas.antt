-- What the spellings of a script's words mean, on plain lists.
use Rattle.std.proofs.Common.{ℕ, ◌≡◌, ◌+◌, ◌<◌, ◌^◌, ◌≤◌, List, [], ◌∷◌, length, take, drop, Bool}
use Rattle.std.proofs.Common.{true, false, not, ◌&&◌, Some, None, Result, Ok, Err, refl, ap, sym}
use Rattle.std.proofs.Common.{◌∙◌, subst, arith, cond, lit<, nat_lt}
use Rattle.std.specs.List.{list_all, slice_split, position_or_len, position}
use Rattle.std.specs.Char.{is_ascii_digit}
use Rattle.std.specs.Result.{result_ok, OkIff}
use Rattle.std.specs.Str.{all_ascii_digits, IsUtf8}
use Rattle.std.specs.Str.Parse.{digits_value, ParsesUnsigned}
use Rattle.std.proofs.lemmas.Str.{IsUtf8-from_ascii}
use Rattle.std.proofs.lemmas.Str.Parse.{IsNumeralModel, numerals_by_value, tells_all_ascii_digits}
use Rattle.std.proofs.lemmas.Str.Parse.{parse_digits}
use Rattle.std.proofs.lemmas.Fmt.{IsAscii-from_digits}
use Rattle.std.proofs.lemmas.List.Splits.{slice_split_first}
use Rattle.std.specs.List.{onto_first}
use Rattle.std.proofs.lemmas.Bool.{ltb-true}
use Rattle.std.proofs.lemmas.Bool.Decides.{nat_tests}
use Rattle.script_lang.specs.Text.{is_line_feed, without_empty_end, lines_of, is_numeral, number_of}

-- ASCII digits with their decimal value are numerals as lemmas on parsing and printing take them
pub digits-model : IsNumeralModel (λ ds. all_ascii_digits ds ≡ true) (digits_value 10)
digits-model = numerals_by_value _ tells_all_ascii_digits

-- the test of each byte for a digit is the test that the text is all digits
pub list_all-all_ascii_digits : (ds : List ℕ) → list_all is_ascii_digit ds ≡ all_ascii_digits ds
list_all-all_ascii_digits [] = refl
list_all-all_ascii_digits (d ∷ ds) = ap (λ b. is_ascii_digit d && b) (list_all-all_ascii_digits ds)

-- where two conditions hold together, the second holds
pub and-right : (a b : Bool) → a && b ≡ true → b ≡ true
and-right true b h = h
and-right false b h = absurd (cc)

and-last : (a : Bool) → a ≡ true → a && true ≡ true
and-last true h = refl
and-last false h = h

numeral_digits : (word : List ℕ) → is_numeral word ≡ true → (all_ascii_digits word ≡ true)
    × (0 < length word)
numeral_digits [] h = absurd (cc)
numeral_digits (d ∷ []) h = (and-last _ h, lit< tt)
numeral_digits (d ∷ e ∷ ds) h =
    (sym (list_all-all_ascii_digits (d ∷ e ∷ ds)) ∙ and-right _ _ h, omega arith)

-- a numeral is UTF-8
pub IsUtf8-numeral : (word : List ℕ) → is_numeral word ≡ true → IsUtf8 word
IsUtf8-numeral word h =
    IsUtf8-from_ascii word
    (IsAscii-from_digits word (digits-model.to word (numeral_digits word h).0))

number_is : (word : List ℕ) (b : Bool) → is_numeral word ≡ true
    → nat_lt (digits_value 10 word) (2 ^ 64) ≡ b
    → number_of (2 ^ 64) word ≡ cond b (Some (digits_value 10 word)) None
unfolding number_of
number_is word b h k = rw (h, k) refl

above : (m n : ℕ) → ¬ (m < n) → nat_lt m n ≡ false
above m n h = grind (arith, nat_tests)

parsed : {E : Type 0} (word : List ℕ) (r : Result ℕ E) → is_numeral word ≡ true
    → OkIff r ((0 < length word) × (digits_value 10 word < 2 ^ 64)) (digits_value 10 word)
    → 0 < length word → result_ok r ≡ number_of (2 ^ 64) word
parsed word (Ok x) h p l = ap Some p.1
    ∙ sym (number_is word true h (let below = p.0.1 in grind (arith, nat_tests)))
parsed word (Err e) h p l = sym (number_is word false h (above _ _ (λ below. p (l, below))))

-- a numeral is parsed as the number below 2 ^ 64 that it spells, or refused where it spells none
pub parse-number_of : {E : Type 0} (word : List ℕ) (r : Result ℕ E) → is_numeral word ≡ true
    → ParsesUnsigned 64 10 word r → result_ok r ≡ number_of (2 ^ 64) word
parse-number_of word r h p =
    let digits = numeral_digits word h in
    parsed word r h (parse_digits digits-model 64 word r p digits.0) digits.1

found : (b : Bool) (n end : ℕ) → cond b (Some n) None ≡ Some end → (b ≡ true) × (n ≡ end)
found true n end h = (refl, cc)
found false n end h = absurd (cc)

missed : (b : Bool) (n : ℕ) → cond b (Some n) None ≡ None → b ≡ false
missed true n h = absurd (cc)
missed false n h = refl

more_parts : (part : List ℕ) (b : ℕ) (feed : Bool) (parts : List (List ℕ))
    → without_empty_end
    (part ∷ cond feed ([] ∷ parts) (onto_first b parts)) ≡ part ∷ without_empty_end
    (cond feed ([] ∷ parts) (onto_first b parts))
more_parts part b true parts = refl
more_parts part b false [] = refl
more_parts part b false (next ∷ parts) = refl

more : (part : List ℕ) (text : List ℕ)
    → without_empty_end (part ∷ slice_split is_line_feed text) ≡ part ∷ without_empty_end
    (slice_split is_line_feed text)
more part [] = refl
more part (b ∷ text) = more_parts part b (is_line_feed b) (slice_split is_line_feed text)

one_line_at : (b : ℕ) (text : List ℕ) (feed : Bool)
    → length (b ∷ text) ≤ cond (not feed) (1 + position_or_len is_line_feed text) 0
    → (length text ≤ position_or_len is_line_feed text → slice_split is_line_feed text ≡ text ∷ [])
    → cond feed ([] ∷ slice_split is_line_feed text)
    (onto_first b (slice_split is_line_feed text)) ≡ (b ∷ text) ∷ []
one_line_at b text true h rest = absurd (omega arith)
one_line_at b text false h rest = rw (rest (omega arith)) refl

one_line : (text : List ℕ) → length text ≤ position_or_len is_line_feed text
    → slice_split is_line_feed text ≡ text ∷ []
one_line [] h = refl
one_line (b ∷ text) h = one_line_at b text (is_line_feed b) h (one_line text)

nonempty_line : (text : List ℕ) → 0 < length text → without_empty_end (text ∷ []) ≡ text ∷ []
nonempty_line [] h = absurd (omega arith)
nonempty_line (b ∷ text) h = grind (arith, nat_tests)

-- the first line of a text that has a line feed
pub lines_of-first : (text : List ℕ) (end : ℕ) → position is_line_feed text ≡ Some end
    → lines_of text ≡ take end text ∷ lines_of (drop (end + 1) text)
lines_of-first text end h =
    let at = found _ _ end h in
    let e : position_or_len is_line_feed text ≡ end = at.1 in
    let within : position_or_len is_line_feed text < length text = ltb-true _ _ at.0 in
    subst (λ n. lines_of text ≡ take n text ∷ lines_of (drop (n + 1) text)) e
    (ap without_empty_end (slice_split_first is_line_feed text 0 within)
    ∙ more (take (position_or_len is_line_feed text) text)
    (drop (position_or_len is_line_feed text + 1) text))

-- a text that has none is one line
pub lines_of-last : (text : List ℕ) → 0 < length text → position is_line_feed text ≡ None
    → lines_of text ≡ text ∷ []
lines_of-last text h p =
    let none = missed _ _ p in
    ap without_empty_end (one_line text (grind (arith, nat_tests))) ∙ nonempty_line text h
