-- No line that is written has a line feed in it.
use Rattle.std.proofs.Common.{ℕ, zero, suc, ◌≡◌, ◌+◌, ◌<◌, ◌/◌, ◌%◌, ◌==◌, nat_lt, Bool, true}
use Rattle.std.proofs.Common.{false, ◌||◌, cond, List, [], ◌∷◌, ◌++◌, refl, arith, subst, ℤ, pos}
use Rattle.std.proofs.Common.{negsuc}
use Rattle.std.specs.List.{All, AllPass, AllByRecursion, list_any}
use Rattle.std.specs.Char.{digit_char}
use Rattle.std.specs.Fmt.{digits, digits_onto, digit_glyph, decimal, signed_decimal}
use Rattle.std.proofs.lemmas.Bool.{eqb-true}
use Rattle.std.proofs.lemmas.Bool.Decides.{nat_tests}
use Rattle.hex.specs.Hex.{is_hex_digit}
use Rattle.json.specs.Print.{escape_letter, escape_byte, escape, quoted}
use Rattle.serde_json.specs.Data.{Num, unsigned, negative, float, Data, null, boolean, number}
use Rattle.serde_json.specs.Data.{string, array, object, Items, no_items, item, Members, no_members}
use Rattle.serde_json.specs.Data.{member}
use Rattle.serde_json.specs.Written.{number_text, comma_if, compact_text, items_text, members_text}
use Rattle.schc_bits.proofs.ListLemmas.{all-append}
use Rattle.script_lang.specs.Text.{is_line_feed}

-- no line feed stands in the text
abbrev pub NoFeed : List ℕ → Type 0
NoFeed text = AllByRecursion (λ b. is_line_feed b ≡ false) text

-- two texts without a line feed, one behind the other, have none
pub both : (xs ys : List ℕ) → NoFeed xs → NoFeed ys → NoFeed (xs ++ ys)
both xs ys first second = all-append (λ b. is_line_feed b ≡ false) xs ys first second

-- a text of which no byte is a line feed, by looking at each
looked-at : (b : ℕ) (text : List ℕ) (feed : Bool) → is_line_feed b ≡ feed
    → feed || list_any is_line_feed text ≡ false
    → (list_any is_line_feed text ≡ false → NoFeed text) → NoFeed (b ∷ text)
looked-at b text true s h rest = absurd (cc)
looked-at b text false s h rest = (s, rest h)

-- a text in which the test finds no line feed has none
pub literal : (text : List ℕ) → list_any is_line_feed text ≡ false → NoFeed text
literal [] h = tt
literal (b ∷ text) h = looked-at b text (is_line_feed b) refl h (literal text)

-- ---- numbers

either : (b : Bool) (xs ys : List ℕ) → NoFeed xs → (b ≡ false → NoFeed ys) → NoFeed (cond b xs ys)
either true xs ys first second = first
either false xs ys first second = second refl

either-number : (b : Bool) (m n : ℕ) → (b ≡ true → is_line_feed m ≡ false) → is_line_feed n ≡ false
    → is_line_feed (cond b m n) ≡ false
either-number true m n first second = first refl
either-number false m n first second = second

above : (k n : ℕ) → 10 < k → is_line_feed (k + n) ≡ false
above k n h = grind (arith, nat_tests)

glyph-clean : (d : ℕ) → is_line_feed (digit_glyph false d) ≡ false
glyph-clean d = either-number (nat_lt d 10) (48 + d) (87 + d) (λ _. above 48 d (omega arith))
    (above 87 d (omega arith))

onto-clean : (k n : ℕ) (acc : List ℕ) → NoFeed acc → NoFeed (digits_onto k 10 false n acc)
onto-clean zero n acc h = h
onto-clean (suc k) n acc h =
    either (n / 10 == 0) (digit_glyph false (n % 10) ∷ acc)
    (digits_onto k 10 false (n / 10) (digit_glyph false (n % 10) ∷ acc))
    (glyph-clean (n % 10), h) (λ _. onto-clean k (n / 10) (digit_glyph false (n % 10) ∷ acc)
    (glyph-clean (n % 10), h))

-- a number in decimal has no line feed
pub decimal-clean : (n : ℕ) → NoFeed (decimal n)
unfolding digits
decimal-clean n = onto-clean 64 n [] tt

-- ---- JSON

quote-clean : (x : ℕ) → (x == 34) || (x == 92) ≡ true → is_line_feed x ≡ false
quote-clean x h = grind (arith, nat_tests)

letter-clean : (x : ℕ) → is_line_feed (escape_letter x) ≡ false
letter-clean x =
    either-number ((x == 34) || (x == 92)) x _ (quote-clean x)
    (either-number (x == 8) 98 _ (λ _. refl)
    (either-number (x == 12) 102 _ (λ _. refl)
    (either-number (x == 10) 110 _ (λ _. refl)
    (either-number (x == 13) 114 _ (λ _. refl)
    (either-number (x == 9) 116 0 (λ _. refl) refl)))))

char-clean : (d : ℕ) → is_line_feed (digit_char d) ≡ false
char-clean d = either-number (nat_lt d 10) (48 + d) (87 + d) (λ _. above 48 d (omega arith))
    (above 87 d (omega arith))

past-controls : (x : ℕ) → nat_lt x 32 ≡ false → is_line_feed x ≡ false
past-controls x h = grind (arith, nat_tests)

escaped-clean : (x : ℕ) → NoFeed (escape_byte x)
unfolding escape_byte
escaped-clean x =
    either (nat_lt 0 (escape_letter x)) _ _ (refl, (letter-clean x, tt))
    (λ _. either (nat_lt x 32) _ _
    (refl, (refl, (refl, (refl, (char-clean (x / 16), (char-clean (x % 16), tt))))))
    (λ high. (past-controls x high, tt)))

escape-clean : (s : List ℕ) → NoFeed (escape s)
escape-clean [] = tt
escape-clean (x ∷ s) = both (escape_byte x) (escape s) (escaped-clean x) (escape-clean s)

quoted-clean : (s : List ℕ) → NoFeed (quoted s)
quoted-clean s = (refl, both (escape s) (34 ∷ []) (escape-clean s) (refl, tt))

comma-clean : (later : Bool) → NoFeed (comma_if later)
comma-clean true = (refl, tt)
comma-clean false = tt

signed-clean : (z : ℤ) → NoFeed (signed_decimal z)
signed-clean (pos n) = decimal-clean n
signed-clean (negsuc n) = (refl, decimal-clean (suc n))

number-clean : (n : Num) → NoFeed (number_text n)
number-clean (unsigned n) = decimal-clean n
number-clean (negative z) = signed-clean z
number-clean (float x) = tt

mutual
  -- the compact text of a JSON value has no line feed
  pub json-clean : (d : Data) → NoFeed (compact_text d)
  json-clean null = literal (compact_text null) refl
  json-clean (boolean true) = literal (compact_text (boolean true)) refl
  json-clean (boolean false) = literal (compact_text (boolean false)) refl
  json-clean (number n) = number-clean n
  json-clean (string s) = quoted-clean s
  json-clean (array ds) = (refl, items-clean false ds)
  json-clean (object ms) = (refl, members-clean false ms)

  items-clean : (later : Bool) (ds : Items) → NoFeed (items_text later ds)
  items-clean later no_items = (refl, tt)
  items-clean later (item d ds) =
      both (comma_if later) (compact_text d ++ items_text true ds) (comma-clean later)
      (both (compact_text d) (items_text true ds) (json-clean d) (items-clean true ds))

  members-clean : (later : Bool) (ms : Members) → NoFeed (members_text later ms)
  members-clean later no_members = (refl, tt)
  members-clean later (member k d ms) =
      both (comma_if later) (quoted k ++ 58 ∷ (compact_text d ++ members_text true ms))
      (comma-clean later)
      (both (quoted k) (58 ∷ (compact_text d ++ members_text true ms)) (quoted-clean k)
      (refl, both (compact_text d) (members_text true ms) (json-clean d) (members-clean true ms)))

-- ---- hex digits

hex-at : (b : ℕ) (feed : Bool) → is_line_feed b ≡ feed → is_hex_digit b ≡ true → feed ≡ false
hex-at b true s h = absurd (let h10 : is_hex_digit 10 ≡ true = subst (λ n. is_hex_digit n ≡ true)
    (eqb-true b 10 s) h in cc)
hex-at b false s h = refl

-- a word of hex digits has no line feed
pub hex-clean : (word : List ℕ) → AllPass is_hex_digit word → NoFeed word
hex-clean [] passes = tt
hex-clean (b ∷ word) passes = (
  hex-at b (is_line_feed b) refl (passes 0 b (omega arith)),
  hex-clean
      word (λ k d h. passes (suc k) d (omega (arith, h))),
)

-- ---- all of a text, by index

-- a text without a line feed has none at any index
pub by-index : (text : List ℕ) → NoFeed text → All (λ b. is_line_feed b ≡ false) text
by-index [] clean k d h = absurd (omega (arith, h))
by-index (b ∷ text) clean zero d h = clean.0
by-index (b ∷ text) clean (suc k) d h = by-index text clean.1 k d (omega (arith, h))
