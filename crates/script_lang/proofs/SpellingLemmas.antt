-- The spelling of an event reads back as that event.
use Rattle.std.proofs.Common.{ℕ, zero, suc, ◌≡◌, ◌≢◌, ◌<◌, ◌^◌, ◌==◌, nat_lt, Bool, true, false}
use Rattle.std.proofs.Common.{◌&&◌, cond, List, [], ◌∷◌, ◌++◌, length, Some, None, refl, ap, ◌∙◌}
use Rattle.std.proofs.Common.{subst, arith, codes, get_or, slice_index_or}
use Rattle.std.specs.List.{All, AllPass}
use Rattle.std.specs.Str.{all_ascii_digits}
use Rattle.std.specs.Char.{is_ascii_digit}
use Rattle.std.specs.Fmt.{decimal}
use Rattle.std.proofs.lemmas.Fmt.{decimal_nonempty, length-decimal-le_succ, first_decimal}
use Rattle.std.proofs.lemmas.Fmt.{digits_decimal, digits_value-decimal}
use Rattle.std.proofs.lemmas.Bool.{eqb-true}
use Rattle.std.proofs.lemmas.Bool.Decides.{nat_tests}
use Rattle.std.proofs.lemmas.List.Splits.{slice_split_at, slice_split_none}
use Rattle.hex.specs.Hex.{IsBytes, encode_lower, is_hex_digit}
use Rattle.hex.proofs.HexLemmas.{decode_of-encode_lower, decode_of-ok}
use Rattle.schc_ids.specs.declared.ends.Role.{Role}
use Rattle.schc_ids.specs.declared.ends.Role.TheVariants.{Device, Gateway}
use Rattle.schc_ids.specs.declared.ends.Direction.{Direction}
use Rattle.schc_ids.specs.declared.ends.Direction.TheVariants as way
use Rattle.rule_model.specs.declared.raw.DeviceLine.{DeviceLine}
use Rattle.rule_model.specs.RawData.{RawEditionData}
use Rattle.rule_json.specs.Written.{edition_text}
use Rattle.rule_json.specs.Texts.{edition_of}
use Rattle.event_data.specs.declared.events.Target.{Target}
use Rattle.event_data.specs.declared.events.Target.TheVariants as target
use Rattle.event_data.specs.Events.{Event, Down, Slot, Deliver, Tick, Abort, Publish, Offer, Allow}
use Rattle.script_lang.specs.Text.{is_space, words_of, is_numeral, number_of, packet_in, some_bytes}
use Rattle.script_lang.specs.Grammar.{told_by, told_by_text, told_by_words, event_in, device_event}
use Rattle.script_lang.specs.Grammar.{told_event, slot_event, abort_event, tick_event, hand_event}
use Rattle.script_lang.specs.Grammar.{deliver_event, end_and_edition, offer_event, allow_event}
use Rattle.script_lang.specs.Grammar.{role_of, target_of, direction_of, published_text, publication}
use Rattle.script_lang.specs.Grammar.{is_passed_over}
use Rattle.script_lang.specs.Devices.{device_in}
use Rattle.script_lang.specs.Spelling.{spelled, role_word, target_word, direction_word, IsDevice}
use Rattle.script_lang.specs.Spelling.{ReadsBack}
use Rattle.script_lang.specs.declared.lines.Told.TheVariants.{Happens}
use Rattle.script_lang.proofs.TextLemmas.{digits-model, list_all-all_ascii_digits, and-right}

-- ---- words without a space

-- no space stands in the word
abbrev pub HasNoSpace : List ℕ → Type 0
HasNoSpace word = All (λ b. is_space b ≡ false) word

more-without : (b : ℕ) (word : List ℕ) → is_space b ≡ false → HasNoSpace word → HasNoSpace
    (b ∷ word)
more-without b word first rest zero d h = first
more-without b word first rest (suc k) d h = rest k d (omega (arith, h))

none-without : HasNoSpace []
none-without k d h = absurd (omega (arith, h))

-- a word of which no byte is a space, by looking at each
abbrev has_space : List ℕ → Bool
has_space [] = false
has_space (b ∷ word) = cond (is_space b) true (has_space word)

looked-at : (b : ℕ) (word : List ℕ) (space : Bool) → is_space b ≡ space → cond space true
    (has_space word) ≡ false → (has_space word ≡ false → HasNoSpace word) → HasNoSpace (b ∷ word)
looked-at b word true s h rest = absurd (cc)
looked-at b word false s h rest = more-without b word s (rest h)

-- a word in which the test finds no space has none
pub without : (word : List ℕ) → has_space word ≡ false → HasNoSpace word
without [] h = none-without
without (b ∷ word) h = looked-at b word (is_space b) refl h (without word)

role-without : (role : Role) → HasNoSpace (role_word role)
role-without Device = without (codes "dev") refl
role-without Gateway = without (codes "gw") refl

target-without : (at : Target) → HasNoSpace (target_word at)
target-without target.Device = without (codes "dev") refl
target-without target.Gateway = without (codes "gw") refl
target-without target.Both = without (codes "both") refl

direction-without : (direction : Direction) → HasNoSpace (direction_word direction)
direction-without way.Up = without (codes "up") refl
direction-without way.Down = without (codes "down") refl

and-left : (a b : Bool) → a && b ≡ true → a ≡ true
and-left true b h = refl
and-left false b h = absurd (cc)

digit-without : (d : ℕ) → is_ascii_digit d ≡ true → is_space d ≡ false
digit-without d h = grind (arith, nat_tests)

digits-without : (word : List ℕ) → all_ascii_digits word ≡ true → HasNoSpace word
digits-without [] h = none-without
digits-without (d ∷ ds) h = more-without d ds (digit-without d (and-left _ _ h))
    (digits-without ds (and-right _ _ h))

hex-at : (b : ℕ) (space : Bool) → is_space b ≡ space → is_hex_digit b ≡ true → space ≡ false
hex-at b true s h = absurd (let h32 : is_hex_digit 32 ≡ true = subst (λ n. is_hex_digit n ≡ true)
    (eqb-true b 32 s) h in cc)
hex-at b false s h = refl

-- a word of hex digits has no space
pub hex-without : (word : List ℕ) → AllPass is_hex_digit word → HasNoSpace word
hex-without word passes = λ k d h. hex-at (slice_index_or word k d) _ refl (passes k d h)

-- ---- numbers and bytes

not-zero : (d : ℕ) → (d ≡ 48 → ⊥) → (d == 48) ≡ false
not-zero d other = grind (arith, nat_tests)

numeral-word : (word : List ℕ) → all_ascii_digits word ≡ true → 0 < length word
    → (get_or word 0 0 ≡ 48 → length word ≡ 1) → is_numeral word ≡ true
numeral-word [] digits some lead = absurd (omega arith)
numeral-word (d ∷ []) digits some lead = and-left _ _ digits
numeral-word (d ∷ e ∷ ds) digits some lead =
    let first : (d == 48) ≡ false = not-zero d (λ z. absurd (omega (arith, lead z))) in
    rw (first, list_all-all_ascii_digits (d ∷ e ∷ ds)) digits

leads : (n : ℕ) → n < 2 ^ 64 → get_or (decimal n) 0 0 ≡ 48 → length (decimal n) ≡ 1
leads zero small z = omega (arith, length-decimal-le_succ 0 small, decimal_nonempty 0 small)
leads (suc n) small z = absurd (omega (arith, first_decimal (suc n) (omega arith) small))

-- a number below the limit is read as itself
pub number-again : (limit n : ℕ) → n < limit → n < 2 ^ 64 → number_of limit (decimal n) ≡ Some n
unfolding number_of
number-again limit n below small =
    let digits = digits_decimal digits-model n small in
    let numeral = numeral-word (decimal n) digits (decimal_nonempty n small) (leads n small) in
    let value = digits_value-decimal digits-model n small in
    let within : nat_lt n limit ≡ true = grind (arith, nat_tests) in
    rw (numeral, value, within) refl

-- a number below 2 ^ 64 in decimal has no space
pub decimal-without : (n : ℕ) → n < 2 ^ 64 → HasNoSpace (decimal n)
decimal-without n small = digits-without (decimal n) (digits_decimal digits-model n small)

some-again : (packet : List ℕ) → packet ≢ [] → some_bytes packet ≡ Some packet
some-again [] none = absurd (none refl)
some-again (byte ∷ bytes) none = refl

packet-again : (packet : List ℕ) → IsBytes packet → packet ≢ [] → packet_in
    (encode_lower packet) ≡ Some packet
unfolding packet_in
packet-again packet bytes none = rw (decode_of-encode_lower packet bytes) (some-again packet none)

packet-without : (packet : List ℕ) → IsBytes packet → HasNoSpace (encode_lower packet)
packet-without packet bytes = hex-without _ (decode_of-ok (encode_lower packet) packet
    (decode_of-encode_lower packet bytes)).1

role-again : (role : Role) → role_of (role_word role) ≡ Some role
role-again Device = refl
role-again Gateway = refl

target-again : (at : Target) → target_of (target_word at) ≡ Some at
target-again target.Device = refl
target-again target.Gateway = refl
target-again target.Both = refl

direction-again : (direction : Direction) → direction_of (direction_word direction) ≡ Some direction
direction-again way.Up = refl
direction-again way.Down = refl

-- ---- lines

-- what stands before the first space of a line is its first word; the rest has the others
pub first-word : (word rest : List ℕ) → HasNoSpace word → words_of (word ++ 32 ∷ rest) ≡ word
    ∷ words_of rest
first-word word rest h = slice_split_at is_space word 32 rest h refl

-- a line without a space is one word
pub last-word : (word : List ℕ) → HasNoSpace word → words_of word ≡ word ∷ []
last-word word h = slice_split_none is_space word h

three-words : (x y z : List ℕ) → HasNoSpace x → HasNoSpace y → HasNoSpace z → words_of
    (x ++ 32 ∷ (y ++ 32 ∷ z)) ≡ x ∷ y ∷ z ∷ []
three-words x y z a b c = first-word x _ a ∙ ap (λ ws. x ∷ ws)
    (first-word y z b ∙ ap (λ ws. y ∷ ws) (last-word z c))

four-words : (x y z w : List ℕ) → HasNoSpace x → HasNoSpace y → HasNoSpace z → HasNoSpace w
    → words_of (x ++ 32 ∷ (y ++ 32 ∷ (z ++ 32 ∷ w))) ≡ x ∷ y ∷ z ∷ w ∷ []
four-words x y z w a b c d = first-word x _ a ∙ ap (λ ws. x ∷ ws) (three-words y z w b c d)

-- a line of words that tell an event of a device that is declared
line-told : (devices : List DeviceLine) (line name : List ℕ) (n : ℕ) (words : List (List ℕ))
    (event : Event) → IsDevice devices n
    → is_passed_over line ≡ false → published_text line ≡ None → words_of line ≡ name ∷ decimal n
    ∷ words
    → device_in (name ∷ decimal n ∷ words) ≡ None → told_event name words ≡ Some event
    → told_by devices line ≡ Some (Happens (record { device = n; event = event }))
unfolding told_by told_by_text told_by_words event_in device_event
line-told devices line name n words event d passed published split undeclared tells =
    rw (
      passed,
      published,
      split,
      undeclared,
      number-again (2 ^ 16) n d.small
          (omega (arith, d.small)),
      d.declared,
      tells,
    ) refl

small-number : {devices : List DeviceLine} {n : ℕ} → IsDevice devices n → n < 2 ^ 64
small-number d = omega (arith, d.small)

slot-again : (devices : List DeviceLine) (n : ℕ) (role : Role) → IsDevice devices n
    → told_by devices (spelled n (Slot role)) ≡ Some
    (Happens (record { device = n; event = Slot role }))
unfolding spelled published_text device_in told_event slot_event
slot-again devices n role d =
    line-told devices _ (codes "slot") n (role_word role ∷ []) (Slot role) d refl refl
    (three-words (codes "slot") (decimal n) (role_word role) (without (codes "slot") refl)
    (decimal-without n (small-number d)) (role-without role))
    refl (rw (role-again role) refl)

abort-again : (devices : List DeviceLine) (n : ℕ) (role : Role) → IsDevice devices n
    → told_by devices (spelled n (Abort role)) ≡ Some
    (Happens (record { device = n; event = Abort role }))
unfolding spelled published_text device_in told_event abort_event
abort-again devices n role d =
    line-told devices _ (codes "abort") n (role_word role ∷ []) (Abort role) d refl refl
    (three-words (codes "abort") (decimal n) (role_word role) (without (codes "abort") refl)
    (decimal-without n (small-number d)) (role-without role))
    refl (rw (role-again role) refl)

tick-again : (devices : List DeviceLine) (n : ℕ) (at : Target) → IsDevice devices n
    → told_by devices (spelled n (Tick at)) ≡ Some
    (Happens (record { device = n; event = Tick at }))
unfolding spelled published_text device_in told_event tick_event
tick-again devices n at d =
    line-told devices _ (codes "tick") n (target_word at ∷ []) (Tick at) d refl refl
    (three-words (codes "tick") (decimal n) (target_word at) (without (codes "tick") refl)
    (decimal-without n (small-number d)) (target-without at))
    refl (rw (target-again at) refl)

hand-again : (devices : List DeviceLine) (n : ℕ) (role : Role) (packet : List ℕ)
    → IsDevice devices n → IsBytes packet → packet ≢ [] → told_by devices
    (spelled n (Down role packet)) ≡ Some
    (Happens (record { device = n; event = Down role packet }))
unfolding spelled published_text device_in told_event hand_event
hand-again devices n role packet d bytes none =
    line-told devices _ (codes "hand") n (role_word role ∷ encode_lower packet ∷ [])
    (Down role packet) d refl refl
    (four-words (codes "hand") (decimal n) (role_word role) (encode_lower packet)
    (without (codes "hand") refl) (decimal-without n (small-number d)) (role-without role)
    (packet-without packet bytes))
    refl (rw (role-again role, packet-again packet bytes none) refl)

deliver-again : (devices : List DeviceLine) (n : ℕ) (direction : Direction) (place : ℕ)
    → IsDevice devices n → place < 2 ^ 64 → told_by devices (spelled n (Deliver direction place))
    ≡ Some (Happens (record { device = n; event = Deliver direction place }))
unfolding spelled published_text device_in told_event deliver_event
deliver-again devices n direction place d small =
    line-told devices _ (codes "deliver") n (direction_word direction ∷ decimal place ∷ [])
    (Deliver direction place) d refl refl
    (four-words (codes "deliver") (decimal n) (direction_word direction) (decimal place)
    (without (codes "deliver") refl) (decimal-without n (small-number d))
    (direction-without direction) (decimal-without place small))
    refl (rw (direction-again direction, number-again (2 ^ 64) place small small) refl)

offer-again : (devices : List DeviceLine) (n : ℕ) (role : Role) (number : ℕ) → IsDevice devices n
    → number < 2 ^ 32 → told_by devices (spelled n (Offer role number)) ≡ Some
    (Happens (record { device = n; event = Offer role number }))
unfolding spelled published_text device_in told_event offer_event end_and_edition
offer-again devices n role number d small =
    line-told devices _ (codes "offer") n (role_word role ∷ decimal number ∷ [])
    (Offer role number) d refl refl
    (four-words (codes "offer") (decimal n) (role_word role) (decimal number)
    (without (codes "offer") refl) (decimal-without n (small-number d)) (role-without role)
    (decimal-without number (omega arith)))
    refl (rw (role-again role, number-again (2 ^ 32) number small (omega arith)) refl)

allow-again : (devices : List DeviceLine) (n : ℕ) (role : Role) (number : ℕ) → IsDevice devices n
    → number < 2 ^ 32 → told_by devices (spelled n (Allow role number)) ≡ Some
    (Happens (record { device = n; event = Allow role number }))
unfolding spelled published_text device_in told_event allow_event end_and_edition
allow-again devices n role number d small =
    line-told devices _ (codes "allow") n (role_word role ∷ decimal number ∷ [])
    (Allow role number) d refl refl
    (four-words (codes "allow") (decimal n) (role_word role) (decimal number)
    (without (codes "allow") refl) (decimal-without n (small-number d)) (role-without role)
    (decimal-without number (omega arith)))
    refl (rw (role-again role, number-again (2 ^ 32) number small (omega arith)) refl)

publish-again : (devices : List DeviceLine) (n : ℕ) (raw : RawEditionData) → n ≡ 0 → edition_of
    (edition_text raw) ≡ Some raw → told_by devices (spelled n (Publish raw)) ≡ Some
    (Happens (record { device = n; event = Publish raw }))
unfolding told_by told_by_text spelled published_text publication
publish-again devices n raw none again = rw (none, again) refl

-- the line of each event that can be spelled where these devices are declared tells that event
pub reads-back : ReadsBack
reads-back devices n (Down role packet) can = hand-again devices n role packet can.0 can.1 can.2
reads-back devices n (Slot role) can = slot-again devices n role can
reads-back devices n (Deliver direction place) can = deliver-again devices n direction place can.0
    can.1
reads-back devices n (Tick at) can = tick-again devices n at can
reads-back devices n (Abort role) can = abort-again devices n role can
reads-back devices n (Publish raw) can = publish-again devices n raw can.0 can.1
reads-back devices n (Offer role number) can = offer-again devices n role number can.0 can.1
reads-back devices n (Allow role number) can = allow-again devices n role number can.0 can.1
