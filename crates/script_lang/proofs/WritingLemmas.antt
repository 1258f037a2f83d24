-- A script's text is read as that script.
use Rattle.std.proofs.Common.{ℕ, zero, suc, ◌≡◌, ◌+◌, ◌<◌, ◌^◌, nat_le, Bool, true, false, List, []}
use Rattle.std.proofs.Common.{◌∷◌, ◌++◌, Some, None, refl, ap, ◌∙◌, arith, codes}
use Rattle.std.specs.List.{AllByRecursion, slice_split}
use Rattle.std.specs.Option.{option_and_then}
use Rattle.std.specs.Int.{to_be_bytes}
use mir.Syntax.{w64}
use Rattle.std.specs.Fmt.{decimal}
use Rattle.std.proofs.lemmas.List.Splits.{slice_split_at}
use Rattle.std.proofs.lemmas.Nat.{from_be_bytes-to_be_bytes_8}
use Rattle.std.proofs.lemmas.Bool.Decides.{nat_tests}
use Rattle.hex.specs.Hex.{IsBytes, encode_lower}
use Rattle.hex.proofs.HexLemmas.{decode_sized-encode_lower, decode_of-encode_lower, decode_of-ok}
use Rattle.schc_bits.specs.Bits.{AreBytes}
use Rattle.schc_ids.specs.Limits.{min_mtu, max_mtu, max_ticks, IsMtu, IsTicks}
use Rattle.schc_ids.specs.Params.{AreTicks, IsParams, default_params}
use Rattle.schc_ids.specs.declared.ends.EndParams.{EndParams}
use Rattle.schc_ids.specs.declared.ends.LastTile.{LastTile}
use Rattle.schc_ids.specs.declared.ends.LastTile.TheVariants.{InAll1, InRegular}
use Rattle.schc_ids.specs.declared.ends.TimerTicks.{TimerTicks}
use Rattle.rule_model.specs.declared.raw.DeviceLine.{DeviceLine}
use Rattle.rule_json.specs.Words.{acked_of, last_tile_of}
use Rattle.script_lang.specs.Text.{is_line_feed, lines_of, without_empty_end, words_of, iid_of}
use Rattle.script_lang.specs.Ranges.{is_declared}
use Rattle.script_lang.specs.Devices.{mtu_of, ticks_of, timers_of, timers_in, iids_of, params_in}
use Rattle.script_lang.specs.Devices.{declared_device, device_in}
use Rattle.script_lang.specs.Grammar.{told_by, told_by_text, told_by_words, published_text}
use Rattle.script_lang.specs.Grammar.{is_passed_over}
use Rattle.script_lang.specs.Writing.{iid_word, mode_word, last_word, timers_words, options_words}
use Rattle.script_lang.specs.Writing.{device_line, text_of_lines}
use Rattle.script_lang.specs.Reading.{HasNumbers}
use Rattle.script_lang.specs.declared.lines.Told.TheVariants.{Declares}
use Rattle.script_lang.proofs.SpellingLemmas.{HasNoSpace, without, decimal-without, hex-without}
use Rattle.script_lang.proofs.SpellingLemmas.{number-again, first-word, last-word}
use Rattle.script_lang.proofs.FeedLemmas.{NoFeed, both, literal, decimal-clean, hex-clean, by-index}

-- ---- lines

split-again : (lines : List (List ℕ)) → AllByRecursion NoFeed lines → slice_split is_line_feed
    (text_of_lines lines) ≡ lines ++ [] ∷ []
split-again [] clean = refl
split-again (line ∷ lines) clean =
    slice_split_at is_line_feed line 10 (text_of_lines lines) (by-index line clean.0) refl
    ∙ ap (λ ls. line ∷ ls) (split-again lines clean.1)

end-left-out : (lines : List (List ℕ)) → without_empty_end (lines ++ [] ∷ []) ≡ lines
end-left-out [] = refl
end-left-out (line ∷ []) = refl
end-left-out (line ∷ next ∷ lines) = ap (λ ls. line ∷ ls) (end-left-out (next ∷ lines))

-- the lines of a text that was put together of lines
pub lines-again : (lines : List (List ℕ)) → AllByRecursion NoFeed lines → lines_of
    (text_of_lines lines) ≡ lines
lines-again lines clean = ap without_empty_end (split-again lines clean) ∙ end-left-out lines

-- ---- words

-- words with one space between two of them
abbrev spaced : List ℕ → List (List ℕ) → List ℕ
spaced word [] = word
spaced word (next ∷ words) = word ++ 32 ∷ spaced next words

words-again : (word : List ℕ) (words : List (List ℕ)) → HasNoSpace word → AllByRecursion HasNoSpace
    words → words_of (spaced word words) ≡ word ∷ words
words-again word [] first rest = last-word word first
words-again word (next ∷ words) first rest = first-word word (spaced next words) first
    ∙ ap (λ ws. word ∷ ws) (words-again next words rest.0 rest.1)

-- ---- the words of a device

-- where each number of a list is a byte, so is what stands at each index
pub is-bytes : (bytes : List ℕ) → AreBytes bytes → IsBytes bytes
is-bytes [] small k = omega arith
is-bytes (byte ∷ bytes) small zero = small.0
is-bytes (byte ∷ bytes) small (suc k) = is-bytes bytes small.1 k

iid-bytes : (iid : ℕ) → IsBytes (to_be_bytes w64 iid)
iid-bytes iid = is-bytes (to_be_bytes w64 iid) (
  omega arith,
  (
    omega arith,
    (omega arith, (omega arith, (omega arith, (omega arith, (omega arith, (omega arith, tt)))))),
  ),
)

iid-again : (iid : ℕ) → iid < 2 ^ 64 → iid_of (iid_word iid) ≡ Some iid
unfolding iid_of iid_word
iid-again iid small = rw (decode_sized-encode_lower (to_be_bytes w64 iid) 8 refl (iid-bytes iid))
    (ap Some (from_be_bytes-to_be_bytes_8 iid small))

iid-digits : (iid : ℕ) → HasNoSpace (iid_word iid)
unfolding iid_word
iid-digits iid = hex-without _ (decode_of-ok (encode_lower (to_be_bytes w64 iid))
    (to_be_bytes w64 iid) (decode_of-encode_lower (to_be_bytes w64 iid) (iid-bytes iid))).1

iid-clean : (iid : ℕ) → NoFeed (iid_word iid)
unfolding iid_word
iid-clean iid = hex-clean _ (decode_of-ok (encode_lower (to_be_bytes w64 iid)) (to_be_bytes w64 iid)
    (decode_of-encode_lower (to_be_bytes w64 iid) (iid-bytes iid))).1

mode-without : (acked : Bool) → HasNoSpace (mode_word acked)
mode-without true = without (codes "acked") refl
mode-without false = without (codes "noack") refl

mode-again : (acked : Bool) → acked_of (mode_word acked) ≡ Some acked
unfolding acked_of
mode-again true = refl
mode-again false = refl

mode-clean : (acked : Bool) → NoFeed (mode_word acked)
mode-clean true = literal (codes "acked") refl
mode-clean false = literal (codes "noack") refl

last-without : (last : LastTile) → HasNoSpace (last_word last)
last-without InAll1 = without (codes "all1") refl
last-without InRegular = without (codes "regular") refl

last-again : (last : LastTile) → last_tile_of (last_word last) ≡ Some last
unfolding last_tile_of
last-again InAll1 = refl
last-again InRegular = refl

last-clean : (last : LastTile) → NoFeed (last_word last)
last-clean InAll1 = literal (codes "all1") refl
last-clean InRegular = literal (codes "regular") refl

mtu-again : (mtu : ℕ) → IsMtu mtu → mtu_of (decimal mtu) ≡ Some mtu
unfolding mtu_of
mtu-again mtu range =
    let enough : nat_le min_mtu mtu ≡ true = (let least = range.0 in grind (arith, nat_tests)) in
    rw (number-again (max_mtu + 1) mtu (omega (arith, range.1)) (omega (arith, range.1)), enough)
    refl

ticks-again : (ticks : ℕ) → IsTicks ticks → ticks_of (decimal ticks) ≡ Some ticks
unfolding ticks_of
ticks-again ticks range =
    let enough : nat_le 1 ticks ≡ true = (let least = range.0 in grind (arith, nat_tests)) in
    rw (
      number-again (max_ticks + 1) ticks (omega (arith, range.1)) (omega (arith, range.1)),
      enough,
    ) refl

timers-again : (ticks : TimerTicks) → AreTicks ticks → timers_of (decimal ticks.retransmission)
    (decimal ticks.inactivity) (decimal ticks.linger) (decimal ticks.quiet) ≡ Some ticks
unfolding timers_of
timers-again ticks range =
    rw (
      ticks-again ticks.retransmission range.retransmission,
      ticks-again ticks.inactivity
          range.inactivity,
      ticks-again ticks.linger range.linger,
      ticks-again ticks.quiet
          range.quiet,
    ) refl

small-ticks : (ticks : ℕ) → IsTicks ticks → ticks < 2 ^ 64
small-ticks ticks range = omega (arith, range.1)

-- the words after `device`
abbrev option_words : EndParams → List (List ℕ)
option_words params =
    codes "mtu" ∷ decimal params.mtu ∷ codes "mode" ∷ mode_word params.acked ∷ codes "last"
    ∷ last_word params.last ∷ codes "timers"
    ∷ decimal params.ticks.retransmission ∷ decimal params.ticks.inactivity ∷ decimal
    params.ticks.linger ∷ decimal params.ticks.quiet ∷ []

abbrev device_words : DeviceLine → List (List ℕ)
device_words d = decimal d.number ∷ iid_word d.params.iids.dev ∷ iid_word d.params.iids.app
    ∷ option_words d.params

device-spaced : (d : DeviceLine) → device_line d ≡ spaced (codes "device") (device_words d)
unfolding device_line options_words timers_words
device-spaced d = refl

options-without : (params : EndParams) → IsParams params → AllByRecursion HasNoSpace
    (option_words params)
options-without params range = (
  without (codes "mtu") refl,
  (
    decimal-without params.mtu (omega (arith, range.mtu.1)),
    (
      without (codes "mode") refl,
      (
        mode-without params.acked,
        (
          without (codes "last") refl,
          (
            last-without params.last,
            (
              without (codes "timers") refl,
              (
                decimal-without params.ticks.retransmission
                    (small-ticks params.ticks.retransmission range.ticks.retransmission),
                (
                  decimal-without params.ticks.inactivity
                      (small-ticks params.ticks.inactivity range.ticks.inactivity),
                  (
                    decimal-without params.ticks.linger
                        (small-ticks params.ticks.linger range.ticks.linger),
                    (
                      decimal-without params.ticks.quiet
                          (small-ticks params.ticks.quiet range.ticks.quiet),
                      tt,
                    ),
                  ),
                ),
              ),
            ),
          ),
        ),
      ),
    ),
  ),
)

device-split : (d : DeviceLine) → IsParams d.params → HasNumbers d → words_of
    (device_line d) ≡ codes "device" ∷ device_words d
device-split d range numbers =
    ap words_of (device-spaced d)
    ∙ words-again (codes "device") (device_words d) (without (codes "device") refl) (
      decimal-without d.number (omega (arith, numbers.number)),
      (
        iid-digits d.params.iids.dev,
        (iid-digits d.params.iids.app, options-without d.params range),
      ),
    )

options-again : (default params : EndParams) → IsParams params → default.iids ≡ params.iids
    → params_in default (option_words params) ≡ Some params
unfolding params_in timers_in
options-again default params range same =
    rw (
      mtu-again params.mtu range.mtu,
      mode-again params.acked,
      last-again params.last,
      timers-again params.ticks range.ticks,
      same,
    ) refl

device-read : (d : DeviceLine) → IsParams d.params → HasNumbers d → device_in
    (codes "device" ∷ device_words d) ≡ Some d
unfolding device_in declared_device iids_of
device-read d range numbers =
    rw (
      number-again (2 ^ 16) d.number numbers.number (omega (arith, numbers.number)),
      iid-again
          d.params.iids.dev numbers.dev,
      iid-again d.params.iids.app numbers.app,
    )
    (ap (λ params. option_and_then (λ p. Some (record { number = d.number; params = p })) params)
    (options-again (default_params d.params.iids) d.params range refl))

device-passed : (d : DeviceLine) → is_passed_over (device_line d) ≡ false
unfolding device_line
device-passed d = refl

device-unpublished : (d : DeviceLine) → published_text (device_line d) ≡ None
unfolding device_line published_text
device-unpublished d = refl

-- the line of a device with parameters in range declares that device, where its number is new
pub device-again : (devices : List DeviceLine) (d : DeviceLine) → IsParams d.params → HasNumbers d
    → is_declared devices d.number ≡ false → told_by devices (device_line d) ≡ Some (Declares d)
unfolding told_by told_by_text told_by_words
device-again devices d range numbers new =
    rw (
      device-passed d,
      device-unpublished d,
      device-split d range numbers,
      device-read d range
          numbers,
      new,
    ) refl

-- ---- no line feeds

ticks-clean : (ticks : TimerTicks) → NoFeed (timers_words ticks)
unfolding timers_words
ticks-clean ticks =
    both (decimal ticks.retransmission) _ (decimal-clean ticks.retransmission) (
      refl,
      both (decimal ticks.inactivity) _ (decimal-clean ticks.inactivity) (
        refl,
        both (decimal ticks.linger) _ (decimal-clean ticks.linger)
            (refl, decimal-clean ticks.quiet),
      ),
    )

options-clean : (params : EndParams) → NoFeed (options_words params)
unfolding options_words
options-clean params =
    both (codes "mtu ") _ (literal (codes "mtu ") refl)
    (both (decimal params.mtu) _ (decimal-clean params.mtu)
    (both (codes " mode ") _ (literal (codes " mode ") refl)
    (both (mode_word params.acked) _ (mode-clean params.acked)
    (both (codes " last ") _ (literal (codes " last ") refl)
    (both (last_word params.last) _ (last-clean params.last)
    (both (codes " timers ") _ (literal (codes " timers ") refl) (ticks-clean params.ticks)))))))

-- the line of a device has no line feed in it
pub device-clean : (d : DeviceLine) → NoFeed (device_line d)
unfolding device_line
device-clean d =
    both (codes "device ") _ (literal (codes "device ") refl)
    (both (decimal d.number) _ (decimal-clean d.number) (
      refl,
      both (iid_word d.params.iids.dev) _ (iid-clean d.params.iids.dev) (
        refl,
        both (iid_word d.params.iids.app) _ (iid-clean d.params.iids.app)
            (refl, options-clean d.params),
      ),
    ))
