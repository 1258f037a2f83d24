-- The words of a call are read as the sentence that they are, or refused with their first bad
-- place.
use Rattle.std.proofs.Common.{ℕ, zero, suc, ◌≡◌, ◌⊎◌, inl, inr, ◌+◌, ◌-◌, ◌<◌, ◌≤◌, ◌^◌, ◌==◌}
use Rattle.std.proofs.Common.{nat_lt, nat_le, Bool, true, false, not, ◌&&◌, cond, List, [], ◌∷◌}
use Rattle.std.proofs.Common.{◌++◌, length, take, drop, get_or, Option, Some, None, Result, Ok, Err}
use Rattle.std.proofs.Common.{codes, refl, ap, sym, ◌∙◌, subst, arith, lit<, lit≤, append_assoc}
use Rattle.std.proofs.Common.{append-nil}
use Rattle.std.specs.Str.{all_ascii_digits, bytes_eq}
use Rattle.std.specs.Str.Parse.{digits_value}
use Rattle.std.specs.Fmt.{decimal}
use Rattle.std.proofs.lemmas.Fmt.{decimal-digits_value}
use Rattle.std.proofs.lemmas.List.{take-append-drop}
use Rattle.std.proofs.lemmas.Slice.Eq.{bytes_eq-Decides}
use Rattle.std.proofs.lemmas.Bool.{and_parts, cases_lt, leb-true, ltb-true}
use Rattle.std.proofs.lemmas.Bool.Decides.{nat_tests}
use Rattle.script_lang.specs.Text.{is_numeral, number_of}
use Rattle.script_lang.proofs.TextLemmas.{digits-model, list_all-all_ascii_digits}
use Rattle.script_lang.proofs.SpellingLemmas.{number-again}
use Rattle.schc_ids.specs.Limits.{max_devices}
use Rattle.gw_top.specs.declared.words.Command.{Command}
use Rattle.gw_top.specs.declared.words.Command.TheVariants.{Check, Pack, Unpack, Sim, Load}
use Rattle.gw_top.specs.Words.{max_workers, load_starts, AreWorkers, AreLoadNumbers, from_one}
use Rattle.gw_top.specs.Words.{count_of, with_workers, ended, workers_read, workers_at, option_at}
use Rattle.gw_top.specs.Words.{start_read, start_at, devices_read, load_at, command_after}
use Rattle.gw_top.specs.Words.{command_of}
use Rattle.gw_top.specs.Grammar.{IsOption, IsSentence, IsWhole, Begins, IsWrongAt, LacksAt}
use Rattle.gw_top.specs.Grammar.{IsFirstBad, SentencesAreRead, BadPlacesAreTold}

-- ---- numerals

numeral-digits : (word : List ℕ) → is_numeral word ≡ true → all_ascii_digits word ≡ true
numeral-digits [] h = absurd (cc)
numeral-digits (d ∷ []) h = rw h refl
numeral-digits (d ∷ e ∷ ds) h = sym (list_all-all_ascii_digits (d ∷ e ∷ ds)) ∙ (and_parts _ _ h).1

numeral-some : (word : List ℕ) → is_numeral word ≡ true → 0 < length word
numeral-some [] h = absurd (cc)
numeral-some (d ∷ ds) h = omega arith

no-zero : (d : ℕ) → not (d == 48) ≡ true → d ≡ 48 → ⊥
no-zero d h z = grind (arith, nat_tests)

numeral-lead : (word : List ℕ) → is_numeral word ≡ true → get_or word 0 0 ≡ 48 → length word ≡ 1
numeral-lead [] h z = absurd (cc)
numeral-lead (d ∷ []) h z = refl
numeral-lead (d ∷ e ∷ ds) h z = absurd (no-zero d (and_parts _ _ h).0 z)

spelled : (limit : ℕ) (word : List ℕ) (n : ℕ) (b : Bool) → limit ≤ 2 ^ 64
    → (b ≡ true → (is_numeral word ≡ true) × (digits_value 10 word < limit))
    → cond b (Some (digits_value 10 word)) None ≡ Some n → (word ≡ decimal n) × (n < limit)
spelled limit word n false small facts h = absurd (cc)
spelled limit word n true small facts h =
    let f = facts refl in
    let e : digits_value 10 word ≡ n = cc in
    subst (λ m. (word ≡ decimal m) × (m < limit)) e (
      sym
          (decimal-digits_value digits-model word (numeral-digits word f.0) (numeral-some word f.0)
          (numeral-lead word f.0) (omega arith)),
      f.1,
    )

-- a word that is read as a number is its numeral
numeral-of : (limit : ℕ) (word : List ℕ) (n : ℕ) → limit ≤ 2 ^ 64
    → number_of limit word ≡ Some n → (word ≡ decimal n) × (n < limit)
unfolding number_of
numeral-of limit word n small h =
    spelled limit word n (is_numeral word && nat_lt (digits_value 10 word) limit) small
    (λ t. let parts = and_parts _ _ t in (parts.0, ltb-true _ _ parts.1)) h

one-at : (b : Bool) (m n : ℕ) → (b ≡ true → 1 ≤ m) → cond b (Some m) None ≡ Some n
    → (Some m ≡ Some n) × (1 ≤ n)
one-at false m n tells h = absurd (cc)
one-at true m n tells h =
    let e : m ≡ n = cc in
    (h, subst (λ k. 1 ≤ k) e (tells refl))

from-one : (o : Option ℕ) (n : ℕ) → from_one o ≡ Some n → (o ≡ Some n) × (1 ≤ n)
unfolding from_one
from-one None n h = absurd (cc)
from-one (Some m) n h = one-at (nat_le 1 m) m n (leb-true 1 m) h

count-numeral : (most : ℕ) (word : List ℕ) (n : ℕ) → most < 2 ^ 63 → count_of most word ≡ Some n
    → (word ≡ decimal n) × (1 ≤ n) × (n ≤ most)
unfolding count_of
count-numeral most word n small h =
    let one = from-one (number_of (most + 1) word) n h in
    let read = numeral-of (most + 1) word n (omega arith) one.0 in
    (read.0, one.1, omega arith)

one-more : (n : ℕ) → 1 ≤ n → from_one (Some n) ≡ Some n
unfolding from_one
one-more n h =
    let e : nat_le 1 n ≡ true = grind (arith, nat_tests) in
    rw e refl

count-again : (most n : ℕ) → most < 2 ^ 63 → 1 ≤ n → n ≤ most → count_of most (decimal n) ≡ Some n
unfolding count_of
count-again most n small least within =
    ap from_one (number-again (most + 1) n (omega arith) (omega arith)) ∙ one-more n least

-- ---- words that are read are a sentence

same-word : (word other : List ℕ) → bytes_eq word other ≡ true → word ≡ other
same-word word other h = (bytes_eq-Decides word other).0 h

ended-ok : (place : ℕ) (command : Command) (words : List (List ℕ)) (c : Command)
    → ended place command words ≡ Ok c → (words ≡ []) × (command ≡ c)
ended-ok place command [] c h = (refl, cc)
ended-ok place command (word ∷ words) c h = absurd (cc)

-- a number of workers ends the words, and makes this command
Numbered : Command → List (List ℕ) → Command → Type 0
Numbered command words c =
    (n : ℕ) × (words ≡ decimal n ∷ []) × AreWorkers n × (with_workers command n ≡ c)

workers-read : (place : ℕ) (command : Command) (word : List ℕ) (words : List (List ℕ)) (c : Command)
    (o : Option ℕ) → count_of max_workers word ≡ o → workers_read place command o words ≡ Ok c
    → Numbered command (word ∷ words) c
unfolding workers_read Numbered
workers-read place command word words c None e h = absurd (cc)
workers-read place command word words c (Some n) e h =
    let read = count-numeral max_workers word n (lit< tt) e in
    let end = ended-ok (place + 1) (with_workers command n) words c h in
    (n, cc (read.0, end.0), (read.1, read.2), end.1)

workers-ok : (place : ℕ) (command : Command) (words : List (List ℕ)) (c : Command)
    → workers_at place command words ≡ Ok c → Numbered command words c
workers-ok place command [] c h = absurd (cc)
workers-ok place command (word ∷ words) c h =
    workers-read place command word words c (count_of max_workers word) refl h

-- an option ends the words, and makes this command
Optioned : Command → List (List ℕ) → Command → Type 0
Optioned command words c = (n : ℕ) × IsOption words n × (with_workers command n ≡ c)

numbered-option : (command : Command) (word : List ℕ) (words : List (List ℕ)) (c : Command)
    → word ≡ codes "--workers" → Numbered command words c → Optioned command (word ∷ words) c
unfolding Numbered Optioned
numbered-option command word words c e m = (m.0, inr (cc (e, m.1), m.2), m.3)

option-read : (place : ℕ) (command : Command) (word : List ℕ) (words : List (List ℕ)) (c : Command)
    (b : Bool) → (b ≡ true → word ≡ codes "--workers")
    → cond b (workers_at (place + 1) command words) (Err place) ≡ Ok c
    → Optioned command (word ∷ words) c
option-read place command word words c false e h = absurd (cc)
option-read place command word words c true e h =
    numbered-option command word words c (e refl) (workers-ok (place + 1) command words c h)

option-ok : (place : ℕ) (command : Command) (words : List (List ℕ)) (c : Command)
    → with_workers command 1 ≡ command → option_at place command words ≡ Ok c
    → Optioned command words c
unfolding Optioned
option-ok place command [] c one h = (1, inl (refl, refl), cc)
option-ok place command (word ∷ words) c one h =
    option-read place command word words c (bytes_eq word (codes "--workers"))
    (same-word word (codes "--workers")) h

sim-ok : (words : List (List ℕ)) (c : Command) → Optioned (Sim 1) words c
    → IsSentence (codes "sim" ∷ words) c
unfolding Optioned
sim-ok words c o = subst (IsSentence (codes "sim" ∷ words)) o.2 (words, o.1, refl)

load-made : (devices start : ℕ) (words : List (List ℕ)) (c : Command) → AreLoadNumbers devices start
    → Optioned (Load devices start 1) words c
    → IsSentence (codes "load" ∷ decimal devices ∷ decimal start ∷ words) c
unfolding Optioned
load-made devices start words c numbers o =
    subst (IsSentence (codes "load" ∷ decimal devices ∷ decimal start ∷ words)) o.2
    (words, o.1, numbers, refl)

start-read : (devices : ℕ) (word : List ℕ) (words : List (List ℕ)) (c : Command) (o : Option ℕ)
    → 1 ≤ devices → devices ≤ max_devices → number_of load_starts word ≡ o
    → start_read devices o words ≡ Ok c
    → IsSentence (codes "load" ∷ decimal devices ∷ word ∷ words) c
unfolding start_read
start-read devices word words c None one most e h = absurd (cc)
start-read devices word words c (Some start) one most e h =
    let read = numeral-of load_starts word start (lit≤ tt) e in
    subst (λ w. IsSentence (codes "load" ∷ decimal devices ∷ w ∷ words) c) (sym read.0)
    (load-made devices start words c (one, most, read.1)
    (option-ok 4 (Load devices start 1) words c refl h))

start-ok : (devices : ℕ) (words : List (List ℕ)) (c : Command) → 1 ≤ devices
    → devices ≤ max_devices → start_at devices words ≡ Ok c
    → IsSentence (codes "load" ∷ decimal devices ∷ words) c
start-ok devices [] c one most h = absurd (cc)
start-ok devices (word ∷ words) c one most h =
    start-read devices word words c (number_of load_starts word) one most refl h

devices-read : (word : List ℕ) (words : List (List ℕ)) (c : Command) (o : Option ℕ)
    → count_of max_devices word ≡ o → devices_read o words ≡ Ok c
    → IsSentence (codes "load" ∷ word ∷ words) c
unfolding devices_read
devices-read word words c None e h = absurd (cc)
devices-read word words c (Some devices) e h =
    let read = count-numeral max_devices word devices (lit< tt) e in
    subst (λ w. IsSentence (codes "load" ∷ w ∷ words) c) (sym read.0)
    (start-ok devices words c read.1 read.2 h)

load-ok : (words : List (List ℕ)) (c : Command) → load_at words ≡ Ok c
    → IsSentence (codes "load" ∷ words) c
load-ok [] c h = absurd (cc)
load-ok (word ∷ words) c h = devices-read word words c (count_of max_devices word) refl h

lone : (name : List ℕ) (command : Command) (words : List (List ℕ)) (c : Command)
    → IsSentence (name ∷ []) command → ended 2 command words ≡ Ok c → IsSentence (name ∷ words) c
lone name command words c sentence h =
    let end = ended-ok 2 command words c h in
    subst (λ w. IsSentence (name ∷ w) c) (sym end.0)
    (subst (IsSentence (name ∷ [])) end.1 sentence)

-- the command of the words after a first word that passed these tests
abbrev tested : Bool → Bool → Bool → Bool → Bool → List (List ℕ) → Result Command ℕ
tested check pack unpack sim load words =
    cond check (ended 2 Check words)
    (cond pack (ended 2 Pack words)
    (cond unpack (ended 2 Unpack words)
    (cond sim (option_at 2 (Sim 1) words) (cond load (load_at words) (Err 1)))))

named : (name word : List ℕ) (words : List (List ℕ)) (c : Command) → word ≡ name
    → IsSentence (name ∷ words) c → IsSentence (word ∷ words) c
named name word words c e s = subst (λ w. IsSentence (w ∷ words) c) (sym e) s

tested-ok : (word : List ℕ) (words : List (List ℕ)) (c : Command)
    (check pack unpack sim load : Bool) → (check ≡ true → word ≡ codes "check")
    → (pack ≡ true → word ≡ codes "pack") → (unpack ≡ true → word ≡ codes "unpack")
    → (sim ≡ true → word ≡ codes "sim") → (load ≡ true → word ≡ codes "load")
    → tested check pack unpack sim load words ≡ Ok c → IsSentence (word ∷ words) c
tested-ok word words c true pack unpack sim load e1 e2 e3 e4 e5 h =
    named (codes "check") word words c (e1 refl) (lone (codes "check") Check words c refl h)
tested-ok word words c false true unpack sim load e1 e2 e3 e4 e5 h =
    named (codes "pack") word words c (e2 refl) (lone (codes "pack") Pack words c refl h)
tested-ok word words c false false true sim load e1 e2 e3 e4 e5 h =
    named (codes "unpack") word words c (e3 refl) (lone (codes "unpack") Unpack words c refl h)
tested-ok word words c false false false true load e1 e2 e3 e4 e5 h =
    named (codes "sim") word words c (e4 refl)
    (sim-ok words c (option-ok 2 (Sim 1) words c refl h))
tested-ok word words c false false false false true e1 e2 e3 e4 e5 h =
    named (codes "load") word words c (e5 refl) (load-ok words c h)
tested-ok word words c false false false false false e1 e2 e3 e4 e5 h = absurd (cc)

command-ok : (words : List (List ℕ)) (c : Command) → command_of words ≡ Ok c → IsSentence words c
unfolding command_of command_after
command-ok [] c h = absurd (cc)
command-ok (word ∷ words) c h =
    tested-ok word words c (bytes_eq word (codes "check")) (bytes_eq word (codes "pack"))
    (bytes_eq word (codes "unpack")) (bytes_eq word (codes "sim")) (bytes_eq word (codes "load"))
    (same-word word (codes "check")) (same-word word (codes "pack"))
    (same-word word (codes "unpack")) (same-word word (codes "sim"))
    (same-word word (codes "load")) h

-- ---- a sentence is read as the command for which it asks

option-one : (place : ℕ) (command : Command) → with_workers command 1 ≡ command
    → option_at place command [] ≡ Ok (with_workers command 1)
option-one place command one = ap Ok (sym one)

option-more : (place : ℕ) (command : Command) (n : ℕ) → AreWorkers n
    → option_at place command (codes "--workers" ∷ decimal n ∷ []) ≡ Ok (with_workers command n)
unfolding workers_read
option-more place command n w = rw (count-again max_workers n (lit< tt) w.0 w.1) refl

option-again : (place : ℕ) (command : Command) (option : List (List ℕ)) (n : ℕ)
    → with_workers command 1 ≡ command → IsOption option n
    → option_at place command option ≡ Ok (with_workers command n)
option-again place command option n one (inl none) =
    cc (none.0, none.1, option-one place command one)
option-again place command option n one (inr some) =
    cc (some.0, option-more place command n some.1)

load-again : (devices start workers : ℕ) (option : List (List ℕ)) → AreLoadNumbers devices start
    → IsOption option workers
    → load_at (decimal devices ∷ decimal start ∷ option) ≡ Ok (Load devices start workers)
unfolding devices_read start_read
load-again devices start workers option numbers o =
    rw (
      count-again max_devices devices (lit< tt) numbers.0 numbers.1,
      number-again load_starts start numbers.2 (omega arith),
    )
    (option-again 4 (Load devices start 1) option workers refl o)

command-again : (words : List (List ℕ)) (c : Command) → IsSentence words c
    → command_of words ≡ Ok c
unfolding command_of command_after
command-again words Check s = rw s refl
command-again words Pack s = rw s refl
command-again words Unpack s = rw s refl
command-again words (Sim workers) s =
    rw s.2 (option-again 2 (Sim 1) s.0 workers refl s.1)
command-again words (Load devices start workers) s =
    rw s.3 (load-again devices start workers s.0 s.2 s.1)

-- the command of a call is the one for which its words ask as a sentence
pub sentences-are-read : SentencesAreRead
sentences-are-read words c = (command-ok words c, command-again words c)

-- ---- where the reading of words stops

-- a reading of words
abbrev Walk : Type 0
Walk = List (List ℕ) → Result Command ℕ

-- a walk that stops at a place tells this one
abbrev Told : ℕ → ℕ → Type 0
Told place stop = ◌≡◌ {A = Result Command ℕ} (Err place) (Err stop)

-- A walk over words, the first of which stands at this place, stops at a place. After the words
-- before that place it could have come to a command; with the word there, if one is, none helps.
record Stop (walk : Walk) (place : ℕ) (words : List (List ℕ)) (stop : ℕ) : Type 0 where
  before : ℕ
  at : stop ≡ place + before
  within : before ≤ length words
  rest : List (List ℕ)
  command : Command
  could : walk (take before words ++ rest) ≡ Ok command
  must : before < length words → (more : List (List ℕ))
      → walk (take (suc before) words ++ more) ≡ Err stop

lacks : (walk : Walk) (place stop : ℕ) (rest : List (List ℕ)) (command : Command)
    → walk rest ≡ Ok command → Told place stop → Stop walk place [] stop
lacks walk place stop rest command could e = record {
  before = 0;
  at = (let s : place ≡ stop = cc in omega arith);
  within = omega arith;
  rest = rest;
  command = command;
  could = could;
  must = λ h more. absurd (omega arith);
}

wrong : (walk : Walk) (place stop : ℕ) (word : List ℕ) (words rest : List (List ℕ))
    (command : Command) → walk rest ≡ Ok command
    → ((more : List (List ℕ)) → walk (word ∷ more) ≡ Err place)
    → Told place stop → Stop walk place (word ∷ words) stop
wrong walk place stop word words rest command could must e = record {
  before = 0;
  at = (let s : place ≡ stop = cc in omega arith);
  within = omega arith;
  rest = rest;
  command = command;
  could = could;
  must = λ h more. must more ∙ e;
}

passed : (walk next : Walk) (place stop : ℕ) (word : List ℕ) (words : List (List ℕ))
    → ((more : List (List ℕ)) → walk (word ∷ more) ≡ next more) → Stop next (place + 1) words stop
    → Stop walk place (word ∷ words) stop
passed walk next place stop word words same s = record {
  before = suc s.before;
  at = omega (arith, s.at);
  within = omega (arith, s.within);
  rest = s.rest;
  command = s.command;
  could = same (take s.before words ++ s.rest) ∙ s.could;
  must = λ h more. same (take (suc s.before) words ++ more) ∙ s.must (omega arith) more;
}

ended-stops : (place stop : ℕ) (command : Command) (words : List (List ℕ))
    → ended place command words ≡ Err stop → Stop (ended place command) place words stop
ended-stops place stop command [] h = absurd (cc)
ended-stops place stop command (word ∷ words) h =
    wrong (ended place command) place stop word words [] command refl (λ more. refl) h

one-worker : (place : ℕ) (command : Command)
    → workers_at place command (decimal 1 ∷ []) ≡ Ok (with_workers command 1)
unfolding workers_read
one-worker place command = rw (count-again max_workers 1 (lit< tt) (lit≤ tt) (lit≤ tt)) refl

workers-stop : (place stop : ℕ) (command : Command) (word : List ℕ) (words : List (List ℕ))
    (o : Option ℕ) → ((more : List (List ℕ))
    → workers_at place command (word ∷ more) ≡ workers_read place command o more)
    → workers_read place command o words ≡ Err stop
    → Stop (workers_at place command) place (word ∷ words) stop
unfolding workers_read
workers-stop place stop command word words None same h =
    wrong (workers_at place command) place stop word words (decimal 1 ∷ [])
    (with_workers command 1) (one-worker place command) same h
workers-stop place stop command word words (Some n) same h =
    passed (workers_at place command) (ended (place + 1) (with_workers command n)) place stop word
    words same (ended-stops (place + 1) stop (with_workers command n) words h)

workers-stops : (place stop : ℕ) (command : Command) (words : List (List ℕ))
    → workers_at place command words ≡ Err stop
    → Stop (workers_at place command) place words stop
workers-stops place stop command [] h =
    lacks (workers_at place command) place stop (decimal 1 ∷ []) (with_workers command 1)
    (one-worker place command) h
workers-stops place stop command (word ∷ words) h =
    workers-stop place stop command word words (count_of max_workers word) (λ more. refl) h

option-stop : (place stop : ℕ) (command : Command) (word : List ℕ) (words : List (List ℕ))
    (b : Bool) → ((more : List (List ℕ))
    → option_at place command (word ∷ more)
    ≡ cond b (workers_at (place + 1) command more) (Err place))
    → cond b (workers_at (place + 1) command words) (Err place) ≡ Err stop
    → Stop (option_at place command) place (word ∷ words) stop
option-stop place stop command word words false same h =
    wrong (option_at place command) place stop word words [] command refl same h
option-stop place stop command word words true same h =
    passed (option_at place command) (workers_at (place + 1) command) place stop word words same
    (workers-stops (place + 1) stop command words h)

option-stops : (place stop : ℕ) (command : Command) (words : List (List ℕ))
    → option_at place command words ≡ Err stop → Stop (option_at place command) place words stop
option-stops place stop command [] h = absurd (cc)
option-stops place stop command (word ∷ words) h =
    option-stop place stop command word words (bytes_eq word (codes "--workers")) (λ more. refl) h

start-zero : (devices : ℕ) → start_at devices (decimal 0 ∷ []) ≡ Ok (Load devices 0 1)
unfolding start_read
start-zero devices = rw (number-again load_starts 0 (lit< tt) (lit< tt)) refl

start-stop : (stop devices : ℕ) (word : List ℕ) (words : List (List ℕ)) (o : Option ℕ)
    → ((more : List (List ℕ)) → start_at devices (word ∷ more) ≡ start_read devices o more)
    → start_read devices o words ≡ Err stop → Stop (start_at devices) 3 (word ∷ words) stop
unfolding start_read
start-stop stop devices word words None same h =
    wrong (start_at devices) 3 stop word words (decimal 0 ∷ []) (Load devices 0 1)
    (start-zero devices) same h
start-stop stop devices word words (Some start) same h =
    passed (start_at devices) (option_at 4 (Load devices start 1)) 3 stop word words same
    (option-stops 4 stop (Load devices start 1) words h)

start-stops : (stop devices : ℕ) (words : List (List ℕ)) → start_at devices words ≡ Err stop
    → Stop (start_at devices) 3 words stop
start-stops stop devices [] h =
    lacks (start_at devices) 3 stop (decimal 0 ∷ []) (Load devices 0 1) (start-zero devices) h
start-stops stop devices (word ∷ words) h =
    start-stop stop devices word words (number_of load_starts word) (λ more. refl) h

load-one : load_at (decimal 1 ∷ decimal 0 ∷ []) ≡ Ok (Load 1 0 1)
load-one =
    load-again 1 0 1 [] (lit≤ tt, lit≤ tt, lit< tt) (inl (refl, refl))

load-stop : (stop : ℕ) (word : List ℕ) (words : List (List ℕ)) (o : Option ℕ)
    → ((more : List (List ℕ)) → load_at (word ∷ more) ≡ devices_read o more)
    → devices_read o words ≡ Err stop → Stop load_at 2 (word ∷ words) stop
unfolding devices_read
load-stop stop word words None same h =
    wrong load_at 2 stop word words (decimal 1 ∷ decimal 0 ∷ []) (Load 1 0 1) load-one same h
load-stop stop word words (Some devices) same h =
    passed load_at (start_at devices) 2 stop word words same (start-stops stop devices words h)

load-stops : (stop : ℕ) (words : List (List ℕ)) → load_at words ≡ Err stop
    → Stop load_at 2 words stop
load-stops stop [] h =
    lacks load_at 2 stop (decimal 1 ∷ decimal 0 ∷ []) (Load 1 0 1) load-one h
load-stops stop (word ∷ words) h =
    load-stop stop word words (count_of max_devices word) (λ more. refl) h

tested-stops : (stop : ℕ) (word : List ℕ) (words : List (List ℕ))
    (check pack unpack sim load : Bool) → ((more : List (List ℕ))
    → command_of (word ∷ more) ≡ tested check pack unpack sim load more)
    → tested check pack unpack sim load words ≡ Err stop → Stop command_of 1 (word ∷ words) stop
tested-stops stop word words true pack unpack sim load same h =
    passed command_of (ended 2 Check) 1 stop word words same (ended-stops 2 stop Check words h)
tested-stops stop word words false true unpack sim load same h =
    passed command_of (ended 2 Pack) 1 stop word words same (ended-stops 2 stop Pack words h)
tested-stops stop word words false false true sim load same h =
    passed command_of (ended 2 Unpack) 1 stop word words same (ended-stops 2 stop Unpack words h)
tested-stops stop word words false false false true load same h =
    passed command_of (option_at 2 (Sim 1)) 1 stop word words same
    (option-stops 2 stop (Sim 1) words h)
tested-stops stop word words false false false false true same h =
    passed command_of load_at 1 stop word words same (load-stops stop words h)
tested-stops stop word words false false false false false same h =
    wrong command_of 1 stop word words (codes "check" ∷ []) Check
    (command-again (codes "check" ∷ []) Check refl) same h

command-stops : (words : List (List ℕ)) (stop : ℕ) → command_of words ≡ Err stop
    → Stop command_of 1 words stop
unfolding command_of command_after
command-stops [] stop h =
    lacks command_of 1 stop (codes "check" ∷ []) Check
    (command-again (codes "check" ∷ []) Check refl) h
command-stops (word ∷ words) stop h =
    tested-stops stop word words (bytes_eq word (codes "check")) (bytes_eq word (codes "pack"))
    (bytes_eq word (codes "unpack")) (bytes_eq word (codes "sim")) (bytes_eq word (codes "load"))
    (λ more. refl) h

-- ---- that place is the first bad one

refused : (words : List (List ℕ)) (stop : ℕ) → command_of words ≡ Err stop → ¬ IsWhole words
refused words stop h whole =
    let read = command-again words whole.0 whole.1 in
    absurd (cc (read, h))

bad-word : (words : List (List ℕ)) (place stop : ℕ)
    → ((more : List (List ℕ)) → command_of (take place words ++ more) ≡ Err stop)
    → ¬ Begins (take place words)
bad-word words place stop must begins =
    refused (take place words ++ begins.0) stop (must begins.0) begins.1

begun : (words : List (List ℕ)) (place : ℕ) (rest : List (List ℕ)) (command : Command)
    → command_of (take place words ++ rest) ≡ Ok command → Begins (take place words)
begun words place rest command could =
    (rest, (command, command-ok (take place words ++ rest) command could))

bad-at : (words : List (List ℕ)) (stop : ℕ) → command_of words ≡ Err stop
    → (s : Stop command_of 1 words stop) → (s.before < length words) ⊎ (length words ≤ s.before)
    → IsWrongAt stop words ⊎ LacksAt stop words
bad-at words stop h s (inl there) =
    let next : stop ≡ suc s.before = omega (arith, s.at) in
    inl (
      omega (arith, s.at),
      subst (λ n. ¬ Begins (take n words)) (sym next)
          (bad-word words (suc s.before) stop (s.must there)),
    )
bad-at words stop h s (inr past) = inr (omega (arith, s.at, s.within), refused words stop h)

first-bad : (words : List (List ℕ)) (stop : ℕ) → command_of words ≡ Err stop
    → Stop command_of 1 words stop → IsFirstBad stop words
first-bad words stop h s =
    let before : stop - 1 ≡ s.before = omega (arith, s.at) in (
      omega (arith, s.at),
      subst (λ n. Begins (take n words)) (sym before)
          (begun words s.before s.rest s.command s.could),
      bad-at words stop h s (cases_lt s.before (length words)),
    )

-- ---- no other place is

take-take : (m n : ℕ) (words : List (List ℕ)) → m ≤ n → take m (take n words) ≡ take m words
take-take zero n words h = refl
take-take (suc m) zero words h = absurd (omega arith)
take-take (suc m) (suc n) [] h = refl
take-take (suc m) (suc n) (word ∷ words) h =
    ap (λ ws. word ∷ ws) (take-take m n words (omega arith))

begins-front : (front rest : List (List ℕ)) → Begins (front ++ rest) → Begins front
begins-front front rest b =
    (rest ++ b.0, subst IsWhole (append_assoc front rest b.0) b.1)

begins-shorter : (m n : ℕ) (words : List (List ℕ)) → m ≤ n → Begins (take n words)
    → Begins (take m words)
begins-shorter m n words h b =
    subst Begins (take-take m n words h)
    (begins-front (take m (take n words)) (drop m (take n words))
    (subst Begins (sym (take-append-drop m (take n words))) b))

whole-begins : (words : List (List ℕ)) → IsWhole words → (n : ℕ) → Begins (take n words)
whole-begins words whole n =
    let cut = append-nil (take n words ++ drop n words) ∙ take-append-drop n words in
    begins-front (take n words) (drop n words) ([], subst IsWhole (sym cut) whole)

not-before : (words : List (List ℕ)) (place other : ℕ) → IsFirstBad place words
    → IsFirstBad other words → place < other → ⊥
not-before words place other bad later h = bad-before bad.2
  where
    bad-before : IsWrongAt place words ⊎ LacksAt place words → ⊥
    bad-before (inl there) =
        there.1 (begins-shorter place (other - 1) words (omega arith) later.1)
    bad-before (inr past) = beyond later.2
      where
        beyond : IsWrongAt other words ⊎ LacksAt other words → ⊥
        beyond (inl there) = omega (arith, past.0, there.0)
        beyond (inr end) = omega (arith, past.0, end.0)

not-whole : (words : List (List ℕ)) (place : ℕ) → IsFirstBad place words → ¬ IsWhole words
not-whole words place bad whole = with-whole bad.2
  where
    with-whole : IsWrongAt place words ⊎ LacksAt place words → ⊥
    with-whole (inl there) = there.1 (whole-begins words whole place)
    with-whole (inr past) = past.1 whole

same-place : (words : List (List ℕ)) (place other : ℕ) → IsFirstBad place words
    → IsFirstBad other words → place ≡ other
same-place words place other bad also =
    omega (arith, not-before words place other bad also, not-before words other place also bad)

told-at : (words : List (List ℕ)) (place : ℕ) (r : Result Command ℕ) → command_of words ≡ r
    → IsFirstBad place words → command_of words ≡ Err place
told-at words place (Ok command) e bad =
    absurd (not-whole words place bad (command, command-ok words command e))
told-at words place (Err stop) e bad =
    let first = first-bad words stop e (command-stops words stop e) in
    e ∙ ap Err (same-place words stop place first bad)

-- a call is refused with the first bad place of its words
pub bad-places-are-told : BadPlacesAreTold
bad-places-are-told words place = (
  λ h. first-bad words place h (command-stops words place h),
  told-at words place (command_of words) refl,
)
