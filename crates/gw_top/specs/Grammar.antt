-- The words of a call as sentences, and the first place at which words are none.
use Rattle.std.specs.Prelude.{ℕ, ◌≡◌, ◌↔◌, ◌⊎◌, ◌+◌, ◌-◌, ◌≤◌, List, [], ◌∷◌, ◌++◌, length, take}
use Rattle.std.specs.Prelude.{Ok, Err, codes}
use Rattle.std.specs.Fmt.{decimal}
use Rattle.gw_top.specs.declared.words.Command.{Command}
use Rattle.gw_top.specs.declared.words.Command.TheVariants.{Check, Pack, Unpack, Sim, Load}
use Rattle.gw_top.specs.Words.{AreWorkers, AreLoadNumbers, command_of}

-- no option stands for one worker, and `--workers` for the number after it
abbrev pub IsOption : List (List ℕ) → ℕ → Type 0
IsOption option workers =
    ((option ≡ []) × (workers ≡ 1))
    ⊎ ((option ≡ codes "--workers" ∷ decimal workers ∷ []) × AreWorkers workers)

-- these words are a sentence, and ask for this command
abbrev pub IsSentence : List (List ℕ) → Command → Type 0
IsSentence words Check = words ≡ codes "check" ∷ []
IsSentence words Pack = words ≡ codes "pack" ∷ []
IsSentence words Unpack = words ≡ codes "unpack" ∷ []
IsSentence words (Sim workers) =
    (option : List (List ℕ)) × IsOption option workers × (words ≡ codes "sim" ∷ option)
IsSentence words (Load devices start workers) =
    (option : List (List ℕ)) × IsOption option workers × AreLoadNumbers devices start
    × (words ≡ codes "load" ∷ decimal devices ∷ decimal start ∷ option)

-- these words are a sentence
abbrev pub IsWhole : List (List ℕ) → Type 0
IsWhole words = (command : Command) × IsSentence words command

-- these words are a sentence once the right words, or none, are put after them
abbrev pub Begins : List (List ℕ) → Type 0
Begins front = (rest : List (List ℕ)) × IsWhole (front ++ rest)

-- a word stands at this place, and no sentence begins with the words up to it
abbrev pub IsWrongAt : ℕ → List (List ℕ) → Type 0
IsWrongAt place words = (place ≤ length words) × ¬ Begins (take place words)

-- this place is the one after the last word, and the words are no sentence without a word there
abbrev pub LacksAt : ℕ → List (List ℕ) → Type 0
LacksAt place words = (place ≡ length words + 1) × ¬ IsWhole words

-- the words before this place, counted from 1, begin a sentence; the word there is wrong, or lacks
abbrev pub IsFirstBad : ℕ → List (List ℕ) → Type 0
IsFirstBad place words =
    (1 ≤ place) × Begins (take (place - 1) words) × (IsWrongAt place words ⊎ LacksAt place words)

-- the command of a call is the one for which its words ask as a sentence
abbrev pub SentencesAreRead : Type 0
SentencesAreRead =
    (words : List (List ℕ)) (command : Command)
    → (command_of words ≡ Ok command) ↔ IsSentence words command

-- a call is refused with the first bad place of its words
abbrev pub BadPlacesAreTold : Type 0
BadPlacesAreTold =
    (words : List (List ℕ)) (place : ℕ) → (command_of words ≡ Err place) ↔ IsFirstBad place words
