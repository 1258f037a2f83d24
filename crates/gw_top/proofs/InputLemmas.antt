-- What a command was given, by what the reading of its input answered.
use Rattle.std.proofs.Common.{◌≡◌, ℕ, ◌+◌, ◌<◌, ◌≤◌, Bool, true, false, List, [], nat_lt, length}
use Rattle.std.proofs.Common.{Option}
use Rattle.std.proofs.Common.{None, Some, Result, Ok, Err, Vec, refl, sym, ap, ◌∙◌, subst, arith}
use Rattle.std.specs.Io.KnownBytes.{Consumes, Keeps, IsAtEnd}
use Rattle.std.proofs.lemmas.Bool.Decides.{nat_tests}
use Rattle.outside.specs.Counting.{Rose}
use Rattle.outside.specs.States.{SourceState}
use Rattle.outside.specs.Reading.{HasMore, IsContent, ReadsAll, CountsFailedReading}
use Rattle.outside.specs.declared.loops.ReadAllFault.{ReadAllFault}
use Rattle.outside.specs.declared.loops.ReadAllFault.TheVariants.{Fault, TooLong, Memory}
use Rattle.schc_ids.specs.Limits.{max_input}
use Rattle.gw_top.specs.Answers.{Call, IsRead, IsInput, GivesInput, IsGiven, LeavesUnread}

-- what came whole is the command's input
pub input-given : {A : Type 0} (reads : Bool) (call : Call) (text : Vec ℕ A)
    → GivesInput reads (Ok text) call.source call.source_after → IsInput reads call text.items
input-given true call text gave =
    record { consumed = gave.0.2; ended = gave.0.3; within = gave.0.0 }
input-given false call text gave = gave

-- what a command that reads no input is given leaves the source as it was
pub unread_left : {A : Type 0} (reads : Bool) (result : Result (Vec ℕ A) ReadAllFault)
    (old new : SourceState) → GivesInput reads result old new → LeavesUnread reads old new
unread_left true result old new gave = tt
unread_left false (Ok text) old new gave = gave.1
unread_left false (Err why) old new gave = absurd gave

content-is : (left : Option (List ℕ)) (bytes text : List ℕ) → IsContent left bytes
    → left ≡ Some text → text ≡ bytes
content-is None bytes text is told = absurd (cc)
content-is (Some rest) bytes text is told =
    let same : rest ≡ text = cc in sym same ∙ is

-- the text that the source tells is the one that came whole
pub text-given : {A : Type 0} (reads : Bool) (call : Call) (bytes : Vec ℕ A) (text : List ℕ)
    → GivesInput reads (Ok bytes) call.source call.source_after → IsGiven reads call text
    → (text ≡ bytes.items) × (nat_lt max_input (length text) ≡ false)
text-given true call bytes text gave given =
    let same = content-is call.source.left bytes.items text gave.0.1 given.0 in
    let within = gave.0.0 in
    (same, rw same (grind (arith, nat_tests)))
text-given false call bytes text gave given = (given ∙ sym gave.0, rw given refl)

-- no reading fails of a source of which no call failed
pub fault-given : (A : Type 0) (reads : Bool) (call : Call) (text : List ℕ)
    → GivesInput {A = A} reads (Err Fault) call.source call.source_after → IsGiven reads call text
    → ⊥
fault-given A true call text gave given = given.1 (gave.1 refl)
fault-given A false call text gave given = gave

more-is : (left : Option (List ℕ)) (text : List ℕ) → HasMore left max_input → left ≡ Some text
    → max_input < length text
more-is None text more told = absurd (cc)
more-is (Some rest) text more told =
    let same : rest ≡ text = cc in subst (λ (l : List ℕ). max_input < length l) same more

-- a source that has too many bytes tells so many
pub long-given : (A : Type 0) (reads : Bool) (call : Call) (text : List ℕ)
    → GivesInput {A = A} reads (Err TooLong) call.source call.source_after → IsGiven reads call text
    → nat_lt max_input (length text) ≡ true
long-given A true call text gave given =
    let more = more-is call.source.left text gave.0.0 given.0 in grind (arith, nat_tests)
long-given A false call text gave given = absurd gave
