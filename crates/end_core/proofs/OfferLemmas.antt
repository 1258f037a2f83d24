-- What an end answers to an edition that doesn't diverge from the one that it knows.
use Rattle.std.proofs.Common.{ℕ, ◌≡◌, ◌<◌, ◌≤◌, Bool, true, false, Option, Some, None, nat_le, refl}
use Rattle.std.proofs.Common.{sym}
use Rattle.std.proofs.lemmas.Bool.{lt-leb, le-leb, true≢false}
use Rattle.editions.specs.Data.{EditionData}
use Rattle.editions.specs.Followed.{diverged}
use Rattle.event_data.specs.declared.outcomes.Offered.TheVariants.{Adopted, Older}
use Rattle.end_core.specs.Data.{EndData}
use Rattle.end_core.specs.End.{with_known, offer_from, offer_step}

older : (end : EndData) (edition : EditionData) (b : Bool) (o : Option ℕ) → b ≡ true
    → offer_from end edition b o ≡ (end, Older)
unfolding offer_from
older end edition true o e = refl
older end edition false o e = absurd (true≢false (sym e))

adopts : (end : EndData) (edition : EditionData) (b : Bool) (o : Option ℕ) → b ≡ false → o ≡ None
    → offer_from end edition b o ≡ (with_known end edition, Adopted)
unfolding offer_from
adopts end edition true o e none = absurd (true≢false e)
adopts end edition false (Some id) e none = absurd cc
adopts end edition false None e none = refl

-- it is older where its number isn't above that of the known one
pub offer_step-older : (end : EndData) (edition : EditionData) → edition.number ≤ end.known.number
    → offer_step end edition ≡ (end, Older)
unfolding offer_step
offer_step-older end edition below =
    older end edition (nat_le edition.number end.known.number)
    (diverged end.known.rules edition.rules)
    (le-leb edition.number end.known.number below)

-- else the end adopts it
pub offer_step-adopts : (end : EndData) (edition : EditionData)
    → diverged end.known.rules edition.rules ≡ None → end.known.number < edition.number
    → offer_step end edition ≡ (with_known end edition, Adopted)
unfolding offer_step
offer_step-adopts end edition agrees above =
    adopts end edition (nat_le edition.number end.known.number)
    (diverged end.known.rules edition.rules)
    (lt-leb edition.number end.known.number above) agrees
