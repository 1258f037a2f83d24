-- What an end answers to an edition of the chain that it is offered.
use Rattle.std.specs.Prelude.{◌≡◌, ◌≢◌, ℕ, ◌<◌, List, Some, Ok, slice_get}
use Rattle.schc_ids.specs.declared.ends.EndParams.{EndParams}
use Rattle.schc_ids.specs.declared.ends.Role.{Role}
use Rattle.editions.specs.Data.{EditionData}
use Rattle.event_data.specs.Events.{Event, Offer}
use Rattle.event_data.specs.declared.outcomes.Line.TheVariants as line
use Rattle.event_data.specs.declared.outcomes.Offered.TheVariants.{Adopted, Diverged}
use Rattle.end_core.specs.End.{with_known}
use Rattle.two_ends.specs.World.{WorldData, end_of, with_end, step}
use Rattle.two_ends.specs.Fits.{Fits}
use Rattle.two_ends.specs.History.{start, run}
use Rattle.two_ends.specs.Clean.{outcome}

-- An end adopts the edition of the chain with this number where it is above that of the edition
-- that it knows. The answer is never that the edition diverges: the editions of the one chain
-- follow one another.
pub record IsOfferedInChain (w : WorldData) (role : Role) (number : ℕ) : Type 0 where
  pub adopts :
      (edition : EditionData) → slice_get w.chain number ≡ Some edition
      → (end_of w role).known.number < number →
      step w (Offer role number) ≡ (
        with_end w role (with_known (end_of w role) edition),
        Ok
            (line.Offer Adopted),
      )
  pub never_diverges : (id : ℕ) → outcome w (Offer role number) ≢ Ok (line.Offer (Diverged id))

-- so it is in every world that events lead to
abbrev pub Offers : Type 0
Offers =
    (params : EndParams) (events : List Event) → Fits params events →
    (role : Role) (number : ℕ) → IsOfferedInChain (run events (start params)).world role number
