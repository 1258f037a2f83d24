-- Editions of the one chain don't diverge, so that an end adopts each that is newer than the one
-- that it knows.
use Rattle.std.proofs.Common.{◌≡◌, ℕ, ◌<◌, List, Option, Some, None, Result, Ok, Err, slice_get}
use Rattle.std.proofs.Common.{inl, inr, refl, ap, ◌∙◌, arith}
use Rattle.std.proofs.lemmas.Bool.{cases_lt}
use Rattle.schc_bits.proofs.ListLemmas.{all-at_place}
use Rattle.schc_ids.specs.declared.ends.EndParams.{EndParams}
use Rattle.schc_ids.specs.declared.ends.Role.{Role}
use Rattle.editions.specs.Data.{EditionData}
use Rattle.editions.proofs.ChainLemmas.{number-of-place}
use Rattle.editions.proofs.InChainLemmas.{diverged-later}
use Rattle.packer.specs.Laws.{IsSound}
use Rattle.event_data.specs.Events.{Event, Offer}
use Rattle.event_data.specs.declared.outcomes.Line.{Line}
use Rattle.event_data.specs.declared.outcomes.Line.TheVariants as line
use Rattle.event_data.specs.declared.outcomes.Offered.{Offered}
use Rattle.event_data.specs.declared.outcomes.Offered.TheVariants.{Adopted, Older, Diverged}
use Rattle.event_data.specs.declared.outcomes.StepFault.{StepFault}
use Rattle.event_data.specs.declared.outcomes.StepFault.TheVariants.{NoSuchEdition}
use Rattle.end_core.specs.Data.{EndData}
use Rattle.end_core.specs.End as at_end
use Rattle.end_core.specs.End.{with_known}
use Rattle.end_core.specs.Events.{Answered}
use Rattle.end_core.specs.EndStep.{end_step}
use Rattle.end_core.proofs.OfferLemmas.{offer_step-adopts, offer_step-older}
use Rattle.two_ends.specs.World.{WorldData, end_of, with_end, answered, end_event, offer_step, step}
use Rattle.two_ends.specs.Fits.{Fits}
use Rattle.two_ends.specs.History.{start, run}
use Rattle.two_ends.specs.Clean.{outcome}
use Rattle.two_ends.specs.Offers.{IsOfferedInChain}
use Rattle.two_ends.proofs.ChainKept.{ChainKept}
use Rattle.two_ends.proofs.EndsKept.{EndsKept}
use Rattle.two_ends.proofs.KeepsLemmas.{Keeps, run-start-keeps, bytes-of-fits}

-- what the world says of an edition of the chain is what the end answers
offered : (w : WorldData) (role : Role) (number : ℕ) (edition : EditionData) (s : EndData × Offered)
    → slice_get w.chain number ≡ Some edition → at_end.offer_step (end_of w role) edition ≡ s
    → step w (Offer role number) ≡ (with_end w role s.0, Ok (line.Offer s.1))
unfolding step offer_step end_event answered end_step
offered w role number edition s there e =
    ap (λ (o : Option EditionData). offer_step w role number o) there
    ∙ ap (λ (t : EndData × Offered). answered w role t.0 (Answered t.1)) e

-- an edition of the chain at a higher place has a higher number, and doesn't diverge
adopted : (params : EndParams) (w : WorldData) (role : Role) (number : ℕ) (edition : EditionData)
    → ChainKept w.chain → EndsKept params w → slice_get w.chain number ≡ Some edition
    → (end_of w role).known.number < number →
    step w (Offer role number) ≡ (
      with_end w role (with_known (end_of w role) edition),
      Ok
          (line.Offer Adopted),
    )
adopted params w role number edition chain ends there above =
    let this = end_of w role in
    let known : slice_get w.chain this.known.number ≡ Some this.known = (ends role).knows in
    let sound : IsSound this.known =
    all-at_place IsSound w.chain this.known.number this.known chain.sound known in
    let place : edition.number ≡ number =
    number-of-place w.chain chain.is_chain number edition there in
    offered w role number edition (with_known this edition, Adopted) there
    (offer_step-adopts this edition
    (diverged-later w.chain chain.is_chain this.known.number number this.known edition
    (omega (arith, above)) known there sound.ascending)
    (omega (arith, above, place)))

-- so no answer is that it diverges
not-diverged : (params : EndParams) (w : WorldData) (role : Role) (number id : ℕ)
    (o : Option EditionData) → ChainKept w.chain → EndsKept params w → slice_get w.chain number ≡ o
    → outcome w (Offer role number) ≡ Ok (line.Offer (Diverged id)) → ⊥
unfolding step offer_step
not-diverged params w role number id None chain ends there e =
    let none : outcome w (Offer role number) ≡ Err (NoSuchEdition number) =
    ap (λ (o : Option EditionData). (offer_step w role number o).1) there in
    absurd cc
not-diverged params w role number id (Some edition) chain ends there e =
    let this = end_of w role in
    elim (cases_lt this.known.number number) [
      | inl above ↦
          let said : outcome w (Offer role number) ≡ Ok (line.Offer Adopted) =
          ap (λ (s : WorldData × Result Line StepFault). s.1)
          (adopted params w role number edition chain ends there above) in
          absurd cc
      | inr below ↦
          let place : edition.number ≡ number =
          number-of-place w.chain chain.is_chain number edition there in
          let said : outcome w (Offer role number) ≡ Ok (line.Offer Older) =
          ap (λ (s : WorldData × Result Line StepFault). s.1)
          (offered w role number edition (this, Older) there
          (offer_step-older this edition (omega (arith, below, place)))) in
          absurd cc
    ]

-- so it is after every list of events
pub run-offers : (params : EndParams) (events : List Event) (role : Role) (number : ℕ)
    → Fits params events → IsOfferedInChain (run events (start params)).world role number
run-offers params events role number fits =
    let k : Keeps params (run events (start params)) =
    run-start-keeps params events fits.within.0 (bytes-of-fits params events fits) in
    let w = (run events (start params)).world in
    record {
      adopts =
          λ edition there above. adopted params w role number edition k.world.chain k.world.ends
          there above;
      never_diverges =
          λ id. not-diverged params w role number id (slice_get w.chain number) k.world.chain
          k.world.ends refl;
    }
