-- Every event keeps that the editions are one chain of sound editions.
use Rattle.std.proofs.Common.{◌≡◌, ℕ, suc, ◌-◌, List, [], ◌∷◌, ◌++◌, length, Option, Some, None}
use Rattle.std.proofs.Common.{unwrap_or, Result, Ok, Err, slice_get, refl, sym, ap, subst, ◌∙◌}
use Rattle.std.proofs.Common.{arith}
use Rattle.std.specs.List.{AllByRecursion}
use Rattle.schc_bits.proofs.ListLemmas.{all-push}
use Rattle.schc_ids.specs.declared.ends.Role.{Role}
use Rattle.schc_ids.specs.declared.ends.Role.TheVariants.{Device, Gateway}
use Rattle.schc_ids.specs.declared.ends.Direction.{Direction}
use Rattle.schc_ids.specs.declared.ends.EndParams.{EndParams}
use Rattle.rule_model.specs.declared.finding.Finding.{Finding}
use Rattle.rule_model.specs.RawData.{RawEditionData}
use Rattle.editions.specs.Data.{EditionData, first_edition}
use Rattle.editions.specs.Chains.{IsChain}
use Rattle.publishing.specs.Published.{published}
use Rattle.publishing.proofs.PublishedLemmas.{IsChain-published, IsAdmitted-from_published}
use Rattle.publishing.proofs.PublishedLemmas.{IsAscending-from_published}
use Rattle.packer.specs.Laws.{IsSound}
use Rattle.event_data.specs.Records.{FrameData}
use Rattle.event_data.specs.Events.{Event, Down, Slot, Deliver, Tick, Abort, Publish, Offer, Allow}
use Rattle.event_data.specs.declared.events.Target.{Target}
use Rattle.event_data.specs.declared.events.Target.TheVariants as target
use Rattle.end_core.specs.Events as at_end
use Rattle.end_core.specs.EndStep.{end_step}
use Rattle.two_ends.specs.World.{WorldData, beginning, end_of, taker, frames_of, last_edition}
use Rattle.two_ends.specs.World.{numbered, end_event, deliver_step, tick_step, publish_step}
use Rattle.two_ends.specs.World.{offer_step, step}
use Rattle.two_ends.proofs.GrownLemmas.{answered-chain}

-- one chain, each edition with admitted rules in ascending order
pub record ChainKept (chain : List EditionData) : Type 0 where
  pub is_chain : IsChain chain
  pub sound : AllByRecursion IsSound chain

last-later : (edition next : EditionData) (later : List EditionData)
    → last_edition (edition ∷ next ∷ later) ≡ last_edition (next ∷ later)
last-later edition next later =
    let k : length (edition ∷ next ∷ later) - 1 ≡ suc (length (next ∷ later) - 1) = omega arith in
    ap (λ n. unwrap_or (slice_get (edition ∷ next ∷ later) n) first_edition) k

-- a list of editions ends with its last one
ends-with_last : (edition : EditionData) (later : List EditionData) → (earlier : List EditionData)
    × (edition ∷ later ≡ earlier ++ last_edition (edition ∷ later) ∷ [])
ends-with_last edition [] = ([], refl)
ends-with_last edition (next ∷ later) =
    let rest = ends-with_last next later in (
      edition ∷ rest.0,
      ap (λ es. edition ∷ es)
          (rest.1 ∙ ap (λ e. rest.0 ++ e ∷ []) (sym (last-later edition next later))),
    )

-- what is published makes a chain longer
chain-longer : (chain : List EditionData) (raw : RawEditionData) (new : EditionData) → IsChain chain
    → published (last_edition chain) raw ≡ Ok new → IsChain (chain ++ new ∷ [])
chain-longer [] raw new is e = absurd is
chain-longer (edition ∷ later) raw new is e =
    let parts = ends-with_last edition later in
    subst (λ chain. IsChain (chain ++ new ∷ [])) (sym parts.1)
    (IsChain-published parts.0 (last_edition (edition ∷ later)) raw new (subst IsChain parts.1 is)
    e)

publish-keeps : (w : WorldData) (raw : RawEditionData) (r : Result EditionData Finding)
    → published (last_edition w.chain) raw ≡ r → ChainKept w.chain
    → ChainKept (publish_step w r).0.chain
unfolding publish_step
publish-keeps w raw (Err finding) e k = k
publish-keeps w raw (Ok new) e k =
    record {
      is_chain = chain-longer w.chain raw new k.is_chain e;
      sound = all-push IsSound w.chain new k.sound
          (record {
            admitted =
                IsAdmitted-from_published (last_edition w.chain) raw new e;
            ascending =
                IsAscending-from_published (last_edition w.chain) raw new e;
          });
    }

end_event-keeps : (w : WorldData) (role : Role) (event : at_end.EndEvent) → ChainKept w.chain
    → ChainKept (end_event w role event).0.chain
unfolding end_event
end_event-keeps w role event k =
    let s = end_step (end_of w role) event in
    subst ChainKept (sym (answered-chain w role s.0 s.1)) k

deliver-keeps : (w : WorldData) (direction : Direction) (number : ℕ) (o : Option FrameData)
    → ChainKept w.chain → ChainKept (deliver_step w direction number o).0.chain
unfolding deliver_step
deliver-keeps w direction number None k = k
deliver-keeps w direction number (Some frame) k =
    end_event-keeps w (taker direction) (at_end.Take frame) k

tick-keeps : (w : WorldData) (target : Target) → ChainKept w.chain
    → ChainKept (tick_step w target).0.chain
unfolding tick_step
tick-keeps w target.Device k = end_event-keeps w Device at_end.Tick k
tick-keeps w target.Gateway k = end_event-keeps w Gateway at_end.Tick k
tick-keeps w target.Both k = k

offer-keeps : (w : WorldData) (role : Role) (number : ℕ) (o : Option EditionData)
    → ChainKept w.chain → ChainKept (offer_step w role number o).0.chain
unfolding offer_step
offer-keeps w role number None k = k
offer-keeps w role number (Some edition) k = end_event-keeps w role (at_end.Offer edition) k

-- it holds at the beginning
pub chain-start : (params : EndParams) → ChainKept (beginning params).chain
chain-start params =
    record {
      is_chain = (refl, tt);
      sound = (
        record {
          admitted = λ k d within. absurd (omega arith);
          ascending =
              λ i j d below within. absurd (omega arith);
        },
        tt,
      );
    }

-- every event keeps it
pub chain-step : (w : WorldData) (event : Event) → ChainKept w.chain
    → ChainKept (step w event).0.chain
unfolding step
chain-step w (Down role packet) k = end_event-keeps w role (at_end.Down packet) k
chain-step w (Slot role) k = end_event-keeps w role at_end.Slot k
chain-step w (Deliver direction number) k =
    deliver-keeps w direction number (numbered (frames_of w direction) number) k
chain-step w (Tick target) k = tick-keeps w target k
chain-step w (Abort role) k = end_event-keeps w role at_end.Abort k
chain-step w (Publish raw) k = publish-keeps w raw (published (last_edition w.chain) raw) refl k
chain-step w (Offer role number) k = offer-keeps w role number (slice_get w.chain number) k
chain-step w (Allow role number) k = end_event-keeps w role (at_end.Allow number) k
