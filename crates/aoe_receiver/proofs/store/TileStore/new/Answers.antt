use Rattle.std.proofs.Common.{ℕ, ◌∙◌, ap, length, refl}
use Rattle.std.proofs.lemmas.List.{length-replicate}
use Rattle.aoe_receiver.proofs.KeepingLemmas.{store-none, view-none}
use Rattle.aoe_receiver.proofs.store.TileStore.new.Goals as goal

pub invariant_of-result : goal.invariant_of-result
invariant_of-result c =
    store-none _ _ _
    (ap length (c.in_ok-vec.ensures.items_if_clones_equal (λ y e. e))
    ∙ length-replicate {A = ℕ} 2530 0) (c.in_ok-vec-2.ensures.items_if_clones_equal (λ y e. e))
    refl

pub returns : goal.returns
returns c = view-none _ _ (c.in_ok-vec-2.ensures.items_if_clones_equal (λ y e. e))
