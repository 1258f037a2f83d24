use Rattle.std.proofs.Common.{◌≡◌, ◌∙◌, ap, replicate, refl, arith, vec_len}
use Rattle.aoe_receiver.proofs.KeepingLemmas.{store-none, view-none}
use Rattle.aoe_receiver.proofs.store.TileStore.clear.Goals as goal

pub invariant_of-self : goal.invariant_of-self
invariant_of-self c =
    let all : vec_len c.self.inside.sizes ≡ 252 =
    omega (arith, c.self.inside.sizes.ok, c.self.invariant.all_places) in
    store-none _ _ _ c.self.invariant.all_bytes
    (c.fill.ensures.items (λ y e. e) ∙ ap (λ n. replicate n 0) all) refl

pub returns : goal.returns
returns c =
    let all : vec_len c.self.inside.sizes ≡ 252 =
    omega (arith, c.self.inside.sizes.ok, c.self.invariant.all_places) in
    view-none _ _ (c.fill.ensures.items (λ y e. e) ∙ ap (λ n. replicate n 0) all)
