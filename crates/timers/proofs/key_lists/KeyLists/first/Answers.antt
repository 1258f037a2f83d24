use Rattle.std.proofs.Common.{arith, sym, subst, ap, ◌∙◌, ℕ, ◌≡◌, ◌≢◌, ◌+◌, ◌-◌, ◌<◌, length}
use Rattle.std.proofs.Common.{get_or}
use Rattle.std.proofs.lemmas.List.{get_or_read}
use Rattle.timers.proofs.RingLemmas.{none-linked, key-linked, place-linked}
use Rattle.timers.proofs.key_lists.KeyLists.first.Goals as goal

pub returns-then-node-place-clause-none : goal.returns-then-node-place-clause-none
returns-then-node-place-clause-none c =
    let s = c.self.inside in
    let inv = c.self.invariant in
    let behind =
    get_or_read s.next.items c.args.place _
    (omega (arith, inv.next_len, inv.heads_inside, c.requires)) c.index-node.ensures 0 in
    subst (λ places. (key : ℕ) → 128 + key < length places
    → get_or places (128 + key) 0 ≢ c.args.place) c.self.view_is
    (λ key inside. none-linked s.places.items s.next.items s.previous.items inv c.args.place
    c.requires (sym behind ∙ c.if-node-place.true) (128 + key) inside (omega arith))

pub returns-else-node-place-clause-some : goal.returns-else-node-place-clause-some
returns-else-node-place-clause-some c =
    let s = c.self.inside in
    let inv = c.self.invariant in
    let node = c.index-node.result.now in
    let behind =
    get_or_read s.next.items c.args.place _
    (omega (arith, inv.next_len, inv.heads_inside, c.requires)) c.index-node.ensures 0 in
    let key =
    key-linked s.places.items s.next.items s.previous.items inv c.args.place c.requires
    (λ e. c.if-node-place.false (behind ∙ e)) in
    let same : 128 + (node - 128) ≡ get_or s.next.items c.args.place 0 =
    omega (arith, behind, key) in
    subst (λ places. get_or places (128 + (node - 128)) 0 ≡ c.args.place) c.self.view_is
    (ap (λ x. get_or s.places.items x 0) same
    ∙ place-linked s.places.items s.next.items s.previous.items inv c.args.place c.requires)
