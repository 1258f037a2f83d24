use Rattle.std.proofs.Common.{◌∙◌, ap, not, sym, arith}
use Rattle.schc_bits.specs.Bits.{octets}
use Rattle.aoe_receiver.proofs.StoreLemmas.{keep-held, length-places}
use Rattle.aoe_receiver.proofs.KeepingLemmas.{sized-true, sized-false, held-place, open-place, Puts}
use Rattle.aoe_receiver.proofs.KeepingLemmas.{room-put, store-put, tiles-put, last-put}
use Rattle.aoe_receiver.proofs.store.TileStore.put.Goals as goal
use Rattle.aoe_receiver.proofs.store.TileStore.put.Goals.{After-write_at}

-- the tile is written at a place that is free
puts-tile : (c : After-write_at)
    → Puts c.self.inside.sizes.items c.self.inside.buffer.items c.args.tile.now c.args.place
    c.index.result.now
puts-tile c =
    record {
      there = c.requires.place;
      read = c.index.ensures;
      free = sized-false _ _ c.is_held.ensures c.if-is_held.false;
      some = c.requires.some;
      most = c.requires.most;
    }

pub returns-then-is_held-clause-tiles : goal.returns-then-is_held-clause-tiles
returns-then-is_held-clause-tiles c =
    rw (← c.self.view_is)
    (sym (keep-held c.args.place (octets c.args.tile.now) _
    (held-place c.self.inside.sizes.items c.self.inside.buffer.items c.args.place
    c.index.result.now (omega (arith, c.requires.place, c.self.invariant.all_places))
    c.index.ensures (sized-true _ _ c.is_held.ensures c.if-is_held.true))))

pub returns-then-is_held-clause-kept : goal.returns-then-is_held-clause-kept
returns-then-is_held-clause-kept c =
    rw (← c.self.view_is)
    (sym (ap not
    (held-place c.self.inside.sizes.items c.self.inside.buffer.items c.args.place
    c.index.result.now (omega (arith, c.requires.place, c.self.invariant.all_places))
    c.index.ensures (sized-true _ _ c.is_held.ensures c.if-is_held.true))))

pub overflow_add-self : goal.overflow_add-self
overflow_add-self c =
    let p = puts-tile (goal.at.overflow_add-self c).After-write_at in
    omega (arith, room-put _ _ c.self.inside.marks _ _ c.args.place _ c.self.invariant p)

pub invariant_of-self : goal.invariant_of-self
invariant_of-self c =
    let p = puts-tile (goal.at.invariant_of-self c).After-write_at in
    store-put _ _ _ _ _ _ c.args.place _ c.self.invariant p c.write_at.ensures

pub returns-clause-tiles : goal.returns-clause-tiles
returns-clause-tiles c =
    let p = puts-tile (goal.at.returns-clause-tiles c).After-write_at in
    rw (← c.self.view_is)
    (tiles-put _ _ _ _ _ _ c.args.place _ c.self.invariant p c.write_at.ensures)

pub returns-clause-last : goal.returns-clause-last
returns-clause-last c =
    let p = puts-tile (goal.at.returns-clause-last c).After-write_at in
    rw (← c.self.view_is)
    (last-put _ _ _ _ _ _ c.args.place _ c.self.invariant p c.write_at.ensures)

pub returns-clause-kept : goal.returns-clause-kept
returns-clause-kept c =
    rw (← c.self.view_is)
    (sym (ap not
    (open-place c.self.inside.sizes.items c.self.inside.buffer.items c.args.place
    c.index.result.now (omega (arith, c.requires.place, c.self.invariant.all_places))
    c.index.ensures (sized-false _ _ c.is_held.ensures c.if-is_held.false))))

pub returns-then-is_held-clause-all : goal.returns-then-is_held-clause-all
returns-then-is_held-clause-all c =
    rw (← c.self.view_is)
    (length-places c.self.inside.sizes.items c.self.inside.buffer.items
    ∙ c.self.invariant.all_places)

pub returns-clause-all : goal.returns-clause-all
returns-clause-all c =
    rw (← c.self.view_is)
    (length-places c.self.inside.sizes.items c.self.inside.buffer.items
    ∙ c.self.invariant.all_places)
