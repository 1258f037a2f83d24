use Rattle.std.proofs.Common.{◌+◌, ◌<◌, arith, ap, sym, subst, ◌∙◌, length}
use Rattle.std.proofs.lemmas.Result.{IfOk-weaker}
use Rattle.frag_wire.specs.Layouts.{written}
use Rattle.aoe_sender.specs.Tiles.{regular_count}
use Rattle.aoe_sender.specs.Steps.{regular, IsAoeSender}
use Rattle.aoe_sender.proofs.MessageLemmas.{within, has-number, regular-spelt, regular-written}
use Rattle.aoe_sender.proofs.MessageLemmas.{regular-room}
use Rattle.aoe_sender.proofs.sender.AoeSender.regular.Goals as goal
use Rattle.aoe_sender.proofs.sender.AoeSender.regular.Goals.{After-tile_number-number}

-- the tiles are among those of the four windows
tiles-below : (c : After-tile_number-number) → c.args.first + c.args.more < 252
tiles-below c =
    (within c.args.self.now c.args.first c.args.more
    (subst IsAoeSender c.self.view_is c.self.invariant) c.requires).number

pub tile_number-number-requires : goal.tile_number-number-requires
tile_number-number-requires c =
    has-number _ c.args.first c.args.more c.self.invariant
    (within _ c.args.first c.args.more c.self.invariant
    (subst (λ s. c.args.first + c.args.more < regular_count s) (sym c.self.view_is) c.requires))

pub overflow_add-more : goal.overflow_add-more
overflow_add-more c =
    omega (arith, tiles-below (goal.at.overflow_add-more c).After-tile_number-number)

pub tiles_from-requires-clause-first : goal.tiles_from-requires-clause-first
tiles_from-requires-clause-first c =
    omega (arith, tiles-below (goal.at.tiles_from-requires-clause-first c).After-tile_number-number)

pub tiles_from-requires-clause-count : goal.tiles_from-requires-clause-count
tiles_from-requires-clause-count c =
    omega (arith, tiles-below (goal.at.tiles_from-requires-clause-count c).After-tile_number-number)

pub write-requires-clause-spelt : goal.write-requires-clause-spelt
write-requires-clause-spelt c =
    regular-spelt _ c.args.first c.args.more c.tile_number-number.result c.in_ok-payload.payload
    c.self.invariant
    (within _ c.args.first c.args.more c.self.invariant
    (subst (λ s. c.args.first + c.args.more < regular_count s) (sym c.self.view_is) c.requires))
    c.tile_number-number.ensures c.in_ok-payload.ensures.part

pub returns-clause-exact : goal.returns-clause-exact
returns-clause-exact c =
    let e =
    regular-written _ c.args.first c.args.more c.tile_number-number.result c.in_ok-payload.payload
    c.self.invariant c.tile_number-number.ensures c.in_ok-payload.ensures.part
    ∙ ap (λ s. written s.params (regular s c.args.first c.args.more).0
    (regular s c.args.first c.args.more).1) c.self.view_is
    in
    IfOk-weaker c.write.result _ _ (λ bytes is. is ∙ e) c.write.ensures.exact

pub returns-clause-room : goal.returns-clause-room
returns-clause-room c =
    let e = regular-room _ c.args.first c.args.more c.tile_number-number.result
    c.in_ok-payload.payload c.self.invariant c.in_ok-payload.ensures.part in
    IfOk-weaker c.write.result _ _ (λ bytes is. omega (arith, ap length is, e))
    c.write.ensures.exact
