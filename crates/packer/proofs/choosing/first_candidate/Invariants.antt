use Rattle.std.proofs.Common.{◌≡◌, drop}
use Rattle.packer.specs.Packing.{candidate_under, smaller, smallest_of}
use Rattle.packer.proofs.choosing.first_candidate.Given as goal

abbrev pub invariant-loop-id : goal.invariant-loop-id
invariant-loop-id l =
    smaller l.best
    (smallest_of (candidate_under l.edition.rules l.iids l.direction l.packet)
    (drop l.id-index l.ids))
    ≡ smallest_of (candidate_under l.edition.rules l.iids l.direction l.packet) l.ids
