use Rattle.std.proofs.Common.{get_or}
use Rattle.std.proofs.lemmas.List.Elements.{Contains-get_or}
use Rattle.packer.proofs.choosing.first_candidate.Goals as goal

pub candidate_under-candidate-requires : goal.candidate_under-candidate-requires
candidate_under-candidate-requires c =
    λ listed found. c.requires (get_or c.args.ids.now c.loop-id.id-index 0) listed
    (Contains-get_or c.args.ids.now c.loop-id.id-index 0 c.loop-id-test.true) found
