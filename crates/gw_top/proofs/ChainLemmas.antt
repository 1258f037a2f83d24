-- What a publication does in a world.
use Rattle.std.proofs.Common.{◌≡◌, Result, Ok, Err, refl}
use Rattle.rule_model.specs.RawData.{RawEditionData}
use Rattle.rule_model.specs.declared.finding.Finding.{Finding}
use Rattle.editions.specs.Data.{EditionData}
use Rattle.publishing.specs.Published.{published}
use Rattle.event_data.specs.Events.{Publish}
use Rattle.two_ends.specs.World.{WorldData, step, publish_step, last_edition}
use Rattle.gw_top.specs.Run.{line_of, chain_with, published_line}

line-by : (w : WorldData) (made : Result EditionData Finding)
    → line_of (publish_step w made).1 ≡ published_line made
unfolding publish_step
line-by w (Ok edition) = refl
line-by w (Err finding) = refl

chain-by : (w : WorldData) (made : Result EditionData Finding)
    → (publish_step w made).0.chain ≡ chain_with w.chain made
unfolding publish_step
chain-by w (Ok edition) = refl
chain-by w (Err finding) = refl

-- the outcome is the chain's
pub publish_line : (w : WorldData) (raw : RawEditionData)
    → line_of (step w (Publish raw)).1 ≡ published_line (published (last_edition w.chain) raw)
unfolding step
publish_line w raw = line-by w (published (last_edition w.chain) raw)

-- after a publication the edition ends the chain, or the chain is as before where it has a finding
pub publish_chain : (w : WorldData) (raw : RawEditionData)
    → (step w (Publish raw)).0.chain ≡ chain_with w.chain (published (last_edition w.chain) raw)
unfolding step
publish_chain w raw = chain-by w (published (last_edition w.chain) raw)
