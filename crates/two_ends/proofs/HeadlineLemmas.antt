-- The headline, by the laws of lanes.
use Rattle.std.proofs.Common.{ℕ, List, take}
use Rattle.std.specs.List.{AllByRecursion}
use Rattle.schc_ids.specs.Params.{IsParams}
use Rattle.schc_ids.specs.declared.ends.EndParams.{EndParams}
use Rattle.schc_bits.proofs.ListLemmas.{all-take}
use Rattle.event_data.specs.Events.{Event, HandsBytes}
use Rattle.lanes.proofs.CheckedLemmas.{joins-padded}
use Rattle.lanes.proofs.EarnedLemmas.{arrived}
use Rattle.two_ends.specs.History.{start, run}
use Rattle.two_ends.specs.Safe.{IsHeadline, Headline, AlwaysSafe}
use Rattle.two_ends.proofs.KeepsLemmas.{headline-of, headline-run, always-of}

-- it holds after every list of events that fit
pub headline : Headline
headline = headline-run joins-padded arrived

-- and after each of any events that fit
pub always-safe : (params : EndParams) (events : List Event) → AlwaysSafe params events
always-safe = always-of joins-padded arrived

-- and after each of any events that hand down bytes, where the parameters are within their limits
pub headline-of-bytes : (params : EndParams) (events : List Event) → IsParams params
    → AllByRecursion HandsBytes events → (n : ℕ)
    → IsHeadline params (take n events) (run (take n events) (start params))
headline-of-bytes params events range bytes n =
    headline-of joins-padded arrived params (take n events) range
    (all-take HandsBytes n events bytes)
