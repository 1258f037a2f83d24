-- In every world that events lead to, the line of an event tells what the logs gain by it.
use Rattle.schc_ids.specs.declared.ends.EndParams.{EndParams}
use Rattle.event_data.specs.Events.{Event}
use Rattle.two_ends.specs.History.{History, start, run}
use Rattle.two_ends.specs.Told.{IsTold, LogsTell}
use Rattle.two_ends.specs.World.{end_of}
use Rattle.two_ends.proofs.GivenLemmas.{given-is}
use Rattle.two_ends.proofs.NumberLemmas.{Numbered, run-numbered}
use Rattle.two_ends.proofs.ToldLemmas.{downs-told, ups-told, begins-told}
use Rattle.two_ends.proofs.ToldReports.{reports-told}

told-step : (params : EndParams) (h : History) (event : Event) → Numbered params h
    → IsTold h event
told-step params h event k =
    let ups = ups-told h event k.world.frames in
    let begins =
    begins-told params h event
    (λ role. given-is role params (end_of h.world role) (k.world.ends role).sessions) in
    let reports = reports-told params h event k in
    record {
      downs = downs-told h event;
      new_ups = ups.added;
      ups = ups.are;
      ups_told = ups.their_lines;
      new_begins = begins.added;
      begins = begins.are;
      begins_told = begins.their_lines;
      new_reports = reports.added;
      reports = reports.are;
      reports_told = reports.their_lines;
    }

-- so it is for each event
pub run-told : LogsTell
run-told params events fits event =
    told-step params (run events (start params)) event (run-numbered params events fits)
