use Rattle.std.proofs.Common.{ap, true, false}
use Rattle.sessions.proofs.StepLemmas.{new-is}
use Rattle.sessions.proofs.table.Sessions.new.Goals as goal

pub invariant_of-result : goal.invariant_of-result
invariant_of-result c =
    let none = c.in_ok-new-3.ensures in
    record {
      in_range = c.requires;
      sends = ap (λ clocks. clocks.sending) none;
      answers =
          new-is c.args.role c.other.result true c.sending.result c.in_ok-new.field-0
          c.in_ok-new-3.field-0.answering c.other.ensures c.sending.ensures.exact
          c.in_ok-new.ensures (ap (λ clocks. clocks.answering) none);
      listens =
          new-is c.args.role c.other-2.result false c.sending-2.result c.in_ok-new-2.field-0
          c.in_ok-new-3.field-0.silent c.other-2.ensures c.sending-2.ensures.exact
          c.in_ok-new-2.ensures (ap (λ clocks. clocks.silent) none);
    }
