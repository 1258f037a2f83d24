use Rattle.std.proofs.Common.{ap, sym, ◌∙◌}
use Rattle.schc_bits.specs.Bits.{octets}
use Rattle.frag_wire.specs.Layouts.{payload_in}
use Rattle.sessions.specs.Data.{in_key}
use Rattle.sessions.specs.Keys.{found}
use Rattle.sessions.specs.Steps.{fragment_taken}
use Rattle.sessions.proofs.CallLemmas.{receive_answering, receive_silent}
use Rattle.sessions.proofs.table.Sessions.receive.Goals as goal

pub returns-then-acked : goal.returns-then-acked
returns-then-acked c =
    let s = c.self.inside in
    let m = c.args.message.now in
    let payload = payload_in m (octets c.args.bytes.now) in
    let v = c.self.view_is in
    let took = c.take_message in
    record {
      step = ap
          (λ x. fragment_taken x (in_key x.role c.args.acked) m payload
          (found (in_key x.role c.args.acked) x.receivers)) (sym v)
          ∙ receive_answering s.role s.params s.running s.answering s.silent took.new.receiver
          s.next s.clocks took.new.clocks m payload took.result c.args.acked c.if-acked.true
          took.ensures.exact took.ensures.others;
      role = ap (λ x. x.role) v;
      params = ap (λ x. x.params) v;
    }

pub returns-else-acked : goal.returns-else-acked
returns-else-acked c =
    let s = c.self.inside in
    let m = c.args.message.now in
    let payload = payload_in m (octets c.args.bytes.now) in
    let v = c.self.view_is in
    let took = c.take_message-else-acked in
    record {
      step = ap
          (λ x. fragment_taken x (in_key x.role c.args.acked) m payload
          (found (in_key x.role c.args.acked) x.receivers)) (sym v)
          ∙ receive_silent s.role s.params s.running s.answering s.silent took.new.receiver s.next
          s.clocks took.new.clocks m payload took.result c.args.acked c.if-acked.false
          took.ensures.exact took.ensures.others;
      role = ap (λ x. x.role) v;
      params = ap (λ x. x.params) v;
    }
