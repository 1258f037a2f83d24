use Rattle.std.proofs.Common.{refl, ap, sym, ◌∙◌, ◌≡◌, subst, true}
use Rattle.lorawan_profile.specs.Ports.{sending_of}
use Rattle.sessions.specs.Data.{out_key}
use Rattle.sessions.specs.Keys.{found}
use Rattle.sessions.specs.Steps.{answer_taken}
use Rattle.sessions.proofs.CallLemmas.{hear-unanswered, hear-none, hear-some}
use Rattle.sessions.proofs.HearLemmas.{has-answer}
use Rattle.sessions.proofs.table.Sessions.hear.Goals as goal

pub returns-then-not-self : goal.returns-then-not-self
returns-then-not-self c =
    let s = c.self.inside in
    let m = c.args.message.now in
    let v = c.self.view_is in
    record {
      step = subst
          (λ x. answer_taken x (out_key x.role true) m
          (found (out_key x.role true) x.senders) ≡ (x, _)) v
          (hear-unanswered s.role s.params s.running s.answering s.silent s.next s.clocks m
          c.if-not-self.true);
      role = refl;
      params = refl;
    }

pub returns-in_default : goal.returns-in_default
returns-in_default c =
    let s = c.self.inside in
    let m = c.args.message.now in
    let v = c.self.view_is in
    record {
      step = ap
          (λ x. answer_taken x (out_key x.role true) m (found (out_key x.role true) x.senders))
          (sym v) ∙ hear-none s.role s.params s.running s.answering s.silent s.next s.clocks m
          c.if-not-self.false c.in_default.is;
      role = ap (λ x. x.role) v;
      params = ap (λ x. x.params) v;
    }

pub hear_message-heard-requires-clause-answer : goal.hear_message-heard-requires-clause-answer
hear_message-heard-requires-clause-answer c =
    let s = c.self.inside in
    has-answer s.role s.params s.running c.in-Some.running s.clocks.sending c.args.message.now
    c.args.self.now.role c.if-not-self.false c.in-Some.is c.self.invariant.sends
    (ap (λ x. x.role) (sym c.self.view_is)) c.requires

pub returns : goal.returns
returns c =
    let s = c.self.inside in
    let m = c.args.message.now in
    let v = c.self.view_is in
    record {
      step = ap
          (λ x. answer_taken x (out_key x.role true) m (found (out_key x.role true) x.senders))
          (sym v) ∙ hear-some s.role s.params s.running c.in-Some.running
          c.hear_message-heard.new.running s.answering s.silent s.next s.clocks
          c.hear_message-heard.new.clocks m c.hear_message-heard.result c.heard_note.result
          c.heard_report.result c.if-not-self.false c.in-Some.is c.hear_message-heard.ensures.exact
          c.hear_message-heard.ensures.others c.heard_note.ensures c.heard_report.ensures;
      role = ap (λ x. x.role) v;
      params = ap (λ x. x.params) v;
    }
