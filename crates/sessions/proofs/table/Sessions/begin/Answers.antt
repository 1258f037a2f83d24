use Rattle.std.proofs.Common.{ap, sym, ◌∙◌, subst, ◌≤◌, length, true, false}
use Rattle.sessions.specs.Steps.{begin_step, next_number}
use Rattle.sessions.specs.Holds.{IsReceiving}
use Rattle.sessions.proofs.NextLemmas.{some-of}
use Rattle.sessions.proofs.BeginLemmas.{begin-none, none-left, IsBegun, begun-mtu-is, begun-bits-is}
use Rattle.sessions.proofs.BeginLemmas.{begun-runs, has-message, begin-is, keeps-bits, number-is}
use Rattle.sessions.proofs.table.Sessions.begin.Goals as goal

pub returns-in-Err-clause-back : goal.returns-in-Err-clause-back
returns-in-Err-clause-back c =
    let s = c.self.inside in
    let begun : IsBegun s.role s.params c.sending-port.result c.args.bits c.in_ok-sender.sender =
    record { way_is = c.sending-port.ensures.exact; begun = c.in_ok-sender.ensures.begun } in
    c.into_bits.ensures
    ∙ keeps-bits (record { number = s.next; sender = c.in_ok-sender.sender })
    c.give_message.new.running s.clocks.sending c.give_message.new.clocks.sending
    c.in-Err.ensures.unchanged
    ∙ begun-bits-is s.role s.params c.sending-port.result c.args.bits c.in_ok-sender.sender begun

pub invariant_of-self-in_default : goal.invariant_of-self-in_default
invariant_of-self-in_default c =
    let s = c.self.inside in
    let begun : IsBegun s.role s.params c.sending-port.result c.args.bits c.in_ok-sender.sender =
    record { way_is = c.sending-port.ensures.exact; begun = c.in_ok-sender.ensures.begun } in
    absurd (has-message s.role s.params c.sending-port.result c.args.bits c.in_ok-sender.sender _
    c.in-Ok.given begun c.in-Ok.ensures.given c.in_default.is)

pub returns-in_default-clause-back : goal.returns-in_default-clause-back
returns-in_default-clause-back c =
    let s = c.self.inside in
    let begun : IsBegun s.role s.params c.sending-port.result c.args.bits c.in_ok-sender.sender =
    record { way_is = c.sending-port.ensures.exact; begun = c.in_ok-sender.ensures.begun } in
    absurd (has-message s.role s.params c.sending-port.result c.args.bits c.in_ok-sender.sender _
    c.in-Ok.given begun c.in-Ok.ensures.given c.in_default.is)

pub returns-in_default-clause-unchanged : goal.returns-in_default-clause-unchanged
returns-in_default-clause-unchanged c =
    let s = c.self.inside in
    let begun : IsBegun s.role s.params c.sending-port.result c.args.bits c.in_ok-sender.sender =
    record { way_is = c.sending-port.ensures.exact; begun = c.in_ok-sender.ensures.begun } in
    absurd (has-message s.role s.params c.sending-port.result c.args.bits c.in_ok-sender.sender _
    c.in-Ok.given begun c.in-Ok.ensures.given c.in_default.is)

-- a session that has begun is one of this end, and each timer of the end runs where it should
pub invariant_of-self-2 : goal.invariant_of-self-2
invariant_of-self-2 c =
    let s = c.self.inside in
    let i = c.self.invariant in
    let begun : IsBegun s.role s.params c.sending-port.result c.args.bits c.in_ok-sender.sender =
    record { way_is = c.sending-port.ensures.exact; begun = c.in_ok-sender.ensures.begun } in
    let none =
    begin-none s.role s.params s.running s.answering s.silent s.next s.clocks c.args.self.now
    c.self.view_is c.requires.free in
    let left = none-left s.role s.params s.running s.clocks.sending none i.sends in
    record {
      in_range = i.in_range;
      sends = c.give_message.ensures.keeps s.role s.params
          (begun-runs s.role s.params c.sending-port.result c.args.bits s.next c.in_ok-sender.sender
          s.clocks.sending begun left);
      answers =
          subst (λ clocks. IsReceiving s.role true s.answering clocks.answering)
          (sym c.give_message.ensures.others) i.answers;
      listens =
          subst (λ clocks. IsReceiving s.role false s.silent clocks.silent)
          (sym c.give_message.ensures.others) i.listens;
    }

pub returns-clause-begun : goal.returns-clause-begun
returns-clause-begun c =
    let s = c.self.inside in
    let i = c.self.invariant in
    let begun : IsBegun s.role s.params c.sending-port.result c.args.bits c.in_ok-sender.sender =
    record { way_is = c.sending-port.ensures.exact; begun = c.in_ok-sender.ensures.begun } in
    let none =
    begin-none s.role s.params s.running s.answering s.silent s.next s.clocks c.args.self.now
    c.self.view_is c.requires.free in
    let left = none-left s.role s.params s.running s.clocks.sending none i.sends in
    ap (begin_step c.args.bits) (sym c.self.view_is)
    ∙ begin-is s.role s.params s.running s.answering s.silent s.next
    c.saturating_add-self-inside.result s.clocks c.give_message.new.clocks c.sending-port.result
    c.args.bits c.in_ok-sender.sender c.give_message.new.running c.in-Some.out none left begun
    (sym c.in-Some.is ∙ c.in-Ok.ensures.given) c.in-Ok.ensures.after c.give_message.ensures.others
    (number-is s.next c.saturating_add-self-inside.result c.saturating_add-self-inside.ensures)

pub returns-clause-room : goal.returns-clause-room
returns-clause-room c =
    let s = c.self.inside in
    let begun : IsBegun s.role s.params c.sending-port.result c.args.bits c.in_ok-sender.sender =
    record { way_is = c.sending-port.ensures.exact; begun = c.in_ok-sender.ensures.begun } in
    let room = some-of c.in-Ok.given _ c.in-Some.out c.in-Some.is c.in-Ok.ensures.room in
    subst (λ n. length c.in-Some.out.frame.bytes ≤ n)
    (begun-mtu-is s.role s.params c.sending-port.result c.args.bits c.in_ok-sender.sender begun
    ∙ ap (λ x. x.params.mtu) c.self.view_is) room
