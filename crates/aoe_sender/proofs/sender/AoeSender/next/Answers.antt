use Rattle.std.proofs.Common.{◌≡◌, ◌+◌, ap, sym, subst, ◌∙◌}
use Rattle.aoe_sender.specs.State.{AoeSenderData, Waiting}
use Rattle.aoe_sender.specs.Stages.{state_of}
use Rattle.aoe_sender.specs.Steps.{regular, all1, sent, IsAoeSender}
use Rattle.aoe_sender.proofs.KeepsLemmas.{sent-keeps}
use Rattle.aoe_sender.proofs.MessageLemmas.{IsRegularDue, regular-due-at, regular-in-frame}
use Rattle.aoe_sender.proofs.MessageLemmas.{IsAll1Due, all1-due, given-is}
use Rattle.aoe_sender.proofs.sender.AoeSender.next.Goals as goal
use Rattle.aoe_sender.proofs.sender.AoeSender.next.Goals.{In-Some, In_default}

-- the Regular with the run that is taken is due
due-regular : (c : In-Some)
    → IsRegularDue c.args.self.now c.in-Sending.attempts (c.in-Some.run', c.in-Some.rest)
due-regular c =
    let state = ap (λ stage. state_of c.self.inside.numbers stage) c.in-Sending.is in
    let due =
    regular-due-at _ c.from.result c.in-Sending.attempts c.self.inside.numbers
    (c.in-Some.run', c.in-Some.rest) c.self.invariant state c.from.ensures c.in-Some.ensures in
    subst (λ s. IsRegularDue s c.in-Sending.attempts (c.in-Some.run', c.in-Some.rest))
    c.self.view_is due

-- after it the sender has the numbers that are left
sent-regular : (c : In-Some)
    → sent c.args.self.now ≡ record {
      params = c.self.inside.params;
      mtu = c.self.inside.mtu;
      last = c.self.inside.last;
      bits = c.self.inside.bits;
      state = state_of c.in-Some.rest c.self.inside.stage;
    }
sent-regular c =
    (due-regular c).after
    ∙ ap (λ stage. record c.args.self.now { state = state_of c.in-Some.rest stage })
    (sym c.in-Sending.is)
    ∙ ap (λ (s : AoeSenderData). record s { state = state_of c.in-Some.rest c.self.inside.stage })
    (sym c.self.view_is)

-- where no run is left, the All-1 is due
due-all1 : (c : In_default) → IsAll1Due c.args.self.now c.in-Sending.attempts
due-all1 c =
    let state = ap (λ (s : AoeSenderData). s.state) (sym c.self.view_is)
    ∙ ap (λ stage. state_of c.self.inside.numbers stage) c.in-Sending.is in
    all1-due c.args.self.now _ c.in-Sending.attempts c.self.inside.numbers state
    c.in_default.ensures

pub regular-requires : goal.regular-requires
regular-requires c = (due-regular c).within

pub invariant_of-self : goal.invariant_of-self
invariant_of-self c =
    subst IsAoeSender (sent-regular (goal.at.invariant_of-self c).In-Some)
    (sent-keeps _ (subst IsAoeSender c.self.view_is c.self.invariant))

pub returns-in-Some-clause-given : goal.returns-in-Some-clause-given
returns-in-Some-clause-given c =
    given-is c.args.self.now (regular c.args.self.now c.in-Some.run'.first c.in-Some.run'.more)
    c.in_ok-bytes-in-Sending.bytes.items
    (due-regular (goal.at.returns-in-Some-clause-given c).In-Some).due
    c.in_ok-bytes-in-Sending.ensures.exact

pub returns-in-Some-clause-after : goal.returns-in-Some-clause-after
returns-in-Some-clause-after c =
    sym (sent-regular (goal.at.returns-in-Some-clause-after c).In-Some)

pub returns-in-Some-clause-room : goal.returns-in-Some-clause-room
returns-in-Some-clause-room c =
    regular-in-frame c.args.self.now c.in-Some.run'.more _
    (subst IsAoeSender c.self.view_is c.self.invariant)
    (due-regular (goal.at.returns-in-Some-clause-room c).In-Some).few
    c.in_ok-bytes-in-Sending.ensures.room

pub returns-in_ok-bytes-in-Sending-2-clause-given : goal.returns-in_ok-bytes-in-Sending-2-clause-given
returns-in_ok-bytes-in-Sending-2-clause-given c =
    given-is c.args.self.now (all1 c.args.self.now) c.in_ok-bytes-in-Sending-2.bytes.items
    (due-all1 (goal.at.returns-in_ok-bytes-in-Sending-2-clause-given c).In_default).due
    c.in_ok-bytes-in-Sending-2.ensures.exact

pub returns-in_ok-bytes-in-Sending-2-clause-after : goal.returns-in_ok-bytes-in-Sending-2-clause-after
returns-in_ok-bytes-in-Sending-2-clause-after c =
    ap (λ (s : AoeSenderData). record s { state = Waiting (c.in-Sending.attempts + 1) })
    c.self.view_is
    ∙ sym (due-all1 (goal.at.returns-in_ok-bytes-in-Sending-2-clause-after c).In_default).after

pub returns-in-Some-clause-sound : goal.returns-in-Some-clause-sound
returns-in-Some-clause-sound c = invariant_of-self c
