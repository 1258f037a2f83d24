use Rattle.std.proofs.Common.{arith, ◌≤◌, ◌+◌, ◌-◌, ◌%◌, ◌++◌, Bool, List, ◌∙◌, ap, subst}
use Rattle.schc_bits.specs.Bits.{number_bits}
use Rattle.rcs.specs.Division.{rcs_of}
use Rattle.aa_sender.specs.State.{AaSenderData, IsAaSender}
use Rattle.aa_sender.proofs.SenderLemmas.{check-short, padded_packet_is}
use Rattle.aa_sender.proofs.sender.AaSender.check.Goals as goal

pub overflow_add-padding : goal.overflow_add-padding
overflow_add-padding c =
    let is : IsAaSender c.args.self.now = subst IsAaSender c.self.view_is c.self.invariant.0 in
    let short : 34 + c.args.size ≤ 1936 =
    check-short c.args.self.now c.args.size is c.requires.last in
    omega (arith, short)

pub returns : goal.returns
returns c =
    let is : IsAaSender c.args.self.now = subst IsAaSender c.self.view_is c.self.invariant.0 in
    let bits = c.in_ok-packet.ensures ∙ ap (λ (s : AaSenderData). s.bits) c.self.view_is in
    c.rcs.ensures
    ∙ ap rcs_of
    (c.in_ok-push_bits.ensures.ok
    ∙ ap (λ (front : List Bool). front ++ number_bits ((8 - (34 + c.args.size) % 8) % 8) 0) bits
    ∙ padded_packet_is c.args.self.now c.args.size is c.requires.last)
