use Rattle.std.proofs.Common.{◌≡◌, ap, sym, ◌∙◌, Some}
use Rattle.std.proofs.lemmas.List.Elements.{All-contains}
use Rattle.rule_model.specs.SplitData.{SplitData}
use Rattle.rule_model.specs.Findings.{IsAdmitted}
use Rattle.rule_model.specs.Tests.{does_match}
use Rattle.packer.proofs.TriedLemmas.{match-same, tried-none, tried-some}
use Rattle.packer.proofs.reading.UnpackedLemmas.{found-listed}
use Rattle.packer.proofs.choosing.candidate_under.Goals as goal

pub returns-then-not-matches : goal.returns-then-not-matches
returns-then-not-matches c =
    let found = sym c.in_ok-listed.ensures.listed in
    sym (tried-none c.args.edition.now.rules c.args.iids c.args.direction c.args.packet.now
    c.args.split.now c.args.computed.now c.args.id c.in_ok-listed.listed.now found
    (c.requires c.in_ok-listed.listed.now found)
    (ap (λ (s : SplitData). does_match c.in_ok-listed.listed.now.rule c.args.iids c.args.direction
    s.fields c.args.computed.now) (sym c.split.view_is) ∙ sym c.matches.ensures.tested
    ∙ c.if-not-matches.true))

pub bits_under-bits-requires-clause-admitted : goal.bits_under-bits-requires-clause-admitted
bits_under-bits-requires-clause-admitted c =
    let found = sym c.in_ok-listed.ensures.listed in
    All-contains (λ l. IsAdmitted l.rule) c.args.edition.now.rules c.in_ok-listed.listed.now
    c.in_ok-listed.ensures.sound.admitted
    (found-listed c.args.edition.now.rules c.args.id c.in_ok-listed.listed.now found).0

pub bits_under-bits-requires-clause-matching : goal.bits_under-bits-requires-clause-matching
bits_under-bits-requires-clause-matching c =
    let found = sym c.in_ok-listed.ensures.listed in (
      c.args.iids,
      sym (match-same c.in_ok-listed.listed.now.rule c.args.iids c.args.direction
          c.args.split.now.fields c.args.packet.now c.args.computed.now
          (c.requires c.in_ok-listed.listed.now found).its_computed)
          ∙ ap (λ (s : SplitData). does_match c.in_ok-listed.listed.now.rule c.args.iids
          c.args.direction s.fields c.args.computed.now) (sym c.split.view_is)
          ∙ sym c.matches.ensures.tested ∙ c.if-not-matches.false,
    )

pub returns : goal.returns
returns c =
    let found = sym c.in_ok-listed.ensures.listed in
    sym (tried-some c.args.edition.now.rules c.args.iids c.args.direction c.args.packet.now
    c.args.split.now c.args.computed.now c.args.id c.bits_under-bits.result
    c.in_ok-listed.listed.now found (c.requires c.in_ok-listed.listed.now found)
    (ap (λ (s : SplitData). does_match c.in_ok-listed.listed.now.rule c.args.iids c.args.direction
    s.fields c.args.computed.now) (sym c.split.view_is) ∙ sym c.matches.ensures.tested
    ∙ c.if-not-matches.false)
    c.bits_under-bits.ensures)
