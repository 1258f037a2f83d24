use Rattle.std.proofs.Common.{arith, rules, sym, subst, ap, ◌∙◌, ◌<◌, false, length, get_or}
use Rattle.std.proofs.lemmas.List.{get_or_read}
use Rattle.timers.proofs.KeySetLemmas.{root-in, none-below, none-in}
use Rattle.timers.proofs.key_set.KeySet.lowest.Goals as goal

pub returns-then-key-clause-none : goal.returns-then-key-clause-none
returns-then-key-clause-none c =
    let s = c.self.inside in
    let inv = c.self.invariant in
    let some : 0 < length s.members.items = search rules in
    let root = get_or_read s.nodes.items 1 _ (omega (arith, inv.1, some)) c.index-key.ensures 0 in
    λ key. ap (λ members. get_or members key false) (sym c.self.view_is)
    ∙ none-in s.members.items s.nodes.items inv.2 inv.3 inv.1 inv.0 (sym root ∙ c.if-key.true)
    key

pub returns-else-key-clause-some : goal.returns-else-key-clause-some
returns-else-key-clause-some c =
    let s = c.self.inside in
    let inv = c.self.invariant in
    let some : 0 < length s.members.items = search rules in
    let root = get_or_read s.nodes.items 1 _ (omega (arith, inv.1, some)) c.index-key.ensures 0 in
    ap (λ members. get_or members c.index-key.result.now false) (sym c.self.view_is)
    ∙ (ap (λ key. get_or s.members.items key false) root
    ∙ root-in s.members.items s.nodes.items inv.2 inv.3 inv.1 some (λ e. c.if-key.false (root ∙ e)))

pub returns-else-key-clause-lowest : goal.returns-else-key-clause-lowest
returns-else-key-clause-lowest c =
    let s = c.self.inside in
    let inv = c.self.invariant in
    let some : 0 < length s.members.items = search rules in
    let root = get_or_read s.nodes.items 1 _ (omega (arith, inv.1, some)) c.index-key.ensures 0 in
    λ lower below. ap (λ members. get_or members lower false) (sym c.self.view_is)
    ∙ none-below s.members.items s.nodes.items inv.2 inv.3 inv.1 lower
    (subst (λ n. lower < n) root below)
