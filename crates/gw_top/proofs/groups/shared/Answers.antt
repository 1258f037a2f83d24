use Rattle.std.proofs.Common.{ap, map, sym, subst, ◌∙◌, ◌<◌, ℕ, Vec, Global}
use Rattle.rule_model.specs.declared.raw.DeviceLine.{DeviceLine}
use Rattle.gw_top.specs.Dealing.{share_from}
use Rattle.gw_top.specs.Groups.{joined}
use Rattle.gw_top.proofs.DealingLemmas.{dealt-shares}
use Rattle.gw_top.proofs.GroupLemmas.{group-params, all-shared, now_of}
use Rattle.gw_top.proofs.groups.shared.Goals as goal

-- the devices of each group's jobs are in their ranges
pub by_group-requires-after_bounds : goal.by_group-requires-after_bounds
by_group-requires-after_bounds g c κs bound =
    group-params (λ (jobs : Vec DeviceLine Global). jobs.items) c.in_ok-jobs.jobs.items
    c.args.devices.now (ap joined c.in_ok-jobs.ensures
    ∙ ap (λ groups. joined (map now_of groups)) c.as_slice.ensures.value
    ∙ c.in_ok-groups.ensures.joined)
    c.requires.params

-- the shares of all groups are those of the devices, which the events that are dealt out give
pub returns : goal.returns
returns g c =
    let jobs = c.in_ok-jobs.jobs in
    let made = c.in_ok-made.made in
    let dealt = c.in_ok-dealt.dealt in
    all-shared (λ (jobs : Vec DeviceLine Global). jobs.items) (share_from dealt) jobs.items
    made.items c.in_ok-all.all.items (sym made.ok.0 ∙ c.in_ok-made.ensures.count ∙ jobs.ok.0)
    (λ i group m less. c.in_ok-made.ensures.shared i group m
    (subst (λ (n : ℕ). i < n) (sym jobs.ok.0) less))
    c.in_ok-all.ensures
    ∙ ap (map (share_from dealt))
    (ap joined c.in_ok-jobs.ensures
    ∙ ap (λ groups. joined (map now_of groups)) c.as_slice.ensures.value
    ∙ c.in_ok-groups.ensures.joined)
    ∙ dealt-shares c.args.devices.now c.args.events.now dealt c.in_ok-dealt.ensures
