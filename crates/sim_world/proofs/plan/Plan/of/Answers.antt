use Rattle.std.proofs.Common.{◌≡◌, ℕ, List, length, ap, sym, subst, ◌∙◌}
use Rattle.scenario_form.specs.declared.scenario.App.{App}
use Rattle.std.specs.Prelude.{All}
use Rattle.sim_world.specs.declared.ends.End.{End}
use Rattle.sim_world.specs.Grouping.{grouped, joined}
use Rattle.sim_world.specs.Lans.{members_of}
use Rattle.sim_world.specs.Ends as ends
use Rattle.sim_world.specs.Apps as apps
use Rattle.sim_world.specs.Plan.{IsPlanOf}
use Rattle.sim_world.proofs.EndLimits.{all_ends_grouped, all_on}
use Rattle.sim_world.proofs.PlanLaws.{within}
use Rattle.sim_world.proofs.plan.Plan.of.Goals as goal

pub members_by_lan-requires : goal.members_by_lan-requires
members_by_lan-requires c =
    let s = c.args.scenario.now in
    let ends_are : c.in_ok-ends.ends.items ≡ grouped ends.node_of s.nodes (ends.ends_of s.links s.lans) =
    c.in_ok-ends.ensures ∙ (λ i. grouped ends.node_of s.nodes (ends.ends_of (c.as_slice.ensures i) (c.as_slice-lans.ensures i))) in
    let here : All (All (λ (e : End). ends.IsOn (length s.lans) e.medium)) (grouped ends.node_of s.nodes (ends.ends_of s.links s.lans)) =
    all_on (length s.lans) (grouped ends.node_of s.nodes (ends.ends_of s.links s.lans)) (all_ends_grouped s.nodes s.links s.lans c.requires.links c.requires.lans) in
    subst (λ (n : ℕ). All (All (λ (e : End). ends.IsOn n e.medium)) c.as_slice-3.result.now) (ap length (sym c.as_slice-lans.ensures))
    (subst (All (All (λ (e : End). ends.IsOn (length s.lans) e.medium))) (sym (c.as_slice-3.ensures.value ∙ ends_are)) here)

pub of-requires-clause-ends : goal.of-requires-clause-ends
of-requires-clause-ends c =
    let s = c.args.scenario.now in
    c.as_slice-4.ensures.value ∙ c.in_ok-ends.ensures ∙ (λ i. grouped ends.node_of s.nodes (ends.ends_of (c.as_slice.ensures i) (c.as_slice-lans.ensures i)))

pub returns : goal.returns
returns c =
    let s = c.args.scenario.now in
    let ends_are : c.in_ok-ends.ends.items ≡ grouped ends.node_of s.nodes (ends.ends_of s.links s.lans) =
    c.in_ok-ends.ensures ∙ (λ i. grouped ends.node_of s.nodes (ends.ends_of (c.as_slice.ensures i) (c.as_slice-lans.ensures i))) in
    let is : IsPlanOf s _ = record {
      ends = ends_are;
      members = c.in_ok-members.ensures ∙ (λ i. members_of (length (c.as_slice-lans.ensures i)) (joined ((c.as_slice-3.ensures.value ∙ ends_are) i)));
      guide = c.in_ok-guide.ensures.guide;
      apps = c.in_ok-apps.ensures ∙ ap (λ (list : List App). grouped apps.node_of s.nodes (apps.listed_from 0 list)) c.as_slice-2.ensures;
    } in
    record { plan = is; within = within s _ c.requires is c.in_ok-guide.ensures.within }
