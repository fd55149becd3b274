use Rattle.std.proofs.Common.{ℕ, ◌<◌, ◌≤◌, sym, subst, ◌∙◌}
use Rattle.std.specs.Prelude.{All}
use Rattle.std.specs.Ordering.{nat_cmp}
use Rattle.std.specs.BTreeMap.{get}
use Rattle.scenario_form.specs.declared.scenario.Route.{Route}
use Rattle.sim_world.specs.declared.guide.Guide.{Guide}
use Rattle.sim_world.specs.declared.guide.Guide.TheVariants.{Least, Listed}
use Rattle.sim_world.specs.declared.routing.Entry.{Entry}
use Rattle.sim_world.specs.Guide.{IsGuide, node_count}
use Rattle.sim_world.specs.Routing.{prefix_of}
use Rattle.sim_world.proofs.GuideLaws.{short_list, short_routes}
use Rattle.sim_world.proofs.guide.Guide.routes_of.Goals as goal

pub returns-in_ok-entries-in-Listed-clause-short : goal.returns-in_ok-entries-in-Listed-clause-short
returns-in_ok-entries-in-Listed-clause-short c =
    let there : c.args.node < node_count (Listed c.in-Listed.routes c.in-Listed.holders) = subst (λ (g : Guide). c.args.node < node_count g) c.in-Listed.is c.requires.node in
    let all : IsGuide (Listed c.in-Listed.routes c.in-Listed.holders) = subst IsGuide c.in-Listed.is c.requires.guide in
    subst (All (λ (e : Entry). prefix_of e ≤ 30)) (sym c.in_ok-entries-in-Listed.ensures)
    (short_list (get nat_cmp c.in-Listed.holders) c.args.ends.now c.as_slice-listed.result.now
    (subst (All (λ (r : Route). r.prefix ≤ 30)) (sym (c.as_slice-listed.ensures ∙ c.index.ensures)) (all c.args.node c.index.result.now there)))

pub returns-in_ok-entries-in-Least-clause-short : goal.returns-in_ok-entries-in-Least-clause-short
returns-in_ok-entries-in-Least-clause-short c =
    subst (All (λ (e : Entry). prefix_of e ≤ 30)) (sym c.in_ok-entries-in-Least.ensures)
    (short_routes (Least c.in-Least.map) c.args.node c.args.ends.now (subst IsGuide c.in-Least.is c.requires.guide))
