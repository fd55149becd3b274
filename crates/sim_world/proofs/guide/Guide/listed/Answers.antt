use Rattle.std.proofs.Common.{◌≤◌, ap, sym, subst, ◌∙◌}
use Rattle.std.specs.Prelude.{All}
use Rattle.scenario_form.specs.declared.scenario.Route.{Route}
use Rattle.sim_world.specs.Grouping.{grouped}
use Rattle.sim_world.specs.Routing.{node_of}
use Rattle.sim_world.proofs.GuideLaws.{short_grouped}
use Rattle.sim_world.proofs.guide.Guide.listed.Goals as goal

pub returns-clause-within : goal.returns-clause-within
returns-clause-within c =
    let s = c.args.scenario.now in
    subst (All (All (λ (r : Route). r.prefix ≤ 30))) (sym (c.in_ok-routes.ensures ∙ ap (grouped node_of s.nodes) c.as_slice.ensures)) (short_grouped s.nodes s.routes c.requires.limits.routes)
