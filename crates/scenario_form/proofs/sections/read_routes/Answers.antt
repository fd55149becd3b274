use Rattle.std.proofs.Common.{Vec, Global}
use Rattle.scenario_form.specs.declared.scenario.Route.{Route}
use Rattle.scenario_form.specs.Tables.{route_of, route_check}
use Rattle.scenario_form.proofs.TableSteps.{counts_next, checks_next, checks_stop, passes_stop, made_next}
use Rattle.scenario_form.proofs.sections.read_routes.Goals as goal

pub returns-in-Err-clause-checks : goal.returns-in-Err-clause-checks
returns-in-Err-clause-checks c =
    passes_stop (Unit {0}) (Vec Route Global) c.in-Err.stop _ _ (λ e. checks_stop 3 _ (route_check c.args.nodes c.args.routing) c.values_at-value-items.result.now c.loop-value.value-index c.value-item.result _ e c.loop-value-test.true c.value-item.is c.loop-value.invariant.checks) c.in-Err.ensures.checks

pub loop-value-preserved : goal.loop-value-preserved
loop-value-preserved c = record {
  count = counts_next _ _ _ c.values_at-value-items.result.now c.loop-value.value-index c.value-item.result c.loop-value-test.true c.value-item.is c.loop-value.invariant.count c.in-Ok.ensures.count;
  checks = checks_next 3 _ _ (route_check c.args.nodes c.args.routing) c.values_at-value-items.result.now c.loop-value.value-index c.value-item.result _ c.loop-value-test.true c.value-item.is c.loop-value.invariant.checks c.in-Ok.ensures.checks c.in-Ok.ensures.count;
  made = made_next route_of _ _ _ c.values_at-value-items.result.now c.loop-value.value-index c.value-item.result c.loop-value-test.true c.value-item.is c.loop-value.invariant.made c.in-Ok.ensures.rows;
}
