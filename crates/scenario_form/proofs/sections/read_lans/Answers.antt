use Rattle.std.proofs.Common.{Vec, Global}
use Rattle.scenario_form.specs.declared.scenario.Lan.{Lan}
use Rattle.scenario_form.specs.Tables.{lan_of, lan_check}
use Rattle.scenario_form.proofs.TableSteps.{counts_next, checks_next, checks_stop, passes_stop, made_next}
use Rattle.scenario_form.proofs.sections.read_lans.Goals as goal

pub returns-in-Err-clause-checks : goal.returns-in-Err-clause-checks
returns-in-Err-clause-checks c =
    passes_stop (Unit {0}) (Vec Lan Global) c.in-Err.stop _ _ (λ e. checks_stop 2 _ (lan_check c.args.nodes) c.values_at-value-items.result.now c.loop-value.value-index c.value-item.result _ e c.loop-value-test.true c.value-item.is c.loop-value.invariant.checks) c.in-Err.ensures.checks

pub loop-value-preserved : goal.loop-value-preserved
loop-value-preserved c = record {
  count = counts_next _ _ _ c.values_at-value-items.result.now c.loop-value.value-index c.value-item.result c.loop-value-test.true c.value-item.is c.loop-value.invariant.count c.in-Ok.ensures.count;
  checks = checks_next 2 _ _ (lan_check c.args.nodes) c.values_at-value-items.result.now c.loop-value.value-index c.value-item.result _ c.loop-value-test.true c.value-item.is c.loop-value.invariant.checks c.in-Ok.ensures.checks c.in-Ok.ensures.count;
  made = made_next lan_of _ _ _ c.values_at-value-items.result.now c.loop-value.value-index c.value-item.result c.loop-value-test.true c.value-item.is c.loop-value.invariant.made c.in-Ok.ensures.rows;
}
