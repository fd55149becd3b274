use Rattle.std.proofs.Common.{sym}
use Rattle.scenario_form.specs.declared.scenario.Lan.{Lan}
use Rattle.scenario_form.specs.Tables.{lan_of, lan_check}
use Rattle.scenario_form.proofs.Steps.{then_ok_check, then_ok_value}
use Rattle.scenario_form.proofs.TableSteps.{one_stops_at, one_passed, one_made, one_counted}
use Rattle.scenario_form.proofs.sections.read_next_lan.Goals as goal

pub returns-in-Err-clause-checks : goal.returns-in-Err-clause-checks
returns-in-Err-clause-checks c =
    rw c.stop_at.ensures (one_stops_at Lan (Unit {0}) lan_of 2 _ _ (lan_check c.args.nodes) _ _ c.in-Err.stop c.in-Some.ensures c.in-Err.ensures c.len.ensures)

pub returns-in-Ok-push_row-clause-checks : goal.returns-in-Ok-push_row-clause-checks
returns-in-Ok-push_row-clause-checks c = one_passed 2 _ (lan_check c.args.nodes) _ _ c.in-Some.ensures (then_ok_check _ _ _ (sym c.in-Ok.ensures))

pub returns-in-Ok-push_row-clause-count : goal.returns-in-Ok-push_row-clause-count
returns-in-Ok-push_row-clause-count c = one_counted _ _ _ _ c.in-Some.ensures c.in-Ok-push_row.ensures.count

pub returns-in-Ok-push_row-clause-rows : goal.returns-in-Ok-push_row-clause-rows
returns-in-Ok-push_row-clause-rows c = one_made lan_of _ _ c.in-Ok.lan _ _ c.in-Some.ensures (then_ok_value _ _ _ (sym c.in-Ok.ensures)) c.in-Ok-push_row.ensures.items
