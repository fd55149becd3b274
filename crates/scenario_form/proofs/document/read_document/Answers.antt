use Rattle.std.proofs.Common.{◌≤◌, length, Ok, arith}
use Rattle.toml.specs.View.{table_view}
use Rattle.scenario_form.specs.Checks.{◌>>◌}
use Rattle.scenario_form.specs.Walk.{scenario_in, walk_check}
use Rattle.scenario_form.specs.Across.{across_check}
use Rattle.scenario_form.specs.Groups.{groups_check}
use Rattle.scenario_form.proofs.AnswerSteps.{all_pass, answers_first, answers_second, answers_third}
use Rattle.scenario_form.proofs.Counted.{few}
use Rattle.scenario_form.proofs.Within.{walked_across}
use Rattle.scenario_form.proofs.document.read_document.Goals as goal

pub returns-in-Err : goal.returns-in-Err
returns-in-Err c =
    let s = scenario_in (table_view c.args.document.now) in
    answers_first c.in-Err.stop (walk_check (table_view c.args.document.now)) s (across_check s >> (groups_check s >> Ok s)) c.in-Err.ensures

pub check_across-requires-clause-links : goal.check_across-requires-clause-links
check_across-requires-clause-links c = let k : length c.in-Ok.scenario.links ≤ 4000 = (few (table_view c.args.document.now) c.in-Ok.scenario c.in-Ok.ensures).links in omega (arith, k)

pub check_across-requires-clause-lans : goal.check_across-requires-clause-lans
check_across-requires-clause-lans c = let k : length c.in-Ok.scenario.lans ≤ 200 = (few (table_view c.args.document.now) c.in-Ok.scenario c.in-Ok.ensures).lans in omega (arith, k)

pub check_across-requires-clause-routes : goal.check_across-requires-clause-routes
check_across-requires-clause-routes c = let k : length c.in-Ok.scenario.routes ≤ 10000 = (few (table_view c.args.document.now) c.in-Ok.scenario c.in-Ok.ensures).routes in omega (arith, k)

pub check_across-requires-clause-apps : goal.check_across-requires-clause-apps
check_across-requires-clause-apps c = let k : length c.in-Ok.scenario.apps ≤ 4000 = (few (table_view c.args.document.now) c.in-Ok.scenario c.in-Ok.ensures).apps in omega (arith, k)

pub check_across-requires-clause-losses : goal.check_across-requires-clause-losses
check_across-requires-clause-losses c = let k : length c.in-Ok.scenario.losses ≤ 1000 = (few (table_view c.args.document.now) c.in-Ok.scenario c.in-Ok.ensures).losses in omega (arith, k)

pub returns-in-Err-check_across : goal.returns-in-Err-check_across
returns-in-Err-check_across c =
    let made = scenario_in (table_view c.args.document.now) in
    answers_second c.in-Err-check_across.stop (walk_check (table_view c.args.document.now)) made c.in-Ok.scenario across_check (groups_check made >> Ok made)
    c.in-Ok.ensures c.in-Err-check_across.ensures

pub check_groups-requires : goal.check_groups-requires
check_groups-requires c = walked_across (table_view c.args.document.now) c.in-Ok.scenario c.in-Ok.ensures c.in-Ok-check_across.ensures

pub returns-in-Ok-check_groups : goal.returns-in-Ok-check_groups
returns-in-Ok-check_groups c =
    all_pass (walk_check (table_view c.args.document.now)) (scenario_in (table_view c.args.document.now)) c.in-Ok.scenario across_check groups_check
    c.in-Ok.ensures c.in-Ok-check_across.ensures c.in-Ok-check_groups.ensures

pub returns-in-Err-check_groups : goal.returns-in-Err-check_groups
returns-in-Err-check_groups c =
    answers_third c.in-Err-check_groups.stop (walk_check (table_view c.args.document.now)) (scenario_in (table_view c.args.document.now)) c.in-Ok.scenario
    across_check groups_check c.in-Ok.ensures c.in-Ok-check_across.ensures c.in-Err-check_groups.ensures
