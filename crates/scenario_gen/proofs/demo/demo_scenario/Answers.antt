use Rattle.std.proofs.Common.{◌≡◌, ◌+◌, rules, false, None, sym, subst}
use Rattle.scenario_form.specs.declared.scenario.Routing.TheVariants.{Auto}
use Rattle.scenario_form.specs.declared.scenario.Scenario.{Scenario}
use Rattle.scenario_form.specs.Limits.{IsWithinLimits}
use Rattle.scenario_gen.specs.Demo.{demo_of}
use Rattle.scenario_gen.proofs.Limits.{demo_within}
use Rattle.scenario_gen.proofs.demo.demo_scenario.Goals as goal

pub returns-clause-limits : goal.returns-clause-limits
returns-clause-limits c =
    let made : Scenario = record {
      format = 1;
      nodes = c.args.n + 1;
      stop_ns = record { 0 = 5000000000 };
      seed = 1;
      events_per_node = 1000000;
      routing = Auto;
      ascii = false;
      groups = None;
      links = c.in_ok-links.field-0;
      lans = c.new.result;
      routes = c.new-2.result;
      apps = c.in_ok-apps.field-0;
      losses = c.new-3.result;
    } in
    let same : made ≡ demo_of c.args.n = search rules in
    subst IsWithinLimits (sym same) (demo_within c.args.n c.requires.some c.requires.few)
