use Rattle.std.proofs.Common.{◌≤◌, length, codes, arith}
use Rattle.toml.specs.View.{table_view}
use Rattle.scenario_form.specs.Values.{tables_at}
use Rattle.scenario_form.proofs.document.read_tables.Goals as goal

pub read_links-requires : goal.read_links-requires
read_links-requires c = let k : length (tables_at (codes "link") (table_view c.args.document.now)) ≤ 4000 = c.in-Ok.ensures.counted.links in omega (arith, k)

pub read_lans-requires : goal.read_lans-requires
read_lans-requires c = let k : length (tables_at (codes "lan") (table_view c.args.document.now)) ≤ 200 = c.in-Ok.ensures.counted.lans in omega (arith, k)

pub read_routes-requires : goal.read_routes-requires
read_routes-requires c = let k : length (tables_at (codes "route") (table_view c.args.document.now)) ≤ 10000 = c.in-Ok.ensures.counted.routes in omega (arith, k)

pub read_apps-requires : goal.read_apps-requires
read_apps-requires c = let k : length (tables_at (codes "app") (table_view c.args.document.now)) ≤ 4000 = c.in-Ok.ensures.counted.apps in omega (arith, k)

pub read_losses-requires : goal.read_losses-requires
read_losses-requires c = let k : length (tables_at (codes "loss") (table_view c.args.document.now)) ≤ 1000 = c.in-Ok.ensures.counted.losses in omega (arith, k)
