use Rattle.std.proofs.Common.{◌-◌, map, ap, sym, ◌∙◌, subst, arith}
use Rattle.ipv4_core.specs.Routes.{IsFalling}
use Rattle.sim_world.specs.Routing.{seen, ways_to}
use Rattle.sim_world.proofs.RouteLaws.{table_step, all_tables, falling, prefix_at}
use Rattle.sim_world.proofs.routing.tables.Goals as goal

pub loop-prefix-preserved : goal.loop-prefix-preserved
loop-prefix-preserved c = record {
  short = omega (arith, c.loop-prefix.invariant.short);
  all = table_step (map seen c.loop-prefix.tables.items) (map seen c.add_table.new.tables.items) _ _ c.loop-prefix.prefix (c.loop-prefix.prefix - 1) c.args.entries.now
      (omega (arith, c.loop-prefix-test.true)) c.loop-prefix.invariant.all
      (c.in_ok-ways.ensures
      ∙ ap ways_to
      (c.as_slice.ensures ∙ c.index.ensures
      ∙ prefix_at c.in_ok-by_prefix.by_prefix.items c.args.entries.now (c.loop-prefix.prefix - 1) c.index.result.now
      (omega (arith, c.loop-prefix-test.true, c.loop-prefix.invariant.short)) c.in_ok-by_prefix.ensures))
      c.in_ok-add_table.ensures;
}

pub make-requires : goal.make-requires
make-requires c =
    subst IsFalling (sym (all_tables (map seen c.loop-prefix.tables.items) _ c.loop-prefix.prefix c.args.entries.now (omega (arith, c.loop-prefix-test.false)) c.loop-prefix.invariant.all))
    (falling 31 c.args.entries.now)

pub returns : goal.returns
returns c = c.make.ensures ∙ all_tables (map seen c.loop-prefix.tables.items) _ c.loop-prefix.prefix c.args.entries.now (omega (arith, c.loop-prefix-test.false)) c.loop-prefix.invariant.all
