use Rattle.std.proofs.Common.{◌+◌, ap, arith}
use Rattle.sim_world.proofs.AppLaws.{install_next}
use Rattle.sim_world.proofs.apps.install.Goals as goal

pub loop-it-preserved : goal.loop-it-preserved
loop-it-preserved c = record {
  all = install_next c.loop-it.taken _ c.loop-it.it-index c.args.listed.now _ c.loop-it.apps.items c.install_one.new.apps.items _ c.loop-it-test.true c.loop-it.invariant.all
      c.in_ok-install_one.ensures.apps (ap (λ n. c.loop-it.taken + n) c.ports_taken-taken.ensures.value);
  kinds = c.in_ok-install_one.ensures.kinds;
  few = omega (arith, c.loop-it.invariant.few, c.ports_taken-taken.ensures.few);
  count = omega (arith, c.loop-it.invariant.count, c.in_ok-install_one.ensures.few);
}
