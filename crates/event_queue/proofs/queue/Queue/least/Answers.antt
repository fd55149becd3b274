use Rattle.std.proofs.Common.{subst}
use Rattle.event_queue.specs.Pending.{key_of}
use Rattle.sim_base.specs.KeyOrder.{IsRising}
use Rattle.event_queue.proofs.LoadLaws.{rising_events}
use Rattle.event_queue.proofs.queue.Queue.least.Goals as goal

pub returns-clause-rising : goal.returns-clause-rising
returns-clause-rising g c =
    subst (IsRising key_of) c.self.view_is (rising_events c.self.inside.loads.slots c.self.inside.agenda c.self.invariant.held c.least.ensures.rising)
