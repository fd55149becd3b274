use Rattle.node_rules.proofs.FireLaws.{can-fire}
use Rattle.node_rules.proofs.well_events_can_fire.Goals as goal

pub returns : goal.returns
returns c shape part e node event_ok node_ok known at early = can-fire shape part e node event_ok node_ok known at early
