use Rattle.tcp_flow.proofs.Sinks.{prefix-of, end-of}
use Rattle.tcp_flow.proofs.law.deliveries_between_nodes_are_a_prefix.Goals as goal

pub returns-clause-prefix : goal.returns-clause-prefix
returns-clause-prefix c opener sink there here h =
    prefix-of c.segments_are_read_as_written.ensures opener sink there here h c.deliveries_are_a_prefix.ensures.prefix

pub returns-clause-end : goal.returns-clause-end
returns-clause-end c opener sink there here h =
    end-of c.segments_are_read_as_written.ensures opener sink there here h c.deliveries_are_a_prefix.ensures.end
