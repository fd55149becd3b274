use Rattle.delivered_prefix.proofs.BothLives.{prefix-of, end-of}
use Rattle.delivered_prefix.proofs.law.nodes_deliver_a_prefix.Goals as goal

pub returns-clause-prefix : goal.returns-clause-prefix
returns-clause-prefix c pair there n here m happenings there-order here-order history =
    prefix-of pair there n here m happenings there-order here-order history c.deliveries_between_nodes_are_a_prefix.ensures.prefix

pub returns-clause-end : goal.returns-clause-end
returns-clause-end c pair there n here m happenings there-order here-order history =
    end-of pair there n here m happenings there-order here-order history c.deliveries_between_nodes_are_a_prefix.ensures.end
