use Rattle.std.proofs.Common.{◌<◌, length, reverse}
use Rattle.std.specs.List.{AllByRecursion}
use Rattle.partition_cut.specs.Network.{group_at}
use Rattle.round_kernel.specs.Left.{plain_sends}
use Rattle.round_kernel.proofs.DeliverLaws.{Handing}
use Rattle.round_kernel.proofs.handing.hand_over.Given as goal

-- the events so far have gone to their groups, and those that are left are for nodes that there are
abbrev pub invariant-sends : goal.invariant-sends
invariant-sends g l = record {
  known : AllByRecursion (λ e. e.key.node.0 < length l.group_of) (plain_sends g.P.Pkt.plain (reverse l.sends.items));
  handing : Handing (group_at l.group_of) (plain_sends g.P.Pkt.plain l.fn.sends.items) l.fn.groups.items l.groups.items
      (plain_sends g.P.Pkt.plain (reverse l.sends.items));
}

abbrev pub decreases-sends : goal.decreases-sends
decreases-sends g l = length l.sends.items
