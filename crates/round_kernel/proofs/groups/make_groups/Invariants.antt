use Rattle.std.proofs.Common.{length}
use Rattle.round_kernel.proofs.Making.{Making}
use Rattle.round_kernel.proofs.groups.make_groups.Given as goal

abbrev pub invariant-parts : goal.invariant-parts
invariant-parts g l = Making g.P.Pkt.plain l.fn.parts.items l.parts.items l.groups.items

abbrev pub decreases-parts : goal.decreases-parts
decreases-parts g l = length l.parts.items
