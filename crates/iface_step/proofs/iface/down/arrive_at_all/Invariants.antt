use Rattle.std.proofs.Common.{◌≡◌, ◌++◌, map, take}
use Rattle.iface_step.specs.Down.{arrivals}
use Rattle.iface_step.specs.Seen.{plain_act}
use Rattle.iface_step.proofs.iface.down.arrive_at_all.Given as goal

-- the frame is as it came, and a copy arrives at each of the interfaces so far
abbrev pub invariant-others : goal.invariant-others
invariant-others g l = record {
  same : g.P.Pkt.plain l.frame ≡ g.P.Pkt.plain l.fn.frame;
  asked : map (plain_act g.P.Pkt.plain) l.out.items ≡ map (plain_act g.P.Pkt.plain) l.fn.out.items ++ arrivals (take l.to-index l.others) l.at (g.P.Pkt.plain l.fn.frame);
}
