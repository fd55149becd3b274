use Rattle.std.proofs.Common.{◌≡◌, fold, map, reverse}
use Rattle.arp_core.specs.Seen.{plain_act as plain_arp}
use Rattle.iface_step.specs.Resolution.{carry_arp}
use Rattle.iface_step.specs.Seen.{plain_act}
use Rattle.iface_step.proofs.iface.Iface.carry_all_arp.Given as goal

-- what is left to carry out leads to where all acts lead
abbrev pub invariant-acts : goal.invariant-acts
invariant-acts g l =
    fold (carry_arp l.now l.mac) (record { iface = l.self; bus = l.bus; random = l.random; numbers = l.numbers; acts = map (plain_act g.P.Pkt.plain) l.out.items }) (map (plain_arp g.P.Pkt.plain) (reverse l.tools.acts.items))
    ≡ fold (carry_arp l.now l.mac) (record { iface = l.fn.self; bus = l.fn.bus; random = l.fn.random; numbers = l.fn.numbers; acts = map (plain_act g.P.Pkt.plain) l.fn.out.items }) (map (plain_arp g.P.Pkt.plain) l.fn.tools.acts.items)

abbrev pub decreases-acts : goal.decreases-acts
decreases-acts g l = goal.left-acts g l
