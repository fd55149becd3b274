use Rattle.std.proofs.Common.{◌≡◌, fold, map, reverse}
use Rattle.csma_dev.specs.Seen.{plain_act as plain_device}
use Rattle.iface_step.specs.Devices.{of_lan}
use Rattle.iface_step.specs.Seen.{plain_act}
use Rattle.iface_step.specs.Up.{carry_up}
use Rattle.iface_step.proofs.iface.Iface.carry_lan_up.Given as goal

-- what is left to carry out leads to where all acts lead
abbrev pub invariant-acts : goal.invariant-acts
invariant-acts g l =
    fold (carry_up l.now) (record { iface = l.self; bus = l.bus; random = l.random; numbers = l.numbers; acts = map (plain_act g.P.Pkt.plain) l.out.items }) (map of_lan (map (plain_device g.P.Pkt.plain) (reverse l.tools.come.lan.items)))
    ≡ fold (carry_up l.now) (record { iface = l.fn.self; bus = l.fn.bus; random = l.fn.random; numbers = l.fn.numbers; acts = map (plain_act g.P.Pkt.plain) l.fn.out.items }) (map of_lan (map (plain_device g.P.Pkt.plain) l.fn.tools.come.lan.items))

abbrev pub decreases-acts : goal.decreases-acts
decreases-acts g l = goal.left-acts g l
