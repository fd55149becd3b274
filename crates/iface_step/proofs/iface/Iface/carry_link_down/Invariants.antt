use Rattle.std.proofs.Common.{◌≡◌, ◌++◌, map, reverse}
use Rattle.std.specs.List.{flat_map}
use Rattle.p2p_dev.specs.Seen.{plain_act as plain_device}
use Rattle.iface_step.specs.Devices.{of_link}
use Rattle.iface_step.specs.Down.{asked_down}
use Rattle.iface_step.specs.Seen.{plain_act}
use Rattle.iface_step.proofs.iface.Iface.carry_link_down.Given as goal

-- what was asked for, and what is left to ask for, is the whole
abbrev pub invariant-acts : goal.invariant-acts
invariant-acts g l =
    map (plain_act g.P.Pkt.plain) l.out.items ++ flat_map (asked_down l.self) (map of_link (map (plain_device g.P.Pkt.plain) (reverse l.acts.items)))
    ≡ map (plain_act g.P.Pkt.plain) l.fn.out.items ++ flat_map (asked_down l.self) (map of_link (map (plain_device g.P.Pkt.plain) l.fn.acts.items))

abbrev pub decreases-acts : goal.decreases-acts
decreases-acts g l = goal.left-acts g l
