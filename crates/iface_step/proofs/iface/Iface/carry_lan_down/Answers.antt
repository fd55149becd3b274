use Rattle.std.proofs.Common.{◌++◌, map, ap, ◌∙◌, arith, reverse}
use Rattle.std.proofs.lemmas.List.{take_at}
use Rattle.csma_dev.specs.Seen.{plain_act as plain_device}
use Rattle.sim_base.specs.Packet.{Packet}
use Rattle.iface_step.specs.declared.device.DeviceAct.{DeviceAct}
use Rattle.iface_step.specs.Devices.{of_lan}
use Rattle.iface_step.specs.Down.{asked_down}
use Rattle.iface_step.specs.Seen.{plain_act}
use Rattle.iface_step.proofs.Carrying.{asks-pop, asks-reverse}
use Rattle.iface_step.proofs.iface.Iface.carry_lan_down.Goals as goal

pub acts-init : goal.acts-init
acts-init g c =
    let turned = take_at c.reverse.new.self _ _ (omega arith) ∙ c.reverse.ensures.after ∙ ap reverse c.as_mut_slice.ensures.value in
    asks-reverse (asked_down c.args.self.now) of_lan (plain_device g.P.Pkt.plain) (map (plain_act g.P.Pkt.plain) c.args.out.now.items) c.args.acts.now.items _ turned

pub acts-preserved : goal.acts-preserved
acts-preserved g c =
    asks-pop (asked_down c.args.self.now) of_lan (plain_device g.P.Pkt.plain) _ _ _ _ c.pop.new.self.items c.in-Some.act c.in-Some.ensures.items (c.in_ok-ask_down.ensures ∙ ap (λ (a : DeviceAct Packet). map (plain_act g.P.Pkt.plain) c.acts.out.items ++ asked_down c.args.self.now a) c.of_lan.ensures) c.acts.invariant
