use Rattle.std.proofs.Common.{ap, ◌∙◌, map, arith, reverse}
use Rattle.std.proofs.lemmas.List.{take_at}
use Rattle.p2p_dev.specs.Seen.{plain_act as plain_device}
use Rattle.iface_step.specs.Devices.{of_link}
use Rattle.iface_step.specs.Seen.{plain_act}
use Rattle.iface_step.specs.Up.{carry_up}
use Rattle.iface_step.proofs.Carrying.{folds-pop, folds-reverse}
use Rattle.iface_step.proofs.iface.Iface.carry_link_up.Goals as goal

pub acts-init : goal.acts-init
acts-init g c =
    let turned = take_at c.reverse.new.self _ _ (omega arith) ∙ c.reverse.ensures.after ∙ ap reverse c.as_mut_slice.ensures.value in
    folds-reverse (carry_up c.args.now) of_link (plain_device g.P.Pkt.plain) (record { iface = c.args.self.now; bus = c.args.bus.now; random = c.args.random.now; numbers = c.args.numbers.now; acts = map (plain_act g.P.Pkt.plain) c.args.out.now.items }) c.args.tools.now.come.link.items _ turned

pub acts-preserved : goal.acts-preserved
acts-preserved g c =
    folds-pop (carry_up c.args.now) of_link (plain_device g.P.Pkt.plain) _ _ _ _ c.pop.new.self.items c.in-Some.act c.in-Some.ensures.items (c.in_ok-carry_up.ensures ∙ ap (carry_up c.args.now (record { iface = c.acts.self; bus = c.acts.bus; random = c.acts.random; numbers = c.acts.numbers; acts = map (plain_act g.P.Pkt.plain) c.acts.out.items })) c.of_link-act.ensures) c.acts.invariant
