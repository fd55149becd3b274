use Rattle.std.proofs.Common.{arith, ap, ◌∙◌, reverse}
use Rattle.std.proofs.lemmas.List.{take_at}
use Rattle.frag_core.specs.Seen.{plain_act}
use Rattle.frag_core.specs.Step.{FitsDatagram}
use Rattle.node_step.specs.Reassembly.{carry_frags}
use Rattle.node_step.proofs.Fits.{fit-reverse, fit-pop, leads-reverse, leads-pop}
use Rattle.node_step.proofs.node.Node.carry_all_frags.Goals as goal

pub loop-act-init : goal.loop-act-init
loop-act-init g c =
    let turned = take_at c.reverse.new.self _ _ (omega arith) ∙ c.reverse.ensures.after ∙ ap reverse c.as_mut_slice.ensures.value in record {
      leads = leads-reverse carry_frags (plain_act g.P.Pkt.plain) _ c.args.acts.now.items _ turned;
      fit = fit-reverse FitsDatagram (plain_act g.P.Pkt.plain) c.args.acts.now.items _ turned c.requires;
    }

pub carry_frags-requires-after_bounds : goal.carry_frags-requires-after_bounds
carry_frags-requires-after_bounds g c κs within =
    (fit-pop FitsDatagram (plain_act g.P.Pkt.plain) _ c.pop.new.self.items c.in-Some.act c.in-Some.ensures.items c.loop-act.invariant.fit).1

pub loop-act-preserved : goal.loop-act-preserved
loop-act-preserved g c = record {
  leads = leads-pop carry_frags (plain_act g.P.Pkt.plain) _ _ _ _ c.pop.new.self.items c.in-Some.act c.in-Some.ensures.items c.in_ok-carry_frags.ensures c.loop-act.invariant.leads;
  fit = (fit-pop FitsDatagram (plain_act g.P.Pkt.plain) _ c.pop.new.self.items c.in-Some.act c.in-Some.ensures.items c.loop-act.invariant.fit).0;
}
