use Rattle.std.proofs.Common.{map, refl, ap, ◌∙◌, arith}
use Rattle.bridge_dev.specs.declared.words.Act.TheVariants.{Out}
use Rattle.bridge_dev.specs.Seen.{plain_act}
use Rattle.bridge_dev.proofs.CopyLaws.{gone_out, left_out, none_yet}
use Rattle.bridge_dev.proofs.bridge.send_copies.Goals.{then-other-port+in_ok-copy+in_ok-push, else-other-port}
use Rattle.bridge_dev.proofs.bridge.send_copies.Goals as goal

pub loop-other-init : goal.loop-other-init
loop-other-init g c = (refl, none_yet (map (plain_act g.P.Pkt.plain) c.args.out.now.items) (g.P.Pkt.plain c.args.frame.now) c.args.port)

pub loop-other-preserved : goal.loop-other-preserved
loop-other-preserved g c =
    let see = plain_act g.P.Pkt.plain in
    let old = map see c.args.out.now.items in
    let frame = g.P.Pkt.plain c.args.frame.now in
    elim c.if-other-port.branch [
      | then-other-port+in_ok-copy+in_ok-push w ↦ (
        ap g.P.Pkt.plain w.frame-is ∙ w.in_ok-copy.ensures.same ∙ c.loop-other.invariant.0,
        ap (λ v. map see v.items) w.out-is
            ∙ gone_out see old c.loop-other.out.items w.push.new.self.items _ frame c.args.port c.loop-other.other (omega (arith, w.if-other-port.true))
            w.in_ok-push.ensures.items (ap (Out c.loop-other.other) (w.in_ok-copy.ensures.copy ∙ c.loop-other.invariant.0)) c.loop-other.invariant.1,
      )
      | else-other-port w ↦ (
        ap g.P.Pkt.plain w.frame-is ∙ c.loop-other.invariant.0,
        ap (λ v. map see v.items) w.out-is
            ∙ left_out old (map see c.loop-other.out.items) frame c.args.port c.loop-other.other (omega (arith, w.if-other-port.false)) c.loop-other.invariant.1,
      )
    ]
