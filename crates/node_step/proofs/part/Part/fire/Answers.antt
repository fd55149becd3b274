use Rattle.std.proofs.Common.{rules, ap, slice_set}
use Rattle.layer_words.specs.Acts.{Appends}
use Rattle.pkt_face.specs.Seen.{plain_line}
use Rattle.node_step.specs.Loads.{plain_event}
use Rattle.node_step.specs.Node.{Progress}
use Rattle.node_step.specs.Part.{PlainPart, fire}
use Rattle.node_step.specs.React.{Refuses}
use Rattle.node_step.proofs.PartLaws.{fire_reacts, fire_refuses}
use Rattle.node_step.proofs.part.Part.fire.Goals as goal

pub returns-in_err-react-clause-limit : goal.returns-in_err-react-clause-limit
returns-in_err-react-clause-limit g c =
    let inside : PlainPart =
    record { places = c.self.inside.places.items; nodes = c.self.inside.nodes.items; lans = c.self.inside.work.firing.lans; limit = c.self.inside.limit } in
    let refused : Refuses c.args.ev.key.node (fire (plain_event g.P.Pkt.plain c.args.ev) c.args.self.now) c.in_err-react.field-0.0 =
    fire_refuses (plain_event g.P.Pkt.plain c.args.ev) c.args.self.now inside c.index-place.result.now c.index_mut-node.result.now c.in_err-react.field-0.0 c.self.view_is c.requires c.index-place.ensures c.index_mut-node.ensures.value c.in_err-react.ensures.err in
    search rules

pub returns-clause-ok : goal.returns-clause-ok
returns-clause-ok g c =
    let inside : PlainPart =
    record { places = c.self.inside.places.items; nodes = c.self.inside.nodes.items; lans = c.self.inside.work.firing.lans; limit = c.self.inside.limit } in
    let p : Progress = record { node = c.react.new.self; firing = c.react.new.work.firing } in
    fire_reacts (plain_event g.P.Pkt.plain c.args.ev) c.args.self.now inside _ c.index-place.result.now c.index_mut-node.result.now p (Appends (plain_event g.P.Pkt.plain) c.args.out.now.sends.items c.finish.new.out.sends.items) (Appends (plain_line g.P.Pkt.plain) c.args.out.now.lines.items c.finish.new.out.lines.items) c.self.view_is c.requires c.index-place.ensures c.index_mut-node.ensures.value c.in_ok-react.ensures.ok (ap (λ lans. record inside { nodes = slice_set inside.nodes c.index-place.result.now p.node; lans = lans }) c.in_ok-finish.ensures.lans) c.in_ok-finish.ensures.sends c.in_ok-finish.ensures.lines
