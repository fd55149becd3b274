use Rattle.std.proofs.Common.{◌≡◌, ◌∙◌, IfOk, List, sym, subst}
use Rattle.std.proofs.lemmas.List.{append-nil}
use Rattle.node_step.specs.declared.loads.Event.{Event}
use Rattle.lp_run.specs.Lp.{made}
use Rattle.test_group.proofs.GroupLaws.{front-new, last-new, received, shown}
use Rattle.test_group.proofs.windows.group_of.Goals as goal

pub make-requires-in-Some-after_bounds : goal.make-requires-in-Some-after_bounds
make-requires-in-Some-after_bounds g c κs within =
    front-new g.P.Pkt.plain c.args.part c.args.first.items c.pop.new.self.items c.in-Some.last c.in-Some.ensures.items c.requires

pub receive-requires-after_bounds : goal.receive-requires-after_bounds
receive-requires-after_bounds g c κs within =
    last-new g.P.Pkt.plain c.args.part c.args.first.items c.pop.new.self.items c.in-Some.last c.in-Some.ensures.items c.requires
    c.in-Ok.group c.in-Ok.ensures

pub returns-in-None : goal.returns-in-None
returns-in-None g c =
    subst (λ (l : List (Event g.row.P.Denot)). IfOk c.make.result (λ lp. lp ≡ made c.args.part (shown g.P.Pkt.plain l)))
    (sym (c.in-None.ensures.items ∙ append-nil c.pop.new.self.items)) c.make.ensures

pub returns-in-Ok-receive : goal.returns-in-Ok-receive
returns-in-Ok-receive g c =
    received g.P.Pkt.plain c.args.part c.args.first.items c.pop.new.self.items c.in-Some.last c.in-Some.ensures.items c.requires
    c.in-Ok.group c.receive.new.self c.in-Ok.ensures c.in-Ok-receive.ensures.ok
