use Rattle.std.proofs.Common.{◌∙◌, ◌++◌, ◌∷◌, [], List, ap, reverse, subst, sym, arith}
use Rattle.std.proofs.lemmas.List.{take_at}
use Rattle.lp_run.proofs.Seen.{none-left}
use Rattle.round_kernel.specs.Window.{Gone}
use Rattle.round_kernel.proofs.Making.{Making, making-begun, making-last, making-more, making-new}
use Rattle.round_kernel.proofs.groups.make_groups.Goals as goal

pub parts-init : goal.parts-init
parts-init g c =
    making-begun g.P.Pkt.plain c.args.parts.items _ c.in_ok-groups.groups.items
    (take_at c.reverse.new.self _ _ (omega arith) ∙ c.reverse.ensures.after ∙ ap reverse c.as_mut_slice.ensures.value)
    c.in_ok-groups.ensures.items c.requires

pub make-requires-after_bounds : goal.make-requires-after_bounds
make-requires-after_bounds g c κs within =
    making-new g.P.Pkt.plain c.args.parts.items c.parts.parts.items c.pop.new.self.items c.parts.groups.items (c.in-Some.part, c.in-Some.first)
    c.parts.invariant c.in-Some.ensures.items

pub parts-preserved : goal.parts-preserved
parts-preserved g c =
    subst (λ (groups : List Gone). Making g.P.Pkt.plain c.args.parts.items c.pop.new.self.items groups) (ap (λ (group : Gone). c.parts.groups.items ++ group ∷ []) (sym c.in_ok-make.ensures) ∙ sym c.in_ok-push.ensures.items)
    (making-more g.P.Pkt.plain c.args.parts.items c.parts.parts.items c.pop.new.self.items c.parts.groups.items (c.in-Some.part, c.in-Some.first)
    c.in_ok-lp.lp c.parts.invariant c.in-Some.ensures.items c.in_ok-lp.ensures)

pub returns : goal.returns
returns g c =
    making-last g.P.Pkt.plain c.args.parts.items c.parts.parts.items c.parts.groups.items c.parts.invariant
    (none-left c.parts.parts.items (λ more. c.in_default.ensures.variant.1 (omega (arith, c.parts.parts.ok.0))))
