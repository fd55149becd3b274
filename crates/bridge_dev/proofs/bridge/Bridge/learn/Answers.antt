use Rattle.std.proofs.Common.{◌<◌, ℕ, List, subst, sym}
use Rattle.std.specs.List.{AllByRecursion}
use Rattle.bridge_dev.specs.declared.bridge.Sighting.{Sighting}
use Rattle.bridge_dev.specs.Table.{PlainBridge}
use Rattle.bridge_dev.proofs.EntryLaws.{learned_is_known}
use Rattle.bridge_dev.proofs.bridge.Bridge.learn.Goals as goal

pub invariant_of-self-2 : goal.invariant_of-self-2
invariant_of-self-2 g c =
    let ports = c.self.inside.ports in
    let known = subst (λ (b : PlainBridge). c.args.port < b.ports) (sym c.self.view_is) c.requires.known in
    subst (λ (es : List (List ℕ × Sighting)). AllByRecursion (λ e. e.1.port < ports) es) (sym c.in_ok-insert.ensures.entries)
    (learned_is_known ports c.self.inside.entries.entries _ _ c.self.invariant known)
