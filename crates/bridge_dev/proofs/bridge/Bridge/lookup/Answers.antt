use Rattle.std.proofs.Common.{◌<◌, Option, subst, sym}
use Rattle.std.specs.Option.{IfSome}
use Rattle.bridge_dev.specs.declared.bridge.Sighting.{Sighting}
use Rattle.bridge_dev.specs.Table.{PlainBridge}
use Rattle.bridge_dev.proofs.EntryLaws.{known_port}
use Rattle.bridge_dev.proofs.bridge.Bridge.lookup.Goals as goal

pub returns-in-Some-clause-known : goal.returns-in-Some-clause-known
returns-in-Some-clause-known c =
    let ports = c.self.inside.ports in
    subst (λ (b : PlainBridge). c.in-Some.sighting.now.port < b.ports) c.self.view_is
    (subst (λ (o : Option Sighting). IfSome o (λ s. s.port < ports)) (sym c.in-Some.ensures.value) (known_port ports _ c.self.inside.entries.entries c.self.invariant))
