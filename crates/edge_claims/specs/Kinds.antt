-- A window of either kind, as contracts see it.
use Rattle.edge_claims.specs.Window.{Seen}
use Rattle.edge_claims.specs.declared.window.Kind.{Kind}
use Rattle.edge_claims.specs.declared.window.Kind.TheVariants.{Sole, Shared}

abbrev pub seen_of_kind : Kind → Seen
seen_of_kind (Sole w) = w
seen_of_kind (Shared w) = w
