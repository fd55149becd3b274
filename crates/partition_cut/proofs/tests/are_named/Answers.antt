use Rattle.std.proofs.Common.{ℕ, ◌<◌, All, List, Vec, subst}
use Rattle.std.specs.Global.{Global}
use Rattle.std.proofs.lemmas.Bool.{OnTrue_at, OnTrue_from}
use Rattle.partition_cut.specs.Network.{Link}
use Rattle.partition_cut.proofs.tests.are_named.Goals as goal

pub returns-then-have_ends : goal.returns-then-have_ends
returns-then-have_ends c = OnTrue_from c.have_nodes.result _ (λ t.
    let nodes = c.args.shape.now.nodes in
    let P : List Link → Type 0 = λ links. All (λ (link : Link). (link.0 < nodes) × (link.1 < nodes)) links in
    let Q : List (Vec ℕ Global) → Type 0 = λ lans. All (λ (lan : Vec ℕ Global). All (λ node. node < nodes) lan.items) lans in (
      subst P c.as_slice-links.ensures.value (OnTrue_at c.if-have_ends.true c.have_ends.ensures),
      subst Q c.as_slice-lans.ensures.value (OnTrue_at t c.have_nodes.ensures),
    ))
