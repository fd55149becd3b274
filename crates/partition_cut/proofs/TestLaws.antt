-- What tests of lists, one by one, say of a shape and of groups.
use Rattle.std.proofs.Common.{ℕ, ◌<◌, All, length, List, Vec, arith}
use Rattle.std.specs.Global.{Global}
use Rattle.std.proofs.lemmas.List.Elements.{All-map}
use Rattle.partition_cut.specs.declared.network.Shape.{Shape}
use Rattle.partition_cut.specs.Network.{AreGroups, IsShape, Link, node_lists}

pub shape-of : (shape : Shape) → All (λ (link : Link). (link.0 < shape.nodes) × (link.1 < shape.nodes)) shape.links.items →
    All (λ (lan : Vec ℕ Global). All (λ node. node < shape.nodes) lan.items) shape.lans.items →
    length shape.links.items < 100 → length shape.lans.items < 100 → IsShape shape
shape-of shape links lans few_links few_lans = record {
  links = links;
  lans = All-map (λ (lan : List ℕ). All (λ node. node < shape.nodes) lan) (λ (lan : Vec ℕ Global). lan.items) shape.lans.items lans;
  few_links = omega arith;
  few_lans = omega arith;
}

pub groups-of : (shape : Shape) (groups : List (Vec ℕ Global)) → All (λ (group : Vec ℕ Global). 0 < length group.items) groups →
    All (λ (group : Vec ℕ Global). All (λ node. node < shape.nodes) group.items) groups → AreGroups shape (node_lists groups)
groups-of shape groups full named = All-map (λ (group : List ℕ). (0 < length group) × All (λ node. node < shape.nodes) group)
    (λ (group : Vec ℕ Global). group.items) groups (λ k d lt. (full k d lt, named k d lt))
