-- What holds of the shape of a scenario's network.
use Rattle.std.proofs.Common.{◌≡◌, ℕ, ◌<◌, ◌≤◌, List, All, Vec, length, get_or, map, refl, sym, ap, ◌∙◌, subst, arith}
use Rattle.std.specs.Global.{Global}
use Rattle.std.proofs.lemmas.List.{length-map}
use Rattle.std.proofs.lemmas.List.Elements.{All-map}
use Rattle.sim_base.specs.declared.key.NodeId.{NodeId}
use Rattle.partition_cut.specs.declared.network.Shape.{Shape}
use Rattle.partition_cut.specs.Network.{AreGroups, IsShape, Link as ShapeLink, PlainShape, node_lists, plain_shape}
use Rattle.scenario_form.specs.declared.scenario.Lan.{Lan}
use Rattle.scenario_form.specs.declared.scenario.Link.{Link}
use Rattle.scenario_form.specs.declared.scenario.Scenario.{Scenario}
use Rattle.scenario_form.specs.Limits.{IsGroup, IsWithinLimits}
use Rattle.scenario_form.specs.Shape.{IsNetworkOf, lans_of, links_of, network_of, numbers_of}

-- the links and LANs of a scenario name its nodes, and are few
pub is-shape : (s : Scenario) (shape : Shape) → IsWithinLimits s → IsNetworkOf s shape → IsShape shape
is-shape s shape within are = record {
  links = subst (λ (links : List ShapeLink). All (λ link. (link.0 < shape.nodes) × (link.1 < shape.nodes)) links) (sym are.links)
      (All-map (λ (link : ShapeLink). (link.0 < shape.nodes) × (link.1 < shape.nodes)) (λ (link : Link). (link.a.0, link.b.0, link.delay_ns)) s.links
      (λ k d low. let link = within.links k d low in let a = link.a in let b = link.b in let nodes = are.nodes in (omega arith, omega arith)));
  lans = subst (λ (lans : List (List ℕ)). All (λ lan. All (λ node. node < shape.nodes) lan) lans) (sym are.lans)
      (All-map (λ (lan : List ℕ). All (λ node. node < shape.nodes) lan) (λ (lan : Lan). numbers_of lan.members) s.lans
      (λ k d low. All-map (λ (node : ℕ). node < shape.nodes) (λ (node : NodeId). node.0) (get_or s.lans k d).members
      (λ j e there. let below = (within.lans k d low).below j e there in let nodes = are.nodes in omega arith)));
  few_links = (let l = ap length are.links ∙ length-map s.links (λ (link : Link). (link.a.0, link.b.0, link.delay_ns)) in let few = within.few.links in omega arith);
  few_lans = (let l = sym (length-map shape.lans.items (λ (list : Vec ℕ Global). list.items)) ∙ ap length are.lans
      ∙ length-map s.lans (λ (lan : Lan). numbers_of lan.members) in let few = within.few.lans in omega arith);
}

abbrev net : ℕ → List ShapeLink → List (List ℕ) → PlainShape
net nodes links lans = record { nodes = nodes; links = links; lans = lans }

-- the shape as plain data
pub is-network : (s : Scenario) (shape : Shape) → IsNetworkOf s shape → plain_shape shape ≡ network_of s
is-network s shape are =
    ap (λ n. net n shape.links.items (node_lists shape.lans.items)) are.nodes
    ∙ ap (λ (l : List ShapeLink). net s.nodes l (node_lists shape.lans.items)) are.links
    ∙ ap (λ (l : List (List ℕ)). net s.nodes (links_of s.links) l) are.lans

-- groups of a scenario's nodes are groups of the shape's
pub are-groups : (s : Scenario) (shape : Shape) (groups : List (List NodeId)) (numbers : List (List ℕ)) → IsNetworkOf s shape
    → numbers ≡ map numbers_of groups → All (IsGroup s.nodes) groups → AreGroups shape numbers
are-groups s shape groups numbers are same is =
    subst (λ (ns : List (List ℕ)). AreGroups shape ns) (sym same)
    (All-map (λ (group : List ℕ). (0 < length group) × All (λ node. node < shape.nodes) group) numbers_of groups
    (λ k d low. let group = is k d low in let some = group.some in let l = length-map (get_or groups k d) (λ (node : NodeId). node.0) in (
      omega arith,
      All-map (λ (node : ℕ). node < shape.nodes) (λ (node : NodeId). node.0) (get_or groups k d)
          (λ j e there. let below = group.below j e there in let nodes = are.nodes in omega arith),
    )))
