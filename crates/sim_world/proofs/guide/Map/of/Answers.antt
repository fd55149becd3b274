use Rattle.std.proofs.Common.{◌≡◌, ℕ, ◌+◌, ◌<◌, List, length, map, ap, refl, sym, subst, ◌∙◌, arith}
use Rattle.std.specs.Prelude.{All}
use Rattle.route_calc.specs.declared.graph.Graph.{Graph}
use Rattle.route_calc.specs.Least.{nets_of}
use Rattle.sim_world.specs.declared.ends.End.{End}
use Rattle.sim_world.specs.Graph.{costs_of, nets_by, number_of}
use Rattle.sim_world.specs.Grouping.{grouped, joined}
use Rattle.sim_world.specs.Networks.{IsNetwork}
use Rattle.sim_world.specs.World.{all_ends, nets_in, on_in}
use Rattle.sim_world.proofs.GroupLaws.{length-grouped}
use Rattle.sim_world.proofs.MapLaws.{costs_are, has_its_nodes, length_costs, length_nets, networks_in, numbers_in}
use Rattle.sim_world.proofs.guide.Map.of.Goals as goal

pub ends_on_each-requires : goal.ends_on_each-requires
ends_on_each-requires c =
    let s = c.args.scenario.now in
    let costs : c.in_ok-costs.costs.items ≡ costs_of s.links s.lans = c.in_ok-costs.ensures ∙ (λ i. costs_of (c.as_slice.ensures i) (c.as_slice-2.ensures i)) in
    let all : c.as_slice-3.result.now ≡ all_ends s = c.as_slice-3.ensures.value ∙ c.in_ok-all.ensures ∙ ap joined c.requires.ends in
    let count : c.len.result + c.len-2.result ≡ length (costs_of s.links s.lans) = omega (arith, c.len.ensures, c.len-2.ensures, length_costs s.links s.lans) in
    subst (λ (n : ℕ). All (λ (e : End). number_of e < n) c.as_slice-3.result.now) (sym count)
    (subst (All (λ (e : End). number_of e < length (costs_of s.links s.lans))) (sym all) (numbers_in s))

pub nets-requires : goal.nets-requires
nets-requires c =
    let s = c.args.scenario.now in
    let costs : c.in_ok-costs.costs.items ≡ costs_of s.links s.lans = c.in_ok-costs.ensures ∙ (λ i. costs_of (c.as_slice.ensures i) (c.as_slice-2.ensures i)) in
    let count : c.len.result + c.len-2.result ≡ length (costs_of s.links s.lans) = omega (arith, c.len.ensures, c.len-2.ensures, length_costs s.links s.lans) in
    ap length (c.as_slice-5.ensures.value ∙ c.in_ok-on.ensures) ∙ length-grouped number_of (c.len.result + c.len-2.result) c.as_slice-3.result.now ∙ count
    ∙ ap length (sym (c.as_slice-4.ensures.value ∙ costs))

pub places_of-requires : goal.places_of-requires
places_of-requires c =
    let s = c.args.scenario.now in
    let costs : c.in_ok-costs.costs.items ≡ costs_of s.links s.lans = c.in_ok-costs.ensures ∙ (λ i. costs_of (c.as_slice.ensures i) (c.as_slice-2.ensures i)) in
    let all : c.as_slice-3.result.now ≡ all_ends s = c.as_slice-3.ensures.value ∙ c.in_ok-all.ensures ∙ ap joined c.requires.ends in
    let count : c.len.result + c.len-2.result ≡ length (costs_of s.links s.lans) = omega (arith, c.len.ensures, c.len-2.ensures, length_costs s.links s.lans) in
    let on : c.in_ok-on.on.items ≡ on_in s = c.in_ok-on.ensures ∙ (λ i. grouped number_of (count i) (all i)) in
    let g : Graph = record { nodes = s.nodes; nets = c.in_ok-nets.field-0 } in
    let nets : nets_of g ≡ nets_in s = c.in_ok-nets.ensures ∙ (λ i. nets_by ((c.as_slice-4.ensures.value ∙ costs) i) ((c.as_slice-5.ensures.value ∙ on) i)) in
    has_its_nodes s g c.requires.limits refl nets

pub returns-clause-map : goal.returns-clause-map
returns-clause-map c =
    let s = c.args.scenario.now in
    let costs : c.in_ok-costs.costs.items ≡ costs_of s.links s.lans = c.in_ok-costs.ensures ∙ (λ i. costs_of (c.as_slice.ensures i) (c.as_slice-2.ensures i)) in
    let all : c.as_slice-3.result.now ≡ all_ends s = c.as_slice-3.ensures.value ∙ c.in_ok-all.ensures ∙ ap joined c.requires.ends in
    let count : c.len.result + c.len-2.result ≡ length (costs_of s.links s.lans) = omega (arith, c.len.ensures, c.len-2.ensures, length_costs s.links s.lans) in
    let on : c.in_ok-on.on.items ≡ on_in s = c.in_ok-on.ensures ∙ (λ i. grouped number_of (count i) (all i)) in
    record {
      nodes = refl;
      nets = c.in_ok-nets.ensures ∙ (λ i. nets_by ((c.as_slice-4.ensures.value ∙ costs) i) ((c.as_slice-5.ensures.value ∙ on) i));
      on = on;
    }

pub returns-clause-within : goal.returns-clause-within
returns-clause-within c =
    let s = c.args.scenario.now in
    let costs : c.in_ok-costs.costs.items ≡ costs_of s.links s.lans = c.in_ok-costs.ensures ∙ (λ i. costs_of (c.as_slice.ensures i) (c.as_slice-2.ensures i)) in
    let all : c.as_slice-3.result.now ≡ all_ends s = c.as_slice-3.ensures.value ∙ c.in_ok-all.ensures ∙ ap joined c.requires.ends in
    let count : c.len.result + c.len-2.result ≡ length (costs_of s.links s.lans) = omega (arith, c.len.ensures, c.len-2.ensures, length_costs s.links s.lans) in
    let on : c.in_ok-on.on.items ≡ on_in s = c.in_ok-on.ensures ∙ (λ i. grouped number_of (count i) (all i)) in
    let g : Graph = record { nodes = s.nodes; nets = c.in_ok-nets.field-0 } in
    let nets : nets_of g ≡ nets_in s = c.in_ok-nets.ensures ∙ (λ i. nets_by ((c.as_slice-4.ensures.value ∙ costs) i) ((c.as_slice-5.ensures.value ∙ on) i)) in
    record {
      its_nodes = has_its_nodes s g c.requires.limits refl nets;
      some = costs_are s g c.requires.limits nets;
      places = c.in_ok-places.ensures;
      count = ap length on ∙ length_nets s g nets;
      networks = subst (All (All (λ (e : End). IsNetwork e.network))) (sym on) (networks_in s c.requires.limits);
    }
