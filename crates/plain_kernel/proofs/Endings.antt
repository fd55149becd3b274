-- What a group of all nodes leaves is what the plain run leaves.
use Rattle.std.proofs.Common.{◌≡◌, ℕ, ◌<◌, true, List, length, map, get_or, slice_get, refl, sym, ap, ◌∙◌, arith, nat_lt, ◌&&◌, slice_index}
use Rattle.std.proofs.lemmas.List.{ext_get_or}
use Rattle.std.proofs.lemmas.List.FromFn.{get_or-map-range_with_len, length-map-range_with_len}
use Rattle.std.proofs.lemmas.Option.{slice_get-get_or}
use Rattle.sim_base.specs.declared.key.Key.{Key}
use Rattle.sim_base.specs.declared.key.NodeId.{NodeId}
use Rattle.sim_base.specs.Packet.{Packet}
use Rattle.csma_dev.specs.declared.bus.Bus.{Bus}
use Rattle.round_core.specs.Lines.{lines_of}
use Rattle.round_core.specs.Parts.{Part, PartRuns}
use Rattle.round_core.specs.Rounds.{Ending, Done, IsPlainRun, Limited, below, ending_at, firings_of, plain_firings}
use Rattle.round_core.specs.World.{Firing, first}
use Rattle.round_core.proofs.Ending.{plain-is_run}
use Rattle.node_step.specs.declared.loads.Load.{Load}
use Rattle.node_step.specs.Firing.{Text}
use Rattle.node_step.specs.Node.{PlainNode}
use Rattle.node_step.specs.Part.{has, place_of}
use Rattle.node_rules.specs.Firings.{trace_line}
use Rattle.node_rules.specs.Health.{health}
use Rattle.node_rules.specs.Rules.{room, rules}
use Rattle.node_rules.specs.Worlds.{no_node, node_or}
use Rattle.node_rules.proofs.RuleLaws.{bounded, lawful}
use Rattle.lp_run.specs.declared.stop.LpStop.TheVariants.{Limit}
use Rattle.lp_run.specs.Lp.{HasRunIn, HasStopped, PlainLp, nodes_of, own_group, part_of}
use Rattle.sim_world.specs.Opening.{OpensRuns}
use Rattle.sim_world.specs.World.{PlainWorld}
use Rattle.plain_kernel.specs.Run.{ending, nodes_in, run_lines, shape_in, start}
use Rattle.plain_kernel.proofs.Whole.{firings, group, group-sound, has-node, place-is, same-world, sound, well-in, whole}

abbrev GroupPart : Type 0
GroupPart = Part PlainNode Bus (Load Packet) Text

module _ (w : PlainWorld) (opens : OpensRuns w) where
  -- the runs of the group's part are plain runs
  plain-run : (left : GroupPart) → PartRuns (rules w.limit (shape_in w)) (own_group (whole w)) 0 w.stop.0 (part_of (group w)) left →
      IsPlainRun (rules w.limit (shape_in w)) w.stop.0 (start w) left.world
  plain-run left runs = record {
    steps = runs.steps;
    reached = ap (plain_firings (rules w.limit (shape_in w)) w.stop.0 runs.steps) (sym (same-world w))
        ∙ sym (firings w opens w.stop.0 runs.steps (part_of (group w)) (group-sound w opens))
        ∙ ap (λ (x : GroupPart). x.world) runs.reached;
    rests = runs.rests;
  }

  ends-so : (left : GroupPart) (o : Ending PlainNode Bus (Load Packet) Text) →
      PartRuns (rules w.limit (shape_in w)) (own_group (whole w)) 0 w.stop.0 (part_of (group w)) left →
      ending_at left.world (first (below w.stop.0) left.world.pending) ≡ o → ending w ≡ o
  unfolding ending
  ends-so left o runs is = (plain-is_run (rules w.limit (shape_in w)) (health (shape_in w)) (lawful w.limit (shape_in w)) (length w.nodes) (room w.limit)
      (bounded w.limit (shape_in w)) w.stop.0 (start w) o (sound w opens)).0
      (record { final = left.world; run = plain-run left runs; ends = is })

  -- a run that has come to its end
  pub done : (new : PlainLp) (run : HasRunIn (shape_in w) w.stop.0 (group w) new) → ending w ≡ Done run.left.world
  done new run = ends-so run.left (Done run.left.world) run.runs (ap (ending_at run.left.world) run.none)

  lines-by : (fired : List (Firing Text)) (o : Ending PlainNode Bus (Load Packet) Text) → ending w ≡ o → firings_of o ≡ fired →
      map trace_line (lines_of fired) ≡ run_lines w
  unfolding run_lines
  lines-by fired o is same = ap (λ x. map trace_line (lines_of x)) (sym same ∙ ap firings_of (sym is))

  pub done-lines : (new : PlainLp) → HasRunIn (shape_in w) w.stop.0 (group w) new → new.lines ≡ run_lines w
  done-lines new run = run.fired.lines ∙ lines-by run.left.world.fired (Done run.left.world) (done new run) refl

  -- a run that has met a limit
  pub limited : (new : PlainLp) (key : Key) (node : NodeId) → HasStopped w.stop.0 (group w) new (Limit key node) →
      ((fired : List (Firing Text)) × (ending w ≡ Limited key fired)) × (node ≡ key.node) × (new.lines ≡ run_lines w)
  limited new key node stopped =
      let h = stopped (shape_in w) (well-in w opens) in
      let is : ending w ≡ Limited key h.0.world.fired =
      ends-so h.0 (Limited key h.0.world.fired) h.2 (ap (ending_at h.0.world) h.3 ∙ ap (λ (k : Key). Limited k h.0.world.fired) h.4) in
      ((h.0.world.fired, is), h.5, h.6 ∙ lines-by h.0.world.fired (Limited key h.0.world.fired) is refl)

  -- the nodes that are left
  module _ (new : PlainLp) (run : HasRunIn (shape_in w) w.stop.0 (group w) new) where
    long : length new.part.nodes ≡ length w.nodes
    long = run.fired.count

    here : (n : ℕ) → n < length w.nodes → has n new.part ≡ true
    here n low = ap (λ (x : List ℕ). nat_lt n (length x) && nat_lt (slice_index x n) (length new.part.nodes)) run.fired.places
        ∙ ap (λ (x : ℕ). nat_lt n (length (whole w).places) && nat_lt (slice_index (whole w).places n) x) long ∙ has-node w n low

    place : (n : ℕ) → n < length w.nodes → place_of n new.part ≡ n
    place n low = ap (λ (x : List ℕ). slice_index x n) run.fired.places ∙ place-is w n low

    reads : (n : ℕ) (d : PlainNode) → n < length w.nodes → nodes_of new.part n ≡ get_or new.part.nodes n d
    unfolding nodes_of
    reads n d low =
        let inside : n < length new.part.nodes = let l = long in omega arith in
        rw (here n low) (ap (λ (i : ℕ). node_or n (slice_get new.part.nodes i)) (place n low)
        ∙ ap (node_or n) (slice_get-get_or new.part.nodes n d inside))

    pub nodes-left : new.part.nodes ≡ nodes_in (length w.nodes) run.left.world
    nodes-left = ext_get_or (no_node 0) new.part.nodes (nodes_in (length w.nodes) run.left.world)
        (long ∙ sym (length-map-range_with_len run.left.world.nodes 0 (length w.nodes)))
        (λ n low. let inside : n < length w.nodes = let l = long in omega arith in
        sym (reads n (no_node 0) inside)
        ∙ ap (λ (p : GroupPart). p.world.nodes n) run.fired.part
        ∙ sym (get_or-map-range_with_len run.left.world.nodes 0 (length w.nodes) n n (no_node 0) inside (omega arith)))
