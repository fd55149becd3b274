-- A group's firing is one of its part of the rounds.
use Rattle.std.proofs.Common.{◌≡◌, ℕ, ◌==◌, true, List, [], ◌∷◌, ◌++◌, length, map, filter, not, refl, sym, ap, ◌∙◌, Some, None, Option, slice_get, cond}
use Rattle.std.proofs.lemmas.List.{length-set, append-nil}
use Rattle.sim_base.specs.Packet.{Packet}
use Rattle.csma_dev.specs.declared.bus.Bus.{Bus}
use Rattle.layer_words.specs.Counting.{count_up}
use Rattle.round_core.specs.Lines.{numbered, lines_of}
use Rattle.round_core.specs.Order.{insert_each}
use Rattle.round_core.specs.Parts.{Part, is_for, part_after}
use Rattle.round_core.specs.Rounds.{below}
use Rattle.round_core.specs.World.{Event, Ready, Limit, allowed, ready, reaction, scheduled, seen, first, without_first, next, after}
use Rattle.node_step.specs.declared.loads.Event.{Event as NodeEvent}
use Rattle.node_step.specs.declared.loads.Load.{Load}
use Rattle.node_step.specs.Firing.{Text, bus_at}
use Rattle.node_step.specs.Node.{PlainNode}
use Rattle.node_step.specs.Part.{Fired, PlainPart, has, place_of}
use Rattle.node_rules.specs.Firings.{FiresSo, trace_line}
use Rattle.node_rules.specs.Rules.{rules}
use Rattle.node_rules.specs.Shape.{Shape, sits_on}
use Rattle.node_rules.specs.Worlds.{event_of, node_or}
use Rattle.lp_run.specs.Lp.{PlainLp, StandApart, HasFired, counted, nodes_of, own_group, part_of, unlogged_part}
use Rattle.lp_run.proofs.Nodes.{nodes-after, nodes-by, with_node}

-- a group after an event has fired: what is for its own nodes is pending, and the rest is kept for the others
abbrev pub lp_after : PlainLp → List (Event (Load Packet)) → Fired → PlainLp
lp_after lp rest f = record {
  part = f.part;
  pending = insert_each (λ e. e.key) (filter (is_for (own_group lp.part) 0) (map event_of f.sends)) rest;
  sends = lp.sends ++ filter (λ e. not (is_for (own_group lp.part) 0 e)) (map event_of f.sends);
  lines = lp.lines ++ f.lines;
  fired = count_up 1 lp.fired;
}

module _ (shape : Shape) (end : ℕ) (lp : PlainLp) (e : NodeEvent Packet) (rest : List (Event (Load Packet))) (node : PlainNode)
    (is_here : has e.key.node.0 lp.part ≡ true) (at : slice_get lp.part.nodes (place_of e.key.node.0 lp.part) ≡ Some node)
    (found : first (below end) lp.pending ≡ Some (event_of e)) (left : without_first (below end) lp.pending ≡ rest) where
  reads : nodes_of lp.part e.key.node.0 ≡ node
  unfolding nodes_of
  reads = rw is_here (ap (node_or e.key.node.0) at)

  abbrev sees : ℕ → Option Bus
  sees = seen (rules lp.part.limit shape) e.key.node.0 (bus_at lp.part.lans)

  pub reacts : reaction (rules lp.part.limit shape) (part_of lp).world (event_of e) ≡ (rules lp.part.limit shape).react (event_of e) node sees
  unfolding reaction
  reacts = ap (λ (x : PlainNode). (rules lp.part.limit shape).react (event_of e) x sees) reads

  -- where the node may schedule no more, nothing is to fire
  pub step-refused : (rules lp.part.limit shape).react (event_of e) node sees ≡ Limit →
      next (rules lp.part.limit shape) (below end) (part_of lp).world ≡ None
  unfolding next
  step-refused limit = ap (ready (rules lp.part.limit shape) (part_of lp).world) found ∙ ap (allowed (event_of e)) (reacts ∙ limit)

  module _ (apart : StandApart lp.part) (f : Fired) (so : FiresSo shape lp.part e node f) where
    abbrev step : Ready PlainNode Bus (Load Packet) Text
    step = record { event = event_of e; effect = so.effect }

    pub step-next : next (rules lp.part.limit shape) (below end) (part_of lp).world ≡ Some step
    unfolding next
    step-next = ap (ready (rules lp.part.limit shape) (part_of lp).world) found ∙ ap (allowed (event_of e)) (reacts ∙ so.reacts)

    abbrev new_nodes : ℕ → PlainNode
    new_nodes n = cond (n == e.key.node.0) so.effect.node (nodes_of lp.part n)

    abbrev events : List (Event (Load Packet))
    events = scheduled e.key ((rules lp.part.limit shape).counter (nodes_of lp.part e.key.node.0)) so.effect.sends

    abbrev new_lans : ℕ → Bus
    new_lans l = cond (sits_on shape e.key.node.0 l) (so.effect.lans l) (bus_at lp.part.lans l)

    abbrev after_by : (ℕ → PlainNode) → (ℕ → Bus) → List (Event (Load Packet)) → List (Event (Load Packet)) → Part PlainNode Bus (Load Packet) Text
    after_by nodes lans sends pending = record {
      world = record {
        nodes = nodes;
        lans = lans;
        pending = insert_each (λ x. x.key) (filter (is_for (own_group lp.part) 0) sends) pending;
        fired = [];
      };
      sent = lp.sends ++ filter (λ x. not (is_for (own_group lp.part) 0 x)) sends;
    }

    same_part : after_by new_nodes new_lans events (without_first (below end) lp.pending)
        ≡ unlogged_part (part_after (rules lp.part.limit shape) (own_group lp.part) 0 end (part_of lp) step)
    unfolding part_after after
    same_part = refl

    same_events : map event_of f.sends ≡ events
    same_events = so.sends ∙ ap (λ (x : PlainNode). scheduled e.key ((rules lp.part.limit shape).counter x) so.effect.sends) (sym reads)

    same_nodes : nodes_of f.part ≡ new_nodes
    same_nodes = nodes-by f.part (with_node lp.part (place_of e.key.node.0 lp.part) so.effect.node) so.places so.nodes
        ∙ nodes-after lp.part apart e.key.node.0 so.effect.node is_here

    same_lans : bus_at f.part.lans ≡ new_lans
    same_lans = λ i l. so.lans l i

    log : (part_after (rules lp.part.limit shape) (own_group lp.part) 0 end (part_of lp) step).world.fired
        ≡ record { key = e.key; texts = so.effect.texts } ∷ []
    unfolding part_after after
    log = refl

    pub step-fires : HasFired lp (lp_after lp rest f) (part_after (rules lp.part.limit shape) (own_group lp.part) 0 end (part_of lp) step)
    step-fires = record {
      places = so.places;
      count = ap length so.nodes ∙ length-set lp.part.nodes (place_of e.key.node.0 lp.part) so.effect.node;
      lans = so.count;
      limit = so.limit;
      part = ap (λ (x : ℕ → PlainNode). after_by x (bus_at f.part.lans) (map event_of f.sends) rest) same_nodes
          ∙ ap (λ (x : ℕ → Bus). after_by new_nodes x (map event_of f.sends) rest) same_lans
          ∙ ap (λ x. after_by new_nodes new_lans x rest) same_events ∙ ap (after_by new_nodes new_lans events) (sym left) ∙ same_part;
      lines = ap (λ x. lp.lines ++ x) (so.lines ∙ sym (append-nil (map trace_line (numbered e.key 0 so.effect.texts))) ∙ more)
          ∙ ap (λ x. lp.lines ++ map trace_line (lines_of x)) (sym log);
      fired = ap (λ x. counted (length x) lp.fired) (sym log);
    }
      where
        more : map trace_line (numbered e.key 0 so.effect.texts) ++ [] ≡ map trace_line (numbered e.key 0 so.effect.texts ++ [])
        more = append-nil _ ∙ ap (map trace_line) (sym (append-nil (numbered e.key 0 so.effect.texts)))
