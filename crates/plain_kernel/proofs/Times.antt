-- The lines of a run have the times of its firings, which are below its stop.
use Rattle.std.proofs.Common.{◌≡◌, ℕ, ◌<◌, ◌≤◌, ◌^◌, zero, suc, List, [], ◌∷◌, map, refl, sym, subst, arith, Option, None, Some, All, length}
use Rattle.std.specs.List.{AllByRecursion}
use Rattle.std.proofs.lemmas.List.{map-append}
use Rattle.std.proofs.lemmas.List.Elements.{All-from_recursion}
use Rattle.sim_base.specs.declared.key.Key.{Key}
use Rattle.sim_base.specs.Packet.{Packet}
use Rattle.pkt_face.specs.declared.line.Line.{Line}
use Rattle.round_core.specs.Bound.{most_firings, plain_run}
use Rattle.round_core.specs.Lines.{lines_of, numbered}
use Rattle.round_core.specs.Opening.{opening}
use Rattle.round_core.specs.Rounds.{below, plain_firings}
use Rattle.round_core.specs.World.{Firing, Ready, Rules, World, after, after_next, fire, first, next}
use Rattle.round_core.proofs.Counts.{firings-at}
use Rattle.round_core.proofs.ListLaws.{all-append, first-passes}
use Rattle.round_core.proofs.Settling.{next-found}
use Rattle.round_core.proofs.Window.{below-time}
use Rattle.node_step.specs.Firing.{Text}
use Rattle.node_rules.specs.Firings.{trace_line}
use Rattle.node_rules.specs.Rules.{room, rules}
use Rattle.pkt_face.specs.Seen.{plain_line}
use Rattle.trace_merge.specs.Lines.{IsInTime}
use Rattle.sim_world.specs.World.{PlainWorld}
use Rattle.plain_kernel.specs.Run.{ending, run_lines, shape_in, start}

module _ {Node Lan Load Text : Type 0} (rules : Rules Node Lan Load Text) (end : ℕ) where
  abbrev Below : List (Firing Text) → Type 0
  Below fired = AllByRecursion (λ f. f.key.time.0 < end) fired

  below-next : (w : World Node Lan Load Text) → Below w.fired → Below (fire rules (below end) w).fired
  unfolding fire after
  below-next w h = go (next rules (below end) w) refl
    where
      go : (o : Option (Ready Node Lan Load Text)) → next rules (below end) w ≡ o → Below (after_next rules (below end) w o).fired
      go None is = h
      go (Some r) is = all-append (λ f. f.key.time.0 < end) w.fired (record { key = r.event.key; texts = r.effect.texts } ∷ []) h
          (below-time end r.event.key (first-passes (below end) w.pending r.event (next-found rules (below end) w r is).event), tt)

  fired-below : (n : ℕ) (w : World Node Lan Load Text) → Below w.fired → Below (plain_firings rules end n w).fired
  unfolding plain_firings
  fired-below zero w h = h
  fired-below (suc n) w h = fired-below n (fire rules (below end) w) (below-next w h)

module _ (end : ℕ) where
  abbrev pub AreBelow : List (Line Packet) → Type 0
  AreBelow lines = AllByRecursion (λ l. l.key.time.0 < end) lines

  texts-below : (key : Key) (index : ℕ) (texts : List Text) → key.time.0 < end → AreBelow (map trace_line (numbered key index texts))
  texts-below key index [] low = tt
  texts-below key index (t ∷ texts) low = (low, texts-below key (suc index) texts low)

  lines-below : (fired : List (Firing Text)) → AllByRecursion (λ f. f.key.time.0 < end) fired → AreBelow (map trace_line (lines_of fired))
  lines-below [] h = tt
  lines-below (f ∷ fired) h =
      subst AreBelow (sym (map-append trace_line (numbered f.key 0 f.texts) (lines_of fired)))
      (all-append (λ (l : Line Packet). l.key.time.0 < end) (map trace_line (numbered f.key 0 f.texts)) (map trace_line (lines_of fired))
      (texts-below f.key 0 f.texts h.0) (lines-below fired h.1))

pub run-below : (w : PlainWorld) → AreBelow w.stop.0 (run_lines w)
unfolding run_lines ending plain_run opening
run-below w =
    let final = plain_run (rules w.limit (shape_in w)) w.stop.0 (length w.nodes) (room w.limit) (start w) in
    subst (λ (fired : List (Firing Text)). AreBelow w.stop.0 (map trace_line (lines_of fired)))
    (sym (firings-at (rules w.limit (shape_in w)) w.stop.0 final (first (below w.stop.0) final.pending)))
    (lines-below w.stop.0 final.fired
    (fired-below (rules w.limit (shape_in w)) w.stop.0 (most_firings (length w.nodes) (room w.limit) (start w)) (start w) tt))

module _ {P : Type 0} (plain : P → Packet) (end : ℕ) (early : end ≤ 10 ^ 12) where
  pub own-times : (lines : List (Line P)) → AreBelow end (map (plain_line plain) lines) → AllByRecursion IsInTime lines
  own-times [] h = tt
  own-times (l ∷ lines) h = (omega (arith, h.0), own-times lines h.1)

  -- the times of these lines fit a capture file
  pub in-time : (w : PlainWorld) (lines : List (Line P)) → w.stop.0 ≡ end → map (plain_line plain) lines ≡ run_lines w → All IsInTime lines
  in-time w lines at is = All-from_recursion IsInTime lines
      (own-times lines (subst (λ (e : ℕ). AreBelow e (map (plain_line plain) lines)) at
      (subst (AreBelow w.stop.0) (sym is) (run-below w))))
