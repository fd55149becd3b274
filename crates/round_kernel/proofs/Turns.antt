-- Rounds move on, and end.
use Rattle.std.proofs.Common.{◌≡◌, ℕ, ◌<◌, ◌≤◌, List, [], Option, Some, None, slice_get, refl, arith}
use Rattle.sim_base.specs.Packet.{Packet}
use Rattle.partition_cut.specs.declared.network.Cut.{Cut}
use Rattle.round_core.specs.Rounds.{Done, PlainEnds, below, times_of, windows}
use Rattle.round_core.specs.World.{Event, Firing, first, with_log}
use Rattle.round_core.proofs.ListLaws.{first-holds, first-passes}
use Rattle.round_core.proofs.OneGroup.{last-round}
use Rattle.round_core.proofs.Window.{below-time}
use Rattle.node_step.specs.declared.loads.Load.{Load}
use Rattle.node_step.specs.Firing.{Text}
use Rattle.node_rules.specs.Health.{health}
use Rattle.node_rules.specs.Rules.{rules}
use Rattle.node_rules.proofs.RuleLaws.{lawful}
use Rattle.lp_run.specs.Lp.{PlainLp}
use Rattle.sim_world.specs.World.{PlainWorld}
use Rattle.plain_kernel.specs.Run.{shape_in, start}
use Rattle.round_kernel.specs.Cut.{Fits, rounds_cut}
use Rattle.round_kernel.specs.Groups.{Between, part_at, parts_of}
use Rattle.round_kernel.proofs.RoundLaws.{allowed}

first-none : (stop : ℕ) → first {Load = Load Packet} (below stop) [] ≡ None
unfolding first
first-none stop = refl

module _ (w : PlainWorld) (cut : Cut) (fits : Fits w cut) (lps : List PlainLp) (written : List (Firing Text)) (rounds last : ℕ)
    (at : Between w cut lps written rounds last) where
  -- each window ends later than the one before, and not above the stop
  pub moves : (least : Event (Load Packet)) (end : ℕ) → first (below w.stop.0) at.next.world.pending ≡ Some least →
      (rounds_cut w cut).end_of least.key.time.0 ≡ end → (last < end) × (end ≤ w.stop.0)
  moves least end begins ends =
      let low = below-time w.stop.0 least.key (first-passes (below w.stop.0) at.next.world.pending least begins) in
      let above = first-holds (below w.stop.0) (λ (e : Event (Load Packet)). last ≤ e.key.time.0) at.next.world.pending least at.next.fills.above begins in
      let later = (allowed w cut fits).above least.key.time.0 low in
      let within = (allowed w cut fits).within least.key.time.0 low in
      (omega arith, omega arith)

  -- where no group has an event left below the stop, the run has come to its end
  pub done : ((g : ℕ) (lp : PlainLp) → slice_get lps g ≡ Some lp → first (below w.stop.0) lp.pending ≡ None) →
      PlainEnds (rules w.limit (shape_in w)) w.stop.0 (start w) (Done (with_log written at.next.world)) × (rounds ≡ windows (rounds_cut w cut).end_of 0 (times_of written))
  done none = last-round (rules w.limit (shape_in w)) (health (shape_in w)) (lawful w.limit (shape_in w)) w.stop.0 (start w) (rounds_cut w cut)
      written rounds last (parts_of lps) at.next (λ g. none-at g (slice_get lps g) refl)
    where
      none-at : (g : ℕ) (o : Option PlainLp) → slice_get lps g ≡ o → first (below w.stop.0) (part_at o).world.pending ≡ None
      none-at g None is = first-none w.stop.0
      none-at g (Some lp) is = none g lp is
