-- A group of all nodes can be made, and what it leaves is told by its report.
use Rattle.std.proofs.Common.{◌≡◌, ◌≢◌, List, [], ◌∷◌, map, sym, ap, ◌∙◌, subst}
use Rattle.sim_base.specs.declared.key.Key.{Key}
use Rattle.sim_base.specs.declared.key.NodeId.{NodeId}
use Rattle.sim_base.specs.declared.time.Time.{Time}
use Rattle.sim_base.specs.Packet.{Packet}
use Rattle.round_core.specs.Opening.{HaveOwnKeys}
use Rattle.round_core.specs.World.{Event}
use Rattle.round_core.proofs.ListLaws.{all-map}
use Rattle.node_step.specs.declared.loads.Event.{Event as NodeEvent}
use Rattle.node_step.specs.Part.{PlainPart, counts, drops}
use Rattle.node_rules.specs.Worlds.{event_of}
use Rattle.lp_run.specs.declared.stop.LpStop.{LpStop}
use Rattle.lp_run.specs.declared.stop.LpStop.TheVariants.{Limit}
use Rattle.lp_run.specs.Lp.{HasRun, HasRunIn, HasStopped, PlainLp, made}
use Rattle.lp_run.specs.Pending.{AreNew}
use Rattle.sim_world.specs.Opening.{OpensRuns}
use Rattle.sim_world.specs.World.{PlainWorld}
use Rattle.plain_kernel.specs.declared.report.Report.{Report}
use Rattle.plain_kernel.specs.Stop.{HasEnded, MeetsLimit}
use Rattle.plain_kernel.proofs.Endings.{done, limited, nodes-left}
use Rattle.plain_kernel.specs.Run.{shape_in}
use Rattle.plain_kernel.proofs.Whole.{group, well-in, whole}

pub all-new : {Load : Type 0} (events : List (Event Load)) → HaveOwnKeys (λ e. e.key) events → AreNew events []
all-new [] own = tt
all-new (e ∷ events) own = (tt, all-map _ (λ x. x.key ≢ e.key) (λ x differ same. differ (sym same)) events own.0, all-new events own.1)

-- what a group reports that has come to its end
pub ended : (w : PlainWorld) (opens : OpensRuns w) (new : PlainLp) (run : HasRunIn (shape_in w) w.stop.0 (group w) new) (report : Report) →
    report.events ≡ new.fired → report.drops ≡ drops new.part.nodes → report.apps.items ≡ counts new.part.nodes →
    report.windows ≡ 0 → report.group_events.items ≡ [] → HasEnded w report
ended w opens new run report events drops_are apps windows groups =
    let left = nodes-left w opens new run in
    record {
      final = run.left.world;
      ends = done w opens new run;
      reports = record {
        events = events ∙ run.fired.fired;
        drops_are = drops_are ∙ ap drops left;
        apps = apps ∙ ap counts left;
        windows = windows;
        groups = groups;
      };
    }

-- a group that was made of a world's nodes and first events, up to the world's stop
module _ (w : PlainWorld) (end : Time) (lp new : PlainLp) (end_is : end ≡ w.stop) (lp_is : lp ≡ group w) where
  pub ran : OpensRuns w → HasRun end.0 lp new → HasRunIn (shape_in w) w.stop.0 (group w) new
  ran opens h = (subst (λ (x : PlainLp). HasRun w.stop.0 x new) lp_is (subst (λ (t : Time). HasRun t.0 lp new) end_is h))
      (shape_in w) (well-in w opens)

  pub stopped : (stop : LpStop) (key : Key) (node : NodeId) → stop ≡ Limit key node → HasStopped end.0 lp new stop →
      HasStopped w.stop.0 (group w) new (Limit key node)
  stopped stop key node is h =
      subst (λ (x : PlainLp). HasStopped w.stop.0 x new (Limit key node)) lp_is
      (subst (λ (t : Time). HasStopped t.0 lp new (Limit key node)) end_is
      (subst (λ (s : LpStop). HasStopped end.0 lp new s) is h))

pub meets : (w : PlainWorld) (opens : OpensRuns w) (new : PlainLp) (key : Key) (node : NodeId) →
    HasStopped w.stop.0 (group w) new (Limit key node) → MeetsLimit w key node
meets w opens new key node h = let l = limited w opens new key node h in record { fired = l.0.0; ends = l.0.1; node_is = l.1 }

-- a group is that of a world, where its part and its first events are
pub is-group : (w : PlainWorld) (lp : PlainLp) (part : PlainPart) (first : List (NodeEvent Packet)) → lp ≡ made part (map event_of first) →
    part ≡ whole w → first ≡ w.first → lp ≡ group w
is-group w lp part first is part_is first_is =
    is ∙ ap (λ (x : PlainPart). made x (map event_of first)) part_is
    ∙ ap (λ (l : List (NodeEvent Packet)). made (whole w) (map event_of l)) first_is
