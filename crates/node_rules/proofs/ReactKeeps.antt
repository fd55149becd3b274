-- A node that handles an event keeps all well.
use Rattle.std.proofs.Common.{◌≡◌, ℕ, ◌<◌, List, refl, sym, ap, subst}
use Rattle.sim_base.specs.declared.key.Key.{Key}
use Rattle.sim_base.specs.declared.time.Time.{Time}
use Rattle.sim_base.specs.Packet.{Packet}
use Rattle.csma_dev.specs.declared.bus.Bus.{Bus}
use Rattle.iface_step.specs.declared.words.Happening.TheVariants.{Arrive as Arrives, Sent as HasLeft, BusFree as BusIsFree, BackoffOver as BackoffIsOver, DiscReady as DiscIsReady, ArpTimer as ArpTimerEnds}
use Rattle.frag_core.specs.declared.words.In.TheVariants.{Timer as FragsTimer}
use Rattle.tcp_flow.specs.declared.words.In.TheVariants.{Timer}
use Rattle.traffic_apps.specs.declared.app.In.TheVariants.{Tick as TickInput}
use Rattle.traffic_apps.proofs.StepLaws.{step_is_later}
use Rattle.node_step.specs.declared.loads.Event.{Event}
use Rattle.node_step.specs.declared.loads.Load.{Load}
use Rattle.node_step.specs.declared.loads.Load.TheVariants.{Arrive, Sent, BusFree, BackoffOver, DiscReady, ArpTimer, FragTimer, TcpTimer, Tick}
use Rattle.node_step.specs.Apps.{app_takes}
use Rattle.node_step.specs.Node.{PlainNode, Progress, now as now_of}
use Rattle.node_step.specs.React.{begun, handled}
use Rattle.node_rules.specs.Health.{IsWellNode}
use Rattle.node_rules.specs.Shape.{Shape}
use Rattle.node_rules.proofs.AppKeeps.{app_takes-keeps}
use Rattle.node_rules.proofs.HearingKeeps.{conns_hear-keeps}
use Rattle.node_rules.proofs.Kept.{Keeps}
use Rattle.node_rules.proofs.ReassemblyKeeps.{frags_take-keeps}
use Rattle.node_rules.proofs.UpKeeps.{iface_happens-keeps}

handled-keeps : (ok : Type 0) (shape : Shape) (n : ℕ) → (ok → n < shape.nodes) → (was : Progress) (load : Load Packet) (p : Progress) →
    Keeps ok shape n was p → Keeps ok shape n was (handled load p)
unfolding handled
handled-keeps ok shape n known was (Arrive iface frame) p k = iface_happens-keeps ok shape n known was iface (Arrives frame) p k
handled-keeps ok shape n known was (Sent iface) p k = iface_happens-keeps ok shape n known was iface HasLeft p k
handled-keeps ok shape n known was (BusFree iface) p k = iface_happens-keeps ok shape n known was iface BusIsFree p k
handled-keeps ok shape n known was (BackoffOver iface) p k = iface_happens-keeps ok shape n known was iface BackoffIsOver p k
handled-keeps ok shape n known was (DiscReady iface) p k = iface_happens-keeps ok shape n known was iface DiscIsReady p k
handled-keeps ok shape n known was (ArpTimer iface addr stamp) p k =
    iface_happens-keeps ok shape n known was iface (ArpTimerEnds addr stamp) p k
handled-keeps ok shape n known was (FragTimer stamp) p k = frags_take-keeps ok shape n known was (FragsTimer stamp) p tt k
handled-keeps ok shape n known was (TcpTimer conn stamp) p k =
    conns_hear-keeps ok shape n known was (Timer (now_of p) conn stamp) p (ap (λ (key : Key). key.time.0) k.key) k
handled-keeps ok shape n known was (Tick app) p k =
    let now : Time = was.firing.key.time in
    let same : p.firing.key.time ≡ now = ap (λ (key : Key). key.time) k.key in
    subst (λ (t : Time). Keeps ok shape n was (app_takes app (TickInput t) p)) (sym same)
    (app_takes-keeps ok shape n known was app (TickInput now) p (λ a numbers kind. step_is_later a numbers (TickInput now) kind) k)

-- what an event leaves, before its sends are counted
abbrev pub progress : Event Packet → PlainNode → List Bus → Progress
progress e node lans = handled e.load (begun e node lans)

pub progress-keeps : (ok : Type 0) (shape : Shape) (e : Event Packet) (node : PlainNode) (lans : List Bus) → (ok → e.key.node.0 < shape.nodes) →
    (ok → IsWellNode shape e.key.node.0 node) → Keeps ok shape e.key.node.0 (begun e node lans) (progress e node lans)
progress-keeps ok shape e node lans known well =
    handled-keeps ok shape e.key.node.0 known (begun e node lans) e.load (begun e node lans)
    (record { key = refl; before = refl; scheduled = refl; first = refl; well = λ o. record { node = well o; requests = tt } })
