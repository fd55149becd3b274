-- An application at work keeps all well.
use Rattle.std.proofs.Common.{◌≡◌, ℕ, ◌<◌, All, Some, slice_get, sym, ap, subst, inl}
use Rattle.sim_base.specs.declared.key.Key.{Key}
use Rattle.std.proofs.lemmas.Option.{slice_get_within}
use Rattle.sim_base.specs.declared.numbers.Numbers.{Numbers}
use Rattle.sim_base.specs.declared.time.Time.{Time}
use Rattle.sim_base.specs.Packet.{Packet}
use Rattle.layer_words.specs.Acts.{Numbered}
use Rattle.ipv4_core.specs.Routes.{route, source}
use Rattle.traffic_apps.specs.declared.app.Act.{Act}
use Rattle.tcp_flow.specs.declared.words.In.TheVariants.{Connect as OpenConnection, Write as WriteBytes, Close as CloseConnection}
use Rattle.traffic_apps.specs.declared.app.Act.TheVariants.{UdpSend, PingSend, TickAt, Connect, Write, Close}
use Rattle.traffic_apps.specs.declared.app.In.{In}
use Rattle.traffic_apps.specs.App.{PlainApp, IsKind}
use Rattle.traffic_apps.specs.Step.{IsLater, step}
use Rattle.udp_icmp.specs.declared.ports.In.TheVariants.{UdpSend as SendDatagram, PingSend as SendRequest}
use Rattle.node_step.specs.declared.loads.Load.TheVariants.{Tick}
use Rattle.node_step.specs.Apps.{carry_app, counted_app, stepped_app, app_counts, app_takes}
use Rattle.node_step.specs.LocalApp.{PlainLocalApp, app_step}
use Rattle.node_step.specs.Node.{Progress, now as now_of, with_app, with_numbers}
use Rattle.node_rules.specs.Shape.{Shape}
use Rattle.node_rules.proofs.AppActs.{IsStillIt, step-same}
use Rattle.node_rules.proofs.AskingKeeps.{conns_ask-keeps}
use Rattle.node_rules.proofs.Folds.{fold-keeps}
use Rattle.node_rules.proofs.Kept.{Keeps, app-keeps, changed-keeps, numbers-keep, schedule-keeps}
use Rattle.node_rules.proofs.SendingKeeps.{ports_send-keeps}

module _ (ok : Type 0) (shape : Shape) (n : ℕ) (known : ok → n < shape.nodes) (was : Progress) where
  abbrev now : Time
  now = was.firing.key.time

  abbrev K : Progress → Type 0
  K p = Keeps ok shape n was p

  at-now : (p : Progress) → K p → p.firing.key.time.0 ≡ now.0
  at-now p k = ap (λ (key : Key). key.time.0) k.key

  carry_app-keeps : (app port : ℕ) (act : Act Packet) (p : Progress) → (ok → app < shape.apps n) → (ok → IsLater now.0 act) → K p →
      K (carry_app app port p act)
  unfolding carry_app
  carry_app-keeps app port (UdpSend dst to packet) p inside is k =
      ports_send-keeps ok shape n known was (SendDatagram (source (route dst p.node.ip.routes)) port dst to packet) p k
  carry_app-keeps app port (PingSend dst rest packet) p inside is k =
      ports_send-keeps ok shape n known was (SendRequest dst rest packet) p k
  carry_app-keeps app port (TickAt at) p inside is k = schedule-keeps ok shape n was at p.node.numbers.node (Tick app) p
      (λ o. let own : p.node.numbers.node.0 ≡ n = (k.well o).node.number in
      record {
        later = is o;
        known = subst (λ (m : ℕ). m < shape.nodes) (sym own) (known o);
        load = subst (λ (m : ℕ). app < shape.apps m) (sym own) (inside o);
        reach = inl own;
      }) k
  carry_app-keeps app port (Connect dst to mss) p inside is k =
      conns_ask-keeps ok shape n known was (OpenConnection (now_of p) app (source (route dst p.node.ip.routes)) port dst to mss) p (at-now p k) k
  carry_app-keeps app port (Write bytes) p inside is k =
      conns_ask-keeps ok shape n known was (WriteBytes (now_of p) app bytes) p (at-now p k) k
  carry_app-keeps app port Close p inside is k = conns_ask-keeps ok shape n known was (CloseConnection (now_of p) app) p (at-now p k) k

  stepped_app-keeps : (app : ℕ) (a : PlainLocalApp) (s : Numbered PlainLocalApp (Act Packet)) (p : Progress) →
      slice_get p.node.apps app ≡ Some a → s.state.app.kind ≡ a.app.kind → s.numbers.node ≡ p.node.numbers.node →
      (IsKind a.app.kind → All (IsLater now.0) s.acts) → K p → K (stepped_app app s p)
  stepped_app-keeps app a s p at kind node later k =
      fold-keeps K (λ act. ok → IsLater now.0 act) (carry_app app s.state.port)
      (λ q act is kept. carry_app-keeps app s.state.port act q
      (λ o. subst (λ (m : ℕ). app < m) (k.well o).node.apps (slice_get_within p.node.apps app a at)) is kept)
      s.acts (with_numbers s.numbers (with_app app s.state p)) (λ i d below o. later ((k.well o).node.each_app app a at) i d below)
      (numbers-keep ok shape n was s.numbers (with_app app s.state p) node
      (app-keeps ok shape n was app a s.state p at (λ is. subst IsKind (sym kind) is) k))

  pub app_takes-keeps : (app : ℕ) (input : In Packet) (p : Progress) →
      ((a : PlainApp) (numbers : Numbers) → IsKind a.kind → All (IsLater now.0) (step a numbers input).acts) → K p →
      K (app_takes app input p)
  unfolding app_takes app_step
  app_takes-keeps app input p later k =
      changed-keeps K (slice_get p.node.apps app) (λ a. stepped_app app (app_step a p.node.numbers input) p) p
      (λ a at. let same : IsStillIt a.app p.node.numbers (step a.app p.node.numbers input) = step-same a.app p.node.numbers input in
      stepped_app-keeps app a (app_step a p.node.numbers input) p at same.kind same.node (λ is. later a.app p.node.numbers is) k) k

  counted_app-keeps : (app : ℕ) (a : PlainLocalApp) (s : Numbered PlainLocalApp (Act Packet)) (p : Progress) →
      slice_get p.node.apps app ≡ Some a → s.state.app.kind ≡ a.app.kind → s.numbers.node ≡ p.node.numbers.node → K p → K (counted_app app s p)
  counted_app-keeps app a s p at kind node k =
      numbers-keep ok shape n was s.numbers (with_app app s.state p) node
      (app-keeps ok shape n was app a s.state p at (λ is. subst IsKind (sym kind) is) k)

  pub app_counts-keeps : (app : ℕ) (input : In Packet) (p : Progress) → K p → K (app_counts app input p)
  unfolding app_counts app_step
  app_counts-keeps app input p k =
      changed-keeps K (slice_get p.node.apps app) (λ a. counted_app app (app_step a p.node.numbers input) p) p
      (λ a at. let same : IsStillIt a.app p.node.numbers (step a.app p.node.numbers input) = step-same a.app p.node.numbers input in
      counted_app-keeps app a (app_step a p.node.numbers input) p at same.kind same.node k) k
