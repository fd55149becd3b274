-- A firing reads and writes no bus but those on which its node sits.
use Rattle.std.proofs.Common.{◌≡◌, ℕ, Bool, true, false, List, [], ◌∷◌, Option, None, Some, slice_get, slice_set, refl, sym, ap, ◌∙◌, subst, inl, inr}
use Rattle.std.specs.Prelude.{fold, nat_lt, if◌then◌else◌}
use Rattle.std.proofs.lemmas.Bool.{cases_eq}
use Rattle.std.proofs.lemmas.Option.{same_Some}
use Rattle.sim_base.specs.declared.time.Time.{Time}
use Rattle.sim_base.specs.Packet.{Packet, len}
use Rattle.csma_dev.specs.declared.bus.Bus.{Bus}
use Rattle.layer_words.specs.Acts.{Made, Numbered}
use Rattle.iface_step.specs.declared.words.Act.{Act as IfaceAct}
use Rattle.iface_step.specs.declared.words.Act.TheVariants.{Schedule, Write, Up, Dropped as DroppedBelow}
use Rattle.iface_step.specs.declared.words.Happening.{Happening}
use Rattle.iface_step.specs.declared.words.In.{In as IfaceIn}
use Rattle.iface_step.specs.declared.words.In.TheVariants.{Send, Happens}
use Rattle.iface_step.specs.Attachment.{lan_of}
use Rattle.iface_step.specs.Iface.{PlainIface}
use Rattle.iface_step.specs.Step.{step}
use Rattle.iface_step.specs.Transit.{Progress as IfaceProgress}
use Rattle.ipv4_core.specs.declared.ip.Act.{Act as IpAct}
use Rattle.ipv4_core.specs.declared.ip.Act.TheVariants.{Out, Local, Report as ReportByIp, Dropped as DroppedByIp}
use Rattle.ipv4_core.specs.declared.ip.In.{In as IpIn}
use Rattle.ipv4_core.specs.declared.ip.In.TheVariants.{Send as SendByIp}
use Rattle.ipv4_core.specs.declared.routes.Hop.{Hop}
use Rattle.ipv4_core.specs.Ip.{step as ip_step}
use Rattle.ipv4_core.specs.Routes.{hop, route, source}
use Rattle.udp_icmp.specs.declared.ports.Act.{Act as PortsAct}
use Rattle.udp_icmp.specs.declared.ports.Act.TheVariants.{ToIp, ToApp, Report as ReportByPorts, Dropped}
use Rattle.udp_icmp.specs.declared.ports.In.{In as PortsIn}
use Rattle.udp_icmp.specs.declared.ports.In.TheVariants.{UdpSend as SendDatagram, PingSend as SendRequest}
use Rattle.udp_icmp.specs.Step.{step as ports_step}
use Rattle.tcp_flow.specs.declared.words.Act.{Act as ConnsAct}
use Rattle.tcp_flow.specs.declared.words.Act.TheVariants.{Emit, TimerAt, Connected, Room, Deliver, End, Reset, Dropped as DroppedByConns}
use Rattle.tcp_flow.specs.declared.words.In.{In as ConnsIn}
use Rattle.tcp_flow.specs.declared.words.In.TheVariants.{Connect as OpenConnection, Write as WriteBytes, Close as CloseConnection}
use Rattle.tcp_flow.specs.Conns.{PlainConns, step as conns_step}
use Rattle.traffic_apps.specs.declared.app.Act.{Act as AppAct}
use Rattle.traffic_apps.specs.declared.app.Act.TheVariants.{UdpSend, PingSend, TickAt, Connect, Write as WriteStream, Close}
use Rattle.traffic_apps.specs.declared.app.In.{In as AppIn}
use Rattle.node_step.specs.Apps.{app_counts, app_takes, carry_app, counted_app, stepped_app}
use Rattle.node_step.specs.Asking.{carry_asked, conns_ask}
use Rattle.node_step.specs.Down.{IfaceStepped, carry_down, send_packet, step_at, taken_by, with_iface}
use Rattle.node_step.specs.Firing.{bus_of}
use Rattle.node_step.specs.Leaving.{fragments_of, leaves, send_each, send_out}
use Rattle.node_step.specs.LocalApp.{PlainLocalApp, app_step}
use Rattle.node_step.specs.Node.{Progress, changed, dropped, now, with_app, with_conns, with_drop, with_numbers}
use Rattle.node_step.specs.Sending.{carry_sent, carry_to_ip, ip_sends, ports_send, report, report_by}
use Rattle.node_rules.specs.Shape.{Wire}
use Rattle.node_rules.proofs.Folds.{slice_get-set_other, slice_get-set_same}
use Rattle.node_rules.proofs.IfaceSteps.{happens-goes, send-goes}
use Rattle.node_rules.proofs.Masks.{Passes, bus_of-masked, masked, others, with_bus-masked, with_bus-others}

-- each interface is on a link, or on a LAN that passes
abbrev pub AllPass : (ℕ → Bool) → List PlainIface → Type 0
AllPass test ifaces = (i : ℕ) (face : PlainIface) → slice_get ifaces i ≡ Some face → Passes test (lan_of face.at)

-- a firing that sees the LANs that pass alone
abbrev pub mask : (ℕ → Bool) → Progress → Progress
mask test p = record p { firing = record p.firing { lans = masked test p.firing.lans } }

-- A stage reads none of the LANs that don't pass, and writes none of them; and its node stays on those that do
pub record IsFramed (test : ℕ → Bool) (stage : Progress → Progress) (p : Progress) : Type 0 where
  pub reads : mask test (stage p) ≡ stage (mask test p)
  pub writes : masked (others test) (stage p).firing.lans ≡ masked (others test) p.firing.lans
  pub pass : AllPass test (stage p).node.ifaces

-- what a step of an interface leaves, seen so
abbrev mask_stepped : (ℕ → Bool) → IfaceStepped → IfaceStepped
mask_stepped test s = record { progress = mask test s.progress; acts = s.acts }

record IsStepFramed (test : ℕ → Bool) (iface : ℕ) (input : IfaceIn Packet) (o : Option PlainIface) (p : Progress) : Type 0 where
  reads : taken_by iface input (mask test p) o ≡ mask_stepped test (taken_by iface input p o)
  writes : masked (others test) (taken_by iface input p o).progress.firing.lans ≡ masked (others test) p.firing.lans
  pass : AllPass test (taken_by iface input p o).progress.node.ifaces

abbrev stepped_by : ℕ → Option ℕ → Progress → IfaceProgress → IfaceStepped
stepped_by iface lan p s = record { progress = with_iface iface lan s p; acts = s.acts }

abbrev with_lans : ℕ → Progress → IfaceProgress → List Bus → IfaceStepped
with_lans iface p s lans = record {
  progress = record {
    node = record p.node { ifaces = slice_set p.node.ifaces iface s.iface; random = s.random; numbers = s.numbers };
    firing = record p.firing { lans = lans };
  };
  acts = s.acts;
}

module _ (test : ℕ → Bool) where
  abbrev On : Progress → Type 0
  On p = AllPass test p.node.ifaces

  abbrev F : (Progress → Progress) → Progress → Type 0
  F stage p = IsFramed test stage p

  pub still : (p : Progress) → On p → F (λ q. q) p
  still p on = record { reads = refl; writes = refl; pass = on }

  pub drops : (p : Progress) → On p → F dropped p
  unfolding with_drop
  drops p on = record { reads = refl; writes = refl; pass = on }

  pub folds : {Act : Type 0} (carry : Progress → Act → Progress) → ((p : Progress) (act : Act) → On p → F (λ q. carry q act) p) →
      (acts : List Act) (p : Progress) → On p → F (λ q. fold carry q acts) p
  folds carry each [] p on = still p on
  folds carry each (act ∷ acts) p on =
      let first = each p act on in
      let rest = folds carry each acts (carry p act) first.pass in
      record {
        reads = rest.reads ∙ ap (λ (q : Progress). fold carry q acts) first.reads;
        writes = rest.writes ∙ first.writes;
        pass = rest.pass;
      }

  pub either : (b : Bool) (f g : Progress → Progress) (p : Progress) → F f p → F g p → F (λ q. if b then f q else g q) p
  either true f g p first second = record { reads = first.reads; writes = first.writes; pass = first.pass }
  either false f g p first second = record { reads = second.reads; writes = second.writes; pass = second.pass }

  -- an interface makes a step

  module _ (iface : ℕ) (input : IfaceIn Packet) (p : Progress) (on : On p) where
    abbrev stepping : PlainIface → IfaceProgress
    stepping face = step face (bus_of (lan_of face.at) p.firing.lans) p.node.random p.node.numbers input

    pass-after : (face : PlainIface) → slice_get p.node.ifaces iface ≡ Some face → lan_of (stepping face).iface.at ≡ lan_of face.at →
        AllPass test (slice_set p.node.ifaces iface (stepping face).iface)
    pass-after face at same i x is = elim (cases_eq i iface) [
      | inl here ↦
          let got : Some (stepping face).iface ≡ Some x = sym (slice_get-set_same p.node.ifaces iface face (stepping face).iface at)
          ∙ ap (slice_get (slice_set p.node.ifaces iface (stepping face).iface)) (sym here) ∙ is in
          subst (λ (y : PlainIface). Passes test (lan_of y.at)) (same_Some (stepping face).iface x got)
          (subst (Passes test) (sym same) (on iface face at))
      | inr other ↦ on i x (sym (slice_get-set_other p.node.ifaces iface i (stepping face).iface (λ e. other (sym e))) ∙ is)
    ]

    face-framed : (face : PlainIface) → slice_get p.node.ifaces iface ≡ Some face → lan_of (stepping face).iface.at ≡ lan_of face.at →
        IsStepFramed test iface input (Some face) p
    face-framed face at same =
        let lan : Option ℕ = lan_of face.at in
        let passes : Passes test lan = on iface face at in
        let s : IfaceProgress = stepping face in
        record {
          reads = ap (λ (bus : Bus). stepped_by iface lan (mask test p) (step face bus p.node.random p.node.numbers input))
              (bus_of-masked test lan p.firing.lans passes)
              ∙ ap (with_lans iface p s) (sym (with_bus-masked test lan s.bus p.firing.lans passes));
          writes = with_bus-others test lan s.bus p.firing.lans passes;
          pass = pass-after face at same;
        }

    some-framed : (o : Option PlainIface) → slice_get p.node.ifaces iface ≡ o →
        ((face : PlainIface) → lan_of (stepping face).iface.at ≡ lan_of face.at) → IsStepFramed test iface input o p
    some-framed None at same = record { reads = refl; writes = refl; pass = on }
    some-framed (Some face) at same = face-framed face at (same face)

    -- what an interface asks for is carried out
    pub carries : (carry : Progress → IfaceAct Packet → Progress) → ((q : Progress) (act : IfaceAct Packet) → On q → F (λ r. carry r act) q) →
        ((face : PlainIface) → lan_of (stepping face).iface.at ≡ lan_of face.at) →
        F (λ q. let s : IfaceStepped = step_at iface input q in fold carry s.progress s.acts) p
    unfolding step_at
    carries carry each same =
        let o : Option PlainIface = slice_get p.node.ifaces iface in
        let s : IfaceStepped = taken_by iface input p o in
        let framed : IsStepFramed test iface input o p = some-framed o refl same in
        let rest = folds carry each s.acts s.progress framed.pass in
        record {
          reads = rest.reads ∙ ap (λ (t : IfaceStepped). fold carry t.progress t.acts) (sym framed.reads);
          writes = rest.writes ∙ framed.writes;
          pass = rest.pass;
        }

  -- the way down

  pub carry_down-framed : (iface : ℕ) (p : Progress) (act : IfaceAct Packet) → On p → F (λ q. carry_down iface q act) p
  unfolding carry_down
  carry_down-framed iface p (Schedule at to what) on = record { reads = refl; writes = refl; pass = on }
  carry_down-framed iface p (Write sign frame) on = record { reads = refl; writes = refl; pass = on }
  carry_down-framed iface p (Up packet) on = still p on
  carry_down-framed iface p DroppedBelow on = drops p on

  send-same : (p : Progress) (t : Time) (h : ℕ) (packet : Packet) (face : PlainIface) →
      lan_of (step face (bus_of (lan_of face.at) p.firing.lans) p.node.random p.node.numbers (Send t h packet)).iface.at ≡ lan_of face.at
  send-same p t h packet face = ap (λ (w : Wire). w.lan)
      (send-goes ⊥ t face p.node.numbers (bus_of (lan_of face.at) p.firing.lans) p.node.random (λ no. absurd no) h packet).moves.wire

  pub happens-same : (p : Progress) (t : Time) (what : Happening Packet) (face : PlainIface) →
      lan_of (step face (bus_of (lan_of face.at) p.firing.lans) p.node.random p.node.numbers (Happens t what)).iface.at ≡ lan_of face.at
  happens-same p t what face = ap (λ (w : Wire). w.lan)
      (happens-goes ⊥ t face p.node.numbers (bus_of (lan_of face.at) p.firing.lans) p.node.random (λ no. absurd no) what).moves.wire

  send_packet-framed : (iface h : ℕ) (packet : Packet) (p : Progress) → On p → F (send_packet iface h packet) p
  unfolding send_packet
  send_packet-framed iface h packet p on =
      let done = carries iface (Send (now p) h packet) p on (carry_down iface) (carry_down-framed iface) (send-same p (now p) h packet) in
      record { reads = done.reads; writes = done.writes; pass = done.pass }

  pub send_out-framed : (iface h mtu : ℕ) (packet : Packet) (p : Progress) → On p → F (send_out iface h mtu packet) p
  unfolding send_out
  send_out-framed iface h mtu packet p on =
      let done = either (nat_lt mtu (len packet)) (send_each iface h (fragments_of mtu packet)) (send_packet iface h packet) p
      (folds (leaves iface h) (λ q fragment still_on. send_packet-framed iface h fragment q still_on) (fragments_of mtu packet) p on)
      (send_packet-framed iface h packet p on) in
      record { reads = done.reads; writes = done.writes; pass = done.pass }

  carry_sent-framed : (p : Progress) (act : IpAct Packet) → On p → F (λ q. carry_sent q act) p
  unfolding carry_sent
  carry_sent-framed p (Out iface neighbour mtu packet) on = send_out-framed iface neighbour mtu packet p on
  carry_sent-framed p (Local head packet) on = still p on
  carry_sent-framed p (ReportByIp kind code head packet) on = still p on
  carry_sent-framed p DroppedByIp on = drops p on

  pub ip_sends-framed : (input : IpIn Packet) (p : Progress) → On p → F (ip_sends input) p
  unfolding ip_sends
  ip_sends-framed input p on =
      let made : Made (IpAct Packet) = ip_step p.node.ip p.node.numbers input in
      let done = folds carry_sent carry_sent-framed made.acts (with_numbers made.numbers p) on in
      record { reads = done.reads; writes = done.writes; pass = done.pass }

  carry_to_ip-framed : (p : Progress) (act : PortsAct Packet) → On p → F (λ q. carry_to_ip q act) p
  unfolding carry_to_ip
  carry_to_ip-framed p (ToIp src dst proto packet) on = ip_sends-framed (SendByIp src dst proto packet) p on
  carry_to_ip-framed p (ToApp app src sport packet) on = still p on
  carry_to_ip-framed p (ReportByPorts kind code head packet) on = still p on
  carry_to_ip-framed p Dropped on = drops p on

  ports_send-framed : (input : PortsIn Packet) (p : Progress) → On p → F (ports_send input) p
  unfolding ports_send
  ports_send-framed input p on =
      let made : Made (PortsAct Packet) = ports_step p.node.ports p.node.numbers input in
      let done = folds carry_to_ip carry_to_ip-framed made.acts (with_numbers made.numbers p) on in
      record { reads = done.reads; writes = done.writes; pass = done.pass }

  report_by-framed : (input : PortsIn Packet) (way_back : Option Hop) (p : Progress) → On p → F (λ q. report_by input q way_back) p
  report_by-framed input None p on = still p on
  report_by-framed input (Some way_back) p on = ports_send-framed input p on

  pub report-framed : (src : ℕ) (input : PortsIn Packet) (p : Progress) → On p → F (report src input) p
  unfolding report
  report-framed src input p on =
      let done = report_by-framed input (hop src (route src p.node.ip.routes)) p on in
      record { reads = done.reads; writes = done.writes; pass = done.pass }

  -- what is asked of TCP

  pub carry_asked-framed : (p : Progress) (act : ConnsAct Packet) → On p → F (λ q. carry_asked q act) p
  unfolding carry_asked
  carry_asked-framed p (Emit s) on = ip_sends-framed (SendByIp (Some s.src) s.dst 6 s.packet) p on
  carry_asked-framed p (TimerAt at conn stamp) on = record { reads = refl; writes = refl; pass = on }
  carry_asked-framed p (Connected app) on = still p on
  carry_asked-framed p (Room app free) on = still p on
  carry_asked-framed p (Deliver app src sport packet) on = still p on
  carry_asked-framed p (End app) on = still p on
  carry_asked-framed p (Reset app) on = still p on
  carry_asked-framed p DroppedByConns on = drops p on

  conns_ask-framed : (input : ConnsIn Packet) (p : Progress) → On p → F (conns_ask input) p
  unfolding conns_ask
  conns_ask-framed input p on =
      let s : Numbered PlainConns (ConnsAct Packet) = conns_step p.node.conns p.node.numbers input in
      let done = folds carry_asked carry_asked-framed s.acts (with_numbers s.numbers (with_conns s.state p)) on in
      record { reads = done.reads; writes = done.writes; pass = done.pass }

  -- applications

  carry_app-framed : (app port : ℕ) (p : Progress) (act : AppAct Packet) → On p → F (λ q. carry_app app port q act) p
  unfolding carry_app
  carry_app-framed app port p (UdpSend dst to packet) on =
      let done = ports_send-framed (SendDatagram (source (route dst p.node.ip.routes)) port dst to packet) p on in
      record { reads = done.reads; writes = done.writes; pass = done.pass }
  carry_app-framed app port p (PingSend dst rest packet) on = ports_send-framed (SendRequest dst rest packet) p on
  carry_app-framed app port p (TickAt at) on = record { reads = refl; writes = refl; pass = on }
  carry_app-framed app port p (Connect dst to mss) on =
      let done = conns_ask-framed (OpenConnection (now p) app (source (route dst p.node.ip.routes)) port dst to mss) p on in
      record { reads = done.reads; writes = done.writes; pass = done.pass }
  carry_app-framed app port p (WriteStream bytes) on =
      let done = conns_ask-framed (WriteBytes (now p) app bytes) p on in
      record { reads = done.reads; writes = done.writes; pass = done.pass }
  carry_app-framed app port p Close on =
      let done = conns_ask-framed (CloseConnection (now p) app) p on in
      record { reads = done.reads; writes = done.writes; pass = done.pass }

  stepped_app-framed : (app : ℕ) (s : Numbered PlainLocalApp (AppAct Packet)) (p : Progress) → On p → F (stepped_app app s) p
  stepped_app-framed app s p on =
      let done = folds (carry_app app s.state.port) (carry_app-framed app s.state.port) s.acts (with_numbers s.numbers (with_app app s.state p)) on in
      record { reads = done.reads; writes = done.writes; pass = done.pass }

  app-framed : (app : ℕ) (input : AppIn Packet) (o : Option PlainLocalApp) (p : Progress) → On p →
      F (λ q. changed o (λ a. stepped_app app (app_step a q.node.numbers input) q) q) p
  app-framed app input None p on = still p on
  app-framed app input (Some a) p on =
      let done = stepped_app-framed app (app_step a p.node.numbers input) p on in
      record { reads = done.reads; writes = done.writes; pass = done.pass }

  pub app_takes-framed : (app : ℕ) (input : AppIn Packet) (p : Progress) → On p → F (app_takes app input) p
  unfolding app_takes
  app_takes-framed app input p on =
      let done = app-framed app input (slice_get p.node.apps app) p on in
      record { reads = done.reads; writes = done.writes; pass = done.pass }

  counts-framed : (app : ℕ) (input : AppIn Packet) (o : Option PlainLocalApp) (p : Progress) → On p →
      F (λ q. changed o (λ a. counted_app app (app_step a q.node.numbers input) q) q) p
  counts-framed app input None p on = still p on
  counts-framed app input (Some a) p on = record { reads = refl; writes = refl; pass = on }

  pub app_counts-framed : (app : ℕ) (input : AppIn Packet) (p : Progress) → On p → F (app_counts app input) p
  unfolding app_counts
  app_counts-framed app input p on =
      let done = counts-framed app input (slice_get p.node.apps app) p on in
      record { reads = done.reads; writes = done.writes; pass = done.pass }
