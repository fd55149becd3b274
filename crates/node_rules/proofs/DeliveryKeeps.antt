-- A whole datagram on its way up keeps all well.
use Rattle.std.proofs.Common.{◌≡◌, ℕ, ◌<◌, ap}
use Rattle.std.specs.Prelude.{◌==◌, if◌then◌else◌}
use Rattle.std.proofs.lemmas.Bool.{cond_both}
use Rattle.sim_base.specs.declared.key.Key.{Key}
use Rattle.sim_base.specs.declared.time.Time.{Time}
use Rattle.sim_base.specs.Packet.{Packet}
use Rattle.header_forms.specs.declared.ipv4.Ipv4.{Ipv4}
use Rattle.layer_words.specs.Acts.{Made}
use Rattle.ipv4_core.specs.declared.ip.In.TheVariants.{Send as SendByIp}
use Rattle.udp_icmp.specs.declared.ports.Act.{Act as PortsAct}
use Rattle.udp_icmp.specs.declared.ports.Act.TheVariants.{ToIp, ToApp, Report as ReportByPorts, Dropped}
use Rattle.udp_icmp.specs.declared.ports.In.{In as PortsIn}
use Rattle.udp_icmp.specs.declared.ports.In.TheVariants.{UdpArrive, IcmpArrive, Report}
use Rattle.udp_icmp.specs.Step.{step as ports_step}
use Rattle.tcp_flow.specs.declared.words.In.{In as ConnsIn}
use Rattle.tcp_flow.specs.declared.words.In.TheVariants.{Segment}
use Rattle.traffic_apps.specs.declared.app.In.TheVariants.{Got}
use Rattle.node_step.specs.Delivery.{carry_ports, deliver_whole, ports_take}
use Rattle.node_step.specs.Hearing.{conns_hear}
use Rattle.node_step.specs.Node.{Progress, dropped, now as now_of, with_numbers}
use Rattle.node_step.specs.Sending.{report}
use Rattle.node_rules.specs.Shape.{Shape}
use Rattle.node_rules.proofs.AppActs.{got-later}
use Rattle.node_rules.proofs.AppKeeps.{app_takes-keeps}
use Rattle.node_rules.proofs.Folds.{fold-keeps_all}
use Rattle.node_rules.proofs.HearingKeeps.{conns_hear-keeps}
use Rattle.node_rules.proofs.Kept.{Keeps, drop-keeps, numbers-keep}
use Rattle.node_rules.proofs.SendingKeeps.{ip_sends-keeps, ports-node, report-keeps}

module _ (ok : Type 0) (shape : Shape) (n : ℕ) (known : ok → n < shape.nodes) (was : Progress) where
  abbrev now : Time
  now = was.firing.key.time

  abbrev K : Progress → Type 0
  K p = Keeps ok shape n was p

  carry_ports-keeps : (act : PortsAct Packet) (p : Progress) → K p → K (carry_ports p act)
  unfolding carry_ports
  carry_ports-keeps (ToIp src dst proto packet) p k = ip_sends-keeps ok shape n known was (SendByIp src dst proto packet) p k
  carry_ports-keeps (ToApp app src sport packet) p k = app_takes-keeps ok shape n known was app (Got src sport packet) p
      (λ a numbers kind. got-later now.0 src sport packet a numbers) k
  carry_ports-keeps (ReportByPorts kind code head packet) p k =
      report-keeps ok shape n known was head.src (Report kind code head packet) p k
  carry_ports-keeps Dropped p k = drop-keeps ok shape n was p k

  ports_take-keeps : (input : PortsIn Packet) (p : Progress) → K p → K (ports_take input p)
  unfolding ports_take
  ports_take-keeps input p k =
      let made : Made (PortsAct Packet) = ports_step p.node.ports p.node.numbers input in
      fold-keeps_all K carry_ports (λ q act kept. carry_ports-keeps act q kept) made.acts (with_numbers made.numbers p)
      (numbers-keep ok shape n was made.numbers p (ports-node p.node.ports p.node.numbers input) k)

  pub deliver_whole-keeps : (head : Ipv4) (packet : Packet) (p : Progress) → K p → K (deliver_whole head packet p)
  unfolding deliver_whole
  deliver_whole-keeps head packet p k =
      let told : Progress = report head.src (Report 3 2 head packet) p in
      let udp : Progress = ports_take (UdpArrive head packet) p in
      let icmp : Progress = ports_take (IcmpArrive head packet) p in
      let segment : ConnsIn Packet = Segment (now_of p) (record { src = head.src; dst = head.dst; packet = packet }) in
      let tcp : Progress = conns_hear segment p in
      let at : p.firing.key.time.0 ≡ now.0 = ap (λ (key : Key). key.time.0) k.key in
      cond_both (head.proto == 17) udp (if head.proto == 6 then tcp else if head.proto == 1 then icmp else dropped told) K (λ is. ports_take-keeps (UdpArrive head packet) p k)
      (λ no_udp. cond_both (head.proto == 6) tcp (if head.proto == 1 then icmp else dropped told) K (λ is. conns_hear-keeps ok shape n known was segment p at k)
      (λ other. cond_both (head.proto == 1) icmp (dropped told) K (λ is. ports_take-keeps (IcmpArrive head packet) p k)
      (λ unknown. drop-keeps ok shape n was told (report-keeps ok shape n known was head.src (Report 3 2 head packet) p k))))
