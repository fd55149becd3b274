-- What a node sends keeps all well.
use Rattle.std.proofs.Common.{◌≡◌, ℕ, ◌<◌, Option, None, Some, refl}
use Rattle.std.specs.Prelude.{◌==◌, slice_range}
use Rattle.std.proofs.lemmas.Bool.{cond_both}
use Rattle.sim_base.specs.declared.numbers.Numbers.{Numbers}
use Rattle.sim_base.specs.Packet.{Packet}
use Rattle.header_forms.specs.declared.icmp.Icmp.{Icmp}
use Rattle.header_forms.specs.declared.ipv4.Ipv4.{Ipv4}
use Rattle.header_forms.specs.Checksum.{checksum}
use Rattle.header_forms.specs.Icmp.{icmp_of}
use Rattle.layer_words.specs.Acts.{Made}
use Rattle.ipv4_core.specs.declared.ip.Act.{Act as IpAct}
use Rattle.ipv4_core.specs.declared.ip.Act.TheVariants.{Out, Local, Report as ReportByIp, Dropped as DroppedByIp}
use Rattle.ipv4_core.specs.declared.ip.In.{In as IpIn}
use Rattle.ipv4_core.specs.declared.ip.In.TheVariants.{Send, Arrive}
use Rattle.ipv4_core.specs.Ip.{PlainIp}
use Rattle.ipv4_core.specs.declared.routes.Hop.{Hop}
use Rattle.ipv4_core.specs.declared.routes.Way.{Way}
use Rattle.ipv4_core.specs.Ip.{sent, step as ip_step}
use Rattle.ipv4_core.specs.Routes.{hop, route}
use Rattle.udp_icmp.specs.declared.ports.Act.{Act as PortsAct}
use Rattle.udp_icmp.specs.declared.ports.Act.TheVariants.{ToIp, ToApp, Report as ReportByPorts, Dropped}
use Rattle.udp_icmp.specs.declared.ports.In.{In as PortsIn}
use Rattle.udp_icmp.specs.declared.ports.In.TheVariants.{UdpSend, UdpArrive, PingSend, IcmpArrive, Report}
use Rattle.udp_icmp.specs.Icmp.{is_reply, is_request, is_told, icmp_headed, nothing, replied, reply_given, reported, understood}
use Rattle.udp_icmp.specs.Ports.{PlainPorts}
use Rattle.udp_icmp.specs.Step.{step as ports_step}
use Rattle.node_step.specs.Node.{Progress, with_numbers}
use Rattle.node_step.specs.Sending.{carry_sent, ip_sends, carry_to_ip, ports_send, report_by, report}
use Rattle.node_rules.specs.Shape.{Shape}
use Rattle.node_rules.proofs.Folds.{fold-keeps_all}
use Rattle.node_rules.proofs.Kept.{Keeps, drop-keeps, numbers-keep}
use Rattle.node_rules.proofs.LeavingKeeps.{send_out-keeps}

sent-node : (numbers : Numbers) (src : Option ℕ) (dst proto : ℕ) (packet : Packet) (way : Option Way) →
    (sent numbers src dst proto packet way).numbers.node ≡ numbers.node
sent-node numbers src dst proto packet None = refl
sent-node numbers src dst proto packet (Some way) = refl

pub ip-node : (ip : PlainIp) (numbers : Numbers) (input : IpIn Packet) → (ip_step ip numbers input).numbers.node ≡ numbers.node
ip-node ip numbers (Send src dst proto packet) = sent-node numbers src dst proto packet (route dst ip.routes)
ip-node ip numbers (Arrive packet) = refl

-- a step of UDP or ICMP leaves the number of the node
abbrev pub IsOfNode : Numbers → Made (PortsAct Packet) → Type 0
IsOfNode numbers made = made.numbers.node ≡ numbers.node

understood-node : (ports : PlainPorts) (head : Ipv4) (icmp : Icmp) (packet : Packet) (numbers : Numbers) →
    IsOfNode numbers (understood ports head icmp packet numbers)
understood-node ports head icmp packet numbers =
    cond_both (is_request icmp) (replied head icmp packet numbers) _ (IsOfNode numbers) (λ request. refl)
    (λ other. cond_both (is_reply icmp) (reply_given ports head icmp packet numbers) (nothing numbers) (IsOfNode numbers) (λ reply. refl) (λ ignored. refl))

icmp-node : (ports : PlainPorts) (head : Ipv4) (packet : Packet) (numbers : Numbers) (icmp : Option Icmp) →
    IsOfNode numbers (icmp_headed ports head packet numbers icmp)
icmp-node ports head packet numbers None = refl
icmp-node ports head packet numbers (Some icmp) =
    cond_both (checksum packet.bytes == 0) (understood ports head icmp packet numbers) _ (IsOfNode numbers)
    (λ right. understood-node ports head icmp packet numbers) (λ wrong. refl)

reported-node : (kind code : ℕ) (head : Ipv4) (packet : Packet) (numbers : Numbers) → IsOfNode numbers (reported kind code head packet numbers)
reported-node kind code head packet numbers =
    cond_both (is_told head packet) _ (nothing numbers) (IsOfNode numbers) (λ told. refl) (λ silent. refl)

pub ports-node : (ports : PlainPorts) (numbers : Numbers) (input : PortsIn Packet) → IsOfNode numbers (ports_step ports numbers input)
ports-node ports numbers (UdpSend src sport dst port packet) = refl
ports-node ports numbers (UdpArrive head packet) = refl
ports-node ports numbers (PingSend dst rest packet) = refl
ports-node ports numbers (IcmpArrive head packet) = icmp-node ports head packet numbers (icmp_of (slice_range packet.bytes 0 8))
ports-node ports numbers (Report kind code head packet) = reported-node kind code head packet numbers

module _ (ok : Type 0) (shape : Shape) (n : ℕ) (known : ok → n < shape.nodes) (was : Progress) where
  abbrev K : Progress → Type 0
  K p = Keeps ok shape n was p

  carry_sent-keeps : (act : IpAct Packet) (p : Progress) → K p → K (carry_sent p act)
  unfolding carry_sent
  carry_sent-keeps (Out iface neighbour mtu packet) p k = send_out-keeps ok shape n known was iface neighbour mtu packet p k
  carry_sent-keeps (Local head packet) p k = k
  carry_sent-keeps (ReportByIp kind code head packet) p k = k
  carry_sent-keeps DroppedByIp p k = drop-keeps ok shape n was p k

  pub ip_sends-keeps : (input : IpIn Packet) (p : Progress) → K p → K (ip_sends input p)
  unfolding ip_sends
  ip_sends-keeps input p k =
      let made : Made (IpAct Packet) = ip_step p.node.ip p.node.numbers input in
      fold-keeps_all K carry_sent (λ q act kept. carry_sent-keeps act q kept) made.acts (with_numbers made.numbers p)
      (numbers-keep ok shape n was made.numbers p (ip-node p.node.ip p.node.numbers input) k)

  carry_to_ip-keeps : (act : PortsAct Packet) (p : Progress) → K p → K (carry_to_ip p act)
  unfolding carry_to_ip
  carry_to_ip-keeps (ToIp src dst proto packet) p k = ip_sends-keeps (Send src dst proto packet) p k
  carry_to_ip-keeps (ToApp app src sport packet) p k = k
  carry_to_ip-keeps (ReportByPorts kind code head packet) p k = k
  carry_to_ip-keeps Dropped p k = drop-keeps ok shape n was p k

  pub ports_send-keeps : (input : PortsIn Packet) (p : Progress) → K p → K (ports_send input p)
  unfolding ports_send
  ports_send-keeps input p k =
      let made : Made (PortsAct Packet) = ports_step p.node.ports p.node.numbers input in
      fold-keeps_all K carry_to_ip (λ q act kept. carry_to_ip-keeps act q kept) made.acts (with_numbers made.numbers p)
      (numbers-keep ok shape n was made.numbers p (ports-node p.node.ports p.node.numbers input) k)

  report_by-keeps : (input : PortsIn Packet) (p : Progress) (way_back : Option Hop) → K p → K (report_by input p way_back)
  report_by-keeps input p None k = k
  report_by-keeps input p (Some way_back) k = ports_send-keeps input p k

  pub report-keeps : (src : ℕ) (input : PortsIn Packet) (p : Progress) → K p → K (report src input p)
  unfolding report
  report-keeps src input p k = report_by-keeps input p (hop src (route src p.node.ip.routes)) k
