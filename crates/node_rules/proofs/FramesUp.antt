-- What comes up reads and writes no bus but those on which its node sits; so a firing does.
use Rattle.std.proofs.Common.{◌≡◌, ℕ, Bool, refl, ap, ◌∙◌}
use Rattle.std.specs.Prelude.{◌==◌, if◌then◌else◌}
use Rattle.sim_base.specs.Packet.{Packet}
use Rattle.header_forms.specs.declared.ipv4.Ipv4.{Ipv4}
use Rattle.layer_words.specs.Acts.{Made, Numbered}
use Rattle.frag_core.specs.declared.words.Act.{Act as FragsAct}
use Rattle.frag_core.specs.declared.words.Act.TheVariants.{Whole, TimerAt as FragTimerAt, Dropped as DroppedByFrags}
use Rattle.frag_core.specs.declared.words.In.{In as FragsIn}
use Rattle.frag_core.specs.declared.words.In.TheVariants.{Piece, Timer as FragsTimer}
use Rattle.frag_core.specs.Step.{PlainFrags, step as frags_step}
use Rattle.iface_step.specs.declared.words.Act.{Act as IfaceAct}
use Rattle.iface_step.specs.declared.words.Act.TheVariants.{Schedule, Write, Up, Dropped as DroppedBelow}
use Rattle.iface_step.specs.declared.words.Happening.{Happening}
use Rattle.iface_step.specs.declared.words.Happening.TheVariants.{Arrive as Arrives, Sent as HasLeft, BusFree as BusIsFree, BackoffOver as BackoffIsOver, DiscReady as DiscIsReady, ArpTimer as ArpTimerEnds}
use Rattle.iface_step.specs.declared.words.In.TheVariants.{Happens}
use Rattle.ipv4_core.specs.declared.ip.Act.{Act as IpAct}
use Rattle.ipv4_core.specs.declared.ip.Act.TheVariants.{Out, Local, Report as ReportByIp, Dropped as DroppedByIp}
use Rattle.ipv4_core.specs.declared.ip.In.{In as IpIn}
use Rattle.ipv4_core.specs.declared.ip.In.TheVariants.{Send as SendByIp, Arrive as ArriveAtIp}
use Rattle.ipv4_core.specs.Ip.{is_fragment, step as ip_step}
use Rattle.udp_icmp.specs.declared.ports.Act.{Act as PortsAct}
use Rattle.udp_icmp.specs.declared.ports.Act.TheVariants.{ToIp, ToApp, Report as ReportByPorts, Dropped}
use Rattle.udp_icmp.specs.declared.ports.In.{In as PortsIn}
use Rattle.udp_icmp.specs.declared.ports.In.TheVariants.{UdpArrive, IcmpArrive, Report}
use Rattle.udp_icmp.specs.Step.{step as ports_step}
use Rattle.tcp_flow.specs.declared.words.Act.{Act as ConnsAct}
use Rattle.tcp_flow.specs.declared.words.Act.TheVariants.{Emit, TimerAt, Connected, Room, Deliver, End, Reset, Dropped as DroppedByConns}
use Rattle.tcp_flow.specs.declared.words.In.{In as ConnsIn}
use Rattle.tcp_flow.specs.declared.words.In.TheVariants.{Segment, Timer}
use Rattle.tcp_flow.specs.Conns.{PlainConns, step as conns_step}
use Rattle.traffic_apps.specs.declared.app.In.TheVariants.{Tick as TickInput, Got, Connected as IsConnected, Room as HasRoom, End as HasEnded, Reset as IsReset}
use Rattle.node_step.specs.declared.loads.Load.{Load}
use Rattle.node_step.specs.declared.loads.Load.TheVariants.{Arrive, Sent, BusFree, BackoffOver, DiscReady, ArpTimer, FragTimer, TcpTimer, Tick}
use Rattle.node_step.specs.Delivery.{carry_ports, deliver_whole, ports_take}
use Rattle.node_step.specs.Hearing.{carry_heard, conns_hear}
use Rattle.node_step.specs.Node.{Progress, dropped, now, with_conns, with_frags, with_numbers}
use Rattle.node_step.specs.React.{handled}
use Rattle.node_step.specs.Reassembly.{carry_frags, frags_take}
use Rattle.node_step.specs.Sending.{report}
use Rattle.node_step.specs.Up.{carry_ip, carry_up, deliver, iface_happens, ip_takes}
use Rattle.node_rules.proofs.Frames.{AllPass, IsFramed, app_counts-framed, app_takes-framed, carries, carry_asked-framed, carry_down-framed, drops, either, folds, happens-same, ip_sends-framed, report-framed, send_out-framed}

module _ (test : ℕ → Bool) where
  abbrev On : Progress → Type 0
  On p = AllPass test p.node.ifaces

  abbrev F : (Progress → Progress) → Progress → Type 0
  F stage p = IsFramed test stage p

  -- what TCP hears

  carry_heard-framed : (p : Progress) (act : ConnsAct Packet) → On p → F (λ q. carry_heard q act) p
  unfolding carry_heard
  carry_heard-framed p (Emit s) on = carry_asked-framed test p (Emit s) on
  carry_heard-framed p (TimerAt at conn stamp) on = carry_asked-framed test p (TimerAt at conn stamp) on
  carry_heard-framed p (Connected app) on = app_takes-framed test app IsConnected p on
  carry_heard-framed p (Room app free) on = app_takes-framed test app (HasRoom free) p on
  carry_heard-framed p (Deliver app src sport packet) on = app_counts-framed test app (Got src sport packet) p on
  carry_heard-framed p (End app) on = app_takes-framed test app HasEnded p on
  carry_heard-framed p (Reset app) on = app_takes-framed test app IsReset p on
  carry_heard-framed p DroppedByConns on = carry_asked-framed test p DroppedByConns on

  conns_hear-framed : (input : ConnsIn Packet) (p : Progress) → On p → F (conns_hear input) p
  unfolding conns_hear
  conns_hear-framed input p on =
      let s : Numbered PlainConns (ConnsAct Packet) = conns_step p.node.conns p.node.numbers input in
      let done = folds test carry_heard carry_heard-framed s.acts (with_numbers s.numbers (with_conns s.state p)) on in
      record { reads = done.reads; writes = done.writes; pass = done.pass }

  -- the way up

  carry_ports-framed : (p : Progress) (act : PortsAct Packet) → On p → F (λ q. carry_ports q act) p
  unfolding carry_ports
  carry_ports-framed p (ToIp src dst proto packet) on = ip_sends-framed test (SendByIp src dst proto packet) p on
  carry_ports-framed p (ToApp app src sport packet) on = app_takes-framed test app (Got src sport packet) p on
  carry_ports-framed p (ReportByPorts kind code head packet) on = report-framed test head.src (Report kind code head packet) p on
  carry_ports-framed p Dropped on = drops test p on

  ports_take-framed : (input : PortsIn Packet) (p : Progress) → On p → F (ports_take input) p
  unfolding ports_take
  ports_take-framed input p on =
      let made : Made (PortsAct Packet) = ports_step p.node.ports p.node.numbers input in
      let done = folds test carry_ports carry_ports-framed made.acts (with_numbers made.numbers p) on in
      record { reads = done.reads; writes = done.writes; pass = done.pass }

  -- a stage, and another behind it
  behind : (first second : Progress → Progress) (p : Progress) → F first p → F second (first p) → F (λ q. second (first q)) p
  behind first second p one two = record {
    reads = two.reads ∙ ap second one.reads;
    writes = two.writes ∙ one.writes;
    pass = two.pass;
  }

  deliver_whole-framed : (head : Ipv4) (packet : Packet) (p : Progress) → On p → F (deliver_whole head packet) p
  unfolding deliver_whole
  deliver_whole-framed head packet p on =
      let tells : Progress → Progress = report head.src (Report 3 2 head packet) in
      let told = report-framed test head.src (Report 3 2 head packet) p on in
      let unknown : Progress → Progress = λ q. dropped (tells q) in
      let icmp : Progress → Progress = λ q. if head.proto == 1 then ports_take (IcmpArrive head packet) q else unknown q in
      let segment : Progress → ConnsIn Packet = λ q. Segment (now q) (record { src = head.src; dst = head.dst; packet = packet }) in
      let hears : Progress → Progress = λ q. conns_hear (segment q) q in
      let heard = conns_hear-framed (segment p) p on in
      let tcp : Progress → Progress = λ q. if head.proto == 6 then hears q else icmp q in
      let done = either test (head.proto == 17) (ports_take (UdpArrive head packet)) tcp p (ports_take-framed (UdpArrive head packet) p on)
      (either test (head.proto == 6) hears icmp p (record { reads = heard.reads; writes = heard.writes; pass = heard.pass })
      (either test (head.proto == 1) (ports_take (IcmpArrive head packet)) unknown p (ports_take-framed (IcmpArrive head packet) p on)
      (behind tells dropped p told (drops test (tells p) told.pass)))) in
      record { reads = done.reads; writes = done.writes; pass = done.pass }

  -- fragments

  carry_frags-framed : (p : Progress) (act : FragsAct Packet) → On p → F (λ q. carry_frags q act) p
  unfolding carry_frags
  carry_frags-framed p (Whole head packet) on = deliver_whole-framed head packet p on
  carry_frags-framed p (FragTimerAt at stamp) on = record { reads = refl; writes = refl; pass = on }
  carry_frags-framed p DroppedByFrags on = drops test p on

  frags_take-framed : (input : FragsIn Packet) (p : Progress) → On p → F (frags_take input) p
  unfolding frags_take
  frags_take-framed input p on =
      let s : Numbered PlainFrags (FragsAct Packet) = frags_step p.node.frags p.node.numbers input in
      let done = folds test carry_frags carry_frags-framed s.acts (with_numbers s.numbers (with_frags s.state p)) on in
      record { reads = done.reads; writes = done.writes; pass = done.pass }

  deliver-framed : (head : Ipv4) (packet : Packet) (p : Progress) → On p → F (deliver head packet) p
  unfolding deliver
  deliver-framed head packet p on =
      let takes : Progress → Progress = λ q. frags_take (Piece (now q) head packet) q in
      let taken = frags_take-framed (Piece (now p) head packet) p on in
      let done = either test (is_fragment head) takes (deliver_whole head packet) p (record { reads = taken.reads; writes = taken.writes; pass = taken.pass })
      (deliver_whole-framed head packet p on) in
      record { reads = done.reads; writes = done.writes; pass = done.pass }

  carry_ip-framed : (p : Progress) (act : IpAct Packet) → On p → F (λ q. carry_ip q act) p
  unfolding carry_ip
  carry_ip-framed p (Out iface neighbour mtu packet) on = send_out-framed test iface neighbour mtu packet p on
  carry_ip-framed p (Local head packet) on = deliver-framed head packet p on
  carry_ip-framed p (ReportByIp kind code head packet) on = report-framed test head.src (Report kind code head packet) p on
  carry_ip-framed p DroppedByIp on = drops test p on

  ip_takes-framed : (input : IpIn Packet) (p : Progress) → On p → F (ip_takes input) p
  unfolding ip_takes
  ip_takes-framed input p on =
      let made : Made (IpAct Packet) = ip_step p.node.ip p.node.numbers input in
      let done = folds test carry_ip carry_ip-framed made.acts (with_numbers made.numbers p) on in
      record { reads = done.reads; writes = done.writes; pass = done.pass }

  carry_up-framed : (iface : ℕ) (p : Progress) (act : IfaceAct Packet) → On p → F (λ q. carry_up iface q act) p
  unfolding carry_up
  carry_up-framed iface p (Schedule at to what) on = carry_down-framed test iface p (Schedule at to what) on
  carry_up-framed iface p (Write sign frame) on = carry_down-framed test iface p (Write sign frame) on
  carry_up-framed iface p (Up packet) on = ip_takes-framed (ArriveAtIp packet) p on
  carry_up-framed iface p DroppedBelow on = carry_down-framed test iface p DroppedBelow on

  iface_happens-framed : (iface : ℕ) (what : Happening Packet) (p : Progress) → On p → F (iface_happens iface what) p
  unfolding iface_happens
  iface_happens-framed iface what p on =
      let done = carries test iface (Happens (now p) what) p on (carry_up iface) (carry_up-framed iface) (happens-same test p (now p) what) in
      record { reads = done.reads; writes = done.writes; pass = done.pass }

  -- the whole reaction
  pub handled-framed : (load : Load Packet) (p : Progress) → On p → F (handled load) p
  unfolding handled
  handled-framed (Arrive iface frame) p on = iface_happens-framed iface (Arrives frame) p on
  handled-framed (Sent iface) p on = iface_happens-framed iface HasLeft p on
  handled-framed (BusFree iface) p on = iface_happens-framed iface BusIsFree p on
  handled-framed (BackoffOver iface) p on = iface_happens-framed iface BackoffIsOver p on
  handled-framed (DiscReady iface) p on = iface_happens-framed iface DiscIsReady p on
  handled-framed (ArpTimer iface addr stamp) p on = iface_happens-framed iface (ArpTimerEnds addr stamp) p on
  handled-framed (FragTimer stamp) p on = frags_take-framed (FragsTimer stamp) p on
  handled-framed (TcpTimer conn stamp) p on =
      let done = conns_hear-framed (Timer (now p) conn stamp) p on in
      record { reads = done.reads; writes = done.writes; pass = done.pass }
  handled-framed (Tick app) p on =
      let done = app_takes-framed test app (TickInput (now p)) p on in
      record { reads = done.reads; writes = done.writes; pass = done.pass }
