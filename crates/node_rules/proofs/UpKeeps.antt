-- A frame on its way up keeps all well.
use Rattle.std.proofs.Common.{◌≡◌, ℕ, ◌<◌, sym, ap, subst}
use Rattle.std.proofs.lemmas.Bool.{cond_both}
use Rattle.sim_base.specs.declared.key.Key.{Key}
use Rattle.sim_base.specs.declared.time.Time.{Time}
use Rattle.sim_base.specs.Packet.{Packet}
use Rattle.header_forms.specs.declared.ipv4.Ipv4.{Ipv4}
use Rattle.layer_words.specs.Acts.{Made}
use Rattle.frag_core.specs.declared.words.In.TheVariants.{Piece}
use Rattle.iface_step.specs.declared.words.Act.{Act as IfaceAct}
use Rattle.iface_step.specs.declared.words.Act.TheVariants.{Schedule, Write, Up, Dropped as DroppedBelow}
use Rattle.iface_step.specs.declared.words.Happening.{Happening}
use Rattle.iface_step.specs.declared.words.In.TheVariants.{Happens}
use Rattle.iface_step.specs.Attachment.{lan_of}
use Rattle.ipv4_core.specs.declared.ip.Act.{Act as IpAct}
use Rattle.ipv4_core.specs.declared.ip.Act.TheVariants.{Out, Local, Report as ReportByIp, Dropped as DroppedByIp}
use Rattle.ipv4_core.specs.declared.ip.In.{In as IpIn}
use Rattle.ipv4_core.specs.declared.ip.In.TheVariants.{Arrive as ArriveAtIp}
use Rattle.ipv4_core.specs.Ip.{is_fragment, step as ip_step}
use Rattle.udp_icmp.specs.declared.ports.In.TheVariants.{Report}
use Rattle.node_step.specs.Delivery.{deliver_whole}
use Rattle.node_step.specs.Down.{step_at}
use Rattle.node_step.specs.Firing.{bus_of}
use Rattle.node_step.specs.Node.{Progress, now as now_of, with_numbers}
use Rattle.node_step.specs.Reassembly.{frags_take}
use Rattle.node_step.specs.Up.{carry_ip, carry_up, deliver, iface_happens, ip_takes, stepped_up}
use Rattle.node_rules.specs.Shape.{Shape}
use Rattle.node_rules.proofs.DeliveryKeeps.{deliver_whole-keeps}
use Rattle.node_rules.proofs.DownKeeps.{IsCarried, IsDone, carry_down-keeps, step_at-done}
use Rattle.node_rules.proofs.Folds.{fold-keeps_all}
use Rattle.node_rules.proofs.IfaceSteps.{IsWithin, happens-goes}
use Rattle.node_rules.proofs.Kept.{Keeps, drop-keeps, numbers-keep}
use Rattle.node_rules.proofs.LeavingKeeps.{send_out-keeps}
use Rattle.node_rules.proofs.Lists.{each-under, fold-each}
use Rattle.node_rules.proofs.ReassemblyKeeps.{frags_take-keeps}
use Rattle.node_rules.proofs.SendingKeeps.{ip-node, report-keeps}

module _ (ok : Type 0) (shape : Shape) (n : ℕ) (known : ok → n < shape.nodes) (was : Progress) where
  abbrev now : Time
  now = was.firing.key.time

  abbrev K : Progress → Type 0
  K p = Keeps ok shape n was p

  deliver-keeps : (head : Ipv4) (packet : Packet) (p : Progress) → K p → K (deliver head packet p)
  unfolding deliver
  deliver-keeps head packet p k =
      cond_both (is_fragment head) (frags_take (Piece (now_of p) head packet) p) (deliver_whole head packet p) K
      (λ fragment. frags_take-keeps ok shape n known was (Piece (now_of p) head packet) p (ap (λ (key : Key). key.time.0) k.key) k)
      (λ whole. deliver_whole-keeps ok shape n known was head packet p k)

  carry_ip-keeps : (act : IpAct Packet) (p : Progress) → K p → K (carry_ip p act)
  unfolding carry_ip
  carry_ip-keeps (Out iface neighbour mtu packet) p k = send_out-keeps ok shape n known was iface neighbour mtu packet p k
  carry_ip-keeps (Local head packet) p k = deliver-keeps head packet p k
  carry_ip-keeps (ReportByIp kind code head packet) p k =
      report-keeps ok shape n known was head.src (Report kind code head packet) p k
  carry_ip-keeps DroppedByIp p k = drop-keeps ok shape n was p k

  ip_takes-keeps : (input : IpIn Packet) (p : Progress) → K p → K (ip_takes input p)
  unfolding ip_takes
  ip_takes-keeps input p k =
      let made : Made (IpAct Packet) = ip_step p.node.ip p.node.numbers input in
      fold-keeps_all K carry_ip (λ q act kept. carry_ip-keeps act q kept) made.acts (with_numbers made.numbers p)
      (numbers-keep ok shape n was made.numbers p (ip-node p.node.ip p.node.numbers input) k)

  carry_up-keeps : (iface : ℕ) (p : Progress) (act : IfaceAct Packet) → (ok → IsCarried shape now.0 n act) → K p → K (carry_up iface p act)
  unfolding carry_up
  carry_up-keeps iface p (Schedule at to what) is k = carry_down-keeps ok shape n known was iface p (Schedule at to what) is k
  carry_up-keeps iface p (Write sign frame) is k = carry_down-keeps ok shape n known was iface p (Write sign frame) is k
  carry_up-keeps iface p (Up packet) is k = ip_takes-keeps (ArriveAtIp packet) p k
  carry_up-keeps iface p DroppedBelow is k = carry_down-keeps ok shape n known was iface p DroppedBelow is k

  pub iface_happens-keeps : (iface : ℕ) (what : Happening Packet) (p : Progress) → K p → K (iface_happens iface what p)
  unfolding iface_happens
  iface_happens-keeps iface what p k =
      let done : IsDone ok shape n was (step_at iface (Happens now what) p) = step_at-done ok shape n known was iface (Happens now what) p
      (λ face. happens-goes (IsWithin face) now face p.node.numbers (bus_of (lan_of face.at) p.firing.lans) p.node.random (λ w. w) what) k in
      let same : p.firing.key.time ≡ now = ap (λ (key : Key). key.time) k.key in
      subst (λ (t : Time). K (stepped_up iface (step_at iface (Happens t what) p))) (sym same)
      (fold-each K (λ act. ok → IsCarried shape now.0 n act) (carry_up iface) (λ q act is kept. carry_up-keeps iface q act is kept)
      (step_at iface (Happens now what) p).acts (step_at iface (Happens now what) p).progress
      (each-under ok (IsCarried shape now.0 n) (step_at iface (Happens now what) p).acts done.acts) done.progress)
