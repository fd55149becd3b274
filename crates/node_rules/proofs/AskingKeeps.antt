-- What an application asks of TCP keeps all well.
use Rattle.std.proofs.Common.{◌≡◌, ℕ, ◌<◌, All, Some, sym, subst, inl}
use Rattle.sim_base.specs.declared.time.Time.{Time}
use Rattle.sim_base.specs.Packet.{Packet}
use Rattle.layer_words.specs.Acts.{Numbered}
use Rattle.ipv4_core.specs.declared.ip.In.TheVariants.{Send}
use Rattle.tcp_flow.specs.declared.words.Act.{Act}
use Rattle.tcp_flow.specs.declared.words.Act.TheVariants.{Emit, TimerAt, Connected, Room, Deliver, End, Reset, Dropped}
use Rattle.tcp_flow.specs.declared.words.In.{In}
use Rattle.tcp_flow.specs.Conns.{PlainConns, step}
use Rattle.tcp_flow.specs.Later.{IsLater, time_of}
use Rattle.tcp_flow.proofs.LaterTimers.{step-lasts}
use Rattle.node_step.specs.declared.loads.Load.TheVariants.{TcpTimer}
use Rattle.node_step.specs.Asking.{carry_asked, conns_ask}
use Rattle.node_step.specs.Node.{Progress, with_conns, with_numbers}
use Rattle.node_rules.specs.Shape.{Shape}
use Rattle.node_rules.proofs.ConnsNode.{conns-node}
use Rattle.node_rules.proofs.Folds.{fold-keeps}
use Rattle.node_rules.proofs.Kept.{Keeps, conns-keep, drop-keeps, numbers-keep, schedule-keeps}
use Rattle.node_rules.proofs.SendingKeeps.{ip_sends-keeps}

module _ (ok : Type 0) (shape : Shape) (n : ℕ) (known : ok → n < shape.nodes) (was : Progress) where
  abbrev now : Time
  now = was.firing.key.time

  abbrev K : Progress → Type 0
  K p = Keeps ok shape n was p

  pub carry_asked-keeps : (p : Progress) (act : Act Packet) → (ok → IsLater now.0 act) → K p → K (carry_asked p act)
  unfolding carry_asked
  carry_asked-keeps p (Emit s) is k = ip_sends-keeps ok shape n known was (Send (Some s.src) s.dst 6 s.packet) p k
  carry_asked-keeps p (TimerAt at conn stamp) is k = schedule-keeps ok shape n was at p.node.numbers.node (TcpTimer conn stamp) p
      (λ o. let own : p.node.numbers.node.0 ≡ n = (k.well o).node.number in
      record {
        later = is o;
        known = subst (λ (m : ℕ). m < shape.nodes) (sym own) (known o);
        load = tt;
        reach = inl own;
      }) k
  carry_asked-keeps p (Connected app) is k = k
  carry_asked-keeps p (Room app free) is k = k
  carry_asked-keeps p (Deliver app src sport packet) is k = k
  carry_asked-keeps p (End app) is k = k
  carry_asked-keeps p (Reset app) is k = k
  carry_asked-keeps p Dropped is k = drop-keeps ok shape n was p k

  -- what a step of TCP asks for comes later
  pub asked-later : (input : In Packet) (p : Progress) → time_of input ≡ now.0 → K p → ok →
      All (IsLater now.0) (step p.node.conns p.node.numbers input).acts
  asked-later input p at k o =
      let lasts = step-lasts p.node.conns p.node.numbers input (k.well o).node.waits in
      subst (λ (t : ℕ). All (IsLater t) (step p.node.conns p.node.numbers input).acts) at lasts.later

  -- the connections after a step of TCP
  pub stepped-keeps : (input : In Packet) (p : Progress) → K p →
      K (with_numbers (step p.node.conns p.node.numbers input).numbers (with_conns (step p.node.conns p.node.numbers input).state p))
  stepped-keeps input p k =
      let s : Numbered PlainConns (Act Packet) = step p.node.conns p.node.numbers input in
      numbers-keep ok shape n was s.numbers (with_conns s.state p) (conns-node p.node.conns p.node.numbers input)
      (conns-keep ok shape n was s.state p (λ waits. let lasts = step-lasts p.node.conns p.node.numbers input waits in lasts.waits) k)

  pub conns_ask-keeps : (input : In Packet) (p : Progress) → time_of input ≡ now.0 → K p → K (conns_ask input p)
  unfolding conns_ask
  conns_ask-keeps input p at k =
      let s : Numbered PlainConns (Act Packet) = step p.node.conns p.node.numbers input in
      fold-keeps K (λ act. ok → IsLater now.0 act) carry_asked (λ q act is kept. carry_asked-keeps q act is kept)
      s.acts (with_numbers s.numbers (with_conns s.state p)) (λ i d below o. asked-later input p at k o i d below) (stepped-keeps input p k)
