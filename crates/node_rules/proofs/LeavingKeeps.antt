-- A packet that leaves, whole or in fragments, keeps all well.
use Rattle.std.proofs.Common.{ℕ, ◌<◌, nat_lt}
use Rattle.std.proofs.lemmas.Bool.{cond_both}
use Rattle.sim_base.specs.Packet.{Packet, len}
use Rattle.node_step.specs.Down.{send_packet}
use Rattle.node_step.specs.Leaving.{fragments_of, leaves, send_each, send_out}
use Rattle.node_step.specs.Node.{Progress}
use Rattle.node_rules.specs.Shape.{Shape}
use Rattle.node_rules.proofs.DownKeeps.{send_packet-keeps}
use Rattle.node_rules.proofs.Folds.{fold-keeps_all}
use Rattle.node_rules.proofs.Kept.{Keeps}

module _ (ok : Type 0) (shape : Shape) (n : ℕ) (known : ok → n < shape.nodes) (was : Progress) where
  abbrev K : Progress → Type 0
  K p = Keeps ok shape n was p

  pub send_out-keeps : (iface hop mtu : ℕ) (packet : Packet) (p : Progress) → K p → K (send_out iface hop mtu packet p)
  unfolding send_out
  send_out-keeps iface hop mtu packet p k =
      cond_both (nat_lt mtu (len packet)) (send_each iface hop (fragments_of mtu packet) p) (send_packet iface hop packet p) K
      (λ long. fold-keeps_all K (leaves iface hop) (λ q fragment kept. send_packet-keeps ok shape n known was iface hop fragment q kept)
      (fragments_of mtu packet) p k)
      (λ fits. send_packet-keeps ok shape n known was iface hop packet p k)
