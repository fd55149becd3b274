-- What comes to TCP keeps all well.
use Rattle.std.proofs.Common.{◌≡◌, ℕ, ◌<◌}
use Rattle.sim_base.specs.declared.time.Time.{Time}
use Rattle.sim_base.specs.Packet.{Packet}
use Rattle.layer_words.specs.Acts.{Numbered}
use Rattle.tcp_flow.specs.declared.words.Act.{Act}
use Rattle.tcp_flow.specs.declared.words.Act.TheVariants.{Emit, TimerAt, Connected, Room, Deliver, End, Reset, Dropped}
use Rattle.tcp_flow.specs.declared.words.In.{In}
use Rattle.tcp_flow.specs.Conns.{PlainConns, step}
use Rattle.tcp_flow.specs.Later.{IsLater, time_of}
use Rattle.traffic_apps.specs.declared.app.In.TheVariants.{Got, Connected as IsConnected, Room as HasRoom, End as HasEnded, Reset as IsReset}
use Rattle.node_step.specs.Hearing.{carry_heard, conns_hear}
use Rattle.node_step.specs.Node.{Progress, with_conns, with_numbers}
use Rattle.node_rules.specs.Shape.{Shape}
use Rattle.node_rules.proofs.AppActs.{connected-later, ended-later, has_room-later, reset-later}
use Rattle.node_rules.proofs.AppKeeps.{app_counts-keeps, app_takes-keeps}
use Rattle.node_rules.proofs.AskingKeeps.{asked-later, carry_asked-keeps, stepped-keeps}
use Rattle.node_rules.proofs.Folds.{fold-keeps}
use Rattle.node_rules.proofs.Kept.{Keeps}

module _ (ok : Type 0) (shape : Shape) (n : ℕ) (known : ok → n < shape.nodes) (was : Progress) where
  abbrev now : Time
  now = was.firing.key.time

  abbrev K : Progress → Type 0
  K p = Keeps ok shape n was p

  carry_heard-keeps : (p : Progress) (act : Act Packet) → (ok → IsLater now.0 act) → K p → K (carry_heard p act)
  unfolding carry_heard
  carry_heard-keeps p (Emit s) is k = carry_asked-keeps ok shape n known was p (Emit s) is k
  carry_heard-keeps p (TimerAt at conn stamp) is k = carry_asked-keeps ok shape n known was p (TimerAt at conn stamp) is k
  carry_heard-keeps p (Connected app) is k =
      app_takes-keeps ok shape n known was app IsConnected p (λ a numbers kind. connected-later now.0 a numbers) k
  carry_heard-keeps p (Room app free) is k =
      app_takes-keeps ok shape n known was app (HasRoom free) p (λ a numbers kind. has_room-later now.0 free a numbers) k
  carry_heard-keeps p (Deliver app src sport packet) is k = app_counts-keeps ok shape n known was app (Got src sport packet) p k
  carry_heard-keeps p (End app) is k =
      app_takes-keeps ok shape n known was app HasEnded p (λ a numbers kind. ended-later now.0 a numbers) k
  carry_heard-keeps p (Reset app) is k =
      app_takes-keeps ok shape n known was app IsReset p (λ a numbers kind. reset-later now.0 a numbers) k
  carry_heard-keeps p Dropped is k = carry_asked-keeps ok shape n known was p Dropped is k

  pub conns_hear-keeps : (input : In Packet) (p : Progress) → time_of input ≡ now.0 → K p → K (conns_hear input p)
  unfolding conns_hear
  conns_hear-keeps input p at k =
      let s : Numbered PlainConns (Act Packet) = step p.node.conns p.node.numbers input in
      fold-keeps K (λ act. ok → IsLater now.0 act) carry_heard (λ q act is kept. carry_heard-keeps q act is kept)
      s.acts (with_numbers s.numbers (with_conns s.state p)) (λ i d below o. asked-later ok shape n known was input p at k o i d below)
      (stepped-keeps ok shape n known was input p k)
