-- What comes to reassembly keeps all well.
use Rattle.std.proofs.Common.{◌≡◌, ℕ, ◌<◌, sym, subst, inl}
use Rattle.sim_base.specs.declared.time.Time.{Time}
use Rattle.sim_base.specs.Packet.{Packet}
use Rattle.layer_words.specs.Acts.{Numbered}
use Rattle.frag_core.specs.declared.words.Act.{Act}
use Rattle.frag_core.specs.declared.words.Act.TheVariants.{Whole, TimerAt, Dropped}
use Rattle.frag_core.specs.declared.words.In.{In}
use Rattle.frag_core.specs.Later.{HappensAt, IsLater}
use Rattle.frag_core.specs.Step.{PlainFrags, step}
use Rattle.frag_core.proofs.StepLaws.{later-step}
use Rattle.node_step.specs.declared.loads.Load.TheVariants.{FragTimer}
use Rattle.node_step.specs.Node.{Progress, with_frags, with_numbers}
use Rattle.node_step.specs.Reassembly.{carry_frags, frags_take}
use Rattle.node_rules.specs.Shape.{Shape}
use Rattle.node_rules.proofs.DeliveryKeeps.{deliver_whole-keeps}
use Rattle.node_rules.proofs.FragsNode.{frags-node}
use Rattle.node_rules.proofs.Kept.{Keeps, drop-keeps, frags-keep, numbers-keep, schedule-keeps}
use Rattle.node_rules.proofs.Lists.{fold-each}

module _ (ok : Type 0) (shape : Shape) (n : ℕ) (known : ok → n < shape.nodes) (was : Progress) where
  abbrev now : Time
  now = was.firing.key.time

  abbrev K : Progress → Type 0
  K p = Keeps ok shape n was p

  carry_frags-keeps : (p : Progress) (act : Act Packet) → IsLater now.0 act → K p → K (carry_frags p act)
  unfolding carry_frags
  carry_frags-keeps p (Whole head packet) is k = deliver_whole-keeps ok shape n known was head packet p k
  carry_frags-keeps p (TimerAt at stamp) is k = schedule-keeps ok shape n was at p.node.numbers.node (FragTimer stamp) p
      (λ o. let own : p.node.numbers.node.0 ≡ n = (k.well o).node.number in
      record {
        later = is;
        known = subst (λ (m : ℕ). m < shape.nodes) (sym own) (known o);
        load = tt;
        reach = inl own;
      }) k
  carry_frags-keeps p Dropped is k = drop-keeps ok shape n was p k

  pub frags_take-keeps : (input : In Packet) (p : Progress) → HappensAt now.0 input → K p → K (frags_take input p)
  unfolding frags_take
  frags_take-keeps input p at k =
      let s : Numbered PlainFrags (Act Packet) = step p.node.frags p.node.numbers input in
      fold-each K (IsLater now.0) carry_frags (λ q act is kept. carry_frags-keeps q act is kept)
      s.acts (with_numbers s.numbers (with_frags s.state p)) (later-step now.0 p.node.frags p.node.numbers input at)
      (numbers-keep ok shape n was s.numbers (with_frags s.state p) (frags-node p.node.frags p.node.numbers input)
      (frags-keep ok shape n was s.state p k))
