-- The groups of a round: there are as many after it as before, and each that is drawn is well.
use Rattle.std.proofs.Common.{◌≡◌, ◌<◌, ℕ, List, Option, get_or, length, ap, subst, sym, ◌∙◌}
use Rattle.std.specs.List.{All}
use Rattle.sim_base.specs.Packet.{Packet}
use Rattle.sim_base.specs.declared.key.Key.{Key}
use Rattle.sim_base.specs.declared.key.NodeId.{NodeId}
use Rattle.pkt_face.specs.declared.line.Line.{Line}
use Rattle.lp_run.specs.Lp.{IsWellLp}
use Rattle.round_core.specs.World.{Event}
use Rattle.node_step.specs.declared.loads.Load.{Load}
use Rattle.round_kernel.specs.Handing.{HaveGot}
use Rattle.round_kernel.specs.Left.{HavePlayed, lps_of}
use Rattle.round_kernel.specs.Window.{Gone}
use Rattle.round_kernel.proofs.AnswerLaws.{played-count}
use Rattle.round_kernel.proofs.GroupLists.{length-lps}

pub round-count : (group_of : ℕ → ℕ) (end : ℕ) (before played after : List Gone) (lines : List (Line Packet)) (sends events : List (Event (Load Packet)))
    (stop : Option (Key × NodeId)) → HavePlayed end (lps_of before) (lps_of played) lines sends stop →
    HaveGot group_of events (lps_of played) (lps_of after) → length after ≡ length before
round-count group_of end before played after lines sends events stop have got =
    sym (length-lps after) ∙ got.count ∙ played-count end (lps_of before) (lps_of played) lines sends stop have ∙ length-lps before

pub well-there : (groups drawn : List Gone) (i : ℕ) (group : Gone) → drawn ≡ groups → All (λ group. IsWellLp group.0) groups → i < length drawn →
    group ≡ get_or drawn i group → IsWellLp group.0
well-there groups drawn i group same well low is =
    subst (λ (x : Gone). IsWellLp x.0) (sym (is ∙ ap (λ (l : List Gone). get_or l i group) same)) (well i group (subst (λ (l : List Gone). i < length l) same low))
