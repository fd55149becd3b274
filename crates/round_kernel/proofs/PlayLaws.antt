-- What a round of groups leaves, from what each of its steps does.
use Rattle.std.proofs.Common.{◌≡◌, ◌≢◌, ℕ, List, [], ◌∷◌, All, Vec, map, Option, Some, refl, sym, ap, ◌∙◌, subst}
use Rattle.std.specs.Global.{Global}
use Rattle.sim_base.specs.Packet.{Packet}
use Rattle.sim_base.specs.declared.key.Key.{Key}
use Rattle.sim_base.specs.declared.key.NodeId.{NodeId}
use Rattle.pkt_face.specs.declared.line.Line.{Line}
use Rattle.pkt_face.specs.Seen.{plain_line}
use Rattle.round_core.specs.World.{Event}
use Rattle.node_step.specs.declared.loads.Load.{Load}
use Rattle.lp_run.specs.declared.stop.LpStop.TheVariants.{NoMemory}
use Rattle.row_work.specs.Made.{AreMade}
use Rattle.trace_merge.specs.Merge.{AreGroups, IsMerged}
use Rattle.round_kernel.specs.Left.{HavePlayed, emptied, emptied_group, full_lines, lines_in, lps_of, plain_lists, sends_in}
use Rattle.round_kernel.specs.Stops.{HaveGone, IsStopOf, least_stop, limit_of}
use Rattle.round_kernel.specs.Window.{Gone, HasGone}
use Rattle.round_kernel.proofs.GroupLists.{have-gone}
use Rattle.round_kernel.proofs.LeftLaws.{full-groups, merged-full, merged-seen, own-groups, own_lists}
use Rattle.round_kernel.proofs.StopLaws.{least-stop}

left-of : (groups : List Gone) → lps_of (map emptied_group groups) ≡ map (λ group. emptied group.0) groups
left-of [] = refl
left-of (group ∷ groups) = ap (λ l. emptied group.0 ∷ l) (left-of groups)

module _ {P : Type 0} (plain : P → Packet) (end : ℕ) (old gone : List Gone) (made : AreMade (λ _ o n. HasGone end o.0 n.0 n.1) old gone)
    (memory : All (λ group. group.1 ≢ Some NoMemory) gone) (lists : List (Vec (Line P) Global)) (lists_are : plain_lists plain lists ≡ full_lines gone) where
  -- the lists of lines can be merged
  pub can-merge : ((new : List Gone) → HaveGone end (lps_of old) new → AreGroups (lines_in new)) → AreGroups (own_lists plain lists)
  can-merge apart = own-groups plain lists (subst (λ (l : List (List (Line Packet))). AreGroups l) (sym lists_are) (full-groups gone (apart gone (have-gone end old gone made memory))))

  pub have-played : (after : List Gone) (lines : List (Line P)) (sends : List (Event (Load Packet))) (stop : Option (Key × NodeId)) (limit : Option Key) →
      stop ≡ least_stop gone → after ≡ map emptied_group gone → sends ≡ sends_in gone → limit ≡ limit_of stop →
      IsMerged (own_lists plain lists) limit lines → HavePlayed end (lps_of old) (lps_of after) (map (plain_line plain) lines) sends stop
  have-played after lines sends stop limit stop_is after_is sends_are limit_is merged = record {
    gone = gone;
    are_gone = have-gone end old gone made memory;
    stops = subst (λ (o : Option (Key × NodeId)). IsStopOf gone o) (sym stop_is) (least-stop gone memory);
    merged = merged-full gone (limit_of stop) (map (plain_line plain) lines)
        (subst (λ (l : Option Key). IsMerged (full_lines gone) l (map (plain_line plain) lines)) limit_is
        (subst (λ (l : List (List (Line Packet))). IsMerged l limit (map (plain_line plain) lines)) lists_are (merged-seen plain lists limit lines merged)));
    sent = sends_are;
    left = ap lps_of after_is ∙ left-of gone;
  }
