-- What groups report that have come to the end of the run.
use Rattle.std.proofs.Common.{◌≡◌, ◌==◌, ℕ, ◌+◌, ◌-◌, ◌^◌, ◌<◌, min, nat_lt, zero, suc, true, List, [], ◌∷◌, ◌++◌, cond, count_by, fold, length, map, sum_by, Option, Some, None, slice_get, get_or, refl, sym, ap, ◌∙◌, arith}
use mathlib.Core.Path.{fun_ext}
use Rattle.std.specs.List.{range_with_len}
use Rattle.std.proofs.lemmas.Bool.{eq-eqb, ltb-true}
use Rattle.std.proofs.lemmas.Grind.{flat_map-append}
use Rattle.std.proofs.lemmas.List.{append-nil, length-map, map-append}
use Rattle.std.proofs.lemmas.List.Elements.{All-map}
use Rattle.std.proofs.lemmas.List.Sums.{fold_push, sum_by-cons}
use Rattle.std.proofs.lemmas.Option.{slice_get-get_or}
use Rattle.layer_words.specs.Counting.{count_up}
use Rattle.partition_cut.specs.declared.network.Cut.{Cut}
use Rattle.partition_cut.proofs.FewGroups.{group-total}
use Rattle.partition_cut.proofs.RankLaws.{range-push}
use Rattle.round_core.specs.Lines.{lines_of}
use Rattle.round_core.specs.Rounds.{Done, below, fired_by, times_of, windows}
use Rattle.round_core.specs.World.{Firing, first, with_log}
use Rattle.node_step.specs.declared.local_app.AppCount.{AppCount}
use Rattle.node_step.specs.Firing.{Text}
use Rattle.node_step.specs.LocalApp.{app_count}
use Rattle.node_step.specs.Node.{PlainNode}
use Rattle.node_step.specs.Part.{counts, drops, has, place_of}
use Rattle.node_rules.specs.Firings.{trace_line}
use Rattle.node_rules.specs.Worlds.{node_or}
use Rattle.lp_run.specs.Lp.{PlainLp, counted, nodes_of}
use Rattle.sim_world.specs.Opening.{OpensRuns}
use Rattle.sim_world.specs.World.{PlainWorld}
use Rattle.plain_kernel.specs.declared.report.Report.{Report}
use Rattle.plain_kernel.specs.Run.{RunWorld, run_lines}
use Rattle.round_kernel.specs.Cut.{Fits, group_of, rounds_cut}
use Rattle.round_kernel.specs.Groups.{Between, part_at}
use Rattle.round_kernel.specs.Left.{lps_of}
use Rattle.round_kernel.specs.Report.{AreCounted, AreNodes, HasEnded}
use Rattle.round_kernel.specs.Window.{Gone}
use Rattle.round_kernel.proofs.Begin.{both-true}
use Rattle.round_kernel.proofs.GroupLists.{at-group, length-lps}
use Rattle.round_kernel.proofs.RoundLaws.{empty_lp, in-groups}
use Rattle.round_kernel.proofs.RunLaws.{ending-lines, ends-so}
use Rattle.round_kernel.proofs.Turns.{done}

abbrev most : ℕ
most = 2 ^ 64 - 1

-- a count stays at the end of its type
counted-is : (n : ℕ) → counted n 0 ≡ min n most
counted-is zero = refl
counted-is (suc n) = let ih = counted-is n in omega arith

-- the sum of such counts stays there too
total-is : (k : ℕ → ℕ) (from n acc so : ℕ) → acc ≡ min so most →
    fold (λ total count. count_up count total) acc (map (λ g. counted (k g) 0) (range_with_len from n)) ≡ min (so + sum_by k (range_with_len from n)) most
total-is k from zero acc so is = omega arith
total-is k from (suc n) acc so is =
    let c = counted-is (k from) in
    let more = total-is k (from + 1) n (count_up (counted (k from) 0) acc) (so + k from) (omega arith) in
    let e = sum_by-cons k from (range_with_len (from + 1) n) in
    let sums : (so + k from) + sum_by k (range_with_len (from + 1) n) ≡ so + sum_by k (range_with_len from (suc n)) = omega arith in
    more ∙ ap (λ (x : ℕ). min x most) sums

-- firings, by the groups of their nodes
by-groups : (group : ℕ → ℕ) (fired : List (Firing Text)) (g : ℕ) →
    fired_by group g fired ≡ count_by (λ member. member == g) (map (λ f. group f.key.node.0) fired)
by-groups group [] g = refl
by-groups group (f ∷ fired) g =
    let a = sum_by-cons (λ (x : Firing Text). cond (group x.key.node.0 == g) 1 0) f fired in
    let b = sum_by-cons (λ member. cond (member == g) 1 0) (group f.key.node.0) (map (λ (x : Firing Text). group x.key.node.0) fired) in
    let ih = by-groups group fired g in omega arith

-- each is of one group
all-fired : (group : ℕ → ℕ) (groups : ℕ) (fired : List (Firing Text)) → ((n : ℕ) → group n < groups) →
    sum_by (λ g. fired_by group g fired) (range_with_len 0 groups) ≡ length fired
all-fired group groups fired within =
    ap (λ (f : ℕ → ℕ). sum_by f (range_with_len 0 groups)) (fun_ext (by-groups group fired))
    ∙ group-total groups (map (λ (f : Firing Text). group f.key.node.0) fired)
    (All-map (λ member. member < groups) (λ (f : Firing Text). group f.key.node.0) fired (λ k d low. within _))
    ∙ length-map fired (λ (f : Firing Text). group f.key.node.0)

-- a list by its numbers
by-number : (k : ℕ → ℕ) (groups : List Gone) (from : ℕ) →
    ((g : ℕ) (group : Gone) → slice_get groups g ≡ Some group → group.0.fired ≡ k (from + g)) →
    map (λ group. group.0.fired) groups ≡ map k (range_with_len from (length groups))
by-number k [] from is = refl
by-number k (x ∷ xs) from is =
    let z : from + 0 ≡ from = omega arith in
    let here : x.0.fired ≡ k from = is 0 x refl ∙ ap k z in
    ap (λ n. n ∷ map (λ (group : Gone). group.0.fired) xs) here
    ∙ ap (λ l. k from ∷ l) (by-number k xs (from + 1) (λ g group there. is (suc g) group there ∙ (let s : from + suc g ≡ from + 1 + g = omega arith in ap k s)))

-- what is counted of one more node
pub counted-first : (nodes : ℕ → PlainNode) → AreCounted nodes 0 0 []
counted-first nodes = record { drops_are = refl; apps_are = refl }

pub counted-more : (nodes : ℕ → PlainNode) (n dropped dropped' : ℕ) (apps apps' : List AppCount) → AreCounted nodes n dropped apps →
    dropped' ≡ count_up (nodes n).drops dropped → apps' ≡ apps ++ map app_count (nodes n).apps → AreCounted nodes (n + 1) dropped' apps'
counted-more nodes n dropped dropped' apps apps' is drops_is apps_is = record {
  drops_are = drops_is ∙ ap (count_up (nodes n).drops) is.drops_are
      ∙ sym (fold_push (λ (d : ℕ) (node : PlainNode). count_up node.drops d) 0 (map nodes (range_with_len 0 n)) (nodes n)) ∙ ap drops (sym one_more);
  apps_are = apps_is ∙ ap (λ l. l ++ map app_count (nodes n).apps) is.apps_are
      ∙ ap (λ l. counts (map nodes (range_with_len 0 n)) ++ l) (sym (append-nil (map app_count (nodes n).apps)))
      ∙ sym (flat_map-append (λ (node : PlainNode). map app_count node.apps) (map nodes (range_with_len 0 n)) (nodes n ∷ [])) ∙ ap counts (sym one_more);
}
  where
    one_more : map nodes (range_with_len 0 (n + 1)) ≡ map nodes (range_with_len 0 n) ++ nodes n ∷ []
    one_more = (let s : n + 1 ≡ suc n = omega arith in ap (λ k. map nodes (range_with_len 0 k)) s)
        ∙ ap (map nodes) (range-push 0 n) ∙ map-append nodes (range_with_len 0 n) ((0 + n) ∷ [])
        ∙ (let z : 0 + n ≡ n = omega arith in ap (λ k. map nodes (range_with_len 0 n) ++ nodes k ∷ []) z)

module _ (w : PlainWorld) (opens : OpensRuns w) (cut : Cut) (fits : Fits w cut) (groups : List Gone) (written : List (Firing Text))
    (rounds last : ℕ) (at : Between w cut (lps_of groups) written rounds last) where
  -- a node stands in its group
  node-there : (n g : ℕ) (lp : PlainLp) → slice_get (lps_of groups) g ≡ Some lp → group_of cut n ≡ g → has n lp.part ≡ true →
      slice_get lp.part.nodes (place_of n lp.part) ≡ Some (at.next.world.nodes n)
  unfolding nodes_of
  node-there n g lp is mine here =
      let low = both-true (nat_lt n (length lp.part.places)) (nat_lt (place_of n lp.part) (length lp.part.nodes)) here in
      let place_low = ltb-true (place_of n lp.part) (length lp.part.nodes) low.1 in
      let none = at.next.world.nodes n in
      let found : slice_get lp.part.nodes (place_of n lp.part) ≡ Some (get_or lp.part.nodes (place_of n lp.part) none) =
      slice_get-get_or lp.part.nodes (place_of n lp.part) none place_low in
      let reads : nodes_of lp.part n ≡ get_or lp.part.nodes (place_of n lp.part) none = rw here (ap (node_or n) found) in
      let world : nodes_of lp.part n ≡ at.next.world.nodes n =
      ap (λ (o : Option PlainLp). (part_at o).world.nodes n) (sym is)
      ∙ ap (λ (k : ℕ). (part_at (slice_get (lps_of groups) k)).world.nodes n) (sym mine) ∙ (at.next.are 0).nodes n in
      found ∙ ap Some (sym reads ∙ world)

  -- the nodes of the world stand in their groups
  pub are-nodes : AreNodes groups cut.group_of.items at.next.world.nodes
  are-nodes n low =
      let g : ℕ = group_of cut n in
      let group : Gone = get_or groups g (empty_lp, None) in
      let inside : n < length w.nodes = let e = fits.each in omega arith in
      let there : slice_get groups g ≡ Some group =
      slice_get-get_or groups g (empty_lp, None) (let i = in-groups w cut fits n in let c = at.count in let l = length-lps groups in omega arith) in
      let seen : slice_get (lps_of groups) g ≡ Some group.0 = at-group groups g group there in
      let here : has n group.0.part ≡ true = (at.has g group.0 seen).mine n inside ∙ eq-eqb g g refl in
      (group, there, (let p = (at.has g group.0 seen).places in omega arith), node-there n g group.0 seen refl here)

  final : RunWorld
  final = with_log written at.next.world

  all-written : final.fired ≡ written
  unfolding final
  all-written = ap (λ l. written ++ l) at.next.comes.unlogged ∙ append-nil written

  same-nodes : final.nodes ≡ at.next.world.nodes
  unfolding final
  same-nodes = refl

  -- so the plain run has come to its end, and all its lines are written
  pub ended-lines : ((g : ℕ) (lp : PlainLp) → slice_get (lps_of groups) g ≡ Some lp → first (below w.stop.0) lp.pending ≡ None) →
      map trace_line (lines_of written) ≡ run_lines w
  unfolding final
  ended-lines none = ap (λ l. map trace_line (lines_of l)) (sym all-written)
      ∙ ending-lines w opens (Done final) (ends-so w opens (Done final) (done w cut fits (lps_of groups) written rounds last at none).0)

  -- and this is its report
  pub ended : ((g : ℕ) (lp : PlainLp) → slice_get (lps_of groups) g ≡ Some lp → first (below w.stop.0) lp.pending ≡ None) →
      (report : Report) → report.events ≡ fold (λ total count. count_up count total) 0 report.group_events.items →
      report.group_events.items ≡ map (λ group. group.0.fired) groups → report.windows ≡ rounds →
      ((nodes : ℕ → PlainNode) → AreNodes groups cut.group_of.items nodes → AreCounted nodes (length cut.group_of.items) report.drops report.apps.items) →
      HasEnded w cut report
  unfolding final
  ended none report events each windows_is nodes =
      let over = done w cut fits (lps_of groups) written rounds last at none in
      let mine = nodes at.next.world.nodes are-nodes in
      let count : length groups ≡ cut.groups = sym (length-lps groups) ∙ at.count in
      let fired : ℕ → ℕ = λ g. counted (fired_by (group_of cut) g written) 0 in
      let by : report.group_events.items ≡ map fired (range_with_len 0 cut.groups) =
      each ∙ by-number fired groups 0 (λ g group there. at.fired g group.0 (at-group groups g group there)
      ∙ (let z : g ≡ 0 + g = omega arith in ap fired z))
      ∙ ap (λ k. map fired (range_with_len 0 k)) count in
      let all = all-written in
      let total : fold (λ total count. count_up count total) 0 (map fired (range_with_len 0 cut.groups)) ≡ counted (length written) 0 =
      total-is (λ g. fired_by (group_of cut) g written) 0 cut.groups 0 0 refl
      ∙ (let s = all-fired (group_of cut) cut.groups written (in-groups w cut fits) in let c = counted-is (length written) in omega arith) in
      record {
        final = final;
        ends = ends-so w opens (Done final) over.0;
        reports = record {
          events = events ∙ ap (fold (λ total count. count_up count total) 0) by ∙ total ∙ ap (λ l. counted (length l) 0) (sym all);
          drops_are = mine.drops_are ∙ ap (λ k. drops (map at.next.world.nodes (range_with_len 0 k))) fits.each;
          apps = mine.apps_are ∙ ap (λ k. counts (map at.next.world.nodes (range_with_len 0 k))) fits.each;
          windows_are = windows_is ∙ over.1 ∙ ap (λ l. windows (rounds_cut w cut).end_of 0 (times_of l)) (sym all);
          groups = by ∙ ap (λ l. map (λ g. counted (fired_by (group_of cut) g l) 0) (range_with_len 0 cut.groups)) (sym all);
        };
      }
