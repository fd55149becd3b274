-- A round: each group has run to the window's end, and the run comes by what they have fired.
use Rattle.std.proofs.Common.{◌≡◌, ◌≢◌, ℕ, ◌<◌, ◌≤◌, ◌⊎◌, suc, true, false, List, [], ◌++◌, filter, length, Option, Some, None, slice_get, get_or, refl, sym, ap, ◌∙◌, subst, arith, inl, inr}
use Rattle.std.proofs.lemmas.Bool.{cases_lt, eq-eqb, eqb-true}
use Rattle.std.proofs.lemmas.List.{get_or_past}
use Rattle.std.proofs.lemmas.Option.{slice_get-get_or, slice_get_past, slice_get_within}
use Rattle.std.specs.List.{AllByRecursion}
use Rattle.sim_base.specs.Packet.{Packet}
use Rattle.sim_base.specs.declared.key.Key.{Key}
use Rattle.sim_base.specs.KeyOrder.{before}
use Rattle.partition_cut.specs.declared.network.Cut.{Cut}
use Rattle.round_core.specs.Kernel.{IsLeastLeft, IsRoundOfParts}
use Rattle.round_core.specs.Laws.{IsClosed}
use Rattle.round_core.specs.Order.{in_key_order, insert_each}
use Rattle.round_core.specs.Parts.{AreHandedOver, AreMerged, AreParts, IsIn, PartRuns, is_for}
use Rattle.round_core.specs.Rounds.{IsAllowed, Limited, PlainEnds, below, fired_by}
use Rattle.round_core.specs.World.{Event, Firing, IsPast, first}
use Rattle.round_core.proofs.HandOver.{empty-past}
use Rattle.round_core.proofs.KernelLaws.{round-goes_on, round-stops}
use Rattle.round_core.proofs.LookaheadLaws.{lookahead-allowed}
use Rattle.round_core.proofs.PartRounds.{parts-run}
use Rattle.round_core.proofs.RoundLaw.{begins-fits}
use Rattle.round_core.proofs.Window.{below-time}
use Rattle.round_core.proofs.ListLaws.{first-passes}
use Rattle.round_core.proofs.Members.{all-in, filter-in, in-all, in-filter, in-insert_each, in-insert_each_new, in-insert_each_old}
use Rattle.node_step.specs.declared.loads.Load.{Load}
use Rattle.node_step.specs.Firing.{Text}
use Rattle.node_step.specs.Node.{PlainNode}
use Rattle.node_rules.specs.Health.{health}
use Rattle.node_rules.specs.Rules.{rules}
use Rattle.node_rules.specs.Worlds.{no_node}
use Rattle.node_rules.proofs.RuleLaws.{ahead, lawful}
use Rattle.lp_run.specs.Lp.{IsWellIn, PlainLp, own_group, part_of}
use Rattle.sim_world.specs.World.{PlainWorld}
use Rattle.plain_kernel.specs.Run.{shape_in, start}
use Rattle.round_kernel.specs.Cut.{Fits, group_of, nanoseconds, rounds_cut}
use Rattle.round_kernel.proofs.Fresh.{IsFresh, fresh-first, in-sents, own-filter, sents, sents-in, sents-own}
use Rattle.round_kernel.specs.Groups.{Between, GroupPart, GroupWorld, IsNext, nothing, part_at, parts_of}
use Rattle.round_kernel.proofs.GroupParts.{fresh-firings, runs-same, sound-beside, well-beside}
use Rattle.round_kernel.proofs.Logs.{logs, logs-merged, rising-each}

-- a group with nothing
pub empty_lp : PlainLp
empty_lp = record { part = record { places = []; nodes = []; lans = []; limit = 0 }; pending = []; sends = []; lines = []; fired = 0 }

module _ (w : PlainWorld) (cut : Cut) where
  module _ (fits : Fits w cut) where
    -- the cut is allowed
    pub allowed : IsAllowed (rules w.limit (shape_in w)) (health (shape_in w)) w.stop.0 (rounds_cut w cut)
    allowed = lookahead-allowed (rules w.limit (shape_in w)) (health (shape_in w)) (group_of cut) (nanoseconds cut.lookahead) w.stop.0
        (ahead w.limit (shape_in w) (group_of cut) (nanoseconds cut.lookahead) fits.positive fits.cut_by)

    pub in-groups : (n : ℕ) → group_of cut n < cut.groups
    in-groups n = elim (cases_lt n (length cut.group_of.items)) [
      | inl low ↦ fits.within n 0 low
      | inr past ↦ (let none : group_of cut n ≡ 0 = get_or_past cut.group_of.items n 0 past in let some = fits.some in omega arith)
    ]

    module _ (lps : List PlainLp) (written : List (Firing Text)) (rounds last : ℕ) (at : Between w cut lps written rounds last) where
      world : GroupWorld
      world = at.next.world

      there : (g : ℕ) (lp : PlainLp) → slice_get lps g ≡ Some lp → parts_of lps g ≡ part_of lp
      there g lp is = ap part_at is

      -- each group is well before the round
      pub each-well : (g : ℕ) (lp : PlainLp) → slice_get lps g ≡ Some lp → IsWellIn (shape_in w) lp
      each-well g lp is = well-beside (shape_in w) w.limit (group_of cut) g lp (at.has g lp is) no_node
          at.next.world at.next.comes.sound 0 (parts_of lps) (at.next.are 0) (there g lp is)

      -- what a group has become: a run of its part to the window's end
      pub record Became (end g : ℕ) (lp : PlainLp) (left : GroupPart) : Type 0 where
        pub runs : PartRuns (rules lp.part.limit (shape_in w)) (own_group lp.part) 0 end (part_of lp) left

      -- the parts that are left, by the number of their group
      module _ (end : ℕ) (became : (g : ℕ) (lp : PlainLp) → slice_get lps g ≡ Some lp → (left : GroupPart) × Became end g lp left) where
        unfoldable pub left_of : (g : ℕ) (o : Option PlainLp) → slice_get lps g ≡ o → GroupPart
        left_of g None is = nothing
        left_of g (Some lp) is = (became g lp is).0

        unfoldable pub news : ℕ → GroupPart
        news g = left_of g (slice_get lps g) refl

        abbrev RunsTo : ℕ → GroupPart → GroupPart → Type 0
        RunsTo g old new = PartRuns (rules w.limit (shape_in w)) (group_of cut) g end old new

        runs_at : (g : ℕ) (o : Option PlainLp) (is : slice_get lps g ≡ o) → g < cut.groups → RunsTo g (part_at o) (left_of g o is)
        unfolding left_of
        runs_at g None is low = absurd (let some = slice_get-get_or lps g empty_lp (let c = at.count in omega arith) in
            let d : None ≡ Some (get_or lps g empty_lp) = sym is ∙ some in cc)
        runs_at g (Some lp) is low =
            let nodes = at.has g lp is in
            let made = became g lp is in
            let here = subst (λ (x : ℕ). PartRuns (rules x (shape_in w)) (own_group lp.part) 0 end (part_of lp) made.0) nodes.limit_is made.1.runs in
            runs-same (shape_in w) w.limit (group_of cut) g lp nodes at.next.world.nodes end (part_of lp) made.0
            (sound-beside (shape_in w) w.limit (group_of cut) g lp nodes no_node at.next.world at.next.comes.sound 0 (parts_of lps) (at.next.are 0) (there g lp is))
            here

        rest_at : (g : ℕ) (o : Option PlainLp) (is : slice_get lps g ≡ o) → cut.groups ≤ g → left_of g o is ≡ part_at o
        unfolding left_of
        rest_at g None is past = refl
        rest_at g (Some lp) is past = absurd (let low = slice_get_within lps g lp is in let c = at.count in omega arith)

        pub runs-are : (g : ℕ) → g < cut.groups → RunsTo g (parts_of lps g) (news g)
        unfolding news
        runs-are g low = runs_at g (slice_get lps g) refl low

        pub rest-are : (g : ℕ) → cut.groups ≤ g → news g ≡ parts_of lps g
        unfolding news
        rest-are g past = rest_at g (slice_get lps g) refl past

        pub none-fired : (g : ℕ) → cut.groups ≤ g → (news g).world.fired ≡ []
        none-fired g past = ap (λ (p : GroupPart). p.world.fired) (rest-are g past) ∙ ap (λ (o : Option PlainLp). (part_at o).world.fired)
            (slice_get_past lps g (let c = at.count in omega arith))

        -- a round by the laws: its window begins at the least pending time
        module _ (least : Event (Load Packet)) (begins : first (below w.stop.0) at.next.world.pending ≡ Some least)
            (ends : (rounds_cut w cut).end_of least.key.time.0 ≡ end) where
          low : least.key.time.0 < w.stop.0
          low = below-time w.stop.0 least.key (first-passes (below w.stop.0) at.next.world.pending least begins)

          past : IsPast at.next.world
          past = empty-past at.next.world at.next.comes.unlogged

          pub are-news : (v : GroupWorld) × AreParts (rules w.limit (shape_in w)) (group_of cut) end news v
          are-news =
              let made = parts-run (rules w.limit (shape_in w)) (health (shape_in w)) (lawful w.limit (shape_in w)) (group_of cut) allowed.lans least.key.time.0 end
              (subst (λ (x : ℕ). IsClosed (rules w.limit (shape_in w)) (health (shape_in w)) (group_of cut) least.key.time.0 x) ends (allowed.closed least.key.time.0 low))
              (parts_of lps) news at.next.world cut.groups
              (begins-fits (rules w.limit (shape_in w)) (health (shape_in w)) (lawful w.limit (shape_in w)) w.stop.0 at.next.world least at.next.comes.sound begins)
              past (at.next.are end) in-groups runs-are rest-are in
              (_, made.2)

          -- the firings of all groups, in the order of their keys
          pub fired : List (Firing Text)
          fired = in_key_order (λ f. f.key) (logs (group_of cut) news cut.groups)

          pub merged : AreMerged news fired
          unfolding fired
          merged = logs-merged (group_of cut) news are-news.1.log_own (λ g. (are-news.1.past g).rising) cut.groups none-fired

          pub is-round : IsRoundOfParts (rules w.limit (shape_in w)) w.stop.0 (rounds_cut w cut) cut.groups end at.next.world (parts_of lps) news fired
          is-round = record {
            least = least;
            begins = begins;
            ends = ends;
            within = in-groups;
            are = at.next.are end;
            runs = runs-are;
            rest = rest-are;
            merged = merged;
          }

          -- ---- handing over

          fresh_at : (g : ℕ) (o : Option PlainLp) (is : slice_get lps g ≡ o) →
              IsFresh (rules w.limit (shape_in w)) (group_of cut) g end (part_at o).world.nodes (part_at o).world.pending (left_of g o is)
          unfolding left_of
          fresh_at g None is = fresh-first (rules w.limit (shape_in w)) (group_of cut) g end no_node [] nothing refl refl refl
          fresh_at g (Some lp) is =
              let nodes = at.has g lp is in
              let made = became g lp is in
              let here = subst (λ (x : ℕ). PartRuns (rules x (shape_in w)) (own_group lp.part) 0 end (part_of lp) made.0) nodes.limit_is made.1.runs in
              let sound = sound-beside (shape_in w) w.limit (group_of cut) g lp nodes no_node at.next.world at.next.comes.sound 0 (parts_of lps) (at.next.are 0) (there g lp is) in
              let mine = runs-same (shape_in w) w.limit (group_of cut) g lp nodes at.next.world.nodes end (part_of lp) made.0 sound here in
              subst (λ (p : GroupPart). IsFresh (rules w.limit (shape_in w)) (group_of cut) g end (part_of lp).world.nodes lp.pending p) mine.reached
              (fresh-firings (shape_in w) w.limit (group_of cut) g lp nodes at.next.world.nodes end mine.steps (part_of lp).world.nodes lp.pending (part_of lp) sound
              (fresh-first (rules w.limit (shape_in w)) (group_of cut) g end (part_of lp).world.nodes lp.pending (part_of lp) refl refl (at.sends g lp is)))

          pub fresh : (g : ℕ) → IsFresh (rules w.limit (shape_in w)) (group_of cut) g end (parts_of lps g).world.nodes (parts_of lps g).world.pending (news g)
          unfolding news
          fresh g = fresh_at g (slice_get lps g) refl

          abbrev pub sent : List (Event (Load Packet))
          sent = sents (rules w.limit (shape_in w)) (group_of cut) end (λ g. (parts_of lps g).world.nodes) (λ g. (parts_of lps g).world.pending) news fresh cut.groups

          -- what was sent has another key than what is pending for the group that it is for
          pub sent-new : (h : ℕ) (e x : Event (Load Packet)) → IsIn e sent → group_of cut e.key.node.0 ≡ h → IsIn x (news h).world.pending → e.key ≢ x.key
          sent-new h e x i for_it j same =
              let from = in-sents (rules w.limit (shape_in w)) (group_of cut) end (λ g. (parts_of lps g).world.nodes) (λ g. (parts_of lps g).world.pending) news fresh cut.groups e i in
              let g : ℕ = from.0 in
              let by = in-all (λ (y : Event (Load Packet)). (group_of cut y.key.by.0 ≡ g) × ((rules w.limit (shape_in w)).counter ((parts_of lps g).world.nodes y.key.by.0) ≤ y.key.count)
              × (y.key.count < (rules w.limit (shape_in w)).counter ((news g).world.nodes y.key.by.0))) (news g).sent (fresh g).sent_by e from.2 in
              let away = in-all (λ (y : Event (Load Packet)). is_for (group_of cut) g y ≡ false) (news g).sent (fresh g).sent_away e from.2 in
              let same_by : group_of cut x.key.by.0 ≡ g = ap (λ (k : Key). group_of cut k.by.0) (sym same) ∙ by.0 in
              elim (in-all (λ (y : Event (Load Packet)). IsIn y (parts_of lps h).world.pending ⊎ (group_of cut y.key.by.0 ≡ h)) (news h).world.pending (fresh h).pending_by x j) [
                | inl old_one ↦
                    let in_world = ((at.next.are 0).pending x).1 (h, inl old_one) in
                    let counted_one = in-all (λ (y : Event (Load Packet)). y.key.count < (at.next.world.nodes y.key.by.0).scheduled) at.next.world.pending at.next.comes.sound.counted x in_world in
                    let node : (parts_of lps g).world.nodes e.key.by.0 ≡ at.next.world.nodes e.key.by.0 =
                    ap (λ (k : ℕ). (parts_of lps k).world.nodes e.key.by.0) (sym by.0) ∙ (at.next.are 0).nodes e.key.by.0 in
                    let counter_is : ((parts_of lps g).world.nodes e.key.by.0).scheduled ≡ (at.next.world.nodes x.key.by.0).scheduled =
                    ap (λ (n : PlainNode). n.scheduled) (node ∙ ap (λ (k : Key). at.next.world.nodes k.by.0) same) in
                    let count_is = ap (λ (k : Key). k.count) same in
                    let low = by.1 in
                    absurd (omega arith)
                | inr own_one ↦
                    let one : h ≡ g = sym own_one ∙ same_by in
                    let mine : is_for (group_of cut) g e ≡ true = eq-eqb (group_of cut e.key.node.0) g (for_it ∙ one) in
                    absurd (let d : true ≡ false = sym mine ∙ away in cc)
              ]

          -- a part that has got what the others have sent
          abbrev pub handed : ℕ → GroupPart
          handed g = record {
            world = record {
              nodes = (news g).world.nodes;
              lans = (news g).world.lans;
              pending = insert_each (λ e. e.key) (filter (is_for (group_of cut) g) sent) (news g).world.pending;
              fired = [];
            };
            sent = [];
          }

          pub handed-over : AreHandedOver (group_of cut) news handed
          handed-over = record {
            nodes = λ g n. refl;
            lans = λ g l. refl;
            rising = λ g. rising-each (λ e. e.key) (filter (is_for (group_of cut) g) sent) (news g).world.pending (are-news.1.rising g)
                (own-filter (λ e. e.key) (is_for (group_of cut) g) sent
                (sents-own (rules w.limit (shape_in w)) (group_of cut) end (λ g. (parts_of lps g).world.nodes) (λ g. (parts_of lps g).world.pending) news fresh cut.groups))
                (all-in (λ (x : Event (Load Packet)). AllByRecursion (λ (y : Event (Load Packet)). x.key ≢ y.key) (news g).world.pending) (filter (is_for (group_of cut) g) sent)
                (λ x i. let kept = filter-in (is_for (group_of cut) g) x sent i in
                all-in (λ (y : Event (Load Packet)). x.key ≢ y.key) (news g).world.pending
                (λ y j. sent-new g x y kept.0 (eqb-true (group_of cut x.key.node.0) g kept.1) j)));
            pending = λ g e. (
              (λ i. elim (in-insert_each (λ (x : Event (Load Packet)). x.key) e (filter (is_for (group_of cut) g) sent) (news g).world.pending i) [
                | inl came ↦
                    let kept = filter-in (is_for (group_of cut) g) e sent came in
                    let from = in-sents (rules w.limit (shape_in w)) (group_of cut) end (λ g. (parts_of lps g).world.nodes) (λ g. (parts_of lps g).world.pending) news fresh cut.groups e kept.0 in
                    inr (from.0, from.2, eqb-true (group_of cut e.key.node.0) g kept.1)
                | inr was ↦ inl was
              ]),
              (λ i. elim i [
                | inl was ↦ in-insert_each_old (λ (x : Event (Load Packet)). x.key) e (filter (is_for (group_of cut) g) sent) (news g).world.pending was
                | inr came ↦ in-insert_each_new (λ (x : Event (Load Packet)). x.key) e (filter (is_for (group_of cut) g) sent) (news g).world.pending
                    (in-filter (is_for (group_of cut) g) e sent (came-in came.0 e came.1) (eq-eqb (group_of cut e.key.node.0) g came.2))
              ]),
            );
            sent = λ g. refl;
            fired = λ g. refl;
          }
            where
              came-in : (h : ℕ) (e : Event (Load Packet)) → IsIn e (news h).sent → IsIn e sent
              came-in h e i = elim (cases_lt h cut.groups) [
                | inl low ↦ sents-in (rules w.limit (shape_in w)) (group_of cut) end (λ g. (parts_of lps g).world.nodes) (λ g. (parts_of lps g).world.pending) news fresh cut.groups h e low i
                | inr past ↦ absurd (subst (λ (l : List (Event (Load Packet))). IsIn e l)
                    (ap (λ (p : GroupPart). p.sent) (rest-are h past)
                    ∙ ap (λ (o : Option PlainLp). (part_at o).sent) (slice_get_past lps h (let c = at.count in omega arith))) i)
              ]

          -- where no group has an event left, the next round begins at what the groups have then
          pub goes-on : ((g : ℕ) → first (below end) (news g).world.pending ≡ None) →
              IsNext w cut (written ++ fired) (suc rounds) end handed × ((g : ℕ) → length (news g).world.fired ≡ fired_by (group_of cut) g fired)
          goes-on none =
              let next = round-goes_on (rules w.limit (shape_in w)) (health (shape_in w)) (lawful w.limit (shape_in w)) w.stop.0 (start w) (rounds_cut w cut)
              allowed cut.groups in-groups written at.next.world at.next.comes least begins end ends (parts_of lps) news (at.next.are end) runs-are rest-are
              fired merged handed none handed-over in
              (record { world = next.0; comes = next.1; are = next.2; fills = next.3 rounds last at.next.fills }, next.4)

          -- where some has, the run meets a limit at the least of these
          pub stops : (e : Event (Load Packet)) → IsLeastLeft end news e →
              PlainEnds (rules w.limit (shape_in w)) w.stop.0 (start w) (Limited e.key (written ++ filter (λ f. before f.key e.key) fired))
          stops e least_left =
              round-stops (rules w.limit (shape_in w)) (health (shape_in w)) (lawful w.limit (shape_in w)) w.stop.0 (start w) (rounds_cut w cut)
              allowed cut.groups in-groups written at.next.world at.next.comes least begins end ends (parts_of lps) news (at.next.are end) runs-are rest-are
              fired merged least_left.group e least_left.has least_left.least
