-- A round in which some group stops: the run has met its limit at the least key of these.
use Rattle.std.proofs.Common.{◌≡◌, ◌≢◌, ℕ, ◌≤◌, ◌⊎◌, ◌↔◌, true, List, [], ◌++◌, filter, map, Option, Some, None, slice_get, slice_index, get_or, refl, sym, ap, ◌∙◌, subst, arith, inl, inr}
use Rattle.std.proofs.lemmas.Bool.{cases_lt}
use Rattle.std.proofs.lemmas.Option.{slice_get-get_or, slice_get_past, slice_get_within}
use Rattle.sim_base.specs.Packet.{Packet}
use Rattle.sim_base.specs.declared.key.Key.{Key}
use Rattle.sim_base.specs.declared.key.NodeId.{NodeId}
use Rattle.sim_base.specs.KeyOrder.{before}
use Rattle.pkt_face.specs.declared.line.Line.{Line as TraceLine}
use Rattle.partition_cut.specs.declared.network.Cut.{Cut}
use Rattle.round_core.specs.Kernel.{IsLeastLeft}
use Rattle.round_core.specs.Lines.{Line, lines_of, numbered}
use Rattle.round_core.specs.Parts.{AreParts, IsIn, PartRuns}
use Rattle.round_core.specs.Rounds.{Limited, PlainEnds, below}
use Rattle.round_core.specs.World.{Event, Firing, first}
use Rattle.round_core.proofs.LineLaws.{in-lines, lines-rise}
use Rattle.round_core.proofs.Members.{first-in, in-all}
use Rattle.node_step.specs.declared.loads.Load.{Load}
use Rattle.node_step.specs.Firing.{Text}
use Rattle.node_rules.specs.Firings.{trace_line}
use Rattle.node_rules.specs.Rules.{rules}
use Rattle.node_rules.specs.Shape.{Shape}
use Rattle.lp_run.specs.declared.stop.LpStop.{LpStop}
use Rattle.lp_run.specs.declared.stop.LpStop.TheVariants.{NoMemory, Limit}
use Rattle.lp_run.specs.Lp.{IsWellIn, PlainLp, own_group, part_of}
use Rattle.sim_world.specs.World.{PlainWorld}
use Rattle.plain_kernel.specs.Run.{shape_in, start}
use Rattle.round_kernel.specs.Cut.{Fits, group_of, rounds_cut}
use Rattle.round_kernel.specs.Groups.{Between, GroupPart, GroupWorld, part_at}
use Rattle.round_kernel.specs.Left.{lines_in}
use Rattle.round_kernel.specs.Stops.{HaveGone, IsLeastStop, gone_lines}
use Rattle.trace_merge.specs.Merge.{AreGroups, LinesRise as TraceRises, place}
use Rattle.round_kernel.specs.Window.{Gone, HasGone}
use Rattle.round_kernel.proofs.LeftLaws.{groups-by}
use Rattle.round_kernel.proofs.RoundLaws.{Became, are-news, each-well, empty_lp, fired, left_of, merged, news, rest-are, stops}
use Rattle.round_kernel.proofs.TraceLines.{in-mapped, merged-below, numbered-keys, trace-rises}

-- what is left of a group that has gone, by why it has stopped
abbrev pub Ends : ℕ → GroupPart → Option LpStop → Type 0
Ends end p None = first (below end) p.world.pending ≡ None
Ends end p (Some NoMemory) = ⊥
Ends end p (Some (Limit key node)) = (e : Event (Load Packet)) × (first (below end) p.world.pending ≡ Some e) × (e.key ≡ key) × (node ≡ key.node)

pub record LeftBy (shape : Shape) (end : ℕ) (old new : PlainLp) (stop : Option LpStop) (p : GroupPart) : Type 0 where
  pub runs : PartRuns (rules old.part.limit shape) (own_group old.part) 0 end (part_of old) p
  pub lines : new.lines ≡ old.lines ++ map trace_line (lines_of p.world.fired)
  pub ends : Ends end p stop

gone-left : (shape : Shape) (end : ℕ) (old new : PlainLp) (stop : Option LpStop) → IsWellIn shape old → stop ≢ Some NoMemory → HasGone end old new stop →
    (p : GroupPart) × LeftBy shape end old new stop p
gone-left shape end old new None well some gone = let run = gone shape well in (run.left, record { runs = run.runs; lines = run.fired.lines; ends = run.none })
gone-left shape end old new (Some NoMemory) well some gone = absurd (some refl)
gone-left shape end old new (Some (Limit key node)) well some gone = let run = gone shape well in
    (run.0, record { runs = run.2; lines = run.6; ends = (run.1, run.3, run.4, run.5) })

module _ (w : PlainWorld) (cut : Cut) (fits : Fits w cut) (lps : List PlainLp) (written : List (Firing Text)) (rounds last : ℕ)
    (at : Between w cut lps written rounds last) (end : ℕ) (ran : List Gone) (gone : HaveGone end lps ran) where
  left-by : (g : ℕ) (lp : PlainLp) → slice_get lps g ≡ Some lp → (later : Gone) × (slice_get ran g ≡ Some later) × (p : GroupPart) × LeftBy (shape_in w) end lp later.0 later.1 p
  left-by g lp is =
      let later = gone.each g lp is in
      let some : later.0.1 ≢ Some NoMemory = λ bad. gone.memory g later.0.0 (later.1 ∙ ap (λ (s : Option LpStop). Some (later.0.0, s)) bad) in
      let p = gone-left (shape_in w) end lp later.0.0 later.0.1 (each-well w cut fits lps written rounds last at g lp is) some later.2 in
      (later.0, later.1, p.0, p.1)

  pub became : (g : ℕ) (lp : PlainLp) → slice_get lps g ≡ Some lp → (left : GroupPart) × Became w cut fits lps written rounds last at end g lp left
  became g lp is = let left = left-by g lp is in (left.2, record { runs = left.3.runs })

  abbrev New : ℕ → GroupPart
  New = news w cut fits lps written rounds last at end became

  -- what is left by its number
  pub record Left (g : ℕ) (now : Gone) (p : GroupPart) : Type 0 where
    pub lines : now.0.lines ≡ map trace_line (lines_of p.world.fired)
    pub ends : Ends end p now.1

  left_at : (g : ℕ) (o : Option PlainLp) (is : slice_get lps g ≡ o) (now : Gone) → slice_get ran g ≡ Some now →
      Left g now (left_of w cut fits lps written rounds last at end became g o is)
  unfolding left_of became left-by
  left_at g None is now there = absurd (
      let low = slice_get_within ran g now there in
      let some = slice_get-get_or lps g empty_lp (let c = gone.count in omega arith) in
      let d : None ≡ Some (get_or lps g empty_lp) = sym is ∙ some in cc)
  left_at g (Some old) is now there =
      let left = left-by g old is in
      let same : left.0 ≡ now = let d : Some left.0 ≡ Some now = sym left.1 ∙ there in cc in
      subst (λ (x : Gone). Left g x left.2) same (record {
        lines = left.3.lines ∙ ap (λ l. l ++ map trace_line (lines_of left.2.world.fired)) (at.lines g old is);
        ends = left.3.ends;
      })

  pub left : (g : ℕ) (now : Gone) → slice_get ran g ≡ Some now → Left g now (New g)
  unfolding news
  left g now there = left_at g (slice_get lps g) refl now there

  past-fired : (g : ℕ) → slice_get ran g ≡ None → New g ≡ part_at None
  past-fired g is =
      let past : cut.groups ≤ g = elim (cases_lt g cut.groups) [
        | inl low ↦ absurd (let some = slice_get-get_or ran g (empty_lp, None) (let c = gone.count in let l = at.count in omega arith) in
            let d : None ≡ Some (get_or ran g (empty_lp, None)) = sym is ∙ some in cc)
        | inr high ↦ high
      ] in
      rest-are w cut fits lps written rounds last at end became g past ∙ ap part_at (slice_get_past lps g (let c = at.count in omega arith))

  -- the lines of each group rise, and no two of all groups stand at one place
  pub lines-apart : (least : Event (Load Packet)) → first (below w.stop.0) at.next.world.pending ≡ Some least →
      (rounds_cut w cut).end_of least.key.time.0 ≡ end → AreGroups (lines_in ran)
  lines-apart least begins ends = groups-by ran
      (λ g now there. subst (λ (l : List (TraceLine Packet)). TraceRises l) (sym (left g now there).lines)
      (trace-rises (lines_of (New g).world.fired) (lines-rise (New g).world.fired (are.1.past g).rising)))
      (λ g h one other x y low one_is other_is i j same. (
      let of_x = from-group g one one_is x i in
      let of_y = from-group h other other_is y j in
      let nodes : x.key.node.0 ≡ y.key.node.0 = place-node x y same in
      let groups = ap (group_of cut) nodes in
      absurd (omega arith)))
    where
      are : (v : GroupWorld) × AreParts (rules w.limit (shape_in w)) (group_of cut) end New v
      are = are-news w cut fits lps written rounds last at end became least begins ends

      place-node : (x y : TraceLine Packet) → place x ≡ place y → x.key.node.0 ≡ y.key.node.0
      place-node x y same = ap (λ (l : List ℕ). slice_index l 1) same

      from-group : (g : ℕ) (now : Gone) → slice_get ran g ≡ Some now → (x : TraceLine Packet) → IsIn x now.0.lines → group_of cut x.key.node.0 ≡ g
      from-group g now there x i =
          let line = in-mapped trace_line (lines_of (New g).world.fired) x (subst (λ (l : List (TraceLine Packet)). IsIn x l) (left g now there).lines i) in
          let f = in-lines line.0 (New g).world.fired line.1 in
          let key_is : line.0.key ≡ f.0.key = in-all (λ (y : Line Text). y.key ≡ f.0.key) (numbered f.0.key 0 f.0.texts) (numbered-keys f.0.key 0 f.0.texts) line.0 f.2 in
          ap (λ (k : Key). group_of cut k.node.0) (ap (λ (y : TraceLine Packet). y.key) line.2 ∙ key_is)
          ∙ in-all (λ (y : Firing Text). group_of cut y.key.node.0 ≡ g) (New g).world.fired (are.1.log_own g) f.0 f.1

  module _ (least : Event (Load Packet)) (begins : first (below w.stop.0) at.next.world.pending ≡ Some least)
      (ends : (rounds_cut w cut).end_of least.key.time.0 ≡ end) (key : Key) (node : NodeId) (stop : IsLeastStop ran key node) where
    abbrev Mine : Left stop.group (stop.lp, Some (Limit key node)) (New stop.group)
    Mine = left stop.group (stop.lp, Some (Limit key node)) stop.stopped

    abbrev e : Event (Load Packet)
    e = Mine.ends.0

    own-event : (h : ℕ) (x : Event (Load Packet)) → first (below end) (New h).world.pending ≡ Some x → group_of cut x.key.node.0 ≡ h
    own-event h x is = in-all (λ (y : Event (Load Packet)). group_of cut y.key.node.0 ≡ h) (New h).world.pending
        ((are-news w cut fits lps written rounds last at end became least begins ends).1.own h) x (first-in (below end) (New h).world.pending x is)

    least-at : (h : ℕ) (o : Option Gone) → slice_get ran h ≡ o → (x : Event (Load Packet)) → first (below end) (New h).world.pending ≡ Some x →
        (x ≡ e) ⊎ (before e.key x.key ≡ true)
    unfolding first
    least-at h None is x there = absurd (let none = past-fired h is in
        let d : None ≡ Some x = sym (ap (λ (p : GroupPart). first (below end) p.world.pending) none) ∙ there in cc)
    least-at h (Some (lp, None)) is x there = absurd (let none = (left h (lp, None) is).ends in
        let d : None ≡ Some x = sym none ∙ there in cc)
    least-at h (Some (lp, Some NoMemory)) is x there = absurd (gone.memory h lp is)
    least-at h (Some (lp, Some (Limit k n))) is x there =
        let mine = (left h (lp, Some (Limit k n)) is).ends in
        let same_x : x ≡ mine.0 = let d : Some x ≡ Some mine.0 = sym there ∙ mine.1 in cc in
        let key_x : x.key ≡ k = ap (λ (y : Event (Load Packet)). y.key) same_x ∙ mine.2 in
        elim (stop.least h lp k n is) [
          | inl same ↦
              let keys : x.key ≡ e.key = key_x ∙ same ∙ sym Mine.ends.2 in
              let groups : h ≡ stop.group = sym (own-event h x there) ∙ ap (λ (q : Key). group_of cut q.node.0) keys ∙ own-event stop.group e Mine.ends.1 in
              inl (let d : Some x ≡ Some e = sym there ∙ ap (λ (k : ℕ). first (below end) (New k).world.pending) groups ∙ Mine.ends.1 in cc)
          | inr low ↦ inr (subst (λ (q : Key). before e.key q ≡ true) (sym key_x) (subst (λ (q : Key). before q k ≡ true) (sym Mine.ends.2) low))
        ]

    least-left : IsLeastLeft end New e
    least-left = record { group = stop.group; has = Mine.ends.1; least = λ h x there. least-at h (slice_get ran h) refl x there }

    pub node-is : node ≡ key.node
    node-is = Mine.ends.3

    abbrev pub Fired : List (Firing Text)
    Fired = fired w cut fits lps written rounds last at end became least begins ends

    -- the plain run ends at this key
    pub limited : PlainEnds (rules w.limit (shape_in w)) w.stop.0 (start w) (Limited key (written ++ filter (λ f. before f.key key) Fired))
    limited = subst (λ (k : Key). PlainEnds (rules w.limit (shape_in w)) w.stop.0 (start w) (Limited k (written ++ filter (λ f. before f.key k) Fired))) Mine.ends.2
        (stops w cut fits lps written rounds last at end became least begins ends e least-left)

    -- and the merged lines below it are those of the firings before it
    pub limit-lines : (lines : List (TraceLine Packet)) → TraceRises lines →
        ((l : TraceLine Packet) → IsIn l lines ↔ (((g : ℕ) × IsIn l (gone_lines (slice_get ran g))) × (before l.key key ≡ true))) →
        lines ≡ map trace_line (lines_of (filter (λ f. before f.key key) Fired))
    limit-lines lines rises members = merged-below New Fired (merged w cut fits lps written rounds last at end became least begins ends) lines rises key (λ l. (
      (λ i. let both = (members l).0 i in ((both.0.0, to-news both.0.0 l (slice_get ran both.0.0) refl both.0.1), both.1)),
      (λ both. (members l).1 ((both.0.0, from-news both.0.0 l (slice_get ran both.0.0) refl both.0.1), both.1)),
    ))
      where
        to-news : (g : ℕ) (l : TraceLine Packet) (o : Option Gone) → slice_get ran g ≡ o → IsIn l (gone_lines o) → IsIn l (map trace_line (lines_of (New g).world.fired))
        to-news g l None is i = absurd i
        to-news g l (Some now) is i = subst (λ (x : List (TraceLine Packet)). IsIn l x) (left g now is).lines i

        from-news : (g : ℕ) (l : TraceLine Packet) (o : Option Gone) → slice_get ran g ≡ o → IsIn l (map trace_line (lines_of (New g).world.fired)) → IsIn l (gone_lines o)
        from-news g l None is i = absurd (
            let none : (New g).world.fired ≡ [] = ap (λ (p : GroupPart). p.world.fired) (past-fired g is) in
            subst (λ (x : List (Firing Text)). IsIn l (map trace_line (lines_of x))) none i)
        from-news g l (Some now) is i = subst (λ (x : List (TraceLine Packet)). IsIn l x) (sym (left g now is).lines) i
