-- A whole round: the groups between two rounds, then run, then handed over, stand between the next two.
use Rattle.std.proofs.Common.{◌≡◌, ◌≢◌, ℕ, ◌+◌, ◌<◌, ◌≤◌, ◌==◌, ◌↔◌, zero, suc, false, List, [], ◌∷◌, ◌++◌, filter, length, length-append, map, Option, Some, None, slice_get, get_or, refl, sym, ap, ◌∙◌, subst, arith, inl, inr, count_by, Bool, nat_lt, ◌&&◌, slice_index}
use Rattle.std.proofs.lemmas.Bool.{cases_Bool, cases_lt, eq-eqb, eqb-true}
use Rattle.std.proofs.lemmas.List.Elements.{filter-append}
use Rattle.std.proofs.lemmas.List.Sums.{length-filter}
use Rattle.std.proofs.lemmas.Option.{slice_get-get_or, slice_get_past, slice_get_within}
use Rattle.sim_base.specs.Packet.{Packet}
use Rattle.pkt_face.specs.declared.line.Line.{Line as TraceLine}
use Rattle.partition_cut.specs.declared.network.Cut.{Cut}
use Rattle.layer_words.specs.Counting.{count_up}
use Rattle.round_core.specs.Lines.{lines_of}
use Rattle.round_core.specs.Opening.{HaveOwnKeys}
use Rattle.round_core.specs.Order.{insert_each}
use Rattle.round_core.specs.Parts.{IsIn, is_for}
use Rattle.round_core.specs.Rounds.{below, fired_by}
use Rattle.round_core.specs.World.{Event, Firing, first}
use Rattle.round_core.proofs.Members.{in-all, in-filter, in-insert_each_new}
use Rattle.node_step.specs.declared.loads.Load.{Load}
use Rattle.node_step.specs.Firing.{Text}
use Rattle.node_step.specs.Part.{has, place_of}
use Rattle.node_rules.specs.Health.{health}
use Rattle.node_rules.specs.Rules.{rules}
use Rattle.node_rules.specs.Shape.{Shape}
use Rattle.node_rules.specs.Firings.{trace_line}
use Rattle.lp_run.specs.Lp.{HasFired, PlainLp, counted, part_of, unlogged_part}
use Rattle.sim_world.specs.World.{PlainWorld}
use Rattle.plain_kernel.specs.Run.{shape_in}
use Rattle.round_kernel.specs.Cut.{Fits, group_of, rounds_cut}
use Rattle.round_kernel.specs.Rounds.{AreHanded, HaveRun, all_sends, handed_to, lines_at, sends_at}
use Rattle.round_kernel.proofs.Fresh.{sents, sents-own}
use Rattle.round_kernel.specs.Groups.{Between, GroupPart, HasNodes, IsNext, nothing, part_at, parts_of}
use Rattle.round_kernel.proofs.RoundLaws.{Became, each-well, empty_lp, fired, fresh, goes-on, handed, in-groups, left_of, merged, news, rest-are, sent, sent-new}
use Rattle.trace_merge.specs.Merge.{LinesRise as TraceRises}
use Rattle.round_kernel.proofs.TraceLines.{merged-trace}

counted-again : (a b c : ℕ) → counted a (counted b c) ≡ counted (a + b) c
counted-again zero b c = let same : b ≡ 0 + b = omega arith in ap (λ (k : ℕ). counted k c) same
counted-again (suc a) b c = ap (count_up 1) (counted-again a b c) ∙ (let same : suc (a + b) ≡ suc a + b = omega arith in ap (λ (k : ℕ). counted k c) same)

counts-append : {A : Type 0} (test : A → Bool) (xs ys : List A) → count_by test (xs ++ ys) ≡ count_by test xs + count_by test ys
counts-append test xs ys =
    let a = length-filter test (xs ++ ys) in
    let b = length-filter test xs in
    let c = length-filter test ys in
    let d = ap length (filter-append test xs ys) in
    let e = length-append (filter test xs) (filter test ys) in
    omega arith

filter-none : {A : Type 0} (test : A → Bool) (xs : List A) → ((x : A) → IsIn x xs → test x ≡ false) → filter test xs ≡ []
filter-none test [] fails = refl
filter-none test (x ∷ xs) fails = rw (fails x (inl refl)) (filter-none test xs (λ y i. fails y (inr i)))

-- what has become of a group's part
pub record Left (shape : Shape) (limit end g before : ℕ) (group : ℕ → ℕ) (lp : PlainLp) (p : GroupPart) : Type 0 where
  pub has : HasNodes shape limit group g lp
  pub part : part_of lp ≡ unlogged_part p
  pub lines : lp.lines ≡ map trace_line (lines_of p.world.fired)
  pub fired_is : lp.fired ≡ counted (length p.world.fired) before
  pub none : first (below end) p.world.pending ≡ None

module _ (w : PlainWorld) (cut : Cut) (fits : Fits w cut) (lps : List PlainLp) (written : List (Firing Text)) (rounds last : ℕ)
    (at : Between w cut lps written rounds last) (end : ℕ) (ran : List PlainLp) (gone : HaveRun end lps ran) where
  pub became : (g : ℕ) (lp : PlainLp) → slice_get lps g ≡ Some lp → (left : GroupPart) × Became w cut fits lps written rounds last at end g lp left
  became g lp is = let run = (gone.each g lp is).2 (shape_in w) (each-well w cut fits lps written rounds last at g lp is) in (run.left, record { runs = run.runs })

  abbrev New : ℕ → GroupPart
  New = news w cut fits lps written rounds last at end became

  abbrev before : ℕ → ℕ
  before g = counted (fired_by (group_of cut) g written) 0

  has-still : (g : ℕ) (old new : PlainLp) (p : GroupPart) → HasNodes (shape_in w) w.limit (group_of cut) g old → HasFired old new p →
      HasNodes (shape_in w) w.limit (group_of cut) g new
  has-still g old new p nodes h = record {
    limit_is = h.limit ∙ nodes.limit_is;
    places = ap length h.places ∙ nodes.places;
    lans = h.lans ∙ nodes.lans;
    mine = λ n low. back n ∙ nodes.mine n low;
    apart = λ n m a b same. nodes.apart n m (sym (back n) ∙ a) (sym (back m) ∙ b) (sym (place n) ∙ same ∙ place m);
  }
    where
      back : (n : ℕ) → has n new.part ≡ has n old.part
      back n = ap (λ (x : List ℕ). nat_lt n (length x) && nat_lt (slice_index x n) (length new.part.nodes)) h.places
          ∙ ap (λ (x : ℕ). nat_lt n (length old.part.places) && nat_lt (slice_index old.part.places n) x) h.count

      place : (n : ℕ) → place_of n new.part ≡ place_of n old.part
      place n = ap (λ (x : List ℕ). slice_index x n) h.places

  left_at : (g : ℕ) (o : Option PlainLp) (is : slice_get lps g ≡ o) (lp : PlainLp) → slice_get ran g ≡ Some lp →
      Left (shape_in w) w.limit end g (before g) (group_of cut) lp (left_of w cut fits lps written rounds last at end became g o is)
  unfolding left_of became
  left_at g None is lp there = absurd (
      let low = slice_get_within ran g lp there in
      let some = slice_get-get_or lps g empty_lp (let c = gone.count in omega arith) in
      let d : None ≡ Some (get_or lps g empty_lp) = sym is ∙ some in cc)
  left_at g (Some old) is lp there =
      let later = gone.each g old is in
      let same : later.0 ≡ lp = let d : Some later.0 ≡ Some lp = sym later.1 ∙ there in cc in
      let run = later.2 (shape_in w) (each-well w cut fits lps written rounds last at g old is) in
      subst (λ (x : PlainLp). Left (shape_in w) w.limit end g (before g) (group_of cut) x run.left) same (record {
        has = has-still g old later.0 run.left (at.has g old is) run.fired;
        part = run.fired.part;
        lines = run.fired.lines ∙ ap (λ l. l ++ map trace_line (lines_of run.left.world.fired)) (at.lines g old is);
        fired_is = run.fired.fired ∙ ap (counted (length run.left.world.fired)) (at.fired g old is);
        none = run.none;
      })

  pub left : (g : ℕ) (lp : PlainLp) → slice_get ran g ≡ Some lp → Left (shape_in w) w.limit end g (before g) (group_of cut) lp (New g)
  unfolding news
  left g lp there = left_at g (slice_get lps g) refl lp there

  none_at : (g : ℕ) (o : Option PlainLp) (is : slice_get lps g ≡ o) → first (below end) (left_of w cut fits lps written rounds last at end became g o is).world.pending ≡ None
  unfolding left_of became first
  none_at g None is = refl
  none_at g (Some old) is = ((gone.each g old is).2 (shape_in w) (each-well w cut fits lps written rounds last at g old is)).none

  pub none-left : (g : ℕ) → first (below end) (New g).world.pending ≡ None
  unfolding news
  none-left g = none_at g (slice_get lps g) refl

  long : length ran ≡ cut.groups
  long = gone.count ∙ at.count

  there-is : (g : ℕ) → g < cut.groups → (lp : PlainLp) × (slice_get ran g ≡ Some lp)
  there-is g low = (get_or ran g empty_lp, slice_get-get_or ran g empty_lp (let l = long in omega arith))

  module _ (least : Event (Load Packet)) (begins : first (below w.stop.0) at.next.world.pending ≡ Some least)
      (ends : (rounds_cut w cut).end_of least.key.time.0 ≡ end) where
    abbrev Sent : List (Event (Load Packet))
    Sent = sent w cut fits lps written rounds last at end became least begins ends

    -- the firings of the round
    abbrev pub Fired : List (Firing Text)
    Fired = fired w cut fits lps written rounds last at end became least begins ends

    abbrev Handed : ℕ → GroupPart
    Handed = handed w cut fits lps written rounds last at end became least begins ends

    sents-to : ℕ → List (Event (Load Packet))
    sents-to n = sents (rules w.limit (shape_in w)) (group_of cut) end (λ g. (parts_of lps g).world.nodes) (λ g. (parts_of lps g).world.pending) New
        (fresh w cut fits lps written rounds last at end became least begins ends) n

    same-sends : (n : ℕ) → n ≤ cut.groups → all_sends ran n ≡ sents-to n
    unfolding sents-to
    same-sends zero low = refl
    same-sends (suc n) low =
        let lp = there-is n (omega arith) in
        let l = left n lp.0 lp.1 in
        let here : sends_at (slice_get ran n) ≡ (New n).sent = ap sends_at lp.1 ∙ ap (λ (p : GroupPart). p.sent) l.part in
        ap (λ x. x ++ sends_at (slice_get ran n)) (same-sends n (omega arith)) ∙ ap (λ x. sents-to n ++ x) here

    all-sent : all_sends ran (length ran) ≡ Sent
    unfolding sents-to
    all-sent = ap (all_sends ran) long ∙ same-sends cut.groups (omega arith)

    -- the next round finds the run behind these firings
    pub round-next : IsNext w cut (written ++ Fired) (suc rounds) end Handed
    round-next = (goes-on w cut fits lps written rounds last at end became least begins ends none-left).0

    -- what was sent has keys of its own, none of which is pending where it goes to, and is for nodes that there are
    pub sends-own : HaveOwnKeys (λ e. e.key) (all_sends ran (length ran))
    sends-own = subst (HaveOwnKeys (λ (e : Event (Load Packet)). e.key)) (sym all-sent)
        (sents-own (rules w.limit (shape_in w)) (group_of cut) end (λ g. (parts_of lps g).world.nodes) (λ g. (parts_of lps g).world.pending) New
        (fresh w cut fits lps written rounds last at end became least begins ends) cut.groups)

    pub sends-new : (e x : Event (Load Packet)) (lp : PlainLp) → IsIn e (all_sends ran (length ran)) →
        slice_get ran (group_of cut e.key.node.0) ≡ Some lp → IsIn x lp.pending → e.key ≢ x.key
    sends-new e x lp i there j =
        let g : ℕ = group_of cut e.key.node.0 in
        sent-new w cut fits lps written rounds last at end became least begins ends g e x
        (subst (λ (l : List (Event (Load Packet))). IsIn e l) all-sent i) refl
        (subst (λ (p : GroupPart). IsIn x p.world.pending) (left g lp there).part j)

    pub sends-known : (e : Event (Load Packet)) → IsIn e (all_sends ran (length ran)) → e.key.node.0 < length w.nodes
    sends-known e i =
        let on = round-next in
        let g : ℕ = group_of cut e.key.node.0 in
        let got = in-insert_each_new (λ (x : Event (Load Packet)). x.key) e (filter (is_for (group_of cut) g) Sent) (New g).world.pending
        (in-filter (is_for (group_of cut) g) e Sent (subst (λ (l : List (Event (Load Packet))). IsIn e l) all-sent i) (eq-eqb g g refl)) in
        (in-all (health (shape_in w)).event on.world.pending on.comes.sound.health.pending e (((on.are 0).pending e).1 (g, inl got))).known

    module _ (lps3 : List PlainLp) (over : AreHanded cut ran lps3) where
      handed-part : (g : ℕ) (lp : PlainLp) → slice_get ran g ≡ Some lp → part_of (handed_to cut (all_sends ran (length ran)) g lp) ≡ Handed g
      handed-part g lp there i =
          let l = left g lp there in
          record {
            world = record {
              nodes = (l.part i).world.nodes;
              lans = (l.part i).world.lans;
              pending = insert_each (λ e. e.key) (filter (is_for (group_of cut) g) (all-sent i)) (l.part i).world.pending;
              fired = [];
            };
            sent = [];
          }

      none-here : (g : ℕ) → cut.groups ≤ g → filter (is_for (group_of cut) g) Sent ≡ []
      none-here g past = filter-none (is_for (group_of cut) g) Sent (λ e i. elim (cases_Bool (is_for (group_of cut) g e)) [
        | inl mine ↦ absurd (let low = in-groups w cut fits e.key.node.0 in let same = eqb-true (group_of cut e.key.node.0) g mine in omega arith)
        | inr other ↦ other
      ])

      nothing-handed : (g : ℕ) → nothing ≡ New g → [] ≡ filter (is_for (group_of cut) g) Sent → nothing ≡ Handed g
      unfolding insert_each
      nothing-handed g p none i = record {
        world = record {
          nodes = (p i).world.nodes;
          lans = (p i).world.lans;
          pending = insert_each (λ e. e.key) (none i) (p i).world.pending;
          fired = [];
        };
        sent = [];
      }

      at-handed : (g : ℕ) (o : Option PlainLp) → slice_get lps3 g ≡ o → part_at o ≡ Handed g
      at-handed g None is =
          let past : cut.groups ≤ g = elim (cases_lt g cut.groups) [
            | inl low ↦ absurd (
                let some = slice_get-get_or lps3 g empty_lp (let c = over.count in let l = long in omega arith) in
                let d : None ≡ Some (get_or lps3 g empty_lp) = sym is ∙ some in cc)
            | inr high ↦ high
          ] in
          let p : nothing ≡ New g = sym (rest-are w cut fits lps written rounds last at end became g past
          ∙ ap part_at (slice_get_past lps g (let c = at.count in omega arith))) in
          let none : [] ≡ filter (is_for (group_of cut) g) Sent = sym (none-here g past) in
          nothing-handed g p none
      at-handed g (Some lp) is =
          let from = over.each g lp is in
          ap part_of from.2 ∙ handed-part g from.0 from.1

      handed-parts : parts_of lps3 ≡ Handed
      handed-parts i = λ g. at-handed g (slice_get lps3 g) refl i

      pub next-between : Between w cut lps3 (written ++ Fired) (suc rounds) end
      next-between =
          let on = goes-on w cut fits lps written rounds last at end became least begins ends none-left in
          record {
            count = over.count ∙ long;
            has = λ g lp is. let from = over.each g lp is in
                let l = left g from.0 from.1 in
                subst (λ (x : PlainLp). HasNodes (shape_in w) w.limit (group_of cut) g x) (sym from.2)
                (record { limit_is = l.has.limit_is; places = l.has.places; lans = l.has.lans; mine = l.has.mine; apart = l.has.apart });
            sends = λ g lp is. ap (λ (x : PlainLp). x.sends) (over.each g lp is).2;
            lines = λ g lp is. ap (λ (x : PlainLp). x.lines) (over.each g lp is).2;
            fired = λ g lp is. let from = over.each g lp is in
                let l = left g from.0 from.1 in
                ap (λ (x : PlainLp). x.fired) from.2 ∙ l.fired_is ∙ ap (λ (k : ℕ). counted k (before g)) (on.1 g)
                ∙ counted-again (fired_by (group_of cut) g Fired) (fired_by (group_of cut) g written) 0
                ∙ ap (λ (k : ℕ). counted k 0) (let sum = counts-append (λ (f : Firing Text). group_of cut f.key.node.0 == g) written Fired in omega arith);
            next = subst (λ (p : ℕ → GroupPart). IsNext w cut (written ++ Fired) (suc rounds) end p) (sym handed-parts) on.0;
          }

    -- the merged lines of all groups are those of the round's firings
    pub round-lines : (lines : List (TraceLine Packet)) → TraceRises lines →
        ((l : TraceLine Packet) → IsIn l lines ↔ ((g : ℕ) × IsIn l (lines_at (slice_get ran g)))) → lines ≡ map trace_line (lines_of Fired)
    round-lines lines rises members = merged-trace New Fired (merged w cut fits lps written rounds last at end became least begins ends) lines rises (λ l. (
      (λ i. let there = (members l).0 i in (there.0, to-news there.0 l (slice_get ran there.0) refl there.1)),
      (λ there. (members l).1 (there.0, from-news there.0 l (slice_get ran there.0) refl there.1)),
    ))
      where
        to-news : (g : ℕ) (l : TraceLine Packet) (o : Option PlainLp) → slice_get ran g ≡ o → IsIn l (lines_at o) → IsIn l (map trace_line (lines_of (New g).world.fired))
        to-news g l None is i = absurd i
        to-news g l (Some lp) is i = subst (λ (x : List (TraceLine Packet)). IsIn l x) (left g lp is).lines i

        from-news : (g : ℕ) (l : TraceLine Packet) (o : Option PlainLp) → slice_get ran g ≡ o → IsIn l (map trace_line (lines_of (New g).world.fired)) → IsIn l (lines_at o)
        from-news g l None is i = absurd (
            let past : cut.groups ≤ g = elim (cases_lt g cut.groups) [
              | inl low ↦ absurd (let lp = there-is g low in let d : None ≡ Some lp.0 = sym is ∙ lp.1 in cc)
              | inr high ↦ high
            ] in
            let none : (New g).world.fired ≡ [] = ap (λ (p : GroupPart). p.world.fired) (rest-are w cut fits lps written rounds last at end became g past
            ∙ ap part_at (slice_get_past lps g (let c = at.count in omega arith))) in
            subst (λ (x : List (Firing Text)). IsIn l (map trace_line (lines_of x))) none i)
        from-news g l (Some lp) is i = subst (λ (x : List (TraceLine Packet)). IsIn l x) (sym (left g lp is).lines) i
