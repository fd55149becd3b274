-- Groups are made of parts, one after another.
use Rattle.std.proofs.Common.{◌≡◌, ◌<◌, List, [], ◌∷◌, ◌++◌, All, Vec, length, map, reverse, None, append_assoc, sym, ap, ◌∙◌, subst}
use Rattle.std.specs.Global.{Global}
use Rattle.std.specs.List.{AllByRecursion}
use Rattle.std.proofs.lemmas.List.{append-nil, map-append}
use Rattle.std.proofs.lemmas.List.Elements.{All-from_recursion, recursion_from_All}
use Rattle.std.proofs.lemmas.Option.{slice_get-get_or}
use Rattle.sim_base.specs.Packet.{Packet}
use Rattle.partition_cut.specs.declared.network.Cut.{Cut}
use Rattle.round_core.specs.World.{Event}
use Rattle.node_step.specs.declared.loads.Event.{Event as NodeEvent}
use Rattle.node_step.specs.declared.loads.Load.{Load}
use Rattle.node_step.specs.Loads.{plain_event}
use Rattle.node_step.specs.Part.{PlainPart}
use Rattle.node_rules.specs.Health.{health}
use Rattle.node_rules.specs.Worlds.{event_of}
use Rattle.lp_run.specs.Lp.{PlainLp, made}
use Rattle.lp_run.specs.Pending.{AreNew}
use Rattle.sim_world.specs.Opening.{OpensRuns}
use Rattle.sim_world.specs.Shares.{AreSplit, part_seen}
use Rattle.sim_world.specs.World.{PlainWorld}
use Rattle.plain_kernel.specs.Run.{shape_in}
use Rattle.sim_world.proofs.ShareLaws.{turned-back, turned-pop}
use Rattle.plain_kernel.proofs.Starting.{all-new}
use Rattle.round_kernel.specs.Groups.{group_made}
use Rattle.round_kernel.specs.Left.{lps_of}
use Rattle.round_kernel.specs.Window.{Gone}
use Rattle.round_kernel.proofs.Begin.{of-group}
use Rattle.round_kernel.proofs.Fresh.{own-filter}

abbrev IsNewPart : PlainPart × List (NodeEvent Packet) → Type 0
IsNewPart part = AreNew (map event_of part.1) []

module _ {P : Type 0} (plain : P → Packet) where
  abbrev seen : PlainPart × Vec (NodeEvent P) Global → PlainPart × List (NodeEvent Packet)
  seen = part_seen plain

  -- groups were made of some parts, and these are left, the next at the end
  pub record Making (all left : List (PlainPart × Vec (NodeEvent P) Global)) (groups : List Gone) : Type 0 where
    pub new : AllByRecursion IsNewPart (map seen (reverse left))
    pub made_of : lps_of groups ++ map group_made (map seen (reverse left)) ≡ map group_made (map seen all)

  pub making-first : (all turned : List (PlainPart × Vec (NodeEvent P) Global)) → turned ≡ reverse all → All IsNewPart (map seen all) →
      Making all turned []
  making-first all turned is new =
      let same = turned-back seen all turned is in
      record {
        new = subst (AllByRecursion IsNewPart) (sym same) (recursion_from_All IsNewPart (map seen all) new);
        made_of = ap (map group_made) same;
      }

  pub making-begun : (all turned : List (PlainPart × Vec (NodeEvent P) Global)) (groups : List Gone) → turned ≡ reverse all → groups ≡ [] →
      All IsNewPart (map seen all) → Making all turned groups
  making-begun all turned groups is none new = subst (λ (l : List Gone). Making all turned l) (sym none) (making-first all turned is new)

  pub making-new : (all xs ys : List (PlainPart × Vec (NodeEvent P) Global)) (groups : List Gone) (x : PlainPart × Vec (NodeEvent P) Global) →
      Making all xs groups → xs ≡ ys ++ x ∷ [] → AreNew (map event_of (map (plain_event plain) x.1.items)) []
  making-new all xs ys groups x making last = (subst (AllByRecursion IsNewPart) (turned-pop seen xs ys x last) making.new).0

  pub making-more : (all xs ys : List (PlainPart × Vec (NodeEvent P) Global)) (groups : List Gone) (x : PlainPart × Vec (NodeEvent P) Global) (lp : PlainLp) →
      Making all xs groups → xs ≡ ys ++ x ∷ [] → lp ≡ made x.0 (map event_of (map (plain_event plain) x.1.items)) →
      Making all ys (groups ++ (lp, None) ∷ [])
  making-more all xs ys groups x lp making last is =
      let popped = turned-pop seen xs ys x last in
      record {
        new = (subst (AllByRecursion IsNewPart) popped making.new).1;
        made_of =
            ap (λ l. l ++ map group_made (map seen (reverse ys))) (map-append (λ (group : Gone). group.0) groups ((lp, None) ∷ []))
            ∙ append_assoc (lps_of groups) (lp ∷ []) (map group_made (map seen (reverse ys)))
            ∙ ap (λ (l : PlainLp). lps_of groups ++ l ∷ map group_made (map seen (reverse ys))) is
            ∙ ap (λ l. lps_of groups ++ map group_made l) (sym popped) ∙ making.made_of;
      }

  pub making-last : (all left : List (PlainPart × Vec (NodeEvent P) Global)) (groups : List Gone) → Making all left groups → left ≡ [] →
      lps_of groups ≡ map group_made (map seen all)
  making-last all left groups making none =
      sym (append-nil (lps_of groups)) ∙ ap (λ l. lps_of groups ++ map group_made (map seen (reverse l))) (sym none) ∙ making.made_of

-- the first events of each part have keys of their own
pub parts-new : (w : PlainWorld) (cut : Cut) (parts : List (PlainPart × List (NodeEvent Packet))) → OpensRuns w →
    AreSplit w cut.group_of.items cut.groups parts → All IsNewPart parts
parts-new w cut parts opens split k d low =
    let is = split.each k _ (slice_get-get_or parts k d low) in
    subst (λ (l : List (NodeEvent Packet)). AreNew (map event_of l) []) (sym is.first)
    (subst (λ (l : List (Event (Load Packet))). AreNew l []) (sym (of-group cut.group_of.items k w.first))
    (all-new _ (own-filter (λ (e : Event (Load Packet)). e.key) _ (map event_of w.first) opens.own_keys)))

-- and are for nodes that there are
pub first-known : (w : PlainWorld) → OpensRuns w → All (λ e. e.key.node.0 < length w.nodes) w.first
first-known w opens = All-from_recursion (λ (e : NodeEvent Packet). e.key.node.0 < length w.nodes) w.first (known w.first opens.events_ok)
  where
    known : (events : List (NodeEvent Packet)) → AllByRecursion (health (shape_in w)).event (map event_of events) → AllByRecursion (λ e. e.key.node.0 < length w.nodes) events
    known [] ok = tt
    known (e ∷ es) ok = (ok.0.known, known es ok.1)
