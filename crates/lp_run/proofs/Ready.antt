-- The least event of a group that is well can fire, and what it schedules is new.
use Rattle.std.proofs.Common.{◌≡◌, ℕ, ◌<◌, ◌≤◌, ◌^◌, Bool, true, false, List, ◌∷◌, length, map, refl, sym, ap, ◌∙◌, Some, None, slice_get, get_or, subst, cond, nat_lt, ◌&&◌, arith}
use Rattle.std.proofs.lemmas.Bool.{lt-ltb, ltb-true}
use Rattle.std.proofs.lemmas.Option.{slice_get-get_or}
use Rattle.std.specs.List.{AllByRecursion}
use Rattle.sim_base.specs.Packet.{Packet}
use Rattle.round_core.specs.Rounds.{below}
use Rattle.round_core.specs.World.{Event, first, next, without_first}
use Rattle.round_core.proofs.ListLaws.{all-map}
use Rattle.node_step.specs.declared.loads.Event.{Event as NodeEvent}
use Rattle.node_step.specs.declared.loads.Load.{Load}
use Rattle.node_step.specs.Node.{PlainNode}
use Rattle.node_step.specs.Part.{CanFire, Fired, fire, has, place_of}
use Rattle.node_rules.specs.Firings.{FiresSo}
use Rattle.node_rules.specs.Health.{IsWellEvent, IsWellNode}
use Rattle.node_rules.specs.Shape.{Shape, sits_on}
use Rattle.node_rules.specs.Rules.{rules}
use Rattle.node_rules.specs.Worlds.{event_of, no_node, node_or}
use Rattle.node_rules.proofs.FireLaws.{all-pass, can-fire, fire-none, fire-some}
use Rattle.node_rules.proofs.Frames.{AllPass}
use Rattle.lp_run.specs.Lp.{IsStepIn, IsWellIn, PlainLp, nodes_of, own_group, part_of}
use Rattle.lp_run.specs.Pending.{AreNew}
use Rattle.lp_run.proofs.NewLaws.{counted-new}
use Rattle.lp_run.proofs.Nodes.{has-place}
use Rattle.lp_run.proofs.Steps.{lp_after, step-fires, step-next, step-refused}

pub group-has : (here : Bool) → ◌≡◌ {A = ℕ} (cond here 0 1) 0 → here ≡ true
group-has true h = refl
group-has false h = absurd (omega arith)

and-left : (a b : Bool) → (a && b) ≡ true → a ≡ true
and-left true b h = refl
and-left false b h = h

first-of : {Load : Type 0} (end : ℕ) (e : Event Load) (rest : List (Event Load)) → e.key.time.0 < end →
    (first (below end) (e ∷ rest) ≡ Some e) × (without_first (below end) (e ∷ rest) ≡ rest)
unfolding first without_first
first-of end e rest low = let h = lt-ltb e.key.time.0 end low in (rw h refl, rw h refl)

module _ (shape : Shape) (end : ℕ) (lp : PlainLp) (well : IsWellIn shape lp) (e : NodeEvent Packet) (rest : List (Event (Load Packet)))
    (pending_is : lp.pending ≡ event_of e ∷ rest) (low : e.key.time.0 < end) where
  abbrev n : ℕ
  n = e.key.node.0

  abbrev node : PlainNode
  node = get_or lp.part.nodes (place_of n lp.part) (no_node n)

  event_ok : IsWellEvent shape (event_of e)
  event_ok = (subst (AllByRecursion (IsWellEvent shape)) pending_is well.sound.health.pending).0

  pub is_here : has n lp.part ≡ true
  is_here = group-has (has n lp.part) (subst (AllByRecursion (λ (x : Event (Load Packet)). own_group lp.part x.key.node.0 ≡ 0)) pending_is well.sound.own).0

  known : n < length lp.part.places
  known = ltb-true n (length lp.part.places) (and-left (nat_lt n (length lp.part.places)) _ is_here)

  pub at : slice_get lp.part.nodes (place_of n lp.part) ≡ Some node
  at = slice_get-get_or lp.part.nodes (place_of n lp.part) (no_node n) (has-place lp.part n is_here)

  reads : nodes_of lp.part n ≡ node
  unfolding nodes_of
  reads = rw is_here (ap (node_or n) at)

  beside_reads : cond (has n lp.part) (nodes_of lp.part n) (well.others n) ≡ node
  beside_reads = rw is_here reads

  node_ok : IsWellNode shape n node
  node_ok = subst (IsWellNode shape n) beside_reads (well.sound.health.nodes n)

  pass : AllPass (sits_on shape n) node.ifaces
  pass = all-pass shape n node node_ok

  found : first (below end) lp.pending ≡ Some (event_of e)
  found = ap (first (below end)) pending_is ∙ (first-of end (event_of e) rest low).0

  left : without_first (below end) lp.pending ≡ rest
  left = ap (without_first (below end)) pending_is ∙ (first-of end (event_of e) rest low).1

  pub can : end ≤ 10 ^ 12 → CanFire e lp.part
  can early = can-fire shape lp.part e node event_ok node_ok known at (omega arith)

  pub refuses : fire e lp.part ≡ None → (first (below end) lp.pending ≡ Some (event_of e))
      × (next (rules lp.part.limit shape) (below end) (part_of lp).world ≡ None)
  refuses is = (found, step-refused shape end lp e rest node is_here at found left ((fire-none shape lp.part e node well.lans pass at).0 is))

  abbrev Counted : Event (Load Packet) → Type 0
  Counted x = own_group lp.part x.key.by.0 ≡ 0 →
      x.key.count < (cond (has x.key.by.0 lp.part) (nodes_of lp.part x.key.by.0) (well.others x.key.by.0)).scheduled

  module _ (f : Fired) (is : fire e lp.part ≡ Some f) where
    abbrev so : FiresSo shape lp.part e node f
    so = fire-some shape lp.part e node well.lans pass at f is

    pub new : AreNew (map event_of f.sends) rest
    new = subst (λ (l : List (Event (Load Packet))). AreNew l rest) (sym so.sends)
        (counted-new e.key node.scheduled so.effect.sends rest
        (all-map Counted (λ (x : Event (Load Packet)). x.key.by.0 ≡ n → x.key.count < node.scheduled) (λ x counted by. less x counted by) rest
        (subst (AllByRecursion Counted) pending_is well.sound.counted).1))
      where
        less : (x : Event (Load Packet)) → Counted x → x.key.by.0 ≡ n → x.key.count < node.scheduled
        less x counted by =
            let own : own_group lp.part x.key.by.0 ≡ 0 = ap (own_group lp.part) by ∙ rw is_here refl in
            subst (λ (y : PlainNode). x.key.count < y.scheduled) (ap (λ (m : ℕ). cond (has m lp.part) (nodes_of lp.part m) (well.others m)) by ∙ beside_reads) (counted own)

    pub steps : IsStepIn shape end lp (lp_after lp rest f)
    steps = (
      record { event = event_of e; effect = so.effect },
      step-next shape end lp e rest node is_here at found left well.apart f so,
      step-fires shape end lp e rest node is_here at found left well.apart f so,
    )
