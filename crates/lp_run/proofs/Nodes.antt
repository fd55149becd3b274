-- The nodes of a part, when one of them changes.
use Rattle.std.proofs.Common.{◌≡◌, ◌≢◌, ℕ, ◌<◌, ◌==◌, ◌&&◌, Bool, true, false, length, set, refl, sym, ap, ◌∙◌, inl, inr, Some, nat_lt, cond, ◌⊎◌}
use Rattle.std.proofs.lemmas.Bool.{cases_Bool, ltb-true, eqb-true, eqb-false}
use Rattle.std.proofs.lemmas.List.{length-set, get_or-set_same, get_or-set_other}
use Rattle.std.proofs.lemmas.Option.{slice_get-get_or}
use Rattle.node_step.specs.Node.{PlainNode}
use Rattle.node_step.specs.Part.{PlainPart, has, place_of}
use Rattle.node_rules.specs.Worlds.{node_or}
use Rattle.lp_run.specs.Lp.{StandApart, nodes_of}

-- the nodes of a part are told by where they stand
pub nodes-by : (new part : PlainPart) → new.places ≡ part.places → new.nodes ≡ part.nodes → nodes_of new ≡ nodes_of part
unfolding nodes_of
nodes-by new part places nodes = λ i. nodes_of (record { places = places i; nodes = nodes i; lans = part.lans; limit = part.limit })

-- a part in which the node at a place is another
abbrev pub with_node : PlainPart → ℕ → PlainNode → PlainPart
with_node part place node = record part { nodes = set part.nodes place node }

module _ (part : PlainPart) where
  and-right : (a b : Bool) → (a && b) ≡ true → b ≡ true
  and-right true b h = h
  and-right false b h = absurd (let d : false ≡ true = h in cc)

  pub has-place : (n : ℕ) → has n part ≡ true → place_of n part < length part.nodes
  has-place n h = ltb-true (place_of n part) (length part.nodes) (and-right (nat_lt n (length part.places)) _ h)

  pub has-after : (n place : ℕ) (node : PlainNode) → has n (with_node part place node) ≡ has n part
  has-after n place node = ap (λ (x : ℕ). nat_lt n (length part.places) && nat_lt (place_of n part) x) (length-set part.nodes place node)

  -- the node that has changed
  same_node : (n : ℕ) (node : PlainNode) → has n part ≡ true → nodes_of (with_node part (place_of n part) node) n ≡ node
  unfolding nodes_of
  same_node n node h =
      let low = has-place n h in
      let long : length (set part.nodes (place_of n part) node) ≡ length part.nodes = length-set part.nodes (place_of n part) node in
      rw (has-after n (place_of n part) node, h)
      (ap (node_or n) (slice_get-get_or (set part.nodes (place_of n part) node) (place_of n part) node (rw long low)
      ∙ ap Some (get_or-set_same part.nodes (place_of n part) node node low)))

  other_node : StandApart part → (n m : ℕ) (node : PlainNode) → has m part ≡ true → n ≢ m →
      nodes_of (with_node part (place_of m part) node) n ≡ nodes_of part n
  unfolding nodes_of
  other_node apart n m node here differ = elim (cases_Bool (has n part)) [
    | inl h ↦
        let low = has-place n h in
        let long : length (set part.nodes (place_of m part) node) ≡ length part.nodes = length-set part.nodes (place_of m part) node in
        rw (has-after n (place_of m part) node, h)
        (ap (node_or n) (slice_get-get_or (set part.nodes (place_of m part) node) (place_of n part) node (rw long low)
        ∙ ap Some (get_or-set_other part.nodes (place_of m part) (place_of n part) node node (λ same. differ (apart n m h here same)))
        ∙ sym (slice_get-get_or part.nodes (place_of n part) node low)))
    | inr h ↦ rw (has-after n (place_of m part) node, h) refl
  ]

  -- the nodes by number, where one of them has changed
  pub nodes-after : StandApart part → (m : ℕ) (node : PlainNode) → has m part ≡ true →
      nodes_of (with_node part (place_of m part) node) ≡ (λ n. cond (n == m) node (nodes_of part n))
  nodes-after apart m node here = λ i n. go n (cases_Bool (n == m)) i
    where
      go : (n : ℕ) → ((n == m) ≡ true) ⊎ ((n == m) ≡ false) →
          nodes_of (with_node part (place_of m part) node) n ≡ cond (n == m) node (nodes_of part n)
      go n (inl h) = let same : n ≡ m = eqb-true n m h in rw (h, same) (same_node m node here)
      go n (inr h) = rw h (other_node apart n m node here (eqb-false n m h))
