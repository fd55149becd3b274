-- The walks of no more hops than there are nodes are enough: the least of them begins as the least of all does.
use Rattle.std.proofs.Common.{◌≡◌, ◌≢◌, ℕ, zero, suc, ◌+◌, ◌<◌, ◌≤◌, ◌⊎◌, inl, inr, nat_eq, nat_lt, Bool, true, false, cond, List, [], ◌∷◌, ◌++◌, length, map, filter, get_or, Option, Some, None, refl, sym, ap, subst, ◌∙◌, arith}
use Rattle.std.specs.Prelude.{◌==◌, ◌&&◌, ◌||◌}
use Rattle.std.specs.List.{All, AllByRecursion, Contains, IsDistinct, cons_option, filter_map, flat_map, list_any}
use Rattle.std.proofs.lemmas.Bool.{cases_eq}
use Rattle.std.proofs.lemmas.List.Elements.{All-contains}
use Rattle.std.proofs.lemmas.Map.Steps.{length-le_from_distinct_below}
use Rattle.route_calc.specs.declared.graph.Graph.{Graph}
use Rattle.route_calc.specs.declared.graph.Net.{Net}
use Rattle.route_calc.specs.declared.graph.Member.{Member}
use Rattle.route_calc.specs.declared.graph.Reach.{Reach}
use Rattle.route_calc.specs.declared.graph.Reach.TheVariants.{Here, Unreachable, Via}
use Rattle.route_calc.specs.Walks.{HasItsNodes, Step, IsStep, IsWalk, cost, BeginsWith, IsOn, LeadsTo, IsLeast, IsReach}
use Rattle.route_calc.specs.Least.{PlainNet, plain, nets_of, Hop, hop, hops_over, hops_from, walks, end_of, cost_of, is_on, Lead, lead_of, is_less, lesser, least, least_lead, answer}
use Rattle.route_calc.proofs.HasLaws.{Has, has-from, contains-from, has-map, map-has, has-flat_map, flat_map-has, has-filter, filter-has, has-filter_map, filter_map-has, any-has, has-any}
use Rattle.route_calc.proofs.WalkLaws.{node-of}

-- ---- numbers

number-same : (n m : ℕ) → nat_eq n m ≡ true → n ≡ m
number-same n m h = grind arith

same-number : (n m : ℕ) → n ≡ m → nat_eq n m ≡ true
same-number n m h = grind arith

other-number : (n m : ℕ) → n ≢ m → nat_eq n m ≡ false
other-number n m h = grind arith

-- ---- steps as hops

abbrev hop_of : Step → Hop
hop_of step = record { cost = step.net.cost; from = step.from; to = step.to }

hop-is : (g : Graph) (node : ℕ) (step : Step) → IsStep g node step → Has (hops_from (nets_of g) node) (hop_of step)
hop-is g node step s =
    let net : PlainNet = plain step.net in
    let members : List Member = step.net.members.items in
    has-filter (λ h. h.from.node == node) (flat_map hops_over (nets_of g)) (hop_of step)
    (has-flat_map hops_over (nets_of g) net (hop_of step) (has-map plain g.nets.items step.net (has-from g.nets.items step.net s.net))
    (has-flat_map (λ from. map (hop net from) members) members step.from (hop_of step) (has-from members step.from s.from)
    (has-map (hop net step.from) members step.to (has-from members step.to s.to))))
    (same-number step.from.node node s.begins)

-- a hop is a step
record IsHop (g : Graph) (node : ℕ) (h : Hop) : Type 0 where
  step : Step
  goes : IsStep g node step
  is : hop_of step ≡ h

step-over : (g : Graph) (node : ℕ) (h : Hop) (net : Net) → Has g.nets.items net → (h.from.node == node) ≡ true → Has (hops_over (plain net)) h → IsHop g node h
step-over g node h net there begins over =
    let members : List Member = net.members.items in
    let from = flat_map-has (λ from. map (hop (plain net) from) members) members h over in
    let to = map-has (hop (plain net) from.0) members h from.2 in
    record {
      step = record { net = net; from = from.0; to = to.0 };
      goes = record {
        net = contains-from g.nets.items net there;
        from = contains-from members from.0 from.1;
        to = contains-from members to.0 to.1;
        begins = ap (λ (h : Hop). h.from.node) to.2 ∙ number-same h.from.node node begins;
      };
      is = to.2;
    }

step-of : (g : Graph) (node : ℕ) (h : Hop) → Has (hops_from (nets_of g) node) h → IsHop g node h
step-of g node h there =
    let made = filter-has (λ h. h.from.node == node) (flat_map hops_over (nets_of g)) h there in
    let over = flat_map-has hops_over (nets_of g) h made.0 in
    let net = map-has plain g.nets.items over.0 over.1 in
    step-over g node h net.0 net.1 made.1 (subst (λ p. Has (hops_over p) h) (sym net.2) over.2)

-- ---- walks of steps as walks of hops

abbrev next_walks : List PlainNet → ℕ → Hop → List (List Hop)
next_walks nets most h = map (λ hops. h ∷ hops) (walks nets most h.to.node)

walk-none : (nets : List PlainNet) (most node : ℕ) → Has (walks nets most node) []
unfolding Has walks
walk-none nets zero node = inl refl
walk-none nets (suc most) node = inl refl

walk-more : (nets : List PlainNet) (most node : ℕ) (hops : List Hop) → Has (flat_map (next_walks nets most) (hops_from nets node)) hops → Has (walks nets (suc most) node) hops
unfolding Has walks
walk-more nets most node hops h = inr h

-- a walk of at most so many steps is one of them
complete : (g : Graph) (steps : List Step) (most node to : ℕ) → IsWalk g node steps to → length steps ≤ most → Has (walks (nets_of g) most node) (map hop_of steps)
complete g [] most node to w l = walk-none (nets_of g) most node
complete g (step ∷ steps) zero node to w l = absurd (omega (arith, l))
complete g (step ∷ steps) (suc most) node to w l =
    walk-more (nets_of g) most node (map hop_of (step ∷ steps))
    (has-flat_map (next_walks (nets_of g) most) (hops_from (nets_of g) node) (hop_of step) (map hop_of (step ∷ steps)) (hop-is g node step w.0)
    (has-map (λ hops. hop_of step ∷ hops) (walks (nets_of g) most step.to.node) (map hop_of steps)
    (complete g steps most step.to.node to w.1 (omega (arith, l)))))

-- a walk of hops is one of steps
record IsOfSteps (g : Graph) (node : ℕ) (hops : List Hop) : Type 0 where
  steps : List Step
  walk : IsWalk g node steps (end_of node hops)
  is : map hop_of steps ≡ hops

steps-more : (g : Graph) (node : ℕ) (h : Hop) (hops : List Hop) → IsHop g node h → IsOfSteps g h.to.node hops → IsOfSteps g node (h ∷ hops)
steps-more g node h hops first rest = record {
  steps = first.step ∷ rest.steps;
  walk = (first.goes, subst (λ v. IsWalk g v rest.steps (end_of h.to.node hops)) (sym (ap (λ (h : Hop). h.to.node) first.is)) rest.walk);
  is = ap (λ (x : Hop). x ∷ map hop_of rest.steps) first.is ∙ ap (λ (xs : List Hop). h ∷ xs) rest.is;
}

steps-none : (g : Graph) (node : ℕ) → IsOfSteps g node []
steps-none g node = record { steps = []; walk = refl; is = refl }

sound : (g : Graph) (most node : ℕ) (hops : List Hop) → Has (walks (nets_of g) most node) hops → IsOfSteps g node hops
unfolding Has walks
sound g zero node hops (inl e) = subst (IsOfSteps g node) e (steps-none g node)
sound g zero node hops (inr h) = absurd h
sound g (suc most) node hops (inl e) = subst (IsOfSteps g node) e (steps-none g node)
sound g (suc most) node hops (inr h) =
    let first = flat_map-has (next_walks (nets_of g) most) (hops_from (nets_of g) node) hops h in
    let rest = map-has (λ (hops : List Hop). first.0 ∷ hops) (walks (nets_of g) most first.0.to.node) hops first.2 in
    subst (IsOfSteps g node) rest.2 (steps-more g node first.0 rest.0 (step-of g node first.0 first.1) (sound g most first.0.to.node rest.0 rest.1))

cost-same : (steps : List Step) → cost_of (map hop_of steps) ≡ cost steps
cost-same [] = refl
cost-same (step ∷ steps) = ap (λ n. step.net.cost + n) (cost-same steps)

end-same : (g : Graph) (steps : List Step) (node to : ℕ) → IsWalk g node steps to → end_of node (map hop_of steps) ≡ to
end-same g [] node to w = w
end-same g (step ∷ steps) node to w = end-same g steps step.to.node to w.1

on-true : (net : Net) (node : ℕ) → IsOn node net → is_on (plain net) node ≡ true
on-true net node on = has-any (λ m. m.node == node) net.members.items on.0 (has-from net.members.items on.0 on.1) (same-number on.0.node node on.2)

true-on : (net : Net) (node : ℕ) → is_on (plain net) node ≡ true → IsOn node net
true-on net node h =
    let m = any-has (λ (m : Member). m.node == node) net.members.items h in (m.0, contains-from net.members.items m.0 m.1, number-same m.0.node node m.2)

-- ---- how walks begin

abbrev lead : ℕ → ℕ → ℕ → Lead
lead distance iface neighbour = record { distance = distance; iface = iface; neighbour = neighbour }

begins-lead : (steps : List Step) (i a : ℕ) → BeginsWith i a steps → lead_of (map hop_of steps) ≡ Some (lead (cost steps) i a)
begins-lead [] i a b = absurd b
begins-lead (step ∷ steps) i a b = λ k. Some (lead (cost-same (step ∷ steps) k) (b.0 k) (b.1 k))

same-lead : (a b : Lead) → Some a ≡ Some b → a ≡ b
same-lead a b e = cc

lead-begins : (steps : List Step) (l : Lead) → lead_of (map hop_of steps) ≡ Some l → BeginsWith l.iface l.neighbour steps × (cost steps ≡ l.distance)
lead-begins [] l h = absurd (let e : None ≡ Some l = h in cc)
lead-begins (step ∷ steps) l h =
    let e : lead (cost_of (map hop_of (step ∷ steps))) step.from.iface step.to.addr ≡ l = same-lead (lead (cost_of (map hop_of (step ∷ steps))) step.from.iface step.to.addr) l h in
    ((ap (λ (l : Lead). l.iface) e, ap (λ (l : Lead). l.neighbour) e), sym (cost-same (step ∷ steps)) ∙ ap (λ (l : Lead). l.distance) e)

-- the beginnings of the walks to a network
abbrev leads_to : Graph → ℕ → Net → List Lead
leads_to g node net = filter_map lead_of (filter (λ hops. is_on (plain net) (end_of node hops)) (walks (nets_of g) g.nodes node))

all-leads : (g : Graph) (node : ℕ) (net : Net) (steps : List Step) (i a : ℕ) → LeadsTo g node net steps → length steps ≤ g.nodes → BeginsWith i a steps
    → Has (leads_to g node net) (lead (cost steps) i a)
all-leads g node net steps i a to few b =
    let ends : List Hop → Bool = λ hops. is_on (plain net) (end_of node hops) in
    has-filter_map lead_of (filter ends (walks (nets_of g) g.nodes node)) (map hop_of steps) (lead (cost steps) i a)
    (has-filter ends (walks (nets_of g) g.nodes node) (map hop_of steps) (complete g steps g.nodes node to.0.node to.2 few)
    (on-true net (end_of node (map hop_of steps)) (to.0, to.1, sym (end-same g steps node to.0.node to.2))))
    (begins-lead steps i a b)

-- a walk to the network that begins so
record IsLead (g : Graph) (node : ℕ) (net : Net) (l : Lead) : Type 0 where
  steps : List Step
  to : LeadsTo g node net steps
  begins : BeginsWith l.iface l.neighbour steps
  costs : cost steps ≡ l.distance

only-leads : (g : Graph) (node : ℕ) (net : Net) (l : Lead) → Has (leads_to g node net) l → IsLead g node net l
only-leads g node net l there =
    let ends : List Hop → Bool = λ hops. is_on (plain net) (end_of node hops) in
    let some = filter_map-has lead_of (filter ends (walks (nets_of g) g.nodes node)) l there in
    let walk = filter-has ends (walks (nets_of g) g.nodes node) some.0 some.1 in
    let made = sound g g.nodes node some.0 walk.0 in
    let on = true-on net (end_of node some.0) walk.1 in
    let b = lead-begins made.steps l (ap lead_of made.is ∙ some.2) in
    record {
      steps = made.steps;
      to = (on.0, on.1, subst (IsWalk g node made.steps) (sym on.2) made.walk);
      begins = b.0;
      costs = b.1;
    }

-- ---- the least

record IsNoMore (a b : Lead) : Type 0 where
  distance : a.distance ≤ b.distance
  iface : a.distance ≡ b.distance → a.iface ≤ b.iface
  neighbour : a.distance ≡ b.distance → a.iface ≡ b.iface → a.neighbour ≤ b.neighbour

less : (a b : Lead) (p q r s t : Bool) → nat_lt a.distance b.distance ≡ p → nat_eq a.distance b.distance ≡ q → nat_lt a.iface b.iface ≡ r → nat_eq a.iface b.iface ≡ s
    → nat_lt a.neighbour b.neighbour ≡ t → (u : Bool) → (p || (q && (r || (s && t)))) ≡ u → cond u (IsNoMore a b) (IsNoMore b a)
less a b true q r s t ep eq er es et true h = record { distance = grind arith; iface = λ e. grind arith; neighbour = λ e i. grind arith }
less a b true q r s t ep eq er es et false h = absurd (let e : true ≡ false = h in cc)
less a b false true true s t ep eq er es et true h = record { distance = grind arith; iface = λ e. grind arith; neighbour = λ e i. grind arith }
less a b false true true s t ep eq er es et false h = absurd (let e : true ≡ false = h in cc)
less a b false true false true true ep eq er es et true h = record { distance = grind arith; iface = λ e. grind arith; neighbour = λ e i. grind arith }
less a b false true false true true ep eq er es et false h = absurd (let e : true ≡ false = h in cc)
less a b false true false true false ep eq er es et true h = absurd (let e : false ≡ true = h in cc)
less a b false true false true false ep eq er es et false h = record { distance = grind arith; iface = λ e. grind arith; neighbour = λ e i. grind arith }
less a b false true false false t ep eq er es et true h = absurd (let e : false ≡ true = h in cc)
less a b false true false false t ep eq er es et false h = record { distance = grind arith; iface = λ e. grind arith; neighbour = λ e i. grind arith }
less a b false false r s t ep eq er es et true h = absurd (let e : false ≡ true = h in cc)
less a b false false r s t ep eq er es et false h = record { distance = grind arith; iface = λ e. grind arith; neighbour = λ e i. grind arith }

less-or : (a b : Lead) (u : Bool) → is_less a b ≡ u → cond u (IsNoMore a b) (IsNoMore b a)
less-or a b u h =
    less a b (nat_lt a.distance b.distance) (nat_eq a.distance b.distance) (nat_lt a.iface b.iface) (nat_eq a.iface b.iface) (nat_lt a.neighbour b.neighbour) refl refl refl refl refl u h

no-more-trans : (a b c : Lead) → IsNoMore a b → IsNoMore b c → IsNoMore a c
no-more-trans a b c x y = record {
  distance = omega (arith, x.distance, y.distance);
  iface = λ e. let p : a.distance ≡ b.distance = omega (arith, e, x.distance, y.distance) in omega (arith, x.iface p, y.iface (sym p ∙ e));
  neighbour = λ e i.
      let p : a.distance ≡ b.distance = omega (arith, e, x.distance, y.distance) in
      let q : a.iface ≡ b.iface = omega (arith, i, x.iface p, y.iface (sym p ∙ e)) in
      omega (arith, x.neighbour p q, y.neighbour (sym p ∙ e) (sym q ∙ i));
}

no-more-same : (a b : Lead) → a ≡ b → IsNoMore a b
no-more-same a b e = subst (IsNoMore a) e (record { distance = omega arith; iface = λ e. omega arith; neighbour = λ e i. omega arith })

abbrev choose : Bool → Lead → Lead → Lead
choose u b a = cond u b a

chosen-no-more : (a b : Lead) (u : Bool) → is_less b a ≡ u → IsNoMore (choose u b a) a × IsNoMore (choose u b a) b
chosen-no-more a b true h = (less-or b a true h, no-more-same b b refl)
chosen-no-more a b false h = (no-more-same a a refl, less-or b a false h)

-- the least of some is one of them, and none of them is less
record IsLeastOf (ls : List Lead) (l : Lead) : Type 0 where
  has : Has ls l
  no_more : (x : Lead) → Has ls x → IsNoMore l x

with-lead : (a : Lead) (ls : List Lead) (b : Lead) (u : Bool) → is_less b a ≡ u → IsLeastOf ls b → IsLeastOf (a ∷ ls) (choose u b a)
unfolding Has
with-lead a ls b u h least = record {
  has = here u;
  no_more = λ x there. below x there;
}
  where
    here : (u : Bool) → (a ≡ choose u b a) ⊎ Has ls (choose u b a)
    here true = inr least.has
    here false = inl refl

    below : (x : Lead) → (a ≡ x) ⊎ Has ls x → IsNoMore (choose u b a) x
    below x (inl e) = subst (IsNoMore (choose u b a)) e (chosen-no-more a b u h).0
    below x (inr r) = no-more-trans (choose u b a) b x (chosen-no-more a b u h).1 (least.no_more x r)

one-lead : (a : Lead) → IsLeastOf (a ∷ []) a
unfolding Has
one-lead a = record { has = inl refl; no_more = λ x there. below x there }
  where
    below : (x : Lead) → (a ≡ x) ⊎ ⊥ → IsNoMore a x
    below x (inl e) = no-more-same a x e
    below x (inr h) = absurd h

-- what the least of some is
abbrev IsTheLeast : List Lead → Option Lead → Type 0
IsTheLeast ls None = ls ≡ []
IsTheLeast ls (Some l) = IsLeastOf ls l

least-is : (ls : List Lead) → IsTheLeast ls (least ls)
least-is [] = refl
least-is (a ∷ ls) = go (least ls) (least-is ls)
  where
    go : (o : Option Lead) → IsTheLeast ls o → IsLeastOf (a ∷ ls) (lesser a o)
    go None none = subst (λ (xs : List Lead). IsLeastOf (a ∷ xs) a) (sym none) (one-lead a)
    go (Some b) l = with-lead a ls b (is_less b a) refl l

-- ---- least walks have few steps

abbrev start : Step → ℕ
start step = step.from.node

walk-of : (g : Graph) (steps : List Step) (node to : ℕ) (step : Step) → IsWalk g node steps to → Has steps step → Contains g.nets.items step.net × Contains step.net.members.items step.from
unfolding Has
walk-of g [] node to step w h = absurd h
walk-of g (first ∷ steps) node to step w (inl e) =
    subst (λ (s : Step). Contains g.nets.items s.net × Contains s.net.members.items s.from) e (w.0.net, w.0.from)
walk-of g (first ∷ steps) node to step w (inr h) = walk-of g steps first.to.node to step w.1 h

-- a walk that costs less than each walk from a node never comes to that node
apart : (g : Graph) (steps : List Step) (home node bound : ℕ) (net : Net) (m : Member) → Contains net.members.items m → IsWalk g node steps m.node → cost steps < bound
    → ((others : List Step) → LeadsTo g home net others → bound ≤ cost others) → AllByRecursion (λ n. nat_eq home n ≡ false) (map start steps)
apart g [] home node bound net m c w lt least = tt
apart g (step ∷ steps) home node bound net m c w lt least = (
  other-number home step.from.node
      (λ same. absurd (let dear : bound ≤ cost (step ∷ steps) = least (step ∷ steps) (m, c, subst (λ k. IsWalk g k (step ∷ steps) m.node) (sym (same ∙ w.0.begins)) w) in omega (arith, dear, lt))),
  apart g steps home step.to.node bound net m c w.1 (omega (arith, lt)) least,
)

-- a least walk leaves no node twice
distinct : (g : Graph) (steps : List Step) (node : ℕ) (net : Net) (m : Member) → All (λ n. 1 ≤ n.cost) g.nets.items → Contains net.members.items m → IsWalk g node steps m.node
    → ((others : List Step) → LeadsTo g node net others → cost steps ≤ cost others) → IsDistinct nat_eq (map start steps)
unfolding IsDistinct
distinct g [] node net m some c w least = tt
distinct g (step ∷ steps) node net m some c w least =
    let costs : 1 ≤ step.net.cost = All-contains (λ (n : Net). 1 ≤ n.cost) g.nets.items step.net some w.0.net in (
      apart g steps step.from.node step.to.node (cost (step ∷ steps)) net m c w.1 (omega (arith, costs))
          (λ others leads. least others (subst (λ k. LeadsTo g k net others) w.0.begins leads)),
      distinct g steps step.to.node net m some c w.1
          (λ others leads. let more : cost (step ∷ steps) ≤ cost (step ∷ others) = least (step ∷ others) (leads.0, leads.1, (w.0, leads.2)) in omega (arith, more)),
    )

length-starts : (steps : List Step) → length (map start steps) ≡ length steps
length-starts [] = refl
length-starts (step ∷ steps) = ap suc (length-starts steps)

few-steps : (g : Graph) (steps : List Step) (node : ℕ) (net : Net) → HasItsNodes g → All (λ n. 1 ≤ n.cost) g.nets.items → LeadsTo g node net steps
    → ((others : List Step) → LeadsTo g node net others → cost steps ≤ cost others) → length steps ≤ g.nodes
few-steps g steps node net its some to least =
    subst (λ n. n ≤ g.nodes) (length-starts steps)
    (length-le_from_distinct_below (map start steps) g.nodes (distinct g steps node net to.0 some to.1 to.2 least) below)
  where
    below : (q : ℕ) → list_any (nat_eq q) (map start steps) ≡ true → q < g.nodes
    below q h =
        let found = any-has (nat_eq q) (map start steps) h in
        let step = map-has start steps found.0 found.1 in
        let of = walk-of g steps node to.0.node step.0 to.2 step.1 in
        let inside : step.0.from.node < g.nodes = node-of g step.0.net step.0.from its of.0 of.1 in
        let same : q ≡ found.0 = number-same q found.0 found.2 in
        omega (arith, inside, same, step.2)

-- ---- the answer

when-on : (b : Bool) (o : Option Lead) → b ≡ true → cond b None o ≡ None
when-on b o h = ap (λ b. cond b None o) h

none-anyway : (b : Bool) (o : Option Lead) → o ≡ None → cond b None o ≡ None
none-anyway true o h = refl
none-anyway false o h = h

when-off : (b : Bool) (o : Option Lead) → (b ≡ true → ⊥) → cond b None o ≡ o
when-off true o h = absurd (h refl)
when-off false o h = refl

no-lead : (ls : List Lead) (o : Option Lead) → IsTheLeast ls o → ((l : Lead) → Has ls l → ⊥) → o ≡ None
no-lead ls None is none = refl
no-lead ls (Some l) is none = absurd (none l is.has)

some-lead : (ls : List Lead) (o : Option Lead) (x : Lead) → IsTheLeast ls o → Has ls x → ((l : Lead) → IsLeastOf ls l → l ≡ x) → o ≡ Some x
unfolding Has
some-lead ls None x is there same = absurd (subst (λ (ls : List Lead). Has ls x) is there)
some-lead ls (Some l) x is there same = ap Some (same l is)

same-least : (g : Graph) (node : ℕ) (net : Net) (i a d : ℕ) (l : Lead) → IsLeast g node net i a d → IsLead g node net l → IsNoMore l (lead d i a) → l ≡ lead d i a
same-least g node net i a d l is to no_more =
    let distance : l.distance ≡ d = omega (arith, is.least to.steps to.to, to.costs, no_more.distance) in
    let costs : cost to.steps ≡ d = to.costs ∙ distance in
    let iface : l.iface ≡ i = omega (arith, is.interface to.steps l.iface l.neighbour to.to costs to.begins, no_more.iface distance) in
    let neighbour : l.neighbour ≡ a =
    omega (arith, is.address to.steps l.neighbour to.to costs (subst (λ k. BeginsWith k l.neighbour to.steps) iface to.begins), no_more.neighbour distance iface) in
    λ k. lead (distance k) (iface k) (neighbour k)

is-lead : (g : Graph) (node : ℕ) (net : Net) (i a d : ℕ) → HasItsNodes g → All (λ n. 1 ≤ n.cost) g.nets.items → IsLeast g node net i a d → Has (leads_to g node net) (lead d i a)
is-lead g node net i a d its some is =
    let w = is.walk in
    subst (λ k. Has (leads_to g node net) (lead k i a)) w.3
    (all-leads g node net w.0 i a w.1 (few-steps g w.0 node net its some w.1 (λ others leads. omega (arith, is.least others leads, w.3))) w.2)

-- how a node reaches a network is how the least of these walks begins
pub reach-least : (g : Graph) (node : ℕ) (net : Net) (reach : Reach) → HasItsNodes g → All (λ n. 1 ≤ n.cost) g.nets.items → IsReach g node net reach
    → answer reach ≡ least_lead (nets_of g) g.nodes node (plain net)
reach-least g node net Here its some is = sym (when-on (is_on (plain net) node) (least (leads_to g node net)) (on-true net node (is.here.1 refl)))
reach-least g node net Unreachable its some is =
    sym (none-anyway (is_on (plain net) node) (least (leads_to g node net))
    (no-lead (leads_to g node net) (least (leads_to g node net)) (least-is (leads_to g node net))
    (λ l there. let to = only-leads g node net l there in is.unreachable.1 refl to.steps to.to)))
reach-least g node net (Via i a d) its some is =
    let at = is.via i a d refl in
    sym (when-off (is_on (plain net) node) (least (leads_to g node net)) (λ h. let e : Via i a d ≡ Here = is.here.0 (true-on net node h) in cc)
    ∙ some-lead (leads_to g node net) (least (leads_to g node net)) (lead d i a) (least-is (leads_to g node net)) (is-lead g node net i a d its some at)
    (λ l least. same-least g node net i a d l at (only-leads g node net l least.has) (least.no_more (lead d i a) (is-lead g node net i a d its some at))))
