-- The shares of a world, while nodes and events go to their groups.
use Rattle.std.proofs.Common.{◌≡◌, ◌≢◌, ℕ, zero, suc, ◌+◌, ◌<◌, ◌≤◌, ◌^◌, ◌⊎◌, true, false, List, [], ◌∷◌, ◌++◌, All, Option, Some, None, slice_get, slice_index, get_or, set, filter, length, length-set, length-append, map, replicate, reverse, refl, sym, ap, ◌∙◌, subst, inl, inr, arith, append_assoc}
use Rattle.std.proofs.lemmas.Bool.{cases_eq, eq-eqb}
use Rattle.std.proofs.lemmas.Bool.Decides.{eqb_tells}
use Rattle.std.proofs.lemmas.List.{append-nil, get_or-replicate, get_or-set_other, get_or-set_same, length-map, length-replicate, map-append, reverse-append, reverse-reverse}
use Rattle.std.proofs.lemmas.Option.{get_or_from_slice_get, slice_get-get_or, slice_get-map, slice_get_within}
use Rattle.std.specs.Option.{option_map}
use Rattle.sim_base.specs.Packet.{Packet}
use Rattle.node_step.specs.declared.loads.Event.{Event}
use Rattle.node_step.specs.Firing.{free}
use Rattle.node_step.specs.Node.{PlainNode}
use Rattle.node_step.specs.Part.{PlainPart}
use Rattle.sim_world.specs.Shares.{AreSplit, HaveNodes, IsPartOf, IsPlaced, KeepNodes, PlainShare, as_part, changed, empty_share, is_of, with_event, with_node}
use Rattle.sim_world.specs.World.{PlainWorld}

-- what an option maps to comes from what it holds
some-mapped : {A B : Type 0} (f : A → B) (o : Option A) (y : B) → option_map f o ≡ Some y → (x : A) × (o ≡ Some x) × (y ≡ f x)
some-mapped f None y is = absurd (let d : None ≡ Some y = is in cc)
some-mapped f (Some x) y is = (x, refl, let d : Some (f x) ≡ Some y = is in cc)

all-at : {A : Type 0} (P : A → Type 0) (xs : List A) (n : ℕ) (x : A) → All P xs → slice_get xs n ≡ Some x → P x
all-at P xs n x all is = subst P (get_or_from_slice_get xs n x x is) (all n x (slice_get_within xs n x is))

-- what stands in a list after one item has changed
changed-at : {A : Type 0} (xs : List A) (i : ℕ) (y : A) → i < length xs → (g : ℕ) (s : A) → slice_get (set xs i y) g ≡ Some s →
    ((g ≡ i) × (s ≡ y)) ⊎ ((g ≢ i) × (slice_get xs g ≡ Some s))
changed-at xs i y low g s is = elim (cases_eq g i) [
  | inl same ↦ inl (same, sym (get_or_from_slice_get (set xs i y) g s s is) ∙ ap (λ n. get_or (set xs i y) n s) same ∙ get_or-set_same xs i y s low)
  | inr other ↦
      let within = slice_get_within (set xs i y) g s is in
      let there : g < length xs = let l = length-set xs i y in omega arith in
      inr (
        other,
        slice_get-get_or xs g s there
            ∙ ap Some (sym (get_or-set_other xs i g y s other) ∙ get_or_from_slice_get (set xs i y) g s s is),
      )
]

get-left : {A : Type 0} (xs ys : List A) (n : ℕ) → n < length xs → slice_get (xs ++ ys) n ≡ slice_get xs n
get-left [] ys n low = absurd (omega arith)
get-left (x ∷ xs) ys zero low = refl
get-left (x ∷ xs) ys (suc n) low = get-left xs ys n (omega arith)

get-last : {A : Type 0} (xs : List A) (x : A) → slice_get (xs ++ x ∷ []) (length xs) ≡ Some x
get-last [] x = refl
get-last (y ∷ xs) x = get-last xs x

module _ (group_of : List ℕ) (nodes : List PlainNode) where
  -- what the loop over the nodes keeps: those that are left stand before the others, which have gone to their groups
  pub record Sharing (old : List PlainShare) (left : List PlainNode) (now : List PlainShare) : Type 0 where
    pub have : HaveNodes group_of nodes (length left) old now
    pub same : (n : ℕ) → n < length left → slice_get left n ≡ slice_get nodes n
    pub low : length left ≤ length nodes

  empty-placed : (g : ℕ) → IsPlaced group_of nodes (length nodes) g (replicate (length nodes) (length nodes)) []
  empty-placed g = record {
    count = length-replicate (length nodes) (length nodes);
    few = omega arith;
    known = λ n from lt is. absurd (omega arith);
    elsewhere = λ n lt why. get_or-replicate (length nodes) n (length nodes) 0 lt;
    apart = λ n m from lt from' lt' is is' same. absurd (omega arith);
  }

  pub sharing-first : (old : List PlainShare) → All (λ share. share ≡ empty_share (length nodes)) old → Sharing old nodes old
  sharing-first old empty = record {
    have = record {
      count = refl;
      each = λ g s is. let e = all-at (λ share. share ≡ empty_share (length nodes)) old g s empty is in
          subst (λ (x : PlainShare). IsPlaced group_of nodes (length nodes) g x.places x.nodes × (x.first ≡ [])) (sym e) (empty-placed g, refl);
    };
    same = λ n low. refl;
    low = omega arith;
  }

  module _ (number : ℕ) (node : PlainNode) (lt : number < length nodes) (is : slice_get nodes number ≡ Some node) where
    -- the node stands in its group
    placed-here : (s : PlainShare) → IsPlaced group_of nodes (number + 1) (slice_index group_of number) s.places s.nodes →
        IsPlaced group_of nodes number (slice_index group_of number) (set s.places number (length s.nodes)) (s.nodes ++ node ∷ [])
    placed-here s placed = record { count = length-set s.places number (length s.nodes) ∙ placed.count; few = few; known = known; elsewhere = elsewhere; apart = apart }
      where
        g : ℕ
        g = slice_index group_of number

        places : List ℕ
        places = set s.places number (length s.nodes)

        own : List PlainNode
        own = s.nodes ++ node ∷ []

        long : length own ≡ length s.nodes + 1
        long = length-append s.nodes (node ∷ [])

        few : length own + number ≤ length nodes
        few = let f = placed.few in let l = long in omega arith

        at : slice_index places number ≡ length s.nodes
        at = get_or-set_same s.places number (length s.nodes) 0 (let c = placed.count in omega arith)

        away : (n : ℕ) → n ≢ number → slice_index places n ≡ slice_index s.places n
        away n other = get_or-set_other s.places number n (length s.nodes) 0 other

        known : (n : ℕ) → number ≤ n → n < length nodes → slice_index group_of n ≡ g →
            (slice_index places n < length own) × (slice_get own (slice_index places n) ≡ slice_get nodes n)
        known n from low group = elim (cases_eq n number) [
          | inl same ↦
              let here : slice_index places n ≡ length s.nodes = ap (slice_index places) same ∙ at in
              ((let l = long in omega arith), ap (slice_get own) here ∙ get-last s.nodes node ∙ sym is ∙ ap (slice_get nodes) (sym same))
          | inr other ↦
              let there = placed.known n (omega arith) low group in
              let same = away n other in
              ((let l = long in let t = there.0 in omega arith), ap (slice_get own) same ∙ get-left s.nodes (node ∷ []) (slice_index s.places n) there.0 ∙ there.1)
        ]

        elsewhere : (n : ℕ) → n < length nodes → ((n < number) ⊎ (slice_index group_of n ≢ g)) → slice_index places n ≡ length nodes
        elsewhere n low (inl before) = away n (λ same. omega arith) ∙ placed.elsewhere n low (inl (omega arith))
        elsewhere n low (inr other) = away n (λ same. other (ap (slice_index group_of) same)) ∙ placed.elsewhere n low (inr other)

        apart : (n m : ℕ) → number ≤ n → n < length nodes → number ≤ m → m < length nodes → slice_index group_of n ≡ g →
            slice_index group_of m ≡ g → slice_index places n ≡ slice_index places m → n ≡ m
        apart n m from low from' low' group group' same = elim (cases_eq n number) [
          | inl first ↦ elim (cases_eq m number) [
            | inl second ↦ first ∙ sym second
            | inr other ↦ absurd (let t = (placed.known m (omega arith) low' group').0 in let a = away m other in
                let b : slice_index places n ≡ length s.nodes = ap (slice_index places) first ∙ at in omega arith)
          ]
          | inr other ↦ elim (cases_eq m number) [
            | inl second ↦ absurd (let t = (placed.known n (omega arith) low group).0 in let a = away n other in
                let b : slice_index places m ≡ length s.nodes = ap (slice_index places) second ∙ at in omega arith)
            | inr other' ↦ placed.apart n m (omega arith) low (omega arith) low' group group' (sym (away n other) ∙ same ∙ away m other')
          ]
        ]

    -- and in no other
    placed-away : (g : ℕ) (s : PlainShare) → g ≢ slice_index group_of number → IsPlaced group_of nodes (number + 1) g s.places s.nodes →
        IsPlaced group_of nodes number g s.places s.nodes
    placed-away g s other placed = record {
      count = placed.count;
      few = let f = placed.few in omega arith;
      known = λ n from low group. placed.known n (above n from group) low group;
      elsewhere = λ n low why. placed.elsewhere n low (wider n why);
      apart = λ n m from low from' low' group group' same. placed.apart n m (above n from group) low (above m from' group') low' group group' same;
    }
      where
        above : (n : ℕ) → number ≤ n → slice_index group_of n ≡ g → number + 1 ≤ n
        above n from group = elim (cases_eq n number) [
          | inl same ↦ absurd (other (sym group ∙ ap (slice_index group_of) same))
          | inr apart ↦ (let a : n ≢ number = apart in omega arith)
        ]

        wider : (n : ℕ) → ((n < number) ⊎ (slice_index group_of n ≢ g)) → ((n < number + 1) ⊎ (slice_index group_of n ≢ g))
        wider n (inl low) = inl (omega arith)
        wider n (inr apart) = inr apart

  -- one more node has gone to its group
  pub sharing-more : (old : List PlainShare) (left rest : List PlainNode) (node : PlainNode) (now new : List PlainShare) → Sharing old left now →
      left ≡ rest ++ node ∷ [] → slice_index group_of (length rest) < length now →
      new ≡ changed (with_node (length rest) node) (slice_index group_of (length rest)) now → Sharing old rest new
  sharing-more old left rest node now new h last low after = record { have = record { count = count; each = each }; same = same; low = (let l = long in let w = h.low in omega arith) }
    where
      number : ℕ
      number = length rest

      long : length left ≡ number + 1
      long = ap length last ∙ length-append rest (node ∷ [])

      lt : number < length nodes
      lt = let l = long in let w = h.low in omega arith

      is : slice_get nodes number ≡ Some node
      is = sym (h.same number (let l = long in omega arith)) ∙ ap (λ l. slice_get l number) last ∙ get-last rest node

      g' : ℕ
      g' = slice_index group_of number

      was : PlainShare
      was = get_or now g' (empty_share 0)

      count : length new ≡ length old
      count = ap length after ∙ length-set now g' (with_node number node was) ∙ h.have.count

      before : (g : ℕ) (s : PlainShare) → slice_get now g ≡ Some s → IsPlaced group_of nodes (number + 1) g s.places s.nodes × (s.first ≡ [])
      before g s there = subst (λ (n : ℕ). IsPlaced group_of nodes n g s.places s.nodes × (s.first ≡ [])) long (h.have.each g s there)

      each : (g : ℕ) (s : PlainShare) → slice_get new g ≡ Some s → IsPlaced group_of nodes number g s.places s.nodes × (s.first ≡ [])
      each g s there = elim (changed-at now g' (with_node number node was) low g s (ap (λ l. slice_get l g) (sym after) ∙ there)) [
        | inl here ↦
            let placed = before g' was (slice_get-get_or now g' (empty_share 0) low) in
            let Q : ℕ → PlainShare → Type 0 = λ n x. IsPlaced group_of nodes number n x.places x.nodes × (x.first ≡ []) in
            let made : Q g' (with_node number node was) = (placed-here number node lt is was placed.0, placed.1) in
            subst (λ (x : PlainShare). Q g x) (sym here.1) (subst (λ (n : ℕ). Q n (with_node number node was)) (sym here.0) made)
        | inr other ↦
            let placed = before g s other.1 in
            (placed-away number node lt is g s other.0 placed.0, placed.1)
      ]

      same : (n : ℕ) → n < length rest → slice_get rest n ≡ slice_get nodes n
      same n less = sym (get-left rest (node ∷ []) n less) ∙ ap (λ l. slice_get l n) (sym last) ∙ h.same n (let l = long in omega arith)

  -- what the next node asks
  pub places-know : (old : List PlainShare) (left : List PlainNode) (now : List PlainShare) (n : ℕ) → Sharing old left now → n < length nodes →
      All (λ share. n < length share.places) now
  places-know old left now n h lt k d low =
      let c = (h.have.each k (get_or now k d) (slice_get-get_or now k d low)).0.count in omega arith

  pub nodes-few : (old : List PlainShare) (left : List PlainNode) (now : List PlainShare) → Sharing old left now → length nodes < 2 ^ 32 →
      All (λ share. length share.nodes < 2 ^ 32) now
  nodes-few old left now h few k d low =
      let c = (h.have.each k (get_or now k d) (slice_get-get_or now k d low)).0.few in omega arith

  -- no event has gone to a group yet
  pub firsts-empty : (old now : List PlainShare) → HaveNodes group_of nodes 0 old now → All (λ share. share.first ≡ []) now
  firsts-empty old now h k d low = (h.each k (get_or now k d) (slice_get-get_or now k d low)).1

  pub sharing-last : (old : List PlainShare) (left : List PlainNode) (now : List PlainShare) → left ≡ [] → Sharing old left now →
      HaveNodes group_of nodes 0 old now
  sharing-last old left now none h = subst (λ (n : ℕ). HaveNodes group_of nodes n old now) (ap length none) h.have

module _ (group_of : List ℕ) (events : List (Event Packet)) where
  pub keeping-first : (old : List PlainShare) → All (λ share. share.first ≡ []) old → KeepNodes group_of events events old old
  keeping-first old empty = record {
    count = refl;
    each = λ g s is. (s, is, refl, refl, ap (λ l. l ++ filter (is_of group_of g) events) (all-at (λ share. share.first ≡ []) old g s empty is));
  }

  -- one more event has gone to its group
  pub keeping-more : (old : List PlainShare) (e : Event Packet) (left : List (Event Packet)) (now new : List PlainShare) →
      KeepNodes group_of events (e ∷ left) old now → slice_index group_of e.key.node.0 < length now →
      new ≡ changed (with_event e) (slice_index group_of e.key.node.0) now → KeepNodes group_of events left old new
  keeping-more old e left now new h low after = record { count = count; each = each }
    where
      g' : ℕ
      g' = slice_index group_of e.key.node.0

      was : PlainShare
      was = get_or now g' (empty_share 0)

      count : length new ≡ length old
      count = ap length after ∙ length-set now g' (with_event e was) ∙ h.count

      Kept : ℕ → PlainShare → Type 0
      Kept g s = (from : PlainShare) × (slice_get old g ≡ Some from) × (s.places ≡ from.places) × (s.nodes ≡ from.nodes)
          × (s.first ++ filter (is_of group_of g) left ≡ filter (is_of group_of g) events)

      its-own : is_of group_of g' e ≡ true
      its-own = eq-eqb g' g' refl

      here : Kept g' (with_event e was)
      here = let k = h.each g' was (slice_get-get_or now g' (empty_share 0) low) in
          let split : filter (is_of group_of g') (e ∷ left) ≡ e ∷ filter (is_of group_of g') left = rw its-own refl in
          (k.0, k.1, k.2, k.3, append_assoc was.first (e ∷ []) (filter (is_of group_of g') left) ∙ ap (λ l. was.first ++ l) (sym split) ∙ k.4)

      away : (g : ℕ) (s : PlainShare) → g ≢ g' → slice_get now g ≡ Some s → Kept g s
      away g s other is = let k = h.each g s is in
          let not_own : is_of group_of g e ≡ false = elim (eqb_tells g' g) [
            | inl t ↦ absurd (other (sym t.1))
            | inr f ↦ f.0
          ] in
          let split : filter (is_of group_of g) (e ∷ left) ≡ filter (is_of group_of g) left = rw not_own refl in
          (k.0, k.1, k.2, k.3, ap (λ l. s.first ++ l) (sym split) ∙ k.4)

      each : (g : ℕ) (s : PlainShare) → slice_get new g ≡ Some s → Kept g s
      each g s there = elim (changed-at now g' (with_event e was) low g s (ap (λ l. slice_get l g) (sym after) ∙ there)) [
        | inl is ↦ subst (λ (x : PlainShare). Kept g x) (sym is.1) (subst (λ (n : ℕ). Kept n (with_event e was)) (sym is.0) here)
        | inr other ↦ away g s other.0 other.1
      ]

-- events that stand in a list, the last of which is taken first
pub turned-back : {A B : Type 0} (f : A → B) (all turned : List A) → turned ≡ reverse all → map f (reverse turned) ≡ map f all
turned-back f all turned is = ap (map f) (ap reverse is ∙ reverse-reverse all)

pub turned-pop : {A B : Type 0} (f : A → B) (xs ys : List A) (x : A) → xs ≡ ys ++ x ∷ [] → map f (reverse xs) ≡ f x ∷ map f (reverse ys)
turned-pop f xs ys x last = ap (λ l. map f (reverse l)) last ∙ ap (map f) (reverse-append ys (x ∷ []))

-- one more is made of the last of a list: what is made, and what is left, are those of the whole list still
pub made-more : {A B C : Type 0} (seen : B → C) (f : A → C) (made : List B) (one : B) (xs ys : List A) (x : A) (all : List C) →
    map seen made ++ map f (reverse xs) ≡ all → xs ≡ ys ++ x ∷ [] → seen one ≡ f x →
    map seen (made ++ one ∷ []) ++ map f (reverse ys) ≡ all
made-more seen f made one xs ys x all before last same =
    ap (λ l. l ++ map f (reverse ys)) (map-append seen made (one ∷ []))
    ∙ append_assoc (map seen made) (seen one ∷ []) (map f (reverse ys))
    ∙ ap (λ c. map seen made ++ c ∷ map f (reverse ys)) same
    ∙ ap (λ l. map seen made ++ l) (sym (turned-pop f xs ys x last))
    ∙ before

pub none-left : {A : Type 0} (xs : List A) → (0 < length xs → false ≡ true) → xs ≡ []
none-left [] h = refl
none-left (x ∷ xs) h = absurd (let d : false ≡ true = h (omega arith) in cc)

-- the shares that have all nodes and events, as parts
pub are-split : (w : PlainWorld) (group_of : List ℕ) (groups : ℕ) (first second third : List PlainShare)
    (parts : List (PlainPart × List (Event Packet))) → length first ≡ groups → HaveNodes group_of w.nodes 0 first second →
    KeepNodes group_of w.first [] second third → parts ≡ map (as_part (replicate w.lans free) w.limit) third → AreSplit w group_of groups parts
are-split w group_of groups first second third parts many have keep are = record {
  count = ap length are ∙ length-map third (as_part (replicate w.lans free) w.limit) ∙ keep.count ∙ have.count ∙ many;
  each = each;
}
  where
    each : (g : ℕ) (made : PlainPart × List (Event Packet)) → slice_get parts g ≡ Some made → IsPartOf w group_of g made
    each g made is =
        let found = some-mapped (as_part (replicate w.lans free) w.limit) (slice_get third g) made (sym (slice_get-map (as_part (replicate w.lans free) w.limit) third g) ∙ ap (λ l. slice_get l g) (sym are) ∙ is) in
        let s : PlainShare = found.0 in
        let k = keep.each g s found.1 in
        let placed = (have.each g k.0 k.1).0 in
        let P : List ℕ → Type 0 = λ x. IsPlaced group_of w.nodes 0 g x k.0.nodes in
        let Q : List PlainNode → Type 0 = λ x. IsPlaced group_of w.nodes 0 g s.places x in
        let mine : IsPlaced group_of w.nodes 0 g s.places s.nodes = subst Q (sym k.3) (subst P (sym k.2) placed) in
        subst (λ (x : PlainPart × List (Event Packet)). IsPartOf w group_of g x) (sym found.2) (record {
          placed = mine;
          lans = refl;
          limit = refl;
          first = sym (append-nil s.first) ∙ k.4;
        })
