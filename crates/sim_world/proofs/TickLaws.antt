-- The first ticks have keys of their own, counted by their nodes, and are for applications that the nodes have.
use Rattle.std.proofs.Common.{◌≡◌, ◌≢◌, ℕ, zero, suc, ◌+◌, ◌<◌, ◌≤◌, ◌^◌, Bool, true, false, cond, if◌then◌else◌, List, [], ◌∷◌, ◌++◌, length, refl, sym, ap, subst, ◌∙◌, arith}
use Rattle.std.specs.List.{AllByRecursion, range_with_len, flat_map}
use Rattle.std.proofs.lemmas.List.Sums.{sum_by-cons}
use Rattle.sim_base.specs.Packet.{Packet}
use Rattle.round_core.specs.Opening.{HaveOwnKeys}
use Rattle.node_step.specs.declared.loads.Event.{Event}
use Rattle.node_step.specs.declared.loads.Load.TheVariants.{Tick}
use Rattle.sim_world.specs.declared.apps.Installed.{Installed}
use Rattle.sim_world.specs.Ticks.{is_active, tick, ticks_from, ticks_of, tick_count}
use Rattle.sim_world.specs.World.{id}

-- a tick of a node for itself: for one of so many applications, with a number between these, at a time of a run
pub record IsTick (n apps low high : ℕ) (e : Event Packet) : Type 0 where
  pub node : e.key.node.0 ≡ n
  pub by : e.key.by.0 ≡ n
  pub time : e.key.time.0 ≤ 10 ^ 12
  pub low_count : low ≤ e.key.count
  pub high_count : e.key.count < high
  pub app : ℕ
  pub load : e.load ≡ Tick app
  pub there : app < apps

pub all_weaker : {A : Type 0} (P Q : A → Type 0) → ((x : A) → P x → Q x) → (xs : List A) → AllByRecursion P xs → AllByRecursion Q xs
all_weaker P Q f [] h = tt
all_weaker P Q f (x ∷ xs) h = (f x h.0, all_weaker P Q f xs h.1)

pub all_append : {A : Type 0} (P : A → Type 0) (xs ys : List A) → AllByRecursion P xs → AllByRecursion P ys → AllByRecursion P (xs ++ ys)
all_append P [] ys h k = k
all_append P (x ∷ xs) ys h k = (h.0, all_append P xs ys h.1 k)

-- wider bounds
wider : (n a b low low' high high' : ℕ) → a ≤ b → low' ≤ low → high ≤ high' → (e : Event Packet) → IsTick n a low high e → IsTick n b low' high' e
wider n a b low low' high high' apps lows highs e is =
    let l : low ≤ e.key.count = is.low_count in
    let h : e.key.count < high = is.high_count in
    let t : is.app < a = is.there in
    record {
      node = is.node;
      by = is.by;
      time = is.time;
      low_count = omega (arith, l, lows);
      high_count = omega (arith, h, highs);
      app = is.app;
      load = is.load;
      there = omega (arith, t, apps);
    }

-- one application more
one_more : (n place count : ℕ) (i : Installed) (is : List Installed) (b : Bool) → is_active i.kind ≡ b → i.start.0 ≤ 10 ^ 12
    → AllByRecursion (IsTick n (place + 1 + length is) (count + 1) (count + 1 + tick_count is)) (ticks_from (id n) (place + 1) (count + 1) is)
    → AllByRecursion (IsTick n (place + 1 + length is) count (count + tick_count is)) (ticks_from (id n) (place + 1) count is)
    → AllByRecursion (IsTick n (place + length (i ∷ is)) count (count + tick_count (i ∷ is))) (ticks_from (id n) place count (i ∷ is))
one_more n place count i is true on start with_it without =
    let one : tick_count (i ∷ is) ≡ 1 + tick_count is = sum_by-cons (λ (j : Installed). cond (is_active j.kind) 1 0) i is ∙ ap (λ (t : Bool). cond t 1 0 + tick_count is) on in
    let head : IsTick n (place + length (i ∷ is)) count (count + tick_count (i ∷ is)) (tick (id n) place count i.start) = record {
      node = refl;
      by = refl;
      time = start;
      low_count = omega arith;
      high_count = omega (arith, one);
      app = place;
      load = refl;
      there = omega arith;
    } in
    let rest : AllByRecursion (IsTick n (place + length (i ∷ is)) count (count + tick_count (i ∷ is))) (ticks_from (id n) (place + 1) (count + 1) is) =
    all_weaker (IsTick n (place + 1 + length is) (count + 1) (count + 1 + tick_count is)) (IsTick n (place + length (i ∷ is)) count (count + tick_count (i ∷ is)))
    (wider n (place + 1 + length is) (place + length (i ∷ is)) (count + 1) count (count + 1 + tick_count is) (count + tick_count (i ∷ is)) (omega arith) (omega arith) (omega (arith, one)))
    (ticks_from (id n) (place + 1) (count + 1) is) with_it in
    subst (λ t. AllByRecursion (IsTick n (place + length (i ∷ is)) count (count + tick_count (i ∷ is)))
    (if t then tick (id n) place count i.start ∷ ticks_from (id n) (place + 1) (count + 1) is else ticks_from (id n) (place + 1) count is)) (sym on) (head, rest)
one_more n place count i is false off start with_it without =
    let none : tick_count (i ∷ is) ≡ 0 + tick_count is = sum_by-cons (λ (j : Installed). cond (is_active j.kind) 1 0) i is ∙ ap (λ (t : Bool). cond t 1 0 + tick_count is) off in
    let rest : AllByRecursion (IsTick n (place + length (i ∷ is)) count (count + tick_count (i ∷ is))) (ticks_from (id n) (place + 1) count is) =
    all_weaker (IsTick n (place + 1 + length is) count (count + tick_count is)) (IsTick n (place + length (i ∷ is)) count (count + tick_count (i ∷ is)))
    (wider n (place + 1 + length is) (place + length (i ∷ is)) count count (count + tick_count is) (count + tick_count (i ∷ is)) (omega arith) (omega arith) (omega (arith, none)))
    (ticks_from (id n) (place + 1) count is) without in
    subst (λ t. AllByRecursion (IsTick n (place + length (i ∷ is)) count (count + tick_count (i ∷ is)))
    (if t then tick (id n) place count i.start ∷ ticks_from (id n) (place + 1) (count + 1) is else ticks_from (id n) (place + 1) count is)) (sym off) rest

-- the ticks of a list of applications
ticks_are : (n place count : ℕ) (is : List Installed) → AllByRecursion (λ i. i.start.0 ≤ 10 ^ 12) is
    → AllByRecursion (IsTick n (place + length is) count (count + tick_count is)) (ticks_from (id n) place count is)
ticks_are n place count [] starts = tt
ticks_are n place count (i ∷ is) starts =
    one_more n place count i is (is_active i.kind) refl starts.0 (ticks_are n (place + 1) (count + 1) is starts.1) (ticks_are n (place + 1) count is starts.1)

-- ---- keys

-- no two events have the same key
abbrev pub OwnKeys : List (Event Packet) → Type 0
OwnKeys es = HaveOwnKeys (λ e. e.key) es

own_append : (es fs : List (Event Packet)) → OwnKeys es → OwnKeys fs → AllByRecursion (λ e. AllByRecursion (λ f. e.key ≢ f.key) fs) es → OwnKeys (es ++ fs)
own_append [] fs own_es own_fs apart = own_fs
own_append (e ∷ es) fs own_es own_fs apart = (all_append (λ f. e.key ≢ f.key) es fs own_es.0 apart.0, own_append es fs own_es.1 own_fs apart.1)

-- a number that is lower than another's makes another key
lower_count : (n apps low high : ℕ) (e f : Event Packet) → e.key.count < low → IsTick n apps low high f → e.key ≢ f.key
lower_count n apps low high e f lt is same = let l : low ≤ f.key.count = is.low_count in let c : e.key.count ≡ f.key.count = ap (λ k. k.count) same in omega (arith, lt, l, c)

own_more : (n place count : ℕ) (i : Installed) (is : List Installed) (b : Bool) → is_active i.kind ≡ b
    → AllByRecursion (IsTick n (place + 1 + length is) (count + 1) (count + 1 + tick_count is)) (ticks_from (id n) (place + 1) (count + 1) is)
    → OwnKeys (ticks_from (id n) (place + 1) (count + 1) is) → OwnKeys (ticks_from (id n) (place + 1) count is) → OwnKeys (ticks_from (id n) place count (i ∷ is))
own_more n place count i is true on are with_it without =
    let P : Event Packet → Type 0 = IsTick n (place + 1 + length is) (count + 1) (count + 1 + tick_count is) in
    let Q : Event Packet → Type 0 = λ f. (tick (id n) place count i.start).key ≢ f.key in
    subst (λ t. OwnKeys (if t then tick (id n) place count i.start ∷ ticks_from (id n) (place + 1) (count + 1) is else ticks_from (id n) (place + 1) count is)) (sym on) (
      all_weaker P Q (λ f is_tick. lower_count n (place + 1 + length is) (count + 1) (count + 1 + tick_count is) (tick (id n) place count i.start) f (omega arith) is_tick) (ticks_from (id n) (place + 1) (count + 1) is) are,
      with_it,
    )
own_more n place count i is false off are with_it without =
    subst (λ t. OwnKeys (if t then tick (id n) place count i.start ∷ ticks_from (id n) (place + 1) (count + 1) is else ticks_from (id n) (place + 1) count is)) (sym off) without

own_ticks : (n place count : ℕ) (is : List Installed) → AllByRecursion (λ i. i.start.0 ≤ 10 ^ 12) is → OwnKeys (ticks_from (id n) place count is)
own_ticks n place count [] starts = tt
own_ticks n place count (i ∷ is) starts =
    own_more n place count i is (is_active i.kind) refl (ticks_are n (place + 1) (count + 1) is starts.1) (own_ticks n (place + 1) (count + 1) is starts.1) (own_ticks n (place + 1) count is starts.1)

-- ---- the ticks of all nodes

-- ticks of a node from a number on, for one of the applications that it has
pub record IsFirstTick (from nodes : ℕ) (apps ticks : ℕ → ℕ) (e : Event Packet) : Type 0 where
  pub n : ℕ
  pub from_n : from ≤ n
  pub below_n : n < nodes
  pub tick : IsTick n (apps n) 0 (ticks n) e

other_node : (n apps high from nodes : ℕ) (counts ticks : ℕ → ℕ) (e f : Event Packet) → n < from → IsTick n apps 0 high e → IsFirstTick from nodes counts ticks f → e.key ≢ f.key
other_node n apps high from nodes counts ticks e f lt is other same =
    let m : ℕ = other.n in
    let le : from ≤ m = other.from_n in
    let a : e.key.node.0 ≡ n = is.node in
    let b : f.key.node.0 ≡ m = other.tick.node in
    let c : e.key.node.0 ≡ f.key.node.0 = ap (λ k. k.node.0) same in
    omega (arith, lt, le, a, b, c)

later : (from from' nodes : ℕ) (apps ticks : ℕ → ℕ) → from ≤ from' → (e : Event Packet) → IsFirstTick from' nodes apps ticks e → IsFirstTick from nodes apps ticks e
later from from' nodes apps ticks le e is = let f : from' ≤ is.n = is.from_n in record { n = is.n; from_n = omega (arith, f, le); below_n = is.below_n; tick = is.tick }

-- what the nodes from a number on schedule
pub first_ticks_are : (apps_of : ℕ → List Installed) (from count nodes : ℕ) → from + count ≡ nodes → ((n : ℕ) → AllByRecursion (λ i. i.start.0 ≤ 10 ^ 12) (apps_of n))
    → AllByRecursion (IsFirstTick from nodes (λ n. length (apps_of n)) (λ n. tick_count (apps_of n))) (flat_map (λ n. ticks_of (id n) (apps_of n)) (range_with_len from count))
first_ticks_are apps_of from zero nodes is starts = tt
first_ticks_are apps_of from (suc count) nodes is starts =
    let P : Event Packet → Type 0 = IsFirstTick from nodes (λ n. length (apps_of n)) (λ n. tick_count (apps_of n)) in
    all_append P (ticks_of (id from) (apps_of from)) (flat_map (λ n. ticks_of (id n) (apps_of n)) (range_with_len (from + 1) count))
    (all_weaker (IsTick from (0 + length (apps_of from)) 0 (0 + tick_count (apps_of from))) P
    (λ e here. record {
      n = from;
      from_n = omega arith;
      below_n = omega (arith, is);
      tick = wider from (0 + length (apps_of from)) (length (apps_of from)) 0 0 (0 + tick_count (apps_of from)) (tick_count (apps_of from)) (omega arith) (omega arith) (omega arith) e here;
    })
    (ticks_of (id from) (apps_of from)) (ticks_are from 0 0 (apps_of from) (starts from)))
    (all_weaker (IsFirstTick (from + 1) nodes (λ n. length (apps_of n)) (λ n. tick_count (apps_of n))) P (later from (from + 1) nodes (λ n. length (apps_of n)) (λ n. tick_count (apps_of n)) (omega arith)) (flat_map (λ n. ticks_of (id n) (apps_of n)) (range_with_len (from + 1) count))
    (first_ticks_are apps_of (from + 1) count nodes (omega (arith, is)) starts))

pub own_first_ticks : (apps_of : ℕ → List Installed) (from count nodes : ℕ) → from + count ≡ nodes → ((n : ℕ) → AllByRecursion (λ i. i.start.0 ≤ 10 ^ 12) (apps_of n))
    → OwnKeys (flat_map (λ n. ticks_of (id n) (apps_of n)) (range_with_len from count))
own_first_ticks apps_of from zero nodes is starts = tt
own_first_ticks apps_of from (suc count) nodes is starts =
    let rest : List (Event Packet) = flat_map (λ n. ticks_of (id n) (apps_of n)) (range_with_len (from + 1) count) in
    let P : Event Packet → Type 0 = IsTick from (0 + length (apps_of from)) 0 (0 + tick_count (apps_of from)) in
    let Q : Event Packet → Type 0 = IsFirstTick (from + 1) nodes (λ n. length (apps_of n)) (λ n. tick_count (apps_of n)) in
    let R : Event Packet → Type 0 = λ e. AllByRecursion (λ f. e.key ≢ f.key) rest in
    let later_are : AllByRecursion Q rest = first_ticks_are apps_of (from + 1) count nodes (omega (arith, is)) starts in
    own_append (ticks_of (id from) (apps_of from)) rest (own_ticks from 0 0 (apps_of from) (starts from)) (own_first_ticks apps_of (from + 1) count nodes (omega (arith, is)) starts)
    (all_weaker P R
    (λ e here. let S : Event Packet → Type 0 = λ f. e.key ≢ f.key in
    all_weaker Q S (λ f there. other_node from (0 + length (apps_of from)) (0 + tick_count (apps_of from)) (from + 1) nodes (λ n. length (apps_of n)) (λ n. tick_count (apps_of n)) e f (omega arith) here there) rest later_are)
    (ticks_of (id from) (apps_of from)) (ticks_are from 0 0 (apps_of from) (starts from)))
