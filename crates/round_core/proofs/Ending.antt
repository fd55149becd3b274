-- A plain run ends within a stated number of firings.
use Rattle.std.proofs.Common.{◌≡◌, ℕ, ◌<◌, ◌≤◌, ◌+◌, zero, suc, length, Bool, true, false, List, [], ◌∷◌, ◌==◌, if◌then◌else◌, refl, ap, ◌∙◌, arith, inl, inr, Option, Some, None, eq-eqb, ◌↔◌}
use Rattle.std.proofs.lemmas.Bool.{cases_Bool, cases_eq, ne_eqb}
use Rattle.std.proofs.lemmas.Bool.Decides.{nat_tests}
use Rattle.sim_base.specs.declared.key.Key.{Key}
use Rattle.round_core.specs.Order.{insert_each}
use Rattle.sim_base.specs.KeyOrder.{insert_by}
use Rattle.round_core.specs.World.{Event, Send, Rules, World, Ready, first, without_first, scheduled, next, after, fire, Rests}
use Rattle.round_core.specs.Rounds.{Ending, PlainEnds, below, plain_firings, IsPlainRun}
use Rattle.round_core.specs.Laws.{Health, IsHealthy, IsSound, IsLawful}
use Rattle.round_core.specs.Bound.{IsBounded, room_of, most_firings, plain_run, plain_ending}
use Rattle.round_core.proofs.ListLaws.{length-insert, first-holds}
use Rattle.round_core.proofs.Settling.{next-found}
use Rattle.round_core.proofs.Plain.{fire-moves, plain-idle}
use Rattle.round_core.proofs.Counts.{plain-unique}
use Rattle.round_core.proofs.Window.{fire-sound}

pub length-insert_each : {A : Type 0} (key_of : A → Key) (xs l : List A) → length (insert_each key_of xs l) ≡ length xs + length l
unfolding insert_each
length-insert_each key_of [] l = omega arith
length-insert_each key_of (x ∷ xs) l = let a = length-insert_each key_of xs (insert_by key_of x l) in let b = length-insert key_of x l in omega arith

pub length-scheduled : {Load : Type 0} (key : Key) (count : ℕ) (sends : List (Send Load)) → length (scheduled key count sends) ≡ length sends
unfolding scheduled
length-scheduled key count [] = refl
length-scheduled key count (s ∷ sends) = ap suc (length-scheduled key (suc count) sends)

pub length-without : {Load : Type 0} (test : Key → Bool) (l : List (Event Load)) (e : Event Load) → first test l ≡ Some e →
    suc (length (without_first test l)) ≡ length l
unfolding first without_first
length-without test [] e is = absurd (let d : None ≡ Some e = is in cc)
length-without test (y ∷ ys) e is = elim (cases_Bool (test y.key)) [
  | inl t ↦ rw t refl
  | inr f ↦ rw f (ap suc (length-without test ys e (rw f at is)))
]

-- a change of one node's state changes what all may schedule by what that one may
room-other : {Node : Type 0} (room : Node → ℕ) (nodes : ℕ → Node) (t : ℕ) (x : Node) (count : ℕ) → count ≤ t →
    room_of room (λ n. if n == t then x else nodes n) count ≡ room_of room nodes count
room-other room nodes t x zero le = refl
room-other room nodes t x (suc n) le =
    let rest = room-other room nodes t x n (omega arith) in
    let ne : (n == t) ≡ false = grind (arith, nat_tests) in rw ne (ap (λ a. a + room (nodes n)) rest)

pub room-spent : {Node : Type 0} (room : Node → ℕ) (nodes : ℕ → Node) (t : ℕ) (x : Node) (k count : ℕ) → t < count →
    room x + k ≤ room (nodes t) → room_of room (λ n. if n == t then x else nodes n) count + k ≤ room_of room nodes count
room-spent room nodes t x k zero lt le = absurd (omega arith)
room-spent room nodes t x k (suc n) lt le = elim (cases_eq n t) [
  | inl same ↦
      let others = room-other room nodes t x n (omega arith) in
      let here : (n == t) ≡ true = eq-eqb n t same in
      let at : room (nodes n) ≡ room (nodes t) = ap (λ m. room (nodes m)) same in
      rw here (omega arith)
  | inr ne ↦
      let rest = room-spent room nodes t x k n (omega arith) le in
      let there : (n == t) ≡ false = ne_eqb n t ne in rw there (omega arith)
]

module _ {Node Lan Load Text : Type 0} (rules : Rules Node Lan Load Text) (ok : Health Node Lan Load) (lawful : IsLawful rules ok)
    (count : ℕ) (room : Node → ℕ) (bounded : IsBounded rules ok count room) where
  -- each firing leaves fewer to come
  pub fire-spends : (test : Key → Bool) (w : World Node Lan Load Text) (r : Ready Node Lan Load Text) → IsHealthy ok w →
      next rules test w ≡ Some r → suc (most_firings count room (after rules test w r)) ≤ most_firings count room w
  unfolding after
  fire-spends test w r healthy is =
      let found = next-found rules test w r is in
      let well = first-holds test ok.event w.pending r.event healthy.pending found.event in
      let spent = room-spent room w.nodes r.event.key.node.0 r.effect.node (length r.effect.sends) count (bounded.target r.event well)
      (bounded.spent w r.event r.effect healthy well found.effect) in
      let sends = scheduled r.event.key (rules.counter (w.nodes r.event.key.node.0)) r.effect.sends in
      let a = length-insert_each (λ (e : Event Load). e.key) sends (without_first test w.pending) in
      let b = length-scheduled r.event.key (rules.counter (w.nodes r.event.key.node.0)) r.effect.sends in
      let c = length-without test w.pending r.event found.event in
      omega arith

  bounded-rests : (stop n : ℕ) (w : World Node Lan Load Text) → IsSound rules ok w → most_firings count room w ≤ n →
      Rests rules (below stop) (plain_firings rules stop n w)
  unfolding plain_firings
  bounded-rests stop zero w sound le = go (next rules (below stop) w) refl
    where
      go : (o : Option (Ready Node Lan Load Text)) → next rules (below stop) w ≡ o → o ≡ None
      go None is = refl
      go (Some r) is = absurd (let spent = fire-spends (below stop) w r sound.health is in omega arith)
  bounded-rests stop (suc n) w sound le =
      go (next rules (below stop) w) refl (λ less. bounded-rests stop n (fire rules (below stop) w) (fire-sound rules ok lawful (below stop) w sound) less)
    where
      go : (o : Option (Ready Node Lan Load Text)) → next rules (below stop) w ≡ o →
          (most_firings count room (fire rules (below stop) w) ≤ n → Rests rules (below stop) (plain_firings rules stop n (fire rules (below stop) w))) →
          Rests rules (below stop) (plain_firings rules stop n (fire rules (below stop) w))
      go None is rest = ap (next rules (below stop)) (plain-idle rules stop (suc n) w is) ∙ is
      go (Some r) is rest = rest (
          let spent = fire-spends (below stop) w r sound.health is in
          let same = ap (most_firings count room) (fire-moves rules (below stop) w r is) in omega arith)

  -- every plain run ends, within as many firings as can come at most
  pub plain_ends : (stop : ℕ) (w : World Node Lan Load Text) → IsSound rules ok w →
      IsPlainRun rules stop w (plain_run rules stop count room w)
  unfolding plain_run
  plain_ends stop w sound = record {
    steps = most_firings count room w;
    reached = refl;
    rests = bounded-rests stop (most_firings count room w) w sound (omega arith);
  }

  -- the function's run is the one that the relation gives
  pub plain-is_run : (stop : ℕ) (w : World Node Lan Load Text) (ending : Ending Node Lan Load Text) → IsSound rules ok w →
      PlainEnds rules stop w ending ↔ (plain_ending rules stop count room w ≡ ending)
  plain-is_run stop w ending sound = (
    λ p. plain-unique rules stop w (plain_ending rules stop count room w) ending
        (record { final = plain_run rules stop count room w; run = plain_ends stop w sound; ends = refl }) p,
    λ e. record { final = plain_run rules stop count room w; run = plain_ends stop w sound; ends = e },
  )
