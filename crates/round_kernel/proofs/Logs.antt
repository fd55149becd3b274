-- The firings of all groups of a round, in the order of their keys.
use Rattle.std.proofs.Common.{◌≡◌, ◌≢◌, ℕ, ◌<◌, ◌≤◌, zero, suc, true, false, List, [], ◌∷◌, ◌++◌, sym, ap, ◌∙◌, subst, arith, inl, inr}
use Rattle.std.proofs.lemmas.Bool.{cases_lt}
use Rattle.std.specs.List.{AllByRecursion}
use Rattle.sim_base.specs.declared.key.Key.{Key}
use Rattle.sim_base.specs.KeyOrder.{IsRising, before, insert_by}
use Rattle.sim_base.proofs.KeyLaws.{before-not_back}
use Rattle.round_core.specs.Opening.{HaveOwnKeys}
use Rattle.round_core.specs.Order.{in_key_order, insert_each}
use Rattle.round_core.specs.Parts.{AreMerged, IsIn, Part}
use Rattle.round_core.specs.World.{Firing}
use Rattle.round_core.proofs.ListLaws.{all-insert, all-map, rising-insert}
use Rattle.round_core.proofs.Members.{all-in, in-all, in-append, in-append_left, in-append_right, in-insert_each, in-insert_each_new}
use Rattle.round_kernel.proofs.Fresh.{own-append}

-- items with keys of their own, put into a list in the order of keys that has none of these keys
pub rising-each : {A : Type 0} (key_of : A → Key) (xs l : List A) → IsRising key_of l → HaveOwnKeys key_of xs →
    AllByRecursion (λ x. AllByRecursion (λ y. key_of x ≢ key_of y) l) xs → IsRising key_of (insert_each key_of xs l)
unfolding insert_each
rising-each key_of [] l rising own apart = rising
rising-each {A} key_of (x ∷ xs) l rising own apart =
    rising-each key_of xs (insert_by key_of x l) (rising-insert key_of x l rising apart.0) own.1 (further xs own.0 apart.1)
  where
    further : (ys : List A) → AllByRecursion (λ y. key_of x ≢ key_of y) ys →
        AllByRecursion (λ y. AllByRecursion (λ z. key_of y ≢ key_of z) l) ys →
        AllByRecursion (λ y. AllByRecursion (λ z. key_of y ≢ key_of z) (insert_by key_of x l)) ys
    further [] ne all = tt
    further (y ∷ ys) ne all =
        (all-insert key_of (λ z. key_of y ≢ key_of z) x l (λ same. ne.0 (sym same)) all.0, further ys ne.1 all.1)

irreflexive : (k : Key) → before k k ≡ true → ⊥
irreflexive k h = let back = before-not_back k k h in let d : true ≡ false = sym h ∙ back in cc

-- the keys of a rising list are all different
pub rising-own : {A : Type 0} (key_of : A → Key) (xs : List A) → IsRising key_of xs → HaveOwnKeys key_of xs
rising-own key_of [] rising = tt
rising-own key_of (x ∷ xs) rising = (
  all-map (λ y. before (key_of x) (key_of y) ≡ true) (λ y. key_of x ≢ key_of y)
      (λ y up same. irreflexive (key_of x) (let P : Key → Type 0 = λ k. before (key_of x) k ≡ true in subst P (sym same) up)) xs rising.0,
  rising-own key_of xs rising.1,
)

module _ {Node Lan Load Text : Type 0} (group_of : ℕ → ℕ) (parts : ℕ → Part Node Lan Load Text) where
  -- the firings of the groups below a number
  abbrev pub logs : ℕ → List (Firing Text)
  logs zero = []
  logs (suc n) = logs n ++ (parts n).world.fired

  pub in-logs : (count : ℕ) (f : Firing Text) → IsIn f (logs count) → (g : ℕ) × (g < count) × IsIn f (parts g).world.fired
  in-logs zero f i = absurd i
  in-logs (suc n) f i = elim (in-append f (logs n) (parts n).world.fired i) [
    | inl before_it ↦ let there = in-logs n f before_it in (there.0, (let low = there.1 in omega arith), there.2)
    | inr here ↦ (n, omega arith, here)
  ]

  pub logs-in : (count g : ℕ) (f : Firing Text) → g < count → IsIn f (parts g).world.fired → IsIn f (logs count)
  logs-in zero g f low i = absurd (omega arith)
  logs-in (suc n) g f low i = elim (cases_lt g n) [
    | inl before_it ↦ in-append_left f (logs n) (parts n).world.fired (logs-in n g f before_it i)
    | inr last ↦ in-append_right f (logs n) (parts n).world.fired
        (let same : g ≡ n = omega arith in subst (λ (k : ℕ). IsIn f (parts k).world.fired) same i)
  ]

  module _ (own : (g : ℕ) → AllByRecursion (λ f. group_of f.key.node.0 ≡ g) (parts g).world.fired)
      (rising : (g : ℕ) → IsRising (λ f. f.key) (parts g).world.fired) where
    logs-own : (count : ℕ) → HaveOwnKeys (λ f. f.key) (logs count)
    logs-own zero = tt
    logs-own (suc n) = own-append (λ f. f.key) (logs n) (parts n).world.fired (logs-own n) (rising-own (λ f. f.key) (parts n).world.fired (rising n))
        (all-in (λ x. AllByRecursion (λ y. x.key ≢ y.key) (parts n).world.fired) (logs n) (λ x i.
        let there = in-logs n x i in
        let mine = in-all (λ f. group_of f.key.node.0 ≡ there.0) (parts there.0).world.fired (own there.0) x there.2 in
        all-map (λ f. group_of f.key.node.0 ≡ n) (λ y. x.key ≢ y.key) (λ y other same.
        let low = there.1 in let at : group_of x.key.node.0 ≡ group_of y.key.node.0 = ap (λ (k : Key). group_of k.node.0) same in
        absurd (omega arith)) (parts n).world.fired (own n)))

    -- put into the order of their keys, they are merged
    pub logs-merged : (count : ℕ) → ((g : ℕ) → count ≤ g → (parts g).world.fired ≡ []) → AreMerged parts (in_key_order (λ f. f.key) (logs count))
    logs-merged count none = record {
      rising = rising-each (λ f. f.key) (logs count) [] tt (logs-own count) (all-in _ (logs count) (λ x i. tt));
      members = λ f. (
        (λ i. elim (in-insert_each (λ x. x.key) f (logs count) [] i) [
          | inl there ↦ let at = in-logs count f there in (at.0, at.2)
          | inr nothing ↦ absurd nothing
        ]),
        (λ there. in-insert_each_new (λ x. x.key) f (logs count) [] (elim (cases_lt there.0 count) [
          | inl low ↦ logs-in count there.0 f low there.1
          | inr past ↦ absurd (subst (λ (l : List (Firing Text)). IsIn f l) (none there.0 past) there.1)
        ])),
      );
    }
