-- The world before a run is sound.
use Rattle.std.proofs.Common.{◌≢◌, ℕ, List, [], ◌∷◌, sym}
use Rattle.std.specs.List.{AllByRecursion}
use Rattle.sim_base.specs.declared.key.Key.{Key}
use Rattle.round_core.specs.Laws.{Health, IsSound}
use Rattle.round_core.specs.Opening.{opening, HaveOwnKeys, IsOpening}
use Rattle.round_core.specs.Order.{insert_each}
use Rattle.sim_base.specs.KeyOrder.{IsRising, insert_by}
use Rattle.round_core.specs.World.{Event, Rules, IsPast}
use Rattle.round_core.proofs.ListLaws.{all-insert, all-insert_each, rising-insert}
use Rattle.round_core.proofs.Members.{all-in}

-- items with keys of their own, put into a list in the order of keys that has none of these keys
rising-insert_each : {A : Type 0} (key_of : A → Key) (xs l : List A) → IsRising key_of l → HaveOwnKeys key_of xs →
    AllByRecursion (λ x. AllByRecursion (λ y. key_of x ≢ key_of y) l) xs → IsRising key_of (insert_each key_of xs l)
unfolding insert_each
rising-insert_each key_of [] l rising own apart = rising
rising-insert_each {A} key_of (x ∷ xs) l rising own apart =
    rising-insert_each key_of xs (insert_by key_of x l) (rising-insert key_of x l rising apart.0) own.1 (further xs own.0 apart.1)
  where
    further : (ys : List A) → AllByRecursion (λ y. key_of x ≢ key_of y) ys →
        AllByRecursion (λ y. AllByRecursion (λ z. key_of y ≢ key_of z) l) ys →
        AllByRecursion (λ y. AllByRecursion (λ z. key_of y ≢ key_of z) (insert_by key_of x l)) ys
    further [] ne all = tt
    further (y ∷ ys) ne all =
        (all-insert key_of (λ z. key_of y ≢ key_of z) x l (λ same. ne.0 (sym same)) all.0, further ys ne.1 all.1)

pub opening-sound : {Node Lan Load Text : Type 0} (rules : Rules Node Lan Load Text) (ok : Health Node Lan Load)
    (nodes : ℕ → Node) (lans : ℕ → Lan) (events : List (Event Load)) → IsOpening rules ok nodes lans events →
    IsSound rules ok (opening nodes lans events)
unfolding opening
opening-sound rules ok nodes lans events is = record {
  health = record {
    nodes = is.nodes_ok;
    lans = is.lans_ok;
    pending = all-insert_each (λ e. e.key) ok.event events [] is.events_ok tt;
  };
  rising = rising-insert_each (λ e. e.key) events [] tt is.own_keys (all-in _ events (λ x i. tt));
  counted = all-insert_each (λ e. e.key) _ events [] is.counted tt;
}

pub opening-past : {Node Lan Load Text : Type 0} (nodes : ℕ → Node) (lans : ℕ → Lan) (events : List (Event Load)) →
    IsPast {Node = Node} {Lan = Lan} {Load = Load} {Text = Text} (opening nodes lans events)
unfolding opening
opening-past nodes lans events = record { rising = tt; behind = all-in _ _ (λ e i. tt) }
