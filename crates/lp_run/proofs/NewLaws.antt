-- What a firing schedules has new keys.
use Rattle.std.proofs.Common.{◌≡◌, ◌≢◌, ℕ, suc, ◌<◌, List, [], ◌∷◌, sym, ap, arith}
use Rattle.std.specs.List.{AllByRecursion}
use Rattle.sim_base.specs.declared.key.Key.{Key}
use Rattle.sim_base.specs.KeyOrder.{insert_by}
use Rattle.round_core.specs.World.{Event, Send, scheduled}
use Rattle.round_core.proofs.ListLaws.{all-map, all-insert}
use Rattle.lp_run.specs.Pending.{HasNoKey, AreNew}

module _ {Load : Type 0} where
  -- one of them is put among the others
  pub new-insert : (e : Event Load) (events others : List (Event Load)) → AreNew (e ∷ events) others →
      AreNew events (insert_by (λ x. x.key) e others)
  new-insert e events others new = go events new.1 new.2
    where
      go : (rest : List (Event Load)) → HasNoKey e.key rest → AreNew rest others → AreNew rest (insert_by (λ x. x.key) e others)
      go [] apart rest = tt
      go (x ∷ xs) apart rest =
          (all-insert (λ y. y.key) (λ y. y.key ≢ x.key) e others (λ same. apart.0 (sym same)) rest.0, rest.1, go xs apart.1 rest.2)

  -- or to none of them
  pub new-rest : (e : Event Load) (events others : List (Event Load)) → AreNew (e ∷ events) others → AreNew events others
  new-rest e events others new = new.2

  -- an event that its node has counted already has another key than those that are counted from now on
  pub counted-new : (key : Key) (count : ℕ) (sends : List (Send Load)) (others : List (Event Load)) →
      AllByRecursion (λ e. e.key.by.0 ≡ key.node.0 → e.key.count < count) others → AreNew (scheduled key count sends) others
  unfolding scheduled
  counted-new key count [] others counted = tt
  counted-new key count (s ∷ sends) others counted = (
    all-map _ _ (λ e low same. let by = ap (λ (k : Key). k.by.0) same in let at = ap (λ (k : Key). k.count) same in
        let less = low by in absurd (omega arith)) others counted,
    later (record { time = record { 0 = s.at }; node = record { 0 = s.to }; sent = key.time; by = key.node; count = count }) (suc count) sends (omega arith),
    counted-new key (suc count) sends others (all-map _ _ (λ e low by. let less = low by in omega arith) others counted),
  )
    where
      later : (other : Key) (from : ℕ) (sends : List (Send Load)) → other.count < from → HasNoKey other (scheduled key from sends)
      later other from [] less = tt
      later other from (s ∷ sends) less = (
        (λ same. let at = ap (λ (k : Key). k.count) same in absurd (omega arith)),
        later other (suc from) sends (omega arith),
      )
