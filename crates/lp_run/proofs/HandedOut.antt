-- What is left to hand out, and what has been.
use Rattle.std.proofs.Common.{◌≡◌, Bool, true, false, List, [], ◌∷◌, ◌++◌, filter, not, refl, sym, ap, ◌∙◌, append_assoc}
use Rattle.std.proofs.lemmas.List.{append-nil}
use Rattle.sim_base.specs.KeyOrder.{insert_by}
use Rattle.round_core.specs.Order.{insert_each}
use Rattle.round_core.specs.World.{Event}
use Rattle.lp_run.specs.Pending.{AreNew}
use Rattle.lp_run.proofs.NewLaws.{new-insert, new-rest}

module _ {Load : Type 0} (own : Event Load → Bool) where
  -- the rest of some events, when those before it have been handed out
  pub record Handed (all pending sends rest held kept : List (Event Load)) : Type 0 where
    pub pending_is : insert_each (λ e. e.key) (filter own rest) held ≡ insert_each (λ e. e.key) (filter own all) pending
    pub sends_is : kept ++ filter (λ e. not (own e)) rest ≡ sends ++ filter (λ e. not (own e)) all
    pub new : AreNew rest held

  pub handed-first : (all pending sends : List (Event Load)) → AreNew all pending → Handed all pending sends all pending sends
  handed-first all pending sends new = record { pending_is = refl; sends_is = refl; new = new }

  pub handed-own : (all pending sends rest held kept : List (Event Load)) (e : Event Load) → own e ≡ true →
      Handed all pending sends (e ∷ rest) held kept → Handed all pending sends rest (insert_by (λ x. x.key) e held) kept
  unfolding insert_each
  handed-own all pending sends rest held kept e is h = record {
    pending_is = own-first held ∙ h.pending_is;
    sends_is = ap (λ l. kept ++ l) own-none ∙ h.sends_is;
    new = new-insert e rest held h.new;
  }
    where
      own-first : (l : List (Event Load)) → insert_each (λ x. x.key) (filter own rest) (insert_by (λ x. x.key) e l)
          ≡ insert_each (λ x. x.key) (filter own (e ∷ rest)) l
      own-first l = rw is refl

      own-none : filter (λ x. not (own x)) rest ≡ filter (λ x. not (own x)) (e ∷ rest)
      own-none = rw is refl

  pub handed-other : (all pending sends rest held kept : List (Event Load)) (e : Event Load) → own e ≡ false →
      Handed all pending sends (e ∷ rest) held kept → Handed all pending sends rest held (kept ++ e ∷ [])
  handed-other all pending sends rest held kept e is h = record {
    pending_is = ap (λ l. insert_each (λ x. x.key) l held) other-none ∙ h.pending_is;
    sends_is = append_assoc kept (e ∷ []) (filter (λ x. not (own x)) rest) ∙ ap (λ l. kept ++ l) other-first ∙ h.sends_is;
    new = new-rest e rest held h.new;
  }
    where
      other-none : filter own rest ≡ filter own (e ∷ rest)
      other-none = rw is refl

      other-first : e ∷ filter (λ x. not (own x)) rest ≡ filter (λ x. not (own x)) (e ∷ rest)
      other-first = rw is refl

  pub handed-last : (all pending sends held kept : List (Event Load)) → Handed all pending sends [] held kept →
      (held ≡ insert_each (λ e. e.key) (filter own all) pending) × (kept ≡ sends ++ filter (λ e. not (own e)) all)
  unfolding insert_each
  handed-last all pending sends held kept h = (h.pending_is, sym (append-nil kept) ∙ h.sends_is)
