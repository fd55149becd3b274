-- Events that are put among the pending ones, one by one.
use Rattle.std.proofs.Common.{◌≡◌, List, [], ◌∷◌, ◌++◌, reverse, sym, ap, ◌∙◌, subst}
use Rattle.std.proofs.lemmas.List.{reverse-reverse}
use Rattle.sim_base.specs.declared.key.Key.{Key}
use Rattle.sim_base.specs.KeyOrder.{insert_by}
use Rattle.sim_base.specs.Packet.{Packet}
use Rattle.event_queue.specs.Pending.{key_of}
use Rattle.round_core.specs.Order.{insert_each}
use Rattle.round_core.specs.World.{Event}
use Rattle.node_step.specs.declared.loads.Event.{Event as NodeEvent}
use Rattle.node_step.specs.declared.loads.Load.{Load}
use Rattle.node_step.specs.Loads.{plain_event, plain_load}
use Rattle.node_rules.specs.Worlds.{event_of}
use Rattle.lp_run.specs.Pending.{AreNew}
use Rattle.lp_run.proofs.NewLaws.{new-insert}
use Rattle.lp_run.proofs.QueueLaws.{insert-seen}
use Rattle.lp_run.proofs.Seen.{held, seen, seen-pop}

module _ {P : Type 0} (plain : P → Packet) where
  -- what the loop keeps: some events are left in the list, and the others are pending
  pub record Put (all : List (NodeEvent P)) (pending : List (Key × Load P)) (left : List (NodeEvent P)) (now : List (Key × Load P)) : Type 0 where
    pub same : insert_each (λ e. e.key) (seen plain (reverse left)) (held plain now) ≡ insert_each (λ e. e.key) (seen plain all) (held plain pending)
    pub new : AreNew (seen plain (reverse left)) (held plain now)

  pub put-first : (all turned : List (NodeEvent P)) (pending : List (Key × Load P)) → turned ≡ reverse all →
      AreNew (seen plain all) (held plain pending) → Put all pending turned pending
  put-first all turned pending is new =
      let back : seen plain (reverse turned) ≡ seen plain all = ap (seen plain) (ap reverse is ∙ reverse-reverse all) in
      record {
        same = ap (λ l. insert_each (λ e. e.key) l (held plain pending)) back;
        new = subst (λ (l : List (Event (Load Packet))). AreNew l (held plain pending)) (sym back) new;
      }

  module _ (all : List (NodeEvent P)) (pending : List (Key × Load P)) (left rest : List (NodeEvent P)) (now : List (Key × Load P))
      (e : NodeEvent P) (last : left ≡ rest ++ e ∷ []) (h : Put all pending left now) where
    pub put-new : AreNew (event_of (plain_event plain e) ∷ seen plain (reverse rest)) (held plain now)
    put-new = subst (λ (l : List (Event (Load Packet))). AreNew l (held plain now)) (seen-pop plain left rest e last) h.new

    pub put-more : (new : List (Key × Load P)) → new ≡ insert_by key_of (e.key, e.load) now → Put all pending rest new
    unfolding insert_each
    put-more new is =
        let inserted : held plain new ≡ insert_by (λ x. x.key) (event_of (plain_event plain e)) (held plain now) =
        ap (held plain) is ∙ insert-seen (plain_load plain) (e.key, e.load) now in
        record {
          same = ap (insert_each (λ x. x.key) (seen plain (reverse rest))) inserted
              ∙ ap (λ l. insert_each (λ x. x.key) l (held plain now)) (sym (seen-pop plain left rest e last)) ∙ h.same;
          new = subst (AreNew (seen plain (reverse rest))) (sym inserted)
              (new-insert (event_of (plain_event plain e)) (seen plain (reverse rest)) (held plain now) put-new);
        }

  pub put-last : (all : List (NodeEvent P)) (pending : List (Key × Load P)) (left : List (NodeEvent P)) (now : List (Key × Load P)) →
      left ≡ [] → Put all pending left now → held plain now ≡ insert_each (λ e. e.key) (seen plain all) (held plain pending)
  unfolding insert_each
  put-last all pending left now none h =
      ap (λ (l : List (NodeEvent P)). insert_each (λ e. e.key) (seen plain (reverse l)) (held plain now)) (sym none) ∙ h.same
