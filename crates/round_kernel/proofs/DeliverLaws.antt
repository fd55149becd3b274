-- Groups get what others have scheduled for them, event by event.
use Rattle.std.proofs.Common.{◌≡◌, ◌≢◌, ℕ, List, [], ◌∷◌, ◌++◌, filter, length, length-set, reverse, set, Some, slice_get, append_assoc, refl, sym, ap, ◌∙◌, subst, inl, inr}
use Rattle.std.specs.List.{AllByRecursion}
use Rattle.std.proofs.lemmas.Bool.{cases_eq, eq-eqb, ne_eqb}
use Rattle.std.proofs.lemmas.List.{append-nil, reverse-append, reverse-reverse}
use Rattle.std.proofs.lemmas.List.Elements.{filter-append}
use Rattle.std.proofs.lemmas.Option.{slice_get_within}
use Rattle.sim_base.specs.Packet.{Packet}
use Rattle.sim_base.specs.declared.key.Key.{Key}
use Rattle.sim_base.specs.KeyOrder.{insert_by}
use Rattle.round_core.specs.Opening.{HaveOwnKeys}
use Rattle.round_core.specs.Order.{insert_each}
use Rattle.round_core.specs.Parts.{IsIn, is_for}
use Rattle.round_core.specs.World.{Event}
use Rattle.round_core.proofs.Members.{all-in, filter-in, in-all, in-append_right, in-insert_each}
use Rattle.node_step.specs.declared.loads.Event.{Event as NodeEvent}
use Rattle.node_step.specs.declared.loads.Load.{Load}
use Rattle.node_step.specs.Loads.{plain_event}
use Rattle.node_rules.specs.Worlds.{event_of}
use Rattle.lp_run.specs.Lp.{PlainLp}
use Rattle.lp_run.specs.Pending.{HasNoKey}
use Rattle.round_kernel.specs.Handing.{CanGet, HaveGot, got_one, with_events}
use Rattle.round_kernel.specs.Left.{lps_of, plain_sends}
use Rattle.round_kernel.specs.Window.{Gone}
use Rattle.round_kernel.proofs.GroupLists.{at-group, group-at, length-lps, set-other, set-same}

-- events that are taken from the end of a turned list come in their order
pub sends-turned : {P : Type 0} (plain : P → Packet) (all turned : List (NodeEvent P)) → turned ≡ reverse all →
    plain_sends plain (reverse turned) ≡ plain_sends plain all
sends-turned plain all turned is = ap (plain_sends plain) (ap reverse is ∙ reverse-reverse all)

pub sends-pop : {P : Type 0} (plain : P → Packet) (xs ys : List (NodeEvent P)) (x : NodeEvent P) → xs ≡ ys ++ x ∷ [] →
    plain_sends plain (reverse xs) ≡ event_of (plain_event plain x) ∷ plain_sends plain (reverse ys)
sends-pop plain xs ys x last = ap (λ l. plain_sends plain (reverse l)) last ∙ ap (plain_sends plain) (reverse-append ys (x ∷ []))

insert-append : {A : Type 0} (key_of : A → Key) (xs ys l : List A) → insert_each key_of (xs ++ ys) l ≡ insert_each key_of ys (insert_each key_of xs l)
unfolding insert_each
insert-append key_of [] ys l = refl
insert-append key_of (x ∷ xs) ys l = insert-append key_of xs ys (insert_by key_of x l)

one-inserted : {A : Type 0} (key_of : A → Key) (x : A) (l : List A) → insert_each key_of (x ∷ []) l ≡ insert_by key_of x l
unfolding insert_each
one-inserted key_of x l = refl

none-inserted : {A : Type 0} (key_of : A → Key) (l : List A) → insert_each key_of [] l ≡ l
unfolding insert_each
none-inserted key_of l = refl

-- keys of items before another differ from its own
own-before : {A : Type 0} (key_of : A → Key) (xs ys : List A) (y : A) → HaveOwnKeys key_of (xs ++ y ∷ ys) → (x : A) → IsIn x xs → key_of x ≢ key_of y
own-before key_of [] ys y own x i = absurd i
own-before {A} key_of (z ∷ xs) ys y own x (inl same) = in-all (λ w. key_of x ≢ key_of w) (xs ++ y ∷ ys)
    (let Q : A → Type 0 = λ v. AllByRecursion (λ w. key_of v ≢ key_of w) (xs ++ y ∷ ys) in subst Q (sym same) own.0) y
    (in-append_right y xs (y ∷ ys) (inl refl))
own-before key_of (z ∷ xs) ys y own x (inr i) = own-before key_of xs ys y own.1 x i

-- groups on the way: these events were handed over, and these are left
pub record Handing (group_of : ℕ → ℕ) (all : List (Event (Load Packet))) (old new : List Gone) (left : List (Event (Load Packet))) : Type 0 where
  pub done : List (Event (Load Packet))
  pub are : done ++ left ≡ all
  pub got : HaveGot group_of done (lps_of old) (lps_of new)

module _ (group_of : ℕ → ℕ) (all : List (Event (Load Packet))) (old : List Gone) where
  same-pending : (lp : PlainLp) (events : List (Event (Load Packet))) → lp.pending ≡ events → lp ≡ record lp { pending = events }
  same-pending lp events same i = record lp { pending = same i }

  pub handing-first : Handing group_of all old old all
  handing-first = record {
    done = [];
    are = refl;
    got = record {
      count = refl;
      each = λ g lp is. (lp, is, same-pending lp _ (sym (none-inserted (λ (e : Event (Load Packet)). e.key) lp.pending)));
    };
  }

  module _ (can : CanGet group_of (lps_of old) all) (now : List Gone) (e : Event (Load Packet)) (left : List (Event (Load Packet)))
      (handing : Handing group_of all old now (e ∷ left)) where
    abbrev target : ℕ
    target = group_of e.key.node.0

    in-done : (x : Event (Load Packet)) → IsIn x handing.done → x.key ≢ e.key
    in-done x i = own-before (λ (y : Event (Load Packet)). y.key) handing.done left e
        (subst (HaveOwnKeys (λ (y : Event (Load Packet)). y.key)) (sym handing.are) can.own) x i

    -- the group that is to get the next event has none with its key
    pub no-key : (was : Gone) → slice_get now target ≡ Some was → HasNoKey e.key was.0.pending
    no-key was there =
        let from = handing.got.each target was.0 (at-group now target was there) in
        let mine = filter (is_for group_of target) handing.done in
        let is : was.0.pending ≡ insert_each (λ x. x.key) mine from.0.pending = ap (λ (lp : PlainLp). lp.pending) from.2 in
        subst (λ (l : List (Event (Load Packet))). HasNoKey e.key l) (sym is)
        (all-in (λ (x : Event (Load Packet)). x.key ≢ e.key) (insert_each (λ x. x.key) mine from.0.pending) (λ x i.
        elim (in-insert_each (λ (y : Event (Load Packet)). y.key) x mine from.0.pending i) [
          | inl got ↦ in-done x (filter-in (is_for group_of target) x handing.done got).0
          | inr held ↦ λ same. can.new e x from.0 (subst (λ (l : List (Event (Load Packet))). IsIn e l) handing.are
              (in-append_right e handing.done (e ∷ left) (inl refl))) from.1 held (sym same)
        ]))

    -- one more event has been handed over
    pub handing-more : (was : Gone) (new : List Gone) → slice_get now target ≡ Some was → new ≡ set now target (got_one e was) →
        Handing group_of all old new left
    handing-more was new there after = record {
      done = handing.done ++ e ∷ [];
      are = append_assoc handing.done (e ∷ []) left ∙ handing.are;
      got = record {
        count = length-lps new ∙ ap length after ∙ length-set now target (got_one e was) ∙ sym (length-lps now) ∙ handing.got.count;
        each = λ g lp is. let group = group-at new g lp is in at g lp group.0 (sym (ap (λ l. slice_get l g) after) ∙ group.1) group.2;
      };
    }
      where
        more : (g : ℕ) (kept : List (Event (Load Packet))) (lp : PlainLp) → filter (is_for group_of g) (e ∷ []) ≡ kept →
            insert_each (λ x. x.key) (filter (is_for group_of g) (handing.done ++ e ∷ [])) lp.pending
            ≡ insert_each (λ x. x.key) kept (insert_each (λ x. x.key) (filter (is_for group_of g) handing.done) lp.pending)
        more g kept lp same =
            ap (λ (l : List (Event (Load Packet))). insert_each (λ x. x.key) l lp.pending) (filter-append (is_for group_of g) handing.done (e ∷ []))
            ∙ insert-append (λ (x : Event (Load Packet)). x.key) (filter (is_for group_of g) handing.done) (filter (is_for group_of g) (e ∷ [])) lp.pending
            ∙ ap (λ (l : List (Event (Load Packet))). insert_each (λ x. x.key) l (insert_each (λ x. x.key) (filter (is_for group_of g) handing.done) lp.pending)) same

        with-pending : (lp : PlainLp) (one other : List (Event (Load Packet))) → one ≡ other → record lp { pending = one } ≡ record lp { pending = other }
        with-pending lp one other same i = record lp { pending = same i }

        at : (g : ℕ) (lp : PlainLp) (group : Gone) → slice_get (set now target (got_one e was)) g ≡ Some group → lp ≡ group.0 →
            (before : PlainLp) × (slice_get (lps_of old) g ≡ Some before) × (lp ≡ with_events group_of g (handing.done ++ e ∷ []) before)
        at g lp group is lp_is = elim (cases_eq g target) [
          | inl same ↦
              let low = slice_get_within now target was there in
              let here : slice_get (set now target (got_one e was)) g ≡ Some (got_one e was) =
              ap (slice_get (set now target (got_one e was))) same ∙ set-same now target (got_one e was) low in
              let is_one : group ≡ got_one e was = (let d : Some group ≡ Some (got_one e was) = sym is ∙ here in cc) in
              let from = handing.got.each g was.0 (ap (slice_get (lps_of now)) same ∙ at-group now target was there) in
              let kept : filter (is_for group_of g) (e ∷ []) ≡ e ∷ [] = (let t = eq-eqb target g (sym same) in rw t refl) in
              let pending : insert_by (λ x. x.key) e was.0.pending
              ≡ insert_each (λ x. x.key) (filter (is_for group_of g) (handing.done ++ e ∷ [])) from.0.pending =
              ap (λ (l : List (Event (Load Packet))). insert_by (λ x. x.key) e l) (ap (λ (x : PlainLp). x.pending) from.2)
              ∙ sym (one-inserted (λ (x : Event (Load Packet)). x.key) e (insert_each (λ x. x.key) (filter (is_for group_of g) handing.done) from.0.pending))
              ∙ sym (more g (e ∷ []) from.0 kept) in (
                from.0,
                from.1,
                lp_is ∙ ap (λ (x : Gone). x.0) is_one
                    ∙ ap (λ (x : PlainLp). record x { pending = insert_by (λ y. y.key) e was.0.pending }) from.2
                    ∙ with-pending from.0 _ _ pending,
              )
          | inr other ↦
              let was_there = sym (set-other now target g (got_one e was) other) ∙ is in
              let from = handing.got.each g group.0 (at-group now g group was_there) in
              let kept : filter (is_for group_of g) (e ∷ []) ≡ [] = (let f = ne_eqb target g (λ same. other (sym same)) in rw f refl) in (
                from.0,
                from.1,
                lp_is ∙ from.2 ∙ with-pending from.0 _ _
                    (sym (more g [] from.0 kept ∙ none-inserted (λ (x : Event (Load Packet)). x.key) (insert_each (λ x. x.key) (filter (is_for group_of g) handing.done) from.0.pending))),
              )
        ]

  -- all events have been handed over
  pub handing-last : (now : List Gone) → Handing group_of all old now [] → HaveGot group_of all (lps_of old) (lps_of now)
  handing-last now handing = subst (λ (l : List (Event (Load Packet))). HaveGot group_of l (lps_of old) (lps_of now))
      (sym (append-nil handing.done) ∙ handing.are) handing.got
