use Rattle.std.proofs.Common.{◌≡◌, ◌≢◌, ◌<◌, ◌+◌, ℕ, List, [], ◌∷◌, ◌++◌, length, refl, sym, ap, subst, ◌∙◌, rules, arith}
use Rattle.std.proofs.lemmas.List.{with_items_is}
use Rattle.std.specs.List.{AllByRecursion}
use Rattle.std.specs.List.Sorted.{IsPermutation}
use Rattle.std_alloc.specs.BinaryHeap.Sift.{SiftsUp}
use Rattle.sim_base.specs.declared.key.Key.{Key}
use Rattle.sim_base.specs.KeyOrder.{insert_by}
use Rattle.event_queue.specs.Pending.{key_of, IsNew}
use Rattle.event_queue.specs.Heap.{key_at, entries_in_order, entry_cmp, IsTimed, IsNoted, IsHeapOfKeys}
use Rattle.event_queue.specs.declared.heap.Entry.{Entry}
use Rattle.event_queue.proofs.HeapLaws.{heap-noted, entries-noted, put-timed, heap-risen, entries-risen}
use Rattle.event_queue.proofs.agenda.Agenda.push.Goals as goal

abbrev no_other : ℕ → List (Key × ℕ) → Type 0
no_other place entries = AllByRecursion (λ e. e.1 ≢ place) entries

timed : (old new : List Key) (key : Key) (place : ℕ) → IsNoted old new key place → (x : Entry) → x.place ≡ place → x.time ≡ key.time.0 → IsTimed new x
timed old new key place noted x here now = (
  subst (λ p. p < length new) (sym here) noted.inside,
  now ∙ ap (λ (k : Key). k.time.0) (sym noted.there) ∙ ap (λ p. (key_at new p).time.0) (sym here),
)

-- what is known once the key is noted: the heap stands for the same entries, and the new one may join them
record Ready (old new : List Key) (xs : List Entry) (key : Key) (place : ℕ) (entries : List (Key × ℕ)) : Type 0 where
  heap : IsHeapOfKeys new xs
  same : entries_in_order new xs ≡ entries
  fresh : IsNew (key_at new place) (entries_in_order new xs)

ready : (old new : List Key) (xs : List Entry) (key : Key) (place : ℕ) (entries : List (Key × ℕ)) → IsNoted old new key place → IsHeapOfKeys old xs → entries_in_order old xs ≡ entries
    → IsNew key entries → no_other place entries → Ready old new xs key place entries
ready old new xs key place entries noted h is fresh free =
    let here = subst (no_other place) (sym is) free in
    let same = entries-noted old new key place noted xs here h ∙ is in
    record {
      heap = heap-noted old new key place noted xs here h;
      same = same;
      fresh = subst (λ k. IsNew k (entries_in_order new xs)) (sym noted.there) (subst (IsNew key) (sym same) fresh);
    }

-- the small entry of a key
abbrev made : Key → ℕ → Entry
made key place = record { time = key.time.0; place = place }

-- the heap in which the new entry rose, and what it stands for
record Joined (keys : List Key) (zs : List Entry) (key : Key) (place : ℕ) (entries : List (Key × ℕ)) : Type 0 where
  heap : IsHeapOfKeys keys zs
  joins : entries_in_order keys zs ≡ insert_by key_of (key, place) entries

joined : (old new named_keys : List Key) (xs ys named zs : List Entry) (key : Key) (place last : ℕ) (entries : List (Key × ℕ)) → named_keys ≡ new → named ≡ ys → last ≡ length xs → length zs ≡ length xs + 1 →
    Ready old new xs key place entries → IsNoted old new key place → ys ≡ xs ++ made key place ∷ [] → IsPermutation named zs → SiftsUp (entry_cmp named_keys) named last zs → Joined new zs key place entries
joined old new named_keys xs ys named zs key place last entries k y at long ready noted put p rises =
    let x = made key place in
    let fits = timed old new key place noted x refl refl in
    let moved = subst (λ l. IsPermutation l zs) y p in
    let risen = subst (λ l. SiftsUp (entry_cmp new) l last zs) y (subst (λ l. SiftsUp (entry_cmp l) named last zs) k rises) in
    let counted = long ∙ ap (λ n. n + 1) (sym at) in
    record {
      heap = heap-risen new xs ys x ready.heap fits put zs ready.fresh moved last at counted risen;
      joins = entries-risen new xs ys x ready.heap fits put zs ready.fresh moved last at counted risen ∙ (λ i. insert_by key_of (noted.there i, place) (ready.same i));
    }

pub invariant_of-self-in_err-push : goal.invariant_of-self-in_err-push
invariant_of-self-in_err-push c =
    let ready = ready c.self.inside.keys.items c.note.new.keys.items c.self.inside.heap.items c.args.key c.args.place c.args.self.now c.in_ok-note.ensures.ok c.self.invariant c.self.view_is c.requires.new c.requires.free in
    subst (IsHeapOfKeys c.note.new.keys.items) (sym c.in_err-push.ensures.items) ready.heap

pub returns-in_err-push-clause-err : goal.returns-in_err-push-clause-err
returns-in_err-push-clause-err c =
    let ready = ready c.self.inside.keys.items c.note.new.keys.items c.self.inside.heap.items c.args.key c.args.place c.args.self.now c.in_ok-note.ensures.ok c.self.invariant c.self.view_is c.requires.new c.requires.free in
    let same = ap (entries_in_order c.note.new.keys.items) c.in_err-push.ensures.items ∙ ready.same in
    search rules

pub rise-requires-clause-timed : goal.rise-requires-clause-timed
rise-requires-clause-timed c =
    let new = c.note.new.keys.items in
    let x = made c.args.key c.args.place in
    let ready = ready c.self.inside.keys.items new c.self.inside.heap.items c.args.key c.args.place c.args.self.now c.in_ok-note.ensures.ok c.self.invariant c.self.view_is c.requires.new c.requires.free in
    let fits = timed c.self.inside.keys.items new c.args.key c.args.place c.in_ok-note.ensures.ok x refl refl in
    rw (c.as_slice.ensures.value, c.as_mut_slice.ensures.value) (put-timed new c.self.inside.heap.items c.push.new.self.items x ready.heap fits c.in_ok-push.ensures.items)

pub invariant_of-self-2 : goal.invariant_of-self-2
invariant_of-self-2 c =
    let old = c.self.inside.keys.items in
    let new = c.note.new.keys.items in
    let xs = c.self.inside.heap.items in
    let zs = c.rise.new.heap in
    let ready = ready old new xs c.args.key c.args.place c.args.self.now c.in_ok-note.ensures.ok c.self.invariant c.self.view_is c.requires.new c.requires.free in
    let kept : length zs ≡ c.push.new.self.len = omega (arith, c.rise.auto.heap, c.as_mut_slice.ensures.len) in
    let long : length zs ≡ length xs + 1 = omega (arith, kept, c.in_ok-push.ensures.len, c.self.inside.heap.ok.0) in
    let last : c.len-last.result ≡ length xs = omega (arith, c.len-last.ensures, c.self.inside.heap.ok.0) in
    let after = joined old new _ xs c.push.new.self.items _ zs c.args.key c.args.place c.len-last.result c.args.self.now c.as_slice.ensures.value c.as_mut_slice.ensures.value last long ready c.in_ok-note.ensures.ok c.in_ok-push.ensures.items c.rise.ensures.permutation c.rise.ensures.rises in
    subst (IsHeapOfKeys new) (sym (with_items_is c.push.new.self zs kept)) after.heap

pub returns-clause-ok : goal.returns-clause-ok
returns-clause-ok c =
    let old = c.self.inside.keys.items in
    let new = c.note.new.keys.items in
    let xs = c.self.inside.heap.items in
    let zs = c.rise.new.heap in
    let ready = ready old new xs c.args.key c.args.place c.args.self.now c.in_ok-note.ensures.ok c.self.invariant c.self.view_is c.requires.new c.requires.free in
    let kept : length zs ≡ c.push.new.self.len = omega (arith, c.rise.auto.heap, c.as_mut_slice.ensures.len) in
    let long : length zs ≡ length xs + 1 = omega (arith, kept, c.in_ok-push.ensures.len, c.self.inside.heap.ok.0) in
    let last : c.len-last.result ≡ length xs = omega (arith, c.len-last.ensures, c.self.inside.heap.ok.0) in
    let after = joined old new _ xs c.push.new.self.items _ zs c.args.key c.args.place c.len-last.result c.args.self.now c.as_slice.ensures.value c.as_mut_slice.ensures.value last long ready c.in_ok-note.ensures.ok c.in_ok-push.ensures.items c.rise.ensures.permutation c.rise.ensures.rises in
    ap (entries_in_order new) (with_items_is c.push.new.self zs kept) ∙ after.joins
