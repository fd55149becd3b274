-- Entries in the order of addresses: their ports, and what is found after one is put in.
use Rattle.std.proofs.Common.{◌≡◌, ℕ, ◌<◌, Bool, true, false, cond, List, [], ◌∷◌, Option, None, Some, refl, sym, ap, ◌∙◌}
use Rattle.std.proofs.lemmas.Bool.{cond_both, cond-true, cond-false}
use Rattle.std.proofs.lemmas.Map.Text.{is_eq-slice_cmp}
use Rattle.std.proofs.lemmas.Slice.Eq.{bytes_eq-Decides}
use Rattle.std.specs.BTreeMap.{insert_entry, is_at}
use Rattle.std.specs.Cmp.Lexicographic.{slice_cmp}
use Rattle.std.specs.List.{AllByRecursion}
use Rattle.std.specs.Map.{lookup}
use Rattle.std.specs.Option.{IfSome}
use Rattle.std.specs.Ordering.{is_eq, match_ordering, nat_cmp}
use Rattle.std.specs.declared.cmp.Ordering.TheVariants.{Less, Equal, Greater}
use Rattle.bridge_dev.specs.declared.bridge.Sighting.{Sighting}

abbrev Entries : Type 0
Entries = List (List ℕ × Sighting)

-- the ports of entries

abbrev Within : ℕ → List ℕ × Sighting → Type 0
Within ports e = e.1.port < ports

pub learned_is_known : (ports : ℕ) (es : Entries) (k : List ℕ) (v : Sighting) → AllByRecursion (Within ports) es → v.port < ports →
    AllByRecursion (Within ports) (insert_entry (slice_cmp nat_cmp) es k v)
learned_is_known ports [] k v hs h = (h, tt)
learned_is_known ports (e ∷ es) k v hs h =
    elim (slice_cmp nat_cmp k e.0) as (λ o. AllByRecursion (Within ports) (match_ordering o ((k, v) ∷ e ∷ es) ((e.0, v) ∷ es) (e ∷ insert_entry (slice_cmp nat_cmp) es k v))) [
      | Less ↦ (h, hs)
      | Equal ↦ (h, hs.1)
      | Greater ↦ (hs.0, learned_is_known ports es k v hs.1 h)
    ]

pub known_port : (ports : ℕ) (test : List ℕ → Bool) (es : Entries) → AllByRecursion (Within ports) es → IfSome (lookup test es) (λ s. s.port < ports)
known_port ports test [] hs = tt
known_port ports test (e ∷ es) hs =
    cond_both (test e.0) (Some e.1) (lookup test es) (λ (o : Option Sighting). IfSome o (λ s. s.port < ports)) (λ _. hs.0) (λ _. known_port ports test es hs.1)

-- what is found

at_itself : (k : List ℕ) → is_at (slice_cmp nat_cmp k) k ≡ true
at_itself k = is_eq-slice_cmp k k ∙ (bytes_eq-Decides k k).1 refl

pub at_same : (a b : List ℕ) → is_at (slice_cmp nat_cmp a) b ≡ true → a ≡ b
at_same a b e = (bytes_eq-Decides a b).0 (sym (is_eq-slice_cmp a b) ∙ e)

pub insert-same : (es : Entries) (k : List ℕ) (v : Sighting) → lookup (is_at (slice_cmp nat_cmp k)) (insert_entry (slice_cmp nat_cmp) es k v) ≡ Some v
insert-same [] k v = cond-true (is_at (slice_cmp nat_cmp k) k) (Some v) None (at_itself k)
insert-same (e ∷ es) k v =
    let at = is_at (slice_cmp nat_cmp k) in
    elim (slice_cmp nat_cmp k e.0) as
    (λ o. slice_cmp nat_cmp k e.0 ≡ o → lookup at (match_ordering o ((k, v) ∷ e ∷ es) ((e.0, v) ∷ es) (e ∷ insert_entry (slice_cmp nat_cmp) es k v)) ≡ Some v) [
      | Less ↦ λ q. cond-true (at k) (Some v) (lookup at (e ∷ es)) (at_itself k)
      | Equal ↦ λ q. cond-true (at e.0) (Some v) (lookup at es) (ap is_eq q)
      | Greater ↦ λ q. cond-false (at e.0) (Some e.1) (lookup at (insert_entry (slice_cmp nat_cmp) es k v)) (ap is_eq q) ∙ insert-same es k v
    ] refl

pub insert-other : (mac : List ℕ) (es : Entries) (k : List ℕ) (v : Sighting) → is_at (slice_cmp nat_cmp mac) k ≡ false →
    lookup (is_at (slice_cmp nat_cmp mac)) (insert_entry (slice_cmp nat_cmp) es k v) ≡ lookup (is_at (slice_cmp nat_cmp mac)) es
insert-other mac [] k v other = cond-false (is_at (slice_cmp nat_cmp mac) k) (Some v) None other
insert-other mac (e ∷ es) k v other =
    let at = is_at (slice_cmp nat_cmp mac) in
    elim (slice_cmp nat_cmp k e.0) as
    (λ o. slice_cmp nat_cmp k e.0 ≡ o → lookup at (match_ordering o ((k, v) ∷ e ∷ es) ((e.0, v) ∷ es) (e ∷ insert_entry (slice_cmp nat_cmp) es k v)) ≡ lookup at (e ∷ es)) [
      | Less ↦ λ q. cond-false (at k) (Some v) (lookup at (e ∷ es)) other
      | Equal ↦ λ q.
          let here : at e.0 ≡ false = ap at (sym (at_same k e.0 (ap is_eq q))) ∙ other in
          cond-false (at e.0) (Some v) (lookup at es) here ∙ sym (cond-false (at e.0) (Some e.1) (lookup at es) here)
      | Greater ↦ λ q. ap (cond (at e.0) (Some e.1)) (insert-other mac es k v other)
    ] refl
