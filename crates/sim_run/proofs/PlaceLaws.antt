-- The places of traces, as they are noted one by one.
use Rattle.std.proofs.Common.{◌≡◌, ℕ, zero, suc, ◌+◌, ◌<◌, ◌≤◌, true, false, cond, List, [], ◌∷◌, ◌++◌, length, map, take, get_or, slice_set, Option, Some, None, option_map, IfSome, refl, ap, sym, ◌∙◌, subst, arith, inl, inr}
use Rattle.std.proofs.lemmas.Bool.{cases_Bool}
use Rattle.std.proofs.lemmas.List.{take_more, take_all, map-append, length-map}
use Rattle.std.specs.List.{AllByRecursion}
use Rattle.std.specs.HashMap.{get}
use Rattle.pkt_face.specs.declared.line.Sign.{Sign}
use Rattle.sim_run.specs.declared.captures.Capture.{Capture}
use Rattle.sim_run.specs.declared.places.Places.{Places}
use Rattle.sim_run.specs.declared.traces.Trace.{Trace}
use Rattle.sim_run.specs.declared.traces.Trace.TheVariants.{Packets, Text}
use Rattle.sim_run.specs.Captures.{is_of, is_save}
use Rattle.sim_run.specs.Traces.{HaveOwnLines, LeavesLinesTo, goes_to, place_for, trace_head}
use Rattle.sim_run.specs.Places.{FindsPlaces, Piece, noted, same_interface}
use Rattle.sim_run.proofs.CaptureLaws.{found_nowhere}

-- what holds of all holds of the last, and of the first so many
all-last : {A : Type 0} (P : A → Type 0) (xs : List A) (x : A) → AllByRecursion P (xs ++ x ∷ []) → P x
all-last P [] x all = all.0
all-last P (y ∷ ys) x all = all-last P ys x all.1

all-take : {A : Type 0} (P : A → Type 0) (n : ℕ) (xs : List A) → AllByRecursion P xs → AllByRecursion P (take n xs)
all-take P zero xs all = tt
all-take P (suc n) [] all = tt
all-take P (suc n) (x ∷ xs) all = (all.0, all-take P n xs all.1)

own-take : (n : ℕ) (traces : List Trace) → HaveOwnLines traces → HaveOwnLines (take n traces)
own-take zero traces own = tt
own-take (suc n) [] own = tt
own-take (suc n) (t ∷ traces) own = (all-take (LeavesLinesTo t) n traces own.0, own-take n traces own.1)

-- the traces so far, and one more
pub traces-more : (traces : List Trace) (i : ℕ) (t : Trace) → i < length traces → t ≡ get_or traces i t → take i traces ++ t ∷ [] ≡ take (i + 1) traces
traces-more traces i t within is = sym (take_more traces i t within ∙ ap (λ x. take i traces ++ x ∷ []) (sym is))

pub own-more : (traces : List Trace) (i : ℕ) (t : Trace) → i < length traces → t ≡ get_or traces i t → HaveOwnLines traces
    → HaveOwnLines (take i traces ++ t ∷ [])
own-more traces i t within is own = subst HaveOwnLines (sym (traces-more traces i t within is)) (own-take (i + 1) traces own)

-- no trace before one gets its lines
place-new : (sign : Sign) (node iface : ℕ) (traces : List Trace) (t : Trace) → HaveOwnLines (traces ++ t ∷ []) → goes_to sign node iface t ≡ true
    → place_for sign node iface traces ≡ None
place-new sign node iface [] t own goes = refl
place-new sign node iface (x ∷ xs) t own goes = elim (cases_Bool (goes_to sign node iface x)) [
  | inl e ↦ let never : true ≡ false = sym goes ∙ all-last (LeavesLinesTo x) xs t own.0 sign node iface e in cc
  | inr e ↦ rw (e, place-new sign node iface xs t own.1 goes) refl
]

place-push-own : (sign : Sign) (node iface : ℕ) (traces : List Trace) (t : Trace) → goes_to sign node iface t ≡ true
    → place_for sign node iface traces ≡ None → place_for sign node iface (traces ++ t ∷ []) ≡ Some (length traces)
place-push-own sign node iface [] t own none = rw own refl
place-push-own sign node iface (x ∷ xs) t own none = elim (cases_Bool (goes_to sign node iface x)) [
  | inl e ↦ absurd (found_nowhere 0 (rw e at none))
  | inr e ↦ rw (e, place-push-own sign node iface xs t own (not_later (place_for sign node iface xs) (rw e at none))) refl
]
  where
    not_later : (o : Option ℕ) → option_map suc o ≡ None → o ≡ None
    not_later None e = refl
    not_later (Some p) e = cc

place-push-other : (sign : Sign) (node iface : ℕ) (traces : List Trace) (t : Trace) → goes_to sign node iface t ≡ false
    → place_for sign node iface (traces ++ t ∷ []) ≡ place_for sign node iface traces
place-push-other sign node iface [] t other = rw other refl
place-push-other sign node iface (x ∷ xs) t other = elim (cases_Bool (goes_to sign node iface x)) [
  | inl e ↦ rw e refl
  | inr e ↦ rw (e, place-push-other sign node iface xs t other) refl
]

-- a trace that gets a line is noted at its place
finds-own : (sign : Sign) (node iface : ℕ) (traces : List Trace) (t : Trace) (place : ℕ) → HaveOwnLines (traces ++ t ∷ []) → place ≡ length traces
    → goes_to sign node iface t ≡ true → Some place ≡ place_for sign node iface (traces ++ t ∷ [])
finds-own sign node iface traces t place own at goes =
    ap Some at ∙ sym (place-push-own sign node iface traces t goes (place-new sign node iface traces t own goes))

-- one more capture is noted
pub finds-packets : (before after : Places) (traces : List Trace) (c : Capture) (place : ℕ) → FindsPlaces before traces
    → HaveOwnLines (traces ++ Packets c ∷ []) → place ≡ length traces → after.text ≡ before.text
    → ((key : ℕ × ℕ) → get same_interface after.captured key ≡ cond (same_interface (c.node.0, c.iface) key) (Some place) (get same_interface before.captured key))
    → FindsPlaces after (traces ++ Packets c ∷ [])
finds-packets before after traces c place found own at text updates sign node iface = elim (cases_Bool (is_save sign)) [
  | inl save ↦
      let noted_now : noted after sign node iface ≡ get same_interface after.captured (node, iface) = rw save refl in
      let noted_then : noted before sign node iface ≡ get same_interface before.captured (node, iface) = rw save refl in
      elim (cases_Bool (is_of node iface c)) [
        | inl e ↦
            let goes : goes_to sign node iface (Packets c) ≡ true = rw (save, e) refl in
            let here : get same_interface after.captured (node, iface) ≡ Some place = updates (node, iface) ∙ rw e refl in
            noted_now ∙ here ∙ finds-own sign node iface traces (Packets c) place own at goes
        | inr e ↦
            let other : goes_to sign node iface (Packets c) ≡ false = rw (save, e) refl in
            let there : get same_interface after.captured (node, iface) ≡ get same_interface before.captured (node, iface) = updates (node, iface) ∙ rw e refl in
            noted_now ∙ there ∙ sym noted_then ∙ found sign node iface ∙ sym (place-push-other sign node iface traces (Packets c) other)
      ]
  | inr told ↦
      let other : goes_to sign node iface (Packets c) ≡ false = rw told refl in
      let noted_now : noted after sign node iface ≡ after.text = rw told refl in
      let noted_then : noted before sign node iface ≡ before.text = rw told refl in
      noted_now ∙ text ∙ sym noted_then ∙ found sign node iface ∙ sym (place-push-other sign node iface traces (Packets c) other)
]

-- the text is noted
pub finds-text : (before after : Places) (traces : List Trace) (place : ℕ) → FindsPlaces before traces → HaveOwnLines (traces ++ Text ∷ [])
    → place ≡ length traces → after.text ≡ Some place → after.captured ≡ before.captured → FindsPlaces after (traces ++ Text ∷ [])
finds-text before after traces place found own at text captured sign node iface = elim (cases_Bool (is_save sign)) [
  | inl save ↦
      let other : goes_to sign node iface Text ≡ false = rw save refl in
      let noted_now : noted after sign node iface ≡ get same_interface after.captured (node, iface) = rw save refl in
      let noted_then : noted before sign node iface ≡ get same_interface before.captured (node, iface) = rw save refl in
      noted_now ∙ ap (λ map. get same_interface map (node, iface)) captured ∙ sym noted_then ∙ found sign node iface
      ∙ sym (place-push-other sign node iface traces Text other)
  | inr told ↦
      let goes : goes_to sign node iface Text ≡ true = rw told refl in
      let noted_now : noted after sign node iface ≡ after.text = rw told refl in
      noted_now ∙ text ∙ finds-own sign node iface traces Text place own at goes
]

-- a place is that of a trace
pub place-within : (sign : Sign) (node iface : ℕ) (traces : List Trace) → IfSome (place_for sign node iface traces) (λ place. place < length traces)
place-within sign node iface [] = tt
place-within sign node iface (t ∷ traces) = elim (cases_Bool (goes_to sign node iface t)) [
  | inl e ↦ rw e (omega arith)
  | inr e ↦ rw e (later (place_for sign node iface traces) (length traces) (place-within sign node iface traces))
]
  where
    later : (o : Option ℕ) (n : ℕ) → IfSome o (λ place. place < n) → IfSome (option_map suc o) (λ place. place < suc n)
    later None n within = tt
    later (Some p) n within = omega (arith, within)

-- all places are noted
pub finds-all : (places : Places) (traces : List Trace) (n : ℕ) → length traces ≤ n → FindsPlaces places (take n traces) → FindsPlaces places traces
finds-all places traces n all found = subst (λ ts. FindsPlaces places ts) (take_all n traces all) found

-- one more head
pub heads-more : (traces : List Trace) (place : ℕ) (t : Trace) (pieces new : List Piece) (piece : Piece) → place < length traces → t ≡ get_or traces place t
    → map (λ (p : Piece). p.items) pieces ≡ map trace_head (take place traces) → new ≡ pieces ++ piece ∷ []
    → piece.items ≡ trace_head t → map (λ (p : Piece). p.items) new ≡ map trace_head (take (place + 1) traces)
heads-more traces place t pieces new piece within is heads pushed head =
    ap (map (λ (p : Piece). p.items)) pushed
    ∙ map-append (λ (p : Piece). p.items) pieces (piece ∷ [])
    ∙ ap (λ all. all ++ piece.items ∷ []) heads
    ∙ ap (λ (bytes : List ℕ). map trace_head (take place traces) ++ bytes ∷ []) head
    ∙ sym (map-append trace_head (take place traces) (t ∷ []))
    ∙ ap (map trace_head) (sym (take_more traces place t within ∙ ap (λ x. take place traces ++ x ∷ []) (sym is)))

-- as many pieces as traces
pub heads-count : (traces : List Trace) (n : ℕ) (pieces : List Piece) → length traces ≤ n
    → map (λ (p : Piece). p.items) pieces ≡ map trace_head (take n traces) → length pieces ≡ length traces
heads-count traces n pieces all heads =
    sym (length-map pieces (λ (p : Piece). p.items)) ∙ ap length heads
    ∙ length-map (take n traces) trace_head ∙ ap length (take_all n traces all)

-- a piece that grows
pub added-at : (pieces : List Piece) (place : ℕ) (old new : Piece) (bytes : List ℕ) → place < length pieces → old ≡ get_or pieces place old
    → new.items ≡ old.items ++ bytes
    → map (λ (p : Piece). p.items) (slice_set pieces place new)
    ≡ slice_set (map (λ (p : Piece). p.items) pieces) place (get_or (map (λ (p : Piece). p.items) pieces) place [] ++ bytes)
added-at [] place old new bytes within is more = absurd (omega arith)
added-at (p ∷ pieces) zero old new bytes within is more =
    ap (λ (b : List ℕ). b ∷ map (λ (q : Piece). q.items) pieces) (more ∙ ap (λ (q : Piece). q.items ++ bytes) is)
added-at (p ∷ pieces) (suc place) old new bytes within is more =
    ap (λ (all : List (List ℕ)). p.items ∷ all) (added-at pieces place old new bytes (omega arith) is more)

-- empty pieces, as many as there are traces
pub empty_pieces : (pieces : List Piece) (traces : List Trace) → length pieces ≡ length traces
    → ((k : ℕ) (d : Piece) → k < length pieces → (get_or pieces k d).items ≡ [])
    → map (λ (p : Piece). p.items) pieces ≡ map (λ (t : Trace). let none : List ℕ = [] in none) traces
empty_pieces [] [] count empty = refl
empty_pieces [] (t ∷ traces) count empty = absurd (omega arith)
empty_pieces (p ∷ pieces) [] count empty = absurd (omega arith)
empty_pieces (p ∷ pieces) (t ∷ traces) count empty =
    ap (λ (bytes : List ℕ). bytes ∷ map (λ (q : Piece). q.items) pieces) (empty 0 p (omega arith))
    ∙ ap (λ (all : List (List ℕ)). [] ∷ all) (empty_pieces pieces traces (omega arith) (λ k d within. empty (suc k) d (omega arith)))
