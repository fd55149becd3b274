-- What groups leave: lists of lines that aren't empty, and events for one another.
use Rattle.std.specs.List.{AllByRecursion}
use Rattle.std.proofs.Common.{◌≡◌, ◌≢◌, ◌⊎◌, ◌+◌, ◌<◌, ◌≤◌, ℕ, zero, suc, true, List, [], ◌∷◌, ◌++◌, Vec, length, map, take, Option, Some, None, slice_get, get_or, refl, sym, ap, ◌∙◌, subst, arith, inl, inr}
use Rattle.std.specs.Global.{Global}
use Rattle.std.proofs.lemmas.Grind.{flat_map-append}
use Rattle.std.proofs.lemmas.List.{append-nil, length-map, take_all, take_more}
use Rattle.std.proofs.lemmas.Option.{slice_get-get_or}
use Rattle.sim_base.specs.Packet.{Packet}
use Rattle.sim_base.specs.declared.key.Key.{Key}
use Rattle.sim_base.specs.KeyOrder.{earlier}
use Rattle.pkt_face.specs.declared.line.Line.{Line}
use Rattle.pkt_face.specs.Seen.{plain_line}
use Rattle.round_core.specs.Parts.{IsIn}
use Rattle.lp_run.specs.Lp.{PlainLp}
use Rattle.trace_merge.specs.Merge.{AreGroups, IsInSome, IsMerged, LinesRise, is_below, place}
use Rattle.round_kernel.specs.Left.{full, full_lines, lines_in, lps_of, plain_lists, sends_in}
use Rattle.round_kernel.specs.Rounds.{all_sends, sends_at}
use Rattle.round_kernel.specs.Window.{Gone}
use Rattle.round_kernel.proofs.GroupLists.{at-group}
use Rattle.round_kernel.proofs.RoundLaws.{empty_lp}
use Rattle.round_kernel.proofs.TraceLines.{in-mapped, mapped-in}

-- lists that are empty have no line
pub to-full : (l : Line Packet) (groups : List Gone) → IsInSome l (lines_in groups) → IsInSome l (full_lines groups)
to-full l [] i = absurd i
to-full l (g ∷ gs) i = go (to-full l gs) g.0.lines i
  where
    go : (IsInSome l (lines_in gs) → IsInSome l (full_lines gs)) → (lines : List (Line Packet)) → IsIn l lines ⊎ IsInSome l (lines_in gs) →
        IsInSome l (full lines ++ full_lines gs)
    go rest [] (inl none) = absurd none
    go rest [] (inr i) = rest i
    go rest (x ∷ xs) (inl i) = inl i
    go rest (x ∷ xs) (inr i) = inr (rest i)

pub from-full : (l : Line Packet) (groups : List Gone) → IsInSome l (full_lines groups) → IsInSome l (lines_in groups)
from-full l [] i = absurd i
from-full l (g ∷ gs) i = go (from-full l gs) g.0.lines i
  where
    go : (IsInSome l (full_lines gs) → IsInSome l (lines_in gs)) → (lines : List (Line Packet)) → IsInSome l (full lines ++ full_lines gs) →
        IsIn l lines ⊎ IsInSome l (lines_in gs)
    go rest [] i = inr (rest i)
    go rest (x ∷ xs) (inl i) = inl i
    go rest (x ∷ xs) (inr i) = inr (rest i)

pub full-groups : (groups : List Gone) → AreGroups (lines_in groups) → AreGroups (full_lines groups)
full-groups [] are = tt
full-groups (g ∷ gs) are = go (full-groups gs) g.0.lines are
  where
    go : (AreGroups (lines_in gs) → AreGroups (full_lines gs)) → (lines : List (Line Packet)) → LinesRise lines × ((x y : Line Packet) → IsIn x lines → IsInSome y (lines_in gs) → place x ≢ place y) × AreGroups (lines_in gs) →
        AreGroups (full lines ++ full_lines gs)
    go rest [] h = rest h.2
    go rest (x ∷ xs) h = (h.0, λ a b i j. h.1 a b i (from-full b gs j), rest h.2)

pub merged-full : (groups : List Gone) (limit : Option Key) (lines : List (Line Packet)) → IsMerged (full_lines groups) limit lines →
    IsMerged (lines_in groups) limit lines
merged-full groups limit lines is = record {
  rise = is.rise;
  members = λ l. (
    (λ i. let both = (is.members l).0 i in (from-full l groups both.0, both.1)),
    (λ both. (is.members l).1 (to-full l groups both.0, both.1)),
  );
}

module _ {P : Type 0} (plain : P → Packet) where
  abbrev seen : Line P → Line Packet
  seen = plain_line plain

  all-seen : (x : Line P) (ys : List (Line P)) → AllByRecursion (λ y. earlier (place x) (place y) ≡ true) ys →
      AllByRecursion (λ y. earlier (place (seen x)) (place y) ≡ true) (map seen ys)
  all-seen x [] all = tt
  all-seen x (y ∷ ys) all = (all.0, all-seen x ys all.1)

  seen-all : (x : Line P) (ys : List (Line P)) → AllByRecursion (λ y. earlier (place (seen x)) (place y) ≡ true) (map seen ys) →
      AllByRecursion (λ y. earlier (place x) (place y) ≡ true) ys
  seen-all x [] all = tt
  seen-all x (y ∷ ys) all = (all.0, seen-all x ys all.1)

  rise-seen : (xs : List (Line P)) → LinesRise xs → LinesRise (map seen xs)
  rise-seen [] rise = tt
  rise-seen (x ∷ xs) rise = (all-seen x xs rise.0, rise-seen xs rise.1)

  seen-rise : (xs : List (Line P)) → LinesRise (map seen xs) → LinesRise xs
  seen-rise [] rise = tt
  seen-rise (x ∷ xs) rise = (seen-all x xs rise.0, seen-rise xs rise.1)

  abbrev pub own_lists : List (Vec (Line P) Global) → List (List (Line P))
  own_lists lists = map (λ list. list.items) lists

  some-seen : (l : Line P) (lists : List (Vec (Line P) Global)) → IsInSome l (own_lists lists) → IsInSome (seen l) (plain_lists plain lists)
  some-seen l [] i = absurd i
  some-seen l (v ∷ vs) (inl i) = inl (mapped-in seen v.items l i)
  some-seen l (v ∷ vs) (inr i) = inr (some-seen l vs i)

  seen-some : (l : Line Packet) (lists : List (Vec (Line P) Global)) → IsInSome l (plain_lists plain lists) →
      (x : Line P) × IsInSome x (own_lists lists) × (l ≡ seen x)
  seen-some l [] i = absurd i
  seen-some l (v ∷ vs) (inl i) = let there = in-mapped seen v.items l i in (there.0, inl there.1, there.2)
  seen-some l (v ∷ vs) (inr i) = let there = seen-some l vs i in (there.0, inr there.1, there.2)

  -- lines stand apart as they are seen
  pub own-groups : (lists : List (Vec (Line P) Global)) → AreGroups (plain_lists plain lists) → AreGroups (own_lists lists)
  own-groups [] are = tt
  own-groups (v ∷ vs) are = (
    seen-rise v.items are.0,
    λ x y i j. are.1 (seen x) (seen y) (mapped-in seen v.items x i) (some-seen y vs j),
    own-groups vs are.2,
  )

  below-seen : (limit : Option Key) (x : Line P) → is_below limit (seen x) ≡ is_below limit x
  below-seen None x = refl
  below-seen (Some key) x = refl

  -- and are merged as they are seen
  pub merged-seen : (lists : List (Vec (Line P) Global)) (limit : Option Key) (lines : List (Line P)) → IsMerged (own_lists lists) limit lines →
      IsMerged (plain_lists plain lists) limit (map seen lines)
  merged-seen lists limit lines is = record {
    rise = rise-seen lines is.rise;
    members = λ l. (to l, from l);
  }
    where
      to : (l : Line Packet) → IsIn l (map seen lines) → IsInSome l (plain_lists plain lists) × (is_below limit l ≡ true)
      to l i =
          let there = in-mapped seen lines l i in
          let both = (is.members there.0).0 there.1 in (
            subst (λ (x : Line Packet). IsInSome x (plain_lists plain lists)) (sym there.2) (some-seen there.0 lists both.0),
            ap (is_below limit) there.2 ∙ below-seen limit there.0 ∙ both.1,
          )

      from : (l : Line Packet) → IsInSome l (plain_lists plain lists) × (is_below limit l ≡ true) → IsIn l (map seen lines)
      from l both =
          let there = seen-some l lists both.0 in
          let low : is_below limit there.0 ≡ true = sym (below-seen limit there.0) ∙ ap (is_below limit) (sym there.2) ∙ both.1 in
          subst (λ (x : Line Packet). IsIn x (map seen lines)) (sym there.2) (mapped-in seen lines there.0 ((is.members there.0).1 (there.1, low)))

-- lists of lines by their numbers
pub some-at : (l : Line Packet) (groups : List Gone) → IsInSome l (lines_in groups) →
    (g : ℕ) × (group : Gone) × (slice_get groups g ≡ Some group) × IsIn l group.0.lines
some-at l [] i = absurd i
some-at l (x ∷ xs) (inl i) = (0, x, refl, i)
some-at l (x ∷ xs) (inr i) = let there = some-at l xs i in (suc there.0, there.1, there.2, there.3)

pub at-some : (l : Line Packet) (groups : List Gone) (g : ℕ) (group : Gone) → slice_get groups g ≡ Some group → IsIn l group.0.lines →
    IsInSome l (lines_in groups)
at-some l [] g group there i = absurd (let d : None ≡ Some group = there in cc)
at-some l (x ∷ xs) zero group there i = let same : x ≡ group = (let d : Some x ≡ Some group = there in cc) in
    inl (subst (λ (y : Gone). IsIn l y.0.lines) (sym same) i)
at-some l (x ∷ xs) (suc g) group there i = inr (at-some l xs g group there i)

-- groups whose lines rise, no two of which have a line at one place
pub groups-by : (groups : List Gone) → ((g : ℕ) (group : Gone) → slice_get groups g ≡ Some group → LinesRise group.0.lines) →
    ((g h : ℕ) (one other : Gone) (x y : Line Packet) → g < h → slice_get groups g ≡ Some one → slice_get groups h ≡ Some other →
    IsIn x one.0.lines → IsIn y other.0.lines → place x ≢ place y) → AreGroups (lines_in groups)
groups-by [] rise apart = tt
groups-by (x ∷ xs) rise apart = (
  rise 0 x refl,
  λ a b i j. let there = some-at b xs j in apart 0 (suc there.0) x there.1 a b (omega arith) refl there.2 i there.3,
  groups-by xs (λ g group is. rise (suc g) group is)
      (λ g h one other a b low one_is other_is i j. apart (suc g) (suc h) one other a b (omega arith) one_is other_is i j),
)

sends-more : (groups : List Gone) (n : ℕ) (none : Gone) → n < length groups →
    sends_in (take (n + 1) groups) ≡ sends_in (take n groups) ++ (get_or groups n none).0.sends
sends-more groups n none low =
    ap sends_in (take_more groups n none low) ∙ flat_map-append (λ (group : Gone). group.0.sends) (take n groups) (get_or groups n none ∷ [])
    ∙ ap (λ l. sends_in (take n groups) ++ l) (append-nil (get_or groups n none).0.sends)

-- what all have sent, group by group
sends-to : (groups : List Gone) (none : Gone) (n : ℕ) → n ≤ length groups → all_sends (lps_of groups) n ≡ sends_in (take n groups)
sends-to groups none zero low = take-none groups
  where
    take-none : (xs : List Gone) → [] ≡ sends_in (take 0 xs)
    take-none [] = refl
    take-none (x ∷ xs) = refl
sends-to groups none (suc n) low =
    let at = at-group groups n (get_or groups n none) (slice_get-get_or groups n none (omega arith)) in
    let more = sends-more groups n none (omega arith) in
    let s : n + 1 ≡ suc n = omega arith in
    ap (λ l. l ++ sends_at (slice_get (lps_of groups) n)) (sends-to groups none n (omega arith))
    ∙ ap (λ (o : Option PlainLp). sends_in (take n groups) ++ sends_at o) at
    ∙ sym more ∙ ap (λ (k : ℕ). sends_in (take k groups)) s

pub sends-are : (groups : List Gone) → all_sends (lps_of groups) (length (lps_of groups)) ≡ sends_in groups
sends-are groups =
    let l = length-map groups (λ (x : Gone). x.0) in
    ap (all_sends (lps_of groups)) l ∙ sends-to groups (empty_lp, None) (length groups) (omega arith) ∙ ap sends_in (take_all (length groups) groups (omega arith))
