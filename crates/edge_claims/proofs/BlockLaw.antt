-- The law of the block model. Between its edges every place holds a byte, and beyond them every place is free.
use Rattle.std.proofs.Common.{◌≡◌, ◌≢◌, ℕ, zero, suc, ◌+◌, ◌-◌, ◌<◌, ◌≤◌, ◌⊎◌, ⊎_elim, List, [], ◌∷◌, ◌++◌, map, length, length-append, take, take_all, drop, set, replicate, slice_range, refl, sym, ap, subst, ◌∙◌, Bool, false, true, arith}
use Rattle.std.proofs.lemmas.List.{append_assoc, map-append, take-map, drop-map, take-replicate, drop-replicate, take-append-le, drop-append-le, length-map, length-replicate}
use Rattle.std.proofs.Math.Seq.{take-append-add, drop-append-add}
use mathlib.Core.Option.{Option, none, some, some-injective, some-ne-none}
use mathlib.Core.Logic.{dite}
use native.Mathlib.Decide.{ℕ_discrete}
use lib.ListN.{get_elem?}
use Rattle.atomic_table.proofs.Lists.{at_set, at_snoc}
use Rattle.bytes.proofs.Ranges.{slice_range_grown, drop-slice_range}
use Rattle.edge_claims.specs.BlockModel.{filled, ModelWindow, BlockModel, Event, made, with_window, with_front, with_back, Steps, Runs, HoldsBytes, FillsFree, BlockLaw}
use Rattle.edge_claims.specs.BlockModel.Event.{copies, grows_front, grows_back, trims_front, trims_back, drops}

abbrev free : Option ℕ
free = none

module _ {A : Type 0} where
  -- a part of the second list, and a part of the first
  pub slice_behind : (xs ys : List A) (n s e : ℕ) → length xs ≡ n → n ≤ s → slice_range (xs ++ ys) s e ≡ slice_range ys (s - n) (e - n)
  slice_behind xs ys n s e long past =
      let from : s ≡ length xs + (s - n) = omega (arith, long, past) in
      let size : e - s ≡ e - n - (s - n) = omega (arith, past) in
      ap (λ k. take (e - s) (drop k (xs ++ ys))) from ∙ ap (take (e - s)) (drop-append-add xs ys (s - n)) ∙ ap (λ k. take k (drop (s - n) ys)) size

  pub slice_before : (xs ys : List A) (s e : ℕ) → s ≤ e → e ≤ length xs → slice_range (xs ++ ys) s e ≡ slice_range xs s e
  slice_before xs ys s e ordered within =
      ap (take (e - s)) (drop-append-le s xs ys (omega (arith, ordered, within))) ∙ take-append-le (e - s) (drop s xs) ys (omega (arith, ordered, within, Rattle.std.proofs.Common.length-drop s xs))

  pub slice_map : {B : Type 0} (f : A → B) (xs : List A) (s e : ℕ) → slice_range (map f xs) s e ≡ map f (slice_range xs s e)
  slice_map f xs s e = ap (take (e - s)) (drop-map f s xs) ∙ take-map f (e - s) (drop s xs)

-- the window's bytes are its part of what lies between the edges
record Within (low : ℕ) (mid : List ℕ) (w : ModelWindow) : Type 0 where
  from : low ≤ w.start
  size : w.start + length w.bytes ≡ w.end
  upto : w.end ≤ low + length mid
  bytes : w.bytes ≡ slice_range mid (w.start - low) (w.end - low)

record Filled (c : BlockModel) : Type 0 where
  mid : List ℕ
  back : ℕ
  places : c.places ≡ replicate c.low none ++ (map some mid ++ replicate back none)
  edges : c.low + length mid ≡ c.high
  each : (i : ℕ) (w : ModelWindow) → get_elem? c.windows i ≡ some w → Within c.low mid w

-- as many places as there are
abbrev count : (c : BlockModel) (f : Filled c) → length c.places ≡ c.low + (length f.mid + f.back)
count c f =
    ap length f.places ∙ length-append (replicate c.low none) (map some f.mid ++ replicate f.back none)
    ∙ (λ i. length-replicate c.low free i + length-append (map some f.mid) (replicate f.back none) i)
    ∙ (λ i. c.low + (length-map f.mid some i + length-replicate f.back free i))

filled_size : (at : ℕ) (bs : List ℕ) (ps : List (Option ℕ)) → at + length bs ≤ length ps → length (filled at bs ps) ≡ length ps
filled_size at bs ps fits =
    let whole = length-append (take at ps) (map some bs ++ drop (at + length bs) ps) in
    let behind = length-append (map some bs) (drop (at + length bs) ps) in
    let front : length (take at ps) ≡ at = Rattle.std.proofs.Common.length-take-le at ps (omega (arith, fits)) in
    let middle : length (map some bs) ≡ length bs = length-map bs some in
    let last : length (drop (at + length bs) ps) ≡ length ps - (at + length bs) = Rattle.std.proofs.Common.length-drop (at + length bs) ps in
    omega (arith, whole, behind, front, middle, last, fits)

holds : (c : BlockModel) → Filled c → HoldsBytes c
holds c f i w at =
    let x = f.each i w at in
    let rest : List (Option ℕ) = replicate f.back none in
    let ordered : w.start - c.low ≤ w.end - c.low = omega (arith, x.size) in
    let within : w.end - c.low ≤ length (map some f.mid) = subst (λ n. w.end - c.low ≤ n) (sym (length-map f.mid some)) (omega (arith, x.upto)) in
    ap (λ ps. slice_range ps w.start w.end) f.places
    ∙ slice_behind (replicate c.low none) (map some f.mid ++ rest) c.low w.start w.end (length-replicate c.low none) x.from
    ∙ slice_before (map some f.mid) rest (w.start - c.low) (w.end - c.low) ordered within
    ∙ slice_map some f.mid (w.start - c.low) (w.end - c.low) ∙ ap (map some) (sym x.bytes)

-- a run of free places
free_run : (n a b : ℕ) → a ≤ b → b ≤ n → slice_range (replicate n free) a b ≡ replicate (b - a) none
free_run n a b ordered within = ap (take (b - a)) (drop-replicate a n none) ∙ take-replicate (b - a) (n - a) none (omega (arith, ordered, within))

fills_free : (c : BlockModel) → Filled c → FillsFree c
fills_free c f (copies i) a b h = absurd h
fills_free c f (trims_front i n) a b h = absurd h
fills_free c f (trims_back i n) a b h = absurd h
fills_free c f (drops i) a b h = absurd h
fills_free c f (grows_front i bs) a b (w, lives, edge, fits, from, upto) =
    let within : b ≤ c.low = omega (arith, edge, upto) in
    let ordered : a ≤ b = omega (arith, from, upto) in
    ap (λ ps. slice_range ps a b) f.places
    ∙ slice_before (replicate c.low none) (map some f.mid ++ replicate f.back none) a b ordered (subst (λ n. b ≤ n) (sym (length-replicate c.low none)) within)
    ∙ free_run c.low a b ordered within
fills_free c f (grows_back i bs) a b (w, lives, edge, fits, from, upto) =
    let rest : List (Option ℕ) = replicate f.back none in
    let size = count c f in
    let start : a - c.low - length f.mid ≡ 0 = omega (arith, from, edge, f.edges) in
    let end : b - c.low - length f.mid ≡ b - a = omega (arith, from, upto, edge, f.edges) in
    ap (λ ps. slice_range ps a b) f.places
    ∙ slice_behind (replicate c.low none) (map some f.mid ++ rest) c.low a b (length-replicate c.low none) (omega (arith, from, edge, f.edges))
    ∙ slice_behind (map some f.mid) rest (length f.mid) (a - c.low) (b - c.low) (length-map f.mid some) (omega (arith, from, edge, f.edges))
    ∙ (λ k. slice_range rest (start k) (end k))
    ∙ free_run f.back 0 (b - a) (omega arith) (omega (arith, fits, from, upto, edge, f.edges, size))
    ∙ (let all : b - a - 0 ≡ b - a = omega arith in ap (λ k. replicate k free) all)

-- one window changes, and the rest of the model stays
with_window_filled : (c : BlockModel) (i : ℕ) (w : ModelWindow) (f : Filled c) → Within c.low f.mid w → Filled (with_window c i w)
with_window_filled c i w f x = record {
  mid = f.mid;
  back = f.back;
  places = f.places;
  edges = f.edges;
  each = λ j u e. ⊎_elim (λ same. subst (Within c.low f.mid) same.1 x) (λ other. f.each j u other.1) (at_set c.windows i j w u e);
}

front_filled : (c : BlockModel) (i : ℕ) (w : ModelWindow) (bs : List ℕ) → Filled c → get_elem? c.windows i ≡ some w → length bs ≤ w.start → w.start ≡ c.low → Filled (with_front c i w bs)
front_filled c i w bs f at fits edge =
    let n = length bs in
    let low = w.start - n in
    let rest = map some f.mid ++ replicate f.back none in
    let x = f.each i w at in
    let upto : low + n ≡ length (replicate c.low free) + 0 = ap (λ k. k) (omega (arith, edge, fits)) ∙ ap (λ k. k + 0) (sym (length-replicate c.low none)) in
    let front : take low c.places ≡ replicate low none =
    ap (take low) f.places ∙ take-append-le low (replicate c.low none) rest (subst (λ k. low ≤ k) (sym (length-replicate c.low none)) (omega (arith, edge)))
    ∙ take-replicate low c.low none (omega (arith, edge)) in
    let behind : drop (low + n) c.places ≡ rest = (λ k. drop (upto k) (f.places k)) ∙ drop-append-add (replicate c.low none) rest 0 in
    let shift : (u : ModelWindow) → Within c.low f.mid u → Within low (bs ++ f.mid) u = λ u y. record {
      from = omega (arith, y.from, edge);
      size = y.size;
      upto = omega (arith, y.upto, edge, fits, length-append bs f.mid);
      bytes = y.bytes ∙ sym (slice_behind bs f.mid n (u.start - low) (u.end - low) refl (omega (arith, y.from, edge, fits))
          ∙ (let s : u.start - low - n ≡ u.start - c.low = omega (arith, edge, fits) in let e : u.end - low - n ≡ u.end - c.low = omega (arith, edge, fits) in λ k. slice_range f.mid (s k) (e k)));
    } in
    let grown : ModelWindow = record { start = low; end = w.end; bytes = bs ++ w.bytes; dropped = false } in
    let mine : Within low (bs ++ f.mid) grown = record {
      from = omega arith;
      size = omega (arith, x.size, fits, length-append bs w.bytes);
      upto = omega (arith, x.upto, edge, fits, length-append bs f.mid);
      bytes = front_joined bs f.mid w.bytes (low - low) (w.start - c.low) (w.end - low) (w.end - c.low) (omega arith) (omega (arith, edge)) (omega (arith, edge, fits, x.size)) x.bytes;
    } in
    record {
      mid = bs ++ f.mid;
      back = f.back;
      places = (λ k. front k ++ (map some bs ++ behind k))
          ∙ ap (λ l. replicate low none ++ l) (sym (append_assoc (map some bs) (map some f.mid) (replicate f.back none)) ∙ ap (λ l. l ++ replicate f.back none) (sym (map-append some bs f.mid)));
      edges = omega (arith, f.edges, edge, fits, length-append bs f.mid);
      each = λ j u e. ⊎_elim (λ same. subst (Within low (bs ++ f.mid)) same.1 mine) (λ other. shift u (f.each j u other.1)) (at_set c.windows i j grown u e);
    }
  where
    front_joined : (bs xs ys : List ℕ) (s s' e e' : ℕ) → s ≡ 0 → s' ≡ 0 → e ≡ length bs + e' → ys ≡ slice_range xs s' e' → bs ++ ys ≡ slice_range (bs ++ xs) s e
    front_joined bs xs ys s s' e e' p p' q h =
        ap (λ l. bs ++ l) (h ∙ (λ k. slice_range xs (p' k) e')) ∙ sym (take-append-add bs xs (e' - 0))
        ∙ (let size : length bs + (e' - 0) ≡ e - s = omega (arith, p, q) in λ k. take (size k) (drop (sym p k) (bs ++ xs)))

back_filled : (c : BlockModel) (i : ℕ) (w : ModelWindow) (bs : List ℕ) → Filled c → get_elem? c.windows i ≡ some w → w.end + length bs ≤ length c.places → w.end ≡ c.high → Filled (with_back c i w bs)
back_filled c i w bs f at fits edge =
    let n = length bs in
    let x = f.each i w at in
    let size = count c f in
    let left = f.back - n in
    let given = replicate c.low none ++ map some f.mid in
    let rest = replicate f.back free in
    let whole : c.places ≡ given ++ rest = f.places ∙ sym (append_assoc (replicate c.low none) (map some f.mid) rest) in
    let long : length given ≡ w.end = length-append (replicate c.low none) (map some f.mid) ∙ (λ k. length-replicate c.low free k + length-map f.mid some k) ∙ f.edges ∙ sym edge in
    let front : take w.end c.places ≡ given =
    ap (take w.end) whole ∙ take-append-le w.end given rest (omega (arith, long)) ∙ take_all w.end given (omega (arith, long)) in
    let behind : drop (w.end + n) c.places ≡ replicate left none =
    (let there : w.end + n ≡ length given + n = omega (arith, long) in λ k. drop (there k) (whole k)) ∙ drop-append-add given rest n ∙ drop-replicate n f.back none in
    let shift : (u : ModelWindow) → Within c.low f.mid u → Within c.low (f.mid ++ bs) u = λ u y. record {
      from = y.from;
      size = y.size;
      upto = omega (arith, y.upto, length-append f.mid bs);
      bytes = y.bytes ∙ sym (slice_before f.mid bs (u.start - c.low) (u.end - c.low) (omega (arith, y.size)) (omega (arith, y.upto)));
    } in
    let grown : ModelWindow = record { start = w.start; end = w.end + n; bytes = w.bytes ++ bs; dropped = false } in
    let last : w.end - c.low ≡ length f.mid = omega (arith, edge, f.edges) in
    let upto : w.end + n - c.low ≡ length f.mid + n = omega (arith, edge, f.edges) in
    let mine : Within c.low (f.mid ++ bs) grown = record {
      from = x.from;
      size = omega (arith, x.size, length-append w.bytes bs);
      upto = omega (arith, x.upto, edge, f.edges, length-append f.mid bs);
      bytes = ap (λ l. l ++ bs) x.bytes ∙ sym ((λ k. slice_range (f.mid ++ bs) (w.start - c.low) (upto k))
          ∙ slice_range_grown f.mid (f.mid ++ bs) bs (w.start - c.low) (w.end - c.low) (length f.mid + n) (omega (arith, x.size)) (omega (arith, last))
          (take_all (length f.mid + n) (f.mid ++ bs) (omega (arith, length-append f.mid bs)) ∙ ap (λ l. l ++ bs) (sym (take_all (w.end - c.low) f.mid (omega (arith, last))))));
    } in
    record {
      mid = f.mid ++ bs;
      back = left;
      places = (λ k. front k ++ (map some bs ++ behind k))
          ∙ append_assoc (replicate c.low none) (map some f.mid) (map some bs ++ replicate left none)
          ∙ ap (λ l. replicate c.low none ++ l) (sym (append_assoc (map some f.mid) (map some bs) (replicate left none)) ∙ ap (λ l. l ++ replicate left none) (sym (map-append some f.mid bs)));
      edges = omega (arith, f.edges, edge, length-append f.mid bs);
      each = λ j u e. ⊎_elim (λ same. subst (Within c.low (f.mid ++ bs)) same.1 mine) (λ other. shift u (f.each j u other.1)) (at_set c.windows i j grown u e);
    }

step_fills : (c d : BlockModel) (e : Event) → Filled c → Steps c e d → Filled d
step_fills c d (copies i) f (w, lives, is) = subst Filled (sym is) (record {
  mid = f.mid;
  back = f.back;
  places = f.places;
  edges = f.edges;
  each = λ j u e. ⊎_elim (λ old. f.each j u old) (λ new. subst (Within c.low f.mid) new (f.each i w lives.0)) (at_snoc c.windows w u j e);
})
step_fills c d (grows_front i bs) f (w, lives, some_bytes, fits, wins, loses) =
    dite (ℕ_discrete w.start c.low) (λ hit. subst Filled (sym (wins hit)) (front_filled c i w bs f lives.0 fits hit)) (λ miss. subst Filled (sym (loses miss)) f)
step_fills c d (grows_back i bs) f (w, lives, some_bytes, fits, wins, loses) =
    dite (ℕ_discrete w.end c.high) (λ hit. subst Filled (sym (wins hit)) (back_filled c i w bs f lives.0 fits hit)) (λ miss. subst Filled (sym (loses miss)) f)
step_fills c d (trims_front i n) f (w, lives, fits, is) =
    let x = f.each i w lives.0 in
    let size : length (drop n w.bytes) ≡ length w.bytes - n = Rattle.std.proofs.Common.length-drop n w.bytes in
    let start : w.start - c.low + n ≡ w.start + n - c.low = omega (arith, x.from) in
    subst Filled (sym is) (with_window_filled c i (record { start = w.start + n; end = w.end; bytes = drop n w.bytes; dropped = false }) f (record {
      from = omega (arith, x.from);
      size = omega (arith, x.size, size, fits);
      upto = x.upto;
      bytes = ap (drop n) x.bytes ∙ drop-slice_range f.mid (w.start - c.low) (w.end - c.low) n (omega (arith, x.from, x.size, fits)) ∙ ap (λ s. slice_range f.mid s (w.end - c.low)) start;
    }))
step_fills c d (trims_back i n) f (w, lives, fits, is) =
    let x = f.each i w lives.0 in
    let left = length w.bytes - n in
    let size : length (take left w.bytes) ≡ left = Rattle.std.proofs.Common.length-take-le left w.bytes (omega arith) in
    let span : left ≡ w.end - n - c.low - (w.start - c.low) = omega (arith, x.from, x.size, fits) in
    let less : left ≤ w.end - c.low - (w.start - c.low) = omega (arith, x.from, x.size, fits) in
    subst Filled (sym is) (with_window_filled c i (record { start = w.start; end = w.end - n; bytes = take left w.bytes; dropped = false }) f (record {
      from = x.from;
      size = omega (arith, x.size, size, fits);
      upto = omega (arith, x.upto);
      bytes = ap (take left) x.bytes ∙ Rattle.std.proofs.lemmas.List.take-take left (w.end - c.low - (w.start - c.low)) (drop (w.start - c.low) f.mid) less ∙ ap (λ k. take k (drop (w.start - c.low) f.mid)) span;
    }))
step_fills c d (drops i) f (w, lives, is) =
    let x = f.each i w lives.0 in
    subst Filled (sym is) (with_window_filled c i (record { start = w.start; end = w.end; bytes = w.bytes; dropped = true }) f (record { from = x.from; size = x.size; upto = x.upto; bytes = x.bytes }))

runs_fill : (es : List Event) (c d : BlockModel) → Filled c → Runs c es d → Filled d
runs_fill [] c d f is = subst Filled (sym is) f
runs_fill (e ∷ es) c d f (m, first, others) = runs_fill es m d (step_fills c m e f first) others

only : (v u : ModelWindow) (i : ℕ) → get_elem? (v ∷ []) i ≡ some u → v ≡ u
only v u zero e = some-injective v u e
only v u (suc i) e = absurd (some-ne-none u (sym e))

made_filled : (front : ℕ) (bs : List ℕ) (back : ℕ) → Filled (made front bs back)
made_filled front bs back = record {
  mid = bs;
  back = back;
  places = refl;
  edges = refl;
  each = λ i u e. subst (Within front bs) (only (record { start = front; end = front + length bs; bytes = bs; dropped = false }) u i e) (record {
    from = omega arith;
    size = refl;
    upto = omega arith;
    bytes = sym (take_all (front + length bs - front - (front - front)) (drop (front - front) bs) (omega (arith, Rattle.std.proofs.Common.length-drop (front - front) bs)) ∙ (let none_cut : front - front ≡ 0 = omega arith in ap (λ k. drop k bs) none_cut));
  });
}

pub block_law : BlockLaw
block_law front back bs es c runs = let f = runs_fill es (made front bs back) c (made_filled front bs back) runs in (holds c f, fills_free c f)

-- a block keeps its number of places
step_size : (c d : BlockModel) (e : Event) → Filled c → Steps c e d → length d.places ≡ length c.places
step_size c d (copies i) f (w, lives, is) = ap (λ x. length x.places) is
step_size c d (trims_front i n) f (w, lives, fits, is) = ap (λ x. length x.places) is
step_size c d (trims_back i n) f (w, lives, fits, is) = ap (λ x. length x.places) is
step_size c d (drops i) f (w, lives, is) = ap (λ x. length x.places) is
step_size c d (grows_front i bs) f (w, lives, some_bytes, fits, wins, loses) =
    dite (ℕ_discrete w.start c.low)
    (λ hit. ap (λ x. length x.places) (wins hit) ∙ filled_size (w.start - length bs) bs c.places (omega (arith, fits, hit, count c f)))
    (λ miss. ap (λ x. length x.places) (loses miss))
step_size c d (grows_back i bs) f (w, lives, some_bytes, fits, wins, loses) =
    dite (ℕ_discrete w.end c.high) (λ hit. ap (λ x. length x.places) (wins hit) ∙ filled_size w.end bs c.places fits) (λ miss. ap (λ x. length x.places) (loses miss))

runs_size : (es : List Event) (c d : BlockModel) → Filled c → Runs c es d → length d.places ≡ length c.places
runs_size [] c d f is = ap (λ x. length x.places) is
runs_size (e ∷ es) c d f (m, first, others) = runs_size es m d (step_fills c m e f first) others ∙ step_size c m e f first

pub block_size : (front back : ℕ) (bs : List ℕ) (es : List Event) (c : BlockModel) → Runs (made front bs back) es c → length c.places ≡ front + (length bs + back)
unfolding made_filled
block_size front back bs es c runs =
    let f = made_filled front bs back in
    runs_size es (made front bs back) c f runs ∙ count (made front bs back) f

-- one step more
pub runs_more : (es : List Event) (e : Event) (c m d : BlockModel) → Runs c es m → Steps m e d → Runs c (es ++ e ∷ []) d
runs_more [] e c m d is step = (d, subst (λ x. Steps x e d) is step, refl)
runs_more (x ∷ es) e c m d (n, first, others) step = (n, first, runs_more es e n m d others step)
