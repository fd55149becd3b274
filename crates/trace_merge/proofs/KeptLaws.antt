-- Lines that are kept one by one.
use Rattle.std.proofs.Common.{◌≡◌, ℕ, ◌≤◌, Bool, true, false, List, [], ◌++◌, map, take, drop, refl, ap, sym, ◌∙◌, append_assoc, append-nil, subst, length}
use Rattle.std.proofs.lemmas.List.{map-append, take-append-drop, take_all}
use Rattle.sim_base.specs.Packet.{Packet}
use Rattle.pkt_face.specs.declared.line.Line.{Line}
use Rattle.trace_merge.specs.declared.kept.KeptLine.{KeptLine}
use Rattle.trace_merge.specs.Kept.{kept_of, AreKept}
use Rattle.pkt_face.specs.Seen.{plain_line}

-- what is kept of lines that come behind others, the first of which are kept now
kept-append : (start : List KeptLine) (before first rest : List (Line Packet)) (was : List KeptLine) → AreKept false start was before
    → start ++ map kept_of (before ++ (first ++ rest)) ≡ (was ++ map kept_of first) ++ map kept_of rest
kept-append start before first rest was held =
    ap (λ xs. start ++ xs) (map-append kept_of before (first ++ rest))
    ∙ sym (append_assoc start (map kept_of before) (map kept_of (first ++ rest)))
    ∙ ap (λ xs. xs ++ map kept_of (first ++ rest)) (held.are ∙ ap (λ xs. was ++ xs) (held.whole refl) ∙ append-nil was)
    ∙ ap (λ xs. was ++ xs) (map-append kept_of first rest)
    ∙ sym (append_assoc was (map kept_of first) (map kept_of rest))

-- the first of more lines are kept, and a put has failed
pub kept-stopped : {P : Type 0} (plain : P → Packet) (start : List KeptLine) (before : List (Line Packet)) (lines : List (Line P)) (n : ℕ)
    (was kept : List KeptLine) (was_failed : Bool) → was_failed ≡ false → kept ≡ was ++ map kept_of (map (plain_line plain) (take n lines))
    → AreKept was_failed start was before → AreKept true start kept (before ++ map (plain_line plain) lines)
kept-stopped plain start before lines n was kept was_failed going now held =
    let first = map (plain_line plain) (take n lines) in
    let rest = map (plain_line plain) (drop n lines) in
    let whole : map (plain_line plain) lines ≡ first ++ rest =
    ap (map (plain_line plain)) (sym (take-append-drop n lines)) ∙ map-append (plain_line plain) (take n lines) (drop n lines) in
    record {
      rest = map kept_of rest;
      are = ap (λ ls. start ++ map kept_of (before ++ ls)) whole
          ∙ kept-append start before first rest was (subst (λ (b : Bool). AreKept b start was before) going held)
          ∙ ap (λ xs. xs ++ map kept_of rest) (sym now);
      whole = λ never. cc;
    }

-- all of more lines are kept
pub kept-all : {P : Type 0} (plain : P → Packet) (start : List KeptLine) (before : List (Line Packet)) (lines : List (Line P)) (n : ℕ)
    (was kept : List KeptLine) (was_failed : Bool) → length lines ≤ n → was_failed ≡ false
    → kept ≡ was ++ map kept_of (map (plain_line plain) (take n lines))
    → AreKept was_failed start was before → AreKept false start kept (before ++ map (plain_line plain) lines)
kept-all plain start before lines n was kept was_failed all going now held =
    let more = map (plain_line plain) lines in
    let now_all = now ∙ ap (λ ls. was ++ map kept_of (map (plain_line plain) ls)) (take_all n lines all) in
    record {
      rest = [];
      are = ap (λ ls. start ++ map kept_of (before ++ ls)) (sym (append-nil more))
          ∙ kept-append start before more [] was (subst (λ (b : Bool). AreKept b start was before) going held)
          ∙ ap (λ xs. xs ++ []) (sym now_all);
      whole = λ going_on. refl;
    }
