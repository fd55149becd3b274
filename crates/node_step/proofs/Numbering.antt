-- One more event, and one more line.
use Rattle.std.proofs.Common.{◌≡◌, ℕ, ◌+◌, suc, List, [], ◌∷◌, ◌++◌, map, length, arith, ap, ◌∙◌, sym}
use Rattle.std.proofs.lemmas.List.{map-append, length-map}
use Rattle.sim_base.specs.declared.key.Key.{Key}
use Rattle.sim_base.specs.Packet.{Packet}
use Rattle.pkt_face.specs.declared.line.Line.{Line}
use Rattle.node_step.specs.declared.loads.Event.{Event}
use Rattle.node_step.specs.Firing.{Request, Text, event, scheduled, line, numbered, request_of, text_of}

scheduled-push : (key : Key) (count : ℕ) (requests : List Request) (r : Request) → scheduled key count (requests ++ r ∷ []) ≡ scheduled key count requests ++ event key (count + length requests) r ∷ []
scheduled-push key count [] r = let e : count ≡ count + 0 = omega arith in ap (λ n. event key n r ∷ []) e
scheduled-push key count (q ∷ requests) r =
    let e : suc count + length requests ≡ count + suc (length requests) = omega arith in
    ap (λ es. event key count q ∷ es) (scheduled-push key (suc count) requests r ∙ ap (λ n. scheduled key (suc count) requests ++ event key n r ∷ []) e)

numbered-push : (key : Key) (index : ℕ) (texts : List Text) (t : Text) → numbered key index (texts ++ t ∷ []) ≡ numbered key index texts ++ line key (index + length texts) t ∷ []
numbered-push key index [] t = let e : index ≡ index + 0 = omega arith in ap (λ n. line key n t ∷ []) e
numbered-push key index (u ∷ texts) t =
    let e : suc index + length texts ≡ index + suc (length texts) = omega arith in
    ap (λ ls. line key index u ∷ ls) (numbered-push key (suc index) texts t ∙ ap (λ n. numbered key (suc index) texts ++ line key n t ∷ []) e)

-- a list of numbered events, and one more
pub scheduled-more : {E : Type 0} (see : E → Event Packet) (key : Key) (before count : ℕ) (xs ys : List E) (x : E) → ys ≡ xs ++ x ∷ [] → map see xs ≡ scheduled key before (map request_of (map see xs)) → count ≡ before + length xs → see x ≡ event key count (request_of (see x)) → map see ys ≡ scheduled key before (map request_of (map see ys))
scheduled-more see key before count xs ys x more known at x-is =
    let seen : map see ys ≡ map see xs ++ see x ∷ [] = ap (map see) more ∙ map-append see xs (x ∷ []) in
    let requests : map request_of (map see ys) ≡ map request_of (map see xs) ++ request_of (see x) ∷ [] =
    ap (map request_of) seen ∙ map-append request_of (map see xs) (see x ∷ []) in
    let place : count ≡ before + length (map request_of (map see xs)) = at ∙ ap (λ n. before + n) (sym (length-map (map see xs) request_of ∙ length-map xs see)) in
    let last : see x ≡ event key (before + length (map request_of (map see xs))) (request_of (see x)) = x-is ∙ ap (λ n. event key n (request_of (see x))) place in
    seen ∙ ap (λ es. es ++ see x ∷ []) known ∙ ap (λ e. scheduled key before (map request_of (map see xs)) ++ e ∷ []) last ∙ sym (scheduled-push key before (map request_of (map see xs)) (request_of (see x))) ∙ ap (scheduled key before) (sym requests)

-- a list of numbered lines, and one more
pub numbered-more : {L : Type 0} (see : L → Line Packet) (key : Key) (index : ℕ) (xs ys : List L) (x : L) → ys ≡ xs ++ x ∷ [] → map see xs ≡ numbered key 0 (map text_of (map see xs)) → index ≡ length xs → see x ≡ line key index (text_of (see x)) → map see ys ≡ numbered key 0 (map text_of (map see ys))
numbered-more see key index xs ys x more known at x-is =
    let seen : map see ys ≡ map see xs ++ see x ∷ [] = ap (map see) more ∙ map-append see xs (x ∷ []) in
    let texts : map text_of (map see ys) ≡ map text_of (map see xs) ++ text_of (see x) ∷ [] =
    ap (map text_of) seen ∙ map-append text_of (map see xs) (see x ∷ []) in
    let same_length : length (map text_of (map see xs)) ≡ length xs = length-map (map see xs) text_of ∙ length-map xs see in
    let place : index ≡ 0 + length (map text_of (map see xs)) = omega (arith, at, same_length) in
    let last : see x ≡ line key (0 + length (map text_of (map see xs))) (text_of (see x)) = x-is ∙ ap (λ n. line key n (text_of (see x))) place in
    seen ∙ ap (λ ls. ls ++ see x ∷ []) known ∙ ap (λ l. numbered key 0 (map text_of (map see xs)) ++ l ∷ []) last ∙ sym (numbered-push key 0 (map text_of (map see xs)) (text_of (see x))) ∙ ap (numbered key 0) (sym texts)
