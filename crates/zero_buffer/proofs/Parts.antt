-- The bytes of a window with zeros among them, by what is put to the window or cut from it.
use Rattle.std.proofs.Common.{◌≡◌, ℕ, ◌+◌, ◌-◌, ◌<◌, ◌≤◌, ◌⊎◌, ⊎_elim, subst, List, [], ◌∷◌, ◌++◌, length, take, drop, min, refl, sym, ap, ◌∙◌, arith}
use Rattle.std.specs.Prelude.{replicate, slice_range}
use Rattle.std.proofs.lemmas.List.{append-nil, append_assoc, length-append, length-take-le, length-drop, length-replicate, take-append-drop, take-append-le, drop-append-le, take_all, drop_all, take-take, drop-take, drop-drop, take_min, take-replicate, drop-replicate, replicate-append-replicate, length-take}
use Rattle.std.proofs.lemmas.Bool.{cases_lt}
use Rattle.zero_buffer.specs.Contents.{Contents, with_zeros, ZerosMeet}
use Rattle.zero_buffer.proofs.Pieces.{take-append, drop-append}

-- bytes put before the window's stand before all
pub with_zeros-front : (bs s : List ℕ) (f g z : ℕ) → g ≡ f + length bs → with_zeros g z (bs ++ s) ≡ bs ++ with_zeros f z s
with_zeros-front bs s f g z long =
    let rest : g - length bs ≡ f = omega (arith, long) in
    let enough : length bs ≤ g = omega (arith, long) in
    let first : take g (bs ++ s) ≡ bs ++ take f s = take-append g bs s ∙ (λ i. take_all g bs enough i ++ take (rest i) s) in
    let behind : drop g (bs ++ s) ≡ drop f s = drop-append g bs s ∙ (λ i. drop_all g bs enough i ++ drop (rest i) s) in
    (λ i. first i ++ (replicate z 0 ++ behind i)) ∙ append_assoc bs (take f s) (replicate z 0 ++ drop f s)

-- and bytes put behind the window's stand behind all
pub with_zeros-back : (s bs : List ℕ) (f z : ℕ) → f ≤ length s → with_zeros f z (s ++ bs) ≡ with_zeros f z s ++ bs
with_zeros-back s bs f z within =
    (λ i. take-append-le f s bs within i ++ (replicate z 0 ++ drop-append-le f s bs within i))
    ∙ sym (append_assoc (take f s) (replicate z 0 ++ drop f s) bs ∙ ap (λ l. take f s ++ l) (append_assoc (replicate z 0) (drop f s) bs))

pub length-with_zeros : (s : List ℕ) (f z : ℕ) → f ≤ length s → length (with_zeros f z s) ≡ length s + z
length-with_zeros s f z within =
    omega (arith, length-append (take f s) (replicate z 0 ++ drop f s), length-append (replicate z 0) (drop f s), length-replicate {A = ℕ} z 0, length-take-le f s within, length-drop f s)

pub with_zeros-none : (s : List ℕ) (f : ℕ) → with_zeros f 0 s ≡ s
with_zeros-none s f = take-append-drop f s

-- the first n bytes, where they reach no zero
pub keep-within : (s : List ℕ) (f z n : ℕ) → n ≤ f → f ≤ length s → with_zeros n 0 (take n s) ≡ take n (with_zeros f z s)
keep-within s f z n short within =
    let long : length (take f s) ≡ f = length-take-le f s within in
    let none : n - length (take f s) ≡ 0 = omega (arith, long, short) in
    with_zeros-none (take n s) n ∙ sym (take-take n f s short) ∙ sym (append-nil (take n (take f s)))
    ∙ (λ i. take n (take f s) ++ take (sym none i) (replicate z 0 ++ drop f s)) ∙ sym (take-append n (take f s) (replicate z 0 ++ drop f s))

-- the first n bytes, where they reach into the zeros or past them
pub keep-beyond : (s : List ℕ) (f z n : ℕ) → f ≤ n → f ≤ length s → with_zeros f (min (n - f) z) (take (f + (n - f - z)) s) ≡ take n (with_zeros f z s)
keep-beyond s f z n beyond within =
    let j = n - f - z in
    let zs : List ℕ = replicate z 0 in
    let long : length (take f s) ≡ f = length-take-le f s within in
    let front : take n (take f s) ≡ take f s = take_all n (take f s) (omega (arith, long, beyond)) in
    let size : length zs ≡ z = length-replicate {A = ℕ} z 0 in
    let fewer : min (n - f) z ≤ z = omega arith in
    let middle : take (n - f) zs ≡ replicate (min (n - f) z) 0 = sym (take_min (n - f) zs) ∙ ap (λ k. take (min (n - f) k) zs) size ∙ take-replicate (min (n - f) z) z 0 fewer in
    let back : take (n - f - length zs) (drop f s) ≡ take j (drop f s) = ap (λ k. take (n - f - k) (drop f s)) size in
    let all : take n (with_zeros f z s) ≡ take f s ++ (replicate (min (n - f) z) 0 ++ take j (drop f s)) =
    take-append n (take f s) (zs ++ drop f s) ∙ (λ i. front i ++ take (n - long i) (zs ++ drop f s)) ∙ ap (λ l. take f s ++ l) (take-append (n - f) zs (drop f s) ∙ (λ i. middle i ++ back i)) in
    (λ i. take-take f (f + j) s (omega arith) i ++ (replicate (min (n - f) z) 0 ++ drop-take f j s i)) ∙ sym all

-- all but the first n bytes, where these reach no zero
pub rest-within : (s : List ℕ) (f z n : ℕ) → n ≤ f → f ≤ length s → with_zeros (f - n) z (drop n s) ≡ drop n (with_zeros f z s)
rest-within s f z n short within =
    let whole : n + (f - n) ≡ f = omega (arith, short) in
    let long : length (take f s) ≡ f = length-take-le f s within in
    let front : take (f - n) (drop n s) ≡ drop n (take f s) = sym (drop-take n (f - n) s) ∙ ap (λ k. drop n (take k s)) whole in
    let back : drop (f - n) (drop n s) ≡ drop f s = drop-drop (f - n) n s ∙ ap (λ k. drop k s) whole in
    (λ i. front i ++ (replicate z 0 ++ back i)) ∙ sym (drop-append-le n (take f s) (replicate z 0 ++ drop f s) (omega (arith, long, short)))

-- all but the first n bytes, where these reach into the zeros or past them
pub rest-beyond : (s : List ℕ) (f z n : ℕ) → f ≤ n → f ≤ length s → with_zeros 0 (z - (n - f)) (drop (f + (n - f - z)) s) ≡ drop n (with_zeros f z s)
rest-beyond s f z n beyond within =
    let zs : List ℕ = replicate z 0 in
    let long : length (take f s) ≡ f = length-take-le f s within in
    let size : length zs ≡ z = length-replicate {A = ℕ} z 0 in
    let front : drop n (take f s) ≡ [] = drop_all n (take f s) (omega (arith, long, beyond)) in
    let middle : drop (n - f) zs ≡ replicate (z - (n - f)) 0 = drop-replicate (n - f) z 0 in
    let back : drop (n - f - length zs) (drop f s) ≡ drop (f + (n - f - z)) s = ap (λ k. drop (n - f - k) (drop f s)) size ∙ drop-drop (n - f - z) f s in
    sym (drop-append n (take f s) (zs ++ drop f s) ∙ (λ i. front i ++ drop (n - long i) (zs ++ drop f s)) ∙ drop-append (n - f) zs (drop f s) ∙ (λ i. middle i ++ back i))

-- two buffers, one behind the other, where the first has no zeros
pub join-second : (s t : List ℕ) (f g z : ℕ) → with_zeros (length s + g) z (s ++ t) ≡ with_zeros f 0 s ++ with_zeros g z t
join-second s t f g z =
    with_zeros-front s t g (length s + g) z (omega arith) ∙ (λ i. sym (with_zeros-none s f) i ++ with_zeros g z t)

-- and where only zeros lie between them
pub join-between : (s t : List ℕ) (y z : ℕ) → with_zeros (length s + 0) (y + z) (s ++ t) ≡ with_zeros (length s) y s ++ with_zeros 0 z t
join-between s t y z =
    let first : with_zeros (length s) y s ≡ s ++ replicate y 0 =
    (λ i. take_all (length s) s (omega arith) i ++ (replicate y 0 ++ drop_all (length s) s (omega arith) i)) ∙ ap (λ l. s ++ l) (append-nil (replicate y 0)) in
    with_zeros-front s t 0 (length s + 0) (y + z) (omega arith)
    ∙ ap (λ l. s ++ (l ++ t)) (sym (replicate-append-replicate y z 0)) ∙ ap (λ l. s ++ l) (append_assoc (replicate y 0) (replicate z 0) t)
    ∙ sym (append_assoc s (replicate y 0) (replicate z 0 ++ t)) ∙ (λ i. sym first i ++ (replicate z 0 ++ t))

-- n bytes from `at` on, by the parts that they come from
pub slice_of_parts : (f c : List ℕ) (z at n : ℕ) → slice_range (f ++ (replicate z 0 ++ c)) at (at + n)
    ≡ take n (drop at f) ++ (replicate (min (n - (length f - at)) (z - (at - length f))) 0 ++ take (n - (length f - at) - (z - (at - length f))) (drop (at - length f - z) c))
slice_of_parts f c z at n =
    let a = at - length f in
    let m = n - (length f - at) in
    let l = z - a in
    let zs : List ℕ = replicate z 0 in
    let size : length zs ≡ z = length-replicate {A = ℕ} z 0 in
    let len_f : length (drop at f) ≡ length f - at = length-drop at f in
    let len_z : length (replicate l 0) ≡ l = length-replicate {A = ℕ} l 0 in
    let count : at + n - at ≡ n = omega arith in
    let rest : drop at (f ++ (zs ++ c)) ≡ drop at f ++ (replicate l 0 ++ drop (a - z) c) =
    drop-append at f (zs ++ c) ∙ ap (λ xs. drop at f ++ xs) (drop-append a zs c ∙ (λ i. drop-replicate a z 0 i ++ drop (a - size i) c)) in
    let fewer : min m l ≤ l = omega arith in
    let middle : take m (replicate l 0) ≡ replicate (min m l) 0 = sym (take_min m (replicate l 0)) ∙ ap (λ k. take (min m k) (replicate l 0)) len_z ∙ take-replicate (min m l) l 0 fewer in
    (λ i. take (count i) (rest i)) ∙ take-append n (drop at f) (replicate l 0 ++ drop (a - z) c)
    ∙ (λ i. take n (drop at f) ++ take (n - len_f i) (replicate l 0 ++ drop (a - z) c))
    ∙ ap (λ xs. take n (drop at f) ++ xs) (take-append m (replicate l 0) (drop (a - z) c) ∙ (λ i. middle i ++ take (m - len_z i) (drop (a - z) c)))

-- what `keep` leaves: f' bytes before z' zeros, of the window without its last k bytes
pub keeps : (s t bs : List ℕ) (f z n e f' z' k : ℕ) → with_zeros f z s ≡ bs → f ≤ length s → n ≤ length bs → e ≡ n - f → f' ≡ min f n → z' ≡ min z e → t ≡ take (length s - k) s → k ≡ length s - (min n f + (e - z)) → with_zeros f' z' t ≡ take n bs
keeps s t bs f z n e f' z' k is within inside over first zeros shown cut =
    let size : n ≤ length s + z = omega (arith, inside, ap length is, length-with_zeros s f z within) in
    ⊎_elim
    (λ (short : n < f).
    let first' : f' ≡ n = omega (arith, first, short) in
    let zeros' : z' ≡ 0 = omega (arith, zeros, over, short) in
    let kept : length s - k ≡ n = omega (arith, cut, over, short, within) in
    (λ i. with_zeros (first' i) (zeros' i) ((shown ∙ ap (λ j. take j s) kept) i)) ∙ keep-within s f z n (omega (arith, short)) within ∙ ap (take n) is)
    (λ (far : f ≤ n).
    let first' : f' ≡ f = omega (arith, first, far) in
    let zeros' : z' ≡ min (n - f) z = omega (arith, zeros, over) in
    let kept : length s - k ≡ f + (n - f - z) = omega (arith, cut, over, far, within, size) in
    (λ i. with_zeros (first' i) (zeros' i) ((shown ∙ ap (λ j. take j s) kept) i)) ∙ keep-beyond s f z n far within ∙ ap (take n) is)
    (cases_lt n f)

-- what `leave_off` leaves: the same of the window without its first k bytes
pub leaves : (s t bs : List ℕ) (f z n e f' z' k : ℕ) → with_zeros f z s ≡ bs → f ≤ length s → e ≡ n - f → f' ≡ f - n → z' ≡ z - e → t ≡ drop k s → k ≡ min n f + (e - z) → with_zeros f' z' t ≡ drop n bs
leaves s t bs f z n e f' z' k is within over first zeros shown cut =
    ⊎_elim
    (λ (short : n < f).
    let zeros' : z' ≡ z = omega (arith, zeros, over, short) in
    let gone : k ≡ n = omega (arith, cut, over, short) in
    (λ i. with_zeros (first i) (zeros' i) ((shown ∙ ap (λ j. drop j s) gone) i)) ∙ rest-within s f z n (omega (arith, short)) within ∙ ap (drop n) is)
    (λ (far : f ≤ n).
    let first' : f' ≡ 0 = omega (arith, first, far) in
    let zeros' : z' ≡ z - (n - f) = omega (arith, zeros, over) in
    let gone : k ≡ f + (n - f - z) = omega (arith, cut, over, far) in
    (λ i. with_zeros (first' i) (zeros' i) ((shown ∙ ap (λ j. drop j s) gone) i)) ∙ rest-beyond s f z n far within ∙ ap (drop n) is)
    (cases_lt n f)

pub meets : (b c b' c' : Contents) → b ≡ b' → c ≡ c' → ZerosMeet b' c' → ZerosMeet b c
meets b c b' c' p q meet = subst (λ x. ZerosMeet x c) (sym p) (subst (ZerosMeet b') (sym q) meet)

-- what `adopt` makes of two buffers
pub adopts : (s t g bs cs : List ℕ) (f y h z m : ℕ) → with_zeros f y s ≡ bs → with_zeros h z t ≡ cs → (y ≡ 0) ⊎ ((f ≡ length s) × (h ≡ 0)) → g ≡ s ++ t → m ≡ length s → with_zeros (m + h) (y + z) g ≡ bs ++ cs
adopts s t g bs cs f y h z m here there meet grown long =
    ⊎_elim
    (λ (none : y ≡ 0).
    let zeros : y + z ≡ z = omega (arith, none) in
    (λ i. with_zeros (long i + h) (zeros i) (grown i)) ∙ join-second s t f h z ∙ (λ i. with_zeros f (sym none i) s ++ with_zeros h z t) ∙ (λ i. here i ++ there i))
    (λ (between : (f ≡ length s) × (h ≡ 0)).
    (λ i. with_zeros (long i + between.1 i) (y + z) (grown i)) ∙ join-between s t y z
    ∙ (λ i. with_zeros (sym between.0 i) y s ++ with_zeros (sym between.1 i) z t) ∙ (λ i. here i ++ there i))
    meet

-- what `peek` copies: of the first part, of the zeros and of the last part
pub peeks : (f c bs front middle back : List ℕ) (z at n m l j k : ℕ) → f ++ (replicate z 0 ++ c) ≡ bs → front ≡ take n (drop at f) → middle ≡ replicate l 0 → back ≡ take j (drop k c)
    → m ≡ n - (length f - at) → l ≡ min (z - (at - length f)) m → j ≡ m - l → k ≡ at - length f - z → front ++ (middle ++ back) ≡ slice_range bs at (at + n)
peeks f c bs front middle back z at n m l j k is of_first of_zeros of_last after_first zeros rest skipped =
    let count : l ≡ min (n - (length f - at)) (z - (at - length f)) = omega (arith, after_first, zeros) in
    let left : j ≡ n - (length f - at) - (z - (at - length f)) = omega (arith, after_first, zeros, rest) in
    (λ i. of_first i ++ ((of_zeros ∙ ap (λ k. replicate k 0) count) i ++ (of_last ∙ (λ i'. take (left i') (drop (skipped i') c))) i))
    ∙ sym (slice_of_parts f c z at n) ∙ ap (λ xs. slice_range xs at (at + n)) is
