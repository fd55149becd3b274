-- Laws of tags on bytes.
use Rattle.std.proofs.Common.{ℕ, ◌≡◌, ◌+◌, ◌-◌, ◌<◌, ◌≤◌, true, List, [], ◌∷◌, ◌++◌, map, refl, sym, ap, ◌∙◌, subst, arith, cond, ⊎_elim}
use Rattle.std.specs.List.{filter, All}
use Rattle.std.proofs.lemmas.List.{map-append}
use Rattle.std.proofs.lemmas.List.Elements.{All-head, All-tail, All-nil, All-cons, All-map, All-weaker, filter-append}
use Rattle.std.proofs.lemmas.Bool.{cases_lt, lt-ltb, le-ltb}
use Rattle.sim_base.specs.declared.tags.ByteTag.{ByteTag}
use Rattle.sim_base.specs.ByteTags.{moved_up, shift, part_within, covers_a_byte, clip, IsTagWithin}
use Rattle.sim_base.proofs.ListLaws.{filter-passes, filter-fails}

-- tags with the same number and value on the same bytes are the same
pub same_tag : (s t : ByteTag) → s.tag ≡ t.tag → s.from ≡ t.from → s.to ≡ t.to → s.value ≡ t.value → s ≡ t
same_tag s t p q r v =
    let by_tag : ℕ → ByteTag = λ x. record { tag = x; from = s.from; to = s.to; value = s.value } in
    let by_from : ℕ → ByteTag = λ x. record { tag = t.tag; from = x; to = s.to; value = s.value } in
    let by_to : ℕ → ByteTag = λ x. record { tag = t.tag; from = t.from; to = x; value = s.value } in
    let by_value : ℕ → ByteTag = λ x. record { tag = t.tag; from = t.from; to = t.to; value = x } in
    ap by_tag p ∙ ap by_from q ∙ ap by_to r ∙ ap by_value v

-- equal heads and equal rests, behind the same filter
same_kept : (s t : ByteTag) (ss ts : List ByteTag) → s ≡ t → filter covers_a_byte ss ≡ filter covers_a_byte ts → filter covers_a_byte (s ∷ ss) ≡ filter covers_a_byte (t ∷ ts)
same_kept s t ss ts e r =
    ap (λ x. filter covers_a_byte (x ∷ ss)) e ∙ (let kept : List ByteTag → List ByteTag = λ xs. cond (covers_a_byte t) (t ∷ xs) xs in ap kept r)

pub shift-zero : (ts : List ByteTag) → shift 0 ts ≡ ts
shift-zero [] = refl
shift-zero (t ∷ ts) =
    let head : moved_up 0 t ≡ t = same_tag _ _ refl (omega arith) (omega arith) refl in
    let rest = shift-zero ts in
    cc

pub shift-shift : (m n : ℕ) (ts : List ByteTag) → shift m (shift n ts) ≡ shift (n + m) ts
shift-shift m n [] = refl
shift-shift m n (t ∷ ts) =
    let head : moved_up m (moved_up n t) ≡ moved_up (n + m) t = same_tag _ _ refl (omega arith) (omega arith) refl in
    let rest = shift-shift m n ts in
    cc

pub shift-append : (n : ℕ) (ss ts : List ByteTag) → shift n (ss ++ ts) ≡ shift n ss ++ shift n ts
shift-append n ss ts = map-append (moved_up n) ss ts

pub clip-append : (a b : ℕ) (ss ts : List ByteTag) → clip a b (ss ++ ts) ≡ clip a b ss ++ clip a b ts
clip-append a b ss ts =
    rw (map-append (part_within a b) ss ts) (filter-append covers_a_byte (map (part_within a b) ss) (map (part_within a b) ts))

-- tags on n bytes keep their places where all n bytes stay
pub clip-all : (n b : ℕ) (ts : List ByteTag) → All (IsTagWithin n) ts → n ≤ b → clip 0 b ts ≡ ts
clip-all n b [] within n≤b = refl
clip-all n b (t ∷ ts) within n≤b =
    let here = All-head (IsTagWithin n) t ts within in
    let head : part_within 0 b t ≡ t = same_tag _ _ refl (omega arith) (omega (arith, here.1)) refl in
    let rest = clip-all n b ts (All-tail (IsTagWithin n) t ts within) n≤b in
    let covered : covers_a_byte t ≡ true = lt-ltb t.from t.to here.0 in
    same_kept (part_within 0 b t) t (map (part_within 0 b) ts) (map (part_within 0 b) ts) head refl
    ∙ filter-passes covers_a_byte t (map (part_within 0 b) ts) covered ∙ ap (λ xs. t ∷ xs) rest

-- where n bytes come in front and are passed over again
pub clip-shift : (n a b : ℕ) (ts : List ByteTag) → clip (n + a) (n + b) (shift n ts) ≡ clip a b ts
clip-shift n a b [] = refl
clip-shift n a b (t ∷ ts) =
    same_kept (part_within (n + a) (n + b) (moved_up n t)) (part_within a b t) (map (part_within (n + a) (n + b)) (shift n ts)) (map (part_within a b) ts)
    (same_tag _ _ refl (omega arith) (omega arith) refl) (clip-shift n a b ts)

-- tags from n on have no part below n
pub clip-shift_past : (n a b : ℕ) (ts : List ByteTag) → b ≤ n → clip a b (shift n ts) ≡ []
clip-shift_past n a b [] past = refl
clip-shift_past n a b (t ∷ ts) past =
    filter-fails covers_a_byte (part_within a b (moved_up n t)) (map (part_within a b) (shift n ts)) (le-ltb _ _ (omega arith)) ∙ clip-shift_past n a b ts past

-- the parts of parts
pub clip-clip : (a b c d : ℕ) (ts : List ByteTag) → a + d ≤ b → clip c d (clip a b ts) ≡ clip (a + c) (a + d) ts
clip-clip a b c d [] inside = refl
clip-clip a b c d (t ∷ ts) inside =
    let part = part_within a b t in
    let later = map (part_within a b) ts in
    let rest = clip-clip a b c d ts inside in
    let same : part_within c d part ≡ part_within (a + c) (a + d) t = same_tag _ _ refl (omega arith) (omega arith) refl in
    ⊎_elim
    (λ (full : part.from < part.to).
    ap (clip c d) (filter-passes covers_a_byte part later (lt-ltb _ _ full)) ∙ same_kept (part_within c d part) (part_within (a + c) (a + d) t) (map (part_within c d) (filter covers_a_byte later)) (map (part_within (a + c) (a + d)) ts) same rest)
    (λ (bare : part.to ≤ part.from).
    ap (clip c d) (filter-fails covers_a_byte part later (le-ltb _ _ bare))
    ∙ rest ∙ sym (filter-fails covers_a_byte (part_within (a + c) (a + d) t) (map (part_within (a + c) (a + d)) ts) (le-ltb _ _ (omega arith))))
    (cases_lt part.from part.to)

pub All-clip : (a b : ℕ) (ts : List ByteTag) → All (IsTagWithin (b - a)) (clip a b ts)
All-clip a b [] = All-nil _
All-clip a b (t ∷ ts) =
    let part = part_within a b t in
    let later = map (part_within a b) ts in
    let rest = All-clip a b ts in
    ⊎_elim
    (λ (full : part.from < part.to).
    subst (All (IsTagWithin (b - a))) (sym (filter-passes covers_a_byte part later (lt-ltb _ _ full)))
    (All-cons (IsTagWithin (b - a)) part (filter covers_a_byte later) (full, omega arith) rest))
    (λ (bare : part.to ≤ part.from).
    subst (All (IsTagWithin (b - a))) (sym (filter-fails covers_a_byte part later (le-ltb _ _ bare))) rest)
    (cases_lt part.from part.to)

pub All-longer : (m n : ℕ) (ts : List ByteTag) → m ≤ n → All (IsTagWithin m) ts → All (IsTagWithin n) ts
All-longer m n ts longer within = All-weaker (IsTagWithin m) (IsTagWithin n) (λ t h. (h.0, omega (arith, h.1))) ts within

pub All-shift : (m n : ℕ) (ts : List ByteTag) → All (IsTagWithin n) ts → All (IsTagWithin (m + n)) (shift m ts)
All-shift m n ts within =
    All-map (IsTagWithin (m + n)) (moved_up m) ts
    (All-weaker (IsTagWithin n) (λ t. IsTagWithin (m + n) (moved_up m t)) (λ t h. (omega (arith, h.0), omega (arith, h.1))) ts within)

-- tags on n bytes have no part from n on
pub clip-past : (n a b : ℕ) (ts : List ByteTag) → All (IsTagWithin n) ts → n ≤ a → clip a b ts ≡ []
clip-past n a b [] within past = refl
clip-past n a b (t ∷ ts) within past =
    let here = All-head (IsTagWithin n) t ts within in
    filter-fails covers_a_byte (part_within a b t) (map (part_within a b) ts) (le-ltb _ _ (omega (arith, here.1)))
    ∙ clip-past n a b ts (All-tail (IsTagWithin n) t ts within) past
