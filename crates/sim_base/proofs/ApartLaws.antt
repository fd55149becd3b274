-- Laws of items of which none goes on in the next: the calls keep them so, and what was cut in two is joined again.
use Rattle.std.proofs.Common.{ℕ, ◌≡◌, ◌-◌, ◌==◌, ◌&&◌, ◌<◌, ◌≤◌, Bool, List, [], ◌∷◌, ◌++◌, true, false, refl, sym, ap, ◌∙◌, subst, arith, ⊎_elim}
use Rattle.std.proofs.Props.{props}
use Rattle.std.specs.List.{All}
use Rattle.std.proofs.lemmas.List.{append-nil}
use Rattle.std.proofs.lemmas.List.Elements.{All-head, All-tail}
use Rattle.std.proofs.lemmas.Bool.{cases_lt, cond_both, cond-true, cond-false, and_from, eq-eqb}
use Rattle.sim_base.specs.declared.item.Item.{Item}
use Rattle.sim_base.specs.declared.item.Kind.{Kind}
use Rattle.sim_base.specs.Kind.{kind_number, same_kind}
use Rattle.sim_base.specs.Items.{left, IsLeft, whole_item, whole, cut_item, cut_items, goes_on, join_items, StandApart}
use Rattle.sim_base.proofs.ItemLaws.{same_item, whole_cases}
use Rattle.sim_base.proofs.CutItemLaws.{cut_items-stays, cut_items-goes, cut_items-at, cut_items-bare}
use Rattle.sim_base.proofs.JoinLaws.{goes_on-true, join_items-nil}

bool_false : (b : Bool) → (b ≡ true → ⊥) → b ≡ false
bool_false true h = absurd (h refl)
bool_false false h = refl

StandApart-tail : (i : Item) (is : List Item) → StandApart (i ∷ is) → StandApart is
StandApart-tail i [] apart = tt
StandApart-tail i (j ∷ is) apart = apart.1

-- ends of the same kind and size at the same place go on in the same items
same_goes_on : (i j k : Item) → i.kind ≡ j.kind → i.size ≡ j.size → i.cut_back ≡ j.cut_back → goes_on i k ≡ goes_on j k
same_goes_on i j k kind size back =
    let by_kind : Kind → Bool = λ x. same_kind x k.kind && (i.size == k.size && i.size - i.cut_back == k.cut_front) in
    let by_size : ℕ → Bool = λ x. same_kind j.kind k.kind && (x == k.size && x - i.cut_back == k.cut_front) in
    let by_back : ℕ → Bool = λ x. same_kind j.kind k.kind && (j.size == k.size && j.size - x == k.cut_front) in
    ap by_kind kind ∙ ap by_size size ∙ ap by_back back

-- and beginnings of the same kind and size at the same place go on from the same items
same_goes_on_from : (i j k : Item) → j.kind ≡ k.kind → j.size ≡ k.size → j.cut_front ≡ k.cut_front → goes_on i j ≡ goes_on i k
same_goes_on_from i j k kind size front =
    let by_kind : Kind → Bool = λ x. same_kind i.kind x && (i.size == j.size && i.size - i.cut_back == j.cut_front) in
    let by_size : ℕ → Bool = λ x. same_kind i.kind k.kind && (i.size == x && i.size - i.cut_back == j.cut_front) in
    let by_front : ℕ → Bool = λ x. same_kind i.kind k.kind && (i.size == k.size && i.size - i.cut_back == x) in
    ap by_kind kind ∙ ap by_size size ∙ ap by_front front

-- two items of the same kind and size that meet go on
goes_on-from : (i j : Item) → i.kind ≡ j.kind → i.size ≡ j.size → i.size - i.cut_back ≡ j.cut_front → goes_on i j ≡ true
goes_on-from i j kind size place =
    and_from (same_kind i.kind j.kind) _ (eq-eqb (kind_number i.kind) (kind_number j.kind) (ap kind_number kind))
    (and_from (i.size == j.size) _ (eq-eqb i.size j.size size) (eq-eqb (i.size - i.cut_back) j.cut_front place))

-- a whole item neither goes on in another, nor another in it
goes_on-whole : (kind : Kind) (n : ℕ) (j : Item) → IsLeft j → goes_on (whole_item kind n) j ≡ false
goes_on-whole kind n j there =
    bool_false _ (λ on. let both = goes_on-true (whole_item kind n) j on in omega (arith, there, both.size, both.place))

goes_on_whole : (kind : Kind) (n : ℕ) (i : Item) → IsLeft i → goes_on i (whole_item kind n) ≡ false
goes_on_whole kind n i here =
    bool_false _ (λ on. let both = goes_on-true i (whole_item kind n) on in omega (arith, here, both.size, both.place))

pub StandApart-whole : (kind : Kind) (n : ℕ) → StandApart (whole kind n)
StandApart-whole kind n = whole_cases StandApart kind n (λ at. tt) (λ above. tt)

pub StandApart-whole_front : (kind : Kind) (n : ℕ) (is : List Item) → All IsLeft is → StandApart is → StandApart (whole kind n ++ is)
StandApart-whole_front kind n [] all apart = whole_cases (λ ws. StandApart (ws ++ [])) kind n (λ at. tt) (λ above. tt)
StandApart-whole_front kind n (i ∷ is) all apart =
    whole_cases (λ ws. StandApart (ws ++ (i ∷ is))) kind n (λ at. apart)
    (λ above. (goes_on-whole kind n i (All-head IsLeft i is all), apart))

StandApart-push : (kind : Kind) (n : ℕ) (is : List Item) → All IsLeft is → StandApart is → StandApart (is ++ (whole_item kind n ∷ []))
StandApart-push kind n [] all apart = tt
StandApart-push kind n (i ∷ []) all apart = (goes_on_whole kind n i (All-head IsLeft i [] all), tt)
StandApart-push kind n (i ∷ k ∷ is) all apart =
    (apart.0, StandApart-push kind n (k ∷ is) (All-tail IsLeft i (k ∷ is) all) apart.1)

pub StandApart-whole_back : (kind : Kind) (n : ℕ) (is : List Item) → All IsLeft is → StandApart is → StandApart (is ++ whole kind n)
StandApart-whole_back kind n is all apart =
    whole_cases (λ ws. StandApart (is ++ ws)) kind n (λ at. subst StandApart (sym (append-nil is)) apart)
    (λ above. StandApart-push kind n is all apart)

-- an item that ends as another does, in front of the other's next items
StandApart-next : (x i : Item) (is : List Item) (m : ℕ) → x.kind ≡ i.kind → x.size ≡ i.size → x.cut_back ≡ i.cut_back → All IsLeft is → StandApart (i ∷ is) → StandApart (cut_items 0 m is) → StandApart (x ∷ cut_items 0 m is)
StandApart-next x i [] m kind size back all apart later = tt
StandApart-next x i (k ∷ is) m kind size back all apart later =
    let there : IsLeft k = All-head IsLeft k is all in
    ⊎_elim
    (λ (some : 0 < m).
    let rest = cut_items (0 - left k) (m - left k) is in
    let stays : cut_items 0 m (k ∷ is) ≡ cut_item 0 m k ∷ rest = cut_items-stays 0 m k _ is rest refl (omega (arith, there)) refl in
    let off : goes_on x (cut_item 0 m k) ≡ false =
    same_goes_on x i (cut_item 0 m k) kind size back ∙ same_goes_on_from i (cut_item 0 m k) k refl refl (omega arith) ∙ apart.0 in
    subst (λ (ks : List Item). StandApart (x ∷ ks)) (sym stays) (off, subst StandApart stays later))
    (λ (none : m ≤ 0).
    let gone : cut_items 0 m (k ∷ is) ≡ [] = cut_items-bare 0 m (k ∷ is) (omega arith) in
    subst (λ (ks : List Item). StandApart (x ∷ ks)) (sym gone) tt)
    (cases_lt 0 m)

pub StandApart-cut_items : (a b : ℕ) (is : List Item) → All IsLeft is → StandApart is → StandApart (cut_items a b is)
StandApart-cut_items a b [] all apart = tt
StandApart-cut_items a b (i ∷ is) all apart =
    let l = left i in
    let part = cut_item a b i in
    let here : IsLeft i = All-head IsLeft i is all in
    let later = All-tail IsLeft i is all in
    let rest = StandApart-cut_items (a - l) (b - l) is later (StandApart-tail i is apart) in
    ⊎_elim
    (λ (full : 0 < left part).
    let at : cut_items (a - l) (b - l) is ≡ cut_items 0 (b - l) is = cut_items-at (a - l) (b - l) 0 (b - l) is (omega (arith, full)) refl in
    let stays : cut_items a b (i ∷ is) ≡ part ∷ cut_items 0 (b - l) is = cut_items-stays a b i part is _ refl (omega (arith, full)) at in
    subst StandApart (sym stays)
    (⊎_elim
    (λ (inside : b < l).
    let gone : cut_items 0 (b - l) is ≡ [] = cut_items-bare 0 (b - l) is (omega arith) in
    subst (λ (ks : List Item). StandApart (part ∷ ks)) (sym gone) tt)
    (λ (past : l ≤ b).
    StandApart-next part i is (b - l) refl refl (omega (arith, past)) later apart (subst StandApart at rest))
    (cases_lt b l)))
    (λ (bare : left part ≤ 0). subst StandApart (sym (cut_items-goes a b i is bare)) rest)
    (cases_lt 0 (left part))

-- an item in front of joined items
StandApart-before_joined : (i k : Item) (is js : List Item) → goes_on i k ≡ false → StandApart (join_items (k ∷ is) js) → StandApart (i ∷ join_items (k ∷ is) js)
StandApart-before_joined i k [] [] off later = (off, tt)
StandApart-before_joined i k [] (j ∷ js) off later =
    cond_both (goes_on k j) (record k { cut_back = j.cut_back } ∷ js) (k ∷ j ∷ js) (λ xs. StandApart xs → StandApart (i ∷ xs))
    (λ on h. (off, h)) (λ apart h. (off, h)) later
StandApart-before_joined i k (m ∷ is) js off later = (off, later)

pub StandApart-join_items : (is js : List Item) → StandApart is → StandApart js → StandApart (join_items is js)
StandApart-join_items [] js front back = back
StandApart-join_items (i ∷ []) [] front back = tt
StandApart-join_items (i ∷ []) (j ∷ []) front back =
    cond_both (goes_on i j) (record i { cut_back = j.cut_back } ∷ []) (i ∷ j ∷ []) StandApart (λ on. tt) (λ off. (off, tt))
StandApart-join_items (i ∷ []) (j ∷ k ∷ js) front back =
    let joined = record i { cut_back = j.cut_back } in
    cond_both (goes_on i j) (joined ∷ k ∷ js) (i ∷ j ∷ k ∷ js) StandApart
    (λ on.
    let both = goes_on-true i j on in
    (same_goes_on joined j k both.kind both.size refl ∙ back.0, back.1))
    (λ off. (off, back))
StandApart-join_items (i ∷ k ∷ is) js front back =
    StandApart-before_joined i k is js front.0 (StandApart-join_items (k ∷ is) js front.1 back)

-- the same where nothing of the range stays
join_items-first : (x i k : Item) (is : List Item) (m n : ℕ) → x.kind ≡ i.kind → x.size ≡ i.size → x.cut_back ≡ i.cut_back → m ≤ 0 → IsLeft k → goes_on i k ≡ false → join_items (x ∷ []) (cut_items m n (k ∷ is)) ≡ x ∷ cut_items m n (k ∷ is)
join_items-first x i k is m n kind size back none there off =
    ⊎_elim
    (λ (some : 0 < n).
    let part = cut_item m n k in
    let rest = cut_items (m - left k) (n - left k) is in
    let stays : cut_items m n (k ∷ is) ≡ part ∷ rest = cut_items-stays m n k part is rest refl (omega (arith, there)) refl in
    let apart : goes_on x part ≡ false =
    same_goes_on x i part kind size back ∙ same_goes_on_from i part k refl refl (omega (arith, none)) ∙ off in
    ap (λ ks. join_items (x ∷ []) ks) stays ∙ cond-false (goes_on x part) _ _ apart ∙ sym (ap (λ ks. x ∷ ks) stays))
    (λ (bare : n ≤ 0).
    let gone : cut_items m n (k ∷ is) ≡ [] = cut_items-bare m n (k ∷ is) (omega arith) in
    ap (λ ks. join_items (x ∷ []) ks) gone ∙ sym (ap (λ ks. x ∷ ks) gone))
    (cases_lt 0 n)

-- an item that ends as another does, in front of the other's next items, of which a range is joined to the range behind
join_items-next : (x i : Item) (is : List Item) (m n : ℕ) → x.kind ≡ i.kind → x.size ≡ i.size → x.cut_back ≡ i.cut_back → All IsLeft is → StandApart (i ∷ is) → join_items (x ∷ cut_items 0 m is) (cut_items m n is) ≡ x ∷ join_items (cut_items 0 m is) (cut_items m n is)
join_items-next x i [] m n kind size back all apart = refl
join_items-next x i (k ∷ is) m n kind size back all apart =
    let there : IsLeft k = All-head IsLeft k is all in
    let behind = cut_items m n (k ∷ is) in
    ⊎_elim
    (λ (some : 0 < m).
    let rest = cut_items (0 - left k) (m - left k) is in
    let stays : cut_items 0 m (k ∷ is) ≡ cut_item 0 m k ∷ rest = cut_items-stays 0 m k _ is rest refl (omega (arith, there)) refl in
    ap (λ ks. join_items (x ∷ ks) behind) stays ∙ sym (ap (λ ks. x ∷ join_items ks behind) stays))
    (λ (none : m ≤ 0).
    let gone : cut_items 0 m (k ∷ is) ≡ [] = cut_items-bare 0 m (k ∷ is) (omega arith) in
    let off : join_items (x ∷ []) behind ≡ x ∷ behind = join_items-first x i k is m n kind size back none there apart.0 in
    ap (λ ks. join_items (x ∷ ks) behind) gone ∙ off ∙ sym (ap (λ ks. x ∷ join_items ks behind) gone))
    (cases_lt 0 m)

-- a cut inside the first item
join-cut_item : (a b c : ℕ) (i : Item) (is : List Item) → IsLeft i → a ≤ b → b ≤ c → b < left i → join_items (cut_items a b (i ∷ is)) (cut_items b c (i ∷ is)) ≡ cut_items a c (i ∷ is)
join-cut_item a b c i is here first second inside =
    let l = left i in
    let whole_range = cut_items a c (i ∷ is) in
    ⊎_elim
    (λ (some : a < b).
    ⊎_elim
    (λ (more : b < c).
    let front = cut_item a b i in
    let back = cut_item b c i in
    let rest = cut_items 0 (c - l) is in
    let front_stays : cut_items a b (i ∷ is) ≡ front ∷ [] =
    cut_items-stays a b i front is [] refl (omega (arith, here, some, inside)) (cut_items-bare (a - l) (b - l) is (omega (arith, inside))) in
    let back_stays : cut_items b c (i ∷ is) ≡ back ∷ rest =
    cut_items-stays b c i back is rest refl (omega (arith, here, more, inside)) (cut_items-at (b - l) (c - l) 0 (c - l) is (omega (arith, inside)) refl) in
    let on : goes_on front back ≡ true = goes_on-from front back refl refl (omega (arith, here, some, more, inside)) in
    let both = record front { cut_back = back.cut_back } in
    ap (λ xs. join_items xs (cut_items b c (i ∷ is))) front_stays ∙ ap (λ xs. join_items (front ∷ []) xs) back_stays
    ∙ cond-true (goes_on front back) _ _ on
    ∙ sym (cut_items-stays a c i both is rest refl (omega (arith, here, some, more, inside)) (cut_items-at (a - l) (c - l) 0 (c - l) is (omega (arith, inside, some)) refl)))
    (λ (end : c ≤ b).
    ap (λ xs. join_items (cut_items a b (i ∷ is)) xs) (cut_items-bare b c (i ∷ is) end)
    ∙ join_items-nil (cut_items a b (i ∷ is)) ∙ cut_items-at a b a c (i ∷ is) refl (omega arith))
    (cases_lt b c))
    (λ (none : b ≤ a).
    ap (λ xs. join_items xs (cut_items b c (i ∷ is))) (cut_items-bare a b (i ∷ is) none)
    ∙ cut_items-at b c a c (i ∷ is) (omega arith) refl)
    (cases_lt a b)

-- what was cut in two is joined again
pub join-cut_items : (a b c : ℕ) (is : List Item) → All IsLeft is → StandApart is → a ≤ b → b ≤ c → join_items (cut_items a b is) (cut_items b c is) ≡ cut_items a c is
join-cut_items a b c [] all apart first second = refl
join-cut_items a b c (i ∷ is) all apart first second =
    let l = left i in
    let here : IsLeft i = All-head IsLeft i is all in
    let later = All-tail IsLeft i is all in
    let rest = join-cut_items (a - l) (b - l) (c - l) is later (StandApart-tail i is apart) (omega arith) (omega arith) in
    ⊎_elim
    (λ (inside : b < l). join-cut_item a b c i is here first second inside)
    (λ (past : l ≤ b).
    let behind : cut_items b c (i ∷ is) ≡ cut_items (b - l) (c - l) is = cut_items-goes b c i is (omega (arith, past)) in
    ⊎_elim
    (λ (begun : a < l).
    let part = cut_item a b i in
    let at : cut_items (a - l) (b - l) is ≡ cut_items 0 (b - l) is = cut_items-at (a - l) (b - l) 0 (b - l) is (omega (arith, begun)) refl in
    let stays : cut_items a b (i ∷ is) ≡ part ∷ cut_items 0 (b - l) is = cut_items-stays a b i part is _ refl (omega (arith, here, begun, past)) at in
    let whole_part : cut_items a c (i ∷ is) ≡ part ∷ cut_items (a - l) (c - l) is =
    cut_items-stays a c i part is _ (same_item _ _ refl refl refl (omega (arith, past, second))) (omega (arith, here, begun, past)) refl in
    ap (λ xs. join_items xs (cut_items b c (i ∷ is))) stays
    ∙ ap (λ xs. join_items (part ∷ cut_items 0 (b - l) is) xs) behind
    ∙ join_items-next part i is (b - l) (c - l) refl refl (omega (arith, past)) later apart
    ∙ ap (λ xs. part ∷ join_items xs (cut_items (b - l) (c - l) is)) (sym at)
    ∙ ap (λ xs. part ∷ xs) rest ∙ sym whole_part)
    (λ (gone : l ≤ a).
    ap (λ xs. join_items xs (cut_items b c (i ∷ is))) (cut_items-goes a b i is (omega (arith, gone, first)))
    ∙ ap (λ xs. join_items (cut_items (a - l) (b - l) is) xs) behind
    ∙ rest ∙ sym (cut_items-goes a c i is (omega (arith, gone, first, second))))
    (cases_lt a l))
    (cases_lt b l)

pub StandApart_prop : (is : List Item) → IsProp (StandApart is)
StandApart_prop [] = hlevel props
StandApart_prop (i ∷ []) = hlevel props
StandApart_prop (i ∷ j ∷ is) = hlevel (props, StandApart_prop (j ∷ is))

-- what makes a fact on packets one without choices
pub ruleset packet_props = (props, StandApart_prop)
