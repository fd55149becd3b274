-- Laws of joined items.
use Rattle.std.proofs.Common.{ℕ, zero, suc, ◌≡◌, ◌+◌, ◌-◌, ◌==◌, ◌&&◌, true, false, List, [], ◌∷◌, ◌++◌, refl, sym, ap, ◌∙◌, arith}
use Rattle.std.specs.List.{All}
use Rattle.std.proofs.lemmas.List.Elements.{All-head, All-tail, All-cons}
use Rattle.std.proofs.lemmas.Bool.{cond_both, cond-true, cond-false, and_parts, eqb-true}
use Rattle.sim_base.specs.declared.item.Item.{Item}
use Rattle.sim_base.specs.declared.item.Kind.{Kind}
use Rattle.sim_base.specs.declared.item.Kind.TheVariants.{Ppp, Ethernet, Trailer, Arp, Ipv4, Icmp, Udp, Tcp, Payload, Pad}
use Rattle.sim_base.specs.Kind.{kind_number, same_kind}
use Rattle.sim_base.specs.Items.{left, IsLeft, total_left, join_items, goes_on}
use Rattle.sim_base.proofs.ItemLaws.{total_left-cons}

-- the kind with this number
kind_at : ℕ → Kind
kind_at zero = Ppp
kind_at (suc zero) = Ethernet
kind_at (suc (suc zero)) = Trailer
kind_at (suc (suc (suc zero))) = Arp
kind_at (suc (suc (suc (suc zero)))) = Ipv4
kind_at (suc (suc (suc (suc (suc zero))))) = Icmp
kind_at (suc (suc (suc (suc (suc (suc zero)))))) = Udp
kind_at (suc (suc (suc (suc (suc (suc (suc zero))))))) = Tcp
kind_at (suc (suc (suc (suc (suc (suc (suc (suc zero)))))))) = Payload
kind_at (suc (suc (suc (suc (suc (suc (suc (suc (suc n))))))))) = Pad

kind_at-number : (k : Kind) → kind_at (kind_number k) ≡ k
unfolding kind_at
kind_at-number Ppp = refl
kind_at-number Ethernet = refl
kind_at-number Trailer = refl
kind_at-number Arp = refl
kind_at-number Ipv4 = refl
kind_at-number Icmp = refl
kind_at-number Udp = refl
kind_at-number Tcp = refl
kind_at-number Payload = refl
kind_at-number Pad = refl

same_kind-true : (a b : Kind) → same_kind a b ≡ true → a ≡ b
same_kind-true a b h =
    sym (kind_at-number a) ∙ ap kind_at (eqb-true (kind_number a) (kind_number b) h) ∙ kind_at-number b

-- two items that are halves of one part
pub record GoesOn (i j : Item) : Type 0 where
  pub kind : i.kind ≡ j.kind
  pub size : i.size ≡ j.size
  pub place : i.size - i.cut_back ≡ j.cut_front

pub goes_on-true : (i j : Item) → goes_on i j ≡ true → GoesOn i j
goes_on-true i j h =
    let both = and_parts (same_kind i.kind j.kind) (i.size == j.size && i.size - i.cut_back == j.cut_front) h in
    let numbers = and_parts (i.size == j.size) (i.size - i.cut_back == j.cut_front) both.1 in
    record { kind = same_kind-true i.kind j.kind both.0; size = eqb-true i.size j.size numbers.0; place = eqb-true (i.size - i.cut_back) j.cut_front numbers.1 }

pub total_left-one : (i : Item) → total_left (i ∷ []) ≡ left i
total_left-one i = omega (arith, total_left-cons i [])

pub left-joined : (i j : Item) → IsLeft i → IsLeft j → GoesOn i j → left (record i { cut_back = j.cut_back }) ≡ left i + left j
left-joined i j here there on = omega (arith, here, there, on.size, on.place)

IsLeft-joined : (i j : Item) → IsLeft i → IsLeft j → GoesOn i j → IsLeft (record i { cut_back = j.cut_back })
IsLeft-joined i j here there on = omega (arith, here, there, on.size, on.place)

pub join_items-nil : (is : List Item) → join_items is [] ≡ is
join_items-nil [] = refl
join_items-nil (i ∷ []) = refl
join_items-nil (i ∷ k ∷ is) = ap (λ xs. i ∷ xs) (join_items-nil (k ∷ is))

pub total_left-join_items : (is js : List Item) → All IsLeft is → All IsLeft js → total_left (join_items is js) ≡ total_left is + total_left js
total_left-join_items [] js front back = omega arith
total_left-join_items (i ∷ []) [] front back = omega arith
total_left-join_items (i ∷ []) (j ∷ js) front back =
    let here : IsLeft i = All-head IsLeft i [] front in
    let there : IsLeft j = All-head IsLeft j js back in
    let one = total_left-one i in
    let later = total_left-cons j js in
    let joined = record i { cut_back = j.cut_back } in
    cond_both (goes_on i j) (joined ∷ js) (i ∷ j ∷ js) (λ xs. total_left xs ≡ total_left (i ∷ []) + total_left (j ∷ js))
    (λ on.
    let sum = left-joined i j here there (goes_on-true i j on) in
    total_left-cons joined js ∙ ap (λ n. n + total_left js) sum ∙ omega (arith, one, later))
    (λ off. total_left-cons i (j ∷ js) ∙ omega (arith, one, later))
total_left-join_items (i ∷ k ∷ is) js front back =
    let rest = total_left-join_items (k ∷ is) js (All-tail IsLeft i (k ∷ is) front) back in
    let before = total_left-cons i (k ∷ is) in
    total_left-cons i (join_items (k ∷ is) js) ∙ omega (arith, rest, before)

pub All-join_items : (is js : List Item) → All IsLeft is → All IsLeft js → All IsLeft (join_items is js)
All-join_items [] js front back = back
All-join_items (i ∷ []) [] front back = front
All-join_items (i ∷ []) (j ∷ js) front back =
    let here : IsLeft i = All-head IsLeft i [] front in
    let there : IsLeft j = All-head IsLeft j js back in
    let joined = record i { cut_back = j.cut_back } in
    cond_both (goes_on i j) (joined ∷ js) (i ∷ j ∷ js) (All IsLeft)
    (λ on. All-cons IsLeft joined js (IsLeft-joined i j here there (goes_on-true i j on)) (All-tail IsLeft j js back))
    (λ off. All-cons IsLeft i (j ∷ js) here back)
All-join_items (i ∷ k ∷ is) js front back =
    All-cons IsLeft i (join_items (k ∷ is) js) (All-head IsLeft i (k ∷ is) front)
    (All-join_items (k ∷ is) js (All-tail IsLeft i (k ∷ is) front) back)

-- two halves become one item in the last one's place
pub join_items-on : (is js : List Item) (i j : Item) → goes_on i j ≡ true → join_items (is ++ (i ∷ [])) (j ∷ js) ≡ is ++ (record i { cut_back = j.cut_back } ∷ js)
join_items-on [] js i j on = cond-true (goes_on i j) _ _ on
join_items-on (k ∷ []) js i j on = ap (λ xs. k ∷ xs) (join_items-on [] js i j on)
join_items-on (k ∷ l ∷ is) js i j on = ap (λ xs. k ∷ xs) (join_items-on (l ∷ is) js i j on)

-- any other items only stand one behind the other
pub join_items-off : (is js : List Item) (i j : Item) → goes_on i j ≡ false → join_items (is ++ (i ∷ [])) (j ∷ js) ≡ (is ++ (i ∷ [])) ++ (j ∷ js)
join_items-off [] js i j off = cond-false (goes_on i j) _ _ off
join_items-off (k ∷ []) js i j off = ap (λ xs. k ∷ xs) (join_items-off [] js i j off)
join_items-off (k ∷ l ∷ is) js i j off = ap (λ xs. k ∷ xs) (join_items-off (l ∷ is) js i j off)
