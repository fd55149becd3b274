-- Items that go into slots, out of them in an order, and back.
use Rattle.std.proofs.Common.{◌≡◌, ℕ, suc, zero, ◌+◌, ◌<◌, ◌≤◌, set, length-set, List, [], ◌∷◌, ◌++◌, length, map, reverse, Option, Some, None, slice_get, refl, sym, ap, ◌∙◌, inl, inr, arith}
use Rattle.std.proofs.lemmas.Bool.{cases_eq}
use Rattle.std.proofs.lemmas.List.{append_assoc, length-append, length-map, reverse-append}
use Rattle.std.specs.Option.{option_map}
use Rattle.std.specs.Fork.{AcceptsEach, ChangesAt}
use denote.Param.Members.{Shared}
use denote.Ref.{MutBor}
use Rattle.row_work.specs.Made.{AcceptsInOrder, AreMade, ChangesInOrder}
use Rattle.std.proofs.lemmas.Option.{none-some, slice_get-map, slice_get_cases, slice_get_within}
use Rattle.row_work.specs.Order.{AreNumbers}
use Rattle.row_work.specs.Slots.{AreAt, IsFilled, LieAt}
use Rattle.row_work.proofs.MadeLaws.{accepts-at, get-set_other, get-set_same}
use Rattle.row_work.proofs.OrderLaws.{everywhere, numbers-length, once, within}

module _ {A : Type 0} where
  get-front : (xs ys : List A) (k : ℕ) → k < length xs → slice_get (xs ++ ys) k ≡ slice_get xs k
  get-front [] ys k low = absurd (omega arith)
  get-front (x ∷ xs) ys zero low = refl
  get-front (x ∷ xs) ys (suc k) low = get-front xs ys k (omega arith)

  get-last : (xs : List A) (y : A) → slice_get (xs ++ y ∷ []) (length xs) ≡ Some y
  get-last [] y = refl
  get-last (x ∷ xs) y = get-last xs y

module _ {T : Type 0} where
  some-inside : (o : Option T) (x : T) → option_map Some o ≡ Some (Some x) → o ≡ Some x
  some-inside None x is = absurd (none-some (Some x) is)
  some-inside (Some y) x is = cc

  -- the items before a place of the order have been taken out
  pub record TakenTo (order : List ℕ) (old now : List (Option T)) (drawn : List T) (at : ℕ) : Type 0 where
    pub count : length now ≡ length old
    pub long : length drawn ≡ at
    pub taken : (k n : ℕ) (item : T) → k < at → slice_get order k ≡ Some n → slice_get old n ≡ Some (Some item) → slice_get drawn k ≡ Some item
    pub rest : (k n : ℕ) → at ≤ k → slice_get order k ≡ Some n → slice_get now n ≡ slice_get old n

  -- the items behind those that are left have been put back
  pub record PutFrom (order : List ℕ) (all : List T) (before : List (Option T)) (left : List T) (now : List (Option T)) : Type 0 where
    pub count : length now ≡ length before
    pub few : length left ≤ length all
    pub left_is : (k : ℕ) → k < length left → slice_get left k ≡ slice_get all k
    pub put : (k n : ℕ) (item : T) → length left ≤ k → slice_get order k ≡ Some n → slice_get all k ≡ Some item → slice_get now n ≡ Some (Some item)

  module _ (order : List ℕ) (old : List (Option T)) (numbers : AreNumbers (length old) order) where
    pub taken-step : (now new : List (Option T)) (drawn more : List T) (at place : ℕ) (item : T) → TakenTo order old now drawn at →
        slice_get order at ≡ Some place → slice_get now place ≡ Some (Some item) → new ≡ set now place None → more ≡ drawn ++ item ∷ [] →
        TakenTo order old new more (at + 1)
    taken-step now new drawn more at place item so_far there is after with = record {
      count = ap length after ∙ length-set now place None ∙ so_far.count;
      long = ap length with ∙ length-append drawn (item ∷ []) ∙ ap (λ n. n + 1) so_far.long;
      taken = taken;
      rest = λ k n le stands.
          ap (λ l. slice_get l n) after
          ∙ get-set_other now place n None (λ same. let e = once (length old) order numbers k at place (stands ∙ ap Some same) there in omega arith)
          ∙ so_far.rest k n (omega arith) stands;
    }
      where
        taken : (k n : ℕ) (x : T) → k < at + 1 → slice_get order k ≡ Some n → slice_get old n ≡ Some (Some x) → slice_get more k ≡ Some x
        taken k n x lt stands was = elim (cases_eq k at) [
          | inl same ↦
              let number : n ≡ place = let s : Some n ≡ Some place = sym stands ∙ ap (slice_get order) same ∙ there in cc in
              let read : Some (Some item) ≡ Some (Some x) = sym is ∙ so_far.rest at place (omega arith) there ∙ ap (slice_get old) (sym number) ∙ was in
              let eq : item ≡ x = cc in
              ap (λ l. slice_get l k) with ∙ ap (slice_get (drawn ++ item ∷ [])) (same ∙ sym so_far.long) ∙ get-last drawn item ∙ ap Some eq
          | inr other ↦
              ap (λ l. slice_get l k) with
              ∙ get-front drawn (item ∷ []) k (let long = so_far.long in omega arith)
              ∙ so_far.taken k n x (omega arith) stands was
        ]

    pub taken-last : (now : List (Option T)) (drawn : List T) (at : ℕ) → length order ≤ at → TakenTo order old now drawn at → AreAt order old drawn
    taken-last now drawn at past so_far k n item stands was = so_far.taken k n item (let low = slice_get_within order k n stands in omega arith) stands was

    -- the next slot still has its item
    pub taken-next : (now : List (Option T)) (drawn : List T) (at place : ℕ) → IsFilled old → TakenTo order old now drawn at →
        slice_get order at ≡ Some place → (item : T) × (slice_get now place ≡ Some (Some item))
    taken-next now drawn at place full so_far there =
        let was = full place (within (length old) order numbers at place there) in
        (was.0, so_far.rest at place (omega arith) there ∙ was.1)

  module _ (order : List ℕ) (all : List T) (before : List (Option T)) (numbers : AreNumbers (length before) order) where
    pub put-step : (left rest : List T) (now new : List (Option T)) (place : ℕ) (item : T) → PutFrom order all before left now →
        left ≡ rest ++ item ∷ [] → slice_get order (length rest) ≡ Some place → place < length now → new ≡ set now place (Some item) →
        PutFrom order all before rest new
    put-step left rest now new place item so_far is there low after =
        let long : length left ≡ length rest + 1 = ap length is ∙ length-append rest (item ∷ []) in
        record {
          count = ap length after ∙ length-set now place (Some item) ∙ so_far.count;
          few = let few = so_far.few in omega arith;
          left_is = λ k lt. sym (get-front rest (item ∷ []) k lt) ∙ ap (λ l. slice_get l k) (sym is) ∙ so_far.left_is k (omega arith);
          put = put long;
        }
      where
        put : length left ≡ length rest + 1 → (k n : ℕ) (x : T) → length rest ≤ k → slice_get order k ≡ Some n → slice_get all k ≡ Some x → slice_get new n ≡ Some (Some x)
        put long k n x le stands there_is = elim (cases_eq k (length rest)) [
          | inl same ↦
              let number : n ≡ place = let s : Some n ≡ Some place = sym stands ∙ ap (slice_get order) same ∙ there in cc in
              let read : Some item ≡ Some x =
              sym (get-last rest item) ∙ ap (λ l. slice_get l (length rest)) (sym is) ∙ so_far.left_is (length rest) (omega arith)
              ∙ ap (slice_get all) (sym same) ∙ there_is in
              ap (slice_get new) number ∙ ap (λ l. slice_get l place) after ∙ get-set_same now place (Some item) low ∙ ap Some read
          | inr other ↦
              ap (λ l. slice_get l n) after
              ∙ get-set_other now place n (Some item) (λ same. other (once (length before) order numbers k (length rest) place (stands ∙ ap Some same) there))
              ∙ so_far.put k n x (omega arith) stands there_is
        ]

  -- where the last of full slots is taken away, the others are full, and it had an item
  module _ (slots rest : List (Option T)) (last : Option T) (full : IsFilled slots) (is : slots ≡ rest ++ last ∷ []) where
    pub rest-length : length slots ≡ length rest + 1
    rest-length = ap length is ∙ length-append rest (last ∷ [])

    pub rest-filled : IsFilled rest
    rest-filled n low =
        let was = full n (let l = rest-length in omega arith) in
        (was.0, sym (get-front rest (last ∷ []) n low) ∙ ap (λ l. slice_get l n) (sym is) ∙ was.1)

    pub last-filled : last ≡ None → ⊥
    last-filled none =
        let was = full (length rest) (let l = rest-length in omega arith) in
        let read : Some last ≡ Some (Some was.0) = sym (get-last rest last) ∙ ap (λ l. slice_get l (length rest)) (sym is) ∙ was.1 in
        let same : last ≡ Some was.0 = cc in
        none-some was.0 (sym none ∙ same)

  -- one more item has come back
  pub come-back : (slots rest all : List (Option T)) (items : List T) (item : T) → slots ++ map Some (reverse items) ≡ all →
      slots ≡ rest ++ Some item ∷ [] → rest ++ map Some (reverse (items ++ item ∷ [])) ≡ all
  come-back slots rest all items item moved is =
      ap (λ l. rest ++ map Some l) (reverse-append items (item ∷ [])) ∙ sym (append_assoc rest (Some item ∷ []) (map Some (reverse items)))
      ∙ ap (λ l. l ++ map Some (reverse items)) (sym is) ∙ moved

  pub map-filled : (items : List T) → IsFilled (map Some items)
  map-filled items n low = elim (slice_get_cases items n).1 [
    | inl found ↦ (found.0, slice_get-map Some items n ∙ ap (option_map Some) found.2)
    | inr past ↦ absurd (let high = past.0 in let len = length-map items Some in omega arith)
  ]

  -- slots into which all items of a row were put back are full
  pub back-filled : (count : ℕ) (order : List ℕ) (items : List T) (slots : List (Option T)) → AreNumbers count order → length items ≡ count →
      length slots ≡ count → LieAt order items slots → IsFilled slots
  back-filled count order items slots numbers long wide lie n low =
      let place = everywhere count order numbers n (omega arith) in
      let known = numbers-length count order numbers in
      elim (slice_get_cases items place.0).1 [
        | inl found ↦ (found.0, lie place.0 n found.0 place.1 found.2)
        | inr past ↦ absurd (let high = past.0 in let in_order = slice_get_within order place.0 n place.1 in omega arith)
      ]

  module _ {F : Type 0} (g : Shared F (ℕ × (MutBor T × Unit {0})) (Unit {0} × (MutBor T × Unit {0}))) (f : F) (order : List ℕ) (items drawn : List T)
      (numbers : AreNumbers (length items) order) (taken : AreAt order (map Some items) drawn) where
    pub accepts-drawn : AcceptsEach g f items → AcceptsInOrder g f order drawn
    accepts-drawn each k place item stands there =
        let was = map-filled items place (let low = within (length items) order numbers k place stands in let len = length-map items Some in omega arith) in
        let read : Some was.0 ≡ Some item = sym (taken k place was.0 stands was.1) ∙ there in
        let lies : option_map Some (slice_get items place) ≡ Some (Some item) = sym (slice_get-map Some items place) ∙ was.1 ∙ ap (λ o. Some o) read in
        accepts-at g f items place item each (some-inside (slice_get items place) item lies)

    -- the items that were made of those in the row, back in their slots, are made of those in the list
    pub worked : (made : List T) (slots : List (Option T)) (new : List T) → AreMade (ChangesInOrder g f order) drawn made → LieAt order made slots →
        length slots ≡ length items → map Some new ≡ slots → AreMade (ChangesAt g f) items new
    worked made slots new are lie wide is = record { count = sym (length-map new Some) ∙ ap length is ∙ wide; each = each }
      where
        each : (n : ℕ) (from : T) → slice_get items n ≡ Some from → (item : T) × (slice_get new n ≡ Some item) × ChangesAt g f n from item
        each n from at =
            let place = everywhere (length items) order numbers n (slice_get_within items n from at) in
            let in_row = taken place.0 n from place.1 (slice_get-map Some items n ∙ ap (option_map Some) at) in
            let done = are.each place.0 from in_row in
            let back = lie place.0 n done.0 place.1 done.1 in
            let there : option_map Some (slice_get new n) ≡ Some (Some done.0) = sym (slice_get-map Some new n) ∙ ap (λ l. slice_get l n) is ∙ back in
            (done.0, some-inside (slice_get new n) done.0 there, done.2 n place.1)
