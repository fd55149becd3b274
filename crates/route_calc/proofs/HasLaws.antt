-- Elements of lists that are made of others: joined, mapped and filtered.
use Rattle.std.proofs.Common.{◌≡◌, ◌⊎◌, inl, inr, Bool, true, false, cond, List, [], ◌∷◌, ◌++◌, map, filter, Option, Some, None, refl, sym, ap, subst, ◌∙◌}
use Rattle.std.specs.Prelude.{◌||◌}
use Rattle.std.specs.List.{Contains, cons_option, filter_map, flat_map, list_any}
use Rattle.route_calc.proofs.ListLaws.{contains-cons, contains-head, contains-none, contains-tail}

-- x is one of the elements
unfoldable pub Has : {X : Type 0} → List X → X → Type 0
Has [] x = ⊥
Has (y ∷ ys) x = (y ≡ x) ⊎ Has ys x

pub has-from : {X : Type 0} (xs : List X) (x : X) → Contains xs x → Has xs x
unfolding Has
has-from [] x c = contains-none [] x refl c
has-from {X} (y ∷ ys) x c = go (λ h. has-from ys x h) (contains-cons y ys x c)
  where
    go : (Contains ys x → Has ys x) → (x ≡ y) ⊎ Contains ys x → (y ≡ x) ⊎ Has ys x
    go rest (inl e) = inl (sym e)
    go rest (inr h) = inr (rest h)

pub contains-from : {X : Type 0} (xs : List X) (x : X) → Has xs x → Contains xs x
unfolding Has
contains-from [] x h = absurd h
contains-from (y ∷ ys) x (inl e) = subst (Contains (y ∷ ys)) e (contains-head y ys)
contains-from (y ∷ ys) x (inr h) = contains-tail y ys x (contains-from ys x h)

pub has-left : {X : Type 0} (xs ys : List X) (x : X) → Has xs x → Has (xs ++ ys) x
unfolding Has
has-left [] ys x h = absurd h
has-left (y ∷ more) ys x (inl e) = inl e
has-left (y ∷ more) ys x (inr h) = inr (has-left more ys x h)

pub has-right : {X : Type 0} (xs ys : List X) (x : X) → Has ys x → Has (xs ++ ys) x
unfolding Has
has-right [] ys x h = h
has-right (y ∷ more) ys x h = inr (has-right more ys x h)

pub has-cases : {X : Type 0} (xs ys : List X) (x : X) → Has (xs ++ ys) x → Has xs x ⊎ Has ys x
unfolding Has
has-cases [] ys x h = inr h
has-cases (y ∷ more) ys x (inl e) = inl (inl e)
has-cases (y ∷ more) ys x (inr h) = go (has-cases more ys x h)
  where
    go : Has more x ⊎ Has ys x → ((y ≡ x) ⊎ Has more x) ⊎ Has ys x
    go (inl a) = inl (inr a)
    go (inr b) = inr b

pub has-map : {X Y : Type 0} (f : X → Y) (xs : List X) (x : X) → Has xs x → Has (map f xs) (f x)
unfolding Has
has-map f [] x h = absurd h
has-map f (y ∷ ys) x (inl e) = inl (ap f e)
has-map f (y ∷ ys) x (inr h) = inr (has-map f ys x h)

pub map-has : {X Y : Type 0} (f : X → Y) (xs : List X) (y : Y) → Has (map f xs) y → (x : X) × Has xs x × (f x ≡ y)
unfolding Has
map-has f [] y h = absurd h
map-has f (x ∷ xs) y (inl e) = (x, inl refl, e)
map-has f (x ∷ xs) y (inr h) = let rest = map-has f xs y h in (rest.0, inr rest.1, rest.2)

pub has-flat_map : {X Y : Type 0} (f : X → List Y) (xs : List X) (x : X) (y : Y) → Has xs x → Has (f x) y → Has (flat_map f xs) y
unfolding Has
has-flat_map f [] x y h k = absurd h
has-flat_map f (z ∷ zs) x y (inl e) k = has-left (f z) (flat_map f zs) y (subst (λ v. Has (f v) y) (sym e) k)
has-flat_map f (z ∷ zs) x y (inr h) k = has-right (f z) (flat_map f zs) y (has-flat_map f zs x y h k)

pub flat_map-has : {X Y : Type 0} (f : X → List Y) (xs : List X) (y : Y) → Has (flat_map f xs) y → (x : X) × Has xs x × Has (f x) y
unfolding Has
flat_map-has f [] y h = absurd h
flat_map-has {X} f (x ∷ xs) y h = go (λ later. flat_map-has f xs y later) (has-cases (f x) (flat_map f xs) y h)
  where
    go : (Has (flat_map f xs) y → (z : X) × Has xs z × Has (f z) y) → Has (f x) y ⊎ Has (flat_map f xs) y → (z : X) × ((x ≡ z) ⊎ Has xs z) × Has (f z) y
    go more (inl here) = (x, inl refl, here)
    go more (inr later) = let rest = more later in (rest.0, inr rest.1, rest.2)

pub has-filter : {X : Type 0} (p : X → Bool) (xs : List X) (x : X) → Has xs x → p x ≡ true → Has (filter p xs) x
unfolding Has
has-filter p [] x h t = absurd h
has-filter p (y ∷ ys) x (inl e) t = subst (λ b. Has (cond b (y ∷ filter p ys) (filter p ys)) x) (sym (ap p e ∙ t)) (inl e)
has-filter p (y ∷ ys) x (inr h) t = later (p y) (has-filter p ys x h t)
  where
    later : (b : Bool) → Has (filter p ys) x → Has (cond b (y ∷ filter p ys) (filter p ys)) x
    later true r = inr r
    later false r = r

pub filter-has : {X : Type 0} (p : X → Bool) (xs : List X) (x : X) → Has (filter p xs) x → Has xs x × (p x ≡ true)
unfolding Has
filter-has p [] x h = absurd h
filter-has p (y ∷ ys) x h = go (λ r. filter-has p ys x r) (p y) refl h
  where
    go : (Has (filter p ys) x → Has ys x × (p x ≡ true)) → (b : Bool) → p y ≡ b → Has (cond b (y ∷ filter p ys) (filter p ys)) x → ((y ≡ x) ⊎ Has ys x) × (p x ≡ true)
    go more true is (inl e) = (inl e, ap p (sym e) ∙ is)
    go more true is (inr r) = let rest = more r in (inr rest.0, rest.1)
    go more false is r = let rest = more r in (inr rest.0, rest.1)

pub has-filter_map : {X Y : Type 0} (f : X → Option Y) (xs : List X) (x : X) (y : Y) → Has xs x → f x ≡ Some y → Has (filter_map f xs) y
unfolding Has
has-filter_map f [] x y h e = absurd h
has-filter_map {Y = Y} f (z ∷ zs) x y (inl i) e = subst (λ o. Has (cons_option o (filter_map f zs)) y) (sym (ap f i ∙ e)) (inl refl)
has-filter_map {Y = Y} f (z ∷ zs) x y (inr h) e = later (f z) (has-filter_map f zs x y h e)
  where
    later : (o : Option Y) → Has (filter_map f zs) y → Has (cons_option o (filter_map f zs)) y
    later None r = r
    later (Some w) r = inr r

pub filter_map-has : {X Y : Type 0} (f : X → Option Y) (xs : List X) (y : Y) → Has (filter_map f xs) y → (x : X) × Has xs x × (f x ≡ Some y)
unfolding Has
filter_map-has f [] y h = absurd h
filter_map-has {X} {Y} f (x ∷ xs) y h = go (λ r. filter_map-has f xs y r) (f x) refl h
  where
    go : (Has (filter_map f xs) y → (z : X) × Has xs z × (f z ≡ Some y)) → (o : Option Y) → f x ≡ o → Has (cons_option o (filter_map f xs)) y → (z : X) × ((x ≡ z) ⊎ Has xs z) × (f z ≡ Some y)
    go more None is r = let rest = more r in (rest.0, inr rest.1, rest.2)
    go more (Some w) is (inl e) = (x, inl refl, is ∙ ap Some e)
    go more (Some w) is (inr r) = let rest = more r in (rest.0, inr rest.1, rest.2)

pub any-has : {X : Type 0} (p : X → Bool) (xs : List X) → list_any p xs ≡ true → (x : X) × Has xs x × (p x ≡ true)
unfolding Has
any-has p [] h = absurd (let e : false ≡ true = h in cc)
any-has {X} p (x ∷ xs) h = go (λ e. any-has p xs e) (p x) refl h
  where
    go : (list_any p xs ≡ true → (z : X) × Has xs z × (p z ≡ true)) → (b : Bool) → p x ≡ b → (b || list_any p xs) ≡ true → (z : X) × ((x ≡ z) ⊎ Has xs z) × (p z ≡ true)
    go more true is e = (x, inl refl, is)
    go more false is e = let rest = more e in (rest.0, inr rest.1, rest.2)

pub or-true : (b c : Bool) → c ≡ true → (b || c) ≡ true
or-true true c h = refl
or-true false c h = h

pub has-any : {X : Type 0} (p : X → Bool) (xs : List X) (x : X) → Has xs x → p x ≡ true → list_any p xs ≡ true
unfolding Has
has-any p [] x h e = absurd h
has-any p (y ∷ ys) x (inl i) e = ap (λ b. b || list_any p ys) (ap p i ∙ e)
has-any p (y ∷ ys) x (inr h) e = or-true (p y) (list_any p ys) (has-any p ys x h e)
