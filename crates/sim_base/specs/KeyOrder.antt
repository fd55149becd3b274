-- The order of events, and lists in that order.
use Rattle.std.specs.List.{AllByRecursion}
use Rattle.std.specs.Prelude.{◌≡◌, ℕ, Bool, true, false, List, [], ◌∷◌, ◌&&◌, ◌||◌, ◌==◌, nat_lt, if◌then◌else◌}
use Rattle.sim_base.specs.declared.key.Key.{Key}

-- the numbers of a key, in the order in which they count: time, target node, sending time, sending node, sender's count
abbrev pub numbers : Key → List ℕ
numbers k = k.time.0 ∷ k.node.0 ∷ k.sent.0 ∷ k.by.0 ∷ k.count ∷ []

-- whether one list of numbers stands before another in a dictionary
unfoldable pub earlier : List ℕ → List ℕ → Bool
earlier [] [] = false
earlier [] (y ∷ ys) = true
earlier (x ∷ xs) [] = false
earlier (x ∷ xs) (y ∷ ys) = nat_lt x y || (x == y && earlier xs ys)

-- whether an event with one key fires before an event with the other
unfoldable pub before : Key → Key → Bool
before a b = earlier (numbers a) (numbers b)

-- puts an item into a list in the order of keys, behind those of its own key
unfoldable pub insert_by : {A : Type 0} → (A → Key) → A → List A → List A
insert_by key_of x [] = x ∷ []
insert_by key_of x (y ∷ ys) = if before (key_of x) (key_of y) then x ∷ y ∷ ys else y ∷ insert_by key_of x ys

-- each key of a list comes before all that follow
abbrev pub IsRising : {A : Type 0} → (A → Key) → List A → Type 0
IsRising key_of [] = Unit {0}
IsRising key_of (x ∷ xs) = AllByRecursion (λ y. before (key_of x) (key_of y) ≡ true) xs × IsRising key_of xs
