-- What a class may still give while another waits.
use Rattle.std.proofs.Common.{◌≡◌, ◌≢◌, ℕ, zero, suc, ◌+◌, ◌*◌, ◌-◌, ◌<◌, ◌≤◌, Bool, true, false, cond, List, [], ◌∷◌, ◌++◌, Option, Some, None, IsNone, fold, refl, sym, ap, ◌∙◌, subst, arith, get_or, set, inl, inr, ◌⊎◌, length, get_or-set_same, get_or-set_other}
use Rattle.std.proofs.lemmas.Bool.{cond_both, cond-true, cond-false, cases_eq, cases_lt, or_cases, or_parts, or_left, or_right}
use Rattle.std.proofs.lemmas.Int.{ints}
use Rattle.std.proofs.lemmas.List.Folds.{list_any-append}
use Rattle.std.proofs.lemmas.List.{get_or_past}
use Rattle.std.proofs.lemmas.List.Elements.{All-get_or}
use Rattle.std.specs.List.{list_any}
use Rattle.std.specs.Option.{option_to_list}
use Rattle.std.specs.Prelude.{◌==◌, ◌||◌, ℤ, pos, negsuc, ◌+ℤ◌, ◌-ℤ◌, ◌≤ℤ◌, int_lt}
use Rattle.sim_base.specs.Packet.{Packet, len}
use Rattle.codel_disc.specs.declared.turn.Turn.{Turn}
use Rattle.codel_disc.specs.declared.turn.Turn.TheVariants.{Gave, Passed, Over}
use Rattle.codel_disc.specs.declared.waiting.Waiting.{Waiting}
use Rattle.codel_disc.specs.Class as codel
use Rattle.codel_disc.specs.Class.{PlainClass, Taken, with_frame}
use Rattle.codel_disc.specs.Fairness.{Step, keep, take, stepped, after_steps, turn_bytes, bytes_in, bytes_over, GoesBack, WaitsThroughout, KeepsWithin, IsFair}
use Rattle.codel_disc.specs.Flows.{PlainFlows, Turned, class_at, class_of, credit_at, empty_flows, kept, refilled, served_with, turn, turn_of, with_class}
use Rattle.codel_disc.specs.Order.{IsWithin}
use Rattle.codel_disc.specs.Roster.{first, stands, sent_back_in, let_go_in}
use Rattle.codel_disc.proofs.FlowLaws.{self-eq, apart-eq, woken_parts}
use Rattle.codel_disc.proofs.SoundLaws.{Sound, IsHome, AreHome, after_keep, all_split, class_by-known, empty_sound, first_in-known, sound_kept, turn_of-keeps}
use Rattle.codel_disc.proofs.RosterLaws.{counted, one, counted-append, counted-cons, counted-push, none_counts, one-same, one-other}
use Rattle.codel_disc.proofs.TakenLaws.{next-all, none-empty}

abbrev pub any : ℕ → List ℕ → Bool
any b xs = list_any (λ j. j == b) xs

-- the classes in a list that come before one
pub ahead : ℕ → List ℕ → List ℕ
ahead a [] = []
ahead a (k ∷ ks) = cond (k == a) [] (k ∷ ahead a ks)

-- what a class may give in its turn
abbrev pub spend : ℕ → ℤ → ℕ
spend m (pos zero) = 0
spend m (pos (suc n)) = suc n + m
spend m (negsuc n) = 0

-- What a class b may still give before a goes to the end of old. Where b is new it has its credit. Where it is before a in old it
-- may leave and come anew. Where it is behind a it gives nothing
abbrev pub potential : ℕ → ℕ → ℕ → List ℕ → List ℕ → ℤ → ℕ
potential m a b new old credit =
    cond (any b new) (spend m credit) (cond (any b (ahead a old)) (spend m credit + (1518 + m)) (cond (any b old) 0 (1518 + m)))

spend-within : (m x : ℕ) (c : ℤ) → (c +ℤ pos m) ≤ℤ pos x → spend m c ≤ x
spend-within m x (pos zero) h = omega arith
spend-within m x (pos (suc n)) h = omega (arith, ints, h)
spend-within m x (negsuc n) h = omega arith

spend-at : (m : ℕ) (c : ℤ) → int_lt (pos 0) c ≡ true → pos (spend m c) ≡ c +ℤ pos m
spend-at m (pos zero) h = absurd (grind (arith, ints, h))
spend-at m (pos (suc n)) h = omega (arith, ints)
spend-at m (negsuc n) h = absurd (grind (arith, ints, h))

-- what is given leaves what may be given
pub spend-less : (m n : ℕ) (c : ℤ) → int_lt (pos 0) c ≡ true → n ≤ m → n + spend m (c -ℤ pos n) ≤ spend m c
spend-less m n c some short =
    let e = spend-at m c some in
    let low : m ≤ spend m c = grind (arith, ints, e, some) in
    let left : spend m (c -ℤ pos n) ≤ spend m c - n = spend-within m (spend m c - n) (c -ℤ pos n) (omega (arith, ints, e, low, short)) in
    omega (arith, left, low, short)

pub spend-most : (m : ℕ) (c : ℤ) → c ≤ℤ pos 1518 → spend m c ≤ 1518 + m
spend-most m c h = spend-within m (1518 + m) c (omega (arith, ints, h))

pub potential-most : (m a b : ℕ) (new old : List ℕ) (c : ℤ) → c ≤ℤ pos 1518 → potential m a b new old c ≤ 2 * (1518 + m)
potential-most m a b new old c h =
    let top = spend-most m c h in
    cond_both (any b new) _ _ (λ (x : ℕ). x ≤ 2 * (1518 + m)) (λ _. omega (arith, top))
    (λ _. cond_both (any b (ahead a old)) _ _ (λ (x : ℕ). x ≤ 2 * (1518 + m)) (λ _. omega (arith, top))
    (λ _. cond_both (any b old) _ _ (λ (x : ℕ). x ≤ 2 * (1518 + m)) (λ _. omega arith) (λ _. omega arith)))

-- where a class is

any-counted : (b : ℕ) (xs : List ℕ) → any b xs ≡ true → 1 ≤ counted b xs
any-counted b [] h = cc
any-counted b (x ∷ xs) h =
    elim (or_cases (x == b) (any b xs) h) [
      | inl here ↦ omega (arith, counted-cons b x xs, cond-true {A = ℕ} (x == b) 1 0 here)
      | inr later ↦ omega (arith, counted-cons b x xs, any-counted b xs later)
    ]

pub any-cons : (b k : ℕ) (xs : List ℕ) → b ≢ k → any b (k ∷ xs) ≡ any b xs
any-cons b k xs apart = ap (λ (t : Bool). t || any b xs) (apart-eq k b (λ (e : k ≡ b). apart (sym e)))

pub any-push : (b k : ℕ) (xs : List ℕ) → b ≢ k → any b (xs ++ k ∷ []) ≡ any b xs
any-push b k [] apart = any-cons b k [] apart
any-push b k (x ∷ xs) apart = ap (λ (t : Bool). (x == b) || t) (any-push b k xs apart)

pub any-last : (b : ℕ) (xs : List ℕ) → any b (xs ++ b ∷ []) ≡ true
any-last b xs = list_any-append (λ j. j == b) xs (b ∷ []) ∙ or_right (any b xs) _ (or_left (b == b) false (self-eq b))

pub any-grows : (b : ℕ) (xs : List ℕ) (k : ℕ) → any b xs ≡ true → any b (xs ++ k ∷ []) ≡ true
any-grows b xs k h = list_any-append (λ j. j == b) xs (k ∷ []) ∙ or_left (any b xs) _ h

ahead-push : (a k : ℕ) (xs : List ℕ) → any a xs ≡ true → ahead a (xs ++ k ∷ []) ≡ ahead a xs
unfolding ahead
ahead-push a k [] h = cc
ahead-push a k (x ∷ xs) h =
    elim (or_cases (x == a) (any a xs) h) [
      | inl here ↦ cond-true (x == a) _ _ here ∙ sym (cond-true (x == a) _ _ here)
      | inr later ↦ ap (λ (ks : List ℕ). cond (x == a) [] (x ∷ ks)) (ahead-push a k xs later)
    ]

ahead-cons : (a k : ℕ) (xs : List ℕ) → k ≢ a → ahead a (k ∷ xs) ≡ k ∷ ahead a xs
unfolding ahead
ahead-cons a k xs apart = cond-false (k == a) _ _ (apart-eq k a apart)

ahead-counted : (a b : ℕ) (xs : List ℕ) → counted b (ahead a xs) ≤ counted b xs
unfolding ahead
ahead-counted a b [] = omega arith
ahead-counted a b (x ∷ xs) =
    cond_both (x == a) [] (x ∷ ahead a xs) (λ (ks : List ℕ). counted b ks ≤ counted b (x ∷ xs))
    (λ _. omega arith)
    (λ _. omega (arith, counted-cons b x xs, counted-cons b x (ahead a xs), ahead-counted a b xs))

-- the potential by where the class is

at_back : (m a b : ℕ) (new old : List ℕ) (c : ℤ) → counted b new ≡ 0 → counted b (ahead a old) ≡ 0 → any b old ≡ true → potential m a b new old c ≡ 0
at_back m a b new old c x y z =
    cond-false (any b new) _ _ (none_counts b new x) ∙ cond-false (any b (ahead a old)) _ _ (none_counts b (ahead a old) y) ∙ cond-true (any b old) _ _ z

pub absent : (m a b : ℕ) (new old : List ℕ) (c : ℤ) → counted b new ≡ 0 → counted b old ≡ 0 → potential m a b new old c ≡ 1518 + m
absent m a b new old c x y =
    let z : counted b (ahead a old) ≡ 0 = omega (arith, ahead-counted a b old, y) in
    cond-false (any b new) _ _ (none_counts b new x) ∙ cond-false (any b (ahead a old)) _ _ (none_counts b (ahead a old) z)
    ∙ cond-false (any b old) _ _ (none_counts b old y)

pub in_new : (m a b : ℕ) (new old : List ℕ) (c : ℤ) → any b new ≡ true → potential m a b new old c ≡ spend m c
in_new m a b new old c h = cond-true (any b new) _ _ h

before : (m a b : ℕ) (old : List ℕ) (c : ℤ) → b ≢ a → potential m a b [] (b ∷ old) c ≡ spend m c + (1518 + m)
before m a b old c apart =
    cond-true (any b (ahead a (b ∷ old))) _ _ (ap (any b) (ahead-cons a b old apart) ∙ or_left (b == b) (any b (ahead a old)) (self-eq b))

pub alike : (m a b : ℕ) (new new' old old' : List ℕ) (c c' : ℤ) → any b new' ≡ any b new → any b (ahead a old') ≡ any b (ahead a old) → any b old' ≡ any b old →
    c' ≡ c → potential m a b new' old' c' ≡ potential m a b new old c
alike m a b new new' old old' c c' x y z e =
    ap (λ (t : Bool). cond t (spend m c') (cond (any b (ahead a old')) (spend m c' + (1518 + m)) (cond (any b old') 0 (1518 + m)))) x
    ∙ ap (λ (t : Bool). cond (any b new) (spend m c') (cond t (spend m c' + (1518 + m)) (cond (any b old') 0 (1518 + m)))) y
    ∙ ap (λ (t : Bool). cond (any b new) (spend m c') (cond (any b (ahead a old)) (spend m c' + (1518 + m)) (cond t 0 (1518 + m)))) z
    ∙ ap (potential m a b new old) e

abbrev pub Once : List ℕ → List ℕ → Type 0
Once new old = (q : ℕ) → counted q (new ++ old) ≤ 1

once_sum : (q : ℕ) (new old : List ℕ) → Once new old → counted q new + counted q old ≤ 1
once_sum q new old h = omega (arith, counted-append q new old, h q)

-- the first of the new ones goes to the end of old
pub moved-new : (m a b k : ℕ) (new old : List ℕ) (c c' : ℤ) → Once (k ∷ new) old → any a old ≡ true → (b ≢ k → c' ≡ c) →
    potential m a b new (old ++ k ∷ []) c' ≤ potential m a b (k ∷ new) old c
moved-new m a b k new old c c' once waits same =
    elim (cases_eq b k) [
      | inl here ↦
          let none = once_sum k (k ∷ new) old once in
          let e : potential m a k new (old ++ k ∷ []) c' ≡ 0 =
          at_back m a k new (old ++ k ∷ []) c' (omega (arith, none, counted-cons k k new, one-same k))
          (ap (counted k) (ahead-push a k old waits) ∙ omega (arith, none, counted-cons k k new, one-same k, ahead-counted a k old)) (any-last k old) in
          subst (λ (i : ℕ). potential m a i new (old ++ k ∷ []) c' ≤ potential m a i (k ∷ new) old c) (sym here) (omega (arith, e))
      | inr apart ↦
          let e = alike m a b (k ∷ new) new old (old ++ k ∷ []) c c' (sym (any-cons b k new apart)) (ap (any b) (ahead-push a k old waits)) (any-push b k old apart) (same apart) in
          omega (arith, e)
    ]

-- the first of the old ones goes to their end
pub moved-old : (m a b k : ℕ) (old : List ℕ) (c c' : ℤ) → k ≢ a → Once [] (k ∷ old) → any a old ≡ true → (b ≢ k → c' ≡ c) →
    potential m a b [] (old ++ k ∷ []) c' ≤ potential m a b [] (k ∷ old) c
moved-old m a b k old c c' other once waits same =
    elim (cases_eq b k) [
      | inl here ↦
          let none = once_sum k [] (k ∷ old) once in
          let e : potential m a k [] (old ++ k ∷ []) c' ≡ 0 =
          at_back m a k [] (old ++ k ∷ []) c' refl
          (ap (counted k) (ahead-push a k old waits) ∙ omega (arith, none, counted-cons k k old, one-same k, ahead-counted a k old)) (any-last k old) in
          subst (λ (i : ℕ). potential m a i [] (old ++ k ∷ []) c' ≤ potential m a i [] (k ∷ old) c) (sym here) (omega (arith, e))
      | inr apart ↦
          let e = alike m a b [] [] (k ∷ old) (old ++ k ∷ []) c c' refl
          (ap (any b) (ahead-push a k old waits) ∙ sym (any-cons b k (ahead a old) apart) ∙ ap (any b) (sym (ahead-cons a k old other)))
          (any-push b k old apart ∙ sym (any-cons b k old apart)) (same apart) in
          omega (arith, e)
    ]

-- the first of the old ones leaves
pub gone-old : (m a b k : ℕ) (old : List ℕ) (c : ℤ) → k ≢ a → Once [] (k ∷ old) → potential m a b [] old c ≤ potential m a b [] (k ∷ old) c
gone-old m a b k old c other once =
    elim (cases_eq b k) [
      | inl here ↦
          let none = once_sum k [] (k ∷ old) once in
          let e = absent m a k [] old c refl (omega (arith, none, counted-cons k k old, one-same k)) in
          let f = before m a k old c other in
          subst (λ (i : ℕ). potential m a i [] old c ≤ potential m a i [] (k ∷ old) c) (sym here) (omega (arith, e, f))
      | inr apart ↦
          let e = alike m a b [] [] (k ∷ old) old c c refl
          (sym (any-cons b k (ahead a old) apart) ∙ ap (any b) (sym (ahead-cons a k old other))) (sym (any-cons b k old apart)) refl in
          omega (arith, e)
    ]

-- a class that is first gives bytes
pub gave-new : (m a b : ℕ) (new old : List ℕ) (c : ℤ) (n : ℕ) → int_lt (pos 0) c ≡ true → n ≤ m →
    n + potential m a b (b ∷ new) old (c -ℤ pos n) ≤ potential m a b (b ∷ new) old c
gave-new m a b new old c n some short =
    let here : any b (b ∷ new) ≡ true = or_left (b == b) (any b new) (self-eq b) in
    omega (arith, in_new m a b (b ∷ new) old c here, in_new m a b (b ∷ new) old (c -ℤ pos n) here, spend-less m n c some short)

pub gave-old : (m a b : ℕ) (old : List ℕ) (c : ℤ) (n : ℕ) → b ≢ a → int_lt (pos 0) c ≡ true → n ≤ m →
    n + potential m a b [] (b ∷ old) (c -ℤ pos n) ≤ potential m a b [] (b ∷ old) c
gave-old m a b old c n apart some short =
    omega (arith, before m a b old c apart, before m a b old (c -ℤ pos n) apart, spend-less m n c some short)

-- steps

abbrev pub potential_of : ℕ → ℕ → ℕ → PlainFlows → ℕ
potential_of m a b f = potential m a b f.roster.new_ones f.roster.old_ones (credit_at b f)

-- n bytes were given, the class waits still, and no class stands twice
pub record Falls (m a b n : ℕ) (f g : PlainFlows) : Type 0 where
  pub less : n + potential_of m a b g ≤ potential_of m a b f
  pub waits : any a g.roster.old_ones ≡ true
  pub once : Once g.roster.new_ones g.roster.old_ones

pub once-moved-new : (k : ℕ) (new old : List ℕ) → Once (k ∷ new) old → Once new (old ++ k ∷ [])
once-moved-new k new old h q =
    omega (arith, h q, counted-append q (k ∷ new) old, counted-cons q k new, counted-append q new (old ++ k ∷ []), counted-push q k old)

pub once-moved-old : (k : ℕ) (old : List ℕ) → Once [] (k ∷ old) → Once [] (old ++ k ∷ [])
once-moved-old k old h q = omega (arith, h q, counted-cons q k old, counted-push q k old)

pub once-gone : (k : ℕ) (old : List ℕ) → Once [] (k ∷ old) → Once [] old
once-gone k old h q = omega (arith, h q, counted-cons q k old)

pub credit_other : (b k : ℕ) (credits : List ℤ) (c : ℤ) → b ≢ k → get_or (set credits k c) b (pos 0) ≡ get_or credits b (pos 0)
credit_other b k credits c apart = get_or-set_other credits k b c (pos 0) apart

pub credit_same : (k : ℕ) (credits : List ℤ) (c : ℤ) → k < length credits → get_or (set credits k c) k (pos 0) ≡ c
credit_same k credits c within = get_or-set_same credits k c (pos 0) within

pub bytes_same : (k : ℕ) (w : Waiting Packet) → turn_bytes k (Some k) (Gave w) ≡ len w.frame
bytes_same k w = cond-true (k == k) _ _ (self-eq k)

pub bytes_other : (b k : ℕ) (w : Waiting Packet) → b ≢ k → turn_bytes b (Some k) (Gave w) ≡ 0
bytes_other b k w apart = cond-false (k == b) _ _ (apart-eq k b (λ (e : k ≡ b). apart (sym e)))
