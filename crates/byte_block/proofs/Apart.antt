-- Two ranges of one block that are held at once: a byte that may be written is in no other range, and a byte that may be read twice is one byte.
-- The ghost steps assume `Logic`, and that two shares of a place see one byte is `Model`'s.
use Rattle.std.proofs.Common.{◌≡◌, ◌≢◌, ℕ, zero, suc, ◌+◌, ◌-◌, ◌<◌, ◌≤◌, ◌⊎◌, inl, inr, List, [], ◌∷◌, length, refl, sym, ap, subst, ◌∙◌, arith}
use mathlib.Core.Option.{Option, none, some, some-injective, some-ne-none}
use native.Mathlib.Decide.{ℕ_discrete, dec_lt, dec_le}
use lib.ListN.{get_elem?}
use seplogic.Ra.Ura.{Ura}
use seplogic.Bi.Basic.{and, and_intro}
use base.Share
use base.Fraction.{full_share}
use base.Logic.{SProp, ent, sep, emp, guard, guard_e, never, never_e, via, fst∗, snd∗}
use base.Fml.{Lft, GName, Share, Fml, ffalse, fat, fex, flft, fbor, froom}
use mir.Syntax.{Ty, ty_int, w8}
use mir.Val.{Val, vint}
use prog.Model.{Model}
use types.Logic.{Logic, sem}
use types.Kit.{‵, later, ◌⊛◌, ◌$◌, ◌∵◌, !, qed, by, move, keep, use1, use2, use3, split, fsplit, fpick, fpack, await, rewrite, updating, now, done}
use types.Tokens.{bor_open}
use denote.Builtin.{u8}
use denote.Copied.{uint_Copied}
use denote.Memory.{part_at, cell_at, shared_of}
use denote.Opens.{hide}
use denote.Plain.{uint_out}
use denote.Slice.{elements_shared}
use denote.Steps.{looks, tied}
use Rattle.bytes.specs.Ownership.{cell, closed}
use Rattle.byte_block.specs.Places.{AreApart, Agree}

abbrev byte_type : Ty
byte_type = ty_int w8

-- an element at a place that the list has
pub at_within : (xs : List ℕ) (k : ℕ) → k < length xs → (x : ℕ) × (get_elem? xs k ≡ some x)
at_within [] k h = absurd (omega (arith, h))
at_within (x ∷ xs) zero h = (x, refl)
at_within (x ∷ xs) (suc k) h = at_within xs k (omega (arith, h))

module _ {M : Type 1} {𝓤 : Ura M} (𝓛 : Logic 𝓤) (𝓜 : Model 𝓤 𝓛.H) (a b i : ℕ) (q : Share) where
  open 𝓛 use {H}

  abbrev ⟦◌⟧ : Fml → SProp 𝓤
  ⟦ P ⟧ = sem 𝓛 P

  abbrev life : Lft
  life = a ∷ []

  abbrev lies : Share → ℕ → Fml
  lies p x = fat p byte_type b i (vint w8 x)

  -- who may write a byte holds all of it
  whole_clash : (p : Share) (x y : ℕ) → ent 𝓤 (sep 𝓤 ⟦ lies full_share x ⟧ ⟦ lies p y ⟧) ⟦ ffalse ⟧
  whole_clash p x y =
      qed 𝓛 (‵ (lies full_share x) ∷ ‵ (lies p y) ∷ []) ∵ use1 𝓛 (‵ (froom byte_type b i)) (𝓛.laws.at_room byte_type b i (vint w8 x)) $
      by ! (𝓜.room_at byte_type byte_type b i i i p (vint w8 y) (omega arith, omega arith) (omega arith, omega arith))

  number_of : Val → ℕ
  number_of (vint w n) = n
  number_of _ = 0

  -- two shares see one byte
  share_clash : (p p' : Share) (x y : ℕ) → x ≢ y → ent 𝓤 (sep 𝓤 ⟦ lies p x ⟧ ⟦ lies p' y ⟧) ⟦ ffalse ⟧
  unfolding number_of
  share_clash p p' x y differ =
      via 𝓤 (and 𝓤.op ⟦ lies p x ⟧ ⟦ lies p' y ⟧) (and_intro 𝓤.op (fst∗ 𝓤 ⟦ lies p x ⟧ ⟦ lies p' y ⟧) (snd∗ 𝓤 ⟦ lies p x ⟧ ⟦ lies p' y ⟧))
      (via 𝓤 (guard 𝓤 (vint w8 x ≡ vint w8 y) (emp 𝓤)) (𝓜.at_agree p p' byte_type b i (vint w8 x) (vint w8 y))
      (guard_e 𝓤 (vint w8 x ≡ vint w8 y) (emp 𝓤) (λ same. absurd (differ (ap number_of same)))))

  -- a byte is borrowed once
  borrows_clash : (γ δ : GName) → ent 𝓤 (sep 𝓤 ⟦ fbor life (cell b i γ) ⟧ (sep 𝓤 ⟦ fbor life (cell b i δ) ⟧ ⟦ flft life q ⟧)) (H.⇛ ⟦ ffalse ⟧)
  borrows_clash γ δ =
      qed 𝓛 (‵ (fbor life (cell b i γ)) ∷ ‵ (fbor life (cell b i δ)) ∷ ‵ (flft life q) ∷ []) ∵ updating ! $ move ! (2 ∷ []) $
      use1 𝓛 (‵ (flft life (Share.left q)) ⊛ ‵ (flft life (Share.right q))) (𝓛.lfts.lft_split life q) $ split ! $ move ! (2 ∷ 0 ∷ []) $
      bor_open ! tt $ move ! (1 ∷ []) $ fpick ! (λ x. fsplit ! $ move ! (4 ∷ 3 ∷ []) $
      bor_open ! tt $ move ! (1 ∷ []) $ fpick ! (λ y. fsplit ! $ keep ! (3 ∷ 0 ∷ []) $
      use1 𝓛 (‵ (lies full_share x)) (uint_out 𝓛 full_share w8 x b i) $ move ! (1 ∷ []) $
      use1 𝓛 (‵ (lies full_share y)) (uint_out 𝓛 full_share w8 y b i) $
      use2 𝓛 (‵ ffalse) (whole_clash full_share y x) $ now ! $ done !))

  -- a byte that is borrowed isn't shared
  shared_clash : (γ : GName) (y : ℕ) → ent 𝓤 (sep 𝓤 ⟦ fbor life (cell b i γ) ⟧ (sep 𝓤 ⟦ shared_of u8 y b i life ⟧ ⟦ flft life q ⟧)) (H.⇛ ⟦ ffalse ⟧)
  shared_clash γ y =
      qed 𝓛 (‵ (fbor life (cell b i γ)) ∷ ‵ (shared_of u8 y b i life) ∷ ‵ (flft life q) ∷ []) ∵ updating ! $ move ! (2 ∷ []) $
      use1 𝓛 (‵ (flft life (Share.left q)) ⊛ ‵ (flft life (Share.right q))) (𝓛.lfts.lft_split life q) $ split ! $ move ! (2 ∷ 0 ∷ []) $
      bor_open ! tt $ move ! (1 ∷ []) $ fpick ! (λ x. fsplit ! $ move ! (4 ∷ 3 ∷ []) $
      hide ! $ looks ! tt u8 (uint_Copied 𝓛 w8).opens y b i (λ p vs. tied ! p u8.mir vs b i $ keep ! (0 ∷ 4 ∷ []) $ move ! (1 ∷ []) $
      use1 𝓛 (‵ (lies full_share x)) (uint_out 𝓛 full_share w8 x b i) $
      use2 𝓛 (‵ ffalse) (whole_clash p x y) $ now ! $ done !))

  -- a byte that is shared twice is one byte
  sharings_clash : (x y : ℕ) → x ≢ y → ent 𝓤 (sep 𝓤 ⟦ shared_of u8 x b i life ⟧ (sep 𝓤 ⟦ shared_of u8 y b i life ⟧ ⟦ flft life q ⟧)) (H.⇛ ⟦ ffalse ⟧)
  sharings_clash x y differ =
      qed 𝓛 (‵ (shared_of u8 x b i life) ∷ ‵ (shared_of u8 y b i life) ∷ ‵ (flft life q) ∷ []) ∵ updating ! $ move ! (2 ∷ []) $
      use1 𝓛 (‵ (flft life (Share.left q)) ⊛ ‵ (flft life (Share.right q))) (𝓛.lfts.lft_split life q) $ split ! $ move ! (2 ∷ 0 ∷ []) $
      -- [the first; half of the token; the other half; the second]
      hide ! $ looks ! tt u8 (uint_Copied 𝓛 w8).opens x b i (λ p vs. tied ! p u8.mir vs b i $ keep ! (5 ∷ 4 ∷ 0 ∷ []) $
      hide ! $ looks ! tt u8 (uint_Copied 𝓛 w8).opens y b i (λ p' us. tied ! p' u8.mir us b i $ keep ! (4 ∷ 0 ∷ []) $
      use2 𝓛 (‵ ffalse) (share_clash p p' x y differ) $ now ! $ done !))

module _ {M : Type 1} {𝓤 : Ura M} (𝓛 : Logic 𝓤) (a b : ℕ) where
  abbrev part : Fml → SProp 𝓤
  part P = sem 𝓛 P

  abbrev pub borrowed_at : ℕ → Fml
  borrowed_at i = fex GName (λ γ. fbor (a ∷ []) (cell b i γ))

  -- the borrow of one byte of a loan
  pub one_borrow : (gs : List GName) (xs : List ℕ) (o k : ℕ) → k < length xs → ent 𝓤 (part (closed a gs xs b o)) (part (borrowed_at (o + k)))
  one_borrow gs [] o k h = absurd (omega (arith, h))
  one_borrow [] (x ∷ xs) o k h = never_e 𝓤 _
  one_borrow (γ ∷ gs) (x ∷ xs) o zero h =
      let here : o ≡ o + zero = omega arith in
      qed 𝓛 (‵ (closed a (γ ∷ gs) (x ∷ xs) b o) ∷ []) ∵ fsplit ! $ fsplit ! $ keep ! (0 ∷ []) $ rewrite ! 0 (λ n. ‵ (fbor (a ∷ []) (cell b n γ))) here refl $
      fpack ! GName (λ δ. fbor (a ∷ []) (cell b (o + zero) δ)) γ $ done !
  one_borrow (γ ∷ gs) (x ∷ xs) o (suc k) h =
      let there : o + 1 + k ≡ o + suc k = omega arith in
      qed 𝓛 (‵ (closed a (γ ∷ gs) (x ∷ xs) b o) ∷ []) ∵ fsplit ! $ keep ! (1 ∷ []) $
      use1 𝓛 (‵ (borrowed_at (o + 1 + k))) (one_borrow gs xs (o + 1) k (omega (arith, h))) $ rewrite ! 0 (λ n. ‵ (borrowed_at n)) there refl $ done !

  -- one byte of those that may be read
  pub one_shared : (ys : List ℕ) (o k y : ℕ) → get_elem? ys k ≡ some y → ent 𝓤 (part (elements_shared u8 ys b o (a ∷ []))) (part (shared_of u8 y b (o + k) (a ∷ [])))
  one_shared [] o k y e = absurd (some-ne-none y (sym e))
  one_shared (x ∷ ys) o zero y e =
      let here : o ≡ o + zero = omega arith in
      qed 𝓛 (‵ (elements_shared u8 (x ∷ ys) b o (a ∷ [])) ∷ []) ∵ fsplit ! $ keep ! (0 ∷ []) $ rewrite ! 0 (λ n. ‵ (shared_of u8 n b o (a ∷ []))) (some-injective x y e) refl $
      rewrite ! 0 (λ n. ‵ (shared_of u8 y b n (a ∷ []))) here refl $ done !
  one_shared (x ∷ ys) o (suc k) y e =
      let there : o + 1 + k ≡ o + suc k = omega arith in
      qed 𝓛 (‵ (elements_shared u8 (x ∷ ys) b o (a ∷ [])) ∷ []) ∵ fsplit ! $ keep ! (1 ∷ []) $
      use1 𝓛 (‵ (shared_of u8 y b (o + 1 + k) (a ∷ []))) (one_shared ys (o + 1) k y e) $ rewrite ! 0 (λ n. ‵ (shared_of u8 y b n (a ∷ []))) there refl $ done !

module _ {M : Type 1} {𝓤 : Ura M} (𝓛 : Logic 𝓤) (𝓜 : Model 𝓤 𝓛.H) (a b o p : ℕ) (q : Share) where
  open 𝓛 use {H}

  abbrev token : Fml
  token = flft (a ∷ []) q

  -- two loans have no place in common
  pub loans_clash : (gs hs : List GName) (xs ys : List ℕ) (k l : ℕ) → k < length xs → l < length ys → o + k ≡ p + l
      → ent 𝓤 (sep 𝓤 (sem 𝓛 (closed a gs xs b o)) (sep 𝓤 (sem 𝓛 (closed a hs ys b p)) (sem 𝓛 token))) (H.⇛ (sem 𝓛 ffalse))
  loans_clash gs hs xs ys k l in_xs in_ys meet =
      let back : p + l ≡ o + k = sym meet in
      qed 𝓛 (‵ (closed a gs xs b o) ∷ ‵ (closed a hs ys b p) ∷ ‵ token ∷ []) ∵ updating ! $
      use1 𝓛 (‵ (borrowed_at 𝓛 a b (o + k))) (one_borrow 𝓛 a b gs xs o k in_xs) $ move ! (1 ∷ []) $
      use1 𝓛 (‵ (borrowed_at 𝓛 a b (p + l))) (one_borrow 𝓛 a b hs ys p l in_ys) $ rewrite ! 0 (λ n. ‵ (borrowed_at 𝓛 a b n)) back refl $
      fpick ! (λ δ. move ! (1 ∷ []) $ fpick ! (λ γ. move ! (0 ∷ 1 ∷ 2 ∷ []) $
      use3 𝓛 (later (‵ ffalse)) (borrows_clash 𝓛 𝓜 a b (o + k) q γ δ) $ await ! tt $ now ! $ done !))

  -- a loan has no place in common with bytes that may be read
  pub loan_clash : (gs : List GName) (xs ys : List ℕ) (k l : ℕ) → k < length xs → l < length ys → o + k ≡ p + l
      → ent 𝓤 (sep 𝓤 (sem 𝓛 (closed a gs xs b o)) (sep 𝓤 (sem 𝓛 (elements_shared u8 ys b p (a ∷ []))) (sem 𝓛 token))) (H.⇛ (sem 𝓛 ffalse))
  loan_clash gs xs ys k l in_xs in_ys meet =
      let back : p + l ≡ o + k = sym meet in
      let held = at_within ys l in_ys in
      qed 𝓛 (‵ (closed a gs xs b o) ∷ ‵ (elements_shared u8 ys b p (a ∷ [])) ∷ ‵ token ∷ []) ∵ updating ! $
      use1 𝓛 (‵ (borrowed_at 𝓛 a b (o + k))) (one_borrow 𝓛 a b gs xs o k in_xs) $ fpick ! (λ γ. move ! (1 ∷ []) $
      use1 𝓛 (‵ (shared_of u8 held.0 b (p + l) (a ∷ []))) (one_shared 𝓛 a b ys p l held.0 held.1) $ rewrite ! 0 (λ n. ‵ (shared_of u8 held.0 b n (a ∷ []))) back refl $
      move ! (1 ∷ 0 ∷ 2 ∷ []) $ use3 𝓛 (later (‵ ffalse)) (shared_clash 𝓛 𝓜 a b (o + k) q γ held.0) $ await ! tt $ now ! $ done !)

  -- where both may be read there is one byte
  pub bytes_clash : (xs ys : List ℕ) (k l x y : ℕ) → get_elem? xs k ≡ some x → get_elem? ys l ≡ some y → o + k ≡ p + l → x ≢ y
      → ent 𝓤 (sep 𝓤 (sem 𝓛 (elements_shared u8 xs b o (a ∷ []))) (sep 𝓤 (sem 𝓛 (elements_shared u8 ys b p (a ∷ []))) (sem 𝓛 token))) (H.⇛ (sem 𝓛 ffalse))
  bytes_clash xs ys k l x y in_xs in_ys meet differ =
      let back : p + l ≡ o + k = sym meet in
      qed 𝓛 (‵ (elements_shared u8 xs b o (a ∷ [])) ∷ ‵ (elements_shared u8 ys b p (a ∷ [])) ∷ ‵ token ∷ []) ∵ updating ! $
      use1 𝓛 (‵ (shared_of u8 x b (o + k) (a ∷ []))) (one_shared 𝓛 a b xs o k x in_xs) $ move ! (1 ∷ []) $
      use1 𝓛 (‵ (shared_of u8 y b (p + l) (a ∷ []))) (one_shared 𝓛 a b ys p l y in_ys) $ rewrite ! 0 (λ n. ‵ (shared_of u8 y b n (a ∷ []))) back refl $
      move ! (1 ∷ 0 ∷ 2 ∷ []) $ use3 𝓛 (later (‵ ffalse)) (sharings_clash 𝓛 𝓜 a b (o + k) q x y differ) $ await ! tt $ now ! $ done !

-- places k and l of two ranges that begin at o and p are one place of the block
pub record Meet (o n p m : ℕ) : Type 0 where
  pub k : ℕ
  pub l : ℕ
  pub in_first : k < n
  pub in_second : l < m
  pub same : o + k ≡ p + l

-- two ranges of n and m places are apart, or meet
pub apart_or_meet : (o n p m : ℕ) → AreApart o (o + n) p (p + m) ⊎ Meet o n p m
apart_or_meet o n p m = elim (dec_le o p) [
  | yes first ↦ elim (dec_lt p (o + n)) [
    | yes inside ↦ elim (dec_lt 0 m) [
      | yes some_there ↦ inr (record { k = p - o; l = 0; in_first = omega (arith, first, inside); in_second = some_there; same = omega (arith, first) })
      | no none_there ↦ inl (λ i a b c d. omega (arith, none_there, c, d))
    ]
    | no behind ↦ inl (λ i a b c d. omega (arith, behind, b, c))
  ]
  | no second ↦ elim (dec_lt o (p + m)) [
    | yes inside ↦ elim (dec_lt 0 n) [
      | yes some_there ↦ inr (record { k = 0; l = o - p; in_first = some_there; in_second = omega (arith, second, inside); same = omega (arith, second) })
      | no none_there ↦ inl (λ i a b c d. omega (arith, none_there, a, b))
    ]
    | no behind ↦ inl (λ i a b c d. omega (arith, behind, a, d))
  ]
]

-- two lists of bytes differ at a place that both have
pub record Differ (o : ℕ) (xs : List ℕ) (p : ℕ) (ys : List ℕ) : Type 0 where
  pub k : ℕ
  pub l : ℕ
  pub x : ℕ
  pub y : ℕ
  pub in_first : get_elem? xs k ≡ some x
  pub in_second : get_elem? ys l ≡ some y
  pub same : o + k ≡ p + l
  pub unlike : x ≢ y

-- a byte at the place o, beside a list that begins at p
first_agrees : (o x p : ℕ) (ys : List ℕ) → ((l y : ℕ) → o ≡ p + l → get_elem? ys l ≡ some y → x ≡ y) ⊎ ((l : ℕ) × (y : ℕ) × (o ≡ p + l) × (get_elem? ys l ≡ some y) × (x ≢ y))
first_agrees o x p [] = inl (λ l y e f. absurd (some-ne-none y (sym f)))
first_agrees o x p (y ∷ ys) = elim (ℕ_discrete o p) [
  | yes here ↦ elim (ℕ_discrete x y) [
    | yes same ↦ inl (λ l z e f. let first : l ≡ 0 = omega (arith, here, e) in same ∙ some-injective y z (sym (ap (get_elem? (y ∷ ys)) first) ∙ f))
    | no unlike ↦ inr (0, y, omega (arith, here), refl, unlike)
  ]
  | no elsewhere ↦ later_agrees elsewhere (first_agrees o x (p + 1) ys)
]
  where
    later_agrees : o ≢ p → (((l y : ℕ) → o ≡ p + 1 + l → get_elem? ys l ≡ some y → x ≡ y) ⊎ ((l : ℕ) × (y : ℕ) × (o ≡ p + 1 + l) × (get_elem? ys l ≡ some y) × (x ≢ y)))
        → ((l z : ℕ) → o ≡ p + l → get_elem? (y ∷ ys) l ≡ some z → x ≡ z) ⊎ ((l : ℕ) × (z : ℕ) × (o ≡ p + l) × (get_elem? (y ∷ ys) l ≡ some z) × (x ≢ z))
    later_agrees elsewhere (inl agree) = inl (at_each agree)
      where
        at_each : ((l y : ℕ) → o ≡ p + 1 + l → get_elem? ys l ≡ some y → x ≡ y) → (l z : ℕ) → o ≡ p + l → get_elem? (y ∷ ys) l ≡ some z → x ≡ z
        at_each agree zero z e f = absurd (elsewhere (omega (arith, e)))
        at_each agree (suc l) z e f = agree l z (omega (arith, e)) f
    later_agrees elsewhere (inr w) = inr (suc w.0, w.1, omega (arith, w.2), w.3, w.4)

-- two lists of bytes agree, or differ somewhere
pub agree_or_differ : (o : ℕ) (xs : List ℕ) (p : ℕ) (ys : List ℕ) → Agree o xs p ys ⊎ Differ o xs p ys
agree_or_differ o [] p ys = inl (λ k l x y e f g. absurd (some-ne-none x (sym f)))
agree_or_differ o (x ∷ xs) p ys = joined (first_agrees o x p ys) (agree_or_differ (o + 1) xs p ys)
  where
    joined : (((l y : ℕ) → o ≡ p + l → get_elem? ys l ≡ some y → x ≡ y) ⊎ ((l : ℕ) × (y : ℕ) × (o ≡ p + l) × (get_elem? ys l ≡ some y) × (x ≢ y)))
        → (Agree (o + 1) xs p ys ⊎ Differ (o + 1) xs p ys) → Agree o (x ∷ xs) p ys ⊎ Differ o (x ∷ xs) p ys
    joined (inr w) rest = inr (record { k = 0; l = w.0; x = x; y = w.1; in_first = refl; in_second = w.3; same = omega (arith, w.2); unlike = w.4 })
    joined (inl first) (inr d) = inr (record { k = suc d.k; l = d.l; x = d.x; y = d.y; in_first = d.in_first; in_second = d.in_second; same = omega (arith, d.same); unlike = d.unlike })
    joined (inl first) (inl rest) = inl (at_each first rest)
      where
        at_each : ((l y : ℕ) → o ≡ p + l → get_elem? ys l ≡ some y → x ≡ y) → Agree (o + 1) xs p ys → Agree o (x ∷ xs) p ys
        at_each first rest zero l z y e f g = sym (some-injective x z f) ∙ first l y (omega (arith, e)) g
        at_each first rest (suc k) l z y e f g = rest k l z y (omega (arith, e)) f g
