-- What the right to read bytes allows. Assumes `Logic`.
use Rattle.std.proofs.Common.{◌≡◌, ℕ, ◌+◌, List, [], ◌∷◌, ◌++◌, length, refl, arith}
use seplogic.Ra.Ura.{Ura}
use base.Logic.{ent, sep, emp, id⊢}
use types.Logic.{Logic, sem}
use types.Kit.{‵, ◌$◌, ◌∵◌, !, qed, move, use2, fsplit, fjoin, drop, done, rewrite}
use denote.Builtin.{u8}
use denote.Plain.{uint_row_laws}
use denote.RawPtr.{Ptr, block_of, count_of}
use denote.SharingLaws.{contraction}
use denote.Slice.{elements_shared, elements_shr_laws}
use base.Fml.{Lft}
use mir.Syntax.{w8}
use Rattle.bytes.specs.Ownership.{closed}
use Rattle.byte_block.specs.Memory.{loan_owns, shown_owns}
use lib.ListN.{drop as drop_l}

module _ {M : Type 1} {𝓤 : Ura M} (𝓛 : Logic 𝓤) where
  pub shown_twice : (a : ℕ) (p : Ptr) (n : ℕ) (xs : List ℕ) → ent 𝓤 (sem 𝓛 (shown_owns a p n xs)) (sep 𝓤 (sem 𝓛 (shown_owns a p n xs)) (sem 𝓛 (shown_owns a p n xs)))
  shown_twice a p n xs = contraction 𝓛 (elements_shared u8 xs (block_of p) (count_of p + n)) (elements_shr_laws u8 (uint_row_laws w8) xs (block_of p) (count_of p + n)) (a ∷ [])

  -- bytes that lie side by side are shared as one run
  pub shared_append : (b : ℕ) (κ : Lft) (xs ys : List ℕ) (o p : ℕ) → p ≡ o + length xs
      → ent 𝓤 (sep 𝓤 (sem 𝓛 (elements_shared u8 xs b o κ)) (sem 𝓛 (elements_shared u8 ys b p κ))) (sem 𝓛 (elements_shared u8 (xs ++ ys) b o κ))
  shared_append b κ [] ys o p e =
      let same : p ≡ o = omega arith in
      qed 𝓛 (‵ (elements_shared u8 [] b o κ) ∷ ‵ (elements_shared u8 ys b p κ) ∷ []) ∵ drop ! $ rewrite ! 0 (λ k. ‵ (elements_shared u8 ys b k κ)) same refl $ done !
  shared_append b κ (x ∷ xs) ys o p e =
      qed 𝓛 (‵ (elements_shared u8 (x ∷ xs) b o κ) ∷ ‵ (elements_shared u8 ys b p κ) ∷ []) ∵ fsplit ! $ move ! (1 ∷ 2 ∷ []) $
      use2 𝓛 (‵ (elements_shared u8 (xs ++ ys) b (o + 1) κ)) (shared_append b κ xs ys (o + 1) p (omega arith)) $ move ! (1 ∷ 0 ∷ []) $ fjoin ! $ done !

  -- the right to read what lies side by side
  pub shown_join : (a a' : ℕ) (p p' : Ptr) (m n : ℕ) (xs ys : List ℕ) → a' ≡ a → p' ≡ p → n ≡ m + length xs
      → ent 𝓤 (sep 𝓤 (sem 𝓛 (shown_owns a p m xs)) (sem 𝓛 (shown_owns a' p' n ys))) (sem 𝓛 (shown_owns a p m (xs ++ ys)))
  shown_join a a' p p' m n xs ys same here next =
      let b = block_of p in
      let o = count_of p in
      qed 𝓛 (‵ (shown_owns a p m xs) ∷ ‵ (shown_owns a' p' n ys) ∷ []) ∵ move ! (1 ∷ []) $
      rewrite ! 0 (λ k. ‵ (shown_owns k p' n ys)) same refl $ rewrite ! 0 (λ r. ‵ (shown_owns a r n ys)) here refl $ move ! (1 ∷ 0 ∷ []) $
      use2 𝓛 (‵ (shown_owns a p m (xs ++ ys))) (shared_append b (a ∷ []) xs ys (o + m) (o + n) (omega (arith, next))) $ done !

  pub shown_none : (a : ℕ) (p : Ptr) (n : ℕ) → ent 𝓤 (emp 𝓤) (sem 𝓛 (shown_owns a p n []))
  shown_none a p n = id⊢ 𝓤 _

  pub loan_none : (a : ℕ) (gs : List ℕ) (p : Ptr) (n : ℕ) → ent 𝓤 (emp 𝓤) (sem 𝓛 (loan_owns a gs p n []))
  loan_none a gs p n = of_none (drop_l n gs)
    where
      of_none : (hs : List ℕ) → ent 𝓤 (emp 𝓤) (sem 𝓛 (closed a hs [] (block_of p) (count_of p + n)))
      of_none [] = id⊢ 𝓤 _
      of_none (γ ∷ hs) = id⊢ 𝓤 _
