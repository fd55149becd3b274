-- How the bytes of a block come to be lent, are parted and written, and come back. Assumes `Logic`.
use Rattle.std.proofs.Common.{◌≡◌, ℕ, ◌+◌, ◌≤◌, List, [], ◌∷◌, length, take, refl, sym, arith, drop-drop}
use lib.ListN.{drop as drop_l}
use seplogic.Ra.Ura.{Ura}
use base.Fraction.{full_share}
use base.Logic.{SProp, ent, sep}
use base.Fml.{Fml, GName, Share, feq, fex, flft, fsep}
use borrow.Rule.Slice.Shared.{parts-cells}
use types.Logic.{Logic, sem}
use types.Kit.{‵, later, ◌⊛◌, ◌$◌, ◌∵◌, !, qed, move, drop, use1, use2, split, fsplit, fsplit3, fjoin, feq_i, feq_l, fpick, fpack, await, rewrite, updating, now, done}
use types.SemTy.{cells}
use types.Tokens.{lft_new, lft_end}
use denote.Builtin.{u8}
use denote.Memory.{mem}
use denote.RawPtr.{Ptr, block_of, count_of}
use denote.RawPtr.Bytes.{bytes}
use denote.Slice.{elements_shared}
use Rattle.bytes.specs.Ownership.{IsPlaced, block_owns, closed, known, opened, run_owns}
use Rattle.bytes.proofs.Loans.{Back, Lent, lend, regain, run_in, cut, open_all, close_all, settle}
use Rattle.byte_block.specs.Memory.{loan_owns}

module _ {M : Type 1} {𝓤 : Ura M} (𝓛 : Logic 𝓤) where
  open 𝓛 use {H}

  abbrev ⟦◌⟧ : Fml → SProp 𝓤
  ⟦ P ⟧ = sem 𝓛 P

  -- a lifetime and names for the bytes xs at p, with the one loan of all of them and what stays with the block
  abbrev pub IsLending : Ptr → List ℕ → ℕ × List GName → Fml
  IsLending p xs s = fsep (feq ℕ (length s.1) (length xs)) (fsep (loan_owns s.0 s.1 p 0 xs) (block_owns s.0 s.1 p))

  pub lend_all : (p : Ptr) (xs : List ℕ) → ent 𝓤 ⟦ bytes full_share xs (block_of p) (count_of p) ⟧ (H.⇛ ⟦ fex (ℕ × List GName) (IsLending p xs) ⟧)
  lend_all p xs =
      let b = block_of p in let o = count_of p in
      let first : o ≡ o + 0 = omega arith in
      qed 𝓛 (‵ (bytes full_share xs b o) ∷ []) ∵ updating ! $ lft_new ! tt (λ life. move ! (1 ∷ []) $
      use1 𝓛 (later (‵ (fex (List GName) (Lent 𝓛 life b xs o)))) (lend 𝓛 life b xs o) $ await ! tt $ fpick ! (λ names. fsplit3 ! $ feq_l ! (λ named.
      -- [the borrows; the right to have them back; the lifetime's token]
      rewrite ! 0 (λ k. ‵ (closed life names xs b k)) first refl $ move ! (2 ∷ 1 ∷ []) $ fjoin ! $ move ! (1 ∷ 0 ∷ []) $ fjoin ! $
      feq_i ! ℕ (length names) (length xs) named $ fjoin ! $ fpack ! (ℕ × List GName) (IsLending p xs) (life, names) $ now ! $ done !)))

  abbrev pub IsReturned : Ptr → List GName → List ℕ → Fml
  IsReturned p names xs = fsep (feq ℕ (length xs) (length names)) (run_owns p xs)

  -- the lifetime ends, and the bytes are back, whatever they hold
  pub return_all : (life : ℕ) (names : List GName) (p : Ptr) → IsPlaced p → ent 𝓤 ⟦ block_owns life names p ⟧ (H.⇛ ⟦ fex (List ℕ) (IsReturned p names) ⟧)
  return_all life names p placed =
      let b = block_of p in let o = count_of p in
      qed 𝓛 (‵ (block_owns life names p) ∷ []) ∵ updating ! $ fsplit ! $ lft_end ! tt $
      use2 𝓛 (later (‵ (fex (List ℕ) (Back 𝓛 life b names o)))) (regain 𝓛 life b names o) $ await ! tt $ fpick ! (λ xs. fsplit3 ! $ feq_l ! (λ long. move ! (1 ∷ []) $ drop ! $
      use1 𝓛 (‵ (run_owns p xs)) (run_in 𝓛 p xs placed) $
      feq_i ! ℕ (length xs) (length names) long $ fjoin ! $ fpack ! (List ℕ) (IsReturned p names) xs $ now ! $ done !))

  -- a loan is that of its first n bytes and that of the others
  pub part_loan : (life : ℕ) (names : List GName) (p : Ptr) (at n : ℕ) (xs : List ℕ) → n ≤ length xs
      → ent 𝓤 ⟦ loan_owns life names p at xs ⟧ (sep 𝓤 ⟦ loan_owns life names p at (take n xs) ⟧ ⟦ loan_owns life names p (at + n) (drop_l n xs) ⟧)
  part_loan life names p at n xs within =
      let b = block_of p in let o = count_of p + at in let next = count_of p + (at + n) in
      let behind : next ≡ o + n = omega arith in
      let rest = drop_l n (drop_l at names) in
      qed 𝓛 (‵ (loan_owns life names p at xs) ∷ []) ∵
      use1 𝓛 (‵ (loan_owns life names p at (take n xs)) ⊛ ‵ (closed life rest (drop_l n xs) b next)) (cut 𝓛 life b n (drop_l at names) xs o next within behind) $ split ! $
      rewrite ! 1 (λ ks. ‵ (closed life ks (drop_l n xs) b next)) (drop-drop n at names) refl $ done !

  module _ (life b o : ℕ) (q : Share) (names : List GName) where
    -- the bytes of a loan, taken out to be written
    pub take_bytes : (xs : List ℕ) → ent 𝓤 (sep 𝓤 ⟦ closed life names xs b o ⟧ ⟦ flft (life ∷ []) q ⟧) (H.⇛ (sep 𝓤 ⟦ cells (mem u8) xs b o ⟧ ⟦ opened life q names (length xs) b o ⟧))
    take_bytes xs =
        qed 𝓛 (‵ (closed life names xs b o) ∷ ‵ (flft (life ∷ []) q) ∷ []) ∵ updating ! $
        use2 𝓛 (later (‵ (bytes full_share xs b o) ⊛ ‵ (opened life q names (length xs) b o))) (open_all 𝓛 life b q names xs o) $ await ! tt $ split ! $
        rewrite ! 0 (λ (F : Fml). ‵ F) (parts-cells u8 full_share xs b o) refl $ now ! $ done !

    -- and put back for good: whoever has the lifetime may read them
    pub settle_bytes : (xs : List ℕ) → ent 𝓤 (sep 𝓤 ⟦ cells (mem u8) xs b o ⟧ ⟦ opened life q names (length xs) b o ⟧) (H.⇛ (sep 𝓤 ⟦ elements_shared u8 xs b o (life ∷ []) ⟧ ⟦ flft (life ∷ []) q ⟧))
    settle_bytes xs =
        let back = closed life names xs b o in let seen = elements_shared u8 xs b o (life ∷ []) in
        qed 𝓛 (‵ (cells (mem u8) xs b o) ∷ ‵ (opened life q names (length xs) b o) ∷ []) ∵ updating ! $
        rewrite ! 0 (λ (F : Fml). ‵ F) (sym (parts-cells u8 full_share xs b o)) refl $
        use2 𝓛 (later (‵ back ⊛ ‵ (flft (life ∷ []) q))) (close_all 𝓛 life b q names xs o) $ await ! tt $ split ! $
        use2 𝓛 (later (‵ (fsep seen (known names xs)) ⊛ ‵ (flft (life ∷ []) q))) (settle 𝓛 life b q names xs o) $ await ! tt $ split ! $
        fsplit ! $ move ! (1 ∷ []) $ drop ! $ now ! $ done !
