-- `read` lends the bytes as a slice, for as long as the `&` to the memory shows that their lifetime lasts. Assumes `Logic`.
use Rattle.byte_block.proofs.Walking.{◌≡◌, ◌+◌, ◌*◌, ◌^◌, ◌<◌, List, [], ◌∷◌, ◌++◌, length, refl, ap, ◌∙◌, arith, proved_at, Lft, w8, w64, Val, vptr, vint, WpFn, fact, tables, ‵, raw, ◌⊛◌, prop, at_ret, ◌$◌, ◌∵◌, !, qed, done, move, drop, use2, split, fsplit, fjoin, feq_i, feq_l, flt_i, flt_l, rewrite, regoal, suffices, agg, enter, of_opd, no_more, and_then, first, blocks, exec, returns, alloc_all, pass_all, free_all, look_at, get, sets, sets_last, env, yes, owns, u8, usize, Ref, RawPtr, block_ptr, ptr_val, block_of, count_of, ◌+ₚ◌, unhide, hide, plain, types_at, heard, alive, says, Stays, walk_of, stay_dropped, Goes-dropped, ends_at, all_spent}
use contract.BorrowLft.{meet_⊑_left}
use denote.Moves.{moves_from}
use denote.Plain.{uint_row_laws}
use denote.Slice.{slice_val, elements_shared, elements_shr_laws}
use Rattle.byte_block.specs.contracts.memory.Shown as Shown
use Rattle.byte_block.specs.contracts.memory.Memory as Memory
use Rattle.byte_block.specs.contracts.memory.Shown.read as f
use Rattle.byte_block.proofs.memory.Shown.read.Statement.{statement}
use Rattle.byte_block.proofs.memory.Shown.read.Code as code

abbrev fate : Stays f.ended.signature.params f.ended.kept
fate = (stay_dropped (Ref 0 tt Shown.the_row tt) yes, (stay_dropped (Ref 0 tt Memory.the_row tt) yes, (stay_dropped (plain (λ _. RawPtr)) yes, (stay_dropped (plain (λ _. usize)) yes, tt))))

pub read_spec : {M : Type 1} → statement M
read_spec 𝓤 𝓛 𝓜 𝓡 wired =
    let said = f.clauses 𝓛 𝓜.mem 𝓡.returns in
    let 𝓣 = tables 𝓤 𝓛.H 𝓜 𝓡 𝓡.env in
    let self_goes = Goes-dropped 𝓛 1 (Ref 0 tt Shown.the_row tt) yes (λ κs x w. refl) in
    let memory_goes = Goes-dropped 𝓛 1 (Ref 0 tt Memory.the_row tt) yes (λ κs x w. refl) in
    let ptr_goes = Goes-dropped 𝓛 1 (plain (λ _. RawPtr)) yes (λ κs x w. refl) in
    let len_goes = Goes-dropped 𝓛 1 (plain (λ _. usize)) yes (λ κs x w. refl) in
    proved_at 𝓛 f.ended fate said 𝓜 𝓡 (self_goes, (memory_goes, (ptr_goes, (len_goes, tt)))) f.Key.name code.function (code.unfolded 𝓤 𝓛.H 𝓜 𝓡 wired) (λ call are.
    let self = call.0.3.0 in let memory = call.0.3.1.0 in let ptr = call.0.3.1.1.0 in let len = call.0.3.1.1.1.0 in let words = call.0.4 in
    let right = self.now in let xs = right.items in let b = block_of right.base in let o = count_of right.base + right.at in
    let scope : Lft = call.0.0.0 in let life : Lft = memory.now.life ∷ [] in
    let Wanted = (right.life ≡ memory.now.life) × (ptr ≡ right.base +ₚ right.at) × (len ≡ length xs) × (len < 2 ^ 63) in
    qed 𝓛 ((raw (alive 𝓛 f.signature call.0.0 call.0.1) ⊛ ‵ (owns (types_at f.signature.params call.0.0) call.0.3 words)) ∷ raw (fact 𝓤 Wanted) ∷ []) ∵
    move ! (1 ∷ []) $ heard ! Wanted (λ wanted. split ! $ move ! (1 ∷ []) $
    fsplit ! $ fsplit ! $ feq_l ! (λ self_is. unhide ! $ fsplit ! $ drop ! $ move ! (1 ∷ []) $
    fsplit ! $ fsplit ! $ feq_l ! (λ memory_is. unhide ! $ fsplit ! $ drop ! $ move ! (1 ∷ []) $
    fsplit ! $ feq_l ! (λ ptr_is. fsplit ! $ fsplit ! $ feq_l ! (λ len_is. flt_l ! (λ fits. drop ! $
    -- [the lifetime lasts; the right to read; the tokens]
    let there : ptr ≡ block_ptr b o = wanted.1 ∙ ap (λ r. r +ₚ right.at) right.placed in
    let shared = elements_shared u8 xs b o in
    rewrite ! 1 (λ k. ‵ (shared (k ∷ []))) wanted.0 refl $
    use2 𝓛 (‵ (shared scope)) (moves_from 𝓛 shared (elements_shr_laws u8 (uint_row_laws w8) xs b o) scope life life (meet_⊑_left life scope)) $
    regoal ! (λ (us : List Val). prop (WpFn 𝓤 𝓛.H 𝓣.C 𝓣.Λ code.function us ((walk_of 𝓛 f.ended fate said).post call))) (λ i. self_is i ++ (memory_is i ++ ((ptr_is ∙ ap (λ p. ptr_val p ∷ []) there) i ++ (len_is i ++ [])))) refl $
    enter ! _ _ _ (vptr self.ref_ptr.0 self.ref_ptr.1 ∷ vptr memory.ref_ptr.0 memory.ref_ptr.1 ∷ vptr b o ∷ vint w64 len ∷ []) _ $
    alloc_all ! (λ at. pass_all ! refl ((tt, tt), ((tt, tt), ((tt, tt), ((tt, record { fits = fits }), tt)))) $
    first ! $ blocks ! $
    sets_last ! (agg ! (and_then ! (get ! refl) (and_then ! (get ! refl) (no_more !)))) refl (tt, (tt, (record { fits = fits }, tt))) $
    exec ! 𝓣.C 𝓣.Λ (env code.Mir.locals at) code.Mir.t-2 (at_ret _ ((walk_of 𝓛 f.ended fate said).post call)) $
    sets ! (of_opd ! (get ! refl)) refl (tt, (tt, (record { fits = fits }, tt))) $
    returns ! (look_at ! 0 refl) $ free_all ! refl $
    -- the slice, of bytes that are shared
    hide ! $ flt_i ! (length xs * 1) (2 ^ 63) (omega (arith, wanted.2, wanted.3)) $ flt_i ! (length xs) (2 ^ 64) (omega (arith, wanted.2, wanted.3)) $ fjoin ! $
    feq_i ! (List Val) (slice_val (b, o) len ∷ []) (slice_val (b, o) (length xs) ∷ []) (ap (λ k. slice_val (b, o) k ∷ []) wanted.2) $ fjoin ! $ fjoin ! $
    suffices ! _ (ends_at 𝓛 f.ended fate said call (slice_val (b, o) len) (record { ref_ptr = (b, o); now = xs }) (tt, (tt, (tt, (tt, tt)))) (tt, (tt, (tt, (tt, tt))))) $ says ! refl $
    all_spent ! 4 $ move ! (2 ∷ 0 ∷ 1 ∷ []) $ done !))))))))
