-- `put` writes the loan's bytes and settles them: the `&` to the memory shows that the lifetime lasts meanwhile, and the bytes are lent as a slice for the copy alone. Assumes `Logic`.
use Rattle.byte_block.proofs.Walking.{◌≡◌, ℕ, ◌+◌, ◌*◌, ◌^◌, ◌<◌, List, [], ◌∷◌, ◌++◌, length, refl, sym, ap, ◌∙◌, arith, proved_at, Goes-blank, none, none_made, none_had, drop_l, full_share, GName, Lft, ftrue, flft, fshr_bor, Val, vptr, WpFn, fact, tables, ‵, raw, ◌⊛◌, later, prop, at_ret, ◌$◌, ◌∵◌, !, qed, done, move, drop, use0, use1, use2, split, join, fsplit, fjoin, feq_i, feq_l, flt_i, flt_l, await, rewrite, regoal, suffices, agg, sub, whole, enter, of_opd, fld, stop, no_more, and_then, first, blocks, exec, returns, alloc_all, pass_all, free_all, look_at, get, get_in, sets, sets_last, env, yes, owns, u8, Ref, RawPtr, block_ptr, ptr_val, block_of, count_of, ◌+ₚ◌, unhide, plain, types_at, heard, nothing, says, Stays, walk_of, stay_dropped, Goes-dropped, ends_at, all_spent}
use base.Fml.{flent}
use base.Logic.{emp, id⊢}
use contract.Monad.{fact_i}
use mir.Syntax.{named}
use types.ByLocal.{look_in_at, lands_as}
use types.Kit.{some, pick, use3}
use types.Run.{addr, from, hop}
use types.SemTy.{Arr, cells}
use types.Tokens.{lft_new, lft_end, shr_bor-open, obor_close}
use denote.Builtin.{SliceRefOf, unit}
use denote.Lend.{Held, lends_slice, slice_back}
use denote.Memory.{mem}
use denote.Ref.{MutBor}
use denote.Slice.{MutSlice, elements_shared, finally, slice_val}
use denote.Steps.{only}
use denote.Triple.Call.{calls_at}
use denote.Triple.Clauses.{lasts}
use denote.Triple.Spec.{triple_of}
use denote.Triple.Table.{framed}
use Rattle.bytes.specs.Ownership.{opened}
use Rattle.bytes.proofs.Arcs.{token_halves}
use Rattle.byte_block.proofs.Lending.{take_bytes, settle_bytes}
use Rattle.byte_block.specs.contracts.memory.Loan as Loan
use Rattle.byte_block.specs.contracts.memory.Shown as Shown
use Rattle.byte_block.specs.contracts.memory.Memory as Memory
use Rattle.byte_block.specs.contracts.memory.copy_in as g
use Rattle.byte_block.proofs.memory.copy_in.Met.{met}
use Rattle.byte_block.specs.contracts.memory.Loan.put as f
use Rattle.byte_block.proofs.memory.Loan.put.Statement.{statement}
use Rattle.byte_block.proofs.memory.Loan.put.Code as code

abbrev fate : Stays f.ended.signature.params f.ended.kept
fate = (stay_dropped (plain (λ _. Loan.the_row)) yes, (stay_dropped (Ref 0 tt Memory.the_row tt) yes, (stay_dropped (plain (λ _. RawPtr)) yes, (stay_dropped (SliceRefOf (1 ∷ []) tt (plain (λ _. u8)) (λ _. tt)) yes, tt))))

pub put_spec : {M : Type 1} → statement M
put_spec 𝓤 𝓛 𝓜 𝓡 wired =
    let said = f.clauses 𝓛 𝓜.mem 𝓡.returns in
    let 𝓣 = tables 𝓤 𝓛.H 𝓜 𝓡 𝓡.env in
    let G = triple_of 𝓛 g.signature (g.spec 𝓛 𝓜.mem 𝓡.returns) in
    let loan_goes = Goes-blank 𝓛 2 (plain (λ _. Loan.the_row)) yes (λ κs x w. tt) in
    let memory_goes = Goes-dropped 𝓛 2 (Ref 0 tt Memory.the_row tt) yes (λ κs x w. refl) in
    let ptr_goes = Goes-dropped 𝓛 2 (plain (λ _. RawPtr)) yes (λ κs x w. refl) in
    let bytes_goes = Goes-dropped 𝓛 2 (SliceRefOf (1 ∷ []) tt (plain (λ _. u8)) (λ _. tt)) yes (λ κs x w. refl) in
    proved_at 𝓛 f.ended fate said 𝓜 𝓡 (loan_goes, (memory_goes, (ptr_goes, (bytes_goes, tt)))) f.Key.name code.function (code.unfolded 𝓤 𝓛.H 𝓜 𝓡 wired) (λ call are.
    let loan = call.0.3.0 in let memory = call.0.3.1.0 in let ptr = call.0.3.1.1.0 in let bytes = call.0.3.1.1.1.0 in let words = call.0.4 in
    let b = block_of loan.base in let o = count_of loan.base + loan.at in let names = drop_l loan.at loan.names in
    let xs = loan.items in let ys = bytes.now in let m = length xs in
    let scope : Lft = call.0.0.0 in let theirs : Lft = call.0.0.1.0 in let life : Lft = loan.life ∷ [] in
    let Theirs = ‵ (flft theirs call.0.1.1.0) ⊛ ‵ ftrue in
    let Wanted = (loan.life ≡ memory.now.life) × (ptr ≡ loan.base +ₚ loan.at) × (m ≡ length ys) × (length ys < 2 ^ 63) in
    let shown : Shown.the_row.Denot = record { life = loan.life; base = loan.base; at = loan.at; items = ys; placed = loan.placed } in
    qed 𝓛 (((‵ (flft scope call.0.1.0) ⊛ Theirs) ⊛ ‵ (owns (types_at f.signature.params call.0.0) call.0.3 words)) ∷ raw (fact 𝓤 Wanted) ∷ []) ∵
    move ! (1 ∷ []) $ heard ! Wanted (λ wanted. split ! $ move ! (1 ∷ []) $
    fsplit ! $ fsplit ! $ none_had ! words.0 (λ loan_is. move ! (1 ∷ []) $
    fsplit ! $ fsplit ! $ feq_l ! (λ memory_is. unhide ! $ fsplit ! $ drop ! $ move ! (1 ∷ []) $
    fsplit ! $ feq_l ! (λ ptr_is.
    fsplit ! $ fsplit ! $ fsplit ! $ feq_l ! (λ bytes_is. fsplit ! $ flt_l ! (λ fits. flt_l ! (λ small. move ! (1 ∷ []) $ drop ! $ move ! (1 ∷ 2 ∷ 3 ∷ []) $
    -- [the lifetime lasts; the loan; the tokens; the bytes to be copied]
    let there : ptr ≡ block_ptr b o = wanted.1 ∙ ap (λ r. r +ₚ loan.at) loan.placed in
    let same : m ≡ length ys = wanted.2 in
    let counted = ap (λ k. slice_val bytes.ref_ptr k ∷ []) (sym same) in
    let fits' : m < 2 ^ 64 = omega (arith, same, fits) in let small' : m * 1 < 2 ^ 63 = omega (arith, same, wanted.3) in
    regoal ! (λ (us : List Val). prop (WpFn 𝓤 𝓛.H 𝓣.C 𝓣.Λ code.function us ((walk_of 𝓛 f.ended fate said).post call))) (λ i. loan_is i ++ (memory_is i ++ ((ptr_is ∙ ap (λ p. ptr_val p ∷ []) there) i ++ ((bytes_is ∙ counted) i ++ [])))) refl $
    enter ! _ _ _ (none ∷ vptr memory.ref_ptr.0 memory.ref_ptr.1 ∷ vptr b o ∷ slice_val bytes.ref_ptr m ∷ []) _ $
    alloc_all ! (λ at. pass_all ! refl ((tt, tt), ((tt, tt), ((tt, tt), ((tt, (tt, (record { fits = fits' }, tt))), tt)))) $
    rewrite ! 0 (λ k. ‵ (fshr_bor scope (λ q. flft (k ∷ []) q))) (sym wanted.0) refl $ move ! (2 ∷ []) $ split ! $ move ! (2 ∷ 0 ∷ []) $
    shr_bor-open ! tt (token_halves 𝓛 life) (λ q. move ! (3 ∷ 1 ∷ []) $
    -- [the loan; a share of its lifetime's token; ..]
    use2 𝓛 (later (‵ (cells (mem u8) xs b o) ⊛ ‵ (opened loan.life q names m b o))) (take_bytes 𝓛 loan.life b o q names xs) $ await ! tt $ split ! $
    -- from_raw_parts_mut(ptr, bytes.len())
    first ! $ blocks ! $
    sets ! (of_opd ! (get_in ! (fld ! refl (stop !)) (sub ! 1 refl (whole !)))) refl (tt, record { fits = fits' }) $
    sets_last ! (agg ! (and_then ! (get ! refl) (and_then ! (get ! refl) (no_more !)))) refl (tt, (tt, (record { fits = fits' }, tt))) $
    exec ! 𝓣.C 𝓣.Λ (env code.Mir.locals at) code.Mir.t-2 (at_ret _ ((walk_of 𝓛 f.ended fate said).post call)) $
    sets ! (of_opd ! (get ! refl)) refl (tt, (tt, (record { fits = fits' }, tt))) $
    sets ! (addr ! (from ! (fld ! refl (hop ! (look_in_at ! 5 (sub ! 0 refl (whole !))) (stop !))))) refl (tt, tt) $
    sets ! (agg ! (and_then ! (get ! refl) (and_then ! (get_in ! (fld ! refl (stop !)) (sub ! 1 refl (whole !))) (no_more !)))) refl (tt, (tt, (record { fits = fits' }, tt))) $
    -- the places are lent for a lifetime that is made here
    lft_new ! tt (λ α. move ! (1 ∷ []) $
    use1 𝓛 (later (some (λ (γ : GName). ‵ ((MutSlice (named 0) (α ∷ []) u8).own_val (record { ref_ptr = (b, o); ghost_name = γ; now = xs }) (slice_val (b, o) m ∷ [])) ⊛ ‵ (flent (α ∷ []) (Held u8 m b o γ)))))
    (lends_slice 𝓛 u8 (named 0) (α ∷ []) xs b o (fits', small')) $ await ! tt $ pick ! (λ γ. split ! $ move ! (6 ∷ []) $
    -- [the bytes; the places; what the lender keeps; the token; the opened loan; ..]
    flt_i ! (length ys * 1) (2 ^ 63) small $ flt_i ! (length ys) (2 ^ 64) fits $ fjoin ! $
    feq_i ! (List Val) (slice_val bytes.ref_ptr m ∷ []) (slice_val bytes.ref_ptr (length ys) ∷ []) (sym counted) $ fjoin ! $ fjoin ! $
    nothing ! $ move ! (1 ∷ 0 ∷ []) $ fjoin ! $ move ! (1 ∷ 0 ∷ []) $ fjoin ! $ move ! (2 ∷ 5 ∷ []) $ join ! $ join ! $
    use0 𝓛 (raw (fact 𝓤 (m ≡ length ys))) (fact_i 𝓤 (m ≡ length ys) (emp 𝓤) same) $
    let places : MutBor (List ℕ) = record { ref_ptr = (b, o); ghost_name = γ; now = xs } in
    let z : G.Ghost = (((α ∷ [], (theirs, tt)), (full_share, (call.0.1.1.0, tt)), tt, (places, (bytes, tt)), (slice_val (b, o) m ∷ [], (slice_val bytes.ref_ptr m ∷ [], tt))), tt) in
    move ! (1 ∷ 0 ∷ []) $ use2 𝓛 (raw (G.pre z)) (id⊢ 𝓤 _) $
    calls_at ! (framed 𝓤 𝓛.H 𝓜 𝓣) G (met 𝓤 𝓛 𝓜 𝓡 (code.calls-byte_block::memory::copy_in 𝓡.env wired)) z (and_then ! (get ! refl) (and_then ! (get ! refl) (no_more !))) (λ v.
    use1 𝓛 (later (some (λ (u : Unit {0}). ((‵ (flft (α ∷ []) full_share) ⊛ Theirs) ⊛ ‵ (unit.own_val u (v ∷ []))) ⊛
    some (λ (ws : List ℕ × (Unit {0} × Unit {0})). ‵ (lasts g.ended z.0.0 z.0.3 ws) ⊛ raw (fact 𝓤 (ws.0 ≡ ys)))))) (id⊢ 𝓤 _) $
    await ! tt $ pick ! (λ u. split ! $ split ! $ split ! $ lft_end ! tt $ move ! (2 ∷ []) $ feq_l ! (λ is_unit.
    lands_as ! (ap only is_unit) refl (tt, tt) $
    move ! (2 ∷ []) $ pick ! (λ ws. split ! $ move ! (1 ∷ []) $ heard ! (ws.0 ≡ ys) (λ copied. fsplit ! $ fsplit ! $ fsplit ! $
    rewrite ! 0 (λ (zs : List ℕ). ‵ (finally u8 γ zs)) copied refl $
    -- [the places' last bytes; three that are let go; the lifetime is over; the other tokens; what the lender keeps; the opened loan; ..]
    move ! (4 ∷ 6 ∷ 0 ∷ []) $ use3 𝓛 (later (‵ ((Arr (mem u8) m).own_at ys b o))) (slice_back 𝓛 u8 (α ∷ []) γ ys m b o) $ await ! tt $
    fsplit ! $ drop ! $ move ! (1 ∷ 2 ∷ 3 ∷ []) $ drop ! $ drop ! $ drop ! $ move ! (0 ∷ 2 ∷ []) $
    rewrite ! 1 (λ k. ‵ (opened loan.life q names k b o)) same refl $
    use2 𝓛 (later (‵ (elements_shared u8 ys b o life) ⊛ ‵ (flft life q))) (settle_bytes 𝓛 loan.life b o q names ys) $ await ! tt $ split ! $
    move ! (3 ∷ 1 ∷ []) $ obor_close ! tt $ drop ! $ move ! (0 ∷ 2 ∷ []) $ join ! $ move ! (1 ∷ []) $
    sets ! (agg ! (no_more !)) refl (tt, tt) $ none_made ! $ fjoin ! $
    returns ! (look_at ! 0 refl) $ free_all ! refl $
    suffices ! _ (ends_at 𝓛 f.ended fate said call none shown (tt, (tt, (tt, (tt, tt)))) (tt, (tt, (tt, (tt, tt))))) $
    says ! (record { life = refl; base = refl; at = refl; items = refl }) $
    all_spent ! 4 $ move ! (2 ∷ 0 ∷ 1 ∷ []) $ done !)))))))))))))))))
