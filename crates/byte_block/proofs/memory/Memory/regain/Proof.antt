-- `regain` ends the lifetime, and the `Vec` has its bytes again. Assumes `Logic`.
use Rattle.byte_block.proofs.Walking.{ℕ, List, [], ◌∷◌, ◌++◌, length, refl, sym, ◌∙◌, proved_at, Goes-blank, Good, plainly, one, one_had, feq, fex, fsep, fwand, Val, WpFn, tables, ‵, raw, ◌⊛◌, later, prop, ◌$◌, ◌∵◌, !, qed, done, move, keep, drop, use1, use2, split, fsplit, fjoin, feq_i, feq_l, fpick, await, rewrite, regoal, suffices, sub, whole, enter, of_opd, fld, stop, returns, alloc_all, pass_all, free_all, look_at, get, get_in, sets, yes, RattleType, owns, u8, layout, plain, types_at, alive, says, Stays, walk_of, stay_dropped, ends_at, sem, all_spent}
use base.Logic.{all_e, apply∗}
use denote.Param.Laws.{of_field}
use denote.Param.Shared.{copy_shared}
use denote.Struct.Field.{u8-field}
use denote.Struct.Laws.{u8-laws, u8-copy}
use denote.Struct.Struct.{as_fields}
use Rattle.std.specs.Vec.{with_items}
use Rattle.std.specs.contracts.alloc.Global as Heap
use Rattle.std.proofs.alloc.Global.TheLaws as heap-laws
use Rattle.std.specs.contracts.impls.GlobalAllocator.TheImpl.{ghosts}
use Rattle.std_alloc.specs.contracts.vec.Vec as Vec
use Rattle.std_alloc.proofs.vec.Vec.TheLaws as vec-laws
use Rattle.bytes.specs.Ownership.{run_owns}
use Rattle.byte_block.proofs.Lending.{IsReturned, return_all}
use Rattle.byte_block.proofs.OneField.{one_field, same_field}
use Rattle.byte_block.specs.contracts.memory.Emptied as Emptied
use Rattle.byte_block.specs.contracts.memory.Emptied.TheInside as Inside
use Rattle.byte_block.specs.contracts.memory.Memory as Memory
use Rattle.byte_block.proofs.memory.Emptied.TheLaws as emptied-laws
use Rattle.byte_block.specs.contracts.memory.Memory.regain as f
use Rattle.byte_block.proofs.memory.Memory.regain.Statement.{statement}
use Rattle.byte_block.proofs.memory.Memory.regain.Code as code

abbrev ByteVec : RattleType
ByteVec = Vec.the_row u8 Heap.the_row ghosts

abbrev fate : Stays f.ended.signature.params f.ended.kept
fate = (stay_dropped (plain (λ _. Memory.the_row)) yes, tt)

pub regain_spec : {M : Type 1} → statement M
regain_spec 𝓤 𝓛 𝓜 𝓡 wired =
    let said = f.clauses 𝓛 𝓜.mem 𝓡.returns in
    let 𝓣 = tables 𝓤 𝓛.H 𝓜 𝓡 𝓡.env in
    let laws = vec-laws.the_row_laws u8 Heap.the_row ghosts (of_field u8-field u8-laws refl (copy_shared u8-field u8-copy)) heap-laws.the_row_laws in
    proved_at 𝓛 f.ended fate said 𝓜 𝓡 (Goes-blank 𝓛 0 (plain (λ _. Memory.the_row)) yes (λ κs x w. tt), tt) f.Key.name code.function (code.unfolded 𝓤 𝓛.H 𝓜 𝓡 wired) (λ call are.
    let memory = call.0.3.0 in let emptied = memory.emptied in let p = emptied.ptr in let words = call.0.4 in
    qed 𝓛 ((raw (alive 𝓛 f.signature call.0.0 call.0.1) ⊛ ‵ (owns (types_at f.signature.params call.0.0) call.0.3 words)) ∷ raw ((said call.0.0 call.0.3).requires call.1) ∷ []) ∵
    keep ! (0 ∷ []) $ split ! $ move ! (1 ∷ []) $
    fsplit ! $ fsplit ! $ one_had ! Emptied.the_row emptied-laws.the_row_laws emptied words.0 (λ u memory_is good.
    -- [the emptied `Vec`; what stayed with the block; nothing; the tokens]
    let field = one_field Inside.struct.name (layout ByteVec) u good.0 good.1 in
    let w = field.0 in let fine : Good ByteVec w = (field.2, field.3) in
    let in_emptied = as_fields (layout ByteVec ∷ []) (w ∷ []) (fine, tt) in
    regoal ! (λ (us : List Val). prop (WpFn 𝓤 𝓛.H 𝓣.C 𝓣.Λ code.function us ((walk_of 𝓛 f.ended fate said).post call))) (λ i. memory_is i ++ []) refl $
    regoal ! (λ (t : Val). prop (WpFn 𝓤 𝓛.H 𝓣.C 𝓣.Λ code.function (one t ∷ []) ((walk_of 𝓛 f.ended fate said).post call))) field.1 refl $
    enter ! _ _ _ (one (one w) ∷ []) _ $ alloc_all ! (λ at. pass_all ! refl (as_fields (layout Emptied.the_row ∷ []) (one w ∷ []) (in_emptied, tt), tt) $
    move ! (2 ∷ []) $ drop ! $ move ! (1 ∷ []) $
    use1 𝓛 (later (‵ (fex (List ℕ) (IsReturned 𝓛 p memory.names)))) (return_all 𝓛 memory.life memory.names p memory.placed) $ await ! tt $ fpick ! (λ xs. fsplit ! $ feq_l ! (λ long. move ! (1 ∷ []) $
    -- [the emptied `Vec`; its bytes; the tokens]
    fsplit ! $ fpick ! (λ typed. drop ! $ fpick ! (λ inside. fsplit ! $ feq_l ! (λ len. move ! (1 ∷ []) $
    let Bytes = λ (ys : List ℕ). fsep (feq ℕ (length ys) emptied.len) (run_owns p ys) in
    let Filled = λ (ys : List ℕ). (plainly (ByteVec ∷ [])).own_val (with_items inside.vec ys, tt) (u ∷ []) in
    feq_i ! ℕ (length xs) emptied.len (long ∙ memory.named) $ fjoin ! $ move ! (1 ∷ []) $
    use1 𝓛 (‵ (fwand (Bytes xs) (Filled xs))) (all_e 𝓤 (λ ys. sem 𝓛 (fwand (Bytes ys) (Filled ys))) xs) $ move ! (1 ∷ 0 ∷ []) $
    use2 𝓛 (‵ (Filled xs)) (apply∗ 𝓤 (sem 𝓛 (Bytes xs)) (sem 𝓛 (Filled xs))) $
    -- the `Vec`, out of the two structs around it
    rewrite ! 0 (λ (t : Val). ‵ ((plainly (ByteVec ∷ [])).own_val (with_items inside.vec xs, tt) (t ∷ []))) field.1 refl $
    one_had ! ByteVec laws (with_items inside.vec xs) (one w ∷ []) (λ w' same _.
    rewrite ! 0 (λ (t : Val). ‵ (ByteVec.own_val (with_items inside.vec xs) (t ∷ []))) (sym (same_field w w' same)) refl $
    sets ! (of_opd ! (get_in ! (fld ! refl (stop !)) (sub ! 0 refl (whole !)))) refl in_emptied $
    sets ! (of_opd ! (get_in ! (fld ! refl (stop !)) (sub ! 0 refl (whole !)))) refl fine $
    sets ! (of_opd ! (get ! refl)) refl fine $
    returns ! (look_at ! 0 refl) $ free_all ! refl $
    suffices ! _ (ends_at 𝓛 f.ended fate said call w (with_items inside.vec xs) ((tt, tt), tt) (tt, tt)) $ says ! len $
    all_spent ! 1 $ move ! (2 ∷ 0 ∷ 1 ∷ []) $ done !)))))))))
