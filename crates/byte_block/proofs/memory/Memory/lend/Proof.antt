-- `lend` takes the bytes out of the `Vec` and lends them. Assumes `Logic`.
use Rattle.byte_block.proofs.Walking.{ℕ, ◌<◌, List, [], ◌∷◌, ◌++◌, refl, sym, ◌∙◌, proved_at, Goes-blank, none, one, two, tells, none_made, one_made, two_made, full_share, GName, ftrue, fex, Val, WpFn, fact, tables, ‵, raw, ◌⊛◌, later, given, prop, ◌$◌, ◌∵◌, !, qed, done, move, drop, use1, split, fsplit, fjoin, feq_l, fpick, fpack, learn, await, regoal, suffices, agg, enter, of_opd, no_more, and_then, returns, alloc_all, pass_all, free_all, look_at, get, sets, yes, RattleType, owns, u8, layout, block_of, count_of, plain, types_at, nothing, heard, alive, says, Stays, walk_of, stay_dropped, ends_at, all_spent}
use denote.Laws.{Typed}
use denote.Param.Laws.{of_field}
use denote.Param.Shared.{copy_shared}
use denote.RawPtr.Bytes.{bytes}
use denote.Struct.Field.{u8-field}
use denote.Struct.Laws.{u8-laws, u8-copy}
use denote.Struct.Struct.{as_fields}
use Rattle.std.specs.contracts.alloc.Global as Heap
use Rattle.std.proofs.alloc.Global.TheLaws as heap-laws
use Rattle.std.specs.contracts.impls.GlobalAllocator.TheImpl.{ghosts}
use Rattle.std_alloc.specs.contracts.vec.Vec as Vec
use Rattle.std_alloc.proofs.vec.Vec.TheLaws as vec-laws
use Rattle.bytes.specs.Ownership.{IsPlaced, run_owns}
use Rattle.bytes.proofs.Loans.{run_out}
use Rattle.bytes.proofs.Vecs.{carve}
use Rattle.byte_block.specs.Memory.{emptied_owns}
use Rattle.byte_block.proofs.Lending.{IsLending, lend_all}
use Rattle.byte_block.specs.contracts.memory.Emptied as Emptied
use Rattle.byte_block.specs.contracts.memory.Memory as Memory
use Rattle.byte_block.specs.contracts.memory.Loan as Loan
use Rattle.byte_block.specs.contracts.memory.Memory.lend as f
use Rattle.byte_block.proofs.memory.Memory.lend.Statement.{statement}
use Rattle.byte_block.proofs.memory.Memory.lend.Code as code

abbrev ByteVec : RattleType
ByteVec = Vec.the_row u8 Heap.the_row ghosts

abbrev fate : Stays f.ended.signature.params f.ended.kept
fate = (stay_dropped (plain (λ _. ByteVec)) yes, tt)

pub lend_spec : {M : Type 1} → statement M
lend_spec 𝓤 𝓛 𝓜 𝓡 wired =
    let said = f.clauses 𝓛 𝓜.mem 𝓡.returns in
    let 𝓣 = tables 𝓤 𝓛.H 𝓜 𝓡 𝓡.env in
    let laws = vec-laws.the_row_laws u8 Heap.the_row ghosts (of_field u8-field u8-laws refl (copy_shared u8-field u8-copy)) heap-laws.the_row_laws in
    proved_at 𝓛 f.ended fate said 𝓜 𝓡 (Goes-blank 𝓛 0 (plain (λ _. ByteVec)) yes (λ κs x w. tt), tt) f.Key.name code.function (code.unfolded 𝓤 𝓛.H 𝓜 𝓡 wired) (λ call are.
    let vec = call.0.3.0 in let words = call.0.4 in let p = vec.ptr in let xs = vec.items in
    let Some = 0 < vec.len in
    let emptied : Emptied.the_row.Denot = record { ptr = p; len = vec.len } in
    qed 𝓛 ((raw (alive 𝓛 f.signature call.0.0 call.0.1) ⊛ ‵ (owns (types_at f.signature.params call.0.0) call.0.3 words)) ∷ raw (fact 𝓤 Some) ∷ []) ∵
    move ! (1 ∷ []) $ heard ! Some (λ some. split ! $ move ! (1 ∷ []) $
    fsplit ! $ tells ! ByteVec laws vec words.0 (λ u vec_is good. move ! (1 ∷ []) $ drop ! $
    let in_emptied = as_fields (layout ByteVec ∷ []) (u ∷ []) (good, tt) in
    let in_memory = as_fields (layout Emptied.the_row ∷ []) (one u ∷ []) (in_emptied, tt) in
    let in_pair = as_fields (layout Memory.the_row ∷ layout Loan.the_row ∷ []) (one (one u) ∷ none ∷ []) (in_memory, ((tt, tt), tt)) in
    regoal ! (λ (us : List Val). prop (WpFn 𝓤 𝓛.H 𝓣.C 𝓣.Λ code.function us ((walk_of 𝓛 f.ended fate said).post call))) (λ i. vec_is i ++ []) refl $
    enter ! _ _ _ (u ∷ []) _ $ alloc_all ! (λ at. pass_all ! refl (good, tt) $
    -- the bytes, apart from their `Vec`
    use1 𝓛 (‵ (run_owns p xs) ⊛ ‵ (emptied_owns emptied (one u ∷ []))) (carve Heap.the_row ghosts 𝓛 vec u some) $ split ! $
    use1 𝓛 (given (IsPlaced p) (‵ (bytes full_share xs (block_of p) (count_of p)))) (run_out 𝓛 p xs) $ learn ! (λ placed.
    use1 𝓛 (later (‵ (fex (ℕ × List GName) (IsLending 𝓛 p xs)))) (lend_all 𝓛 p xs) $ await ! tt $ fpick ! (λ lent. fsplit ! $ feq_l ! (λ named. fsplit ! $
    -- [the loan; what stays with the block; the emptied `Vec`; the tokens]
    let memory : Memory.the_row.Denot = record { emptied = emptied; life = lent.0; names = lent.1; named = named ∙ sym vec.ok.0; placed = placed } in
    let loan : Loan.the_row.Denot = record { life = lent.0; names = lent.1; base = p; at = 0; items = xs; placed = placed } in
    none_made ! $ fjoin ! $ move ! (2 ∷ []) $ nothing ! $ fpack ! (Typed Emptied.the_row.mir (one u ∷ [])) (λ _. ftrue) (in_emptied, tt) $ fjoin ! $
    one_made ! Emptied.the_row emptied (one u) $ move ! (0 ∷ 2 ∷ []) $ fjoin ! $ two_made ! Memory.the_row Loan.the_row memory loan (one (one u)) none $
    sets ! (of_opd ! (get ! refl)) refl good $
    sets ! (agg ! (and_then ! (get ! refl) (no_more !))) refl in_emptied $
    sets ! (agg ! (and_then ! (get ! refl) (no_more !))) refl in_memory $
    sets ! (agg ! (no_more !)) refl (tt, tt) $
    sets ! (agg ! (and_then ! (get ! refl) (and_then ! (get ! refl) (no_more !)))) refl in_pair $
    returns ! (look_at ! 0 refl) $ free_all ! refl $
    suffices ! _ (ends_at 𝓛 f.ended fate said call (two (one (one u)) none) (memory, loan) (tt, tt) (tt, tt)) $
    says ! (refl, record { life = refl; names = refl; base = refl; at = refl; items = refl }) $
    all_spent ! 1 $ move ! (2 ∷ 0 ∷ 1 ∷ []) $ done !)))))))
