-- `cut` makes two loans of one. Assumes `Logic`.
use Rattle.byte_block.proofs.Walking.{◌+◌, ◌≤◌, List, [], ◌∷◌, ◌++◌, length, take, refl, proved_at, Goes-blank, none, two, none_made, two_made, none_had, drop_l, Val, vint, w64, WpFn, fact, tables, ‵, raw, ◌⊛◌, prop, ◌$◌, ◌∵◌, !, qed, done, move, drop, use1, split, fsplit, fjoin, feq_l, flt_l, regoal, suffices, agg, enter, no_more, and_then, returns, alloc_all, pass_all, free_all, look_at, get, sets, yes, owns, usize, plain, types_at, heard, alive, says, Stays, walk_of, stay_dropped, ends_at, all_spent}
use Rattle.byte_block.specs.Memory.{loan_owns}
use Rattle.byte_block.proofs.Lending.{part_loan}
use Rattle.byte_block.specs.contracts.memory.Loan as Loan
use Rattle.byte_block.specs.contracts.memory.Loan.cut as f
use Rattle.byte_block.proofs.memory.Loan.cut.Statement.{statement}
use Rattle.byte_block.proofs.memory.Loan.cut.Code as code

abbrev fate : Stays f.ended.signature.params f.ended.kept
fate = (stay_dropped (plain (λ _. Loan.the_row)) yes, (stay_dropped (plain (λ _. usize)) yes, tt))

pub cut_spec : {M : Type 1} → statement M
cut_spec 𝓤 𝓛 𝓜 𝓡 wired =
    let said = f.clauses 𝓛 𝓜.mem 𝓡.returns in
    let 𝓣 = tables 𝓤 𝓛.H 𝓜 𝓡 𝓡.env in
    let loan_goes = Goes-blank 𝓛 0 (plain (λ _. Loan.the_row)) yes (λ κs x w. tt) in
    let mid_goes = Goes-blank 𝓛 0 (plain (λ _. usize)) yes (λ κs x w. tt) in
    proved_at 𝓛 f.ended fate said 𝓜 𝓡 (loan_goes, (mid_goes, tt)) f.Key.name code.function (code.unfolded 𝓤 𝓛.H 𝓜 𝓡 wired) (λ call are.
    let loan = call.0.3.0 in let mid = call.0.3.1.0 in let words = call.0.4 in
    let Within = mid ≤ length loan.items in
    let first : Loan.the_row.Denot = record { life = loan.life; names = loan.names; base = loan.base; at = loan.at; items = take mid loan.items; placed = loan.placed } in
    let rest : Loan.the_row.Denot = record { life = loan.life; names = loan.names; base = loan.base; at = loan.at + mid; items = drop_l mid loan.items; placed = loan.placed } in
    qed 𝓛 ((raw (alive 𝓛 f.signature call.0.0 call.0.1) ⊛ ‵ (owns (types_at f.signature.params call.0.0) call.0.3 words)) ∷ raw (fact 𝓤 Within) ∷ []) ∵
    move ! (1 ∷ []) $ heard ! Within (λ within. split ! $ move ! (1 ∷ []) $
    fsplit ! $ fsplit ! $ none_had ! words.0 (λ loan_is. move ! (1 ∷ []) $ fsplit ! $ fsplit ! $ feq_l ! (λ mid_is. flt_l ! (λ fits. drop ! $
    use1 𝓛 (‵ (loan_owns loan.life loan.names loan.base loan.at first.items) ⊛ ‵ (loan_owns loan.life loan.names loan.base rest.at rest.items))
    (part_loan 𝓛 loan.life loan.names loan.base loan.at mid loan.items within) $ split ! $
    -- [the first loan; the rest; the tokens]
    none_made ! $ fjoin ! $ move ! (1 ∷ []) $ none_made ! $ fjoin ! $ move ! (1 ∷ 0 ∷ []) $ two_made ! Loan.the_row Loan.the_row first rest none none $
    regoal ! (λ (us : List Val). prop (WpFn 𝓤 𝓛.H 𝓣.C 𝓣.Λ code.function us ((walk_of 𝓛 f.ended fate said).post call))) (λ i. loan_is i ++ (mid_is i ++ [])) refl $
    enter ! _ _ _ (none ∷ vint w64 mid ∷ []) _ $ alloc_all ! (λ at. pass_all ! refl ((tt, tt), ((tt, record { fits = fits }), tt)) $
    sets ! (agg ! (no_more !)) refl (tt, tt) $ sets ! (agg ! (no_more !)) refl (tt, tt) $
    sets ! (agg ! (and_then ! (get ! refl) (and_then ! (get ! refl) (no_more !)))) refl (tt, (tt, (tt, tt))) $
    returns ! (look_at ! 0 refl) $ free_all ! refl $
    suffices ! _ (ends_at 𝓛 f.ended fate said call (two none none) (first, rest) (tt, (tt, tt)) (tt, (tt, tt))) $
    says ! (record { life = refl; names = refl; base = refl; at = refl; items = refl }, record { life = refl; names = refl; base = refl; at = refl; items = refl }) $
    all_spent ! 2 $ move ! (2 ∷ 0 ∷ 1 ∷ []) $ done !))))))
