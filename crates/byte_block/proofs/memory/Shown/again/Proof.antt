-- `again` gives what a `&` to the right holds. Assumes `Logic`.
use Rattle.byte_block.proofs.Walking.{[], ◌∷◌, ◌++◌, List, refl, proved_at, none, none_made, Val, vptr, WpFn, tables, ‵, raw, ◌⊛◌, prop, ◌$◌, ◌∵◌, !, qed, done, move, keep, drop, split, fsplit, fjoin, feq_l, regoal, suffices, agg, enter, no_more, returns, alloc_all, pass_all, free_all, look_at, sets, yes, owns, Ref, unhide, types_at, alive, says, Stays, walk_of, stay_dropped, Goes-dropped, ends_at, all_spent}
use Rattle.byte_block.specs.contracts.memory.Shown as Shown
use Rattle.byte_block.specs.contracts.memory.Shown.again as f
use Rattle.byte_block.proofs.memory.Shown.again.Statement.{statement}
use Rattle.byte_block.proofs.memory.Shown.again.Code as code

abbrev fate : Stays f.ended.signature.params f.ended.kept
fate = (stay_dropped (Ref 0 tt Shown.the_row tt) yes, tt)

pub again_spec : {M : Type 1} → statement M
again_spec 𝓤 𝓛 𝓜 𝓡 wired =
    let said = f.clauses 𝓛 𝓜.mem 𝓡.returns in
    let 𝓣 = tables 𝓤 𝓛.H 𝓜 𝓡 𝓡.env in
    let self_goes = Goes-dropped 𝓛 1 (Ref 0 tt Shown.the_row tt) yes (λ κs x w. refl) in
    proved_at 𝓛 f.ended fate said 𝓜 𝓡 (self_goes, tt) f.Key.name code.function (code.unfolded 𝓤 𝓛.H 𝓜 𝓡 wired) (λ call are.
    let self = call.0.3.0 in let words = call.0.4 in
    qed 𝓛 ((raw (alive 𝓛 f.signature call.0.0 call.0.1) ⊛ ‵ (owns (types_at f.signature.params call.0.0) call.0.3 words)) ∷ raw ((said call.0.0 call.0.3).requires call.1) ∷ []) ∵
    keep ! (0 ∷ []) $ split ! $ move ! (1 ∷ []) $ fsplit ! $ fsplit ! $ feq_l ! (λ self_is. unhide ! $ fsplit ! $ drop ! $ move ! (1 ∷ []) $ drop ! $
    none_made ! $ fjoin ! $
    regoal ! (λ (us : List Val). prop (WpFn 𝓤 𝓛.H 𝓣.C 𝓣.Λ code.function us ((walk_of 𝓛 f.ended fate said).post call))) (λ i. self_is i ++ []) refl $
    enter ! _ _ _ (vptr self.ref_ptr.0 self.ref_ptr.1 ∷ []) _ $ alloc_all ! (λ at. pass_all ! refl ((tt, tt), tt) $
    sets ! (agg ! (no_more !)) refl (tt, tt) $ returns ! (look_at ! 0 refl) $ free_all ! refl $
    suffices ! _ (ends_at 𝓛 f.ended fate said call none self.now (tt, tt) (tt, tt)) $ says ! refl $
    all_spent ! 1 $ move ! (2 ∷ 0 ∷ 1 ∷ []) $ done !)))
