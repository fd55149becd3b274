-- `of` keeps what the slice holds, as ghost data. Assumes `Logic`.
use Rattle.byte_block.proofs.Walking.{[], ◌∷◌, ◌++◌, List, length, refl, proved_at, none, none_made, Val, WpFn, tables, ‵, raw, ◌⊛◌, prop, ◌$◌, ◌∵◌, !, qed, done, move, keep, drop, split, fsplit, fjoin, feq_l, flt_l, regoal, suffices, agg, enter, no_more, returns, alloc_all, pass_all, free_all, look_at, sets, yes, owns, u8, types_at, nothing, alive, says, Stays, walk_of, stay_dropped, Goes-dropped, ends_at, all_spent}
use denote.Builtin.{SliceRef}
use denote.Slice.{slice_val}
use Rattle.edge_claims.specs.contracts.view.Wrote as Wrote
use Rattle.edge_claims.specs.contracts.view.Wrote.of as f
use Rattle.edge_claims.proofs.view.Wrote.of.Statement.{statement}
use Rattle.edge_claims.proofs.view.Wrote.of.Code as code

abbrev fate : Stays f.ended.signature.params f.ended.kept
fate = (stay_dropped (SliceRef 0 tt u8 tt) yes, tt)

pub of_spec : {M : Type 1} → statement M
of_spec 𝓤 𝓛 𝓜 𝓡 wired =
    let said = f.clauses 𝓛 𝓜.mem 𝓡.returns in
    let 𝓣 = tables 𝓤 𝓛.H 𝓜 𝓡 𝓡.env in
    let bytes_go = Goes-dropped 𝓛 1 (SliceRef 0 tt u8 tt) yes (λ κs x w. refl) in
    proved_at 𝓛 f.ended fate said 𝓜 𝓡 (bytes_go, tt) f.Key.name code.function (code.unfolded 𝓤 𝓛.H 𝓜 𝓡 wired) (λ call are.
    let bytes = call.0.3.0 in let words = call.0.4 in
    let note : Wrote.the_row.Denot = record { bytes = bytes.now } in
    qed 𝓛 ((raw (alive 𝓛 f.signature call.0.0 call.0.1) ⊛ ‵ (owns (types_at f.signature.params call.0.0) call.0.3 words)) ∷ raw ((said call.0.0 call.0.3).requires call.1) ∷ []) ∵
    keep ! (0 ∷ []) $ split ! $ move ! (1 ∷ []) $ fsplit ! $ fsplit ! $ fsplit ! $ feq_l ! (λ bytes_are. fsplit ! $ flt_l ! (λ count. flt_l ! (λ size. drop ! $ drop ! $
    nothing ! $ none_made ! $ fjoin ! $
    regoal ! (λ (us : List Val). prop (WpFn 𝓤 𝓛.H 𝓣.C 𝓣.Λ code.function us ((walk_of 𝓛 f.ended fate said).post call))) (λ i. bytes_are i ++ []) refl $
    enter ! _ _ _ (slice_val bytes.ref_ptr (length bytes.now) ∷ []) _ $ alloc_all ! (λ at. pass_all ! refl ((tt, (tt, (record { fits = count }, tt))), tt) $
    sets ! (agg ! (no_more !)) refl (tt, tt) $ returns ! (look_at ! 0 refl) $ free_all ! refl $
    suffices ! _ (ends_at 𝓛 f.ended fate said call none note (tt, tt) (tt, tt)) $ says ! refl $
    all_spent ! 1 $ move ! (2 ∷ 0 ∷ 1 ∷ []) $ done !)))))
