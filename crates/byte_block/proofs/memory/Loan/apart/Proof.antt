-- Where two loans meet nobody could hold both. Assumes `Logic`.
use Rattle.std.proofs.Common.{inl, inr}
use Rattle.byte_block.proofs.Walking.{◌≡◌, ◌+◌, List, [], ◌∷◌, ◌++◌, length, refl, sym, arith, proved_at, Goes-blank, none, two, none_made, two_made, none_had, drop_l, Lft, ftrue, flft, fshr_bor, Val, vptr, WpFn, fact, tables, ‵, raw, ◌⊛◌, later, prop, ◌$◌, ◌∵◌, !, qed, done, move, keep, drop, use1, use2, split, fsplit, fjoin, feq_l, await, rewrite, regoal, suffices, agg, enter, no_more, and_then, returns, alloc_all, pass_all, free_all, look_at, get, sets, yes, owns, Ref, block_of, count_of, unhide, plain, types_at, heard, says, Stays, walk_of, stay_dropped, Goes-dropped, ends_at, all_spent}
use base.Fml.{ffalse}
use base.Logic.{never_e}
use types.Kit.{by, use3}
use types.Tokens.{shr_bor-open}
use Rattle.bytes.proofs.Arcs.{token_halves}
use Rattle.byte_block.specs.Memory.{loan_owns}
use Rattle.byte_block.proofs.Apart.{Meet, apart_or_meet, loans_clash}
use Rattle.byte_block.specs.contracts.memory.Loan as Loan
use Rattle.byte_block.specs.contracts.memory.Memory as Memory
use Rattle.byte_block.specs.contracts.memory.Loan.apart as f
use Rattle.byte_block.proofs.memory.Loan.apart.Statement.{statement}
use Rattle.byte_block.proofs.memory.Loan.apart.Code as code

abbrev fate : Stays f.ended.signature.params f.ended.kept
fate = (stay_dropped (plain (λ _. Loan.the_row)) yes, (stay_dropped (plain (λ _. Loan.the_row)) yes, (stay_dropped (Ref 0 tt Memory.the_row tt) yes, tt)))

pub apart_spec : {M : Type 1} → statement M
apart_spec 𝓤 𝓛 𝓜 𝓡 wired =
    let said = f.clauses 𝓛 𝓜.mem 𝓡.returns in
    let 𝓣 = tables 𝓤 𝓛.H 𝓜 𝓡 𝓡.env in
    let loan_goes = Goes-blank 𝓛 1 (plain (λ _. Loan.the_row)) yes (λ κs x w. tt) in
    let memory_goes = Goes-dropped 𝓛 1 (Ref 0 tt Memory.the_row tt) yes (λ κs x w. refl) in
    proved_at 𝓛 f.ended fate said 𝓜 𝓡 (loan_goes, (loan_goes, (memory_goes, tt))) f.Key.name code.function (code.unfolded 𝓤 𝓛.H 𝓜 𝓡 wired) (λ call are.
    let one = call.0.3.0 in let other = call.0.3.1.0 in let memory = call.0.3.1.1.0 in let words = call.0.4 in
    let b = block_of one.base in let o = count_of one.base in
    let scope : Lft = call.0.0.0 in let life : Lft = one.life ∷ [] in
    let Wanted = (one.life ≡ memory.now.life) × (other.life ≡ one.life) × (other.base ≡ one.base) in
    elim (apart_or_meet one.at (length one.items) other.at (length other.items)) [
      | inl far ↦ qed 𝓛 (((‵ (flft scope call.0.1.0) ⊛ ‵ ftrue) ⊛ ‵ (owns (types_at f.signature.params call.0.0) call.0.3 words)) ∷ raw (fact 𝓤 Wanted) ∷ []) ∵
          move ! (1 ∷ []) $ heard ! Wanted (λ wanted. split ! $ move ! (1 ∷ []) $
          fsplit ! $ fsplit ! $ none_had ! words.0 (λ one_is. move ! (1 ∷ []) $ fsplit ! $ fsplit ! $ none_had ! words.1.0 (λ other_is. move ! (1 ∷ []) $
          fsplit ! $ fsplit ! $ feq_l ! (λ memory_is. drop ! $ drop ! $
          -- [the other loan; the loan; the tokens]
          move ! (1 ∷ []) $ none_made ! $ fjoin ! $ move ! (1 ∷ []) $ none_made ! $ fjoin ! $ move ! (1 ∷ 0 ∷ []) $ two_made ! Loan.the_row Loan.the_row one other none none $
          regoal ! (λ (us : List Val). prop (WpFn 𝓤 𝓛.H 𝓣.C 𝓣.Λ code.function us ((walk_of 𝓛 f.ended fate said).post call))) (λ i. one_is i ++ (other_is i ++ (memory_is i ++ []))) refl $
          enter ! _ _ _ (none ∷ none ∷ vptr memory.ref_ptr.0 memory.ref_ptr.1 ∷ []) _ $ alloc_all ! (λ at. pass_all ! refl ((tt, tt), ((tt, tt), ((tt, tt), tt))) $
          sets ! (agg ! (no_more !)) refl (tt, tt) $ sets ! (agg ! (no_more !)) refl (tt, tt) $
          sets ! (agg ! (and_then ! (get ! refl) (and_then ! (get ! refl) (no_more !)))) refl (tt, (tt, (tt, tt))) $
          returns ! (look_at ! 0 refl) $ free_all ! refl $
          suffices ! _ (ends_at 𝓛 f.ended fate said call (two none none) (one, other) (tt, (tt, (tt, tt))) (tt, (tt, (tt, tt)))) $
          says ! (refl, refl, far) $
          all_spent ! 3 $ move ! (2 ∷ 0 ∷ 1 ∷ []) $ done !)))))
      | inr met ↦ qed 𝓛 (((‵ (flft scope call.0.1.0) ⊛ ‵ ftrue) ⊛ ‵ (owns (types_at f.signature.params call.0.0) call.0.3 words)) ∷ raw (fact 𝓤 Wanted) ∷ []) ∵
          move ! (1 ∷ []) $ heard ! Wanted (λ wanted. split ! $ move ! (1 ∷ []) $
          fsplit ! $ fsplit ! $ none_had ! words.0 (λ one_is. move ! (1 ∷ []) $ fsplit ! $ fsplit ! $ none_had ! words.1.0 (λ other_is. move ! (1 ∷ []) $
          fsplit ! $ fsplit ! $ feq_l ! (λ memory_is. unhide ! $ fsplit ! $ drop ! $ move ! (1 ∷ []) $ drop ! $
          -- [the lifetime lasts; the other loan; the loan; the tokens]
          regoal ! (λ (us : List Val). prop (WpFn 𝓤 𝓛.H 𝓣.C 𝓣.Λ code.function us ((walk_of 𝓛 f.ended fate said).post call))) (λ i. one_is i ++ (other_is i ++ (memory_is i ++ []))) refl $
          enter ! _ _ _ (none ∷ none ∷ vptr memory.ref_ptr.0 memory.ref_ptr.1 ∷ []) _ $ alloc_all ! (λ at. pass_all ! refl ((tt, tt), ((tt, tt), ((tt, tt), tt))) $
          rewrite ! 0 (λ k. ‵ (fshr_bor scope (λ q. flft (k ∷ []) q))) (sym wanted.0) refl $ move ! (3 ∷ []) $ split ! $ move ! (2 ∷ 0 ∷ []) $
          shr_bor-open ! tt (token_halves 𝓛 life) (λ q. move ! (4 ∷ 3 ∷ 1 ∷ []) $
          -- [the loan; the other loan; a share of their lifetime's token; ..]
          rewrite ! 1 (λ k. ‵ (loan_owns k other.names other.base other.at other.items)) wanted.1 refl $
          rewrite ! 1 (λ r. ‵ (loan_owns one.life other.names r other.at other.items)) wanted.2 refl $
          use3 𝓛 (later (‵ ffalse)) (loans_clash 𝓛 𝓜 one.life b (o + one.at) (o + other.at) q (drop_l one.at one.names) (drop_l other.at other.names) one.items other.items met.k met.l met.in_first met.in_second (omega (arith, met.same))) $ await ! tt $
          keep ! (0 ∷ []) $ by ! (never_e 𝓤 _)))))))
    ])
