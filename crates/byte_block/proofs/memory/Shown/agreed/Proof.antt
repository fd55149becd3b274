-- Where two rights show different bytes nobody could hold both. Assumes `Logic`.
use Rattle.std.proofs.Common.{inl, inr}
use Rattle.byte_block.proofs.Walking.{◌≡◌, ◌+◌, List, [], ◌∷◌, ◌++◌, length, refl, sym, arith, proved_at, none, none_made, Lft, ftrue, flft, fshr_bor, Val, vptr, WpFn, fact, tables, ‵, raw, ◌⊛◌, later, prop, ◌$◌, ◌∵◌, !, qed, done, move, keep, drop, split, fsplit, fjoin, feq_l, await, rewrite, regoal, suffices, agg, enter, no_more, returns, alloc_all, pass_all, free_all, look_at, sets, yes, owns, Ref, block_of, count_of, unhide, types_at, heard, says, Stays, walk_of, stay_dropped, Goes-dropped, ends_at, all_spent}
use base.Fml.{ffalse}
use base.Logic.{never_e}
use types.Kit.{by, use3}
use types.Tokens.{shr_bor-open}
use Rattle.bytes.proofs.Arcs.{token_halves}
use Rattle.byte_block.specs.Memory.{shown_owns}
use Rattle.byte_block.proofs.Apart.{Differ, agree_or_differ, bytes_clash}
use Rattle.byte_block.specs.contracts.memory.Shown as Shown
use Rattle.byte_block.specs.contracts.memory.Memory as Memory
use Rattle.byte_block.specs.contracts.memory.Shown.agreed as f
use Rattle.byte_block.proofs.memory.Shown.agreed.Statement.{statement}
use Rattle.byte_block.proofs.memory.Shown.agreed.Code as code

abbrev fate : Stays f.ended.signature.params f.ended.kept
fate = (stay_dropped (Ref 0 tt Shown.the_row tt) yes, (stay_dropped (Ref 0 tt Shown.the_row tt) yes, (stay_dropped (Ref 0 tt Memory.the_row tt) yes, tt)))

pub agreed_spec : {M : Type 1} → statement M
agreed_spec 𝓤 𝓛 𝓜 𝓡 wired =
    let said = f.clauses 𝓛 𝓜.mem 𝓡.returns in
    let 𝓣 = tables 𝓤 𝓛.H 𝓜 𝓡 𝓡.env in
    let shown_goes = Goes-dropped 𝓛 1 (Ref 0 tt Shown.the_row tt) yes (λ κs x w. refl) in
    let memory_goes = Goes-dropped 𝓛 1 (Ref 0 tt Memory.the_row tt) yes (λ κs x w. refl) in
    proved_at 𝓛 f.ended fate said 𝓜 𝓡 (shown_goes, (shown_goes, (memory_goes, tt))) f.Key.name code.function (code.unfolded 𝓤 𝓛.H 𝓜 𝓡 wired) (λ call are.
    let self = call.0.3.0 in let other = call.0.3.1.0 in let memory = call.0.3.1.1.0 in let words = call.0.4 in
    let one = self.now in let two = other.now in
    let b = block_of one.base in let o = count_of one.base in
    let scope : Lft = call.0.0.0 in let life : Lft = one.life ∷ [] in
    let Wanted = (one.life ≡ memory.now.life) × (two.life ≡ one.life) × (two.base ≡ one.base) in
    elim (agree_or_differ one.at one.items two.at two.items) [
      | inl agree ↦ qed 𝓛 (((‵ (flft scope call.0.1.0) ⊛ ‵ ftrue) ⊛ ‵ (owns (types_at f.signature.params call.0.0) call.0.3 words)) ∷ raw (fact 𝓤 Wanted) ∷ []) ∵
          move ! (1 ∷ []) $ heard ! Wanted (λ wanted. split ! $ move ! (1 ∷ []) $
          fsplit ! $ fsplit ! $ feq_l ! (λ self_is. unhide ! $ fsplit ! $ drop ! $ move ! (1 ∷ []) $
          fsplit ! $ fsplit ! $ feq_l ! (λ other_is. drop ! $ fsplit ! $ fsplit ! $ feq_l ! (λ memory_is. drop ! $ drop ! $
          -- [the right; the tokens]
          none_made ! $ fjoin ! $
          regoal ! (λ (us : List Val). prop (WpFn 𝓤 𝓛.H 𝓣.C 𝓣.Λ code.function us ((walk_of 𝓛 f.ended fate said).post call))) (λ i. self_is i ++ (other_is i ++ (memory_is i ++ []))) refl $
          enter ! _ _ _ (vptr self.ref_ptr.0 self.ref_ptr.1 ∷ vptr other.ref_ptr.0 other.ref_ptr.1 ∷ vptr memory.ref_ptr.0 memory.ref_ptr.1 ∷ []) _ $ alloc_all ! (λ at. pass_all ! refl ((tt, tt), ((tt, tt), ((tt, tt), tt))) $
          sets ! (agg ! (no_more !)) refl (tt, tt) $ returns ! (look_at ! 0 refl) $ free_all ! refl $
          suffices ! _ (ends_at 𝓛 f.ended fate said call none one (tt, (tt, (tt, tt))) (tt, (tt, (tt, tt)))) $ says ! (refl, agree) $
          all_spent ! 3 $ move ! (2 ∷ 0 ∷ 1 ∷ []) $ done !)))))
      | inr differ ↦ qed 𝓛 (((‵ (flft scope call.0.1.0) ⊛ ‵ ftrue) ⊛ ‵ (owns (types_at f.signature.params call.0.0) call.0.3 words)) ∷ raw (fact 𝓤 Wanted) ∷ []) ∵
          move ! (1 ∷ []) $ heard ! Wanted (λ wanted. split ! $ move ! (1 ∷ []) $
          fsplit ! $ fsplit ! $ feq_l ! (λ self_is. unhide ! $ fsplit ! $ drop ! $ move ! (1 ∷ []) $
          fsplit ! $ fsplit ! $ feq_l ! (λ other_is. unhide ! $ fsplit ! $ drop ! $ move ! (1 ∷ []) $
          fsplit ! $ fsplit ! $ feq_l ! (λ memory_is. unhide ! $ fsplit ! $ drop ! $ move ! (1 ∷ []) $ drop ! $
          -- [the lifetime lasts; the other right; the right; the tokens]
          regoal ! (λ (us : List Val). prop (WpFn 𝓤 𝓛.H 𝓣.C 𝓣.Λ code.function us ((walk_of 𝓛 f.ended fate said).post call))) (λ i. self_is i ++ (other_is i ++ (memory_is i ++ []))) refl $
          enter ! _ _ _ (vptr self.ref_ptr.0 self.ref_ptr.1 ∷ vptr other.ref_ptr.0 other.ref_ptr.1 ∷ vptr memory.ref_ptr.0 memory.ref_ptr.1 ∷ []) _ $ alloc_all ! (λ at. pass_all ! refl ((tt, tt), ((tt, tt), ((tt, tt), tt))) $
          rewrite ! 0 (λ k. ‵ (fshr_bor scope (λ q. flft (k ∷ []) q))) (sym wanted.0) refl $ move ! (3 ∷ []) $ split ! $ move ! (2 ∷ 0 ∷ []) $
          shr_bor-open ! tt (token_halves 𝓛 life) (λ q. move ! (4 ∷ 3 ∷ 1 ∷ []) $
          -- [the right; the other right; a share of their lifetime's token; ..]
          rewrite ! 1 (λ k. ‵ (shown_owns k two.base two.at two.items)) wanted.1 refl $
          rewrite ! 1 (λ r. ‵ (shown_owns one.life r two.at two.items)) wanted.2 refl $
          use3 𝓛 (later (‵ ffalse)) (bytes_clash 𝓛 𝓜 one.life b (o + one.at) (o + two.at) q one.items two.items differ.k differ.l differ.x differ.y differ.in_first differ.in_second (omega (arith, differ.same)) differ.unlike) $ await ! tt $
          keep ! (0 ∷ []) $ by ! (never_e 𝓤 _)))))))
    ])
