-- `join` makes one right of two. Assumes `Logic`.
use Rattle.byte_block.proofs.Walking.{◌≡◌, ◌+◌, List, [], ◌∷◌, ◌++◌, length, refl, proved_at, Goes-blank, none, none_made, none_had, Val, WpFn, fact, tables, ‵, raw, ◌⊛◌, prop, ◌$◌, ◌∵◌, !, qed, done, move, drop, use2, split, fsplit, fjoin, regoal, suffices, agg, enter, no_more, returns, alloc_all, pass_all, free_all, look_at, sets, yes, owns, plain, types_at, heard, alive, says, Stays, walk_of, stay_dropped, ends_at, all_spent}
use Rattle.byte_block.specs.Memory.{shown_owns}
use Rattle.byte_block.proofs.Reading.{shown_join}
use Rattle.byte_block.specs.contracts.memory.Shown as Shown
use Rattle.byte_block.specs.contracts.memory.Shown.join as f
use Rattle.byte_block.proofs.memory.Shown.join.Statement.{statement}
use Rattle.byte_block.proofs.memory.Shown.join.Code as code

abbrev fate : Stays f.ended.signature.params f.ended.kept
fate = (stay_dropped (plain (λ _. Shown.the_row)) yes, (stay_dropped (plain (λ _. Shown.the_row)) yes, tt))

pub join_spec : {M : Type 1} → statement M
join_spec 𝓤 𝓛 𝓜 𝓡 wired =
    let said = f.clauses 𝓛 𝓜.mem 𝓡.returns in
    let 𝓣 = tables 𝓤 𝓛.H 𝓜 𝓡 𝓡.env in
    let goes = Goes-blank 𝓛 0 (plain (λ _. Shown.the_row)) yes (λ κs x w. tt) in
    proved_at 𝓛 f.ended fate said 𝓜 𝓡 (goes, (goes, tt)) f.Key.name code.function (code.unfolded 𝓤 𝓛.H 𝓜 𝓡 wired) (λ call are.
    let front = call.0.3.0 in let back = call.0.3.1.0 in let words = call.0.4 in
    let Beside = (back.life ≡ front.life) × (back.base ≡ front.base) × (back.at ≡ front.at + length front.items) in
    let both : Shown.the_row.Denot = record { life = front.life; base = front.base; at = front.at; items = front.items ++ back.items; placed = front.placed } in
    qed 𝓛 ((raw (alive 𝓛 f.signature call.0.0 call.0.1) ⊛ ‵ (owns (types_at f.signature.params call.0.0) call.0.3 words)) ∷ raw (fact 𝓤 Beside) ∷ []) ∵
    move ! (1 ∷ []) $ heard ! Beside (λ beside. split ! $ move ! (1 ∷ []) $
    fsplit ! $ fsplit ! $ none_had ! words.0 (λ front_is. move ! (1 ∷ []) $ fsplit ! $ fsplit ! $ none_had ! words.1.0 (λ back_is.
    -- [what is behind; nothing; what is in front; the tokens]
    move ! (1 ∷ []) $ drop ! $ move ! (1 ∷ 0 ∷ []) $
    use2 𝓛 (‵ (shown_owns front.life front.base front.at both.items)) (shown_join 𝓛 front.life back.life front.base back.base front.at back.at front.items back.items beside.0 beside.1 beside.2) $
    none_made ! $ fjoin ! $
    regoal ! (λ (us : List Val). prop (WpFn 𝓤 𝓛.H 𝓣.C 𝓣.Λ code.function us ((walk_of 𝓛 f.ended fate said).post call))) (λ i. front_is i ++ (back_is i ++ [])) refl $
    enter ! _ _ _ (none ∷ none ∷ []) _ $ alloc_all ! (λ at. pass_all ! refl ((tt, tt), ((tt, tt), tt)) $
    sets ! (agg ! (no_more !)) refl (tt, tt) $ returns ! (look_at ! 0 refl) $ free_all ! refl $
    suffices ! _ (ends_at 𝓛 f.ended fate said call none both (tt, (tt, tt)) (tt, (tt, tt))) $ says ! (record { life = refl; base = refl; at = refl; items = refl }) $
    all_spent ! 2 $ move ! (2 ∷ 0 ∷ 1 ∷ []) $ done !)))))
