-- What the walks of this crate have in common: the words that they cite, and what is left of parameters. Assumes `Logic`.
use Rattle.std.proofs.Common.{zero, suc}
use seplogic.Ra.Ura.{Ura}
use types.Kit.{Goal, Item, Step, step}
pub use Rattle.std.proofs.Common.{◌≡◌, ℕ, ◌+◌, ◌*◌, ◌^◌, ◌<◌, ◌≤◌, List, [], ◌∷◌, ◌++◌, length, take, refl, sym, ap, ◌∙◌, arith}
pub use Rattle.std.proofs.raw_atomic.Walks.{proved_at}
pub use Rattle.std.proofs.alloc.Calls.{Goes-blank}
pub use Rattle.bytes.proofs.Walks.{Good, plainly, none, one, two, tells, none_made, one_made, two_made, none_had, one_had}
pub use lib.ListN.{drop as drop_l}
pub use base.Fraction.{full_share}
pub use base.Fml.{Fml, GName, Lft, ftrue, fat, feq, fex, flft, fsep, fshr_bor, fwand}
pub use mir.Syntax.{w8, w64}
pub use mir.Val.{Val, vptr, vint}
pub use prog.Wp.{WpFn}
pub use contract.Monad.{fact}
pub use contract.Running.{tables}
pub use types.Logic.{Logic, sem}
pub use types.Kit.{‵, raw, ◌⊛◌, later, given, prop, at_ret, ◌$◌, ◌∵◌, !, qed, done, move, keep, drop, use0, use1, use2, split, join, fsplit, fjoin, feq_i, feq_l, flt_i, flt_l, fpick, fpack, learn, await, rewrite, regoal, suffices}
pub use types.Part.{agg, sub, whole}
pub use types.Run.{enter, of_opd, fld, stop, no_more, and_then, store, first, blocks, assigns_last, exec, returns}
pub use types.ByLocal.{alloc_all, pass_all, free_all, look_at, get, get_in, through, sets, sets_last, env}
pub use denote.Exit.{yes}
pub use denote.RattleType.{RattleType, owns}
pub use denote.Builtin.{Ref, u8, usize}
pub use denote.Param.{layout}
pub use denote.RawPtr.{Ptr, RawPtr, block_ptr, ptr_val, block_of, count_of, ◌+ₚ◌}
pub use denote.Opens.{unhide, hide}
pub use denote.Signature.{plain, types_at}
pub use denote.Steps.{nothing, heard}
pub use denote.Triple.Entry.{alive}
pub use denote.Triple.Walked.{says, Stays, walk_of, stay_dropped, Goes-dropped, ends_at}

-- what is left of n parameters that a body has used up
abbrev pub spent : ℕ → Fml
spent zero = ftrue
spent (suc n) = fsep ftrue (spent n)

module _ {M : Type 1} {𝓤 : Ura M} {𝓛 : Logic 𝓤} {K : Type 0} {Γ : List (Item 𝓤)} {G : Goal 𝓤 𝓛.H} where
  pub all_spent : K → (n : ℕ) → Step K 𝓛 (‵ (spent n) ∷ Γ) G Γ G
  all_spent t zero = nothing t
  all_spent t (suc n) = step (λ s. all_spent t n $ nothing t $ fjoin t $ s)
