-- What contracts see of a row and of a pass.
use Rattle.std.specs.Prelude.{◌≡◌, ℕ, ◌≤◌, Bool, false, List, [], length, Option, vec_capacity, MatchOption}
use Rattle.std.specs.declared.vec.Vec.{Vec}
use Rattle.std.specs.declared.alloc.Global.{Global}
use Rattle.atomic_table.specs.Seated.{TableId}
use Rattle.work_claims.specs.Drawn.{Draw}
use Rattle.work_claims.specs.Steps.{Seated}

module _ (T : Type 0) where
  -- a row: which table it is, the items that it was made with, and the number of its passes
  pub record RowSeen : Type 0 where
    pub table : TableId
    pub items : List T
    pub passes : ℕ

  -- a pass: its row, its place in the list that it was made in, whether it has answered None, and the numbers that it drew
  pub record PassSeen : Type 0 where
    pub row : RowSeen
    pub place : ℕ
    pub past : Bool
    pub drawn : List (Draw T)

module _ {T : Type 0} where
  -- a pass that has drawn nothing
  abbrev pub fresh : RowSeen T → ℕ → PassSeen T
  fresh row place = record { row = row; place = place; past = false; drawn = [] }

  -- no place is open to the seat, it has one part and knows whether it drew past the end, and the one that keeps the emptied
  -- list of items has room in it for all
  pub record IsPass (me : Seated T) (past : Bool) (emptied : Option (Vec T Global)) : Type 0 where
    pub closed : me.1 ≡ []
    pub one : me.0.parts ≡ 1
    pub knows : me.0.past ≡ past
    pub keeps : MatchOption emptied (me.0.keeps ≡ false) (λ list. (list.items ≡ []) × (length me.0.items ≤ vec_capacity list))
