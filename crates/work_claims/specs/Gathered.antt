-- What the row's end is proved from: the passes that are joined in one seat.
use Rattle.std.specs.Prelude.{◌≡◌, ◌+◌, ◌≤◌, ◌||◌, Bool, false, List, [], ◌++◌, length, Option, vec_capacity, MatchOption}
use Rattle.std.specs.List.{flat_map, list_any}
use Rattle.std.specs.declared.vec.Vec.{Vec}
use Rattle.std.specs.declared.alloc.Global.{Global}
use Rattle.atomic_table.specs.Seated.{TableId}
use Rattle.work_claims.specs.Drawn.{Draw}
use Rattle.work_claims.specs.Steps.{Seated}
use Rattle.work_claims.specs.Row.{RowSeen, PassSeen}

module _ {T : Type 0} where
  -- whether a pass has answered None, and the numbers that it drew
  abbrev pub is_past : PassSeen T → Bool
  is_past pass = pass.past

  abbrev pub drawn_of : PassSeen T → List (Draw T)
  drawn_of pass = pass.drawn

  -- the passes of a row but for those that are left are joined in the seat
  pub record IsGathered (row : RowSeen T) (left all : List (PassSeen T)) (table : TableId) (me : Seated T) (emptied : Option (Vec T Global)) : Type 0 where
    pub here : table ≡ row.table
    pub closed : me.1 ≡ []
    pub items : me.0.items ≡ row.items
    pub some : 1 ≤ me.0.parts
    pub parts : length left + me.0.parts ≡ length all
    pub drawn : flat_map drawn_of left ++ me.0.drawn ≡ flat_map drawn_of all
    pub past : (list_any is_past left || me.0.past) ≡ list_any is_past all
    pub keeps : MatchOption emptied (me.0.keeps ≡ false) (λ list. (list.items ≡ []) × (length me.0.items ≤ vec_capacity list))
