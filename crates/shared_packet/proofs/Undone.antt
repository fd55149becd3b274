-- A push of an item is undone by a cut.
use Rattle.std.proofs.Common.{ℕ, ◌≡◌, ◌+◌, ◌-◌, ◌≤◌, ◌++◌, List, ap, ◌∙◌, arith, append-nil}
use Rattle.std.specs.Prelude.{All}
use Rattle.sim_base.specs.declared.item.Item.{Item}
use Rattle.sim_base.specs.declared.item.Kind.{Kind}
use Rattle.sim_base.specs.Items.{IsLeft, total_left, whole, cut_items}
use Rattle.sim_base.proofs.ItemLaws.{total_left-whole, cut_items-append, cut_items-all, cut_items-none, cut_items-end}
use Rattle.sim_base.proofs.CutItemLaws.{cut_items-at}

pub undone-front : (kind : Kind) (n b : ℕ) (is : List Item) → All IsLeft is → total_left is ≤ b → cut_items n (n + b) (whole kind n ++ is) ≡ is
undone-front kind n b is left short =
    let all = total_left-whole kind n in
    cut_items-append n (n + b) (whole kind n) is
    ∙ ap (λ js. js ++ cut_items (n - total_left (whole kind n)) ((n + b) - total_left (whole kind n)) is) (cut_items-none n (n + b) (whole kind n) (omega (arith, all)))
    ∙ cut_items-at (n - total_left (whole kind n)) ((n + b) - total_left (whole kind n)) 0 b is (omega (arith, all)) (omega (arith, all))
    ∙ cut_items-all b is left short

pub undone-back : (kind : Kind) (n : ℕ) (is : List Item) → All IsLeft is → cut_items 0 (total_left is) (is ++ whole kind n) ≡ is
undone-back kind n is left =
    let t = total_left is in
    cut_items-append 0 t is (whole kind n)
    ∙ ap (λ js. cut_items 0 t is ++ js) (cut_items-at (0 - t) (t - t) (0 - t) 0 (whole kind n) (omega arith) (omega arith) ∙ cut_items-end (0 - t) (whole kind n))
    ∙ append-nil (cut_items 0 t is)
    ∙ cut_items-all t is left (omega arith)
