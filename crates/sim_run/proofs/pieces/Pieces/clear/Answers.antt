use Rattle.std.proofs.Common.{◌≡◌, ◌∙◌, List, [], ℕ, length, map, ap, arith}
use Rattle.sim_run.specs.declared.traces.Trace.{Trace}
use Rattle.sim_run.specs.Pieces.{PlainPieces}
use Rattle.sim_run.proofs.PlaceLaws.{empty_pieces}
use Rattle.sim_run.proofs.pieces.Pieces.clear.Goals as goal

pub returns : goal.returns
returns c =
    let traces = c.self.inside.traces.items in
    let view : traces ≡ c.args.self.now.traces = ap (λ (p : PlainPieces). p.traces) c.self.view_is in
    let count : length c.clear_all.new.pieces.items ≡ length traces =
    omega (arith, c.clear_all.new.pieces.ok.0, c.self.inside.pieces.ok.0, c.clear_all.ensures.count, c.self.invariant.count) in
    let empty = empty_pieces c.clear_all.new.pieces.items traces count
    (λ k d within. c.clear_all.ensures.empty k d (omega (arith, within, c.clear_all.new.pieces.ok.0))) in
    let with_pieces : List (List ℕ) → PlainPieces = λ pieces. record { traces = traces; pieces = pieces } in
    let all_empty : List Trace → PlainPieces = λ cs. record { traces = cs; pieces = map (λ (d : Trace). let none : List ℕ = [] in none) cs } in
    ap with_pieces empty ∙ ap all_empty view
