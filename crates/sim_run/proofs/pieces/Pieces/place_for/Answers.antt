use Rattle.std.proofs.Common.{◌≡◌, ◌∙◌, ◌<◌, length, ap, sym, subst, IfSome, Option, ℕ}
use Rattle.std.proofs.lemmas.List.{length-map}
use Rattle.sim_run.specs.Pieces.{PlainPieces}
use Rattle.sim_run.specs.Places.{Piece}
use Rattle.sim_run.specs.Traces.{place_for}
use Rattle.sim_run.proofs.PlaceLaws.{place-within}
use Rattle.sim_run.proofs.pieces.Pieces.place_for.Goals as goal

pub returns-clause-within : goal.returns-clause-within
returns-clause-within c =
    let traces = c.self.inside.traces.items in
    let found = c.find.ensures traces c.self.invariant.found in
    let count : length traces ≡ length c.args.self.now.pieces =
    sym c.self.invariant.count ∙ sym (length-map c.self.inside.pieces.items (λ (p : Piece). p.items)) ∙ ap length (ap (λ (p : PlainPieces). p.pieces) c.self.view_is) in
    subst (λ (o : Option ℕ). IfSome o (λ place. place < length c.args.self.now.pieces)) (sym found)
    (subst (λ n. IfSome (place_for c.args.sign c.args.node.0 c.args.iface traces) (λ place. place < n)) count
    (place-within c.args.sign c.args.node.0 c.args.iface traces))

pub returns-clause-value : goal.returns-clause-value
returns-clause-value c =
    c.find.ensures c.self.inside.traces.items c.self.invariant.found
    ∙ ap (place_for c.args.sign c.args.node.0 c.args.iface) (ap (λ (p : PlainPieces). p.traces) c.self.view_is)
