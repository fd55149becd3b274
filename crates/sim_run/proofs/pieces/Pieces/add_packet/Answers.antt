use Rattle.std.proofs.Common.{◌≡◌, ◌∙◌, ◌<◌, [], ◌++◌, length, map, get_or, slice_set, List, ℕ, ap, subst, arith}
use Rattle.std.proofs.lemmas.List.{length-map}
use Rattle.std.proofs.lemmas.Result.{on_ok_weaker}
use Rattle.pcap_form.specs.Capture.{captured_packet}
use Rattle.sim_run.specs.Pieces.{PlainPieces}
use Rattle.sim_run.specs.Places.{Piece}
use Rattle.sim_run.proofs.PlaceLaws.{added-at}
use Rattle.sim_run.proofs.pieces.Pieces.add_packet.Goals as goal

pub returns-clause-ok : goal.returns-clause-ok
returns-clause-ok c =
    let pieces = c.self.inside.pieces.items in
    let bytes = captured_packet c.args.time.0 c.args.frame.now in
    let view : map (λ (p : Piece). p.items) pieces ≡ c.args.self.now.pieces = ap (λ (p : PlainPieces). p.pieces) c.self.view_is in
    let within : c.args.place < length pieces = omega (arith, c.requires.within, ap length view, length-map pieces (λ (p : Piece). p.items)) in
    let grown : c.write_bytes.new.out.items ≡ c.make_room.new.piece.items ++ bytes
    → map (λ (p : Piece). p.items) (slice_set pieces c.args.place c.write_bytes.new.out)
    ≡ slice_set c.args.self.now.pieces c.args.place (get_or c.args.self.now.pieces c.args.place [] ++ bytes) =
    λ more. subst
    (λ (all : List (List ℕ)). map (λ (p : Piece). p.items) (slice_set pieces c.args.place c.write_bytes.new.out) ≡ slice_set all c.args.place (get_or all c.args.place [] ++ bytes))
    view (added-at pieces c.args.place c.index_mut-piece.result.now c.write_bytes.new.out bytes within c.index_mut-piece.ensures.value
    (more ∙ ap (λ front. front ++ bytes) c.make_room.ensures)) in
    on_ok_weaker c.write_bytes.result grown c.write_bytes.ensures.ok
