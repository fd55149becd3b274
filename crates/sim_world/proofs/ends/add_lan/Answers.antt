use Rattle.std.proofs.Common.{ℕ, ◌≡◌, ◌+◌, ◌≤◌, List, fold, length, min, ap, subst, ◌∙◌, arith}
use Rattle.std.specs.Prelude.{All}
use Rattle.std.specs.List.{zip}
use Rattle.std.proofs.lemmas.List.{take_all}
use Rattle.std.proofs.lemmas.Slice.Zip.{length-zip}
use Rattle.sim_world.specs.declared.ends.End.{End}
use Rattle.sim_world.specs.Grouping.{grouped}
use Rattle.sim_world.specs.Ends.{node_of, with_face}
use Rattle.sim_world.proofs.EndLaws.{face_more}
use Rattle.sim_world.proofs.ends.add_lan.Goals as goal

pub loop-i-preserved : goal.loop-i-preserved
loop-i-preserved c = record {
  faces = λ nodes before is.
      face_more nodes c.args.network c.args.number before c.args.lan.now.members c.as_slice-members.result.now c.args.lan.now.addrs c.as_slice-addrs.result.now c.loop-i.i _ _
      c.add_face.new.ends.items c.as_slice-members.ensures c.as_slice-addrs.ensures c.loop-i-test.true c.requires.addrs
      (c.in_ok-add_face.ensures.face nodes _ (c.loop-i.invariant.faces nodes before is));
  count = c.in_ok-add_face.ensures.count ∙ c.loop-i.invariant.count;
  few = subst (λ (n : ℕ). All (λ (there : List End). length there ≤ n) c.add_face.new.ends.items) (let n : (47800 + c.loop-i.i) + 1 ≡ 47800 + (c.loop-i.i + 1) = omega arith in n)
      (c.in_ok-add_face.ensures.few (47800 + c.loop-i.i) c.loop-i.invariant.few);
}

pub returns : goal.returns
returns c = λ nodes before is.
    let members : length c.as_slice-members.result.now ≡ length c.args.lan.now.members = ap length c.as_slice-members.ensures in
    let pairs : length (zip c.args.lan.now.members c.args.lan.now.addrs) ≡ min (length c.args.lan.now.members) (length c.args.lan.now.addrs) =
    length-zip c.args.lan.now.members c.args.lan.now.addrs in
    c.loop-i.invariant.faces nodes before is
    ∙ ap (λ ms. grouped node_of nodes (fold (with_face c.args.network c.args.number) before ms))
    (take_all c.loop-i.i (zip c.args.lan.now.members c.args.lan.now.addrs) (omega (arith, members, pairs, c.loop-i-test.false)))
