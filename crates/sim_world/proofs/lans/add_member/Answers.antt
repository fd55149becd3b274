use Rattle.std.proofs.Common.{◌≡◌, ◌<◌, length, ap, sym, subst, ◌∙◌, arith}
use Rattle.std.specs.List.{filter_map}
use Rattle.sim_world.specs.declared.lans.Member.{Member}
use Rattle.sim_world.specs.Ends.{IsOn}
use Rattle.sim_world.specs.Grouping.{with_item}
use Rattle.sim_world.specs.Lans.{lan_of, member_by, member_of}
use Rattle.sim_world.proofs.EndLaws.{on_ok}
use Rattle.sim_world.proofs.GroupLaws.{length-grouped}
use Rattle.sim_world.proofs.LanLaws.{no_member, one_member}
use Rattle.sim_world.proofs.lans.add_member.Goals as goal

pub returns-in-Link-clause-member : goal.returns-in-Link-clause-member
returns-in-Link-clause-member c = λ lans before is. is ∙ sym (no_member lans before c.args.end.now (ap (member_by c.args.end.now.place) c.in-Link.is))

pub returns-in-OnLan-clause-member : goal.returns-in-OnLan-clause-member
returns-in-OnLan-clause-member c = λ lans before is.
    let m : Member = record { lan = c.in-OnLan.lan; place = c.args.end.now.place } in
    let long : length c.args.members.now.items ≡ lans = ap length is ∙ length-grouped lan_of lans (filter_map member_of before) in
    let there : c.in-OnLan.lan < length c.args.members.now.items = subst (IsOn (length c.args.members.now.items)) c.in-OnLan.is c.requires in
    on_ok c.put.result _ _
    (λ put. put ∙ ap (with_item m.lan m) is ∙ one_member lans before c.args.end.now m (ap (member_by c.args.end.now.place) c.in-OnLan.is) (omega (arith, long, there)))
    c.put.ensures
