use Rattle.std.proofs.Common.{ℕ, ◌≡◌, List, length, get_or, take, ap, sym, subst, ◌∙◌}
use Rattle.std.specs.Prelude.{All}
use Rattle.std.specs.List.{filter_map}
use Rattle.sim_world.specs.declared.ends.End.{End}
use Rattle.sim_world.specs.Ends.{IsOn}
use Rattle.sim_world.specs.Grouping.{joined}
use Rattle.sim_world.specs.Lans.{lan_of, member_of}
use Rattle.sim_world.proofs.GroupLaws.{grouped-nil, length-grouped}
use Rattle.sim_world.proofs.lans.members_by_lan.Goals as goal

pub loop-there-init : goal.loop-there-init
loop-there-init c = c.in_ok-members.ensures ∙ grouped-nil lan_of c.args.lans

pub add_members-requires : goal.add_members-requires
add_members-requires c =
    let long : length c.loop-there.members.items ≡ c.args.lans =
    ap length c.loop-there.invariant ∙ length-grouped lan_of c.args.lans (filter_map member_of (joined (take c.loop-there.there-index c.args.ends.now))) in
    let there : List End = get_or c.args.ends.now c.loop-there.there-index c.there-item.result in
    subst (λ (ends : List End). All (λ (e : End). IsOn (length c.loop-there.members.items) e.medium) ends) (sym (c.as_slice.ensures ∙ c.there-item.is))
    (subst (λ (lans : ℕ). All (λ (e : End). IsOn lans e.medium) there) (sym long) (c.requires c.loop-there.there-index c.there-item.result c.loop-there-test.true))
