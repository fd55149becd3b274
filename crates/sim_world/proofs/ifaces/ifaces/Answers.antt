use Rattle.std.proofs.Common.{◌≡◌, ℕ, ◌+◌, ◌<◌, List, [], ◌∷◌, ◌++◌, length, map, take, get_or, ap, sym, ◌∙◌}
use Rattle.std.proofs.lemmas.List.{map_more}
use Rattle.iface_step.specs.Iface.{PlainIface}
use Rattle.sim_world.specs.Ifaces.{Around, iface_of}
use Rattle.sim_world.specs.Plan.{planned_around}
use Rattle.sim_world.proofs.ifaces.ifaces.Goals as goal

-- one more of a list is done
one_more : {X Y : Type 0} (f : X → Y) (done : List Y) (xs : List X) (i : ℕ) (d : X) → i < length xs → done ≡ map f (take i xs)
    → done ++ f (get_or xs i d) ∷ [] ≡ map f (take (i + 1) xs)
one_more f done xs i d there is = ap (λ ys. ys ++ f (get_or xs i d) ∷ []) is ∙ sym (map_more f xs i d there)

pub loop-end-preserved : goal.loop-end-preserved
loop-end-preserved g c =
    let around : Around = planned_around c.args.told c.args.losses.now c.args.plan.now in
    c.in_ok-push.ensures.items
    ∙ ap (λ (iface : PlainIface). c.loop-end.ifaces.items ++ iface ∷ []) c.in_ok-iface.ensures
    ∙ one_more (iface_of around) c.loop-end.ifaces.items c.args.ends.now c.loop-end.end-index _ c.loop-end-test.true c.loop-end.invariant
