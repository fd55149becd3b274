use Rattle.std.proofs.Common.{◌≡◌, ap, arith, sym, ◌∙◌}
use Rattle.sim_world.specs.Guide.{led_by}
use Rattle.sim_world.proofs.GuideLaws.{led_none, led_read, led_some}
use Rattle.sim_world.proofs.guide.led_by.Goals.{in-Some+in_ok-push, in_default}
use Rattle.sim_world.proofs.guide.led_by.Goals as goal

pub loop-t-preserved : goal.loop-t-preserved
loop-t-preserved c =
    let row = c.args.row.now in
    let on = c.args.on.now in
    let ends = c.args.ends.now in
    let t = c.loop-t.t in
    let at : led_by row on ends t ≡ c.led.result = led_read row on ends t _ c.index-on-t.result c.as_slice.result.now c.led.result (omega (arith, c.loop-t-test.true)) (omega (arith, c.loop-t-test.true, c.requires.count)) c.as_slice.ensures c.index-on-t.is c.led.ensures in
    elim c.match-led.branch [
      | in-Some+in_ok-push w ↦
          led_some (led_by row on ends) t c.loop-t.entries.items c.match-led.entries.items w.in-Some.entry c.loop-t.invariant (at ∙ w.in-Some.is)
          (ap (λ v. v.items) w.entries-is ∙ w.in_ok-push.ensures.items)
      | in_default w ↦
          led_none (led_by row on ends) t c.loop-t.entries.items c.match-led.entries.items c.loop-t.invariant (at ∙ w.in_default.is) (ap (λ v. v.items) w.entries-is)
    ]
