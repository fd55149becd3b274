-- An application of a node.
use Rattle.std.specs.Prelude.{ℕ}
use Rattle.sim_base.specs.declared.numbers.Numbers.{Numbers}
use Rattle.sim_base.specs.Packet.{Packet}
use Rattle.layer_words.specs.Acts.{Numbered}
use Rattle.traffic_apps.specs.declared.app.Act.{Act}
use Rattle.traffic_apps.specs.declared.app.In.{In}
use Rattle.traffic_apps.specs.App.{PlainApp}
use Rattle.traffic_apps.specs.Step.{step}
use Rattle.node_step.specs.declared.local_app.AppCount.{AppCount}

-- the application, and the port that it sends from
pub record PlainLocalApp : Type 0 where
  pub app : PlainApp
  pub port : ℕ

-- a step of the application; its port stays
unfoldable pub app_step : PlainLocalApp → Numbers → In Packet → Numbered PlainLocalApp (Act Packet)
app_step a numbers input = let stepped = step a.app numbers input in
    record { state = record a { app = stepped.state }; numbers = stepped.numbers; acts = stepped.acts }

-- what the application has sent and got, by its number in the scenario
abbrev pub app_count : PlainLocalApp → AppCount
app_count a = record {
  app = a.app.number;
  sent = a.app.counts.sent;
  sent_bytes = a.app.counts.sent_bytes;
  got = a.app.counts.got;
  got_bytes = a.app.counts.got_bytes;
}
