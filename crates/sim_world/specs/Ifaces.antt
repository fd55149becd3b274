-- Interfaces as a run begins with them.
use Rattle.std.specs.Prelude.{ℕ, Bool, false, ◌||◌, List, [], Option, slice_index_or}
use Rattle.csma_dev.specs.declared.device.Use.TheVariants.{Idle}
use Rattle.queue_discs.specs.Disc.{empty}
use Rattle.scenario_form.specs.declared.scenario.Loss.{Loss}
use Rattle.iface_step.specs.Attachment.{PlainAttachment}
use Rattle.iface_step.specs.Attachment as at
use Rattle.iface_step.specs.declared.words.Place.{Place}
use Rattle.iface_step.specs.Iface.{PlainIface}
use Rattle.sim_world.specs.declared.ends.End.{End}
use Rattle.sim_world.specs.declared.ends.Medium.{Medium}
use Rattle.sim_world.specs.declared.ends.Medium.TheVariants.{Link, OnLan}
use Rattle.sim_world.specs.declared.lans.Member.{Member}
use Rattle.sim_world.specs.Lans.{mac_of, others}
use Rattle.sim_world.specs.Losses.{loss_at, loss_of}

-- what lies around a node: whether the text trace is asked for, the losses, and the members of each LAN in the order of their nodes
pub record Around : Type 0 where
  pub told : Bool
  pub losses : List Loss
  pub members : List (List Member)

-- an idle device at an end of a link
abbrev pub link_end : Bool → List Loss → End → Place → PlainAttachment
link_end told losses e peer = at.OnLink (record {
  peer = peer;
  device = record {
    rate = e.network.rate.0;
    delay = e.network.delay.0;
    traced = told || e.network.captured;
    busy = false;
    loss = loss_of (loss_at e.place losses);
  };
})

-- an idle device on a LAN, and nothing known of addresses
abbrev pub lan_end : Around → End → ℕ → PlainAttachment
lan_end around e lan = at.OnLan (record {
  lan = lan;
  others = others e.place.node (slice_index_or around.members lan []);
  device = record {
    mac = mac_of lan e.place.node;
    rate = e.network.rate.0;
    delay = e.network.delay.0;
    traced = around.told || e.network.captured;
    does = Idle;
    loss = loss_of (loss_at e.place around.losses);
  };
  cache = record { mac = mac_of lan e.place.node; addr = e.addr; entries = [] };
})

abbrev pub attachment : Around → End → Medium → PlainAttachment
attachment around e (Link peer) = link_end around.told around.losses e peer
attachment around e (OnLan lan) = lan_end around e lan

-- an interface before which no frame waits, and whose frames are told where the text trace is asked for
abbrev pub idle_at : Bool → PlainAttachment → End → PlainIface
idle_at told at e = record {
  place = e.place;
  told = told;
  captured = e.network.captured;
  disc = empty e.network.disc;
  ready_later = false;
  at = at;
}

abbrev pub iface_of : Around → End → PlainIface
iface_of around e = idle_at around.told (attachment around e e.medium) e
