-- A node, and a firing of one of its events that is under way.
use Rattle.std.specs.Prelude.{ℕ, List, Option, None, Some, slice_get, slice_set}
use Rattle.sim_base.specs.declared.numbers.Numbers.{Numbers}
use Rattle.sim_base.specs.declared.time.Time.{Time}
use Rattle.sim_base.specs.Draws.{PlainRandom}
use Rattle.layer_words.specs.Counting.{count_up}
use Rattle.frag_core.specs.Step.{PlainFrags}
use Rattle.ipv4_core.specs.Ip.{PlainIp}
use Rattle.udp_icmp.specs.Ports.{PlainPorts}
use Rattle.tcp_flow.specs.Conns.{PlainConns}
use Rattle.iface_step.specs.Iface.{PlainIface}
use Rattle.node_step.specs.Firing.{PlainFiring}
use Rattle.node_step.specs.LocalApp.{PlainLocalApp}

-- Its interfaces; its routes and addresses; the fragments that it holds; which application gets what comes; its connections; its
-- applications; its generator; what it has numbered; how many packets it has dropped; how many events it had scheduled before the
-- run, and how many it has scheduled in all
pub record PlainNode : Type 0 where
  pub ifaces : List PlainIface
  pub ip : PlainIp
  pub frags : PlainFrags
  pub ports : PlainPorts
  pub conns : PlainConns
  pub apps : List PlainLocalApp
  pub random : PlainRandom
  pub numbers : Numbers
  pub drops : ℕ
  pub first : ℕ
  pub scheduled : ℕ

-- a node and the firing of one of its events, under way
pub record Progress : Type 0 where
  pub node : PlainNode
  pub firing : PlainFiring

abbrev pub progress : PlainNode → PlainFiring → Progress
progress node firing = record { node = node; firing = firing }

-- when it fires
abbrev pub now : Progress → Time
now p = p.firing.key.time

abbrev pub with_app : ℕ → PlainLocalApp → Progress → Progress
with_app app a p = record p { node = record p.node { apps = slice_set p.node.apps app a } }

abbrev pub with_frags : PlainFrags → Progress → Progress
with_frags frags p = record p { node = record p.node { frags = frags } }

abbrev pub with_conns : PlainConns → Progress → Progress
with_conns conns p = record p { node = record p.node { conns = conns } }

abbrev pub with_numbers : Numbers → Progress → Progress
with_numbers numbers p = record p { node = record p.node { numbers = numbers } }

abbrev pub with_firing : PlainFiring → Progress → Progress
with_firing firing p = record p { firing = firing }

-- a node that has dropped one more packet
unfoldable pub with_drop : PlainNode → PlainNode
with_drop node = record node { drops = count_up 1 node.drops }

-- one more packet is dropped
abbrev pub dropped : Progress → Progress
dropped p = record p { node = with_drop p.node }

abbrev pub changed : {Part : Type 0} → Option Part → (Part → Progress) → Progress → Progress
changed None act p = p
changed (Some part) act p = act part

-- what is done with an application of the node; nothing, where there is none of this number
abbrev pub at_app : ℕ → (PlainLocalApp → Progress) → Progress → Progress
at_app app act p = changed (slice_get p.node.apps app) act p
