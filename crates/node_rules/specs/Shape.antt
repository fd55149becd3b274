-- What a network has: nodes, and what their interfaces are attached to.
use Rattle.std.specs.Prelude.{ℕ, ◌==◌, Bool, false, List, Option, None, Some}
use Rattle.std.specs.List.{list_any}
use Rattle.iface_step.specs.declared.words.Place.{Place}
use Rattle.iface_step.specs.Attachment.{PlainAttachment, OnLan, OnLink, lan_of, neighbours}

-- what an interface is attached to: the LAN, if it is one; the interfaces that its frames reach; and how many nanoseconds the
-- delay is
pub record Wire : Type 0 where
  pub lan : Option ℕ
  pub reaches : List Place
  pub delay : ℕ

-- what a network has, as long as it runs: how many nodes and LANs; the wire of each interface of a node; how many applications
-- a node has
pub record Shape : Type 0 where
  pub nodes : ℕ
  pub lans : ℕ
  pub wires : ℕ → List Wire
  pub apps : ℕ → ℕ

abbrev pub delay_of : PlainAttachment → ℕ
delay_of (OnLink e) = e.device.delay
delay_of (OnLan e) = e.device.delay

abbrev pub wire_of : PlainAttachment → Wire
wire_of at = record { lan = lan_of at; reaches = neighbours at; delay = delay_of at }

abbrev pub is_lan : ℕ → Option ℕ → Bool
is_lan lan None = false
is_lan lan (Some own) = own == lan

-- a node sits on a LAN, if one of its interfaces does
abbrev pub sits_on : Shape → ℕ → ℕ → Bool
sits_on shape node lan = list_any (λ wire. is_lan lan wire.lan) (shape.wires node)

-- how many bytes a frame has at least, on a link and on a LAN
abbrev pub least_on : Option ℕ → ℕ
least_on None = 2
least_on (Some lan) = 18
