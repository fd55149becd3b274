-- What an interface is attached to: a link, or a LAN.
use Rattle.std.specs.Prelude.{ℕ, Bool, List, [], ◌∷◌, Option, None, Some}
use Rattle.p2p_dev.specs.Device.{Device as LinkDevice}
use Rattle.csma_dev.specs.Device.{Device as LanDevice, is_busy}
use Rattle.arp_core.specs.Cache.{PlainCache}
use Rattle.iface_step.specs.declared.words.Place.{Place}

-- one end of a link: the interface at the other end, and the device
pub record PlainLinkEnd : Type 0 where
  pub peer : Place
  pub device : LinkDevice

-- a place on a LAN: the LAN's number, the interfaces of the other members in the order of their nodes, the device, and what
-- is known of addresses
pub record PlainLanEnd : Type 0 where
  pub lan : ℕ
  pub others : List Place
  pub device : LanDevice
  pub cache : PlainCache

pub data PlainAttachment : Type 0 where
  OnLink : PlainLinkEnd → PlainAttachment
  OnLan : PlainLanEnd → PlainAttachment

-- a device that sends, or has a frame that waits for the bus, takes no other frame
abbrev pub is_sending : PlainAttachment → Bool
is_sending (OnLink e) = e.device.busy
is_sending (OnLan e) = is_busy e.device.does

-- the LAN that it is on, if it is on one
abbrev pub lan_of : PlainAttachment → Option ℕ
lan_of (OnLink e) = None
lan_of (OnLan e) = Some e.lan

-- the interfaces that a frame reaches: the one at the other end, or those of all other members in the order of their nodes
abbrev pub neighbours : PlainAttachment → List Place
neighbours (OnLink e) = e.peer ∷ []
neighbours (OnLan e) = e.others

-- a frame has its header of two bytes on a link (RFC 1661, section 2), and its header of 14 bytes and its trailer of 4 on a LAN
-- (IEEE 802.3, section 3.1.1)
abbrev pub least_frame : PlainAttachment → ℕ
least_frame (OnLink e) = 2
least_frame (OnLan e) = 18
