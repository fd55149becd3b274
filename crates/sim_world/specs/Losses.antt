-- The frames that an interface loses.
use Rattle.std.specs.Prelude.{ℕ, ◌≤◌, pos, ◌==◌, ◌&&◌, List, [], Option, None, Some, find, unwrap_or, IfSome}
use Rattle.std.specs.Ordering.{int_eq}
use Rattle.sim_base.specs.declared.loss.LossKind.{LossKind}
use Rattle.sim_base.specs.declared.loss.LossKind.TheVariants as by
use Rattle.sim_base.specs.Losses.{AreRisingAbove, PlainLoss, no_loss}
use Rattle.iface_step.specs.declared.words.Place.{Place}
use Rattle.scenario_form.specs.declared.scenario.Loss.{Loss}

-- the loss on an interface, if there is one
abbrev pub loss_at : Place → List Loss → Option Loss
loss_at place losses = find (λ l. (l.node.0 == place.node.0) && int_eq l.iface (pos place.iface)) losses

-- by the numbers of frames where these stand, or else by a draw
abbrev pub kind_of : Option (List ℕ) → Option ℕ → LossKind
kind_of (Some frames) millionths = by.Frames
kind_of None (Some millionths) = by.Millionths millionths
kind_of None None = by.None

-- a loss before a frame has come
abbrev pub loss_of : Option Loss → PlainLoss
loss_of None = no_loss
loss_of (Some l) = record { kind = kind_of l.frames l.millionths; frames = unwrap_or l.frames []; flip_frames = []; flip_bit = 0; counted = 0 }

-- listed frames rise, and there are at most a million millionths
pub record IsLoss (l : Loss) : Type 0 where
  pub frames : IfSome l.frames (AreRisingAbove 0)
  pub millionths : IfSome l.millionths (λ m. m ≤ 1000000)
