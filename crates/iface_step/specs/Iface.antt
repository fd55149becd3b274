-- An interface.
use Rattle.std.specs.Prelude.{Bool}
use Rattle.queue_discs.specs.Disc.{PlainDisc}
use Rattle.iface_step.specs.declared.words.Place.{Place}
use Rattle.iface_step.specs.Attachment.{PlainAttachment}

-- Which interface of its node it is; whether the text trace tells what its frames do, and whether a capture has them; the frames that
-- wait, and whether the disc is to be asked again at a time; what it is attached to
pub record PlainIface : Type 0 where
  pub place : Place
  pub told : Bool
  pub captured : Bool
  pub disc : PlainDisc
  pub ready_later : Bool
  pub at : PlainAttachment
