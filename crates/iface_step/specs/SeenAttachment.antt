-- What an interface is attached to, as contracts see it.
use Rattle.iface_step.specs.declared.attachment.Attachment.{Attachment}
use Rattle.iface_step.specs.declared.attachment.Attachment.TheVariants.{Link, Lan}
use Rattle.iface_step.specs.Attachment.{PlainAttachment, OnLink, OnLan}

abbrev pub plain_attachment : {P Maker : Type 0} → Attachment P Maker → PlainAttachment
plain_attachment (Link e) = OnLink e
plain_attachment (Lan e) = OnLan e
