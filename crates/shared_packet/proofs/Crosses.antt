-- A packet may be read in several threads at once. A caller that needs it at this packet cites this, since the base of the atomic steps proves no such thing of a seat.
use denote.Param.Send.{IsSync, sendable, part_keyless}
use Rattle.std.proofs.Crossing.{crosses}
use Rattle.atomic_table.specs.contracts.shared.Seat as Seat
use Rattle.atomic_table.proofs.shared.Seat.TheSendSync as seat
use Rattle.atomic_table.proofs.owned.Table.TheSendSync as table
use Rattle.byte_block.proofs.frozen.FrozenRange.TheSendSync as bytes
use Rattle.byte_block.proofs.whole.WholeBlock.TheSendSync as block
use Rattle.edge_claims.specs.contracts.view.End as End
use Rattle.edge_claims.specs.contracts.view.View as View
use Rattle.edge_claims.specs.contracts.window.Window as Window
use Rattle.edge_claims.proofs.view.End.TheSendSync as ends
use Rattle.tag_lists.proofs.tags.Tags.TheSendSync as tags
use Rattle.packet_meta.proofs.meta.Meta.TheSendSync as items
use Rattle.shared_packet.specs.contracts.packet.SharedPkt as SharedPkt

-- what a seat owns names no thread
seat-sync : IsSync (Seat.the_row End.the_row View.the_row)
seat-sync = record { shared = λ d b o κ q. part_keyless (Seat.the_row End.the_row View.the_row) (seat.the_send End.the_row View.the_row ends.the_send) q d b o }

window-sync : IsSync Window.the_row
window-sync = search (seat-sync, bytes.the_sync, block.the_sync, ends.the_send, table.the_sync, table.the_send, crosses, sendable) depth 60

pub shared_packet-sync : IsSync SharedPkt.the_row
shared_packet-sync = search (window-sync, tags.the_sync, items.the_sync, crosses, sendable) depth 60
