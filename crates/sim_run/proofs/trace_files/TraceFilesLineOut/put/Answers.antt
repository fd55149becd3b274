use Rattle.std.proofs.Common.{◌≡◌, ◌∙◌, ◌<◌, ◌≤◌, List, Some, None, length, map, ap, sym, subst, arith}
use Rattle.std.proofs.lemmas.List.{take_all}
use Rattle.pkt_face.specs.Seen.{plain_line}
use Rattle.pcap_form.specs.Capture.{captured_packet}
use Rattle.ascii_trace.specs.declared.entry.Entry.{Entry}
use Rattle.ascii_trace.specs.Text.{entry_text}
use Rattle.sim_run.specs.declared.traces.Trace.{Trace}
use Rattle.sim_run.specs.Pieces.{HasGrownByFronts, HasGrownFrom, written_pieces}
use Rattle.sim_run.specs.Traces.{HaveOwnLines, line_bytes, place_for}
use Rattle.sim_run.proofs.PieceLaws.{goes_on}
use Rattle.sim_run.proofs.WrittenLaws.{bytes-saved, bytes-told, entry-made, frame-whole, line-none, line-some, written-nothing, written-stopped, written-more}
use Rattle.sim_run.proofs.trace_files.TraceFilesLineOut.put.Goals.{then-saves+in-Ok+in-Ok-add_packet, else-saves+in-Ok-add_text}
use Rattle.sim_run.proofs.trace_files.TraceFilesLineOut.put.Goals as goal

pub returns-in_default-resize-clause-lines : goal.returns-in_default-resize-clause-lines
returns-in_default-resize-clause-lines g c start before put =
    let was = c.args.self.now in
    let going = goes_on was.failed was.first (length was.pieces.now.traces) (g.F.TraceStore.made was.store.now) c.requires.going in
    rw (c.loop-line.invariant.failed, c.loop-line.invariant.traces, c.loop-line.invariant.first, c.loop-line.invariant.store)
    (written-nothing was.pieces.now.traces was.first (g.F.TraceStore.files start.store.now) (g.F.TraceStore.files was.store.now) before
    (map (plain_line g.P.Pkt.plain) c.args.lines.now) was.failed going.0 put)

pub returns-in_default-add_packet-clause-lines : goal.returns-in_default-add_packet-clause-lines
returns-in_default-add_packet-clause-lines g c start before put =
    let was = c.args.self.now in
    let going = goes_on was.failed was.first (length was.pieces.now.traces) (g.F.TraceStore.made was.store.now) c.requires.going in
    rw (c.loop-line.invariant.failed, c.in_default-add_packet.ensures.traces, c.loop-line.invariant.traces, c.loop-line.invariant.first, c.loop-line.invariant.store)
    (written-nothing was.pieces.now.traces was.first (g.F.TraceStore.files start.store.now) (g.F.TraceStore.files was.store.now) before
    (map (plain_line g.P.Pkt.plain) c.args.lines.now) was.failed going.0 put)

pub returns-in_default-add_text-clause-lines : goal.returns-in_default-add_text-clause-lines
returns-in_default-add_text-clause-lines g c start before put =
    let was = c.args.self.now in
    let going = goes_on was.failed was.first (length was.pieces.now.traces) (g.F.TraceStore.made was.store.now) c.requires.going in
    rw (c.loop-line.invariant.failed, c.in_default-add_text.ensures.traces, c.loop-line.invariant.traces, c.loop-line.invariant.first, c.loop-line.invariant.store)
    (written-nothing was.pieces.now.traces was.first (g.F.TraceStore.files start.store.now) (g.F.TraceStore.files was.store.now) before
    (map (plain_line g.P.Pkt.plain) c.args.lines.now) was.failed going.0 put)

pub loop-line-preserved-in_default : goal.loop-line-preserved-in_default
loop-line-preserved-in_default g c =
    let traces = c.args.self.now.pieces.now.traces in
    let item = c.line-item.result in
    let within : c.loop-line.line-index < length c.args.lines.now = omega arith in
    let none = subst (λ (ts : List Trace). place_for item.sign item.node.0 item.iface ts ≡ None) c.loop-line.invariant.traces (sym c.in_default.ensures.value) in record {
      failed = c.loop-line.invariant.failed;
      store = c.loop-line.invariant.store;
      first = c.loop-line.invariant.first;
      traces = c.loop-line.invariant.traces;
      pieces = line-none g.P.Pkt.plain traces c.args.lines.now c.loop-line.line-index item c.loop-line.self.pieces.now.pieces within c.line-item.is
          c.loop-line.invariant.pieces none;
    }

pub loop-line-preserved : goal.loop-line-preserved
loop-line-preserved g c =
    let traces = c.args.self.now.pieces.now.traces in
    let item = c.line-item.result in
    let line = plain_line g.P.Pkt.plain item in
    let within : c.loop-line.line-index < length c.args.lines.now = omega arith in
    let some = subst (λ (ts : List Trace). place_for item.sign item.node.0 item.iface ts ≡ Some c.in-Some.place) c.loop-line.invariant.traces (sym c.in-Some.ensures.value) in
    let own = subst (λ (ts : List Trace). HaveOwnLines ts) c.loop-line.invariant.traces c.in-Some.ensures.own in elim c.if-saves.branch [
      | then-saves+in-Ok+in-Ok-add_packet w ↦
          let size : length w.as_mut_slice-frame.result.now ≡ length (g.P.Pkt.plain item.packet).bytes =
          omega (arith, w.as_mut_slice-frame.ensures.len, w.in-Ok.ensures.len, w.len.ensures.value) in
          let frame = frame-whole (g.P.Pkt.plain item.packet).bytes w.peek.new.buf (length w.as_mut_slice-frame.result.now) w.peek.ensures size in
          let bytes : captured_packet item.key.time.0 w.peek.new.buf ≡ line_bytes line =
          ap (captured_packet item.key.time.0) frame ∙ bytes-saved line (sym c.saves.ensures ∙ w.if-saves.true) in
          rw w.self-is
          (record {
            failed = c.loop-line.invariant.failed;
            store = c.loop-line.invariant.store;
            first = c.loop-line.invariant.first;
            traces = w.in-Ok-add_packet.ensures.traces ∙ c.loop-line.invariant.traces;
            pieces = line-some g.P.Pkt.plain traces c.args.lines.now c.loop-line.line-index item c.in-Some.place
                (captured_packet item.key.time.0 w.peek.new.buf) c.loop-line.self.pieces.now.pieces w.add_packet.new.self.pieces
                within c.line-item.is own c.loop-line.invariant.pieces some bytes w.in-Ok-add_packet.ensures.ok;
          })
      | else-saves+in-Ok-add_text w ↦
          let entry : Entry = record {
            sign = item.sign;
            time = item.key.time;
            node = item.node;
            iface = item.iface;
            uid = w.uid.result;
            length = w.len-else-saves.result;
          } in
          let bytes : entry_text entry w.items.result.now ≡ line_bytes line =
          entry-made line w.uid.result w.len-else-saves.result w.items.result.now w.uid.ensures w.len-else-saves.ensures.value w.items.ensures
          ∙ bytes-told line (sym c.saves.ensures ∙ w.if-saves.false) in
          rw w.self-is
          (record {
            failed = c.loop-line.invariant.failed;
            store = c.loop-line.invariant.store;
            first = c.loop-line.invariant.first;
            traces = w.in-Ok-add_text.ensures.traces ∙ c.loop-line.invariant.traces;
            pieces = line-some g.P.Pkt.plain traces c.args.lines.now c.loop-line.line-index item c.in-Some.place
                (entry_text entry w.items.result.now) c.loop-line.self.pieces.now.pieces w.add_text.new.self.pieces
                within c.line-item.is own c.loop-line.invariant.pieces some bytes w.in-Ok-add_text.ensures.ok;
          })
    ]

pub returns-in_err-append_pieces-clause-lines : goal.returns-in_err-append_pieces-clause-lines
returns-in_err-append_pieces-clause-lines g c start before put =
    let was = c.args.self.now in
    let more = map (plain_line g.P.Pkt.plain) c.args.lines.now in
    let going = goes_on was.failed was.first (length was.pieces.now.traces) (g.F.TraceStore.made was.store.now) c.requires.going in
    let all : length c.args.lines.now ≤ c.loop-line.line-index = omega arith in
    let pieces : c.loop-line.self.pieces.now.pieces ≡ written_pieces was.pieces.now.traces more =
    c.loop-line.invariant.pieces ∙ ap (λ ls. written_pieces was.pieces.now.traces (map (plain_line g.P.Pkt.plain) ls)) (take_all c.loop-line.line-index c.args.lines.now all) in
    let partly : HasGrownByFronts (g.F.TraceStore.files was.store.now) (g.F.TraceStore.files c.append_pieces.new.store) was.first (written_pieces was.pieces.now.traces more) =
    rw (c.loop-line.invariant.store, c.loop-line.invariant.first, pieces) at c.in_err-append_pieces.ensures.err in
    rw (c.loop-line.invariant.failed, c.loop-line.invariant.traces, c.loop-line.invariant.first)
    (written-stopped was.pieces.now.traces was.first (g.F.TraceStore.files start.store.now) (g.F.TraceStore.files was.store.now) (g.F.TraceStore.files c.append_pieces.new.store)
    before more was.failed going.0 put partly)

pub returns-clause-lines : goal.returns-clause-lines
returns-clause-lines g c start before put =
    let was = c.args.self.now in
    let more = map (plain_line g.P.Pkt.plain) c.args.lines.now in
    let going = goes_on was.failed was.first (length was.pieces.now.traces) (g.F.TraceStore.made was.store.now) c.requires.going in
    let all : length c.args.lines.now ≤ c.loop-line.line-index = omega arith in
    let pieces : c.loop-line.self.pieces.now.pieces ≡ written_pieces was.pieces.now.traces more =
    c.loop-line.invariant.pieces ∙ ap (λ ls. written_pieces was.pieces.now.traces (map (plain_line g.P.Pkt.plain) ls)) (take_all c.loop-line.line-index c.args.lines.now all) in
    let grown : HasGrownFrom (g.F.TraceStore.files was.store.now) (g.F.TraceStore.files c.append_pieces.new.store) was.first (written_pieces was.pieces.now.traces more) =
    rw (c.loop-line.invariant.store, c.loop-line.invariant.first, pieces) at c.in_ok-append_pieces.ensures.ok in
    rw (c.loop-line.invariant.traces, c.loop-line.invariant.first)
    (written-more was.pieces.now.traces was.first (g.F.TraceStore.files start.store.now) (g.F.TraceStore.files was.store.now) (g.F.TraceStore.files c.append_pieces.new.store)
    before more was.failed going.0 put grown)
