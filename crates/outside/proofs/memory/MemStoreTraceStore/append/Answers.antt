use Rattle.std.proofs.Common.{ap, sym, ◌∙◌, Some, length}
use Rattle.outside.proofs.Files.{append_to-none, length-append_to}
use Rattle.outside.proofs.memory.MemStoreTraceStore.append.Goals as goal

pub returns-then-next_fails-clause-files : goal.returns-then-next_fails-clause-files
returns-then-next_fails-clause-files c = (0, ap Some (sym (append_to-none c.args.self.now.files.items c.args.file)))

pub returns-in-Err-clause-files : goal.returns-in-Err-clause-files
returns-in-Err-clause-files c = (0, ap Some (c.in-Err.ensures.err ∙ sym (append_to-none c.args.self.now.files.items c.args.file)))

pub returns-in-Ok-clause-made : goal.returns-in-Ok-clause-made
returns-in-Ok-clause-made c = ap length c.in-Ok.ensures.ok ∙ length-append_to c.args.self.now.files.items c.args.file c.args.bytes.now
