use Rattle.std.proofs.Common.{map, string_bytes}
use Rattle.command_words.proofs.CommandLaws.{command-range}
use Rattle.command_words.proofs.command.read_command.Goals as goal

pub returns-clause-range : goal.returns-clause-range
returns-clause-range c = command-range (map string_bytes c.args.words.now) c.command_in.result c.command_in.ensures
