use Rattle.std.proofs.Common.{◌≡◌, ◌+◌, drop, map, string_bytes}
use Rattle.command_words.specs.Command.{nothing, with_settings}
use Rattle.command_words.proofs.command.read_settings.Given as goal

-- the words so far leave the command to the others
abbrev pub invariant-loop-word : goal.invariant-loop-word
invariant-loop-word l = record {
  place : l.place ≡ l.word-index + 2;
  left : with_settings l.verb l.place l.given (map string_bytes (drop l.word-index l.words)) ≡ with_settings l.verb 2 nothing (map string_bytes l.words);
}
