use Rattle.std.proofs.Common.{◌≡◌, ◌+◌, drop}
use Rattle.record_commands.specs.Encoding.{line_length}
use Rattle.record_commands.proofs.encoding.line_length.Given as goal

abbrev pub invariant-loop-index : goal.invariant-loop-index
invariant-loop-index l = line_length l.text ≡ l.index + line_length (drop l.index l.text)
