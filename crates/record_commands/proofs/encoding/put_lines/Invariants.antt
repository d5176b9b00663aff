use Rattle.std.proofs.Common.{◌≡◌, ◌+◌, ◌≤◌, length}
use Rattle.record_commands.specs.Encoding.{lines, packets, with_packets}
use Rattle.record_commands.proofs.encoding.put_lines.Given as goal

abbrev pub invariant-loop-rest : goal.invariant-loop-rest
invariant-loop-rest l = record {
  given : with_packets l.draft.octets.items (packets l.tailoring l.number (lines l.rest)) ≡ with_packets l.fn.draft.octets.items (packets l.tailoring 0 (lines l.text));
  counted : l.number + length l.rest ≤ length l.text;
}

abbrev pub decreases-loop-rest : goal.decreases-loop-rest
decreases-loop-rest l = length l.rest
