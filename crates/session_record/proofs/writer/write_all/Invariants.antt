use Rattle.std.proofs.Common.{◌≡◌, ◌≤◌, ◌-◌, length}
use Rattle.session_record.specs.Writing.{HasWritten, HasRoom}
use Rattle.session_record.proofs.writer.write_all.Given as goal

abbrev pub invariant-loop-at : goal.invariant-loop-at
invariant-loop-at g l = record {
  within : l.at ≤ length l.octets;
  written : HasWritten (g.K.Sink.taken l.fn.sink) l.octets l.at (g.K.Sink.taken l.sink);
  faults : g.K.Sink.faults l.sink ≡ g.K.Sink.faults l.fn.sink;
  room : HasRoom (g.K.Sink.room l.fn.sink) l.octets l.at (g.K.Sink.room l.sink);
}

abbrev pub decreases-loop-at : goal.decreases-loop-at
decreases-loop-at g l = length l.octets - l.at
