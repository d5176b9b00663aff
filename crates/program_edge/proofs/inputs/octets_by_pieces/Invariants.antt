use Rattle.std.proofs.Common.{◌≡◌, ◌+◌, ◌-◌, ◌<◌, ◌≤◌, length}
use Rattle.session_record.specs.Reading.{ahead, KeepsAhead}
use Rattle.program_edge.proofs.inputs.octets_by_pieces.Given as goal

abbrev pub invariant-loop-octets : goal.invariant-loop-octets
invariant-loop-octets g l = record {
  ahead : KeepsAhead (g.F.Shelf.rest l.fn.shelf) (ahead l.octets.items (g.F.Shelf.rest l.shelf));
  piece : 0 < length l.piece;
  size : length l.piece ≡ length l.fn.piece;
  few : length l.octets.items ≤ l.most + length l.fn.piece;
  faults : g.F.Shelf.faults l.shelf ≡ g.F.Shelf.faults l.fn.shelf;
  files : g.F.Shelf.files l.shelf ≡ g.F.Shelf.files l.fn.shelf;
  sound : g.F.Shelf.is_sound l.fn.shelf → g.F.Shelf.is_sound l.shelf;
}

abbrev pub decreases-loop-octets : goal.decreases-loop-octets
decreases-loop-octets g l = l.most + 1 - length l.octets.items
