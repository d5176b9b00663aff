use Rattle.std.proofs.Common.{◌≡◌, ◌+◌, ◌-◌, true, length}
use Rattle.session_record.specs.Records.{most_octets}
use Rattle.session_record.specs.Reading.{ahead, Gains, KeepsAhead}
use Rattle.session_record.specs.Steps.{is_ready, HeldAlone}
use Rattle.session_record.proofs.reader.RecordReader.gather.Given as goal

abbrev pub invariant-loop-self : goal.invariant-loop-self
invariant-loop-self g l = record {
  held : HeldAlone l.fn.self l.self;
  ahead : KeepsAhead (ahead l.fn.self.held (g.F.Shelf.rest l.fn.shelf)) (ahead l.self.held (g.F.Shelf.rest l.shelf));
  gains : Gains l.fn.self.held (g.F.Shelf.rest l.fn.shelf) l.self.held (g.F.Shelf.rest l.shelf);
  ready : is_ready l.fn.self ≡ true → (l.self ≡ l.fn.self) × (l.shelf ≡ l.fn.shelf);
  faults : g.F.Shelf.faults l.shelf ≡ g.F.Shelf.faults l.fn.shelf;
  files : g.F.Shelf.files l.shelf ≡ g.F.Shelf.files l.fn.shelf;
  sound : g.F.Shelf.is_sound l.fn.shelf → g.F.Shelf.is_sound l.shelf;
}

abbrev pub decreases-loop-self : goal.decreases-loop-self
decreases-loop-self g l = most_octets + 8 - length l.self.held
