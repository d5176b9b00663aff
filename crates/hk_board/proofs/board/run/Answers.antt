use Rattle.std.proofs.Common.{◌≡◌, ℕ, List, Option, Ok, sym, subst, ◌∙◌}
use Rattle.hk_base.specs.Outside.{HasRisen}
use Rattle.program_edge.specs.Tailorings.{octets_of}
use Rattle.hk_board.specs.Words.{asked}
use Rattle.hk_board.specs.Inputs.{Tells, TellsUnder}
use Rattle.hk_board.specs.Runs.{status_of}
use Rattle.hk_board.proofs.OuterLemmas.{known_by, tailoring_told}
use Rattle.hk_board.proofs.board.run.Goals as goal

pub returns-in-Ok-clause-run : goal.returns-in-Ok-clause-run
returns-in-Ok-clause-run g c =
    let t = c.in-Ok.tailoring in
    let files = g.F.Shelf.files c.args.shelf.now in
    let name = c.args.command.script.now in
    let after = g.F.Shelf.faults c.run_named.new.shelf in
    known_by g.N.Sensor c.args.sensors.now.items c.run_named.new.sensors.items (Tells files (asked c.args.command)) (TellsUnder t (octets_of (g.F.Shelf.files c.tailoring_of.new.shelf) name)) (status_of c.run_named.result)
    (g.F.Shelf.is_sound c.args.shelf.now) (g.F.Shelf.is_sound c.tailoring_of.new.shelf) (g.F.Shelf.faults c.args.shelf.now) (g.F.Shelf.faults c.tailoring_of.new.shelf) after (g.K.Sink.taken c.args.sink.now)
    (g.K.Sink.taken c.run_named.new.sink) (g.K.Sink.room c.args.sink.now) (g.K.Sink.faults c.args.sink.now) (g.K.Sink.faults c.run_named.new.sink) c.run_named.ensures.run
    (λ outcome told.
    subst (λ (fs : Option (List (List ℕ × List ℕ))). TellsUnder t (octets_of fs name) outcome) (sym c.tailoring_of.ensures.files)
    (tailoring_told t files (asked c.args.command) outcome (λ meant stands. c.in-Ok.ensures.meant meant stands) told))
    (λ risen. subst (λ n. HasRisen n after) c.in-Ok.ensures.quiet risen)
    (λ safe outcome told. (c.tailoring_of.ensures.stays_sound safe, c.in-Ok.ensures.quiet))
