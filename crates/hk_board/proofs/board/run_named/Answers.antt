use Rattle.std.proofs.Common.{sym, subst, ◌∙◌}
use Rattle.hk_base.specs.Outside.{HasRisen}
use Rattle.program_edge.specs.Tailorings.{octets_of}
use Rattle.hk_board.specs.Inputs.{TellsUnder}
use Rattle.hk_board.specs.Runs.{status_of}
use Rattle.hk_board.proofs.OuterLemmas.{known_by, selected_told}
use Rattle.hk_board.proofs.board.run_named.Goals as goal

pub returns-in-Ok-clause-run : goal.returns-in-Ok-clause-run
returns-in-Ok-clause-run g c =
    let t = c.args.tailoring in
    let files = g.F.Shelf.files c.args.shelf.now in
    let name = c.args.name.now in
    let rest = g.F.Shelf.rest c.select.new.self in
    let after = g.F.Shelf.faults c.run_selected.new.shelf in
    known_by g.N.Sensor c.args.sensors.now.items c.run_selected.new.sensors.items (TellsUnder t (octets_of files name)) (TellsUnder t rest) (status_of c.run_selected.result) (g.F.Shelf.is_sound c.args.shelf.now)
    (g.F.Shelf.is_sound c.select.new.self) (g.F.Shelf.faults c.args.shelf.now) (g.F.Shelf.faults c.select.new.self) after (g.K.Sink.taken c.args.sink.now) (g.K.Sink.taken c.run_selected.new.sink)
    (g.K.Sink.room c.args.sink.now) (g.K.Sink.faults c.args.sink.now) (g.K.Sink.faults c.run_selected.new.sink) c.run_selected.ensures.run
    (λ outcome told. selected_told t files name rest outcome c.in-Ok.ensures.selected told)
    (λ risen. subst (λ n. HasRisen n after) c.in-Ok.ensures.count risen)
    (λ safe outcome told. (c.select.ensures.stays_sound safe, c.in-Ok.ensures.count))
