use Rattle.std.proofs.Common.{sym, subst}
use Rattle.run_records.specs.Putting.{as_seen}
use Rattle.hk_board.specs.Inputs.{TellsUnder}
use Rattle.hk_board.proofs.OuterLemmas.{began, script_told, some_told, undone}
use Rattle.hk_board.proofs.board.run_selected.Goals as goal

pub returns-in-Ok-clause-run : goal.returns-in-Ok-clause-run
returns-in-Ok-clause-run g c =
    let t = c.args.tailoring in
    let s = c.in-Ok.script in
    let rest = g.F.Shelf.rest c.args.shelf.now in
    began g.N.Sensor t s c.args.sensors.now.items c.run_script.new.sensors.items c.run_script.result (as_seen g.K.Sink c.args.sink.now) (as_seen g.K.Sink c.run_script.new.sink) (TellsUnder t rest)
    (g.F.Shelf.is_sound c.args.shelf.now) (g.F.Shelf.faults c.args.shelf.now) (g.F.Shelf.faults c.read_script.new.shelf) c.run_script.ensures
    (λ room slots moments ahead core event later below begun comes. c.runs_are_bounded.ensures.unstopped t s slots moments ahead core event later c.widths-fit.ensures.fit c.in-Ok.ensures.is room below begun comes)
    (λ outcome told. script_told t s rest outcome c.in-Ok.ensures.script told)
    (λ safe outcome told. c.read_script.ensures.sound safe (some_told t rest outcome told))

pub returns-in-Ok-clause-done : goal.returns-in-Ok-clause-done
returns-in-Ok-clause-done g c =
    undone g.N.Sensor c.args.tailoring c.in-Ok.script c.args.sensors.now.items c.run_script.new.sensors.items c.run_script.result (as_seen g.K.Sink c.args.sink.now) (as_seen g.K.Sink c.run_script.new.sink)
    c.run_script.ensures
