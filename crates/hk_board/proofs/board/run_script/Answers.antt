use Rattle.run_records.specs.Putting.{as_seen}
use Rattle.hk_board.proofs.OuterLemmas.{nothing_begun}
use Rattle.hk_board.proofs.board.run_script.Goals as goal

pub returns-in-Err : goal.returns-in-Err
returns-in-Err g c = nothing_begun g.N.Sensor c.args.tailoring c.args.script.now c.args.sensors.now.items (λ xs ms. c.slots_make_the_record.ensures c.args.tailoring c.args.script.now xs ms) (as_seen g.K.Sink c.args.sink.now)
