use Rattle.std.proofs.Common.{sym, subst}
use Rattle.sampler_threads.specs.Executors.{core_of, count_of, rings_of}
use Rattle.sampler_threads.specs.Samplings.{HavePlaces}
use Rattle.run_records.specs.Putting.{as_seen}
use Rattle.hk_board.proofs.OuterLemmas.{nothing_begun}
use Rattle.hk_board.proofs.board.run_executor.Goals as goal

pub returns-in-Err : goal.returns-in-Err
returns-in-Err g c = nothing_begun g.N.Sensor (core_of c.args.executor.now).tailoring c.args.script.now c.args.sensors.now.items (λ xs ms. c.slots_make_the_record.ensures (core_of c.args.executor.now).tailoring c.args.script.now xs ms) (as_seen g.K.Sink c.args.sink.now)

pub run_seated-requires-clause-ends : goal.run_seated-requires-clause-ends
run_seated-requires-clause-ends g c κs outlives = (c.in-Ok.ensures.ready (rings_of c.args.executor.now) c.requires.ends).0

pub run_seated-requires-clause-settled : goal.run_seated-requires-clause-settled
run_seated-requires-clause-settled g c κs outlives = (c.in-Ok.ensures.ready (rings_of c.args.executor.now) c.requires.ends).1

pub run_seated-requires-clause-places : goal.run_seated-requires-clause-places
run_seated-requires-clause-places g c κs outlives =
    subst (HavePlaces (core_of c.args.executor.now).tailoring (count_of c.args.executor.now)) (sym c.in-Ok.ensures.ends) c.requires.places
