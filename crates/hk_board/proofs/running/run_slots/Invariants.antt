use Rattle.sampler_threads.specs.Executors.{core_of, rings_of}
use Rattle.run_records.specs.Putting.{as_seen}
use Rattle.sampled_slots.specs.Seats.{sensors_of}
use Rattle.hk_board.proofs.LoopLemmas.{HasCome}
use Rattle.hk_board.proofs.running.run_slots.Given as goal

abbrev pub invariant-loop-slot : goal.invariant-loop-slot
invariant-loop-slot g l =
    HasCome g.N.Sensor (core_of l.fn.executor).tailoring l.script (sensors_of l.fn.samplers) (as_seen g.K.Sink l.fn.sink) l.slot (core_of l.executor) (rings_of l.executor) l.samplers l.progress.next l.progress.shown
    l.progress.link (as_seen g.K.Sink l.sink)
