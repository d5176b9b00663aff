use Rattle.sampler_threads.specs.Executors.{rings_of}
use Rattle.sampler_threads.specs.Slots.{WithEach, IsEndOf}
use Rattle.sampler_threads.proofs.tests.fill.Given as goal

abbrev pub invariant-loop-sent : goal.invariant-loop-sent
invariant-loop-sent l = WithEach IsEndOf (rings_of l.executor) l.ends
