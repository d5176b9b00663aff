use Rattle.sampler_threads.specs.Executors.{rings_of}
use Rattle.sampler_threads.specs.Slots.{WithEach, IsEndOf}
use Rattle.sampler_threads.proofs.tests.take_three.Given as goal

abbrev pub invariant-loop-param : goal.invariant-loop-param
invariant-loop-param l = WithEach IsEndOf (rings_of l.executor) l.ends
