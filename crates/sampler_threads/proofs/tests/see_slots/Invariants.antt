use Rattle.sampler_threads.specs.Executors.{rings_of}
use Rattle.sampler_threads.specs.Slots.{WithEach, IsSamplerOf}
use Rattle.sampler_threads.proofs.tests.see_slots.Given as goal

abbrev pub invariant-loop-slot : goal.invariant-loop-slot
invariant-loop-slot g l = WithEach IsSamplerOf (rings_of l.executor) l.samplers
