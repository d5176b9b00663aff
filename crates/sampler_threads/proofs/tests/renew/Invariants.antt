use Rattle.std.proofs.Common.{◌≡◌, ◌<◌, ℕ, length}
use Rattle.std.specs.List.{slice_index_or}
use Rattle.sampler_threads.specs.Executors.{core_of, rings_of}
use Rattle.sampler_threads.specs.Samples.{places_of}
use Rattle.sampler_threads.specs.Slots.{WithEach, IsSamplerOf, AreKnown}
use Rattle.sampler_threads.proofs.tests.renew.Given as goal

abbrev pub invariant-loop-k : goal.invariant-loop-k
invariant-loop-k l =
    (length l.samplers ≡ length l.initial.samplers)
    × WithEach IsSamplerOf (rings_of l.executor) l.samplers
    × ((j : ℕ) (s : _) → j < l.k → AreKnown (core_of l.executor).tailoring (slice_index_or l.samplers j s).orders × (length (slice_index_or l.samplers j s).orders < places_of (slice_index_or l.samplers j s).end))
