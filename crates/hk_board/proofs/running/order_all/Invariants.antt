use Rattle.std.proofs.Common.{◌≡◌, ◌<◌, ◌≤◌, ℕ, length}
use Rattle.std.specs.List.{slice_index_or}
use Rattle.sampler_threads.specs.Executors.{core_of, count_of}
use Rattle.sampler_threads.specs.Orders.{orders_for}
use Rattle.hk_board.proofs.running.order_all.Given as goal

abbrev pub invariant-loop-k : goal.invariant-loop-k
invariant-loop-k g l =
    (length l.samplers ≡ length l.initial.samplers)
    × ((j : ℕ) (s : _) → j < length l.initial.samplers → (slice_index_or l.samplers j s).end ≡ (slice_index_or l.initial.samplers j s).end)
    × ((j : ℕ) (s : _) → j < length l.initial.samplers → (slice_index_or l.samplers j s).sensor ≡ (slice_index_or l.initial.samplers j s).sensor)
    × ((j : ℕ) (s : _) → j < l.k → (slice_index_or l.samplers j s).orders ≡ orders_for (core_of l.executor).tailoring (count_of l.executor) j (core_of l.executor).slot_now)
