-- What contracts see of an executor.
use Rattle.std.specs.Prelude.{ℕ, List, vec_len}
use Rattle.board_steps.specs.Cores.{Core}
use Rattle.sampler_threads.specs.Slots.{Ring}
use Rattle.sampler_threads.specs.declared.executor.Executor.{Executor}

-- the core of an executor
abbrev pub core_of : Executor → Core
core_of e = e.core

-- the executor's ends of the rings, by the numbers of the samplers
abbrev pub rings_of : Executor → List Ring
rings_of e = e.rings.items

-- how many samplers an executor has
abbrev pub count_of : Executor → ℕ
count_of e = vec_len e.rings
