use Rattle.std.proofs.Common.{◌≡◌, ◌-◌, ℕ, List, length, drop, true}
use Rattle.sampler_threads.specs.Deeds.{Deed}
use Rattle.board_steps.specs.SlotRuns.{Ahead, IsIdle}
use Rattle.sampler_threads.specs.Slots.{Served}
use Rattle.sampler_threads.proofs.arms.serve.Given as goal

abbrev pub invariant-loop-packet : goal.invariant-loop-packet
invariant-loop-packet g l =
    (l.tailoring ≡ l.core.tailoring)
    × ((deeds : List Deed) × (ahead : Ahead) × Served l.uplinks l.initial.core l.initial.rings deeds ahead l.core l.rings
    × IsIdle ahead l.core × (ahead.packets ≡ drop l.packet-index l.uplinks))
