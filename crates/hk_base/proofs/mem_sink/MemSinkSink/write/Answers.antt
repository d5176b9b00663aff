use Rattle.std.proofs.Common.{◌∙◌, ℕ, List, ap, sym, arith}
use Rattle.hk_base.specs.Memory.{is_next_listed}
use Rattle.hk_base.proofs.RoomLemmas.{uses_listed, uses_none, uses_some}
use Rattle.hk_base.proofs.mem_sink.MemSinkSink.write.Goals as goal
use Rattle.hk_base.proofs.mem_sink.MemSinkSink.write.Goals.{then-is_next_listed-via-then-is_next_listed, then-is_next_listed-via-else-is_next_listed+then-self-eq0}

pub returns-then-is_next_listed-clause-room : goal.returns-then-is_next_listed-clause-room
returns-then-is_next_listed-clause-room c =
    rw (← c.self.view_is)
    (elim c.then-is_next_listed.branch [
      | then-is_next_listed-via-then-is_next_listed w ↦ uses_listed c.self.inside.failing c.self.inside.calls c.self.inside.room _ (ap (λ (failing : List ℕ). is_next_listed failing c.self.inside.calls) (sym c.as_slice.ensures) ∙ (sym c.is_next_listed.ensures.listed ∙ w.if-is_next_listed.true))
      | then-is_next_listed-via-else-is_next_listed+then-self-eq0 w ↦ uses_none c.self.inside.failing c.self.inside.calls c.is_next_listed.new.calls c.self.inside.room _ (omega arith) w.if-self-eq0.true
    ])

pub returns-in-Ok-clause-room : goal.returns-in-Ok-clause-room
returns-in-Ok-clause-room c =
    rw (← c.self.view_is) (uses_some c.self.inside.failing c.self.inside.calls c.is_next_listed.new.calls c.self.inside.room _ (omega arith) (omega arith))
