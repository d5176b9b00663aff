use Rattle.hk_base.specs.Payload.{places}
use Rattle.block_lines.proofs.ValueLemmas.{AreLinesSoFar}
use Rattle.block_lines.proofs.values.write_values.Given as goal

abbrev pub invariant-loop-number : goal.invariant-loop-number
invariant-loop-number l = AreLinesSoFar (places l.def l.last) l.values l.fn.out.items l.number l.out.items
