use Rattle.std.proofs.Common.{refl}
use Rattle.board_steps.specs.SlotRuns.{at_start, at_end}
use Rattle.sampled_slots.proofs.UnfiledLemmas.{run-unfiled, run-stands, run-slot, leads-grow}
use Rattle.sampled_slots.proofs.laws.slots_begin_unfiled.Goals as goal

pub returns-clause-first : goal.returns-clause-first
returns-clause-first c t param e = refl

pub returns-clause-run : goal.returns-clause-run
returns-clause-run c = run-unfiled c.boards.ensures.goes_on c.steps.ensures.unfiled c.boards.ensures.begins

pub returns-clause-tailoring : goal.returns-clause-tailoring
returns-clause-tailoring c t s slots core fit ran = (run-stands c.boards.ensures.goes_on c.boards.ensures.begins t s slots core fit ran).1

pub returns-clause-slot : goal.returns-clause-slot
returns-clause-slot c = run-slot c.slots.ensures.next

pub returns-clause-grows : goal.returns-clause-grows
returns-clause-grows c uplinks before after h = leads-grow c.steps.ensures.adds (at_start uplinks) at_end before after h.0 h.1

pub returns-clause-grows_part : goal.returns-clause-grows_part
returns-clause-grows_part c uplinks before ahead after h = leads-grow c.steps.ensures.adds (at_start uplinks) ahead before after h.0 h.1
