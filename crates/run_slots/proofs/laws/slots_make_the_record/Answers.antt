use Rattle.run_slots.proofs.RecordLemmas.{record-more}
use Rattle.run_slots.proofs.laws.slots_make_the_record.Goals as goal

pub returns : goal.returns
returns c = record-more
