use Rattle.journaled_records.proofs.FrontLemmas.{own-front}
use Rattle.journaled_records.proofs.StepLemmas.{own-seen, own-next}
use Rattle.journaled_records.proofs.laws.own_worlds.Goals as goal

pub returns-clause-front : goal.returns-clause-front
returns-clause-front c = own-front

pub returns-clause-next : goal.returns-clause-next
returns-clause-next c = own-next

pub returns-clause-seen : goal.returns-clause-seen
returns-clause-seen c = own-seen
