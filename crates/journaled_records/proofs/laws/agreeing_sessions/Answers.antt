use Rattle.journaled_records.proofs.AgreeLemmas.{moments-agree, step-agrees, world-agrees, own-agrees}
use Rattle.journaled_records.proofs.laws.agreeing_sessions.Goals as goal

pub returns-clause-moments : goal.returns-clause-moments
returns-clause-moments c = moments-agree

pub returns-clause-step : goal.returns-clause-step
returns-clause-step c = step-agrees

pub returns-clause-world : goal.returns-clause-world
returns-clause-world c = world-agrees

pub returns-clause-own : goal.returns-clause-own
returns-clause-own c = own-agrees
