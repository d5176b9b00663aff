use Rattle.opening_sweeps.proofs.GatherLemmas.{requests-rise, requests-formed}
use Rattle.opening_sweeps.proofs.gathering.requests_rise.Goals as goal

pub returns : goal.returns
returns c = record { rising = requests-rise c.bounds_rise.ensures; formed = requests-formed c.changes_are_formed.ensures }
