use Rattle.opening_sweeps.proofs.GatherLemmas.{starts-rise, starts-formed}
use Rattle.opening_sweeps.proofs.gathering.starts_rise.Goals as goal

pub returns : goal.returns
returns c = record { rising = λ g key grounded. starts-rise key g.history.kept grounded.tags; formed = starts-formed c.reported_states_are_formed.ensures }
