use Rattle.ground_history.proofs.RisingLemmas.{bounds-rise}
use Rattle.ground_history.proofs.laws.bounds_rise.Goals as goal

pub returns : goal.returns
returns c = bounds-rise
