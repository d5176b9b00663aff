use Rattle.std.proofs.Common.{◌≡◌, ◌≤◌, length}
use Rattle.sampler_threads.proofs.RunLemmas.{took_tailoring, took_moments}
use Rattle.sampler_threads.proofs.rings.drain_rings.Goals as goal

pub returns-clause-tailoring : goal.returns-clause-tailoring
returns-clause-tailoring c = let d = c.drain_all.ensures.taken in took_tailoring c.args.core.now c.drain_all.new.core d.0 d.1

pub returns-clause-grown : goal.returns-clause-grown
returns-clause-grown c = let d = c.drain_all.ensures.taken in took_moments c.args.core.now c.drain_all.new.core d.0 d.1
