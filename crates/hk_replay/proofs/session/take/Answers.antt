use Rattle.std.proofs.Common.{sym, subst}
use Rattle.hk_replay.specs.Faults.{IsPlain}
use Rattle.hk_replay.proofs.StatusLemmas.{plain_entry}
use Rattle.hk_replay.proofs.session.take.Goals as goal

pub returns-in-Err-clause-plain : goal.returns-in-Err-clause-plain
returns-in-Err-clause-plain c = subst IsPlain (sym c.of_entry.ensures) (plain_entry c.in-Err.fault c.args.offset)
