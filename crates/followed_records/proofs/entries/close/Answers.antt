use Rattle.std.proofs.Common.{sym, subst}
use Rattle.followed_records.specs.Faults.{ByFollowing}
use Rattle.followed_records.specs.declared.fault.FollowingFault.{FollowingFault}
use Rattle.followed_records.proofs.CauseLemmas.{of_writing}
use Rattle.followed_records.proofs.entries.close.Goals as goal

pub returns-in-Err-clause-causes : goal.returns-in-Err-clause-causes
returns-in-Err-clause-causes g c = subst (λ (f : FollowingFault). ByFollowing f) (sym c.into.ensures) (of_writing c.in-Err.fault)
