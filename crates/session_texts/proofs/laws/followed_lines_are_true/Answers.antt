use Rattle.session_texts.proofs.FollowLemmas.{follow_true, follow_so_far, follow_reasons}
use Rattle.session_texts.proofs.laws.followed_lines_are_true.Goals as goal

pub returns-clause-whole : goal.returns-clause-whole
returns-clause-whole c = follow_true

pub returns-clause-so_far : goal.returns-clause-so_far
returns-clause-so_far c = follow_so_far

pub returns-clause-reasons : goal.returns-clause-reasons
returns-clause-reasons c = follow_reasons
