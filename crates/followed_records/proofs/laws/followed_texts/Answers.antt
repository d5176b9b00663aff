use Rattle.followed_records.proofs.LawLemmas.{problem_is, whole_is, part_is}
use Rattle.followed_records.proofs.laws.followed_texts.Goals as goal

pub returns-clause-problem : goal.returns-clause-problem
returns-clause-problem c = problem_is

pub returns-clause-whole : goal.returns-clause-whole
returns-clause-whole c = whole_is

pub returns-clause-part : goal.returns-clause-part
returns-clause-part c = part_is
