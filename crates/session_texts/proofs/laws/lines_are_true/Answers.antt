use Rattle.session_texts.proofs.LineLemmas.{text_lines, followed_lines, so_far_lines}
use Rattle.session_texts.proofs.laws.lines_are_true.Goals as goal

pub returns-clause-text : goal.returns-clause-text
returns-clause-text c = text_lines

pub returns-clause-following : goal.returns-clause-following
returns-clause-following c = followed_lines

pub returns-clause-so_far : goal.returns-clause-so_far
returns-clause-so_far c = so_far_lines
