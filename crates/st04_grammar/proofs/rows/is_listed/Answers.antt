use Rattle.std.proofs.Common.{◌∙◌}
use Rattle.st04_grammar.proofs.ListLemmas.{listed}
use Rattle.st04_grammar.proofs.rows.is_listed.Goals as goal

pub returns : goal.returns
returns c = c.has_param.ensures ∙ listed c.args.param c.args.earlier.now
