use Rattle.std.proofs.Common.{◌∙◌, ◌==◌, ℕ}
use Rattle.st03_grammar.specs.declared.bodies.Pair.{Pair}
use Rattle.st03_grammar.proofs.Repeats.{stood_by_key}
use Rattle.st03_grammar.proofs.fields.is_paired.Goals as goal

pub returns : goal.returns
returns c = c.has_pair.ensures ∙ stood_by_key (λ (e : ℕ). e == c.args.id) (λ (p : Pair). p.id) c.args.earlier.now
