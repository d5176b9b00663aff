use Rattle.std.proofs.Common.{◌∙◌, ◌==◌, ℕ}
use Rattle.st03_grammar.specs.declared.bodies.PeriodicRow.{PeriodicRow}
use Rattle.st03_grammar.proofs.Repeats.{stood_by_key}
use Rattle.st03_grammar.proofs.fields.is_in_rows.Goals as goal

pub returns : goal.returns
returns c = c.has_row.ensures ∙ stood_by_key (λ (e : ℕ). e == c.args.id) (λ (r : PeriodicRow). r.id) c.args.earlier.now
