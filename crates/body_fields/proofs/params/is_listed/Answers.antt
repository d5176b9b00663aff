use Rattle.std.proofs.Common.{◌∙◌, ◌==◌, ℕ}
use Rattle.body_fields.proofs.ListReading.{list_any-reverse}
use Rattle.body_fields.proofs.params.is_listed.Goals as goal

pub returns : goal.returns
returns c = c.contains.ensures.value ∙ list_any-reverse (λ (e : ℕ). e == c.args.id) c.args.earlier.now
