use Rattle.std.proofs.Common.{◌∙◌, ◌==◌, ℕ}
use Rattle.hk_base.specs.declared.types.SuperList.{SuperList}
use Rattle.st03_grammar.proofs.Repeats.{stood_in_parts}
use Rattle.st03_grammar.proofs.lists.is_arrayed.Goals as goal

pub returns : goal.returns
returns c = c.has_item.ensures ∙ stood_in_parts (λ (e : ℕ). e == c.args.id) (λ (a : SuperList). a.params) c.args.arrays.now
