use Rattle.std.proofs.Common.{sym, ◌∙◌}
use Rattle.definition_intervals.proofs.FindLemmas.{same-from_among}
use Rattle.definition_intervals.proofs.finds.are_same_states.Goals as goal

pub returns-then-are_among : goal.returns-then-are_among
returns-then-are_among c = λ e. same-from_among c.args.a.now c.args.b.now (sym c.are_among.ensures ∙ c.if-are_among.true) (sym c.are_among-then-are_among.ensures ∙ e)
