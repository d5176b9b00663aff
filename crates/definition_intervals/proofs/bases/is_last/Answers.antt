use Rattle.std.proofs.Common.{◌∙◌, Bor, Option, Some, sym, ap}
use Rattle.std.specs.Option.{option_copied}
use Rattle.definition_intervals.specs.declared.answer.Basis.{Basis}
use Rattle.definition_intervals.proofs.EqualityLemmas.{basis_eq-Decides}
use Rattle.definition_intervals.proofs.bases.is_last.Goals as goal

pub returns-in-Some : goal.returns-in-Some
returns-in-Some c =
    λ e. sym c.last.ensures.value
    ∙ (ap (λ (o : Option (Bor Basis)). option_copied o) c.in-Some.is
    ∙ ap Some ((basis_eq-Decides c.in-Some.last.now c.args.basis.now).0 (sym c.is_same_basis.ensures ∙ e)))
