use Rattle.std.proofs.Common.{List, Option, IfSome, sym, subst}
use Rattle.std.specs.List.{All}
use Rattle.hk_base.specs.declared.types.Structure.{Structure}
use Rattle.report_structures.specs.Changes.{IsFormedState}
use Rattle.definition_intervals.specs.Founds.{IsFormedFound}
use Rattle.opening_sweeps.specs.declared.group.Group.{Group}
use Rattle.opening_sweeps.proofs.sweep.basis.Goals as goal

pub returns-in-Some-clause-formed : goal.returns-in-Some-clause-formed
returns-in-Some-clause-formed c =
    λ t all.
    subst (λ (o : Option (List (Option Structure))). IfSome o (All (IsFormedState t))) c.in-Some.is
    (c.in_ok-states.ensures.formed t (subst (λ (gs : List Group). All (λ (g : Group). IsFormedFound t g.found) gs) (sym c.deref.ensures.value) all))
